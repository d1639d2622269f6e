-- Moves in a stack, by places.
use Rattle.std.proofs.Common.{◌≡◌, ℕ, ◌+◌, ◌<◌, ◌≤◌, zero, suc, Bool, true, false, not, nat_lt, nat_le, cond, Option, None, Some, ◌||◌, ◌==◌, List, [], ◌∷◌, ◌++◌, length, take, drop, get_or, refl, sym, ap, ◌∙◌, subst, arith}
use Rattle.std.specs.Prelude.{◌≢◌, is_none, is_some, All, AllPairs}
use mathlib.Core.Path.{fun_ext}
use Rattle.std.specs.List.{filter, find, list_any, insert, remove, position, position_from, range_with_len}
use Rattle.std.proofs.lemmas.Bool.{false≢true, ne_eqb, not-true, not-false}
use Rattle.std.proofs.lemmas.List.Elements.{All-weaker, All-filter, filter_agree, filter_passes, filter-append}
use Rattle.std.proofs.lemmas.List.Quantifiers.{position-Some}
use Rattle.std.proofs.lemmas.List.Edits.{length-remove}
use Rattle.std.proofs.lemmas.Iterator.Adapters.{position_from-zero}
use Rattle.std.proofs.lemmas.List.{map-append, take-map, drop-map, length-map, get_or-map}
use Rattle.std.proofs.lemmas.List.Filters.{length-filter_both}
use Rattle.std.proofs.Math.Seq.{take-append_seam, drop-append_seam}
use Rattle.qws_base.specs.Windows.{has_slot, is_live}
use Rattle.qws_base.specs.Stacking.{slots, free_slot, new_window, is_above, is_below, with_front, with_back, windows_without}
use Rattle.qws_base.specs.Arranged.{IsWindow}
use Rattle.qws_base.specs.declared.windows.WindowView.{WindowView}
use Rattle.window_stack.specs.declared.stacked.StackedWindow.{StackedWindow}
use Rattle.window_stack.specs.Kept.{view_of, views_of, CanStand}
use Rattle.window_stack.specs.Stacks.{IsStack}
use Rattle.window_stack.specs.Stops.{create_stop}
use Rattle.window_stack.specs.declared.stops.StackStop.TheVariants.{BadLayer, Full}
use Rattle.qws_base.proofs.ListLemmas.{pairs_head, pairs_tail, none_passes, all_pass, none_of_any, found, found_member}
use Rattle.qws_base.proofs.Booleans.{not_twice}
use Rattle.qws_base.proofs.SlotCount.{at_most_32, none_free_at}
use Rattle.qws_base.proofs.ArrangedLemmas.{Differ, NotBelow, AreListed, slot_is, slot_differs, no_other, not_above_is, below_is, put_listed, front_tests, back_tests, without_listed}

-- ---- the window at a place leaves

other_slot : (slot : ℕ) (v : WindowView) → v.slot ≢ slot → has_slot slot v ≡ false
other_slot slot v ne = ne_eqb v.slot slot ne

others_pass : (slot : ℕ) (v : WindowView) (vs : List WindowView) → has_slot slot v ≡ true → All (Differ v) vs → All (λ w. not (has_slot slot w) ≡ true) vs
others_pass slot v vs is rest = All-weaker (Differ v) (λ w. not (has_slot slot w) ≡ true) (λ w d. ap not (other_slot slot w (λ e. d (slot_is slot v is ∙ sym e)))) vs rest

without_at : (slot : ℕ) (vs : List WindowView) (k : ℕ) (d : WindowView) → k < length vs → has_slot slot (get_or vs k d) ≡ true → AllPairs Differ vs → remove vs k ≡ windows_without slot vs
without_at slot [] k d low is once = absurd (omega arith)
without_at slot (v ∷ vs) zero d low is once =
    sym (ap (λ b. cond (not b) (v ∷ windows_without slot vs) (windows_without slot vs)) is
    ∙ all_pass (λ w. not (has_slot slot w)) vs (others_pass slot v vs is (pairs_head Differ v vs once)))
without_at slot (v ∷ vs) (suc k) d low is once =
    ap (λ ws. v ∷ ws) (without_at slot vs k d (omega arith) is (pairs_tail Differ v vs once))
    ∙ sym (ap (λ b. cond (not b) (v ∷ windows_without slot vs) (windows_without slot vs))
    (other_slot slot v (λ e. pairs_head Differ v vs once k d (omega arith) (e ∙ sym (slot_is slot (get_or vs k d) is)))))

found_at : (slot : ℕ) (vs : List WindowView) (k : ℕ) (d : WindowView) → k < length vs → has_slot slot (get_or vs k d) ≡ true → AllPairs Differ vs → find (has_slot slot) vs ≡ Some (get_or vs k d)
found_at slot [] k d low is once = absurd (omega arith)
found_at slot (v ∷ vs) zero d low is once = ap (λ b. cond b (Some v) (find (has_slot slot) vs)) is
found_at slot (v ∷ vs) (suc k) d low is once =
    ap (λ b. cond b (Some v) (find (has_slot slot) vs)) (other_slot slot v (λ e. pairs_head Differ v vs once k d (omega arith) (e ∙ sym (slot_is slot (get_or vs k d) is))))
    ∙ found_at slot vs k d (omega arith) is (pairs_tail Differ v vs once)

-- ---- a list that a test parts in two

joined_by : (p q : WindowView → Bool) (v : WindowView) (vs : List WindowView) (b : Bool) → p v ≡ b → q v ≡ not b → (b ≡ false → filter p vs ≡ []) → filter p vs ++ filter q vs ≡ vs
    → cond b (v ∷ filter p vs) (filter p vs) ++ cond (q v) (v ∷ filter q vs) (filter q vs) ≡ v ∷ vs
joined_by p q v vs true is other none rest = ap (λ c. (v ∷ filter p vs) ++ cond c (v ∷ filter q vs) (filter q vs)) other ∙ ap (λ ws. v ∷ ws) rest
joined_by p q v vs false is other none rest =
    ap (λ c. filter p vs ++ cond c (v ∷ filter q vs) (filter q vs)) other
    ∙ ap (λ ws. ws ++ v ∷ filter q vs) (none refl)
    ∙ ap (λ ws. v ∷ ws) (ap (λ ws. ws ++ filter q vs) (sym (none refl)) ∙ rest)

-- once an element doesn't pass, none after it does: those that pass stand first
joined : (p q : WindowView → Bool) → ((w : WindowView) → q w ≡ not (p w)) → (vs : List WindowView) → AllPairs (λ v w. p v ≡ false → p w ≡ false) vs → filter p vs ++ filter q vs ≡ vs
joined p q other [] h = refl
joined p q other (v ∷ vs) h =
    joined_by p q v vs (p v) refl (other v)
    (λ e. none_passes p vs (All-weaker (λ w. p v ≡ false → p w ≡ false) (λ w. p w ≡ false) (λ w f. f e) vs (pairs_head (λ x w. p x ≡ false → p w ≡ false) v vs h)))
    (joined p q other vs (pairs_tail (λ x w. p x ≡ false → p w ≡ false) v vs h))

-- so a window at the place where they end stands between the two parts
put_between : (p q : WindowView → Bool) → ((w : WindowView) → q w ≡ not (p w)) → (vs : List WindowView) (new : WindowView) (k : ℕ) → k ≡ length (filter p vs) → AllPairs (λ v w. p v ≡ false → p w ≡ false) vs → insert vs k new ≡ filter p vs ++ new ∷ filter q vs
put_between p q other vs new k e h =
    ap (λ n. insert vs n new) e
    ∙ ap (λ ws. take (length (filter p vs)) ws ++ new ∷ drop (length (filter p vs)) ws) (sym (joined p q other vs h))
    ∙ ap (λ ws. ws ++ new ∷ drop (length (filter p vs)) (filter p vs ++ filter q vs)) (take-append_seam (filter p vs) (filter q vs))
    ∙ ap (λ ws. filter p vs ++ new ∷ ws) (drop-append_seam (filter p vs) (filter q vs))

above_after : (layer : ℕ) (v w : WindowView) → w.layer ≤ v.layer → is_above layer v ≡ false → is_above layer w ≡ false
above_after layer v w l h = let k = not_above_is layer v h in low layer w (omega (arith, k))
  where
    low : (n : ℕ) (u : WindowView) → u.layer ≤ n → is_above n u ≡ false
    low n u m = grind arith

below_after : (layer : ℕ) (v w : WindowView) → w.layer ≤ v.layer → not (is_below layer v) ≡ false → not (is_below layer w) ≡ false
below_after layer v w l h = let k = below_is layer v (not-false (is_below layer v) h) in ap not (low layer w (omega (arith, k)))
  where
    low : (n : ℕ) (u : WindowView) → u.layer < n → is_below n u ≡ true
    low n u m = grind arith

pairs_weaker : (R S : WindowView → WindowView → Type 0) → ((v w : WindowView) → R v w → S v w) → (vs : List WindowView) → AllPairs R vs → AllPairs S vs
pairs_weaker R S f vs h = λ i j d l m. f (get_or vs i d) (get_or vs j d) (h i j d l m)

front_order : (vs : List WindowView) (new : WindowView) → AllPairs NotBelow vs → AllPairs (λ v w. is_above new.layer v ≡ false → is_above new.layer w ≡ false) vs
front_order vs new h = pairs_weaker NotBelow (λ v w. is_above new.layer v ≡ false → is_above new.layer w ≡ false) (above_after new.layer) vs h

back_order : (vs : List WindowView) (new : WindowView) → AllPairs NotBelow vs → AllPairs (λ v w. not (is_below new.layer v) ≡ false → not (is_below new.layer w) ≡ false) vs
back_order vs new h = pairs_weaker NotBelow (λ v w. not (is_below new.layer v) ≡ false → not (is_below new.layer w) ≡ false) (below_after new.layer) vs h

put_front_is : (vs : List WindowView) (new : WindowView) (k : ℕ) → k ≡ length (filter (is_above new.layer) vs) → AllPairs NotBelow vs → insert vs k new ≡ with_front new vs
put_front_is vs new k e h = put_between (is_above new.layer) (λ w. not (is_above new.layer w)) (λ w. refl) vs new k e (front_order vs new h)

put_back_is : (vs : List WindowView) (new : WindowView) (k : ℕ) → k ≡ length (filter (λ w. not (is_below new.layer w)) vs) → AllPairs NotBelow vs → insert vs k new ≡ with_back new vs
put_back_is vs new k e h = put_between (λ w. not (is_below new.layer w)) (is_below new.layer) (λ w. sym (not_twice (is_below new.layer w))) vs new k e (back_order vs new h)

-- ---- what the stack keeps of each window, and how contracts see it

count_views : (p : WindowView → Bool) (ws : List StackedWindow) → length (filter (λ w. p (view_of w)) ws) ≡ length (filter p (views_of ws))
count_views p [] = refl
count_views p (w ∷ ws) = by (p (view_of w)) (count_views p ws)
  where
    by : (b : Bool) → length (filter (λ x. p (view_of x)) ws) ≡ length (filter p (views_of ws))
        → length (cond b (w ∷ filter (λ x. p (view_of x)) ws) (filter (λ x. p (view_of x)) ws)) ≡ length (cond b (view_of w ∷ filter p (views_of ws)) (filter p (views_of ws)))
    by true e = ap suc e
    by false e = e

views_insert : (ws : List StackedWindow) (k : ℕ) (w : StackedWindow) → views_of (insert ws k w) ≡ insert (views_of ws) k (view_of w)
views_insert ws k w =
    map-append view_of (take k ws) (w ∷ drop k ws)
    ∙ ap (λ vs. vs ++ view_of w ∷ views_of (drop k ws)) (sym (take-map view_of k ws))
    ∙ ap (λ vs. take k (views_of ws) ++ view_of w ∷ vs) (sym (drop-map view_of k ws))

views_remove : (ws : List StackedWindow) (k : ℕ) → views_of (remove ws k) ≡ remove (views_of ws) k
views_remove ws k =
    map-append view_of (take k ws) (drop (suc k) ws)
    ∙ ap (λ vs. vs ++ views_of (drop (suc k) ws)) (sym (take-map view_of k ws))
    ∙ ap (λ vs. take k (views_of ws) ++ vs) (sym (drop-map view_of (suc k) ws))

pub front_views : (ws : List StackedWindow) (k : ℕ) (w : StackedWindow) → k ≡ length (filter (λ x. nat_lt w.layer x.layer) ws) → IsStack (views_of ws) → views_of (insert ws k w) ≡ with_front (view_of w) (views_of ws)
front_views ws k w e s = views_insert ws k w ∙ put_front_is (views_of ws) (view_of w) k (e ∙ count_views (is_above w.layer) ws) s.layered

pub back_views : (ws : List StackedWindow) (k : ℕ) (w : StackedWindow) → k ≡ length (filter (λ x. nat_le w.layer x.layer) ws) → IsStack (views_of ws) → views_of (insert ws k w) ≡ with_back (view_of w) (views_of ws)
back_views ws k w e s =
    views_insert ws k w ∙ put_back_is (views_of ws) (view_of w) k (e ∙ same ws ∙ count_views (λ v. not (is_below w.layer v)) ws) s.layered
  where
    at : (x : StackedWindow) → nat_le w.layer x.layer ≡ not (nat_lt x.layer w.layer)
    at x = grind arith

    same : (xs : List StackedWindow) → length (filter (λ x. nat_le w.layer x.layer) xs) ≡ length (filter (λ x. not (nat_lt x.layer w.layer)) xs)
    same xs = ap length (filter_agree (λ x. nat_le w.layer x.layer) (λ x. not (nat_lt x.layer w.layer)) at xs)

-- ---- the stack stays one

listed_stack : (vs : List WindowView) → AreListed vs → IsStack vs
listed_stack vs l = record { each = l.each; once = l.once; layered = l.layered }

stack_listed : (vs : List WindowView) → IsStack vs → AreListed vs
stack_listed vs s = record { each = s.each; once = s.once; layered = s.layered }

pub stack_front : (vs : List WindowView) (new : WindowView) → IsWindow new → All (λ w. w.slot ≢ new.slot) vs → IsStack vs → IsStack (with_front new vs)
stack_front vs new fits others s = listed_stack (with_front new vs) (put_listed (is_above new.layer) (λ w. not (is_above new.layer w)) new vs (front_tests new.layer) fits others (stack_listed vs s))

pub stack_back : (vs : List WindowView) (new : WindowView) → IsWindow new → All (λ w. w.slot ≢ new.slot) vs → IsStack vs → IsStack (with_back new vs)
stack_back vs new fits others s = listed_stack (with_back new vs) (put_listed (λ w. not (is_below new.layer w)) (is_below new.layer) new vs (back_tests new.layer) fits others (stack_listed vs s))

pub stack_without : (slot : ℕ) (vs : List WindowView) → IsStack vs → IsStack (windows_without slot vs)
stack_without slot vs s = listed_stack (windows_without slot vs) (without_listed slot vs (stack_listed vs s))

pub few_pass : (p : StackedWindow → Bool) (ws : List StackedWindow) → length (filter p ws) ≤ length ws
few_pass p ws = omega (arith, length-filter_both p (λ w. not (p w)) (λ w. refl) ws)

-- ---- a window that is found, or isn't

no_place : (p : StackedWindow → Bool) (ws : List StackedWindow) (i : ℕ) → position_from p i ws ≡ None → list_any p ws ≡ false
no_place p [] i e = refl
no_place p (w ∷ ws) i e = by (p w) e (no_place p ws (i + 1))
  where
    by : (b : Bool) → cond b (Some i) (position_from p (i + 1) ws) ≡ None → (position_from p (i + 1) ws ≡ None → list_any p ws ≡ false) → (b || list_any p ws) ≡ false
    by true f later = cc
    by false f later = later f

any_view : (p : WindowView → Bool) (ws : List StackedWindow) → list_any (λ w. p (view_of w)) ws ≡ list_any p (views_of ws)
any_view p [] = refl
any_view p (w ∷ ws) = ap (λ b. p (view_of w) || b) (any_view p ws)

pub not_there : (slot : ℕ) (ws : List StackedWindow) → position (λ w. w.slot == slot) ws ≡ None → is_live (views_of ws) slot ≡ false
not_there slot ws e = sym (any_view (has_slot slot) ws) ∙ no_place (λ w. w.slot == slot) ws 0 (sym (position_from-zero (λ w. w.slot == slot) ws) ∙ e)

pub find_live : (p : WindowView → Bool) (vs : List WindowView) → is_some (find p vs) ≡ list_any p vs
find_live p [] = refl
find_live p (v ∷ vs) = by (p v) (find_live p vs)
  where
    by : (b : Bool) → is_some (find p vs) ≡ list_any p vs → is_some (cond b (Some v) (find p vs)) ≡ (b || list_any p vs)
    by true e = refl
    by false e = e

pub not_found : (p : WindowView → Bool) (vs : List WindowView) → list_any p vs ≡ false → find p vs ≡ None
not_found p vs e = by (find p vs) (find_live p vs ∙ e)
  where
    by : (o : Option WindowView) → is_some o ≡ false → o ≡ None
    by None f = refl
    by (Some v) f = absurd (false≢true (sym f))

-- where no window has the slot, there is none to leave out
pub without_none : (slot : ℕ) (vs : List WindowView) → is_live vs slot ≡ false → windows_without slot vs ≡ vs
without_none slot vs e = all_pass (λ w. not (has_slot slot w)) vs (All-weaker (λ w. has_slot slot w ≡ false) (λ w. not (has_slot slot w) ≡ true) (λ w f. ap not f) vs (none_of_any (has_slot slot) vs e))

pub no_other_live : (slot : ℕ) (vs : List WindowView) → is_live vs slot ≡ false → All (λ w. w.slot ≢ slot) vs
no_other_live slot vs e = All-weaker (λ w. has_slot slot w ≡ false) (λ w. w.slot ≢ slot) (λ w f. slot_differs slot w f) vs (none_of_any (has_slot slot) vs e)

-- the window of the slot, at its place
pub record IsTaken (slot : ℕ) (ws : List StackedWindow) (k : ℕ) (w : StackedWindow) : Type 0 where
  pub low : k < length ws
  pub left : views_of (remove ws k) ≡ windows_without slot (views_of ws)
  pub same : w.slot ≡ slot
  pub found : find (has_slot slot) (views_of ws) ≡ Some (view_of w)
  pub stands : CanStand (view_of w) (views_of (remove ws k))

pub low_place : (slot : ℕ) (ws : List StackedWindow) (k : ℕ) → position (λ w. w.slot == slot) ws ≡ Some k → k < length ws
low_place slot ws k e = (position-Some (λ w. w.slot == slot) ws k (record { slot = 0; owner = 0; layer = 0 }) e).0

pub taken : (slot : ℕ) (ws : List StackedWindow) (k : ℕ) (w : StackedWindow) → position (λ x. x.slot == slot) ws ≡ Some k → w ≡ get_or ws k w → IsStack (views_of ws) → IsTaken slot ws k w
taken slot ws k w e at s =
    let it = position-Some (λ x. x.slot == slot) ws k w e in
    let is : has_slot slot (view_of w) ≡ true = ap (λ x. x.slot == slot) at ∙ it.1 in
    let there : get_or (views_of ws) k (view_of w) ≡ view_of w = get_or-map view_of ws k w (view_of w) it.0 ∙ sym (ap view_of at) in
    let low : k < length (views_of ws) = omega (arith, it.0, length-map ws view_of) in
    let has : has_slot slot (get_or (views_of ws) k (view_of w)) ≡ true = ap (has_slot slot) there ∙ is in
    let found = found_at slot (views_of ws) k (view_of w) low has s.once ∙ ap Some there in
    let left = views_remove ws k ∙ without_at slot (views_of ws) k (view_of w) low has s.once in
    let same : w.slot ≡ slot = slot_is slot (view_of w) is in
    let fits = (found_member IsWindow (has_slot slot) (views_of ws) (view_of w) s.each found).0 in
    let most = at_most_32 (views_of ws) (All-weaker IsWindow (λ v. v.slot < 32) (λ v f. f.slot) (views_of ws) s.each) s.once in
    record {
      low = it.0;
      left = left;
      same = same;
      found = found;
      stands = record {
        window = fits;
        free = subst (All (λ v. v.slot ≢ w.slot)) (sym left) (no_other slot (view_of w) (views_of ws) same);
        room = omega (arith, most, it.0, length-map ws view_of, length-map (remove ws k) view_of, length-remove ws k it.0);
      };
    }

-- ---- the others, where one is put in

others_stay : (p q : WindowView → Bool) → ((w : WindowView) → q w ≡ not (p w)) → (vs : List WindowView) (new : WindowView) → AllPairs (λ v w. p v ≡ false → p w ≡ false) vs → All (λ w. w.slot ≢ new.slot) vs → windows_without new.slot (filter p vs ++ new ∷ filter q vs) ≡ vs
others_stay p q other vs new h free =
    let keep : WindowView → Bool = λ w. not (has_slot new.slot w) in
    let kept = All-weaker (λ w. w.slot ≢ new.slot) (λ w. keep w ≡ true) (λ w ne. ap not (other_slot new.slot w ne)) vs free in
    filter-append keep (filter p vs) (new ∷ filter q vs)
    ∙ ap (λ ws. ws ++ filter keep (new ∷ filter q vs)) (all_pass keep (filter p vs) (All-filter p (λ w. keep w ≡ true) vs kept))
    ∙ ap (λ b. filter p vs ++ cond (not b) (new ∷ filter keep (filter q vs)) (filter keep (filter q vs))) (itself new.slot)
    ∙ ap (λ ws. filter p vs ++ ws) (all_pass keep (filter q vs) (All-filter q (λ w. keep w ≡ true) vs kept))
    ∙ joined p q other vs h
  where
    itself : (n : ℕ) → (n == n) ≡ true
    itself n = grind arith

pub others_front : (vs : List WindowView) (new : WindowView) → IsStack vs → All (λ w. w.slot ≢ new.slot) vs → windows_without new.slot (with_front new vs) ≡ vs
others_front vs new s free = others_stay (is_above new.layer) (λ w. not (is_above new.layer w)) (λ w. refl) vs new (front_order vs new s.layered) free

pub others_back : (vs : List WindowView) (new : WindowView) → IsStack vs → All (λ w. w.slot ≢ new.slot) vs → windows_without new.slot (with_back new vs) ≡ vs
others_back vs new s free = others_stay (λ w. not (is_below new.layer w)) (is_below new.layer) (λ w. sym (not_twice (is_below new.layer w))) vs new (back_order vs new s.layered) free

-- ---- the least free slot

pub free_is : (ws : List StackedWindow) → find (λ slot. not (list_any (λ w. w.slot == slot) ws)) (range_with_len 0 32) ≡ free_slot (views_of ws)
unfolding slots
free_is ws = ap (λ (test : ℕ → Bool). find test (range_with_len 0 32)) (fun_ext (λ slot. ap not (any_view (has_slot slot) ws)))

pub full_is : (vs : List WindowView) → IsStack vs → is_none (free_slot vs) ≡ (length vs == 32)
full_is vs s =
    let few = All-weaker IsWindow (λ v. v.slot < 32) (λ v f. f.slot) vs s.each in
    none_free_at vs few s.once ∙ at (length vs) (at_most_32 vs few s.once)
  where
    at : (n : ℕ) → n ≤ 32 → nat_le 32 n ≡ (n == 32)
    at n most = grind arith

pub not_full : (vs : List WindowView) (slot : ℕ) → IsStack vs → free_slot vs ≡ Some slot → length vs ≡ 32 → ⊥
not_full vs slot s e full = false≢true (ap is_none (sym e) ∙ full_is vs s ∙ ap (λ n. n == 32) full)

pub can_create : (vs : List WindowView) (slot owner layer : ℕ) → IsStack vs → free_slot vs ≡ Some slot → layer ≤ 1 → CanStand (new_window slot owner layer) vs
unfolding slots
can_create vs slot owner layer s e low =
    let it = found (λ k. not (is_live vs k)) 0 32 slot e in
    let high = it.high in
    let most = at_most_32 vs (All-weaker IsWindow (λ v. v.slot < 32) (λ v f. f.slot) vs s.each) s.once in
    let not_all : length vs ≢ 32 = not_full vs slot s e in
    record {
      window = record { slot = omega arith; layer = low; placed = refl; requested = refl };
      free = no_other_live slot vs (not-true (is_live vs slot) it.passes);
      room = omega arith;
    }

-- ---- when a create is refused

pub none_stops : (vs : List WindowView) (slot layer : ℕ) → IsStack vs → free_slot vs ≡ Some slot → layer ≤ 1 → None ≡ create_stop vs layer
none_stops vs slot layer s e low = sym (ap (λ b. cond b (Some (BadLayer layer)) (cond (length vs == 32) (Some (Full 32)) None)) (at layer low)
    ∙ ap (λ b. cond b (Some (Full 32)) None) (ne_eqb (length vs) 32 (not_full vs slot s e)))
  where
    at : (n : ℕ) → n ≤ 1 → nat_lt 1 n ≡ false
    at n l = grind arith

pub full_stops : (vs : List WindowView) (layer : ℕ) → IsStack vs → free_slot vs ≡ None → layer ≤ 1 → Some (Full 32) ≡ create_stop vs layer
full_stops vs layer s e low = sym (ap (λ b. cond b (Some (BadLayer layer)) (cond (length vs == 32) (Some (Full 32)) None)) (at layer low)
    ∙ ap (λ b. cond b (Some (Full 32)) None) (sym (full_is vs s) ∙ ap is_none e))
  where
    at : (n : ℕ) → n ≤ 1 → nat_lt 1 n ≡ false
    at n l = grind arith

pub free_without : (vs : List WindowView) (slot : ℕ) → free_slot vs ≡ Some slot → windows_without slot vs ≡ vs
unfolding slots
free_without vs slot e = without_none slot vs (not-true (is_live vs slot) (found (λ k. not (is_live vs k)) 0 32 slot e).passes)

pub without_twice : (slot : ℕ) (vs : List WindowView) → windows_without slot (windows_without slot vs) ≡ windows_without slot vs
without_twice slot vs = all_pass (λ w. not (has_slot slot w)) (windows_without slot vs) (filter_passes (λ w. not (has_slot slot w)) vs)
