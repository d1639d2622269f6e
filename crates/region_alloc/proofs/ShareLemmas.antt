-- The ground is shared out window by window, from the front.
use Rattle.std.proofs.Common.{◌≡◌, ℕ, ◌+◌, ◌<◌, Bool, true, false, not, ◌&&◌, ◌==◌, cond, Option, None, Some, List, [], ◌∷◌, ◌++◌, length, take, get_or, set, refl, sym, ap, ◌∙◌, subst, ⊎_elim, arith}
use Rattle.std.specs.Prelude.{◌≢◌, is_none, slice_get, All, ℤ, pos, ◌+ℤ◌}
use mathlib.Core.Path.{fun_ext}
use Rattle.std.specs.List.{find, list_any}
use Rattle.std.specs.Option.{option_map, option_or}
use Rattle.std.proofs.Math.IntN.{+ℤ_idl}
use Rattle.std.proofs.lemmas.Bool.{ne_eqb, cases_eq}
use Rattle.std.proofs.lemmas.List.{take_more, length-map, get_or-map, get_or-take, length-take, length-set, get_or-set_same, get_or-set_other}
use Rattle.std.proofs.lemmas.List.Folds.{find-append}
use Rattle.std.proofs.lemmas.Option.{get_or_from_slice_get, slice_get_within}
use Rattle.qws_base.specs.Points.{holds, any_holds, shifted, origin_zero}
use Rattle.qws_base.specs.Regions.{IsRegionOf}
use Rattle.qws_base.specs.Windows.{covers, owner_at, is_slot}
use Rattle.qws_base.specs.Stacking.{new_window}
use Rattle.qws_base.specs.declared.points.Point.{Point}
use Rattle.qws_base.specs.declared.points.Rect.{Rect}
use Rattle.qws_base.specs.declared.windows.WindowView.{WindowView}
use Rattle.qws_base.proofs.ListLemmas.{found_member}
use Rattle.window_stack.specs.Stacks.{IsStack}
use Rattle.region_alloc.specs.Allocations.{of_slot, asking, windows_asking}
use Rattle.region_alloc.specs.Sharing.{part_points, IsSharedUpTo}

-- ---- a window that asks for its slot's request

unmoved : (r : Rect) → shifted origin_zero r ≡ r
unmoved r = by (pos 0 +ℤ r.x) (pos 0 +ℤ r.y) (+ℤ_idl r.x) (+ℤ_idl r.y)
  where
    by : (x y : ℤ) → x ≡ r.x → y ≡ r.y → (let moved : Rect = record r { x = x; y = y } in moved) ≡ r
    by x y e f = ap (λ z. let moved : Rect = record r { x = z; y = y } in moved) e ∙ ap (λ z. let moved : Rect = record r { y = z } in moved) f

pub covers_asked : (requests : List (List Rect)) (w : WindowView) (p : Point) → covers p (asking requests w) ≡ any_holds (of_slot requests w.slot) p
covers_asked requests w p = ap (λ (test : Rect → Bool). list_any test (of_slot requests w.slot)) (fun_ext (λ r. ap (λ s. holds s p) (unmoved r)))

-- ---- one window more, behind the others

owner_more : (ws : List WindowView) (w : WindowView) (p : Point) → owner_at (ws ++ w ∷ []) p ≡ option_or (owner_at ws p) (cond (covers p w) (Some w.slot) None)
owner_more ws w p = ap (option_map (λ (v : WindowView). v.slot)) (find-append (covers p) ws (w ∷ [])) ∙ by (find (covers p) ws) (covers p w)
  where
    by : (o : Option WindowView) (b : Bool) → option_map (λ (v : WindowView). v.slot) (option_or o (cond b (Some w) None)) ≡ option_or (option_map (λ (v : WindowView). v.slot) o) (cond b (Some w.slot) None)
    by None true = refl
    by None false = refl
    by (Some v) b = refl

-- the owner has another slot, where all windows have
owner_differs : (slot : ℕ) (ws : List WindowView) (p : Point) → All (λ v. v.slot ≢ slot) ws → is_slot slot (owner_at ws p) ≡ false
owner_differs slot ws p h = by (find (covers p) ws) refl
  where
    by : (o : Option WindowView) → find (covers p) ws ≡ o → is_slot slot (option_map (λ (v : WindowView). v.slot) o) ≡ false
    by None e = refl
    by (Some v) e = ne_eqb v.slot slot (found_member (λ u. u.slot ≢ slot) (covers p) ws v h e).0

-- what is left, and who has the point, by tests on the point: it is in the ground, a window before owns it, this one covers it
rest_by : (g r : Bool) (o : Option ℕ) (slot : ℕ) → ((g && is_none o) && not r) ≡ (g && is_none (option_or o (cond r (Some slot) None)))
rest_by false r o slot = refl
rest_by true true None slot = refl
rest_by true false None slot = refl
rest_by true true (Some n) slot = refl
rest_by true false (Some n) slot = refl

own_by : (g r : Bool) (o : Option ℕ) (slot : ℕ) → is_slot slot o ≡ false → (r && (g && is_none o)) ≡ (g && is_slot slot (option_or o (cond r (Some slot) None)))
own_by g true None slot h = ap (λ b. g && b) (sym (itself slot))
  where
    itself : (n : ℕ) → (n == n) ≡ true
    itself n = grind arith
own_by true false None slot h = refl
own_by false false None slot h = refl
own_by true true (Some n) slot h = sym h
own_by true false (Some n) slot h = sym h
own_by false true (Some n) slot h = refl
own_by false false (Some n) slot h = refl

other_by : (r : Bool) (o : Option ℕ) (slot other : ℕ) → slot ≢ other → is_slot other o ≡ is_slot other (option_or o (cond r (Some slot) None))
other_by true None slot other ne = sym (ne_eqb slot other ne)
other_by false None slot other ne = refl
other_by r (Some n) slot other ne = refl

pub region_same : (rects : List Rect) (set other : Point → Bool) → ((p : Point) → set p ≡ other p) → IsRegionOf rects set → IsRegionOf rects other
region_same rects set other same r = record { canonical = r.canonical; points = λ p. r.points p ∙ same p }

-- ---- the next window

pub record IsNext (windows : List WindowView) (k : ℕ) (w : WindowView) : Type 0 where
  pub low : k < length windows
  pub at : get_or windows k w ≡ w
  pub slot : w.slot < 32
  pub others : All (λ v. v.slot ≢ w.slot) (take k windows)

front_more : (windows : List WindowView) (k : ℕ) (w : WindowView) → IsNext windows k w → take (k + 1) windows ≡ take k windows ++ w ∷ []
front_more windows k w next = take_more windows k w next.low ∙ ap (λ v. take k windows ++ v ∷ []) next.at

owner_next : (windows : List WindowView) (k : ℕ) (w : WindowView) (p : Point) → IsNext windows k w → owner_at (take (k + 1) windows) p ≡ option_or (owner_at (take k windows) p) (cond (covers p w) (Some w.slot) None)
owner_next windows k w p next = ap (λ ws. owner_at ws p) (front_more windows k w next) ∙ owner_more (take k windows) w p

-- what the window takes of the ground, and what it leaves
pub record IsTaken (ground request part rest : List Rect) : Type 0 where
  pub takes : IsRegionOf part (λ p. any_holds request p && any_holds ground p)
  pub leaves : (p : Point) → any_holds rest p ≡ (any_holds ground p && not (any_holds request p))

pub taken_of : (ground request read part rest : List Rect) → read ≡ request → IsRegionOf part (λ p. any_holds read p && any_holds ground p) → ((p : Point) → any_holds rest p ≡ (any_holds ground p && not (any_holds read p))) → IsTaken ground request part rest
taken_of ground request read part rest same takes leaves = subst (λ rects. IsTaken ground rects part rest) same (record { takes = takes; leaves = leaves })

own_part : (whole : List Rect) (windows : List WindowView) (k : ℕ) (ground : List Rect) (parts : List (List Rect)) (w : WindowView) (request part rest : List Rect) → IsNext windows k w → ((p : Point) → covers p w ≡ any_holds request p) → IsTaken ground request part rest → IsSharedUpTo whole windows k ground parts
    → IsRegionOf part (part_points whole (take (k + 1) windows) w.slot)
own_part whole windows k ground parts w request part rest next asks taken shared =
    region_same part (λ p. any_holds request p && any_holds ground p) (part_points whole (take (k + 1) windows) w.slot)
    (λ p. ap (λ b. any_holds request p && b) (shared.left p)
    ∙ own_by (any_holds whole p) (any_holds request p) (owner_at (take k windows) p) w.slot (owner_differs w.slot (take k windows) p next.others)
    ∙ ap (λ r. any_holds whole p && is_slot w.slot (option_or (owner_at (take k windows) p) (cond r (Some w.slot) None))) (sym (asks p))
    ∙ ap (λ o. any_holds whole p && is_slot w.slot o) (sym (owner_next windows k w p next)))
    taken.takes

other_part : (whole : List Rect) (windows : List WindowView) (k : ℕ) (rects : List Rect) (w : WindowView) (other : ℕ) → IsNext windows k w → w.slot ≢ other → IsRegionOf rects (part_points whole (take k windows) other)
    → IsRegionOf rects (part_points whole (take (k + 1) windows) other)
other_part whole windows k rects w other next ne region =
    region_same rects (part_points whole (take k windows) other) (part_points whole (take (k + 1) windows) other)
    (λ p. ap (λ b. any_holds whole p && b) (other_by (covers p w) (owner_at (take k windows) p) w.slot other ne ∙ ap (is_slot other) (sym (owner_next windows k w p next))))
    region

pub shared_more : (whole : List Rect) (windows : List WindowView) (k : ℕ) (ground : List Rect) (parts : List (List Rect)) (w : WindowView) (request part rest : List Rect) → IsNext windows k w → ((p : Point) → covers p w ≡ any_holds request p) → IsTaken ground request part rest → IsSharedUpTo whole windows k ground parts
    → IsSharedUpTo whole windows (k + 1) rest (set parts w.slot part)
shared_more whole windows k ground parts w request part rest next asks taken shared = record {
  left = λ p.
      taken.leaves p
      ∙ ap (λ b. b && not (any_holds request p)) (shared.left p)
      ∙ rest_by (any_holds whole p) (any_holds request p) (owner_at (take k windows) p) w.slot
      ∙ ap (λ r. any_holds whole p && is_none (option_or (owner_at (take k windows) p) (cond r (Some w.slot) None))) (sym (asks p))
      ∙ ap (λ o. any_holds whole p && is_none o) (sym (owner_next windows k w p next));
  shares = record {
    count = length-set parts w.slot part ∙ shared.shares.count;
    each = λ slot low. ⊎_elim
        (λ (same : w.slot ≡ slot). subst (λ n. IsRegionOf (of_slot (set parts w.slot part) n) (part_points whole (take (k + 1) windows) n)) same
        (subst (λ rects. IsRegionOf rects (part_points whole (take (k + 1) windows) w.slot)) (sym (get_or-set_same parts w.slot part [] (omega (arith, next.slot, shared.shares.count))))
        (own_part whole windows k ground parts w request part rest next asks taken shared)))
        (λ (ne : w.slot ≡ slot → ⊥). subst (λ rects. IsRegionOf rects (part_points whole (take (k + 1) windows) slot)) (sym (get_or-set_other parts w.slot slot part [] (λ e. ne (sym e))))
        (other_part whole windows k (of_slot parts slot) w slot next ne (shared.shares.each slot low)))
        (cases_eq w.slot slot);
  };
}

-- the window at a place of the stack is the next one
pub next_asking : (requests : List (List Rect)) (stack : List WindowView) (k slot owner layer : ℕ) → slice_get stack k ≡ Some (new_window slot owner layer) → slot < 32 → IsStack stack → IsNext (windows_asking requests stack) k (asking requests (new_window slot owner layer))
next_asking requests stack k slot owner layer e low s =
    let w : WindowView = new_window slot owner layer in
    let within : k < length stack = slice_get_within stack k w e in
    let at : get_or stack k w ≡ w = get_or_from_slice_get stack k w w e in
    let all : length (windows_asking requests stack) ≡ length stack = length-map stack (asking requests) in
    record {
      low = omega (arith, within, all);
      at = get_or-map (asking requests) stack k w (asking requests w) within ∙ ap (asking requests) at;
      slot = low;
      others = λ j d below.
          let before : j < k = omega (arith, below, length-take k (windows_asking requests stack)) in
          subst (λ v. v.slot ≢ slot) (sym (get_or-take k (windows_asking requests stack) j d before ∙ get_or-map (asking requests) stack j w d (omega (arith, before, within))))
          (λ same. s.once j k w before within (same ∙ sym (ap (λ v. v.slot) at)));
    }

-- where no window had a turn yet
pub shared_none : (whole : List Rect) (windows : List WindowView) (parts : List (List Rect)) → length parts ≡ 32 → All (λ part. IsRegionOf part (λ p. false)) parts → IsSharedUpTo whole windows 0 whole parts
shared_none whole windows parts count none = record {
  left = λ p. sym (all_of (any_holds whole p));
  shares = record { count = count; each = λ slot low. region_same (of_slot parts slot) (λ p. false) (part_points whole [] slot) (λ p. sym (none_of (any_holds whole p))) (none slot [] (omega (arith, low, count))) };
}
  where
    all_of : (b : Bool) → (b && true) ≡ b
    all_of true = refl
    all_of false = refl

    none_of : (b : Bool) → (b && false) ≡ false
    none_of true = refl
    none_of false = refl
