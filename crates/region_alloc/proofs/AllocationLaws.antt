-- Laws of allocations.
use Rattle.std.proofs.Common.{◌≡◌, ℕ, ◌+◌, ◌<◌, zero, suc, ⊎_elim, ◌++◌, Bool, true, false, not, ◌&&◌, ◌||◌, cond, Option, Some, List, [], ◌∷◌, length, refl, sym, ap, ◌∙◌, subst, arith}
use Rattle.std.specs.Prelude.{◌≢◌, All}
use Rattle.std.specs.List.{find, list_any, range_with_len}
use Rattle.std.specs.Option.{option_map}
use Rattle.std.proofs.lemmas.Bool.{false≢true, cases_eq}
use Rattle.std.proofs.lemmas.List.{same_lists, get_or_default, get_or_push, get_or_append_left}
use Rattle.std.proofs.lemmas.List.Elements.{All-head, All-tail, All-nil, All-cons, All-weaker, filter_passes}
use Rattle.qws_base.specs.Sides.{Sides}
use Rattle.qws_base.specs.Points.{any_holds, is_on_screen}
use Rattle.qws_base.specs.Regions.{IsRegionOf, IsOnScreen, same_pixels}
use Rattle.qws_base.specs.Windows.{has_slot, covers, owner_at, is_slot, allocated_points}
use Rattle.qws_base.specs.Stacking.{slots, windows_without}
use Rattle.qws_base.specs.declared.points.Point.{Point}
use Rattle.qws_base.specs.declared.points.Rect.{Rect}
use Rattle.qws_base.specs.declared.windows.WindowView.{WindowView}
use Rattle.qws_base.proofs.PixelLemmas.{same_everywhere}
use Rattle.qws_base.proofs.StepLaws.{one_owner_law, all_allocated_law}
use Rattle.window_stack.specs.Stacks.{stacked, stack_of}
use Rattle.region_alloc.specs.Allocations.{of_slot, asking, windows_asking, IsAllocation, AreRequestsOf, SharedOutLaw}
use Rattle.region_alloc.specs.Changes.{IsSameOutside, IsWithin, OwnersLaw, OutsideLaw}
use Rattle.region_alloc.specs.Sharing.{part_points, AreParts}
use Rattle.region_alloc.proofs.ShareLemmas.{covers_asked, region_same}

-- ---- what was shared out is an allocation

pub shared_screen : (size : Sides) (windows : List WindowView) (whole : List Rect) (parts : List (List Rect)) → IsRegionOf whole (is_on_screen size) → AreParts whole windows parts → IsAllocation size windows parts
shared_screen size windows whole parts screen shared = record {
  count = shared.count;
  each = λ slot low.
      region_same (of_slot parts slot) (part_points whole windows slot) (allocated_points size windows slot) (λ p. ap (λ b. b && is_slot slot (owner_at windows p)) (screen.points p)) (shared.each slot low);
}

-- on the screen, in what changed, its owner, had before
renewed_by : (s c o b : Bool) → (c ≡ false → b ≡ (s && o)) → (((s && c) && o) || (b && not c)) ≡ (s && o)
renewed_by true true true true h = refl
renewed_by true true true false h = refl
renewed_by true true false true h = refl
renewed_by true true false false h = refl
renewed_by false true o true h = refl
renewed_by false true o false h = refl
renewed_by true false o b h = and_true b ∙ h refl
  where
    and_true : (t : Bool) → (t && true) ≡ t
    and_true true = refl
    and_true false = refl
renewed_by false false o b h = and_true b ∙ h refl
  where
    and_true : (t : Bool) → (t && true) ≡ t
    and_true true = refl
    and_true false = refl

pub renewed_region : (size : Sides) (windows : List WindowView) (changed whole ground : List Rect) (parts regions : List (List Rect)) (region : List Rect) (slot : ℕ) → slot < 32
    → IsRegionOf whole (is_on_screen size) → IsRegionOf ground (λ p. any_holds whole p && any_holds changed p) → AreParts ground windows parts → IsSameOutside size changed regions windows
    → IsRegionOf region (λ p. any_holds (of_slot parts slot) p || (any_holds (of_slot regions slot) p && not (any_holds changed p)))
    → IsRegionOf region (allocated_points size windows slot)
renewed_region size windows changed whole ground parts regions region slot low screen inside shared outside =
    region_same region (λ p. any_holds (of_slot parts slot) p || (any_holds (of_slot regions slot) p && not (any_holds changed p))) (allocated_points size windows slot)
    (λ p. ap (λ b. b || (any_holds (of_slot regions slot) p && not (any_holds changed p)))
    ((shared.each slot low).points p ∙ ap (λ b. b && is_slot slot (owner_at windows p)) (inside.points p ∙ ap (λ b. b && any_holds changed p) (screen.points p)))
    ∙ renewed_by (is_on_screen size p) (any_holds changed p) (is_slot slot (owner_at windows p)) (any_holds (of_slot regions slot) p) (outside slot low p))

-- ---- one slot or none has a pixel

same_any : (p q : ℕ → Bool) (a n : ℕ) → ((k : ℕ) → k < a + n → p k ≡ q k) → list_any p (range_with_len a n) ≡ list_any q (range_with_len a n)
same_any p q a zero h = refl
same_any p q a (suc n) h = ap (λ b. b || list_any p (range_with_len (a + 1) n)) (h a (omega arith)) ∙ ap (λ b. q a || b) (same_any p q (a + 1) n (λ k low. h k (omega (arith, low))))

pub shared_out_law : SharedOutLaw
unfolding slots
shared_out_law = record {
  apart = λ size windows regions r i j p low below h k.
      one_owner_law size windows i j p (sym ((r.each i low).points p) ∙ h) (sym ((r.each j below).points p) ∙ k);
  together = λ size windows regions few r p.
      same_any (λ slot. any_holds (of_slot regions slot) p) (λ slot. allocated_points size windows slot p) 0 32 (λ slot low. (r.each slot (omega (arith, low))).points p)
      ∙ all_allocated_law size windows few p;
}

-- ---- there is one allocation

on_screen : (size : Sides) (windows : List WindowView) (slot : ℕ) → IsOnScreen size (allocated_points size windows slot)
on_screen size windows slot p h = by (is_on_screen size p) h
  where
    by : (b : Bool) → (b && is_slot slot (owner_at windows p)) ≡ true → b ≡ true
    by true e = refl
    by false e = e

pub same_regions : ((size : Sides) (xs ys : List Rect) (set other : Point → Bool) → IsOnScreen size set → IsOnScreen size other → IsRegionOf xs set → IsRegionOf ys other → same_pixels size set other ≡ true → xs ≡ ys)
    → (size : Sides) (windows : List WindowView) (regions other : List (List Rect)) → IsAllocation size windows regions → IsAllocation size windows other → regions ≡ other
same_regions one size windows regions other r s =
    same_lists regions other (r.count ∙ sym s.count)
    (λ k d low.
    let below : k < 32 = omega (arith, low, r.count) in
    let set : Point → Bool = allocated_points size windows k in
    get_or_default regions k d [] low
    ∙ one size (of_slot regions k) (of_slot other k) set set (on_screen size windows k) (on_screen size windows k) (r.each k below) (s.each k below) (same_everywhere size set set (λ p. refl))
    ∙ get_or_default other k [] d (omega (arith, below, s.count)))

-- ---- the windows of a stack with their requests own what the windows own

owner_cons : (p : Point) (v w : WindowView) (vs ws : List WindowView) → v.slot ≡ w.slot → covers p v ≡ covers p w → owner_at vs p ≡ owner_at ws p → owner_at (v ∷ vs) p ≡ owner_at (w ∷ ws) p
owner_cons p v w vs ws same covered rest = by (covers p v) (covers p w) covered
  where
    slot_in : Option WindowView → Option ℕ
    slot_in o = option_map (λ (u : WindowView). u.slot) o

    by : (b c : Bool) → b ≡ c → slot_in (cond b (Some v) (find (covers p) vs)) ≡ slot_in (cond c (Some w) (find (covers p) ws))
    by true true e = ap Some same
    by true false e = absurd (false≢true (sym e))
    by false true e = absurd (false≢true e)
    by false false e = rest

asked_owner : (requests : List (List Rect)) (windows : List WindowView) (p : Point) → All (λ w. any_holds (of_slot requests w.slot) p ≡ covers p w) windows → owner_at (windows_asking requests (stack_of windows)) p ≡ owner_at windows p
asked_owner requests [] p h = refl
asked_owner requests (w ∷ ws) p h =
    owner_cons p (asking requests (stacked w)) w (windows_asking requests (stack_of ws)) ws refl
    (covers_asked requests (stacked w) p ∙ All-head (λ v. any_holds (of_slot requests v.slot) p ≡ covers p v) w ws h)
    (asked_owner requests ws p (All-tail (λ v. any_holds (of_slot requests v.slot) p ≡ covers p v) w ws h))

-- equal owners on the screen
same_allocated : (size : Sides) (slot : ℕ) (p : Point) (vs ws : List WindowView) → (is_on_screen size p ≡ true → owner_at vs p ≡ owner_at ws p) → allocated_points size vs slot p ≡ allocated_points size ws slot p
same_allocated size slot p vs ws h = by (is_on_screen size p) h
  where
    by : (b : Bool) → (b ≡ true → owner_at vs p ≡ owner_at ws p) → (b && is_slot slot (owner_at vs p)) ≡ (b && is_slot slot (owner_at ws p))
    by true f = ap (is_slot slot) (f refl)
    by false f = refl

pub of_windows : (size : Sides) (windows : List WindowView) (requests regions : List (List Rect)) → AreRequestsOf size windows requests → IsAllocation size (windows_asking requests (stack_of windows)) regions → IsAllocation size windows regions
of_windows size windows requests regions asked r = record {
  count = r.count;
  each = λ slot low.
      region_same (of_slot regions slot) (allocated_points size (windows_asking requests (stack_of windows)) slot) (allocated_points size windows slot)
      (λ p. same_allocated size slot p (windows_asking requests (stack_of windows)) windows
      (λ h. asked_owner requests windows p (All-weaker (λ w. (q : Point) → is_on_screen size q ≡ true → any_holds (of_slot requests w.slot) q ≡ covers q w) (λ w. any_holds (of_slot requests w.slot) p ≡ covers p w) (λ w f. f p h) windows asked)))
      (r.each slot low);
}

-- ---- the windows of other slots keep their pixels

without_asking : (slot : ℕ) (requests : List (List Rect)) (stack : List WindowView) → windows_without slot (windows_asking requests stack) ≡ windows_asking requests (windows_without slot stack)
without_asking slot requests [] = refl
without_asking slot requests (w ∷ ws) = by (has_slot slot w) (without_asking slot requests ws)
  where
    by : (b : Bool) → windows_without slot (windows_asking requests ws) ≡ windows_asking requests (windows_without slot ws)
        → cond (not b) (asking requests w ∷ windows_without slot (windows_asking requests ws)) (windows_without slot (windows_asking requests ws)) ≡ windows_asking requests (cond (not b) (w ∷ windows_without slot ws) (windows_without slot ws))
    by true e = e
    by false e = ap (λ vs. asking requests w ∷ vs) e

same_asking : (requests requests' : List (List Rect)) (ws : List WindowView) → All (λ w. of_slot requests' w.slot ≡ of_slot requests w.slot) ws → windows_asking requests' ws ≡ windows_asking requests ws
same_asking requests requests' [] h = refl
same_asking requests requests' (w ∷ ws) h =
    ap (λ rects. (let v : WindowView = record (asking requests w) { rects = rects } in v) ∷ windows_asking requests' ws) (All-head (λ v. of_slot requests' v.slot ≡ of_slot requests v.slot) w ws h)
    ∙ ap (λ vs. asking requests w ∷ vs) (same_asking requests requests' ws (All-tail (λ v. of_slot requests' v.slot ≡ of_slot requests v.slot) w ws h))

-- a window that doesn't cover the point can be left out
left_out : (slot : ℕ) (ws : List WindowView) (p : Point) → All (λ w. has_slot slot w ≡ true → covers p w ≡ false) ws → owner_at (windows_without slot ws) p ≡ owner_at ws p
left_out slot [] p h = refl
left_out slot (w ∷ ws) p h = by (has_slot slot w) (All-head (λ v. has_slot slot v ≡ true → covers p v ≡ false) w ws h) (left_out slot ws p (All-tail (λ v. has_slot slot v ≡ true → covers p v ≡ false) w ws h))
  where
    by : (b : Bool) → (b ≡ true → covers p w ≡ false) → owner_at (windows_without slot ws) p ≡ owner_at ws p → owner_at (cond (not b) (w ∷ windows_without slot ws) (windows_without slot ws)) p ≡ owner_at (w ∷ ws) p
    by true f e = e ∙ sym (ap (λ c. option_map (λ (u : WindowView). u.slot) (cond c (Some w) (find (covers p) ws))) (f refl))
    by false f e = owner_cons p w w (windows_without slot ws) ws refl refl e

not_covered : (slot : ℕ) (requests : List (List Rect)) (stack : List WindowView) (p : Point) → any_holds (of_slot requests slot) p ≡ false → owner_at (windows_asking requests (windows_without slot stack)) p ≡ owner_at (windows_asking requests stack) p
not_covered slot requests stack p none =
    ap (λ ws. owner_at ws p) (sym (without_asking slot requests stack))
    ∙ left_out slot (windows_asking requests stack) p (each stack)
  where
    slot_is : (w : WindowView) → has_slot slot w ≡ true → w.slot ≡ slot
    slot_is w h = grind arith

    one : (w : WindowView) → has_slot slot (asking requests w) ≡ true → covers p (asking requests w) ≡ false
    one w h = covers_asked requests w p ∙ ap (λ n. any_holds (of_slot requests n) p) (slot_is w h) ∙ none

    each : (ws : List WindowView) → All (λ w. has_slot slot w ≡ true → covers p w ≡ false) (windows_asking requests ws)
    each [] = All-nil (λ w. has_slot slot w ≡ true → covers p w ≡ false)
    each (w ∷ ws) = All-cons (λ v. has_slot slot v ≡ true → covers p v ≡ false) (asking requests w) (windows_asking requests ws) (one w) (each ws)

outside_of : (size : Sides) (changed request : List Rect) (p : Point) → IsWithin size changed request → is_on_screen size p ≡ true → any_holds changed p ≡ false → any_holds request p ≡ false
outside_of size changed request p within on out = by (any_holds request p) (within p on)
  where
    by : (b : Bool) → (b ≡ true → any_holds changed p ≡ true) → b ≡ false
    by true f = absurd (false≢true (sym out ∙ f refl))
    by false f = refl

others_asking : (slot : ℕ) (requests requests' : List (List Rect)) (stack : List WindowView) → ((other : ℕ) → other ≢ slot → of_slot requests' other ≡ of_slot requests other) → windows_asking requests' (windows_without slot stack) ≡ windows_asking requests (windows_without slot stack)
others_asking slot requests requests' stack kept =
    same_asking requests requests' (windows_without slot stack)
    (All-weaker (λ w. not (has_slot slot w) ≡ true) (λ w. of_slot requests' w.slot ≡ of_slot requests w.slot) (λ w h. kept w.slot (differs w h)) (windows_without slot stack) (filter_passes (λ w. not (has_slot slot w)) stack))
  where
    differs : (w : WindowView) → not (has_slot slot w) ≡ true → w.slot ≢ slot
    differs w h = λ e. grind arith

pub owners_law : OwnersLaw
owners_law size slot changed stack requests stack' requests' change p on out =
    sym (not_covered slot requests' stack' p (outside_of size changed (of_slot requests' slot) p change.after on out))
    ∙ ap (λ ws. owner_at (windows_asking requests' ws) p) change.others
    ∙ ap (λ ws. owner_at ws p) (others_asking slot requests requests' stack change.kept)
    ∙ not_covered slot requests stack p (outside_of size changed (of_slot requests slot) p change.before on out)

pub outside_law : OutsideLaw
outside_law size slot changed stack requests stack' requests' regions change r other low p out =
    (r.each other low).points p
    ∙ same_allocated size other p (windows_asking requests stack) (windows_asking requests' stack') (λ on. sym (owners_law size slot changed stack requests stack' requests' change p on out))

pub still_allocation : (size : Sides) (before after : List WindowView) (regions : List (List Rect)) → IsAllocation size before regions → IsSameOutside size [] regions after → IsAllocation size after regions
still_allocation size before after regions r same = record {
  count = r.count;
  each = λ slot low. record { canonical = (r.each slot low).canonical; points = λ p. same slot low p refl };
}

-- one region more, for the next slot
pub each_more : (P : ℕ → List Rect → Type 0) (xs ys : List (List Rect)) (x : List Rect) (n : ℕ) → ys ≡ xs ++ x ∷ [] → length xs ≡ n → ((k : ℕ) → k < n → P k (of_slot xs k)) → P n x → (k : ℕ) → k < n + 1 → P k (of_slot ys k)
each_more P xs ys x n e long each last k low = ⊎_elim
    (λ (same : k ≡ n). subst (λ j. P j (of_slot ys j)) (sym same) (subst (P n) (sym (ap (λ zs. of_slot zs n) e ∙ get_or_push xs x [] n long)) last))
    (λ (differs : k ≡ n → ⊥). let below : k < n = omega (arith, low, differs) in subst (P k) (sym (ap (λ zs. of_slot zs k) e ∙ get_or_append_left xs (x ∷ []) [] k (omega (arith, below, long)))) (each k below))
    (cases_eq k n)

-- the same, where the region's parts were read from their lists
pub renewed_read : (size : Sides) (windows : List WindowView) (changed whole ground : List Rect) (parts regions : List (List Rect)) (region old part : List Rect) (slot : ℕ) → slot < 32 → old ≡ of_slot regions slot → part ≡ of_slot parts slot
    → IsRegionOf whole (is_on_screen size) → IsRegionOf ground (λ p. any_holds whole p && any_holds changed p) → AreParts ground windows parts → IsSameOutside size changed regions windows
    → IsRegionOf region (λ p. any_holds part p || (any_holds old p && not (any_holds changed p)))
    → IsRegionOf region (allocated_points size windows slot)
renewed_read size windows changed whole ground parts regions region old part slot low e f screen inside shared outside made =
    renewed_region size windows changed whole ground parts regions region slot low screen inside shared outside
    (subst (λ rects. IsRegionOf region (λ p. any_holds rects p || (any_holds (of_slot regions slot) p && not (any_holds changed p)))) f
    (subst (λ rects. IsRegionOf region (λ p. any_holds part p || (any_holds rects p && not (any_holds changed p)))) e made))
