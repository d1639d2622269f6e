-- Where pixels of changed slots are lost.
use Rattle.std.proofs.Common.{◌≡◌, ℕ, zero, suc, ◌+◌, ◌<◌, ◌≤◌, ◌⊎◌, inl, inr, ⊎_elim, Bool, true, false, not, ◌&&◌, ◌||◌, List, [], ◌∷◌, Option, Some, None, sym, refl, ap, ◌∙◌, subst, arith}
use Rattle.std.specs.Prelude.{is_none, All, pos, ◌+ℤ◌, ◌-ℤ◌, ◌<ℤ◌, ◌≤ℤ◌, ℤ, int_le, int_lt, slice_index_or}
use Rattle.std.specs.List.{list_any, filter, range_with_len, find}
use Rattle.std.specs.Option.{option_map, option_eq}
use Rattle.std.specs.Prelude.{nat_eq}
use Rattle.std.proofs.Common.{cond, if◌then◌else◌}
use Rattle.std.proofs.lemmas.Int.{ints}
use Rattle.std.proofs.lemmas.Bool.{and_parts, and_from, or_cases, cases_Bool, false≢true, true≢false, eq-eqb, eqb-true, cases_lt, cases_eq, and_right}
use Rattle.std.proofs.lemmas.List.Folds.{list_any_at}
use Rattle.qws_base.specs.Sides.{Sides}
use Rattle.qws_base.specs.Points.{is_on_screen, spans, holds, any_holds}
use Rattle.qws_base.specs.Regions.{HasPixels, IsOnScreen, right, bottom, same_pixels}
use Rattle.qws_base.specs.RectPixels.{IsWithin}
use Rattle.qws_base.specs.Windows.{owner_at, allocated_points, is_slot, covers, client_of_slot, origin_of}
use Rattle.qws_base.specs.Stacking.{slots}
use Rattle.qws_base.specs.Steps.{is_changed, same_point}
use Rattle.qws_base.specs.declared.points.Point.{Point}
use Rattle.qws_base.specs.declared.points.Rect.{Rect}
use Rattle.qws_base.specs.declared.windows.WindowView.{WindowView}
use Rattle.qws_base.proofs.PixelLemmas.{same_on_screen}
use Rattle.qws_base.specs.Arranged.{IsWindow}
use Rattle.step_regions.specs.Bared.{of_slots, is_lost}

or_zero : Option ℕ → ℕ
or_zero None = 0
or_zero (Some k) = k

same_some : (i j : ℕ) → Some i ≡ Some j → i ≡ j
unfolding or_zero
same_some i j e = ap or_zero e

-- ---- slots that change

-- a filtered slot passes the test and is one of the list's
from_filter : (test : ℕ → Bool) (q : ℕ → Bool) (i n : ℕ) → list_any q (filter test (range_with_len i n)) ≡ true → (k : ℕ) × (i ≤ k) × (k < i + n) × (test k ≡ true) × (q k ≡ true)
from_filter test q i zero e = absurd (false≢true e)
from_filter test q i (suc n) e = go (λ h. let r = from_filter test q (i + 1) n h in let low = r.1 in let high = r.2 in (r.0, omega arith, omega arith, r.3, r.4)) (test i) refl e
  where
    go : (list_any q (filter test (range_with_len (i + 1) n)) ≡ true → (k : ℕ) × (i ≤ k) × (k < i + suc n) × (test k ≡ true) × (q k ≡ true))
        → (b : Bool) → test i ≡ b → list_any q (if b then i ∷ filter test (range_with_len (i + 1) n) else filter test (range_with_len (i + 1) n)) ≡ true → (k : ℕ) × (i ≤ k) × (k < i + suc n) × (test k ≡ true) × (q k ≡ true)
    go later true is e = ⊎_elim (λ (h : q i ≡ true). (i, omega arith, omega arith, is, h)) (λ (h : list_any q (filter test (range_with_len (i + 1) n)) ≡ true). later h)
        (or_cases (q i) (list_any q (filter test (range_with_len (i + 1) n))) e)
    go later false is e = later e

to_filter : (test : ℕ → Bool) (q : ℕ → Bool) (i n k : ℕ) → i ≤ k → k < i + n → test k ≡ true → q k ≡ true → list_any q (filter test (range_with_len i n)) ≡ true
to_filter test q i zero k low high t h = absurd (omega arith)
to_filter test q i (suc n) k low high t h = go (λ lt. to_filter test q (i + 1) n k (omega arith) (omega arith) t h) (test i) refl
  where
    or_true : (a b : Bool) → b ≡ true → (a || b) ≡ true
    or_true true b e = refl
    or_true false b e = e

    here : (a b : Bool) → a ≡ true → (a || b) ≡ true
    here a b e = ap (λ x. x || b) e

    go : (i < k → list_any q (filter test (range_with_len (i + 1) n)) ≡ true) → (b : Bool) → test i ≡ b → list_any q (if b then i ∷ filter test (range_with_len (i + 1) n) else filter test (range_with_len (i + 1) n)) ≡ true
    go later true is = ⊎_elim
        (λ (lt : i < k). or_true (q i) (list_any q (filter test (range_with_len (i + 1) n))) (later lt))
        (λ (ge : k ≤ i). here (q i) (list_any q (filter test (range_with_len (i + 1) n))) (subst (λ j. q j ≡ true) (let z : k ≡ i = omega arith in z) h))
        (cases_lt i k)
    go later false is = ⊎_elim
        (λ (lt : i < k). later lt)
        (λ (ge : k ≤ i). absurd (true≢false (sym t ∙ ap test (let z : k ≡ i = omega arith in z) ∙ is)))
        (cases_lt i k)

all_cons : (x : ℕ) (xs : List ℕ) → x < 32 → All (λ slot. slot < 32) xs → All (λ slot. slot < 32) (x ∷ xs)
all_cons x xs h rest zero d lt = h
all_cons x xs h rest (suc k) d lt = rest k d (omega arith)

below_from : (test : ℕ → Bool) (i n : ℕ) → i + n ≤ 32 → All (λ slot. slot < 32) (filter test (range_with_len i n))
below_from test i zero le = λ k d lt. absurd (omega arith)
below_from test i (suc n) le = put (test i) (below_from test (i + 1) n (omega arith))
  where
    put : (b : Bool) → All (λ slot. slot < 32) (filter test (range_with_len (i + 1) n)) → All (λ slot. slot < 32) (if b then i ∷ filter test (range_with_len (i + 1) n) else filter test (range_with_len (i + 1) n))
    put true rest = all_cons i (filter test (range_with_len (i + 1) n)) (omega arith) rest
    put false rest = rest

pub below_all : (test : ℕ → Bool) → All (λ slot. slot < 32) (filter test slots)
unfolding slots
below_all test = below_from test 0 32 (omega arith)

-- ---- owners

module _ (size : Sides) (before after : List WindowView) where
  on_screen : (windows : List WindowView) (slot : ℕ) → IsOnScreen size (allocated_points size windows slot)
  on_screen windows slot p e = (and_parts (is_on_screen size p) (is_slot slot (owner_at windows p)) e).0

  -- a slot that didn't change has the same points
  unchanged : (slot : ℕ) → is_changed size before after slot ≡ false → (p : Point) → allocated_points size before slot p ≡ allocated_points size after slot p
  unchanged slot e = same_on_screen size (allocated_points size before slot) (allocated_points size after slot) (on_screen before slot) (on_screen after slot) (third (not (option_eq nat_eq (client_of_slot before slot) (client_of_slot after slot))) (not (same_point (origin_of before slot) (origin_of after slot))) (same_pixels size (allocated_points size before slot) (allocated_points size after slot)) e)
    where
      third : (a b c : Bool) → (a || b || not c) ≡ false → c ≡ true
      third true b c e = absurd (true≢false e)
      third false true c e = absurd (true≢false e)
      third false false true e = refl
      third false false false e = absurd (true≢false e)

  owned : (windows : List WindowView) (p : Point) (slot : ℕ) → is_on_screen size p ≡ true → owner_at windows p ≡ Some slot → allocated_points size windows slot p ≡ true
  owned windows p slot on is = and_from (is_on_screen size p) (is_slot slot (owner_at windows p)) on (ap (is_slot slot) is ∙ eq-eqb slot slot refl)

  owner_of : (windows : List WindowView) (p : Point) (slot : ℕ) → allocated_points size windows slot p ≡ true → owner_at windows p ≡ Some slot
  owner_of windows p slot e = go (owner_at windows p) refl (and_parts (is_on_screen size p) (is_slot slot (owner_at windows p)) e).1
    where
      go : (o : Option ℕ) → owner_at windows p ≡ o → is_slot slot o ≡ true → owner_at windows p ≡ Some slot
      go None is e = absurd (false≢true e)
      go (Some k) is e = is ∙ ap (λ j. Some j) (eqb-true k slot e)

  -- what is lost, by changed slots
  pub lost : ((windows : List WindowView) (p : Point) (slot : ℕ) → (windows ≡ before) ⊎ (windows ≡ after) → owner_at windows p ≡ Some slot → slot < 32)
      → (p : Point) → (of_slots size before (filter (is_changed size before after) slots) p && not (of_slots size after (filter (is_changed size before after) slots) p)) ≡ is_lost size before after p
  unfolding slots
  lost few p = go (is_on_screen size p) (owner_at before p) (owner_at after p) refl refl refl
    where
      off : (windows : List WindowView) → is_on_screen size p ≡ false → of_slots size windows (filter (is_changed size before after) (range_with_len 0 32)) p ≡ false
      off windows e = ⊎_elim
          (λ (h : of_slots size windows (filter (is_changed size before after) (range_with_len 0 32)) p ≡ true).
          let r = from_filter (is_changed size before after) (λ slot. allocated_points size windows slot p) 0 32 h in absurd (true≢false (sym (on_screen windows r.0 p r.4) ∙ e)))
          (λ (h : of_slots size windows (filter (is_changed size before after) (range_with_len 0 32)) p ≡ false). h)
          (cases_Bool (of_slots size windows (filter (is_changed size before after) (range_with_len 0 32)) p))

      unowned : (windows : List WindowView) → owner_at windows p ≡ None → of_slots size windows (filter (is_changed size before after) (range_with_len 0 32)) p ≡ false
      unowned windows none = ⊎_elim
          (λ (h : of_slots size windows (filter (is_changed size before after) (range_with_len 0 32)) p ≡ true).
          let r = from_filter (is_changed size before after) (λ slot. allocated_points size windows slot p) 0 32 h in absurd (no_some r.0 (sym none ∙ owner_of windows p r.0 r.4)))
          (λ (h : of_slots size windows (filter (is_changed size before after) (range_with_len 0 32)) p ≡ false). h)
          (cases_Bool (of_slots size windows (filter (is_changed size before after) (range_with_len 0 32)) p))
        where
          no_some : (k : ℕ) → None ≡ Some k → ⊥
          no_some k e = true≢false (ap is_none e)

      -- a slot that owns the point in one list and not in the other has changed
      differs : (a b : List WindowView) (slot : ℕ) → ((a ≡ before) × (b ≡ after)) ⊎ ((a ≡ after) × (b ≡ before)) → is_on_screen size p ≡ true → owner_at a p ≡ Some slot → (owner_at b p ≡ Some slot → ⊥) → slot < 32
          → of_slots size a (filter (is_changed size before after) (range_with_len 0 32)) p ≡ true
      differs a b slot which on is isnt lt = to_filter (is_changed size before after) (λ s. allocated_points size a s p) 0 32 slot (omega arith) (omega arith)
          (⊎_elim
          (λ (h : is_changed size before after slot ≡ true). h)
          (λ (h : is_changed size before after slot ≡ false). absurd (isnt (owner_of b p slot (⊎_elim
          (λ (w : (a ≡ before) × (b ≡ after)). ap (λ l. allocated_points size l slot p) w.1 ∙ sym (unchanged slot h p) ∙ sym (ap (λ l. allocated_points size l slot p) w.0) ∙ owned a p slot on is)
          (λ (w : (a ≡ after) × (b ≡ before)). ap (λ l. allocated_points size l slot p) w.1 ∙ unchanged slot h p ∙ sym (ap (λ l. allocated_points size l slot p) w.0) ∙ owned a p slot on is)
          which))))
          (cases_Bool (is_changed size before after slot)))
          (owned a p slot on is)

      both : (x y : Bool) → (x ≡ true) ⊎ (y ≡ true) → (y ≡ true) ⊎ (x ≡ false) → (x && not y) ≡ false
      both true true a b = refl
      both true false a b = ⊎_elim (λ (e : false ≡ true). absurd (false≢true e)) (λ (e : true ≡ false). e) b
      both false y a b = refl

      go : (on : Bool) (was is : Option ℕ) → is_on_screen size p ≡ on → owner_at before p ≡ was → owner_at after p ≡ is
          → (of_slots size before (filter (is_changed size before after) (range_with_len 0 32)) p && not (of_slots size after (filter (is_changed size before after) (range_with_len 0 32)) p)) ≡ (on && (not (is_none was) && is_none is))
      go false was is off_it a b = ap (λ x. x && not (of_slots size after (filter (is_changed size before after) (range_with_len 0 32)) p)) (off before off_it)
      go true None is on a b = ap (λ x. x && not (of_slots size after (filter (is_changed size before after) (range_with_len 0 32)) p)) (unowned before a)
      go true (Some i) None on a b =
          ap (λ x. x && not (of_slots size after (filter (is_changed size before after) (range_with_len 0 32)) p))
          (differs before after i (inl (refl, refl)) on a (λ e. true≢false (ap is_none (sym b ∙ e))) (few before p i (inl refl) a))
          ∙ ap (λ y. not y) (unowned after b)
      go true (Some i) (Some j) on a b = ⊎_elim
          (λ (same : i ≡ j). stays i a (b ∙ ap (λ k. Some k) (sym same)) (few before p i (inl refl) a))
          (λ (other : i ≡ j → ⊥). ap (λ y. of_slots size before (filter (is_changed size before after) (range_with_len 0 32)) p && not y)
          (differs after before j (inr (refl, refl)) on b (λ e. other (some_is i j (sym a ∙ e))) (few after p j (inr refl) b)) ∙ and_right (of_slots size before (filter (is_changed size before after) (range_with_len 0 32)) p) false refl)
          (cases_eq i j)
        where
          some_is : (i j : ℕ) → Some i ≡ Some j → i ≡ j
          some_is i j e = same_some i j e

          -- the same owner before and after: in both or in neither
          stays : (k : ℕ) → owner_at before p ≡ Some k → owner_at after p ≡ Some k → k < 32
              → (of_slots size before (filter (is_changed size before after) (range_with_len 0 32)) p && not (of_slots size after (filter (is_changed size before after) (range_with_len 0 32)) p)) ≡ false
          stays k was is lt = ⊎_elim
              (λ (h : is_changed size before after k ≡ true).
              ap (λ y. of_slots size before (filter (is_changed size before after) (range_with_len 0 32)) p && not y) (to_filter (is_changed size before after) (λ s. allocated_points size after s p) 0 32 k (omega arith) (omega arith) h (owned after p k on is))
              ∙ and_right (of_slots size before (filter (is_changed size before after) (range_with_len 0 32)) p) false refl)
              (λ (h : is_changed size before after k ≡ false). ap (λ x. x && not (of_slots size after (filter (is_changed size before after) (range_with_len 0 32)) p)) (⊎_elim
              (λ (t : of_slots size before (filter (is_changed size before after) (range_with_len 0 32)) p ≡ true).
              let r = from_filter (is_changed size before after) (λ s. allocated_points size before s p) 0 32 t in
              let same = some_is k r.0 (sym was ∙ owner_of before p r.0 r.4) in absurd (true≢false (sym r.3 ∙ sym (ap (is_changed size before after) same) ∙ h)))
              (λ (t : of_slots size before (filter (is_changed size before after) (range_with_len 0 32)) p ≡ false). t)
              (cases_Bool (of_slots size before (filter (is_changed size before after) (range_with_len 0 32)) p))))
              (cases_Bool (is_changed size before after k))

-- ---- windows with slots

pub few_of : (windows : List WindowView) → All IsWindow windows → (p : Point) (slot : ℕ) → owner_at windows p ≡ Some slot → slot < 32
few_of [] all p slot e = absurd (true≢false (ap is_none e))
few_of (w ∷ ws) all p slot e = go (λ h. few_of ws (λ k d lt. all (suc k) d (omega arith)) p slot h) (covers p w) e
  where
    go : (owner_at ws p ≡ Some slot → slot < 32) → (b : Bool) → option_map (λ (v : WindowView). v.slot) (cond b (Some w) (find (covers p) ws)) ≡ Some slot → slot < 32
    go rest true e = subst (λ n. n < 32) (same_some w.slot slot e) (all 0 w (omega arith)).slot
    go rest false e = rest e

-- ---- rectangles on the screen

within : (n : ℕ) (at : ℤ) → spans (pos 0) n at ≡ true → (pos 0 ≤ℤ at) × (at <ℤ pos n)
within n at h = let parts = and_parts (int_le (pos 0) at) (int_lt at (pos 0 +ℤ pos n)) h in (grind (arith, ints), grind (arith, ints))

has_corner : (r : Rect) → HasPixels r → holds r (record { x = r.x; y = r.y }) ≡ true
has_corner r some = let w = some.0 in let h = some.1 in grind (arith, ints)

has_last : (r : Rect) → HasPixels r → holds r (record { x = right r -ℤ pos 1; y = bottom r -ℤ pos 1 }) ≡ true
has_last r some = let w = some.0 in let h = some.1 in grind (arith, ints)

rect_within : (size : Sides) (r : Rect) → HasPixels r → ((p : Point) → holds r p ≡ true → is_on_screen size p ≡ true) → IsWithin size r
rect_within size r some inside =
    let a = and_parts (spans (pos 0) size.w r.x) (spans (pos 0) size.h r.y) (inside (record { x = r.x; y = r.y }) (has_corner r some)) in
    let b = and_parts (spans (pos 0) size.w (right r -ℤ pos 1)) (spans (pos 0) size.h (bottom r -ℤ pos 1)) (inside (record { x = right r -ℤ pos 1; y = bottom r -ℤ pos 1 }) (has_last r some)) in
    let ax = within size.w r.x a.0 in let ay = within size.h r.y a.1 in
    let bx = within size.w (right r -ℤ pos 1) b.0 in let by = within size.h (bottom r -ℤ pos 1) b.1 in
    record {
      from_left = ax.0;
      from_top = ay.0;
      to_right = let z = bx.1 in omega (arith, ints);
      to_bottom = let z = by.1 in omega (arith, ints);
    }

pub all_within : (size : Sides) (rects : List Rect) → All HasPixels rects → ((p : Point) → any_holds rects p ≡ true → is_on_screen size p ≡ true) → All (IsWithin size) rects
all_within size rects some inside = λ k d lt. rect_within size (slice_index_or rects k d) (some k d lt) (λ p h. inside p (list_any_at (λ (r : Rect). holds r p) rects k d lt h))
