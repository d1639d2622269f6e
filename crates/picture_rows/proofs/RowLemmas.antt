-- Inks laid on places, and the row of a sheet.
use Rattle.std.proofs.Common.{ℕ, ◌≡◌, ◌+◌, ◌-◌, ◌<◌, ◌≤◌, ℤ, pos, ◌+ℤ◌, Bool, true, false, cond, ◌⊎◌, inl, inr, refl, sym, ap, ◌∙◌, arith, List, ◌++◌, length, map, take, drop, get_or, length-append, length-take, length-drop}
use Rattle.std.proofs.lemmas.Bool.{cases_lt}
use Rattle.std.proofs.lemmas.Int.{ints}
use Rattle.std.proofs.lemmas.List.{get_or_append_left, get_or-append_right, get_or-take, get_or-drop}
use Rattle.std.proofs.lemmas.List.FromFn.{fill_by_all, length-map-range_with_len, get_or-map-range_with_len}
use Rattle.std.specs.List.{range_with_len}
use borrow.Rule.Slice.PartMut.{put_mid}
use Rattle.qws_base.specs.declared.inks.Ink.{Ink}
use Rattle.qws_base.specs.declared.inks.Ink.TheVariants.{Skip}
use Rattle.qws_base.specs.declared.points.Point.{Point}
use Rattle.qws_base.specs.declared.points.Rect.{Rect}
use Rattle.qws_base.specs.Points.{holds}
use Rattle.qws_base.specs.Sheets.{Sheet, sheet_of, ink_at, row_of}
use Rattle.qws_base.proofs.PictureLaws.{ink_of_sheet}
use Rattle.picture_rows.specs.Runs.{pixel, in_run, IsPart, IsInside, IsInked}
use Rattle.picture_rows.proofs.RunLemmas.{run_before, run_inside, run_after}

-- two functions that agree on the first n numbers make the same list
pub same_maps : {X : Type 0} (f g : ℕ → X) (n : ℕ) (d : X) → ((k : ℕ) → k < n → f k ≡ g k) → map f (range_with_len 0 n) ≡ map g (range_with_len 0 n)
same_maps f g n d h = fill_by_all g (map f (range_with_len 0 n)) n d (length-map-range_with_len f 0 n) (λ k b. get_or-map-range_with_len f 0 n k k d b (omega arith) ∙ h k b)

-- ---- a write into a part

pub length_put : {X : Type 0} (from to : ℕ) (was made : List X) → from ≤ to → to ≤ length was → length made ≡ to - from → length (put_mid from (to - from) was made) ≡ length was
length_put from to was made h g e =
    omega (
      arith,
      length-append (take from was) (made ++ drop (to - from) (drop from was)),
      length-append made (drop (to - from) (drop from was)),
      length-take from was,
      length-drop (to - from) (drop from was),
      length-drop from was,
    )

-- the part has what was written, and the other places have what they had
pub put_at : {X : Type 0} (from to k : ℕ) (was made : List X) (d : X) → from ≤ to → to ≤ length was → length made ≡ to - from
    → get_or (put_mid from (to - from) was made) k d ≡ cond (in_run from to k) (get_or made (k - from) d) (get_or was k d)
put_at from to k was made d h g e = by (cases_lt k from) (cases_lt k to) where
  by : (k < from) ⊎ (from ≤ k) → (k < to) ⊎ (to ≤ k) → get_or (put_mid from (to - from) was made) k d ≡ cond (in_run from to k) (get_or made (k - from) d) (get_or was k d)
  by (inl a) b =
      get_or_append_left (take from was) (made ++ drop (to - from) (drop from was)) d k (omega (arith, length-take from was))
      ∙ get_or-take from was k d a
      ∙ sym (ap (λ t. cond t (get_or made (k - from) d) (get_or was k d)) (run_before from to k a))
  by (inr a) (inl b) =
      get_or-append_right (take from was) (made ++ drop (to - from) (drop from was)) from k d (omega (arith, length-take from was)) a
      ∙ get_or_append_left made (drop (to - from) (drop from was)) d (k - from) (omega arith)
      ∙ sym (ap (λ t. cond t (get_or made (k - from) d) (get_or was k d)) (run_inside from to k a b))
  by (inr a) (inr b) =
      get_or-append_right (take from was) (made ++ drop (to - from) (drop from was)) from k d (omega (arith, length-take from was)) a
      ∙ get_or-append_right made (drop (to - from) (drop from was)) (to - from) (k - from) d e (omega arith)
      ∙ get_or-drop (to - from) (drop from was) (k - from - (to - from)) d
      ∙ get_or-drop from was (to - from + (k - from - (to - from))) d
      ∙ ap (λ i. get_or was i d) (omega arith)
      ∙ sym (ap (λ t. cond t (get_or made (k - from) d) (get_or was k d)) (run_after from to k b))

-- how long a part is
pub length_part : {X : Type 0} (from to : ℕ) (was : List X) → from ≤ to → to ≤ length was → length (take (to - from) (drop from was)) ≡ to - from
length_part from to was h g = omega (arith, length-take (to - from) (drop from was), length-drop from was)

-- ---- inks

pub inked_as : (n : ℕ) (f g : ℕ → Ink) (out : List Ink) → ((k : ℕ) → k < n → f k ≡ g k) → IsInked n f out → IsInked n g out
inked_as n f g out h i = record { same_length = i.same_length; at = λ k below. i.at k below ∙ h k below }

-- one ink in a part
pub laid : (from to : ℕ) (ink : Ink) (was made : List Ink) → from ≤ to → to ≤ length was → IsInked (length (take (to - from) (drop from was))) (λ k. ink) made
    → IsInked (length was) (λ k. cond (in_run from to k) ink (get_or was k Skip)) (put_mid from (to - from) was made)
laid from to ink was made h g e =
    let n : ℕ = length (take (to - from) (drop from was)) in
    let part : n ≡ to - from = length_part from to was h g in
    let len : length made ≡ to - from = e.same_length ∙ part in
    record {
      same_length = length_put from to was made h g len;
      at = λ k below. put_at from to k was made Skip h g len ∙ by k (cases_lt k from) (cases_lt k to);
    }
  where
    by : (k : ℕ) → (k < from) ⊎ (from ≤ k) → (k < to) ⊎ (to ≤ k) → cond (in_run from to k) (get_or made (k - from) Skip) (get_or was k Skip) ≡ cond (in_run from to k) ink (get_or was k Skip)
    by k (inl a) b = let t = run_before from to k a in rw (t) refl
    by k (inr a) (inr b) = let t = run_after from to k b in rw (t) refl
    by k (inr a) (inl b) =
        ap (λ i. cond (in_run from to k) i (get_or was k Skip)) (e.at (k - from) (omega (arith, length_part from to was h g)))

-- Skip up to a part, and from its end on
pub skipped : (n from to : ℕ) (was first last : List Ink) → length was ≡ n → from ≤ to → to ≤ n → IsInked n (λ k. cond (in_run 0 from k) Skip (get_or was k Skip)) first
    → IsInked (length first) (λ k. cond (in_run to n k) Skip (get_or first k Skip)) last → IsInked n (λ k. cond (in_run from to k) (get_or was k Skip) Skip) last
skipped n from to was first last len h g a b = record {
  same_length = b.same_length ∙ a.same_length;
  at = λ k below. b.at k (omega (arith, a.same_length)) ∙ ap (cond (in_run to n k) Skip) (a.at k below) ∙ by k below (cases_lt k from) (cases_lt k to);
} where
  by : (k : ℕ) → k < n → (k < from) ⊎ (from ≤ k) → (k < to) ⊎ (to ≤ k) → cond (in_run to n k) Skip (cond (in_run 0 from k) Skip (get_or was k Skip)) ≡ cond (in_run from to k) (get_or was k Skip) Skip
  by k below (inl l) m = let s = run_before to n k (omega arith) in let t = run_inside 0 from k (omega arith) l in let u = run_before from to k l in rw (s, t, u) refl
  by k below (inr l) (inl m) = let s = run_before to n k m in let t = run_after 0 from k l in let u = run_inside from to k l m in rw (s, t, u) refl
  by k below (inr l) (inr m) = let s = run_inside to n k m below in let u = run_after from to k m in rw (s, u) refl

-- an ink in the part, after Skip around it
pub run_filled : (n from to : ℕ) (ink : Ink) (was first last : List Ink) → IsInked n (λ k. cond (in_run from to k) (get_or was k Skip) Skip) first
    → IsInked (length first) (λ k. cond (in_run from to k) ink (get_or first k Skip)) last → IsInked n (λ k. cond (in_run from to k) ink Skip) last
run_filled n from to ink was first last a b = record {
  same_length = b.same_length ∙ a.same_length;
  at = λ k below. b.at k (omega (arith, a.same_length)) ∙ ap (cond (in_run from to k) ink) (a.at k below) ∙ by (in_run from to k) (get_or was k Skip);
} where
  by : (t : Bool) (i : Ink) → cond t ink (cond t i Skip) ≡ cond t ink Skip
  by true i = refl
  by false i = refl

-- ---- the row of a sheet

pub row_of_inked : (sheet : Sheet) (y x : ℤ) (n : ℕ) (out : List Ink) → IsInked n (λ k. ink_at sheet (pixel y x k)) out → out ≡ row_of sheet y x n
row_of_inked sheet y x n out i = fill_by_all (λ k. ink_at sheet (pixel y x k)) out n Skip i.same_length i.at

-- an ink where a point passes a test that only points of the rectangle pass
pub ink_of_test : (r : Rect) (f : Point → Bool) (ink : Ink) (p : Point) → (f p ≡ true → holds r p ≡ true) → ink_at (sheet_of r (λ q. cond (f q) ink Skip)) p ≡ cond (f p) ink Skip
ink_of_test r f ink p h = ink_of_sheet r (λ q. cond (f q) ink Skip) p ∙ by (f p) (holds r p) h where
  by : (t held : Bool) → (t ≡ true → held ≡ true) → cond held (cond t ink Skip) Skip ≡ cond t ink Skip
  by t true g = refl
  by false false g = refl
  by true false g = let e = g refl in cc

-- a row that has an ink at just the points that pass
pub row_of_test : (r : Rect) (f : Point → Bool) (ink : Ink) (y x : ℤ) (n : ℕ) (out : List Ink) → ((p : Point) → f p ≡ true → holds r p ≡ true)
    → IsInked n (λ k. cond (f (pixel y x k)) ink Skip) out → out ≡ row_of (sheet_of r (λ q. cond (f q) ink Skip)) y x n
row_of_test r f ink y x n out within i =
    row_of_inked (sheet_of r (λ q. cond (f q) ink Skip)) y x n out (inked_as n (λ k. cond (f (pixel y x k)) ink Skip) _ out (λ k below. sym (ink_of_test r f ink (pixel y x k) (within (pixel y x k)))) i)

-- one ink in the rectangle
pub row_of_fill : (r : Rect) (ink : Ink) (y x : ℤ) (n from to : ℕ) (out : List Ink) → IsPart r y x n from to → IsInked n (λ k. cond (in_run from to k) ink Skip) out → out ≡ row_of (sheet_of r (λ q. ink)) y x n
row_of_fill r ink y x n from to out p i =
    row_of_inked (sheet_of r (λ q. ink)) y x n out
    (inked_as n (λ k. cond (in_run from to k) ink Skip) _ out (λ k below. ap (λ t. cond t ink Skip) (sym (p.at k below)) ∙ sym (ink_of_sheet r (λ q. ink) (pixel y x k))) i)

-- a row within the rectangle of a sheet by points
pub row_inside : (r : Rect) (f : Point → Ink) (y x : ℤ) (n : ℕ) → IsInside r y x n → row_of (sheet_of r f) y x n ≡ map (λ j. f (record { x = x +ℤ pos j; y = y })) (range_with_len 0 n)
row_inside r f y x n h =
    same_maps (λ j. ink_at (sheet_of r f) (pixel y x j)) (λ j. f (pixel y x j)) n Skip (λ k b. ink_of_sheet r f (pixel y x k) ∙ ap (λ t. cond t (f (pixel y x k)) Skip) (h.all k b))

-- a part that got its inks, with Skip around it
pub row_of_part : (r : Rect) (f : Point → Ink) (y x : ℤ) (n from to : ℕ) (was out made : List Ink) → IsPart r y x n from to → IsInked n (λ k. cond (in_run from to k) (get_or was k Skip) Skip) out
    → made ≡ row_of (sheet_of r f) y (x +ℤ pos from) (length (take (to - from) (drop from out))) → put_mid from (to - from) out made ≡ row_of (sheet_of r f) y x n
row_of_part r f y x n from to was out made p i e = row_of_inked (sheet_of r f) y x n (put_mid from (to - from) out made) (record {
  same_length = length_put from to out made p.ordered (omega (arith, p.within, i.same_length)) len ∙ i.same_length;
  at = λ k below. put_at from to k out made Skip p.ordered (omega (arith, p.within, i.same_length)) len ∙ by k below (cases_lt k from) (cases_lt k to);
}) where
  m : length (take (to - from) (drop from out)) ≡ to - from
  m = length_part from to out p.ordered (omega (arith, p.within, i.same_length))

  len : length made ≡ to - from
  len = ap length e ∙ length-map-range_with_len (λ j. ink_at (sheet_of r f) (pixel y (x +ℤ pos from) j)) 0 (length (take (to - from) (drop from out))) ∙ m

  outside : (k : ℕ) → k < n → in_run from to k ≡ false → cond (in_run from to k) (get_or made (k - from) Skip) (get_or out k Skip) ≡ ink_at (sheet_of r f) (pixel y x k)
  outside k below t =
      let none : get_or out k Skip ≡ Skip = i.at k below ∙ ap (λ b. cond b (get_or was k Skip) Skip) t in
      ap (λ b. cond b (get_or made (k - from) Skip) (get_or out k Skip)) t ∙ none
      ∙ sym (ink_of_sheet r f (pixel y x k) ∙ ap (λ b. cond b (f (pixel y x k)) Skip) (p.at k below ∙ t))

  by : (k : ℕ) → k < n → (k < from) ⊎ (from ≤ k) → (k < to) ⊎ (to ≤ k) → cond (in_run from to k) (get_or made (k - from) Skip) (get_or out k Skip) ≡ ink_at (sheet_of r f) (pixel y x k)
  by k below (inl a) b = outside k below (run_before from to k a)
  by k below (inr a) (inr b) = outside k below (run_after from to k b)
  by k below (inr a) (inl b) =
      let same : (x +ℤ pos from) +ℤ pos (k - from) ≡ x +ℤ pos k = omega (arith, ints) in
      ap (λ t. cond t (get_or made (k - from) Skip) (get_or out k Skip)) (run_inside from to k a b)
      ∙ ap (λ l. get_or l (k - from) Skip) e
      ∙ get_or-map-range_with_len (λ j. ink_at (sheet_of r f) (pixel y (x +ℤ pos from) j)) 0 (length (take (to - from) (drop from out))) (k - from) (k - from) Skip (omega (arith, m)) (omega arith)
      ∙ ap (λ c. ink_at (sheet_of r f) (record { x = c; y = y })) same
