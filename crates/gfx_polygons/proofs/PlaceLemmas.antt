-- Places at which edges begin to count.
use Rattle.std.proofs.Common.{ℕ, zero, suc, ◌≡◌, ◌==◌, ◌+◌, ◌-◌, ◌<◌, ◌≤◌, ◌%◌, ℤ, nat_le, min, Bool, true, false, cond, List, [], ◌∷◌, ◌++◌, length, take, get_or, length-append, add-one, refl, sym, ap, subst, ◌∙◌, arith, ◌⊎◌, inl, inr}
use Rattle.std.proofs.lemmas.List.{take_all, get_or_default}
use Rattle.std.proofs.lemmas.List.Elements.{filter-append}
use Rattle.std.proofs.lemmas.List.Sums.{length-filter}
use Rattle.std.proofs.lemmas.List.Sorted.{sum_by-IsPermutation}
use Rattle.std.proofs.lemmas.Bool.{cases_lt}
use Rattle.std.specs.List.{filter}
use Rattle.std.specs.List.Sorted.{IsPermutation, IsNonDecreasing}
use borrow.Author.Tests.{leb-true}
use Rattle.qws_base.specs.declared.points.Point.{Point}
use Rattle.qws_base.specs.declared.inks.Ink.{Ink}
use Rattle.qws_base.specs.declared.inks.Ink.TheVariants.{Skip}
use Rattle.qws_base.specs.Points.{holds}
use Rattle.qws_base.specs.Sheets.{row_of}
use Rattle.picture_rows.specs.Boxes.{half_open_reach}
use Rattle.picture_rows.specs.Runs.{pixel, in_run, IsInked}
use Rattle.picture_rows.proofs.RunLemmas.{run_before, run_inside}
use Rattle.picture_rows.proofs.RowLemmas.{inked_as, row_of_test}
use Rattle.gfx_polygons.specs.Polygons.{counts, edges_from, ring, counted, is_inside, PolygonView, polygon_sheet}
use Rattle.gfx_polygons.specs.Crossings.{passed, IsCrossing, AreCrossings}
use Rattle.gfx_polygons.proofs.BoxLemmas.{inside_within}

-- ---- one more of a list

length_one : {X : Type 0} (f : X → Bool) (x : X) → length (filter f (x ∷ [])) ≡ cond (f x) 1 0
length_one f x = by (f x) where
  by : (b : Bool) → length (cond b (x ∷ []) []) ≡ cond b 1 0
  by true = refl
  by false = refl

filter_push : {X : Type 0} (f : X → Bool) (xs : List X) (x : X) → length (filter f (xs ++ x ∷ [])) ≡ length (filter f xs) + cond (f x) 1 0
filter_push f xs x = ap length (filter-append f xs (x ∷ [])) ∙ length-append (filter f xs) (filter f (x ∷ [])) ∙ ap (λ n. length (filter f xs) + n) (length_one f x)

pub counted_push : (edges : List (Point × Point)) (e : Point × Point) (p : Point) → counted (edges ++ e ∷ []) p ≡ counted edges p + cond (counts e.0 e.1 p) 1 0
counted_push edges e p = filter_push (λ f. counts f.0 f.1 p) edges e

-- ---- the edges of a ring, one after another

pub edges_more : (a : Point) (ps : List Point) (i : ℕ) (d : Point) → i < length ps → take (suc i) (edges_from a ps) ≡ take i (edges_from a ps) ++ (get_or (a ∷ ps) i d, get_or ps i d) ∷ []
edges_more a [] i d h = absurd (omega arith)
edges_more a (b ∷ rest) zero d h = refl
edges_more a (b ∷ rest) (suc i) d h = ap (λ l. (a, b) ∷ l) (edges_more b rest i d (omega arith))

length_edges : (a : Point) (ps : List Point) → length (edges_from a ps) ≡ length ps
length_edges a [] = refl
length_edges a (b ∷ rest) = ap suc (length_edges b rest)

pub ring_of : (ps : List Point) (last : Point) → 0 < length ps → last ≡ get_or ps (length ps - 1) last → ring ps ≡ edges_from last ps
ring_of [] last h e = absurd (omega arith)
ring_of (a ∷ rest) last h e =
    let n : length (a ∷ rest) - 1 ≡ length rest = omega arith in
    ap (λ q. edges_from q (a ∷ rest)) (get_or_default (a ∷ rest) (length rest) a last (omega arith) ∙ ap (λ m. get_or (a ∷ rest) m last) (sym n) ∙ sym e)

pub all_edges : (a : Point) (ps : List Point) (i : ℕ) → i ≡ length ps → take i (edges_from a ps) ≡ edges_from a ps
all_edges a ps i e = take_all i (edges_from a ps) (omega (arith, length_edges a ps))

-- an edge more, with its place
pub crossings_more : (a : Point) (ps : List Point) (i : ℕ) (from to : Point) (y x : ℤ) (n place : ℕ) (was now : List ℕ) → i < length ps → from ≡ get_or (a ∷ ps) i from → to ≡ get_or ps i to
    → AreCrossings (take i (edges_from a ps)) y x n was → IsCrossing from to y x n place → ((k : ℕ) → k < n → passed now k ≡ passed was k + cond (nat_le place k) 1 0)
    → AreCrossings (take (i + 1) (edges_from a ps)) y x n now
crossings_more a ps i from to y x n place was now h f t are c more = record {
  at = λ k below.
      let one : i + 1 ≡ suc i = omega arith in
      ap (λ m. counted (take m (edges_from a ps)) (pixel y x k)) one
      ∙ ap (λ l. counted l (pixel y x k)) (edges_more a ps i from h)
      ∙ counted_push (take i (edges_from a ps)) (get_or (a ∷ ps) i from, get_or ps i from) (pixel y x k)
      ∙ ap (λ q. counted (take i (edges_from a ps)) (pixel y x k) + cond (counts q (get_or ps i from) (pixel y x k)) 1 0) (sym f)
      ∙ ap (λ q. counted (take i (edges_from a ps)) (pixel y x k) + cond (counts from q (pixel y x k)) 1 0) (get_or_default ps i from to h ∙ sym t)
      ∙ ap (λ v. v + cond (counts from to (pixel y x k)) 1 0) (are.at k below)
      ∙ ap (λ b. passed was k + cond b 1 0) (c.at k below)
      ∙ sym (more k below);
}

pub next_from : (a : Point) (ps : List Point) (i : ℕ) (d e : Point) → i < length ps → get_or ps i d ≡ get_or (a ∷ ps) (i + 1) e
next_from a ps i d e h = rw add-one (get_or_default ps i d e h)

pub crossings_all : (ps : List Point) (i : ℕ) (d : Point) (y x : ℤ) (n : ℕ) (places : List ℕ) → 0 < length ps → i ≡ length ps
    → AreCrossings (take i (edges_from (get_or ps (length ps - 1) d) ps)) y x n places → AreCrossings (ring ps) y x n places
crossings_all ps i d y x n places some e are =
    let last : Point = get_or ps (length ps - 1) d in
    subst (λ es. AreCrossings es y x n places) (all_edges last ps i e ∙ sym (ring_of ps last some (get_or_default ps (length ps - 1) d last (omega arith)))) are

-- ---- sorted places

none_passed : (ps : List ℕ) (j : ℕ) → ((k : ℕ) → k < length ps → j < get_or ps k 0) → passed ps j ≡ 0
none_passed [] j h = refl
none_passed (p ∷ ps) j h = by (nat_le p j) refl (none_passed ps j (λ k g. h (suc k) (omega arith))) where
  by : (b : Bool) → nat_le p j ≡ b → passed ps j ≡ 0 → length (cond b (p ∷ filter (λ v. nat_le v j) ps) (filter (λ v. nat_le v j) ps)) ≡ 0
  by true e later = absurd (omega (arith, leb-true p j e, h 0 (omega arith)))
  by false e later = later

too_far : (a b : ℕ) → nat_le a b ≡ false → a ≤ b → ⊥
too_far a b e k = grind arith

passed_front : (ps : List ℕ) (i j : ℕ) → i ≤ length ps → ((k : ℕ) → k < i → get_or ps k 0 ≤ j) → ((k : ℕ) → i ≤ k → k < length ps → j < get_or ps k 0) → passed ps j ≡ i
passed_front ps zero j h f g = none_passed ps j (λ k b. g k (omega arith) b)
passed_front [] (suc i) j h f g = absurd (omega arith)
passed_front (p ∷ ps) (suc i) j h f g =
    by (nat_le p j) refl (passed_front ps i j (omega arith) (λ k b. f (suc k) (omega arith)) (λ k b d. g (suc k) (omega arith) (omega arith))) where
      by : (b : Bool) → nat_le p j ≡ b → passed ps j ≡ i → length (cond b (p ∷ filter (λ v. nat_le v j) ps) (filter (λ v. nat_le v j) ps)) ≡ suc i
      by true e later = ap suc later
      by false e later = absurd (too_far p j e (f 0 (omega arith)))

-- the first i of sorted places are j or less, and the next one is not
pub passed_sorted : (ps : List ℕ) (i j : ℕ) → IsNonDecreasing ps → i ≤ length ps → ((k : ℕ) → k < i → get_or ps k 0 ≤ j) → (i < length ps → j < get_or ps i 0) → passed ps j ≡ i
passed_sorted ps i j up h f g = passed_front ps i j h f (λ k a b. omega (arith, g (omega arith), up i k 0 a b))

pub passed_permuted : (ps qs : List ℕ) (j : ℕ) → IsPermutation ps qs → passed qs j ≡ passed ps j
passed_permuted ps qs j h = length-filter (λ v. nat_le v j) qs ∙ sum_by-IsPermutation (λ v. cond (nat_le v j) 1 0) ps qs h ∙ sym (length-filter (λ v. nat_le v j) ps)

-- ---- a row filled between places

-- the first i places are passed, and the row is filled up to a place
pub record IsFilledTo (places : List ℕ) (ink : Ink) (i at n : ℕ) (out : List Ink) : Type 0 where
  pub same_length : length out ≡ n
  pub within : at ≤ n
  pub next : i < length places → at ≤ get_or places i 0
  pub gone : (j k : ℕ) → j < i → at ≤ k → k < n → get_or places j 0 ≤ k
  pub inked : (k : ℕ) → k < at → get_or out k Skip ≡ cond (passed places k % 2 == 1) ink Skip

pub filled_none : (places : List ℕ) (ink : Ink) (n : ℕ) (out : List Ink) → length out ≡ n → IsFilledTo places ink 0 0 n out
filled_none places ink n out e = record {
  same_length = e;
  within = omega arith;
  next = λ h. omega arith;
  gone = λ j k h. absurd (omega arith);
  inked = λ k h. absurd (omega arith);
}

-- the ink laid up to the next place
inked_to : (places : List ℕ) (ink new : Ink) (i at to n : ℕ) (was now : List Ink) → IsNonDecreasing places → i ≤ length places → to ≤ n → (i < length places → to ≤ get_or places i 0)
    → new ≡ cond (i % 2 == 1) ink Skip → IsFilledTo places ink i at n was → IsInked (length was) (λ k. cond (in_run at to k) new (get_or was k Skip)) now
    → (k : ℕ) → k < to → get_or now k Skip ≡ cond (passed places k % 2 == 1) ink Skip
inked_to places ink new i at to n was now up few end h v f l k below = l.at k (omega (arith, f.same_length)) ∙ by (cases_lt k at) where
  by : (k < at) ⊎ (at ≤ k) → cond (in_run at to k) new (get_or was k Skip) ≡ cond (passed places k % 2 == 1) ink Skip
  by (inl a) = ap (λ t. cond t new (get_or was k Skip)) (run_before at to k a) ∙ f.inked k a
  by (inr a) =
      ap (λ t. cond t new (get_or was k Skip)) (run_inside at to k a below)
      ∙ v
      ∙ ap (λ m. cond (m % 2 == 1) ink Skip) (sym (passed_sorted places i k up few (λ j b. f.gone j k b a (omega arith)) (λ b. omega (arith, h b))))

pub filled_more : (places : List ℕ) (ink new : Ink) (i at to n : ℕ) (was now : List Ink) → IsNonDecreasing places → i < length places → to ≡ min n (get_or places i 0)
    → new ≡ cond (i % 2 == 1) ink Skip → IsFilledTo places ink i at n was → IsInked (length was) (λ k. cond (in_run at to k) new (get_or was k Skip)) now → IsFilledTo places ink (i + 1) to n now
filled_more places ink new i at to n was now up h e v f l = record {
  same_length = l.same_length ∙ f.same_length;
  within = omega arith;
  next = λ b. omega (arith, up i (i + 1) 0 (omega arith) b);
  gone = λ j k b a g. by j k a g (cases_lt j i) b;
  inked = inked_to places ink new i at to n was now up (omega arith) (omega arith) (λ b. omega arith) v f l;
} where
  by : (j k : ℕ) → to ≤ k → k < n → (j < i) ⊎ (i ≤ j) → j < i + 1 → get_or places j 0 ≤ k
  by j k a g (inl b) c = f.gone j k b (omega (arith, f.within, f.next h)) g
  by j k a g (inr b) c = let same : j ≡ i = omega arith in rw same (omega arith)

pub filled_end : (places : List ℕ) (ink new : Ink) (i at n : ℕ) (was now : List Ink) → IsNonDecreasing places → i ≡ length places → new ≡ cond (length places % 2 == 1) ink Skip
    → IsFilledTo places ink i at n was → IsInked (length was) (λ k. cond (in_run at n k) new (get_or was k Skip)) now → IsInked n (λ k. cond (passed places k % 2 == 1) ink Skip) now
filled_end places ink new i at n was now up e v f l = record {
  same_length = l.same_length ∙ f.same_length;
  at = inked_to places ink new i at n n was now up (omega arith) (omega arith) (λ b. absurd (omega arith)) (v ∙ ap (λ m. cond (m % 2 == 1) ink Skip) (sym e)) f l;
}

pub filled_permuted : (ps qs : List ℕ) (ink : Ink) (n : ℕ) (out : List Ink) → IsPermutation ps qs → IsInked n (λ k. cond (passed qs k % 2 == 1) ink Skip) out → IsInked n (λ k. cond (passed ps k % 2 == 1) ink Skip) out
filled_permuted ps qs ink n out h = inked_as n _ _ out (λ k below. ap (λ m. cond (m % 2 == 1) ink Skip) (passed_permuted ps qs k h))

-- ---- the row

within_reach : (ps : List Point) (p : Point) → is_inside ps p ≡ true → holds (half_open_reach ps) p ≡ true
within_reach [] p t = cc
within_reach (a ∷ rest) p t = inside_within a rest p t

pub row_of_crossings : (v : PolygonView) (y x : ℤ) (n : ℕ) (places : List ℕ) (out : List Ink) → AreCrossings (ring v.points) y x n places → IsInked n (λ k. cond (passed places k % 2 == 1) v.ink Skip) out
    → out ≡ row_of (polygon_sheet v) y x n
row_of_crossings v y x n places out are i =
    row_of_test (half_open_reach v.points) (is_inside v.points) v.ink y x n out (within_reach v.points)
    (inked_as n _ _ out (λ k below. ap (λ m. cond (m % 2 == 1) v.ink Skip) (sym (are.at k below))) i)
