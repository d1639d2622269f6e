-- Pixels that a paint lays, and how many of them take ink.
use Rattle.std.proofs.Common.{◌≡◌, ℕ, ◌+◌, ◌≤◌, List, [], ◌∷◌, ◌++◌, map, length, Bool, true, false, cond, not, ◌&&◌, refl, ap, sym, ◌∙◌, arith, add-zero, length-append}
use Rattle.std.specs.List.{filter, range_with_len}
use Rattle.std.proofs.lemmas.List.Elements.{filter-append}
use Rattle.std.proofs.lemmas.List.FromFn.{map-range_with_len_more}
use Rattle.qws_base.specs.Inks.{ink_after, is_skip}
use Rattle.qws_base.specs.declared.colours.Depth.{Depth}
use Rattle.qws_base.specs.declared.inks.Ink.{Ink}
use Rattle.qws_base.specs.declared.inks.Ink.TheVariants.{Skip}

-- Skip leaves a pixel as it was
pub laid : (owned : Bool) (depth : Depth) (ink : Ink) (old : ℕ) → ink_after depth (cond owned ink Skip) old ≡ cond owned (ink_after depth ink old) old
laid true depth ink old = refl
laid false depth ink old = refl

-- a pixel takes ink where it is the slot's and the picture has ink there
pub inked_both : (owned : Bool) (ink : Ink) → not (is_skip (cond owned ink Skip)) ≡ cond owned (not (is_skip ink)) false
inked_both true ink = refl
inked_both false ink = refl

map_same : (xs : List ℕ) → map (λ k. k) xs ≡ xs
map_same [] = refl
map_same (x ∷ xs) = ap (λ l. x ∷ l) (map_same xs)

range_more : (n : ℕ) → range_with_len 0 (n + 1) ≡ range_with_len 0 n ++ n ∷ []
range_more n = sym (map_same (range_with_len 0 (n + 1))) ∙ map-range_with_len_more (λ k. k) 0 n n (omega arith) ∙ ap (λ l. l ++ n ∷ []) (map_same (range_with_len 0 n))

kept_one : (q r : ℕ → Bool) (n : ℕ) (a b : Bool) → r n ≡ a → q n ≡ b → length (filter q (filter r (n ∷ []))) ≡ cond (cond a b false) 1 0
kept_one q r n true true owned inked = ap (λ x. length (filter q (cond x (n ∷ []) []))) owned ∙ ap (λ x. length (cond x (n ∷ []) [])) inked
kept_one q r n true false owned inked = ap (λ x. length (filter q (cond x (n ∷ []) []))) owned ∙ ap (λ x. length (cond x (n ∷ []) [])) inked
kept_one q r n false b owned inked = ap (λ x. length (filter q (cond x (n ∷ []) []))) owned

pub kept_more : (q r : ℕ → Bool) (n : ℕ) → length (filter q (filter r (range_with_len 0 (n + 1)))) ≡ length (filter q (filter r (range_with_len 0 n))) + cond (cond (r n) (q n) false) 1 0
kept_more q r n =
    ap (λ l. length (filter q (filter r l))) (range_more n)
    ∙ ap (λ l. length (filter q l)) (filter-append r (range_with_len 0 n) (n ∷ []))
    ∙ ap length (filter-append q (filter r (range_with_len 0 n)) (filter r (n ∷ [])))
    ∙ length-append (filter q (filter r (range_with_len 0 n))) (filter q (filter r (n ∷ [])))
    ∙ ap (λ k. length (filter q (filter r (range_with_len 0 n))) + k) (kept_one q r n (r n) (q n) refl refl)
