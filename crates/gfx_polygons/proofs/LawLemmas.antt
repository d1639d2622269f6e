-- Rings of triangles.
use Rattle.std.proofs.Common.{ℕ, suc, ◌≡◌, ◌%◌, ◌==◌, Bool, true, false, not, cond, List, [], ◌∷◌, length, refl, sym, ap, ◌∙◌, arith}
use Rattle.std.specs.List.{filter}
use Rattle.qws_base.specs.declared.points.Point.{Point}
use Rattle.gfx_polygons.specs.Polygons.{counts, is_inside, ring}
use Rattle.gfx_polygons.proofs.EdgeLemmas.{counts_turned}

abbrev pub flip : Bool → Bool → Bool
flip b r = cond b (not r) r

-- an odd number of a list's elements pass
abbrev pub odd : {X : Type 0} → (X → Bool) → List X → Bool
odd f [] = false
odd f (x ∷ xs) = flip (f x) (odd f xs)

next_odd : (n : ℕ) → (suc n % 2 == 1) ≡ not (n % 2 == 1)
next_odd n = grind arith

pub odd_is : {X : Type 0} (f : X → Bool) (xs : List X) → (length (filter f xs) % 2 == 1) ≡ odd f xs
odd_is f [] = refl
odd_is f (x ∷ xs) = by (f x) (odd_is f xs) where
  by : (b : Bool) → (length (filter f xs) % 2 == 1) ≡ odd f xs → (length (cond b (x ∷ filter f xs) (filter f xs)) % 2 == 1) ≡ flip b (odd f xs)
  by true e = next_odd (length (filter f xs)) ∙ ap not e
  by false e = e

twice : (b r : Bool) → flip b (flip b r) ≡ r
twice true true = refl
twice true false = refl
twice false r = refl

swapped : (a b r : Bool) → flip a (flip b r) ≡ flip b (flip a r)
swapped true true r = refl
swapped true false r = refl
swapped false true r = refl
swapped false false r = refl

out_of : (a b r : Bool) → flip (flip a b) r ≡ flip a (flip b r)
out_of true true true = refl
out_of true true false = refl
out_of true false r = refl
out_of false b r = refl

-- two triangles over a side: it is counted twice
shared : (ca ab bc ad db : Bool) → flip (flip ca (flip ab (flip bc false))) (flip ad (flip ab (flip db false))) ≡ flip ca (flip ad (flip db (flip bc false)))
shared ca ab bc ad db =
    out_of ca (flip ab (flip bc false)) (flip ad (flip ab (flip db false)))
    ∙ ap (flip ca) (
    out_of ab (flip bc false) (flip ad (flip ab (flip db false)))
    ∙ ap (flip ab) (out_of bc false (flip ad (flip ab (flip db false))) ∙ swapped bc ad (flip ab (flip db false)) ∙ ap (flip ad) (swapped bc ab (flip db false)) ∙ swapped ad ab (flip bc (flip db false)))
    ∙ twice ab (flip ad (flip bc (flip db false)))
    ∙ ap (flip ad) (swapped bc db false))

pub inside_is : (points : List Point) (p : Point) → is_inside points p ≡ odd (λ e. counts e.0 e.1 p) (ring points)
inside_is points p = odd_is (λ e. counts e.0 e.1 p) (ring points)

pub triangles : (a b c d p : Point) → is_inside (a ∷ d ∷ b ∷ c ∷ []) p ≡ cond (is_inside (a ∷ b ∷ c ∷ []) p) (not (is_inside (a ∷ b ∷ d ∷ []) p)) (is_inside (a ∷ b ∷ d ∷ []) p)
triangles a b c d p =
    inside_is (a ∷ d ∷ b ∷ c ∷ []) p
    ∙ sym (shared (counts c a p) (counts a b p) (counts b c p) (counts a d p) (counts d b p))
    ∙ ap (λ r. flip (flip (counts c a p) (flip (counts a b p) (flip (counts b c p) false))) (flip r (flip (counts a b p) (flip (counts d b p) false)))) (counts_turned a d p)
    ∙ ap (λ r. flip (flip (counts c a p) (flip (counts a b p) (flip (counts b c p) false))) (flip (counts d a p) (flip (counts a b p) (flip r false)))) (counts_turned d b p)
    ∙ ap (λ r. flip r (odd (λ e. counts e.0 e.1 p) (ring (a ∷ b ∷ d ∷ [])))) (sym (inside_is (a ∷ b ∷ c ∷ []) p))
    ∙ ap (λ r. flip (is_inside (a ∷ b ∷ c ∷ []) p) r) (sym (inside_is (a ∷ b ∷ d ∷ []) p))
