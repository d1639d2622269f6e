-- The raster of a picture, pixel by pixel.
use Rattle.std.proofs.Common.{◌≡◌, ℕ, ◌+◌, ◌-◌, ◌*◌, List, [], ◌∷◌, ◌++◌, length, take, drop, refl, ap, sym, ◌∙◌, arith, suc, zero}
use Rattle.std.specs.List.{flat_map}
use Rattle.session_journal.specs.Texts.{colour_bytes}
use Rattle.session_replay.specs.Verdicts.{ArePixelsOf}

-- three bytes more
dropped : (a b c : ℕ) (rest : List ℕ) (p : ℕ) → drop (3 * suc p) (a ∷ b ∷ c ∷ rest) ≡ drop (3 * p) rest
dropped a b c rest p = let three : 3 * suc p ≡ suc (suc (suc (3 * p))) = omega arith in ap (λ n. drop n (a ∷ b ∷ c ∷ rest)) three

pub pixels_whole : (shown raster : List ℕ) → length raster ≡ 3 * length shown → ArePixelsOf shown raster → raster ≡ flat_map colour_bytes shown
pixels_whole [] [] long each = refl
pixels_whole [] (a ∷ raster) long each = absurd (omega (arith, long))
pixels_whole (s ∷ shown) [] long each = absurd (omega (arith, long))
pixels_whole (s ∷ shown) (a ∷ []) long each = absurd (omega (arith, long))
pixels_whole (s ∷ shown) (a ∷ b ∷ []) long each = absurd (omega (arith, long))
pixels_whole (s ∷ shown) (a ∷ b ∷ c ∷ raster) long each =
    let first : a ∷ b ∷ c ∷ [] ≡ colour_bytes s = each 0 (omega arith) in
    ap (λ (bytes : List ℕ). bytes ++ raster) first
    ∙ ap (λ (bytes : List ℕ). colour_bytes s ++ bytes)
    (pixels_whole shown raster (omega (arith, long)) (λ p below. ap (take 3) (sym (dropped a b c raster p)) ∙ each (suc p) (omega (arith, below))))

pub pixels_each : (shown : List ℕ) → ArePixelsOf shown (flat_map colour_bytes shown)
pixels_each [] p below = absurd (omega (arith, below))
pixels_each (s ∷ shown) zero below = refl
pixels_each (s ∷ shown) (suc p) below = ap (take 3) (dropped _ _ _ (flat_map colour_bytes shown) p) ∙ pixels_each shown p (omega (arith, below))

-- a pixel's bytes, as a slice from their beginning to their end
pub three_bytes : (raster : List ℕ) (p : ℕ) → take ((3 * p + 3) - 3 * p) (drop (3 * p) raster) ≡ take 3 (drop (3 * p) raster)
three_bytes raster p = let three : (3 * p + 3) - 3 * p ≡ 3 = omega arith in ap (λ n. take n (drop (3 * p) raster)) three
