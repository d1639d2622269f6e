-- Scenes that a step makes in place, pixel by pixel.
use Rattle.std.proofs.Common.{◌≡◌, ℕ, ◌+◌, ◌<◌, ◌≤◌, List, length, get_or, set, Option, None, Some, refl, ap, sym, ◌∙◌, arith, cond, is_none, inl, inr}
use Rattle.std.specs.Prelude.{slice_index}
use Rattle.std.specs.Option.{option_map_or}
use Rattle.std.proofs.lemmas.List.{get_or-set_other, get_or-set_same}
use Rattle.std.proofs.lemmas.Bool.{cases_eq}
use Rattle.qws_base.specs.Windows.{Layout}
use Rattle.qws_base.specs.Scenes.{Setting, carried_from, pixel_after_step}

carried_same : (o : Option ℕ) (scene now : List ℕ) (x y : ℕ) → x ≡ y → ((q : ℕ) → o ≡ Some q → get_or now q 0 ≡ get_or scene q 0) → option_map_or (slice_index now) o x ≡ option_map_or (slice_index scene) o y
carried_same None scene now x y same from = same
carried_same (Some q) scene now x y same from = from q refl

-- a pixel after a step depends on what it was, and on what is carried there
pub same_step : (setting : Setting) (before after : Layout) (moved : Option ℕ) (scene now : List ℕ) (p : ℕ) → get_or now p 0 ≡ get_or scene p 0 → ((q : ℕ) → carried_from setting.size before after moved p ≡ Some q → get_or now q 0 ≡ get_or scene q 0) → pixel_after_step setting before after moved now p ≡ pixel_after_step setting before after moved scene p
same_step setting before after moved scene now p here from =
    carried_same (carried_from setting.size before after moved p) scene now _ _ (ap (λ v. cond (is_none (after.owner p)) setting.backdrop v) here) from

-- a pixel is written, and the others stay
written_at : (xs : List ℕ) (i x k v : ℕ) → i < length xs → (k ≡ i → x ≡ v) → ((k ≡ i → ⊥) → get_or xs k 0 ≡ v) → get_or (set xs i x) k 0 ≡ v
written_at xs i x k v below here other =
    elim (cases_eq k i) [
      | inl same ↦ ap (λ j. get_or (set xs i x) j 0) same ∙ get_or-set_same xs i x 0 below ∙ here same
      | inr apart ↦ get_or-set_other xs i k x 0 apart ∙ other apart
    ]

-- one more pixel, from the first on
pub rise_more : (f : ℕ → ℕ) (xs : List ℕ) (i x : ℕ) → i < length xs → x ≡ f i → ((k : ℕ) → k < i → get_or xs k 0 ≡ f k) → (k : ℕ) → k < i + 1 → get_or (set xs i x) k 0 ≡ f k
rise_more f xs i x below is before k early =
    written_at xs i x k (f k) below (λ same. is ∙ ap f (sym same)) (λ apart. before k (omega arith))

-- one more pixel, from the last on
pub fall_more : (f : ℕ → ℕ) (xs : List ℕ) (n i x : ℕ) → i < length xs → x ≡ f i → ((k : ℕ) → i + 1 ≤ k → k < n → get_or xs k 0 ≡ f k) → (k : ℕ) → i ≤ k → k < n → get_or (set xs i x) k 0 ≡ f k
fall_more f xs n i x below is before k late within =
    written_at xs i x k (f k) below (λ same. is ∙ ap f (sym same)) (λ apart. before k (omega arith) within)
