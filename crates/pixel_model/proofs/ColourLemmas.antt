-- The pixels of a picture stay scene colours.
use Rattle.std.proofs.Common.{◌≡◌, ℕ, ◌+◌, ◌<◌, ◌≤◌, List, ◌++◌, length, get_or, set, take, drop, map, Option, None, Some, Bool, true, false, cond, is_none, refl, ap, sym, ◌∙◌, subst, arith, inl, inr, lit<}
use Rattle.std.specs.Prelude.{slice_index}
use Rattle.std.specs.Option.{option_map_or}
use Rattle.std.specs.List.{range_with_len}
use Rattle.std.proofs.lemmas.List.{get_or-set_other, get_or-set_same, get_or_past}
use Rattle.std.proofs.Math.Seq.{take-append_seam}
use Rattle.std.proofs.lemmas.List.FromFn.{get_or-map-range_with_len, length-map-range_with_len}
use Rattle.std.proofs.lemmas.Bool.{cases_eq, cases_lt}
use Rattle.qws_base.specs.Colours.{IsSceneColour}
use Rattle.qws_base.specs.Windows.{Layout}
use Rattle.qws_base.specs.Scenes.{Setting, scene_after_step, pixel_after_step, carried_from}
use Rattle.qws_base.specs.Points.{pixel_count}
use Rattle.qws_base.specs.declared.colours.Depth.{Depth}
use Rattle.qws_base.specs.declared.colours.Depth.TheVariants.{Full, Narrow}
use Rattle.pixel_model.specs.Drawn.{AllSceneColours, IsDrawn}

black : (depth : Depth) → IsSceneColour depth 0
black Full = lit< tt
black Narrow = lit< tt

-- one pixel is written
pub colours_more : (depth : Depth) (xs : List ℕ) (i x : ℕ) → i < length xs → IsSceneColour depth x → AllSceneColours depth xs → AllSceneColours depth (set xs i x)
colours_more depth xs i x below colour all k =
    elim (cases_eq k i) [
      | inl same ↦ subst (IsSceneColour depth) (sym (ap (λ j. get_or (set xs i x) j 0) same ∙ get_or-set_same xs i x 0 below)) colour
      | inr apart ↦ subst (IsSceneColour depth) (sym (get_or-set_other xs i k x 0 apart)) (all k)
    ]

made_colours : (depth : Depth) (n : ℕ) (f : ℕ → ℕ) → ((p : ℕ) → IsSceneColour depth (f p)) → AllSceneColours depth (map f (range_with_len 0 n))
made_colours depth n f each p =
    elim (cases_lt p n) [
      | inl below ↦ subst (IsSceneColour depth) (sym (get_or-map-range_with_len f 0 n p p 0 below (omega arith))) (each p)
      | inr past ↦ subst (IsSceneColour depth) (sym (get_or_past (map f (range_with_len 0 n)) p 0 (omega (arith, length-map-range_with_len f 0 n)))) (black depth)
    ]

carried_colour : (depth : Depth) (scene : List ℕ) (o : Option ℕ) (b : Bool) (backdrop v : ℕ) → AllSceneColours depth scene → IsSceneColour depth backdrop → IsSceneColour depth v → IsSceneColour depth (option_map_or (slice_index scene) o (cond b backdrop v))
carried_colour depth scene None true backdrop v all bare here = bare
carried_colour depth scene None false backdrop v all bare here = here
carried_colour depth scene (Some q) b backdrop v all bare here = all q

-- a step keeps them
pub step_colours : (setting : Setting) (before after : Layout) (moved : Option ℕ) (scene : List ℕ) → IsSceneColour setting.depth setting.backdrop → AllSceneColours setting.depth scene → AllSceneColours setting.depth (scene_after_step setting before after moved scene)
step_colours setting before after moved scene bare all =
    made_colours setting.depth (pixel_count setting.size) (pixel_after_step setting before after moved scene)
    (λ p. carried_colour setting.depth scene (carried_from setting.size before after moved p) (is_none (after.owner p)) setting.backdrop (get_or scene p 0) all bare (all p))

-- cells that were written through a loan
pub redrawn : (setting : Setting) (len : ℕ) (old new : List ℕ) → len ≡ length new → IsDrawn setting old → length new ≡ length old → AllSceneColours setting.depth new → IsDrawn setting (take len (new ++ drop (length new) old))
redrawn setting len old new long drawn same colours =
    subst (IsDrawn setting) (sym (ap (λ n. take n (new ++ drop (length new) old)) long ∙ take-append_seam new (drop (length new) old)))
    (record { is_screen = drawn.is_screen; pixels = same ∙ drawn.pixels; backdrop = drawn.backdrop; colours = colours })
