use Rattle.std.proofs.Common.{ℕ, map, sym, ap, ◌∙◌, arith}
use Rattle.std.specs.Prelude.{slice_index}
use Rattle.std.proofs.lemmas.List.{take_all}
use Rattle.qws_base.specs.Colours.{scene_colour}
use Rattle.pixel_model.specs.Drawn.{Drawn}
use Rattle.step_regions.specs.Carried.{source}
use Rattle.canvas_steps.proofs.Pushing.{colours_more}
use Rattle.canvas_steps.proofs.patches.colours_for.Goals as goal

pub source_of-from-requires-clause-pixel : goal.source_of-from-requires-clause-pixel
source_of-from-requires-clause-pixel c = let test = c.loop-p-test.true in c.requires.pixels c.loop-p.p-index 0 (omega arith)

pub source_of-from-requires-clause-has : goal.source_of-from-requires-clause-has
source_of-from-requires-clause-has c = let test = c.loop-p-test.true in c.requires.sources c.loop-p.p-index 0 (omega arith)

pub loop-p-preserved : goal.loop-p-preserved
loop-p-preserved c =
    let test = c.loop-p-test.true in
    let canvas : Drawn = c.args.canvas.now in
    let depth = canvas.setting.depth in
    let f : ℕ → ℕ = λ p. slice_index canvas.scene (source c.args.carried.now.falling c.args.carried.now.by p) in
    colours_more (scene_colour depth) f c.args.pixels.now c.loop-p.colours.items _ c.loop-p.p-index 0 _ (omega arith) c.loop-p.invariant c.in_ok-push.ensures.items
    (ap (λ d. scene_colour d c.colour_for.result) (sym c.depth-depth.ensures) ∙ c.colour_for.ensures ∙ c.pixel.ensures.value ∙ ap (slice_index canvas.scene) c.source_of-from.ensures.value)

pub returns : goal.returns
returns c =
    let past = c.loop-p-test.false in
    let canvas : Drawn = c.args.canvas.now in
    let f : ℕ → ℕ = λ p. slice_index canvas.scene (source c.args.carried.now.falling c.args.carried.now.by p) in
    c.loop-p.invariant ∙ ap (map f) (take_all c.loop-p.p-index c.args.pixels.now (omega arith))
