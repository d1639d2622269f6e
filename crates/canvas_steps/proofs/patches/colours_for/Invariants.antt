use Rattle.std.proofs.Common.{◌≡◌, map, take}
use Rattle.std.specs.Prelude.{slice_index}
use Rattle.qws_base.specs.Colours.{scene_colour}
use Rattle.step_regions.specs.Carried.{source}
use Rattle.canvas_steps.proofs.patches.colours_for.Given as goal

abbrev pub invariant-loop-p : goal.invariant-loop-p
invariant-loop-p l = map (scene_colour l.canvas.setting.depth) l.colours.items ≡ map (λ p. slice_index l.canvas.scene (source l.carried.falling l.carried.by p)) (take l.p-index l.pixels)
