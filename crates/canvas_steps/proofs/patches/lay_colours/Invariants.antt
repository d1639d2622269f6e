use Rattle.std.proofs.Common.{◌≡◌, map, take}
use Rattle.qws_base.specs.Colours.{scene_colour}
use Rattle.canvas_steps.specs.Laid.{laid}
use Rattle.canvas_steps.proofs.patches.lay_colours.Given as goal

abbrev pub invariant-loop-k : goal.invariant-loop-k
invariant-loop-k l = l.canvas ≡ record l.fn.canvas { scene = laid (take l.k l.pixels) (take l.k (map (scene_colour l.fn.canvas.setting.depth) l.colours)) l.fn.canvas.scene }
