-- The bits of two scene colours make a scene colour.
use Rattle.std.proofs.Common.{ℕ, bit_or, bit_xor}
use Rattle.std.proofs.lemmas.Nat.{or_lt, xor_lt}
use Rattle.qws_base.specs.Colours.{IsSceneColour}
use Rattle.qws_base.specs.declared.colours.Depth.{Depth}
use Rattle.qws_base.specs.declared.colours.Depth.TheVariants.{Full, Narrow}

pub or_scene_colour : (depth : Depth) (a b : ℕ) → IsSceneColour depth a → IsSceneColour depth b → IsSceneColour depth (bit_or a b)
or_scene_colour Full a b h k = or_lt 24 a b h k
or_scene_colour Narrow a b h k = or_lt 16 a b h k

pub xor_scene_colour : (depth : Depth) (a b : ℕ) → IsSceneColour depth a → IsSceneColour depth b → IsSceneColour depth (bit_xor a b)
xor_scene_colour Full a b h k = xor_lt 24 a b h k
xor_scene_colour Narrow a b h k = xor_lt 16 a b h k
