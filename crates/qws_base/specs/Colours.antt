-- Colours at two depths. A colour has 24 bits, eight a channel: red, green and blue from the top.
use Rattle.std.specs.Prelude.{ℕ, ◌+◌, ◌*◌, ◌/◌, ◌%◌, ◌^◌, ◌<◌}
use Rattle.qws_base.specs.declared.colours.Depth.{Depth}
use Rattle.qws_base.specs.declared.colours.Depth.TheVariants.{Full, Narrow}

abbrev pub red : ℕ → ℕ
red c = c / 65536

abbrev pub green : ℕ → ℕ
green c = c / 256 % 256

abbrev pub blue : ℕ → ℕ
blue c = c % 256

abbrev pub colour_of : ℕ → ℕ → ℕ → ℕ
colour_of r g b = r * 65536 + g * 256 + b

-- the sixteen bits of a colour at depth 16: the upper five, six and five bits of its channels
abbrev pub narrow_colour : ℕ → ℕ
narrow_colour c = (red c / 8) * 2048 + (green c / 4) * 32 + blue c / 8

-- the colour that sixteen bits stand for: the upper bits of each channel are repeated below
abbrev pub wide_colour : ℕ → ℕ
wide_colour v =
    let r = v / 2048 in
    let g = v / 32 % 64 in
    let b = v % 32 in
    colour_of (r * 8 + r / 4) (g * 4 + g / 16) (b * 8 + b / 4)

-- what a scene holds for a colour: the colour at depth 24, its sixteen bits at depth 16
abbrev pub scene_colour : Depth → ℕ → ℕ
scene_colour Full c = c
scene_colour Narrow c = narrow_colour c

-- the colour that a scene's number stands for
abbrev pub shown_colour : Depth → ℕ → ℕ
shown_colour Full v = v
shown_colour Narrow v = wide_colour v

-- how many scene colours there are
abbrev pub colour_count : Depth → ℕ
colour_count Full = 2 ^ 24
colour_count Narrow = 2 ^ 16

abbrev pub IsSceneColour : Depth → ℕ → Type 0
IsSceneColour depth v = v < colour_count depth
