-- What an ink leaves of a pixel.
use Rattle.std.specs.Prelude.{ℕ, ◌+◌, ◌-◌, ◌*◌, ◌/◌, Bool, true, false, bit_and, bit_or, bit_xor}
use Rattle.qws_base.specs.Colours.{red, green, blue, colour_of, scene_colour, shown_colour}
use Rattle.qws_base.specs.declared.colours.Depth.{Depth}
use Rattle.qws_base.specs.declared.inks.Ink.{Ink}
use Rattle.qws_base.specs.declared.inks.Ink.TheVariants.{Skip, Copy, Xor, And, Or, Blend}

-- a channel of colour c with alpha a over the old channel s
abbrev pub blended_channel : ℕ → ℕ → ℕ → ℕ
blended_channel c a s = (c * a + s * (255 - a) + 127) / 255

-- a colour with alpha a over an old colour, channel by channel
abbrev pub blended_colour : ℕ → ℕ → ℕ → ℕ
blended_colour c a old =
    colour_of (blended_channel (red c) a (red old)) (blended_channel (green c) a (green old)) (blended_channel (blue c) a (blue old))

-- the scene colour of a pixel after an ink
abbrev pub ink_after : Depth → Ink → ℕ → ℕ
ink_after depth Skip old = old
ink_after depth (Copy c) old = scene_colour depth c
ink_after depth (Xor c) old = bit_xor (scene_colour depth c) old
ink_after depth (And c) old = bit_and (scene_colour depth c) old
ink_after depth (Or c) old = bit_or (scene_colour depth c) old
ink_after depth (Blend c a) old = scene_colour depth (blended_colour c a (shown_colour depth old))

abbrev pub is_skip : Ink → Bool
is_skip Skip = true
is_skip (Copy c) = false
is_skip (Xor c) = false
is_skip (And c) = false
is_skip (Or c) = false
is_skip (Blend c a) = false
