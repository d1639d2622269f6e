-- How far the lines reach up to and with the first line `end`.
use Rattle.std.specs.Prelude.{ℕ, ◌+◌, List, [], ◌∷◌, length, if◌then◌else◌}
use lib.Chars.{codes}
use Rattle.std.specs.Str.{bytes_eq}

-- Their number of bytes with the line feeds. The last of the lines isn't ended, and without a line `end` before it all count.
abbrev pub through_end : List (List ℕ) → ℕ
through_end [] = 0
through_end (text ∷ []) = length text
through_end (text ∷ next ∷ lines) = if bytes_eq text (codes "end") then length text + 1 else length text + 1 + through_end (next ∷ lines)
