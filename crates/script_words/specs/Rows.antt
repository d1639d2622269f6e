-- The digits of a glyph's rows.
use Rattle.std.specs.Prelude.{ℕ, Bool, ◌&&◌, ◌==◌, List, length}
use Rattle.std.specs.List.{list_all}
use Rattle.script_grammar.specs.Printing.{row_digits}
use Rattle.script_grammar.specs.Spelling.{is_hex}

-- as many digits as a row of so many columns has
abbrev pub is_row_text : ℕ → List ℕ → Bool
is_row_text width word = length word == row_digits width && list_all is_hex word
