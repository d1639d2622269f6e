-- Which lines are of a form that may stand there: by their fixed words and their number of words alone.
use Rattle.std.specs.Prelude.{ℕ, ◌%◌, Bool, true, false, ◌&&◌, ◌||◌, ◌==◌, nat_le, nat_lt, List, [], ◌∷◌, length, if◌then◌else◌}
use lib.Chars.{codes}
use Rattle.std.specs.Str.{bytes_eq}
use Rattle.glyph_masks.specs.Glyphs.{FontView}
use Rattle.script_grammar.specs.Session.{Session, fonts_of, latest}
use Rattle.script_grammar.specs.Reading.{Before, Nothing, Deep, Sized, Within, Finished}

-- so many words
abbrev pub so_many : ℕ → List (List ℕ) → Bool
so_many n words = length words == n

-- between so many and so many
abbrev pub between : ℕ → ℕ → List (List ℕ) → Bool
between least most words = nat_le least (length words) && nat_le (length words) most

-- in groups of so many
abbrev pub in_groups : ℕ → ℕ → ℕ → List (List ℕ) → Bool
in_groups group least most words = between least most words && length words % group == 0

-- behind a word
abbrev pub behind_one : (List (List ℕ) → Bool) → List (List ℕ) → Bool
behind_one rest [] = false
behind_one rest (word ∷ words) = rest words

abbrev pub is_plain_ink : List ℕ → Bool
is_plain_ink kind = bytes_eq kind (codes "copy") || (bytes_eq kind (codes "xor") || (bytes_eq kind (codes "and") || bytes_eq kind (codes "or")))

-- behind an INK, whose first word says how many it has
abbrev pub behind_ink : (List (List ℕ) → Bool) → List (List ℕ) → Bool
behind_ink rest [] = false
behind_ink rest (kind ∷ words) = if is_plain_ink kind then behind_one rest words else (bytes_eq kind (codes "blend") && behind_one (behind_one rest) words)

abbrev pub is_shown : List (List ℕ) → Bool
is_shown [] = false
is_shown (word ∷ words) = (bytes_eq word (codes "0") || bytes_eq word (codes "1")) && so_many 0 words

pub record Shape : Type 0 where
  pub kind : List ℕ
  pub fits : List (List ℕ) → Bool

abbrev pub call_shapes : List Shape
call_shapes =
    record { kind = codes "create"; fits = so_many 2 }
    ∷ record { kind = codes "destroy"; fits = so_many 1 }
    ∷ record { kind = codes "region"; fits = behind_one (behind_one (behind_one (in_groups 4 0 256))) }
    ∷ record { kind = codes "move"; fits = so_many 3 }
    ∷ record { kind = codes "raise"; fits = so_many 1 }
    ∷ record { kind = codes "lower"; fits = so_many 1 }
    ∷ record { kind = codes "shape"; fits = so_many 3 }
    ∷ record { kind = codes "cursor"; fits = so_many 2 }
    ∷ record { kind = codes "show"; fits = is_shown }
    ∷ record { kind = codes "join"; fits = so_many 1 }
    ∷ record { kind = codes "leave"; fits = so_many 1 }
    ∷ record { kind = codes "send"; fits = so_many 3 }
    ∷ record { kind = codes "take"; fits = so_many 0 }
    ∷ record { kind = codes "known"; fits = so_many 1 }
    ∷ record { kind = codes "fill"; fits = behind_one (behind_one (behind_one (behind_one (behind_one (behind_ink (so_many 0)))))) }
    ∷ record { kind = codes "tile"; fits = so_many 6 }
    ∷ record { kind = codes "blit"; fits = so_many 5 }
    ∷ record { kind = codes "line"; fits = so_many 6 }
    ∷ record { kind = codes "polyline"; fits = behind_one (behind_one (in_groups 2 4 128)) }
    ∷ record { kind = codes "polygon"; fits = behind_one (behind_ink (in_groups 2 6 128)) }
    ∷ record { kind = codes "text"; fits = behind_one (behind_one (behind_one (behind_one (behind_ink (between 1 256))))) }
    ∷ []

-- the words behind the client fit a shape
abbrev pub fits_one : List Shape → List ℕ → List (List ℕ) → Bool
fits_one [] kind words = false
fits_one (shape ∷ shapes) kind words = if bytes_eq kind shape.kind then shape.fits words else fits_one shapes kind words

-- a fixed word, and as many as the test allows
abbrev pub fixed_and : List ℕ → (List (List ℕ) → Bool) → List (List ℕ) → Bool
fixed_and fixed rest [] = false
fixed_and fixed rest (word ∷ words) = bytes_eq word fixed && rest words

-- the rows of the latest font's height, where there is a font
abbrev pub is_rows : List FontView → List (List ℕ) → Bool
is_rows fonts rows = nat_lt 0 (length fonts) && length rows == (latest fonts).height

-- a client, a kind and its words
abbrev pub is_call : List (List ℕ) → Bool
is_call [] = false
is_call (client ∷ []) = false
is_call (client ∷ kind ∷ words) = fits_one call_shapes kind words

-- fonts and images stand before the calls
abbrev pub is_asset : Session → List (List ℕ) → Bool
is_asset said words =
    length said.calls == 0
    && (fixed_and (codes "font") (so_many 1) words
    || (fixed_and (codes "glyph") (behind_one (behind_one (is_rows (fonts_of said.assets)))) words
    || fixed_and (codes "image") (so_many 3) words))

-- the line is of a form that may stand there
abbrev pub fits_there : Before → List (List ℕ) → Bool
fits_there Nothing words = fixed_and (codes "depth") (so_many 1) words || fixed_and (codes "screen") (so_many 3) words
fits_there (Deep depth) words = fixed_and (codes "screen") (so_many 3) words
fits_there (Sized depth size backdrop) words = fixed_and (codes "clients") (so_many 1) words
fits_there (Within said) words = fixed_and (codes "end") (so_many 0) words || (is_asset said words || is_call words)
fits_there (Finished said) words = true
