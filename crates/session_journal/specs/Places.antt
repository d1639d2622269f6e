-- What may follow at each place of a file.
use Rattle.std.specs.Prelude.{ℕ, ◌+◌, ◌-◌, ◌*◌, ◌≡◌, ◌<◌, ◌≤◌, nat_le, nat_lt, Bool, true, ◌&&◌, ◌==◌, List, [], ◌∷◌, ◌++◌, length, take, drop, slice_index, ◌↔◌, All, Option, None, Some, if◌then◌else◌}
use lib.Chars.{codes}
use Rattle.std.specs.List.{list_all, flat_map}
use Rattle.std.specs.Option.{option_map}
use Rattle.std.specs.Fmt.{decimal}
use Rattle.session_journal.specs.declared.files.File.{File}
use Rattle.session_journal.specs.declared.places.Stage.{Stage}
use Rattle.session_journal.specs.declared.places.Stage.TheVariants.{Magic, Line, Comment, Width, Blank, Height, Most, Raster}
use Rattle.session_journal.specs.Texts.{line_text}
use Rattle.session_journal.specs.Grammar.{is_printing, IsComment, IsFile}

-- ---- parts of a file, each with what may follow it

-- a text, and what follows it
pub record Behind (text : List ℕ) (Next : List ℕ → File → Type 0) (tail : List ℕ) (file : File) : Type 0 where
  pub rest : List ℕ
  pub text_is : tail ≡ text ++ rest
  pub next : Next rest file

abbrev pub is_digit : ℕ → Bool
is_digit c = nat_le 48 c && nat_le c 57

-- the first digit of a number without leading zero
abbrev pub is_first_digit : ℕ → Bool
is_first_digit c = nat_le 49 c && nat_le c 57

-- the value of a number, with digits behind it
abbrev pub value_on : ℕ → List ℕ → ℕ
value_on n [] = n
value_on n (d ∷ ds) = value_on (10 * n + (d - 48)) ds

-- the further digits of a number that is n so far, its end, and what follows
pub record Number (most end n : ℕ) (Next : ℕ → List ℕ → File → Type 0) (tail : List ℕ) (file : File) : Type 0 where
  pub digits : List ℕ
  pub rest : List ℕ
  pub are_digits : list_all is_digit digits ≡ true
  pub text_is : tail ≡ digits ++ end ∷ rest
  pub small : value_on n digits ≤ most
  pub next : Next (value_on n digits) rest file

-- a number from 1 on without leading zeros, its end, and what follows
pub record WholeNumber (most end : ℕ) (Next : ℕ → List ℕ → File → Type 0) (tail : List ℕ) (file : File) : Type 0 where
  pub value : ℕ
  pub rest : List ℕ
  pub some : 1 ≤ value
  pub small : value ≤ most
  pub text_is : tail ≡ decimal value ++ end ∷ rest
  pub next : Next value rest file

-- the raster of a file with these lines and sides
pub record RasterOf (lines : List (List ℕ)) (w h : ℕ) (tail : List ℕ) (file : File) : Type 0 where
  pub file_is : file ≡ record { size = record { w = w; h = h }; lines = lines; raster = tail }
  pub long : length tail ≡ 3 * (w * h)

-- `255`, its line end and the raster
abbrev pub MostOf : List (List ℕ) → ℕ → ℕ → List ℕ → File → Type 0
MostOf lines w h = Behind (codes "255\n") (RasterOf lines w h)

-- the height and what follows
abbrev pub HeightOf : List (List ℕ) → ℕ → List ℕ → File → Type 0
HeightOf lines w = WholeNumber 480 10 (MostOf lines w)

-- the width and what follows
abbrev pub WidthOf : List (List ℕ) → List ℕ → File → Type 0
WidthOf lines = WholeNumber 640 32 (HeightOf lines)

-- the lines of further comments, and what follows
pub record Lines (lines : List (List ℕ)) (tail : List ℕ) (file : File) : Type 0 where
  pub more : List (List ℕ)
  pub rest : List ℕ
  pub comments : All IsComment more
  pub text_is : tail ≡ flat_map line_text more ++ rest
  pub next : WidthOf (lines ++ more) rest file

-- the rest of a comment, its line end, and what follows
pub record Comments (lines : List (List ℕ)) (line tail : List ℕ) (file : File) : Type 0 where
  pub more : List ℕ
  pub rest : List ℕ
  pub comment : IsComment (line ++ more)
  pub text_is : tail ≡ more ++ 10 ∷ rest
  pub next : Lines (lines ++ (line ++ more) ∷ []) rest file

-- ---- the places of a reader

-- what may follow at a place, behind these comments and the comment so far
abbrev pub Follows : Stage → List (List ℕ) → List ℕ → List ℕ → File → Type 0
Follows (Magic read) lines line = Behind (drop read (codes "P6\n")) (Lines lines)
Follows Line lines line = Lines lines
Follows Comment lines line = Comments lines line
Follows (Width w) lines line = Number 640 32 w (HeightOf lines)
Follows (Blank w) lines line = HeightOf lines w
Follows (Height w h) lines line = Number 480 10 h (MostOf lines w)
Follows (Most w h read) lines line = Behind (drop read (codes "255\n")) (RasterOf lines w h)
Follows (Raster w h) lines line = RasterOf lines w h

-- the numbers of a place are those of files
abbrev pub IsPlace : Stage → List ℕ → Type 0
IsPlace (Magic read) line = (read < 3) × (line ≡ [])
IsPlace Line line = line ≡ []
IsPlace Comment line = IsComment line
IsPlace (Width w) line = (1 ≤ w) × (w ≤ 640) × (line ≡ [])
IsPlace (Blank w) line = (1 ≤ w) × (w ≤ 640) × (line ≡ [])
IsPlace (Height w h) line = (1 ≤ w) × (w ≤ 640) × (1 ≤ h) × (h ≤ 480) × (line ≡ [])
IsPlace (Most w h read) line = (1 ≤ w) × (w ≤ 640) × (1 ≤ h) × (h ≤ 480) × (read < 4) × (line ≡ [])
IsPlace (Raster w h) line = (1 ≤ w) × (w ≤ 640) × (1 ≤ h) × (h ≤ 480) × (line ≡ [])

-- a number with one digit more, where that is a digit and the number small enough
abbrev pub with_digit : ℕ → ℕ → ℕ → Option ℕ
with_digit most n c = if is_digit c && nat_le (10 * n + (c - 48)) most then Some (10 * n + (c - 48)) else None

-- the first digit's value
abbrev pub first_digit : ℕ → Option ℕ
first_digit c = if is_first_digit c then Some (c - 48) else None

-- the place behind a byte, with the length of the comment so far; none where no file goes on with it
abbrev pub place_after : Stage → ℕ → ℕ → Option Stage
place_after (Magic read) len c = if c == slice_index (codes "P6\n") read then Some (if read == 2 then Line else Magic (read + 1)) else None
place_after Line len c = if c == 35 then Some Comment else option_map (λ w. Width w) (first_digit c)
place_after Comment len c = if c == 10 then Some Line else (if is_printing c && nat_lt len 64 then Some Comment else None)
place_after (Width w) len c = if c == 32 then Some (Blank w) else option_map (λ n. Width n) (with_digit 640 w c)
place_after (Blank w) len c = option_map (λ h. Height w h) (first_digit c)
place_after (Height w h) len c = if c == 10 then Some (Most w h 0) else option_map (λ n. Height w n) (with_digit 480 h c)
place_after (Most w h read) len c = if c == slice_index (codes "255\n") read then Some (if read == 3 then Raster w h else Most w h (read + 1)) else None
place_after (Raster w h) len c = None

-- the comments, and the comment so far, behind a byte
abbrev pub lines_after : Stage → ℕ → List (List ℕ) → List ℕ → List (List ℕ)
lines_after (Magic read) c lines line = lines
lines_after Line c lines line = lines
lines_after Comment c lines line = if c == 10 then lines ++ line ∷ [] else lines
lines_after (Width w) c lines line = lines
lines_after (Blank w) c lines line = lines
lines_after (Height w h) c lines line = lines
lines_after (Most w h read) c lines line = lines
lines_after (Raster w h) c lines line = lines

abbrev pub line_after : Stage → ℕ → List ℕ → List ℕ
line_after (Magic read) c line = line
line_after Line c line = line
line_after Comment c line = if c == 10 then [] else line ++ c ∷ []
line_after (Width w) c line = line
line_after (Blank w) c line = line
line_after (Height w h) c line = line
line_after (Most w h read) c line = line
line_after (Raster w h) c line = line

-- the numbers of a place are small
abbrev pub IsWithin : Stage → Type 0
IsWithin (Magic read) = read < 3
IsWithin Line = Unit {0}
IsWithin Comment = Unit {0}
IsWithin (Width w) = w ≤ 640
IsWithin (Blank w) = w ≤ 640
IsWithin (Height w h) = (w ≤ 640) × (h ≤ 480)
IsWithin (Most w h read) = (w ≤ 640) × (h ≤ 480) × (read < 4)
IsWithin (Raster w h) = (w ≤ 640) × (h ≤ 480)

-- the first bytes, so many, lead to a place: what may follow there are the tails of files that begin with them
abbrev pub Leads : List ℕ → ℕ → Stage → List (List ℕ) → List ℕ → Type 0
Leads bytes at place lines line = (tail : List ℕ) (file : File) → IsFile (take at bytes ++ tail) file ↔ Follows place lines line tail file
