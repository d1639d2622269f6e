-- The grammar of files, and where bytes leave it.
use Rattle.std.specs.Prelude.{ℕ, ◌*◌, ◌≡◌, ◌≤◌, nat_le, Bool, true, ◌&&◌, List, ◌++◌, length, take, All}
use Rattle.std.specs.List.{list_all}
use Rattle.qws_base.specs.Sides.{IsScreen}
use Rattle.session_journal.specs.declared.files.File.{File}
use Rattle.session_journal.specs.declared.files.FileStop.{FileStop}
use Rattle.session_journal.specs.declared.files.FileStop.TheVariants.{Bad, OutOfMemory}
use Rattle.session_journal.specs.Texts.{file_bytes}

-- a byte of 0x20 to 0x7e
abbrev pub is_printing : ℕ → Bool
is_printing c = nat_le 32 c && nat_le c 126

-- what may stand behind `#`: at most 64 such bytes
pub record IsComment (line : List ℕ) : Type 0 where
  pub short : length line ≤ 64
  pub prints : list_all is_printing line ≡ true

-- The bytes are a file: `P6`, comment lines, width and height, 255, and three bytes a pixel.
pub record IsFile (bytes : List ℕ) (file : File) : Type 0 where
  pub text : bytes ≡ file_bytes file
  pub comments : All IsComment file.lines
  pub size : IsScreen file.size
  pub raster : length file.raster ≡ 3 * (file.size.w * file.size.h)

-- the bytes are no other file
abbrev pub IsOnlyFile : List ℕ → File → Type 0
IsOnlyFile bytes file = (other : File) → IsFile bytes other → other ≡ file

-- some file begins with these bytes
pub record BeginsFile (front : List ℕ) : Type 0 where
  pub rest : List ℕ
  pub file : File
  pub is_file : IsFile (front ++ rest) file

-- the bytes are no file; the longest prefix of them with which some file begins has that length
pub record LeavesAt (bytes : List ℕ) (at : ℕ) : Type 0 where
  pub no_file : (file : File) → ¬ IsFile bytes file
  pub within : at ≤ length bytes
  pub begins : BeginsFile (take at bytes)
  pub longest : (k : ℕ) → k ≤ length bytes → BeginsFile (take k bytes) → k ≤ at

-- what a stop tells of the bytes
abbrev pub Stops : List ℕ → FileStop → Type 0
Stops bytes (Bad at) = LeavesAt bytes at
Stops bytes OutOfMemory = Unit {0}
