-- What a file is told to be: that of a run of the session, or where it is wrong first.
use Rattle.std.specs.Prelude.{ℕ, ◌≡◌, ◌<◌, ◌+◌, ◌*◌, ◌⊎◌, List, [], take, drop, length, slice_index, slice_index_or, Option, Some}
use Rattle.std.specs.Option.{option_map}
use Rattle.qws_base.specs.Histories.{Entry, calls_of}
use Rattle.session_journal.specs.Texts.{comment, told_call, colour_bytes}
use Rattle.session_journal.specs.Commented.{commented_client}
use Rattle.session_journal.specs.declared.files.File.{File}
use Rattle.script_grammar.specs.Session.{Session, lines_by}
use Rattle.session_replay.specs.Runs.{next_entry}
use Rattle.session_replay.specs.Files.{shown_after, named_by}
use Rattle.session_replay.specs.declared.verdicts.Verdict.{Verdict}
use Rattle.session_replay.specs.declared.verdicts.Verdict.TheVariants.{Holds, BadScreen, BadEntry, BadPixel}

-- ---- the comment lines

-- the text of a client's next call behind a history, with the reply due there; none where it has no call left
abbrev pub next_comment : Session → List Entry → ℕ → Option (List ℕ)
next_comment session h client = option_map (λ e. comment client (length (calls_of h client)) (told_call e).words) (next_entry session h client)

-- line k, from 0, is the text of the next call of the client that it names, behind the calls that the lines before it name
abbrev pub IsDue : Session → List (List ℕ) → ℕ → Type 0
IsDue session lines k = next_comment session (named_by session (take k lines)) (commented_client (slice_index_or lines k [])) ≡ Some (slice_index_or lines k [])

-- each line is
abbrev pub AreDue : Session → List (List ℕ) → Type 0
AreDue session lines = (k : ℕ) → k < length lines → IsDue session lines k

-- no client has a call left behind a history
abbrev pub AreMade : Session → List Entry → Type 0
AreMade session h = (client : ℕ) → client < session.clients → length (calls_of h client) ≡ length (lines_by client session.calls)

-- line k, from 0, is the first that isn't due there
pub record IsFirstUndue (session : Session) (lines : List (List ℕ)) (k : ℕ) : Type 0 where
  pub within : k < length lines
  pub before : (j : ℕ) → j < k → IsDue session lines j
  pub undue : ¬ IsDue session lines k

-- all lines are due, and some client has a call left
pub record AreLeft (session : Session) (lines : List (List ℕ)) : Type 0 where
  pub due : AreDue session lines
  pub left : ¬ AreMade session (named_by session lines)

-- that line, from 1, is the first bad one; the one behind the last where calls are left
abbrev pub IsBadLine : Session → List (List ℕ) → ℕ → Type 0
IsBadLine session lines line = ((k : ℕ) × (line ≡ k + 1) × IsFirstUndue session lines k) ⊎ ((line ≡ length lines + 1) × AreLeft session lines)

-- ---- the picture

-- a pixel's three bytes are its colour
abbrev pub IsPixelOf : List ℕ → List ℕ → ℕ → Type 0
IsPixelOf shown raster p = take 3 (drop (3 * p) raster) ≡ colour_bytes (slice_index shown p)

-- so are those of each pixel
abbrev pub ArePixelsOf : List ℕ → List ℕ → Type 0
ArePixelsOf shown raster = (p : ℕ) → p < length shown → IsPixelOf shown raster p

-- a pixel is the first whose bytes aren't
pub record IsFirstOther (shown raster : List ℕ) (p : ℕ) : Type 0 where
  pub within : p < length shown
  pub before : (q : ℕ) → q < p → IsPixelOf shown raster q
  pub other : ¬ IsPixelOf shown raster p

-- the picture behind the calls that a file's lines name
abbrev pub named_picture : Session → File → List ℕ
named_picture session file = shown_after session (named_by session file.lines)

-- ---- verdicts

pub record IsBadScreen (session : Session) (file : File) (w h : ℕ) : Type 0 where
  pub size_is : file.size ≡ record { w = w; h = h }
  pub other : ¬ (file.size ≡ session.size)

pub record IsBadEntry (session : Session) (file : File) (line : ℕ) : Type 0 where
  pub size_is : file.size ≡ session.size
  pub bad : IsBadLine session file.lines line

-- the lines of a file are those of a run of the session, on its screen
pub record AreGoodLines (session : Session) (file : File) : Type 0 where
  pub size_is : file.size ≡ session.size
  pub due : AreDue session file.lines
  pub made : AreMade session (named_by session file.lines)

pub record IsBadPixel (session : Session) (file : File) (p : ℕ) : Type 0 where
  pub lines : AreGoodLines session file
  pub bad : IsFirstOther (named_picture session file) file.raster p

pub record AreGoodPixels (session : Session) (file : File) : Type 0 where
  pub lines : AreGoodLines session file
  pub pixels : ArePixelsOf (named_picture session file) file.raster

-- screen, lines, calls left, pixels: the first of these that is wrong
abbrev pub IsVerdict : Session → File → Verdict → Type 0
IsVerdict session file Holds = AreGoodPixels session file
IsVerdict session file (BadScreen w h) = IsBadScreen session file w h
IsVerdict session file (BadEntry line) = IsBadEntry session file line
IsVerdict session file (BadPixel index) = IsBadPixel session file index
