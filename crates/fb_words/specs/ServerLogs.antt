-- What the server's own turn knows of its log.
use Rattle.std.specs.Prelude.{◌≡◌, ℕ, ◌≤◌, List, [], length}
use Rattle.fb_words.specs.declared.known.Client.{Client}
use Rattle.fb_words.specs.declared.known.Server.{Server}
use Rattle.region_table.specs.Numbers.{IsLineWord}
use Rattle.turn_logs.specs.Lines.{written, OnlyPicks}
use Rattle.turn_logs.specs.Phases.{IsTrueLog}
use Rattle.fb_words.specs.Segments.{line, first_value}
use Rattle.fb_words.specs.Steps.{AllHere, arranged, ReadTells, after_read, after_write}

-- the log of a server turn is true: at first, and after each read and each write
pub record LogLaw : Type 0 where
  pub opens : IsTrueLog []
  pub reads : (s : Server) (ps : List Client) (x n : ℕ) → 1 ≤ x → ReadTells s ps x n → IsTrueLog s.log → IsTrueLog (after_read s x n).log
  pub writes : (s : Server) (x n : ℕ) → IsTrueLog s.log → IsTrueLog (after_write s x n).log

-- what it finds is what all closed turns have written, whatever it has read before
abbrev pub ReadingLaw : Type 0
ReadingLaw = (s : Server) (ps : List Client) (x n : ℕ) → ReadTells s ps x n → OnlyPicks s.log → IsLineWord x → AllHere s ps
    → (n ≡ written (first_value s.setting x) (line x record s { log = [] } (arranged (length s.limits) ps))) × OnlyPicks (after_read s x n).log
