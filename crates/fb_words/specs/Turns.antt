-- All closed turns of a session, one after the other.
use Rattle.std.specs.Prelude.{◌≡◌, ℕ, ◌+◌, List, [], ◌∷◌, map, length, slice_index_or}
use mathlib.Core.Option.{some}
use lib.ListN.{get_elem?}
use Rattle.qws_base.specs.Merges.{Stamped, merged}
use Rattle.turn_logs.specs.Tables.{table_of}
use Rattle.turn_logs.specs.Lines.{on}
use Rattle.turn_logs.specs.Sessions.{ClosedTurn, Served, Drawn, logs_of}
use Rattle.fb_words.specs.declared.known.Mode.TheVariants.{Idle}
use Rattle.fb_words.specs.declared.known.PaintCall.{PaintCall}
use Rattle.fb_words.specs.declared.known.Client.{Client}
use Rattle.fb_words.specs.declared.known.Closed.{Closed}
use Rattle.fb_words.specs.declared.known.Server.{Server}
use Rattle.fb_words.specs.Views.{paints_in}
use Rattle.fb_words.specs.Segments.{line}
use Rattle.fb_words.specs.Rule.{OrderOk}

-- the server's turns, each with the table that it left: the first leaves table n
abbrev pub served_from : List (List ℕ) → ℕ → List Closed → List ClosedTurn
served_from tables n [] = []
served_from tables n (t ∷ ts) = Served t.client t.command t.reply (table_of (slice_index_or tables n [])) t.log ∷ served_from tables (n + 1) ts

-- a client's paint, with its stamp
abbrev pub drawn : ℕ → PaintCall → Stamped ClosedTurn
drawn c t = record { stamp = t.stamp; entry = Drawn c t.slot t.tag t.sheet t.reply t.log }

-- a client's paints, in order
abbrev pub drawn_by : Client → List (Stamped ClosedTurn)
drawn_by p = map (drawn p.number) (paints_in p.own)

-- the merge of the server's turns, of which the first leaves table 1, with the clients' paints
abbrev pub turns_of : Server → List Client → List ClosedTurn
turns_of s cs = merged (served_from s.tables 1 s.closed) (map drawn_by cs)

-- between turns, the line of a word is what all logs have on it
abbrev pub LineLaw : Type 0
LineLaw = (s : Server) (cs : List Client) (x : ℕ) → s.log ≡ [] → ((c : ℕ) (p : Client) → get_elem? cs c ≡ some p → (p.mode ≡ Idle) × OrderOk (length s.closed) p)
    → line x s cs ≡ on x (logs_of (turns_of s cs))
