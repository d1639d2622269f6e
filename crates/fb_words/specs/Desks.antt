-- What a desk keeps of the closed turns, and what a whole session is where all its clients sit.
use Rattle.std.specs.Prelude.{◌≡◌, ℕ, zero, suc, ◌+◌, ◌<◌, ◌≤◌, List, [], ◌∷◌, ◌++◌, map, length}
use mathlib.Core.Option.{some}
use lib.ListN.{get_elem?}
use Rattle.qws_base.specs.Sides.{Sides}
use Rattle.qws_base.specs.Colours.{shown_colour}
use Rattle.qws_base.specs.Points.{pixel_count}
use Rattle.qws_base.specs.States.{State, opening_state}
use Rattle.qws_base.specs.Steps.{step}
use Rattle.qws_base.specs.Arranged.{IsArranged}
use Rattle.qws_base.specs.Scenes.{Setting, by_pixels}
use Rattle.qws_base.specs.Shown.{shown_picture}
use Rattle.qws_base.specs.Histories.{Entry, Step, Paint, step_entry, state_of_journal, World, world_after, IsLegal, calls_of}
use Rattle.qws_base.specs.Merges.{Stamped, merged}
use Rattle.qws_base.specs.declared.journals.JournalEntry.{JournalEntry}
use Rattle.region_table.specs.Numbers.{pixel_word}
use Rattle.region_table.specs.Published.{IsTableOf}
use Rattle.fb_words.specs.declared.known.PaintCall.{PaintCall}
use Rattle.fb_words.specs.declared.known.Call.{Call}
use Rattle.fb_words.specs.declared.known.Call.TheVariants.{Step as OwnStep, Paint as OwnPaint}
use Rattle.fb_words.specs.declared.known.Client.{Client}
use Rattle.fb_words.specs.declared.known.Closed.{Closed}
use Rattle.fb_words.specs.declared.known.Server.{Server}
use Rattle.turn_logs.specs.Tables.{opening_table, table_of}
use Rattle.turn_logs.specs.Lines.{written}
use Rattle.fb_words.specs.Segments.{line, first_value}
use Rattle.fb_words.specs.Views.{paints_in}
use Rattle.turn_logs.specs.Sessions.{entry_of}
use Rattle.fb_words.specs.Turns.{turns_of}
use Rattle.fb_words.specs.Steps.{AllIdle, AllHere, arranged, Knows}

-- ---- what a desk keeps

-- the state after the first k of the closed turns
abbrev pub state_upto : Sides → State → List Closed → ℕ → State
state_upto size state [] k = state
state_upto size state (t ∷ ts) zero = state
state_upto size state (t ∷ ts) (suc k) = state_upto size (step size state t.client t.command).0 ts k

-- the state after all closed turns
abbrev pub state_after : Sides → List Closed → State
state_after size closed = state_upto size opening_state closed (length closed)

-- what is kept of the closed turn with that number, which met a state and left the table words
pub record IsKeptTurn (size : Sides) (state : State) (number : ℕ) (turn : Closed) (words : List ℕ) : Type 0 where
  -- its reply is that of its command
  pub answered : turn.reply ≡ (step size state turn.client turn.command).1
  -- the words spell the table of the state after it
  pub left : IsTableOf size (step size state turn.client turn.command).0 number (table_of words)

-- a table for each closed turn besides the opening one, and the same of each closed turn
pub record AreKeptTurns (size : Sides) (closed : List Closed) (tables : List (List ℕ)) : Type 0 where
  pub long : length tables ≡ length closed + 1
  pub first : get_elem? tables 0 ≡ some opening_table
  pub each : (e : ℕ) (turn : Closed) (words : List ℕ) → get_elem? closed e ≡ some turn → get_elem? tables (e + 1) ≡ some words → IsKeptTurn size (state_upto size opening_state closed e) (e + 1) turn words

-- the windows after all closed turns are arranged, and the words spell the table of the state then
pub record IsNow (size : Sides) (closed : List Closed) (words : List ℕ) : Type 0 where
  pub arranged : IsArranged size (state_after size closed).windows
  pub published : IsTableOf size (state_after size closed) (length closed) (table_of words)

-- closed turns as journal entries, with the numbers from n on
abbrev pub journal_from : ℕ → List Closed → List JournalEntry
journal_from n [] = []
journal_from n (t ∷ ts) = record { number = n; client = t.client; command = t.command; reply = t.reply } ∷ journal_from (n + 1) ts

-- the closed turns as a journal has them, with the numbers from 1 on
abbrev pub journal_of : List Closed → List JournalEntry
journal_of closed = journal_from 1 closed

-- it is kept before the first turn, and by each turn that is kept; the last table is that of the state now; and that state
-- is the one after the journal
pub record KeepingLaw : Type 0 where
  pub opens : (size : Sides) → AreKeptTurns size [] (opening_table ∷ [])
  pub grows : (size : Sides) (closed : List Closed) (tables : List (List ℕ)) (turn : Closed) (words : List ℕ) → AreKeptTurns size closed tables
      → IsKeptTurn size (state_after size closed) (length closed + 1) turn words → AreKeptTurns size (closed ++ turn ∷ []) (tables ++ words ∷ [])
  pub next : (size : Sides) (closed : List Closed) (turn : Closed) → state_after size (closed ++ turn ∷ []) ≡ (step size (state_after size closed) turn.client turn.command).0
  pub now : (size : Sides) (closed : List Closed) (tables : List (List ℕ)) (words : List ℕ) → AreKeptTurns size closed tables → get_elem? tables (length closed) ≡ some words → IsNow size closed words
  pub journal : (size : Sides) (closed : List Closed) → state_after size closed ≡ state_of_journal size (journal_of closed)

-- ---- the journal and the clients' paints

-- a client's paint as an entry, and with its stamp
abbrev pub paint_entry : ℕ → PaintCall → Entry
paint_entry c p = Paint c p.slot p.tag p.sheet p.reply

abbrev pub stamped_paint : ℕ → PaintCall → Stamped Entry
stamped_paint c p = record { stamp = p.stamp; entry = paint_entry c p }

-- a client's paints, in order
abbrev pub paints_of : Client → List (Stamped Entry)
paints_of p = map (stamped_paint p.number) (paints_in p.own)

-- ---- a whole session

-- the entries of all closed turns
abbrev pub history_of : Server → List Client → List Entry
history_of s cs = map entry_of (turns_of s cs)

-- a client's call as an entry, without its log and what was looked at
abbrev pub call_entry : ℕ → Call → Entry
call_entry c (OwnStep t) = Step c t.command t.reply
call_entry c (OwnPaint t) = paint_entry c t

-- the words are what all closed turns have written in the framebuffer
abbrev pub AreWritten : Server → List Client → (ℕ → ℕ) → Type 0
AreWritten s cs words = (p : ℕ) → p < pixel_count s.setting.size → words (pixel_word p) ≡ written (first_value s.setting (pixel_word p)) (line (pixel_word p) record s { log = [] } cs)

-- the world that a history leads to is shown in the words
abbrev pub IsShownIn : Setting → World → (ℕ → ℕ) → Type 0
IsShownIn setting world words = by_pixels setting.size (λ p. shown_colour setting.depth (words (pixel_word p))) ≡ shown_picture setting world.state.cursor world.scene

-- The history is the merge of the journal with the clients' paints. It is legal, leads to the state after all closed turns,
-- and its picture is shown in the framebuffer. Each client's entries are its calls, in order, and there are no others.
pub record IsWhole (s : Server) (cs : List Client) : Type 0 where
  pub merge : history_of s cs ≡ merged (map step_entry (journal_of s.closed)) (map paints_of cs)
  pub legal : IsLegal s.setting (history_of s cs)
  pub state : (world_after s.setting (history_of s cs)).state ≡ state_after s.setting.size s.closed
  pub calls : (c : ℕ) (p : Client) → get_elem? cs c ≡ some p → calls_of (history_of s cs) c ≡ map (call_entry c) p.own
  pub no_others : (c : ℕ) → length cs ≤ c → calls_of (history_of s cs) c ≡ []
  pub shows : (words : ℕ → ℕ) → AreWritten s cs words → IsShownIn s.setting (world_after s.setting (history_of s cs)) words

-- where all admitted clients sit between turns, and a desk has kept the closed turns, the session is whole
abbrev pub WholeLaw : Type 0
WholeLaw = (s : Server) (ps : List Client) → s.log ≡ [] → AllIdle ps → AllHere s ps → Knows s (arranged (length s.limits) ps) → AreKeptTurns s.setting.size s.closed s.tables
    → IsWhole s (arranged (length s.limits) ps)
