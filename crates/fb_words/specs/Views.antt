-- The parts that seats hold, and what contracts see of tokens.
use Rattle.std.specs.Prelude.{◌≡◌, ℕ, ◌<◌, ◌==◌, if◌then◌else◌, Bool, true, false, List, [], ◌∷◌, ◌++◌, Option, Some, None, slice_index}
use mathlib.Core.Option.{some}
use lib.ListN.{get_elem?}
use Rattle.atomic_table.specs.Seated.{TableId}
use Rattle.region_table.specs.Numbers.{closed_gate}
use Rattle.qws_base.specs.Scenes.{Setting}
use Rattle.qws_base.specs.declared.colours.Depth.TheVariants.{Full}
use Rattle.qws_base.specs.declared.journals.BookEntry.{BookEntry}
use Rattle.fb_words.specs.declared.known.Mode.{Mode}
use Rattle.fb_words.specs.declared.known.Mode.TheVariants.{Idle, Refused, Reading}
use Rattle.fb_words.specs.declared.known.ServerMode.{ServerMode}
use Rattle.fb_words.specs.declared.known.ServerMode.TheVariants.{Resting, Closing, Writing}
use Rattle.fb_words.specs.declared.known.StepCall.{StepCall}
use Rattle.fb_words.specs.declared.known.PaintCall.{PaintCall}
use Rattle.fb_words.specs.declared.known.Call.{Call}
use Rattle.fb_words.specs.declared.known.Call.TheVariants.{Step, Paint}
use Rattle.fb_words.specs.declared.known.Client.{Client}
use Rattle.fb_words.specs.declared.known.Server.{Server}
use Rattle.fb_words.specs.declared.known.View.{View}
use Rattle.turn_logs.specs.Tables.{opening_table}

-- 1 for the client with that number
abbrev pub is_client : ℕ → Client → ℕ
is_client c p = if p.number == c then 1 else 0

-- ---- modes

-- 1 for a client that has entered and hasn't left
abbrev pub busy_mode : Mode → ℕ
busy_mode Idle = 0
busy_mode Refused = 1
busy_mode (Reading stamp slot looked log) = 1

-- 1 for a client that was let in
abbrev pub reading_mode : Mode → ℕ
reading_mode Idle = 0
reading_mode Refused = 0
reading_mode (Reading stamp slot looked log) = 1

abbrev pub busy : Client → ℕ
busy p = busy_mode p.mode

abbrev pub reading : Client → ℕ
reading p = reading_mode p.mode

-- the gate word, but for the painters
abbrev pub shut : ServerMode → ℕ
shut Resting = 0
shut Closing = closed_gate
shut Writing = closed_gate

abbrev pub is_writing : ServerMode → Bool
is_writing Resting = false
is_writing Closing = false
is_writing Writing = true

abbrev pub is_closing : ServerMode → Bool
is_closing Resting = false
is_closing Closing = true
is_closing Writing = false

-- ---- calls

abbrev pub steps_in : List Call → List StepCall
steps_in [] = []
steps_in (Step s ∷ l) = s ∷ steps_in l
steps_in (Paint p ∷ l) = steps_in l

abbrev pub paints_in : List Call → List PaintCall
paints_in [] = []
paints_in (Step s ∷ l) = paints_in l
paints_in (Paint p ∷ l) = p ∷ paints_in l

abbrev pub book_entry : PaintCall → BookEntry
book_entry p = record { stamp = p.stamp; slot = p.slot; tag = p.tag; reply = p.reply }

-- the entries of the paints among a client's calls, in order
abbrev pub books_in : List Call → List BookEntry
books_in [] = []
books_in (Step s ∷ l) = books_in l
books_in (Paint p ∷ l) = book_entry p ∷ books_in l

-- ---- views

-- one client part alone
abbrev pub alone : Client → View
alone p = record { server = None; clients = p ∷ [] }

-- the server part, and the clients that sit with it
abbrev pub head_view : Server → List Client → View
head_view s ps = record { server = Some s; clients = ps }

-- the spent view
abbrev pub nothing : View
nothing = record { server = None; clients = [] }

abbrev pub both_views : View → View → View
both_views v u = record v { clients = v.clients ++ u.clients }

abbrev pub opening_server : Setting → Server
opening_server setting = record {
  setting = setting;
  limits = [];
  closed = [];
  turned = [];
  mode = Resting;
  log = [];
  present = opening_table;
  tables = opening_table ∷ [];
}

abbrev pub no_setting : Setting
no_setting = record { size = record { w = 0; h = 0 }; depth = Full; backdrop = 0 }

-- a part for a view that has none
abbrev pub no_client : Client
no_client = record { setting = no_setting; number = 0; step_limit = 0; seen = 0; own = []; clips = []; turned = []; mode = Idle }

abbrev pub only : List Client → Client
only [] = no_client
only (p ∷ ps) = p

abbrev pub or_opening : Option Server → Server
or_opening (Some s) = s
or_opening None = opening_server no_setting

abbrev pub the_server : View → Server
the_server v = or_opening v.server

-- the clients but number c, and client c
abbrev pub without : ℕ → List Client → List Client
without c [] = []
without c (p ∷ ps) = if p.number == c then ps else p ∷ without c ps

abbrev pub client_of : ℕ → List Client → Client
client_of c [] = no_client
client_of c (p ∷ ps) = if p.number == c then p else client_of c ps

-- the numbers are what the clients have seen, each at the place of its number
pub record HasSeen (seen : List ℕ) (ps : List Client) : Type 0 where
  pub each : (k : ℕ) (p : Client) → get_elem? ps k ≡ some p → (p.number < 16) × (slice_index seen p.number ≡ p.seen)

-- ---- tokens

-- of which words, and of which setting
pub record ScreenView : Type 0 where
  pub table : TableId
  pub setting : Setting

pub record PassView : Type 0 where
  pub screen : ScreenView
  pub client : Client
  pub book_limit : ℕ

pub record HeadView : Type 0 where
  pub screen : ScreenView
  pub server : Server
  pub sitting : List Client
