-- What a turn of the desk leaves of the head.
use Rattle.std.specs.Prelude.{◌≡◌, ℕ, [], ◌∷◌, ◌++◌, List, map}
use Rattle.qws_base.specs.declared.journals.JournalEntry.{JournalEntry}
use Rattle.turn_logs.specs.declared.items.Item.{Item}
use Rattle.fb_words.specs.declared.known.Closed.{Closed}
use Rattle.fb_words.specs.declared.known.Server.{Server}
use Rattle.fb_words.specs.declared.known.ServerMode.TheVariants.{Resting}
use Rattle.fb_words.specs.Views.{HeadView}
use Rattle.fb_words.specs.Steps.{SitsAs, with_step}
use Rattle.qws_base.specs.Books.{BookView}

-- the closed turn of an entry, with a log
abbrev pub turn_with : JournalEntry → List Item → Closed
turn_with e log = record { client = e.client; command = e.command; reply = e.reply; log = log }

-- the server after it has closed a turn with that log, which left these words
abbrev pub after_turn : Server → JournalEntry → List Item → List ℕ → Server
after_turn s e log words = record s { mode = Resting; closed = s.closed ++ turn_with e log ∷ []; log = []; present = words; tables = s.tables ++ words ∷ [] }

-- the head has closed a turn with that entry, which its client has among its calls
pub record HasServed (before after : HeadView) (e : JournalEntry) : Type 0 where
  pub log : List Item
  pub words : List ℕ
  pub head : after ≡ record before { server = after_turn before.server e log words; sitting = map (with_step e) before.sitting }

-- the stubs that sat with it still do
pub record KeepsStubs (before after : HeadView) : Type 0 where
  pub each : (stub : BookView) → SitsAs stub before.sitting → SitsAs stub after.sitting
