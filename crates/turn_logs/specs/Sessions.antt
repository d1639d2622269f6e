-- A whole session: closed turns one after the other, each carrying its entry.
use Rattle.std.specs.Prelude.{◌≡◌, ℕ, ◌+◌, ◌<◌, List, [], ◌∷◌, ◌++◌, map, ⊤}
use Rattle.qws_base.specs.States.{State}
use Rattle.qws_base.specs.Arranged.{IsArranged}
use Rattle.qws_base.specs.Steps.{step}
use Rattle.qws_base.specs.Sheets.{Sheet}
use Rattle.qws_base.specs.Colours.{shown_colour}
use Rattle.qws_base.specs.Points.{pixel_count}
use Rattle.qws_base.specs.Scenes.{Setting, by_pixels}
use Rattle.qws_base.specs.Shown.{shown_picture}
use Rattle.qws_base.specs.Windows.{layout_of}
use Rattle.qws_base.specs.Histories.{Entry, Step, Paint, World, opening_world, world_from, IsLegalFrom}
use Rattle.qws_base.specs.declared.commands.Command.{Command}
use Rattle.qws_base.specs.declared.replies.Reply.{Reply}
use Rattle.qws_base.specs.declared.replies.PaintReply.{PaintReply}
use Rattle.region_table.specs.Numbers.{pixel_word}
use Rattle.region_table.specs.Opening.{opening_table}
use Rattle.region_table.specs.Published.{IsTableOf}
use Rattle.region_table.specs.declared.tables.Table.{Table}
use Rattle.turn_logs.specs.declared.items.Item.{Item}
use Rattle.turn_logs.specs.Carries.{TrueIn, words_after, StandFor, IsBare, CarriesStep, CarriesPaintUnder, RepliesUnder}

-- A closed turn of the server has its client, command, reply, the table that it left, and its log; one of a painter its
-- client, slot, tag, sheet, reply and log.
pub data ClosedTurn : Type 0 where
  Served : ℕ → Command → Reply → Table → List Item → ClosedTurn
  Drawn : ℕ → ℕ → ℕ → Sheet → PaintReply → List Item → ClosedTurn

abbrev pub entry_of : ClosedTurn → Entry
entry_of (Served client command reply after log) = Step client command reply
entry_of (Drawn client slot tag sheet reply log) = Paint client slot tag sheet reply

abbrev pub log_of : ClosedTurn → List Item
log_of (Served client command reply after log) = log
log_of (Drawn client slot tag sheet reply log) = log

-- the logs one after the other
abbrev pub logs_of : List ClosedTurn → List Item
logs_of [] = []
logs_of (turn ∷ turns) = log_of turn ++ logs_of turns

-- the last table that was left
abbrev pub table_after : Table → List ClosedTurn → Table
table_after table [] = table
table_after table (Served client command reply after log ∷ turns) = table_after after turns
table_after table (Drawn client slot tag sheet reply log ∷ turns) = table_after table turns

-- the last stamp: one more for each turn of the server
abbrev pub stamp_after : ℕ → List ClosedTurn → ℕ
stamp_after stamp [] = stamp
stamp_after stamp (Served client command reply after log ∷ turns) = stamp_after (stamp + 1) turns
stamp_after stamp (Drawn client slot tag sheet reply log ∷ turns) = stamp_after stamp turns

-- the server's turn has the reply of its command, left the table of the state after it, and carries the step
pub record IsServed (setting : Setting) (state : State) (stamp : ℕ) (table : Table) (client : ℕ) (command : Command) (reply : Reply) (after : Table) (log : List Item) : Type 0 where
  pub answered : reply ≡ (step setting.size state client command).1
  pub left : IsTableOf setting.size (step setting.size state client command).0 (stamp + 1) after
  pub carried : CarriesStep setting table after command reply log

-- the turns follow each other from a state, a stamp and its table on
abbrev pub AreCarried : Setting → State → ℕ → Table → List ClosedTurn → Type 0
AreCarried setting state stamp table [] = ⊤
AreCarried setting state stamp table (Served client command reply after log ∷ turns) =
    IsServed setting state stamp table client command reply after log × AreCarried setting (step setting.size state client command).0 (stamp + 1) after turns
AreCarried setting state stamp table (Drawn client slot tag sheet reply log ∷ turns) =
    CarriesPaintUnder setting table slot sheet reply log × RepliesUnder setting table client slot sheet reply × AreCarried setting state stamp table turns

-- a world's windows are arranged, the table of its state stands in the words, and the words stand for its scene, which is
-- the backdrop where nobody owns the pixel
pub record IsAt (setting : Setting) (world : World) (stamp : ℕ) (table : Table) (words : ℕ → ℕ) : Type 0 where
  pub arranged : IsArranged setting.size world.state.windows
  pub published : IsTableOf setting.size world.state stamp table
  pub stands : StandFor setting table.cursor words world.scene
  pub bare : IsBare setting (layout_of setting.size world.state.windows) world.scene

-- Turns that follow each other make a legal history, and the words after all their logs are those of the world after it.
abbrev pub SessionLaw : Type 0
SessionLaw = (setting : Setting) (world : World) (stamp : ℕ) (table : Table) (words : ℕ → ℕ) (turns : List ClosedTurn)
    → IsAt setting world stamp table words → TrueIn words (logs_of turns) → AreCarried setting world.state stamp table turns
    → IsLegalFrom setting world (map entry_of turns)
    × IsAt setting (world_from setting world (map entry_of turns)) (stamp_after stamp turns) (table_after table turns) (words_after words (logs_of turns))

-- The opening words, with the backdrop in each pixel's word, are those of the opening world; and where words are those of a
-- world, its picture is shown in them.
pub record PictureLaw : Type 0 where
  pub opens : (setting : Setting) (words : ℕ → ℕ) → ((p : ℕ) → p < pixel_count setting.size → words (pixel_word p) ≡ setting.backdrop)
      → IsAt setting (opening_world setting) 0 opening_table words
  pub shows : (setting : Setting) (world : World) (stamp : ℕ) (table : Table) (words : ℕ → ℕ) → IsAt setting world stamp table words
      → by_pixels setting.size (λ p. shown_colour setting.depth (words (pixel_word p))) ≡ shown_picture setting world.state.cursor world.scene
