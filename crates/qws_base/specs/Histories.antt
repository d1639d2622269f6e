-- Histories of a session, and when one is legal.
use Rattle.std.specs.Prelude.{ℕ, ◌≡◌, ◌==◌, List, [], ◌∷◌, if◌then◌else◌, ⊤}
use Rattle.std.specs.List.{filter, fold}
use Rattle.qws_base.specs.Sides.{Sides}
use Rattle.qws_base.specs.Windows.{layout_of}
use Rattle.qws_base.specs.States.{State, opening_state, is_refused, moved_slot}
use Rattle.qws_base.specs.Steps.{step}
use Rattle.qws_base.specs.Sheets.{Sheet}
use Rattle.qws_base.specs.Scenes.{Setting, opening_scene, scene_after_step, scene_after_paint, paint_reply}
use Rattle.qws_base.specs.declared.commands.Command.{Command}
use Rattle.qws_base.specs.declared.replies.Reply.{Reply}
use Rattle.qws_base.specs.declared.replies.PaintReply.{PaintReply}
use Rattle.qws_base.specs.declared.journals.JournalEntry.{JournalEntry}

-- a step has its client, command and reply; a paint its client, slot, tag, sheet and reply
pub data Entry : Type 0 where
  Step : ℕ → Command → Reply → Entry
  Paint : ℕ → ℕ → ℕ → Sheet → PaintReply → Entry

abbrev pub client_of_entry : Entry → ℕ
client_of_entry (Step client command reply) = client
client_of_entry (Paint client slot tag sheet reply) = client

-- a closed server turn, as a history has it
abbrev pub step_entry : JournalEntry → Entry
step_entry e = Step e.client e.command e.reply

-- a client's calls in a history, in order
abbrev pub calls_of : List Entry → ℕ → List Entry
calls_of h client = filter (λ e. client_of_entry e == client) h

-- the state after the commands of a journal
abbrev pub state_of_journal : Sides → List JournalEntry → State
state_of_journal size journal = fold (λ state e. (step size state e.client e.command).0) opening_state journal

-- the state and the scene
pub record World : Type 0 where
  pub state : State
  pub scene : List ℕ

abbrev pub opening_world : Setting → World
opening_world setting = record { state = opening_state; scene = opening_scene setting }

-- the scene after a command: the same after a refused one
abbrev pub scene_after : Setting → World → Command → State × Reply → List ℕ
scene_after setting world command made =
    if is_refused made.1 then world.scene
    else scene_after_step setting (layout_of setting.size world.state.windows) (layout_of setting.size made.0.windows) (moved_slot command) world.scene

-- the world after an entry
abbrev pub next_world : Setting → World → Entry → World
next_world setting world (Step client command reply) =
    record { state = (step setting.size world.state client command).0; scene = scene_after setting world command (step setting.size world.state client command) }
next_world setting world (Paint client slot tag sheet reply) =
    record world { scene = scene_after_paint setting (layout_of setting.size world.state.windows) client slot sheet world.scene }

-- the entry's reply is the one that the world gives
abbrev pub Answers : Setting → World → Entry → Type 0
Answers setting world (Step client command reply) = reply ≡ (step setting.size world.state client command).1
Answers setting world (Paint client slot tag sheet reply) =
    reply ≡ paint_reply setting.size (layout_of setting.size world.state.windows) client slot sheet

-- the world after a history
abbrev pub world_from : Setting → World → List Entry → World
world_from setting world [] = world
world_from setting world (e ∷ h) = world_from setting (next_world setting world e) h

abbrev pub world_after : Setting → List Entry → World
world_after setting h = world_from setting (opening_world setting) h

-- each reply is the one at its place
abbrev pub IsLegalFrom : Setting → World → List Entry → Type 0
IsLegalFrom setting world [] = ⊤
IsLegalFrom setting world (e ∷ h) = Answers setting world e × IsLegalFrom setting (next_world setting world e) h

abbrev pub IsLegal : Setting → List Entry → Type 0
IsLegal setting h = IsLegalFrom setting (opening_world setting) h
