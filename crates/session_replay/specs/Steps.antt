-- What a replay holds behind a history.
use Rattle.std.specs.Prelude.{ℕ, ◌≡◌, ◌<◌, ◌≤◌, ◌+◌, ◌^◌, List, [], ◌∷◌, ◌++◌, length, map, slice_index_or, Some, All}
use lib.Chars.{codes}
use Rattle.std.specs.List.{flat_map}
use Rattle.qws_base.specs.States.{State}
use Rattle.qws_base.specs.Windows.{layout_of}
use Rattle.qws_base.specs.Scenes.{Setting, setting_of}
use Rattle.qws_base.specs.Histories.{Entry, World, calls_of, next_world, world_after}
use Rattle.qws_base.specs.Histories.Entry.{Step as StepEntry, Paint as PaintEntry}
use Rattle.turn_logs.specs.Carries.{IsBare}
use Rattle.window_core.specs.CoreViews.{CoreView, CanRise}
use Rattle.pixel_model.specs.Drawn.{Drawn}
use Rattle.session_journal.specs.Texts.{told_call, comments, line_text, reply_words, paint_words}
use Rattle.session_journal.specs.Grammar.{IsComment}
use Rattle.script_grammar.specs.Session.{Session, session_setting, lines_by}
use Rattle.script_grammar.specs.declared.lines.LineCall.{LineCall}
use Rattle.script_names.specs.Naming.{Naming, naming, learned}
use Rattle.session_replay.specs.declared.answers.Answer.{Answer}
use Rattle.session_replay.specs.declared.answers.Answer.TheVariants.{Step as StepAnswer, Paint as PaintAnswer}
use Rattle.session_replay.specs.declared.callers.Caller.{Caller}
use Rattle.session_replay.specs.declared.replays.Replay.{Replay}
use Rattle.session_replay.specs.Runs.{names_in, next_entry}

-- the answer that an entry has
abbrev pub answer_of : Entry → Answer
answer_of (StepEntry client command reply) = StepAnswer reply
answer_of (PaintEntry client slot tag sheet reply) = PaintAnswer reply

abbrev pub answer_words : Answer → List ℕ
answer_words (StepAnswer reply) = reply_words reply
answer_words (PaintAnswer reply) = paint_words reply

-- the names after an answer
abbrev pub learned_by_answer : Naming → LineCall → Answer → Naming
learned_by_answer slots call (StepAnswer reply) = learned slots call reply
learned_by_answer slots call (PaintAnswer reply) = slots

-- a client's names after a history, how many of its calls stand in it, and how many it has in all
pub record IsCaller (session : Session) (h : List Entry) (client : ℕ) (caller : Caller) : Type 0 where
  pub client_is : caller.names.client ≡ client
  pub slots : naming caller.names.slots ≡ names_in session h client
  pub made : caller.made ≡ length (calls_of h client)
  pub calls : caller.calls ≡ length (lines_by client session.calls)

-- one for each client
pub record AreCallers (session : Session) (h : List Entry) (callers : List Caller) : Type 0 where
  pub many : length callers ≡ session.clients
  pub each : (client : ℕ) (d : Caller) → client < session.clients → IsCaller session h client (slice_index_or callers client d)

-- a client is one of these and has a call left
pub record HasLeft (callers : List Caller) (client : ℕ) : Type 0 where
  pub known : client < length callers
  pub left : (d : Caller) → (slice_index_or callers client d).made < (slice_index_or callers client d).calls

-- it is none of these, or has no call left
abbrev pub HasNone : List Caller → ℕ → Type 0
HasNone callers client = client < length callers → (d : Caller) → (slice_index_or callers client d).calls ≤ (slice_index_or callers client d).made

-- none of these has a call left
abbrev pub AreAllMade : List Caller → Type 0
AreAllMade callers = All (λ caller. caller.made ≡ caller.calls) callers

-- core and canvas are the world after a history
pub record IsWorld (session : Session) (h : List Entry) (core : CoreView) (canvas : Drawn) : Type 0 where
  pub size : core.size ≡ session.size
  pub backdrop : core.backdrop ≡ session.backdrop
  pub setting : canvas.setting ≡ session_setting session
  pub state : core.state ≡ (world_after (session_setting session) h).state
  pub scene : canvas.scene ≡ (world_after (session_setting session) h).scene

-- state and scene are those of the world after an entry
pub record IsNextWorld (setting : Setting) (world : World) (e : Entry) (state : State) (scene : List ℕ) : Type 0 where
  pub state_is : state ≡ (next_world setting world e).state
  pub scene_is : scene ≡ (next_world setting world e).scene

-- a replay behind a history
pub record IsReplay (session : Session) (h : List Entry) (replay : Replay) : Type 0 where
  pub world : IsWorld session h replay.core replay.canvas
  pub callers : AreCallers session h replay.callers.items

-- a client has a call left, no number is at its end, and the canvas has the backdrop where no window owns the pixel
pub record IsReady (session : Session) (client : ℕ) (replay : Replay) (caller : Caller) : Type 0 where
  pub within : client < length replay.callers.items
  pub sixteen : client < 16
  pub named : caller.names.client ≡ client
  pub left : caller.made < length (lines_by client session.calls)
  pub few : caller.made + 1 < 2 ^ 64
  pub room : CanRise replay.core.state
  pub screen : replay.canvas.setting ≡ setting_of replay.core.size replay.canvas.setting.depth replay.core.backdrop
  pub bare : IsBare replay.canvas.setting (layout_of replay.core.size replay.core.state.windows) replay.canvas.scene

-- the caller of a client
abbrev pub caller_at : Replay → ℕ → Caller
caller_at replay client = slice_index_or replay.callers.items client (record { names = record { client = 0; slots = [] }; made = 0; calls = 0 })

-- behind whatever history a replay was, it is now behind the client's next entry too, and the answer is that entry's
abbrev pub GoesOn : Session → ℕ → Replay → Replay → Answer → Type 0
GoesOn session client before after answer = (h : List Entry) (e : Entry) → next_entry session h client ≡ Some e → IsReplay session h before → IsReplay session (h ++ e ∷ []) after × (answer ≡ answer_of e)

-- the text holds the comments of a history
pub record IsCommented (h : List Entry) (text : List ℕ) : Type 0 where
  pub text_is : text ≡ codes "P6\n" ++ flat_map line_text (comments (map told_call h))
  pub lines : length h < 2 ^ 32 → All IsComment (comments (map told_call h))
