-- What the desk answers to a frame.
use Rattle.std.specs.Prelude.{◌≡◌, ◌<◌, ℕ, false, List, Some, None, Result, Ok, Err}
use Rattle.qws_base.specs.declared.commands.Command.{Command}
use Rattle.qws_frames.specs.Layout.{SpellsCommand}
use Rattle.qws_frames.specs.Stops.{frame_refusal}
use Rattle.fb_words.specs.declared.known.Client.{Client}
use Rattle.fb_words.specs.Views.{PassView}
use Rattle.server_desk.specs.declared.answers.Answer.{Answer}
use Rattle.server_desk.specs.declared.answers.CallStop.{CallStop}
use Rattle.server_desk.specs.declared.answers.CallStop.TheVariants as call
use Rattle.server_desk.specs.declared.answers.FrameCallStop.{FrameCallStop}
use Rattle.server_desk.specs.declared.answers.FrameCallStop.TheVariants.{Busy, JournalFull, OutOfMemory, Frame}
use Rattle.server_desk.specs.DeskViews.{DeskView, withdrawn_desk}
use Rattle.server_desk.specs.Answers.{steps_made, answered_pass, HasAnswered, HasStopped}

-- the stop of a command as that of its frame
abbrev pub frame_stop : CallStop → FrameCallStop
frame_stop (call.Busy found) = Busy found
frame_stop (call.JournalFull held) = JournalFull held
frame_stop call.OutOfMemory = OutOfMemory

-- a command's answer or stop, as that of its frame
abbrev pub frame_answer : Result Answer CallStop → Result Answer FrameCallStop
frame_answer (Ok answer) = Ok answer
frame_answer (Err stop) = Err (frame_stop stop)

-- the bytes spell a command, which is answered
pub record HasAnsweredFrame (before after : DeskView) (pass back : PassView) (bytes : List ℕ) (answer : Answer) : Type 0 where
  pub command : Command
  pub spelled : SpellsCommand command bytes
  pub answered : HasAnswered before after pass.client.number command answer
  pub back_is : back ≡ answered_pass pass command answer
  pub few : steps_made pass.client < pass.client.step_limit
  pub rises : pass.client.seen < answer.number

-- No command is spelled for that cause, and the server isn't asked; want of memory; or a command is spelled and has stopped. After
-- each the pass is as it was.
abbrev pub HasStoppedFrame : DeskView → DeskView → Client → List ℕ → FrameCallStop → Type 0
HasStoppedFrame before after p bytes (Frame cause) = (frame_refusal false bytes ≡ Some cause) × (after ≡ withdrawn_desk before)
HasStoppedFrame before after p bytes OutOfMemory = after ≡ withdrawn_desk before
HasStoppedFrame before after p bytes (JournalFull held) = (frame_refusal false bytes ≡ None) × HasStopped before after p (call.JournalFull held)
HasStoppedFrame before after p bytes (Busy found) = (frame_refusal false bytes ≡ None) × HasStopped before after p (call.Busy found)
