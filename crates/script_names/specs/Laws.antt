-- For which slot a name stands, in the words of creates and replies.
use Rattle.std.specs.Prelude.{ℕ, ◌≡◌, ◌<◌, List, Some, slice_get}
use Rattle.qws_base.specs.Histories.{Entry}
use Rattle.qws_base.specs.Histories.Entry.{Step as StepEntry}
use Rattle.qws_base.specs.declared.commands.Command.{Command}
use Rattle.qws_base.specs.declared.replies.Reply.TheVariants.{Created}
use Rattle.script_grammar.specs.declared.lines.LineCall.TheVariants.{Create}
use Rattle.script_grammar.specs.declared.lines.CallLine.{CallLine}
use Rattle.script_names.specs.Naming.{no_names, names_after}

-- call k is a `create` of that name, and was answered Created with that slot
pub record IsCreated (lines : List CallLine) (entries : List Entry) (name : List ℕ) (k slot : ℕ) : Type 0 where
  pub by : ℕ
  pub layer : ℕ
  pub client : ℕ
  pub command : Command
  pub line : slice_get lines k ≡ Some (record { client = by; call = Create name layer })
  pub entry : slice_get entries k ≡ Some (StepEntry client command (Created slot))

-- a name stands for the slot of its latest create that was answered Created
abbrev pub StandsForLatest : Type 0
StandsForLatest = (lines : List CallLine) (entries : List Entry) (name : List ℕ) (k slot : ℕ) → IsCreated lines entries name k slot → ((j other : ℕ) → k < j → ¬ IsCreated lines entries name j other) → names_after no_names lines entries name ≡ slot

-- and for 32 where there is none
abbrev pub StandsForNone : Type 0
StandsForNone = (lines : List CallLine) (entries : List Entry) (name : List ℕ) → ((j other : ℕ) → ¬ IsCreated lines entries name j other) → names_after no_names lines entries name ≡ 32
