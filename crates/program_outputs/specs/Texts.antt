-- The lines of text that the program writes.
use Rattle.std.specs.Prelude.{ℕ, List, ◌++◌}
use lib.Chars.{codes}
use Rattle.std.specs.Fmt.{decimal}
use Rattle.script_grammar.specs.declared.lines.Cause.{Cause}
use Rattle.script_grammar.specs.declared.lines.Cause.TheVariants.{Form, Number, Range, Unknown, Repeated, Missing, Many, End}
use Rattle.session_replay.specs.declared.verdicts.Verdict.{Verdict}
use Rattle.session_replay.specs.declared.verdicts.Verdict.TheVariants.{Holds, BadScreen, BadEntry, BadPixel}

abbrev pub usage_text : List ℕ
usage_text = codes "usage: qws_demo run, check, make or trial --seed N --clients N --calls N\n"

abbrev pub long_text : List ℕ
long_text = codes "too long\n"

abbrev pub cause_word : Cause → List ℕ
cause_word Form = codes "form"
cause_word Number = codes "number"
cause_word Range = codes "range"
cause_word Unknown = codes "unknown"
cause_word Repeated = codes "repeated"
cause_word Missing = codes "missing"
cause_word Many = codes "many"
cause_word End = codes "end"

-- the first bad line of a script, from 1, and its cause
abbrev pub bad_line_text : ℕ → Cause → List ℕ
bad_line_text line cause = codes "bad line " ++ (decimal line ++ (codes " " ++ (cause_word cause ++ codes "\n")))

-- the place of the byte at which bytes stop being a file
abbrev pub bad_byte_text : ℕ → List ℕ
bad_byte_text at = codes "bad byte " ++ (decimal at ++ codes "\n")

-- the verdict on a file of so many entries
abbrev pub verdict_text : ℕ → Verdict → List ℕ
verdict_text entries Holds = codes "holds " ++ (decimal entries ++ codes "\n")
verdict_text entries (BadScreen w h) = codes "bad screen " ++ (decimal w ++ (codes " " ++ (decimal h ++ codes "\n")))
verdict_text entries (BadEntry line) = codes "bad entry " ++ (decimal line ++ codes "\n")
verdict_text entries (BadPixel index) = codes "bad pixel " ++ (decimal index ++ codes "\n")

-- a session of so many clients and calls was made and run, and its file holds
abbrev pub tried_text : ℕ → ℕ → List ℕ
tried_text clients calls = codes "clients " ++ (decimal clients ++ (codes " calls " ++ (decimal calls ++ codes " holds\n")))

-- the status of a verdict
abbrev pub verdict_status : Verdict → ℕ
verdict_status Holds = 0
verdict_status (BadScreen w h) = 7
verdict_status (BadEntry line) = 7
verdict_status (BadPixel index) = 7
