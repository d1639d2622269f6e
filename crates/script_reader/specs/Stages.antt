-- What stands before a line, as the reader keeps it.
use Rattle.std.specs.Prelude.{ℕ, List, Result, Ok}
use Rattle.qws_base.specs.Sides.{Sides}
use Rattle.qws_base.specs.declared.colours.Depth.{Depth}
use Rattle.script_grammar.specs.Judging.{◌>>=◌}
use Rattle.script_grammar.specs.Lines.{screen_read, clients_read}
use Rattle.script_grammar.specs.Reading.{Before, Nothing, Deep, Sized, sized, begun}
use Rattle.script_grammar.specs.declared.lines.Cause.{Cause}
use Rattle.script_reader.specs.declared.heads.HeadStage.{HeadStage}
use Rattle.script_reader.specs.declared.heads.HeadStage.TheVariants.{Start, Deep as DeepStage, Measured}
use Rattle.script_reader.specs.declared.heads.Next.{Next}
use Rattle.script_reader.specs.declared.heads.Next.TheVariants.{Part, Whole}

abbrev pub stage_before : HeadStage → Before
stage_before Start = Nothing
stage_before (DeepStage depth) = Deep depth
stage_before (Measured depth size backdrop) = Sized depth size backdrop

abbrev pub next_before : Next → Before
next_before (Part stage) = stage_before stage
next_before (Whole head) = begun head.depth head.size head.backdrop head.clients

-- behind a line `screen` of that depth
abbrev pub measured_read : Depth → List (List ℕ) → Result Before Cause
measured_read depth words = screen_read words >>= λ screen. Ok (sized depth screen)

-- behind a line `clients` of such a screen
abbrev pub counted_read : Depth → Sides → ℕ → List (List ℕ) → Result Before Cause
counted_read depth size backdrop words = clients_read words >>= λ clients. Ok (begun depth size backdrop clients)
