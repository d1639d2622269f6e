use Rattle.std.proofs.Common.{◌∙◌, sym}
use Rattle.script_grammar.specs.Reading.{Within}
use Rattle.script_reader.proofs.Folds.{last_in_none, is_none}
use Rattle.script_reader.proofs.readings.last_cause.Goals as goal

pub returns-then-is_empty : goal.returns-then-is_empty
returns-then-is_empty c = λ said limits kept at. last_in_none (Within said) c.args.rest.now (is_none _ (sym c.is_empty.ensures ∙ c.if-is_empty.true))
