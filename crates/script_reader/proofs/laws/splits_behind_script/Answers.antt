use Rattle.script_reader.proofs.Splits.{ends_with_script}
use Rattle.script_reader.proofs.laws.splits_behind_script.Goals as goal

pub returns : goal.returns
returns c = ends_with_script
