use Rattle.std.proofs.Common.{◌<◌, subst}
use Rattle.std.proofs.lemmas.List.{get_or_default}
use Rattle.step_turns.proofs.publishing.cells_are_words.Goals as goal

pub returns : goal.returns
returns c = λ k d below. subst (λ n. n < 4294967296) (get_or_default c.args.cells.now k 0 d below) (c.type_inv.cells k).fits
