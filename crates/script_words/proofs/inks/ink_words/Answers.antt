use Rattle.std.proofs.Common.{arith, sym, ◌∙◌}
use Rattle.script_words.proofs.Plains.{ink_first}
use Rattle.script_words.proofs.inks.ink_words.Goals as goal

pub returns-in-Some-clause-ink : goal.returns-in-Some-clause-ink
returns-in-Some-clause-ink c = c.coloured.ensures.ink ∙ sym (ink_first c.args.words.now c.in-Some.kind (omega arith) (sym c.plain_kind.ensures ∙ c.in-Some.is))
