use Rattle.std.proofs.Common.{sym, rules}
use Rattle.std.proofs.lemmas.Slice.Eq.{slice_eq-Decides}
use Rattle.qws_base.proofs.EqualLemmas.{same_four}
use Rattle.qws_base.proofs.lists.RectsPartialEq.eq.Goals as goal

pub returns-clause-same : goal.returns-clause-same
returns-clause-same c = slice_eq-Decides same_four c.args.self.now c.args.other.now c.eq.result (rw (sym c.self.view_is, sym c.other.view_is) (search rules))
