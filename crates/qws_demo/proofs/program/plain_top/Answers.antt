use Rattle.std.proofs.Common.{ap}
use Rattle.qws_demo.specs.Due.{asked, plain_form}
use Rattle.qws_demo.proofs.Says.{says_held, says_bad_pair, says_check, says_differs, says_long_pair, complete_check, told_bad_pair, told_long_pair, told_other_pair}
use Rattle.qws_demo.proofs.program.plain_top.Goals as goal

pub returns-clause-held : goal.returns-clause-held
returns-clause-held g c = λ at is.
    says_held (plain_form (asked c.args.words.now)) c.plain_end.result _ c.plain_end.ensures at (ap plain_form is)

pub returns-clause-bad_pair : goal.returns-clause-bad_pair
returns-clause-bad_pair g c = λ at is.
    says_bad_pair (plain_form (asked c.args.words.now)) c.plain_end.result _ c.plain_end.ensures at (ap plain_form is)

pub returns-clause-long_pair : goal.returns-clause-long_pair
returns-clause-long_pair g c = λ at is.
    says_long_pair (plain_form (asked c.args.words.now)) c.plain_end.result _ c.plain_end.ensures at (ap plain_form is)

pub returns-clause-told_difference : goal.returns-clause-told_difference
returns-clause-told_difference g c = says_differs _ _ _ c.plain_end.ensures

pub returns-clause-complete_check : goal.returns-clause-complete_check
returns-clause-complete_check g c = λ is that a b.
    complete_check (plain_form (asked c.args.words.now)) c.plain_end.result _ c.plain_end.ensures (ap plain_form is) that a b

pub returns-clause-told_bad_pair : goal.returns-clause-told_bad_pair
returns-clause-told_bad_pair g c = λ is that a b.
    told_bad_pair (plain_form (asked c.args.words.now)) c.plain_end.result _ c.plain_end.ensures (ap plain_form is) that a b

pub returns-clause-told_long_pair : goal.returns-clause-told_long_pair
returns-clause-told_long_pair g c = λ is that a b.
    told_long_pair (plain_form (asked c.args.words.now)) c.plain_end.result _ c.plain_end.ensures (ap plain_form is) that a b

pub returns-clause-told_other_pair : goal.returns-clause-told_other_pair
returns-clause-told_other_pair g c = λ is that a b.
    told_other_pair (plain_form (asked c.args.words.now)) c.plain_end.result _ c.plain_end.ensures (ap plain_form is) that a b
