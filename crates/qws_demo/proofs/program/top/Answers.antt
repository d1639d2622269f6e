use Rattle.qws_demo.specs.Due.{asked, run_limit}
use Rattle.qws_demo.proofs.Shown.{headline_shown}
use Rattle.qws_demo.proofs.Says.{says_held, says_bad_pair, says_check, says_differs, says_long_pair, complete_check, told_bad_pair, told_long_pair, told_other_pair, says_bad_script, says_long_script, complete_run, told_bad_script, told_long_script}
use Rattle.qws_demo.proofs.program.top.Goals as goal

pub returns-clause-held : goal.returns-clause-held
returns-clause-held g c = says_held _ _ _ c.whole_end.ensures.end

pub returns-clause-bad_script : goal.returns-clause-bad_script
returns-clause-bad_script g c = says_bad_script _ _ _ c.whole_end.ensures.end

pub returns-clause-bad_pair : goal.returns-clause-bad_pair
returns-clause-bad_pair g c = says_bad_pair _ _ _ c.whole_end.ensures.end

pub returns-clause-long_script : goal.returns-clause-long_script
returns-clause-long_script g c = says_long_script _ _ _ c.whole_end.ensures.end

pub returns-clause-long_pair : goal.returns-clause-long_pair
returns-clause-long_pair g c = says_long_pair _ _ _ c.whole_end.ensures.end

pub returns-clause-differs : goal.returns-clause-differs
returns-clause-differs g c = says_check _ _ _ c.whole_end.ensures.end

pub returns-clause-told_difference : goal.returns-clause-told_difference
returns-clause-told_difference g c = says_differs _ _ _ c.whole_end.ensures.end

pub returns-clause-complete_run : goal.returns-clause-complete_run
returns-clause-complete_run g c = complete_run _ _ _ c.whole_end.ensures.end

pub returns-clause-complete_check : goal.returns-clause-complete_check
returns-clause-complete_check g c = complete_check _ _ _ c.whole_end.ensures.end

pub returns-clause-told_bad_script : goal.returns-clause-told_bad_script
returns-clause-told_bad_script g c = told_bad_script _ _ _ c.whole_end.ensures.end

pub returns-clause-told_bad_pair : goal.returns-clause-told_bad_pair
returns-clause-told_bad_pair g c = told_bad_pair _ _ _ c.whole_end.ensures.end

pub returns-clause-told_long_script : goal.returns-clause-told_long_script
returns-clause-told_long_script g c = told_long_script _ _ _ c.whole_end.ensures.end

pub returns-clause-told_long_pair : goal.returns-clause-told_long_pair
returns-clause-told_long_pair g c = told_long_pair _ _ _ c.whole_end.ensures.end

pub returns-clause-told_other_pair : goal.returns-clause-told_other_pair
returns-clause-told_other_pair g c = told_other_pair _ _ _ c.whole_end.ensures.end

pub returns-clause-headline : goal.returns-clause-headline
returns-clause-headline g c = λ at is.
    headline_shown run_limit (g.S.Source.left c.args.source.now) (g.S.Source.left c.whole_end.new.source) (g.K.Sink.written c.args.sink.now) (g.K.Sink.written c.whole_end.new.sink) c.whole_end.new.kept (c.whole_end.ensures.shown at is)
