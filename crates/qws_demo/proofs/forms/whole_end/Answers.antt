use Rattle.std.proofs.Common.{◌≡◌, ◌∙◌, ap, sym, refl, subst, Option, None, Some, map, string_bytes}
use Rattle.program_words.specs.declared.forms.Form.{Form}
use Rattle.program_words.specs.declared.forms.Form.TheVariants.{Run, Check, Make, Trial}
use Rattle.qws_demo.specs.Due.{asked, plain_form}
use Rattle.qws_demo.specs.Ends.{Seen}
use Rattle.qws_demo.proofs.LoadRanges.{IsLoaded, form_loaded}
use Rattle.qws_demo.proofs.FormEnds.{at_form, make_ends, trial_ends, usage_ends}
use Rattle.qws_demo.proofs.forms.whole_end.Goals as goal

pub returns-in-Some-Trial-clause-end : goal.returns-in-Some-Trial-clause-end
returns-in-Some-Trial-clause-end g c =
    let is : asked c.args.words.now ≡ Some (Trial c.in-Some-Trial.load) = sym c.form_of_words.ensures ∙ c.in-Some-Trial.is ∙ ap (λ (f : Form). Some f) c.in-Some-Trial.field-0-is in
    let seen : Seen = record {
      left = g.S.Source.left c.args.source.now;
      rest = g.S.Source.left c.args.source.now;
      read_faults = g.S.Source.faults c.args.source.now;
      read_faults_now = g.S.Source.faults c.args.source.now;
      written = g.K.Sink.written c.args.sink.now;
      written_now = g.K.Sink.written c.trial_end.new.sink;
      write_faults = g.K.Sink.faults c.args.sink.now;
      write_faults_now = g.K.Sink.faults c.trial_end.new.sink;
    } in
    at_form (asked c.args.words.now) (Some (Trial c.in-Some-Trial.load)) c.trial_end.result seen is (trial_ends c.in-Some-Trial.load seen c.trial_end.result (record { left = refl; read_well = refl }) c.trial_end.ensures.end)

pub trial_end-requires-clause-load : goal.trial_end-requires-clause-load
trial_end-requires-clause-load g c κs within =
    let is : asked c.args.words.now ≡ Some (Trial c.in-Some-Trial.load) = sym c.form_of_words.ensures ∙ c.in-Some-Trial.is ∙ ap (λ (f : Form). Some f) c.in-Some-Trial.field-0-is in
    subst IsLoaded is (form_loaded (map string_bytes c.args.words.now))
