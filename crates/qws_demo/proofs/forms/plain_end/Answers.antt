use Rattle.std.proofs.Common.{◌≡◌, ◌∙◌, ap, sym, refl, subst, Option, None, Some, map, string_bytes}
use Rattle.program_words.specs.declared.forms.Form.{Form}
use Rattle.program_words.specs.declared.forms.Form.TheVariants.{Run, Check, Make, Trial}
use Rattle.qws_demo.specs.Due.{asked, plain_form}
use Rattle.qws_demo.specs.Ends.{Seen}
use Rattle.qws_demo.proofs.LoadRanges.{IsLoaded, form_loaded}
use Rattle.qws_demo.proofs.FormEnds.{at_form, make_ends, trial_ends, usage_ends}
use Rattle.qws_demo.proofs.forms.plain_end.Goals as goal

pub make_end-requires : goal.make_end-requires
make_end-requires g c =
    let is : asked c.args.words.now ≡ Some (Make c.in-Some-Make.load) = sym c.form_of_words.ensures ∙ c.in-Some-Make.is ∙ ap (λ (f : Form). Some f) c.in-Some-Make.field-0-is in
    subst IsLoaded is (form_loaded (map string_bytes c.args.words.now))

pub returns-in-Some-Make : goal.returns-in-Some-Make
returns-in-Some-Make g c =
    let is : asked c.args.words.now ≡ Some (Make c.in-Some-Make.load) = sym c.form_of_words.ensures ∙ c.in-Some-Make.is ∙ ap (λ (f : Form). Some f) c.in-Some-Make.field-0-is in
    let seen : Seen = record {
      left = g.S.Source.left c.args.source.now;
      rest = g.S.Source.left c.args.source.now;
      read_faults = g.S.Source.faults c.args.source.now;
      read_faults_now = g.S.Source.faults c.args.source.now;
      written = g.K.Sink.written c.args.sink.now;
      written_now = g.K.Sink.written c.make_end.new.sink;
      write_faults = g.K.Sink.faults c.args.sink.now;
      write_faults_now = g.K.Sink.faults c.make_end.new.sink;
    } in
    at_form (plain_form (asked c.args.words.now)) (Some (Make c.in-Some-Make.load)) c.make_end.result seen (ap plain_form is) (make_ends c.in-Some-Make.load seen c.make_end.result (record { left = refl; read_well = refl }) c.make_end.ensures)

pub returns-in-Some-Run : goal.returns-in-Some-Run
returns-in-Some-Run g c =
    let is : asked c.args.words.now ≡ Some Run = sym c.form_of_words.ensures ∙ c.in-Some-Run.is ∙ ap (λ (f : Form). Some f) c.in-Some-Run.field-0-is in
    let seen : Seen = record {
      left = g.S.Source.left c.args.source.now;
      rest = g.S.Source.left c.args.source.now;
      read_faults = g.S.Source.faults c.args.source.now;
      read_faults_now = g.S.Source.faults c.args.source.now;
      written = g.K.Sink.written c.args.sink.now;
      written_now = g.K.Sink.written c.usage_end.new.sink;
      write_faults = g.K.Sink.faults c.args.sink.now;
      write_faults_now = g.K.Sink.faults c.usage_end.new.sink;
    } in
    usage_ends (plain_form (asked c.args.words.now)) seen c.usage_end.result (ap plain_form is) (record { left = refl; read_well = refl }) c.usage_end.ensures

pub returns-in-Some-Trial : goal.returns-in-Some-Trial
returns-in-Some-Trial g c =
    let is : asked c.args.words.now ≡ Some (Trial c.in-Some-Trial.field-0-0) = sym c.form_of_words.ensures ∙ c.in-Some-Trial.is ∙ ap (λ (f : Form). Some f) c.in-Some-Trial.field-0-is in
    let seen : Seen = record {
      left = g.S.Source.left c.args.source.now;
      rest = g.S.Source.left c.args.source.now;
      read_faults = g.S.Source.faults c.args.source.now;
      read_faults_now = g.S.Source.faults c.args.source.now;
      written = g.K.Sink.written c.args.sink.now;
      written_now = g.K.Sink.written c.usage_end-in-Some-Trial.new.sink;
      write_faults = g.K.Sink.faults c.args.sink.now;
      write_faults_now = g.K.Sink.faults c.usage_end-in-Some-Trial.new.sink;
    } in
    usage_ends (plain_form (asked c.args.words.now)) seen c.usage_end-in-Some-Trial.result (ap plain_form is) (record { left = refl; read_well = refl }) c.usage_end-in-Some-Trial.ensures

pub returns-in-None : goal.returns-in-None
returns-in-None g c =
    let is : asked c.args.words.now ≡ None = sym c.form_of_words.ensures ∙ c.in-None.is in
    let seen : Seen = record {
      left = g.S.Source.left c.args.source.now;
      rest = g.S.Source.left c.args.source.now;
      read_faults = g.S.Source.faults c.args.source.now;
      read_faults_now = g.S.Source.faults c.args.source.now;
      written = g.K.Sink.written c.args.sink.now;
      written_now = g.K.Sink.written c.usage_end-in-None.new.sink;
      write_faults = g.K.Sink.faults c.args.sink.now;
      write_faults_now = g.K.Sink.faults c.usage_end-in-None.new.sink;
    } in
    usage_ends (plain_form (asked c.args.words.now)) seen c.usage_end-in-None.result (ap plain_form is) (record { left = refl; read_well = refl }) c.usage_end-in-None.ensures
