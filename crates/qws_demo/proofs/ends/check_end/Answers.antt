use Rattle.std.proofs.Common.{◌≡◌, ◌≤◌, ℕ, List, length, subst, rules}
use Rattle.qws_base.specs.Outside.{HadMoreThan, IsAll}
use Rattle.qws_demo.specs.Due.{check_limit, IsCheckOf}
use Rattle.qws_demo.specs.Ends.{Seen, IsFinish}
use Rattle.qws_demo.proofs.EndLemmas.{check_ends, long_check}
use Rattle.qws_demo.proofs.ends.check_end.Goals as goal

pub returns-in-Err-TooLong : goal.returns-in-Err-TooLong
returns-in-Err-TooLong g c =
    let seen : Seen = record {
      left = g.S.Source.left c.args.source.now;
      rest = g.S.Source.left c.read_all.new.source;
      read_faults = g.S.Source.faults c.args.source.now;
      read_faults_now = g.S.Source.faults c.read_all.new.source;
      written = g.K.Sink.written c.args.sink.now;
      written_now = g.K.Sink.written c.finish.new.sink;
      write_faults = g.K.Sink.faults c.args.sink.now;
      write_faults_now = g.K.Sink.faults c.finish.new.sink;
    } in
    let more : HadMoreThan check_limit (g.S.Source.left c.args.source.now) = search rules in
    let well : g.S.Source.faults c.read_all.new.source ≡ g.S.Source.faults c.args.source.now = search rules in
    long_check seen c.finish.result more well c.finish.ensures

pub returns-in-Ok-check_output : goal.returns-in-Ok-check_output
returns-in-Ok-check_output g c =
    let bytes : List ℕ = c.in-Ok.bytes.items in
    let output : IsCheckOf bytes c.in-Ok-check_output.output.status c.in-Ok-check_output.output.text.items =
    subst (λ (b : List ℕ). IsCheckOf b c.in-Ok-check_output.output.status c.in-Ok-check_output.output.text.items) c.deref.ensures.value c.in-Ok-check_output.ensures in
    let seen : Seen = record {
      left = g.S.Source.left c.args.source.now;
      rest = g.S.Source.left c.read_all.new.source;
      read_faults = g.S.Source.faults c.args.source.now;
      read_faults_now = g.S.Source.faults c.read_all.new.source;
      written = g.K.Sink.written c.args.sink.now;
      written_now = g.K.Sink.written c.finish-in-Ok-check_output.new.sink;
      write_faults = g.K.Sink.faults c.args.sink.now;
      write_faults_now = g.K.Sink.faults c.finish-in-Ok-check_output.new.sink;
    } in
    let done : IsFinish c.in-Ok-check_output.output.status c.in-Ok-check_output.output.text.items c.finish-in-Ok-check_output.result seen.written seen.written_now seen.write_faults seen.write_faults_now =
    subst (λ (t : List ℕ). IsFinish c.in-Ok-check_output.output.status t c.finish-in-Ok-check_output.result seen.written seen.written_now seen.write_faults seen.write_faults_now) c.deref-in-Ok-check_output.ensures.value c.finish-in-Ok-check_output.ensures in
    check_ends seen bytes c.in-Ok-check_output.output.status c.in-Ok-check_output.output.text.items c.finish-in-Ok-check_output.result c.in-Ok.ensures.whole c.in-Ok.ensures.within output c.in-Ok.ensures.unfailed done
