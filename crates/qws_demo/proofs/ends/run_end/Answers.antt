use Rattle.std.proofs.Common.{◌≡◌, ◌≤◌, ℕ, List, Option, length, sym, subst, rules}
use Rattle.qws_base.specs.Outside.{HadMoreThan, IsAll}
use Rattle.server_desk.specs.DeskViews.{ClosedView}
use Rattle.script_grammar.specs.Reading.{script_of}
use Rattle.program_runs.specs.Runs.{IsRan}
use Rattle.qws_demo.specs.Due.{run_limit}
use Rattle.qws_demo.specs.Ends.{Seen, IsFinish}
use Rattle.qws_demo.specs.Kept.{KeepsShown, IsKept}
use Rattle.qws_demo.proofs.EndLemmas.{run_ends, long_run, ran_output, run_shown, run_keeps}
use Rattle.qws_demo.proofs.ends.run_end.Goals as goal

pub returns-in-Err-TooLong-clause-end : goal.returns-in-Err-TooLong-clause-end
returns-in-Err-TooLong-clause-end g c =
    let seen : Seen = record {
      left = g.S.Source.left c.args.source.now;
      rest = g.S.Source.left c.read_all.new.source;
      read_faults = g.S.Source.faults c.args.source.now;
      read_faults_now = g.S.Source.faults c.read_all.new.source;
      written = g.K.Sink.written c.args.sink.now;
      written_now = g.K.Sink.written c.finish.new.sink;
      write_faults = g.K.Sink.faults c.args.sink.now;
      write_faults_now = g.K.Sink.faults c.finish.new.sink;
    } in
    let more : HadMoreThan run_limit (g.S.Source.left c.args.source.now) = search rules in
    let well : g.S.Source.faults c.read_all.new.source ≡ g.S.Source.faults c.args.source.now = search rules in
    long_run seen c.finish.result more well c.finish.ensures

pub returns-clause-end : goal.returns-clause-end
returns-clause-end g c =
    let bytes : List ℕ = c.in-Ok.bytes.items in
    let status : ℕ = c.in-Ok-run_output.ran.output.status in
    let text : List ℕ = c.in-Ok-run_output.ran.output.text.items in
    let ran : IsRan (script_of bytes) status text c.in-Ok-run_output.ran.closed = subst (λ (b : List ℕ). IsRan (script_of b) status text c.in-Ok-run_output.ran.closed) c.deref.ensures.value c.in-Ok-run_output.ensures in
    let seen : Seen = record {
      left = g.S.Source.left c.args.source.now;
      rest = g.S.Source.left c.read_all.new.source;
      read_faults = g.S.Source.faults c.args.source.now;
      read_faults_now = g.S.Source.faults c.read_all.new.source;
      written = g.K.Sink.written c.args.sink.now;
      written_now = g.K.Sink.written c.finish-status.new.sink;
      write_faults = g.K.Sink.faults c.args.sink.now;
      write_faults_now = g.K.Sink.faults c.finish-status.new.sink;
    } in
    let done : IsFinish status text c.finish-status.result seen.written seen.written_now seen.write_faults seen.write_faults_now =
    subst (λ (t : List ℕ). IsFinish status t c.finish-status.result seen.written seen.written_now seen.write_faults seen.write_faults_now) c.deref-2.ensures.value c.finish-status.ensures in
    run_ends seen bytes status text c.finish-status.result c.in-Ok.ensures.whole c.in-Ok.ensures.within (ran_output (script_of bytes) status text c.in-Ok-run_output.ran.closed ran) c.in-Ok.ensures.unfailed done

pub returns-clause-shown : goal.returns-clause-shown
returns-clause-shown g c = λ zero.
    let bytes : List ℕ = c.in-Ok.bytes.items in
    let status : ℕ = c.in-Ok-run_output.ran.output.status in
    let text : List ℕ = c.in-Ok-run_output.ran.output.text.items in
    let ran : IsRan (script_of bytes) status text c.in-Ok-run_output.ran.closed = subst (λ (b : List ℕ). IsRan (script_of b) status text c.in-Ok-run_output.ran.closed) c.deref.ensures.value c.in-Ok-run_output.ensures in
    let seen : Seen = record {
      left = g.S.Source.left c.args.source.now;
      rest = g.S.Source.left c.read_all.new.source;
      read_faults = g.S.Source.faults c.args.source.now;
      read_faults_now = g.S.Source.faults c.read_all.new.source;
      written = g.K.Sink.written c.args.sink.now;
      written_now = g.K.Sink.written c.finish-status.new.sink;
      write_faults = g.K.Sink.faults c.args.sink.now;
      write_faults_now = g.K.Sink.faults c.finish-status.new.sink;
    } in
    let done : IsFinish status text c.finish-status.result seen.written seen.written_now seen.write_faults seen.write_faults_now =
    subst (λ (t : List ℕ). IsFinish status t c.finish-status.result seen.written seen.written_now seen.write_faults seen.write_faults_now) c.deref-2.ensures.value c.finish-status.ensures in
    subst (λ (k : Option ClosedView). KeepsShown run_limit seen.left seen.rest seen.written seen.written_now k) (sym (c.keep.ensures.kept zero))
    (run_shown seen.left seen.rest seen.written seen.written_now seen.write_faults seen.write_faults_now bytes text status c.finish-status.result c.in-Ok-run_output.ran.closed c.in-Ok.ensures.whole c.in-Ok.ensures.within ran done zero)

pub returns-clause-kept : goal.returns-clause-kept
returns-clause-kept g c = λ zero.
    let bytes : List ℕ = c.in-Ok.bytes.items in
    let status : ℕ = c.in-Ok-run_output.ran.output.status in
    let text : List ℕ = c.in-Ok-run_output.ran.output.text.items in
    let ran : IsRan (script_of bytes) status text c.in-Ok-run_output.ran.closed = subst (λ (b : List ℕ). IsRan (script_of b) status text c.in-Ok-run_output.ran.closed) c.deref.ensures.value c.in-Ok-run_output.ensures in
    let seen : Seen = record {
      left = g.S.Source.left c.args.source.now;
      rest = g.S.Source.left c.read_all.new.source;
      read_faults = g.S.Source.faults c.args.source.now;
      read_faults_now = g.S.Source.faults c.read_all.new.source;
      written = g.K.Sink.written c.args.sink.now;
      written_now = g.K.Sink.written c.finish-status.new.sink;
      write_faults = g.K.Sink.faults c.args.sink.now;
      write_faults_now = g.K.Sink.faults c.finish-status.new.sink;
    } in
    let done : IsFinish status text c.finish-status.result seen.written seen.written_now seen.write_faults seen.write_faults_now =
    subst (λ (t : List ℕ). IsFinish status t c.finish-status.result seen.written seen.written_now seen.write_faults seen.write_faults_now) c.deref-2.ensures.value c.finish-status.ensures in
    subst IsKept (sym (c.keep.ensures.kept zero))
    (run_keeps seen.written seen.written_now seen.write_faults seen.write_faults_now (script_of bytes) text status c.finish-status.result c.in-Ok-run_output.ran.closed ran done zero)
