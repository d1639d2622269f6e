use Rattle.std.proofs.Common.{ap, ◌∙◌, arith, length}
use Rattle.std.proofs.lemmas.List.{length-drop, take_rest}
use Rattle.qws_base.proofs.StreamLemmas.{more_written}
use Rattle.qws_base.proofs.streams.write_all.Goals as goal

pub loop-at-preserved : goal.loop-at-preserved
loop-at-preserved g c =
    let part = take_rest c.args.bytes.now c.loop-at.at in
    record {
      within = omega (arith, c.in_ok-at.ensures.within, ap length part ∙ length-drop c.loop-at.at c.args.bytes.now);
      written = more_written _ _ _ c.args.bytes.now _ c.loop-at.at c.in_ok-at.field-0 part c.loop-at.invariant.written c.in_ok-at.ensures.written;
      faults = c.in_ok-at.ensures.unfailed ∙ c.loop-at.invariant.faults;
    }
