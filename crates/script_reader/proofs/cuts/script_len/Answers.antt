use Rattle.std.proofs.Common.{◌∙◌, sym, arith}
use Rattle.script_reader.proofs.Splits.{ends_here, goes_on}
use Rattle.script_reader.proofs.cuts.script_len.Goals as goal

pub returns-then-is_end-clause-value : goal.returns-then-is_end-clause-value
returns-then-is_end-clause-value c =
    let line = c.in-Some.ensures in
    let last = ends_here c.loop-text.rest.now c.in-Some.text.now c.in-Some.after.now line.0 (sym c.is_end.ensures ∙ c.if-is_end.true) in
    omega (arith, c.loop-text.invariant.value, last)

pub loop-text-preserved : goal.loop-text-preserved
loop-text-preserved c =
    let line = c.in-Some.ensures in
    let more = goes_on c.loop-text.rest.now c.in-Some.text.now c.in-Some.after.now line.0 (sym c.is_end.ensures ∙ c.if-is_end.false) in
    record {
      value = omega (arith, c.loop-text.invariant.value, more);
      all = omega (arith, c.loop-text.invariant.all, line.1);
    }
