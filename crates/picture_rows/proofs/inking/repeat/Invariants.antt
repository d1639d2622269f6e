use Rattle.std.proofs.Common.{◌≡◌, ℕ, ◌-◌, ◌<◌, ◌≤◌, length, slice_index_or}
use Rattle.qws_base.specs.declared.inks.Ink.TheVariants.{Skip}
use Rattle.picture_rows.proofs.inking.repeat.Given as goal

abbrev pub invariant-loop-done : goal.invariant-loop-done
invariant-loop-done l = record {
  same_length : length l.out ≡ length l.fn.out;
  within : l.done ≤ length l.out;
  begun : l.done < length l.out → 1 ≤ l.done;
  written : (k : ℕ) → k < l.done → slice_index_or l.out k Skip ≡ l.fn.ink;
}

abbrev pub decreases-loop-done : goal.decreases-loop-done
decreases-loop-done l = length l.out - l.done
