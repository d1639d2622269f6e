use Rattle.std.proofs.Common.{◌≡◌, take}
use Rattle.std.specs.List.{fold}
use Rattle.qws_base.specs.Bounds.{grown, AreBounds}
use Rattle.qws_base.proofs.bounds.Bounds.of.Given as goal

abbrev pub invariant-loop-p : goal.invariant-loop-p
invariant-loop-p l = record {
  is : l.bounds ≡ fold grown l.initial.bounds (take l.p-index l.rest);
  are : AreBounds l.bounds;
}
