use Rattle.std.proofs.Common.{◌≡◌, ◌-◌, length, take, replicate}
use Rattle.qws_base.specs.Mail.{delivered}
use Rattle.qcop_channels.proofs.sending.deliver.Given as goal

abbrev pub invariant-loop-client : goal.invariant-loop-client
invariant-loop-client l = record {
  copies : l.copies.items ≡ replicate (length l.others - l.client-index) l.message;
  boxes : l.boxes ≡ delivered l.message (take l.client-index l.others) l.fn.boxes;
}
