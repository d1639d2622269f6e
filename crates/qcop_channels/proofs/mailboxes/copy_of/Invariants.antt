use Rattle.std.proofs.Common.{◌≡◌, take}
use Rattle.std.specs.VecDeque.{deque_len, deque_capacity}
use Rattle.qcop_channels.proofs.mailboxes.copy_of.Given as goal

abbrev pub invariant-loop-place : goal.invariant-loop-place
invariant-loop-place l = record { items : l.copy.items ≡ take l.place l.events.items; len : deque_len l.copy ≡ l.place; room : deque_capacity l.copy ≡ 288 }
