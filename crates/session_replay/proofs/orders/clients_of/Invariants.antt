use Rattle.std.proofs.Common.{◌≡◌, map, take}
use Rattle.session_replay.proofs.orders.clients_of.Given as goal

abbrev pub invariant-loop-j : goal.invariant-loop-j
invariant-loop-j l = l.order.items ≡ map (λ line. line.client) (take l.j l.script.calls)
