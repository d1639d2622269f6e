use Rattle.std.proofs.Common.{◌≡◌, ◌≤◌, vec_len, vec_capacity}
use Rattle.display_lock.specs.Turns.{IsOpenServer, SameServerTurn}
use Rattle.server_desk.specs.Readings.{HasRead}
use Rattle.server_desk.proofs.turns.read_pixels.Given as goal

abbrev pub invariant-loop-p : goal.invariant-loop-p
invariant-loop-p l = record {
  same : SameServerTurn l.initial.turn l.turn;
  open_turn : IsOpenServer l.turn;
  read : HasRead l.initial.turn.head.now l.turn.head.now l.depth l.shown.items l.p;
  many : vec_len l.shown ≡ l.p;
  room : l.pixels ≤ vec_capacity l.shown;
}
