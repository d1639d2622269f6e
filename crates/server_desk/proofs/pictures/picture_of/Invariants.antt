use Rattle.std.proofs.Common.{◌≡◌, ◌≤◌, vec_len, vec_capacity}
use Rattle.server_desk.proofs.Reading.{HasRead}
use Rattle.server_desk.proofs.pictures.picture_of.Given as goal

abbrev pub invariant-loop-p : goal.invariant-loop-p
invariant-loop-p l = record {
  read : HasRead l.fn.head l.head l.depth l.shown.items l.p;
  many : vec_len l.shown ≡ l.p;
  room : l.pixels ≤ vec_capacity l.shown;
}
