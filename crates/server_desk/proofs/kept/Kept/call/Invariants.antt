use Rattle.std.proofs.Common.{◌≡◌}
use Rattle.server_desk.specs.Stepping.{IsDelayed}
use Rattle.server_desk.proofs.kept.Kept.call.Given as goal

-- the server was shut out so far, and the draft is the one that was made at first
abbrev pub invariant-loop : goal.invariant-loop
invariant-loop g l = record {
  waited : IsDelayed l.fn.self l.self;
  draft : l.draft ≡ l.initial.draft;
}
