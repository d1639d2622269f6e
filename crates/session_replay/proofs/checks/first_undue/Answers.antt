use Rattle.session_replay.proofs.checks.first_undue.Goals as goal

pub is_due-requires-clause-replay : goal.is_due-requires-clause-replay
is_due-requires-clause-replay c = c.loop-k.invariant.replay
