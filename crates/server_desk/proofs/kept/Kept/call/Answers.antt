use Rattle.std.proofs.Common.{refl, ◌∙◌}
use Rattle.server_desk.proofs.Waiting.{undelayed, delayed_more, sits_delayed, screen_delayed, one_delayed, few_delayed, own_draft, stepped_later}
use Rattle.server_desk.proofs.kept.Kept.call.Goals as goal

pub loop-init : goal.loop-init
loop-init g c = record { waited = undelayed _ _ c.in_ok-draft.ensures.same; draft = refl }

pub carry_out-requires-clause-screen : goal.carry_out-requires-clause-screen
carry_out-requires-clause-screen g c = screen_delayed _ _ c.loop.invariant.waited ∙ c.requires.screen

pub carry_out-requires-clause-one : goal.carry_out-requires-clause-one
carry_out-requires-clause-one g c = one_delayed _ _ c.loop.invariant.waited c.requires.one

pub carry_out-requires-clause-sits : goal.carry_out-requires-clause-sits
carry_out-requires-clause-sits g c = sits_delayed _ _ c.loop.invariant.waited c.requires.sits

pub carry_out-requires-clause-draft : goal.carry_out-requires-clause-draft
carry_out-requires-clause-draft g c = own_draft _ _ c.loop.invariant.waited c.args.command.now _ _ c.loop.invariant.draft c.in_ok-draft.ensures.draft

pub carry_out-requires-clause-few : goal.carry_out-requires-clause-few
carry_out-requires-clause-few g c = few_delayed _ _ c.loop.invariant.waited c.in_ok-draft.ensures.few

pub loop-preserved : goal.loop-preserved
loop-preserved g c = record {
  waited = delayed_more _ _ _ c.in-Err.delayed.found c.loop.invariant.waited c.in-Err.ensures.found c.in-Err.ensures.busy;
  draft = c.in-Err.ensures.draft ∙ c.loop.invariant.draft;
}

pub returns-in-Ok-clause-answered : goal.returns-in-Ok-clause-answered
returns-in-Ok-clause-answered g c = stepped_later _ _ c.loop.invariant.waited _ c.args.command.now _ _ c.in-Ok.both.0 c.loop.invariant.draft c.in_ok-draft.ensures.draft c.in-Ok.ensures.answered
