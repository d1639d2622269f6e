use Rattle.std.proofs.Common.{ℕ, add-one, sym, subst}
use Rattle.session_maker.specs.Made.{with_calls}
use Rattle.session_maker.specs.Added.{AreAdded}
use Rattle.session_maker.proofs.Adding.{added_more}
use Rattle.session_maker.proofs.scripts.push_client.Goals as goal

pub loop-k-preserved : goal.loop-k-preserved
loop-k-preserved c = λ head lines added.
    subst (λ (n : ℕ). AreAdded head (with_calls c.args.client n lines) c.push_call.new.out.items c.push_call.new.draws.state) (sym (add-one c.loop-k.k))
    (added_more head c.loop-k.out.items c.push_call.new.out.items c.args.client c.loop-k.k c.loop-k.draws.state c.push_call.new.draws.state (with_calls c.args.client c.loop-k.k lines)
    (c.loop-k.invariant head lines added) c.in_ok-push_call.ensures.text c.in_ok-push_call.ensures.state)
