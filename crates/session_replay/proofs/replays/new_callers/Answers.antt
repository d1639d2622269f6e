use Rattle.std.proofs.Common.{◌≡◌, ℕ, ◌+◌, List, [], ◌∷◌, length, get_or, ap, sym, ◌∙◌, subst, arith, length-append}
use Rattle.session_replay.specs.declared.callers.Caller.{Caller}
use Rattle.session_replay.specs.Steps.{IsCaller}
use Rattle.session_replay.proofs.Opening.{callers_push}
use Rattle.session_replay.proofs.replays.new_callers.Goals as goal

pub loop-client-preserved : goal.loop-client-preserved
loop-client-preserved c =
    let items : List Caller = c.loop-client.callers.items in
    let new : Caller = c.in_ok-caller.caller in
    let many : length items ≡ c.loop-client.client = c.loop-client.invariant.many in
    record {
      many = ap length c.in_ok-push.ensures.items ∙ length-append items (new ∷ []) ∙ ap (λ (n : ℕ). n + 1) many;
      each = λ client d below.
          subst (λ (l : List Caller). IsCaller c.args.script.now [] client (get_or l client d)) (sym c.in_ok-push.ensures.items)
          (callers_push c.args.script.now items new (λ k e low. c.loop-client.invariant.each k e (omega (arith, many, low))) (subst (λ k. IsCaller c.args.script.now [] k new) (sym many) c.in_ok-caller.ensures) client d (omega (arith, many, below)));
    }
