use Rattle.std.proofs.Common.{◌≡◌, ◌∙◌, Some, None, sym, ap, subst}
use Rattle.std.specs.Prelude.{Result, Ok, Err, OnOk, IfErr}
use Rattle.qws_base.specs.Mail.{mail_left}
use Rattle.qcop_channels.specs.declared.stops.QcopStop.{QcopStop}
use Rattle.qcop_channels.specs.declared.stops.QcopStop.TheVariants.{NotJoined}
use Rattle.qcop_channels.specs.Stops.{refusal_of, refusal_in, leave_refusal}
use Rattle.window_core.specs.Changes.{CanCarry, mail_after}
use Rattle.window_core.proofs.changes.carry.Goals as goal

-- a call that nothing refuses is done
done : (result : Result (Unit {0}) QcopStop) (P : Type 0) → OnOk result P → refusal_in result ≡ None → IfErr result (λ stop. stop ≡ NotJoined) → P
done (Ok x) P ok refusal other = ok
done (Err stop) P ok refusal other = absurd (some_not_none (ap refusal_of (sym other) ∙ refusal))
  where
    some_not_none : {X : Type 0} {x : X} → Some x ≡ None → ⊥
    some_not_none e = cc

pub returns-in-Leave : goal.returns-in-Leave
returns-in-Leave c =
    let can = subst (CanCarry c.args.channels.now) c.in-Leave.is c.requires.can in
    done c.leave.result (c.leave.new.self ≡ mail_left c.args.channels.now c.in-Leave.client c.as_slice.result.now) c.leave.ensures.left
    (c.leave.ensures.refusal ∙ ap (leave_refusal c.args.channels.now c.in-Leave.client) c.as_slice.ensures ∙ can.1) c.leave.ensures.no_other
    ∙ ap (mail_left c.args.channels.now c.in-Leave.client) c.as_slice.ensures
    ∙ ap (λ change. mail_after c.args.before.now c.args.after.now change c.args.channels.now) (sym c.in-Leave.is)
