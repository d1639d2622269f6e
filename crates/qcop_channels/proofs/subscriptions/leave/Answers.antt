use Rattle.std.proofs.Common.{◌==◌, [], not, filter, sym, ◌∙◌, arith}
use Rattle.std.proofs.lemmas.Result.{on_ok_weaker, on_err_weaker}
use Rattle.qcop_channels.specs.Views.{channels_of}
use Rattle.qcop_channels.proofs.ChannelLemmas.{found_known, not_found_known, written_channels, written_same, leave_cause_known}
use Rattle.qcop_channels.proofs.subscriptions.leave.Goals as goal

pub returns-in-Some-clause-left : goal.returns-in-Some-clause-left
returns-in-Some-clause-left c =
    let v = c.in-Some.subscribers.now in
    let w = c.unsubscribe.new.subscribers in
    on_ok_weaker c.unsubscribe.result
    (λ now. written_channels c.args.known.now.entries (c.get_mut.follows.lender w).entries c.args.name.now v w c.in-Some.ensures.unique c.in-Some.ensures.value (c.get_mut.follows.holds w).0 (filter (λ x. not (x == c.args.client))) now)
    c.unsubscribe.ensures.left

pub returns-in-Some-clause-kept : goal.returns-in-Some-clause-kept
returns-in-Some-clause-kept c =
    let v = c.in-Some.subscribers.now in
    let w = c.unsubscribe.new.subscribers in
    on_err_weaker c.unsubscribe.result
    (λ same. written_same c.args.known.now.entries (c.get_mut.follows.lender w).entries c.args.name.now v w c.in-Some.ensures.unique c.in-Some.ensures.value (c.get_mut.follows.holds w).0 same)
    c.unsubscribe.ensures.kept

pub returns-in-Some-clause-refusal : goal.returns-in-Some-clause-refusal
returns-in-Some-clause-refusal c =
    let v = c.in-Some.subscribers.now in
    let known = found_known c.args.known.now.entries c.args.name.now v (sym c.in-Some.ensures.value) in
    c.unsubscribe.ensures.refusal ∙ sym (leave_cause_known (channels_of c.args.known.now.entries) c.args.client c.args.name.now v known.1)

pub returns-in-None-clause-refusal : goal.returns-in-None-clause-refusal
returns-in-None-clause-refusal c =
    let unknown = not_found_known c.args.known.now.entries c.args.name.now (sym c.in-None.ensures.value) in
    sym (leave_cause_known (channels_of c.args.known.now.entries) c.args.client c.args.name.now [] unknown.1)

pub returns-in-Some-clause-room : goal.returns-in-Some-clause-room
returns-in-Some-clause-room c =
    let w = c.unsubscribe.new.subscribers in
    let written = c.get_mut.follows.holds w in
    omega (arith, written.2, written.6)
