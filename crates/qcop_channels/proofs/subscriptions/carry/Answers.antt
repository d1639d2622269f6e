use Rattle.std.proofs.Common.{◌++◌, [], ◌∷◌, List, ℕ, sym, ap, ◌∙◌}
use Rattle.qws_base.specs.Mail.{is_among}
use Rattle.qcop_channels.specs.Views.{channels_of}
use Rattle.qcop_channels.specs.Stops.{join_cause}
use Rattle.qcop_channels.proofs.ChannelLemmas.{found_known, not_found_known, written_channels, may_join-new, may_join-few, channels_joined_known, channels_joined_unknown}
use Rattle.qcop_channels.proofs.subscriptions.carry.Goals as goal

pub add-requires-clause-new : goal.add-requires-clause-new
add-requires-clause-new c =
    let before = c.args.known.now.entries in
    let name = c.join.inside.channel.items in
    let known = found_known before name c.in-Some.subscribers.now (rw c.as_slice.ensures.value at (sym c.in-Some.ensures.value)) in
    ap (is_among c.join.inside.client) (sym known.1) ∙ may_join-new (channels_of before) c.join.inside.client name (ap (λ join. join_cause (channels_of before) join.client join.channel) c.join.view_is ∙ c.requires.accepted)

pub add_channel-requires-clause-unknown : goal.add_channel-requires-clause-unknown
add_channel-requires-clause-unknown c =
    rw c.get_mut.follows.holds-at-none (not_found_known c.args.known.now.entries c.join.inside.channel.items (rw c.as_slice.ensures.value at (sym c.in-None.ensures.value))).0

pub add_channel-requires-clause-few : goal.add_channel-requires-clause-few
add_channel-requires-clause-few c =
    let before = c.args.known.now.entries in
    let name = c.join.inside.channel.items in
    rw c.get_mut.follows.holds-at-none
    (may_join-few (channels_of before) c.join.inside.client name (ap (λ join. join_cause (channels_of before) join.client join.channel) c.join.view_is ∙ c.requires.accepted) (not_found_known before name (rw c.as_slice.ensures.value at (sym c.in-None.ensures.value))).0)

pub returns-in-Some-clause-joined : goal.returns-in-Some-clause-joined
returns-in-Some-clause-joined c =
    let before = c.args.known.now.entries in
    let name = c.join.inside.channel.items in
    let found = rw c.as_slice.ensures.value at c.in-Some.ensures.value in
    let known = found_known before name c.in-Some.subscribers.now (sym found) in
    let w = c.add.new.self in
    rw (← c.join.view_is)
    (written_channels before (c.get_mut.follows.lender w).entries name c.in-Some.subscribers.now w c.in-Some.ensures.unique found (rw c.as_slice.ensures.value at (c.get_mut.follows.holds w).0) (λ s. s ++ c.join.inside.client ∷ []) c.add.ensures
    ∙ sym (channels_joined_known (channels_of before) c.join.inside.client name known.0))

pub returns-in-None-clause-joined : goal.returns-in-None-clause-joined
returns-in-None-clause-joined c =
    let before = channels_of c.args.known.now.entries in
    let name = c.join.inside.channel.items in
    let unknown = not_found_known c.args.known.now.entries name (rw c.as_slice.ensures.value at (sym c.in-None.ensures.value)) in
    let same = ap (λ m. channels_of m.entries) c.get_mut.follows.holds-at-none in
    rw (← c.join.view_is)
    (c.add_channel.ensures.added ∙ ap (λ channels. channels ++ record { name = name; subscribers = c.join.inside.first } ∷ []) same
    ∙ ap (λ (first : List ℕ). before ++ record { name = name; subscribers = first } ∷ []) c.join.invariant.1
    ∙ sym (channels_joined_unknown before c.join.inside.client name unknown.0))
