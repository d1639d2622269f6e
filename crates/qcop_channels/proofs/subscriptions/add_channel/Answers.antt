use Rattle.std.proofs.Common.{◌∷◌, [], IsOk, ap, length, ◌∙◌, arith, length-append, refl}
use Rattle.std.proofs.lemmas.List.{length-map}
use Rattle.indexmap.proofs.CallerLemmas.{insert_entry-new}
use Rattle.qcop_channels.specs.Views.{channel_of, channels_of}
use Rattle.qcop_channels.proofs.ChannelLemmas.{lookup-unknown, new_channel, on_ok_given}
use Rattle.qcop_channels.proofs.subscriptions.add_channel.Goals as goal

pub returns-clause-added : goal.returns-clause-added
returns-clause-added c =
    let before = c.args.known.now.entries in
    let few = c.requires.few in
    let room = c.requires.room in
    let ok : IsOk c.insert.result = c.insert.ensures.succeeds (omega (arith, length-map before channel_of)) in
    ap channels_of (on_ok_given c.insert.result ok c.insert.ensures.entries ∙ insert_entry-new _ c.args.known.now _ _ (lookup-unknown before c.args.name.items c.requires.unknown))
    ∙ new_channel before _ _ c.args.name.items c.args.subscribers refl refl

pub returns-clause-room : goal.returns-clause-room
returns-clause-room c =
    let before = c.args.known.now.entries in
    let few = c.requires.few in
    let room = c.requires.room in
    let ok : IsOk c.insert.result = c.insert.ensures.succeeds (omega (arith, length-map before channel_of)) in
    let entries = on_ok_given c.insert.result ok c.insert.ensures.entries ∙ insert_entry-new _ c.args.known.now _ _ (lookup-unknown before c.args.name.items c.requires.unknown) in
    omega (arith, ap length entries, length-append before ((c.args.name, c.args.subscribers) ∷ []), c.insert.ensures.spare)
