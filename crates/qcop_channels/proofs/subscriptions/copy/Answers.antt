use Rattle.std.proofs.Common.{◌≡◌, ℕ, ◌++◌, ◌∷◌, [], List, take, add-one, ap, sym, ◌∙◌, arith, rules}
use Rattle.std.proofs.lemmas.Bool.{false≢true}
use Rattle.qws_base.specs.Mail.{Channel, is_known}
use Rattle.qcop_channels.specs.Views.{channel_of, channels_of}
use Rattle.qcop_channels.proofs.ChannelLemmas.{unknown_before, channels_to}
use Rattle.qcop_channels.proofs.subscriptions.copy.Goals as goal
use Rattle.qcop_channels.proofs.subscriptions.copy.Goals.{in-Some+in_ok-to_vec+in_ok-copy-2, in_default}

pub add_channel-requires-clause-unknown : goal.add_channel-requires-clause-unknown
add_channel-requires-clause-unknown c =
    let name = c.in-Some.name.now in
    let named : c.in_ok-to_vec.field-0.items ≡ name.items = search rules in
    ap (is_known (channels_of c.loop-place.copy.entries)) named
    ∙ ap (λ (cs : List Channel). is_known cs name.items) c.loop-place.invariant.same
    ∙ unknown_before c.args.known.now.entries c.loop-place.place name c.in-Some.subscribers.now c.len-place-end.ensures.unique (sym c.in-Some.ensures.entry)

pub loop-place-preserved : goal.loop-place-preserved
loop-place-preserved c =
    elim c.match-get_index.branch [
      | in-Some+in_ok-to_vec+in_ok-copy-2 w ↦
          let name = w.in-Some.name.now in
          let subscribers = w.in-Some.subscribers.now in
          let channels = channels_of c.args.known.now.entries in
          let named : w.in_ok-to_vec.field-0.items ≡ name.items = search rules in
          let last : record { name = w.in_ok-to_vec.field-0.items; subscribers = w.in_ok-copy-2.field-0 } ≡ channel_of (name, subscribers) =
          ap (λ (n : List ℕ). record { name = n; subscribers = w.in_ok-copy-2.field-0 }) named ∙ ap (λ (s : List ℕ). record { name = name.items; subscribers = s }) w.in_ok-copy-2.ensures in
          record {
            same = ap (λ m. channels_of m.entries) w.copy-is ∙ w.add_channel.ensures.added
                ∙ ap (λ (cs : List Channel). cs ++ record { name = w.in_ok-to_vec.field-0.items; subscribers = w.in_ok-copy-2.field-0 } ∷ []) c.loop-place.invariant.same
                ∙ ap (λ (l : Channel). take c.loop-place.place channels ++ l ∷ []) last
                ∙ sym (channels_to c.args.known.now.entries c.loop-place.place name subscribers (sym w.in-Some.ensures.entry))
                ∙ ap (λ (n : ℕ). take n channels) (sym (add-one c.loop-place.place));
            room = rw w.copy-is w.add_channel.ensures.room;
          }
      | in_default w ↦
          let some = w.in_default.ensures.found.1 (omega (arith, c.len-place-end.ensures.len)) in
          absurd (false≢true some)
    ]
