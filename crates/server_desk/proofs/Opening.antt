-- A desk at its opening, and with a client more.
use Rattle.std.proofs.Common.{◌≡◌, ℕ, ◌+◌, ◌^◌, ◌<◌, ◌≤◌, List, [], ◌∷◌, ◌++◌, length, sym, refl, ap, ◌∙◌, subst, arith, length-append}
use Rattle.std.specs.Prelude.{slice_set}
use Rattle.std.proofs.lemmas.List.FromFn.{get_or-map-range_with_len}
use Rattle.qws_base.specs.Sides.{Sides, IsScreen}
use Rattle.qws_base.specs.Scenes.{Setting, setting_of}
use Rattle.qws_base.specs.States.{revision_of, opening_state, opening_revisions}
use Rattle.qws_base.specs.declared.colours.Depth.{Depth}
use Rattle.qws_base.specs.declared.journals.JournalEntry.{JournalEntry}
use Rattle.fb_words.specs.declared.known.Server.{Server}
use Rattle.fb_words.specs.Views.{ScreenView, HeadView, opening_server}
use Rattle.fb_words.specs.Steps.{with_limit}
use Rattle.fb_words.specs.Desks.{KeepingLaw}
use Rattle.window_core.specs.CoreViews.{CoreView}
use Rattle.step_turns.specs.Publishes.{PublishesLaw}
use Rattle.server_desk.specs.Keeping.{IsCurrent, IsListed}
use Rattle.server_desk.proofs.Counting.{none_counted, one_more_counted, sum_set, zeros}

-- ---- the opening

opening_revision : (slot : ℕ) → slot < 32 → revision_of opening_state slot ≡ 1
unfolding opening_revisions
opening_revision slot below = get_or-map-range_with_len {X = ℕ} (λ slot. 1) 0 32 slot slot 1 below (omega arith)

abbrev pub opening_head : ScreenView → Setting → HeadView
opening_head screen setting = record { screen = screen; server = opening_server setting; sitting = [] }

abbrev pub opening_core : Sides → ℕ → CoreView
opening_core size backdrop = record { size = size; backdrop = backdrop; state = opening_state }

opens_so : KeepingLaw → PublishesLaw → (size : Sides) (depth : Depth) (backdrop : ℕ) (screen : ScreenView) → IsScreen size → screen.setting ≡ setting_of size depth backdrop
    → IsCurrent (opening_head screen (setting_of size depth backdrop)) (opening_core size backdrop)
opens_so keeping publishes size depth backdrop screen is_screen setting = record {
  own_setting = setting;
  setting = refl;
  screen = is_screen;
  not_writing = refl;
  quiet = refl;
  state = refl;
  turns = keeping.opens size;
  published = publishes.opens size 0 is_screen;
  revisions = λ slot low. let one = opening_revision slot low in omega arith;
}

pub current_opens : KeepingLaw → PublishesLaw → (size : Sides) (depth : Depth) (backdrop : ℕ) (screen : ScreenView) (head : HeadView) (core : CoreView) → IsScreen size
    → screen.setting ≡ setting_of size depth backdrop → head ≡ opening_head screen (setting_of size depth backdrop) → core ≡ opening_core size backdrop → IsCurrent head core
current_opens keeping publishes size depth backdrop screen head core is_screen setting is_head is_core =
    subst (λ (h : HeadView). IsCurrent h core) (sym is_head) (subst (λ (c : CoreView). IsCurrent (opening_head screen (setting_of size depth backdrop)) c) (sym is_core)
    (opens_so keeping publishes size depth backdrop screen is_screen setting))

pub listed_opens : (s : Server) (journal : List JournalEntry) (capacity : ℕ) → s.limits ≡ [] → s.closed ≡ [] → journal ≡ [] → IsListed s journal 0 zeros zeros 0 capacity
listed_opens s journal capacity limits closed none = record {
  journal_is = none ∙ ap Rattle.fb_words.specs.Desks.journal_of (sym closed);
  connected_is = ap (λ (l : List ℕ). length l) (sym limits);
  few = omega arith;
  counts = none_counted s limits closed;
  room_is = refl;
  fits = let z : length journal ≡ 0 = ap (λ (l : List JournalEntry). length l) none in omega arith;
  bounded = let z : length journal ≡ 0 = ap (λ (l : List JournalEntry). length l) none in omega arith;
}

-- ---- a client more

pub current_more : PublishesLaw → (head after : HeadView) (core : CoreView) (limit : ℕ) → after ≡ record head { server = with_limit head.server limit } → IsCurrent head core → IsCurrent after core
current_more publishes head after core limit is current =
    let long : length (head.server.limits ++ limit ∷ []) ≡ length head.server.limits + 1 = length-append head.server.limits (limit ∷ []) in
    let more : HeadView = record head { server = with_limit head.server limit } in
    subst (λ (h : HeadView). IsCurrent h core) (sym is) (let r : IsCurrent more core = record {
      own_setting = current.own_setting;
      setting = current.setting;
      screen = current.screen;
      not_writing = current.not_writing;
      quiet = current.quiet;
      state = current.state;
      turns = current.turns;
      published = subst (λ n. Rattle.step_turns.specs.Publishes.Publishes core.size n (length head.server.closed) core.state head.server.present) (sym long)
          (publishes.admits core.size (length head.server.limits) (length head.server.closed) core.state head.server.present current.published);
      revisions = current.revisions;
    } in r)

pub listed_more : (s : Server) (journal journal' : List JournalEntry) (connected : ℕ) (made left : List ℕ) (room capacity capacity' limit : ℕ) → IsListed s journal connected made left room capacity
    → length s.limits < 16 → journal' ≡ journal → length journal' + (room + limit) ≤ capacity' → length journal' + (room + limit) ≤ 2 ^ 62
    → IsListed (with_limit s limit) journal' (connected + 1) made (slice_set left connected limit) (room + limit) capacity'
listed_more s journal journal' connected made left room capacity capacity' limit is few same fits bounded =
    let long : length (s.limits ++ limit ∷ []) ≡ length s.limits + 1 = length-append s.limits (limit ∷ []) in
    let connected_is = is.connected_is in
    let wide = is.counts.sixteen_left in
    let none = is.counts.none_left connected (omega arith) (omega arith) in
    let sums = sum_set left connected limit (omega arith) in
    let room_is = is.room_is in
    record {
      journal_is = same ∙ is.journal_is;
      connected_is = omega arith;
      few = omega arith;
      counts = subst (λ n. Rattle.server_desk.specs.Keeping.AreCounted (with_limit s limit) made (slice_set left n limit)) (sym connected_is) (one_more_counted s made left limit is.counts few);
      room_is = omega arith;
      fits = fits;
      bounded = bounded;
    }
