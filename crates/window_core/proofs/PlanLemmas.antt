-- When a plan has the step of its command.
use Rattle.std.proofs.Common.{◌≡◌, ℕ, ◌+◌, ◌<◌, Bool, true, false, not, ◌||◌, if◌then◌else◌, cond, Option, None, Some, List, [], ◌∷◌, map, length, get_or, refl, sym, ap, ◌∙◌, subst, ⊎_elim, arith}
use Rattle.std.specs.Prelude.{nat_eq, All, Result, Ok, Err, IfOk}
use Rattle.std.specs.Arc.{arc_value}
use Rattle.std.specs.List.{filter, fold}
use Rattle.std.specs.Option.{option_eq, option_or}
use Rattle.std.proofs.lemmas.Int.{ints}
use Rattle.std.proofs.lemmas.List.{get_or_default}
use Rattle.std.proofs.lemmas.List.Elements.{All-head, All-tail, All-filter}
use Rattle.std.proofs.lemmas.List.FromFn.{length-range_with_len, get_or-range_with_len}
use Rattle.qws_base.specs.Sides.{Sides}
use Rattle.qws_base.specs.Windows.{client_of_slot, origin_of, allocated_points}
use Rattle.qws_base.specs.Mail.{Mail}
use Rattle.qws_base.specs.States.{State, is_refused}
use Rattle.qws_base.specs.Stacking.{slots}
use Rattle.qws_base.specs.Refusals.{first_of, too_complex}
use Rattle.qws_base.specs.declared.lists.OutOfMemory.{OutOfMemory}
use Rattle.qws_base.specs.Steps.{answer, effect, step, completed, owner_told, risen, is_changed, is_modified, same_point}
use Rattle.qws_base.specs.declared.points.Point.{Point}
use Rattle.qws_base.specs.declared.windows.WindowView.{WindowView}
use Rattle.qws_base.specs.declared.commands.Command.{Command}
use Rattle.qws_base.specs.declared.replies.Reply.TheVariants.{Done, Refused}
use Rattle.qws_base.specs.declared.replies.Refusal.{Refusal}
use Rattle.qws_base.proofs.PixelLemmas.{same_everywhere}
use Rattle.window_core.specs.declared.held.Held.{Held}
use Rattle.window_core.specs.declared.held.Planned.{Planned}
use Rattle.window_core.specs.declared.changes.MailChange.{MailChange}
use Rattle.window_core.specs.declared.changes.MailChange.TheVariants.{Nothing, Join, Leave, Send, Take, Regions}
use Rattle.window_core.specs.Changes.{CanCarry, gone_forgotten, mail_after}
use Rattle.window_arrangements.specs.Arrangements.{ArrangementView}
use Rattle.window_core.specs.Planning.{size_of, state_of, IsPlanned, AreTold, Keeps, Arranges, IsOutcome}

-- ---- windows that stay

same_client : (client : Option ℕ) → option_eq nat_eq client client ≡ true
same_client None = refl
same_client (Some c) = grind arith

itself : (p : Point) → same_point p p ≡ true
itself p = grind (arith, ints)

unchanged : (size : Sides) (ws : List WindowView) (slot : ℕ) → is_changed size ws ws slot ≡ false
unchanged size ws slot =
    ap (λ a. not a || not (same_point (origin_of ws slot) (origin_of ws slot)) || is_modified size ws ws slot) (same_client (client_of_slot ws slot))
    ∙ ap (λ a. not a || is_modified size ws ws slot) (itself (origin_of ws slot))
    ∙ ap not (same_everywhere size (allocated_points size ws slot) (allocated_points size ws slot) (λ p. refl))

none_pass : (test : ℕ → Bool) → ((k : ℕ) → test k ≡ false) → (ks : List ℕ) → filter test ks ≡ []
none_pass test h [] = refl
none_pass test h (k ∷ ks) = ap (λ b. cond b (k ∷ filter test ks) (filter test ks)) (h k) ∙ none_pass test h ks

pub none_changed : (size : Sides) (ws : List WindowView) → filter (is_changed size ws ws) slots ≡ []
none_changed size ws = none_pass (is_changed size ws ws) (unchanged size ws) slots

-- ---- refused

stepped : (size : Sides) (state : State) (client : ℕ) (command : Command) (refused : Bool) → is_refused (answer size state client command) ≡ refused
    → (step size state client command).0 ≡ (if refused then state else completed size state (effect state client command))
stepped size state client command refused e = ap (λ b. if b then state else completed size state (effect state client command)) e

pub refused_planned : (held : Held) (client : ℕ) (command : Command) (cause : Refusal) (p : Planned) → answer (size_of held) (state_of held) client command ≡ Refused cause
    → Keeps held (Refused cause) Nothing p → IsPlanned held client command p
refused_planned held client command cause p is kept =
    let size = size_of held in
    let state = state_of held in
    let same = stepped size state client command true (ap is_refused is) in
    record {
      screen = ap (λ (a : ArrangementView). a.size) kept.windows;
      reply = kept.reply ∙ sym is;
      windows = ap (λ (a : ArrangementView). a.windows) kept.windows ∙ sym (ap (λ (s : State). s.windows) same);
      revisions = kept.revisions ∙ sym (ap (λ (s : State). s.revisions) same);
      risen = kept.risen ∙ sym (none_changed size state.windows) ∙ ap (λ (a : ArrangementView). filter (is_changed size state.windows a.windows) slots) (sym kept.windows);
      cursor = kept.cursor ∙ sym (ap (λ (s : State). s.cursor) same);
      can = subst (CanCarry state.mail) (sym kept.change) tt;
      mail = ap (λ c. mail_after state.windows (arc_value p.arrangement).windows c state.mail) kept.change ∙ sym (ap (λ (s : State). s.mail) same);
    }

-- ---- accepted, with new windows

slots_low : All (λ slot. slot < 32) slots
unfolding slots
slots_low k d below =
    let short = length-range_with_len 0 32 in
    let is = get_or-range_with_len 0 32 k d (omega (arith, below, short)) in
    omega (arith, below, short, is)

can_tell : (mail : Mail) (leaving : Option ℕ) (told : List ℕ) (change : MailChange) → All (λ slot. slot < 32) told → AreTold leaving told change → CanCarry mail change
can_tell mail leaving told Nothing low t = absurd t
can_tell mail leaving told (Join join) low t = absurd t
can_tell mail leaving told (Leave client channel) low t = absurd t
can_tell mail leaving told (Send send) low t = absurd t
can_tell mail leaving told (Take client) low t = absurd t
can_tell mail leaving told (Regions slot events) low t = subst (All (λ s. s < 32)) (sym t.1) low

told_mail : (before after : List WindowView) (mail : Mail) (leaving : Option ℕ) (told : List ℕ) (change : MailChange) → AreTold leaving told change → mail_after before after change mail ≡ fold (owner_told after) (gone_forgotten before mail leaving) told
told_mail before after mail leaving told Nothing t = absurd t
told_mail before after mail leaving told (Join join) t = absurd t
told_mail before after mail leaving told (Leave client channel) t = absurd t
told_mail before after mail leaving told (Send send) t = absurd t
told_mail before after mail leaving told (Take client) t = absurd t
told_mail before after mail leaving told (Regions slot events) t =
    ap (λ s. fold (owner_told after) (gone_forgotten before mail s) events.items) t.0 ∙ ap (fold (owner_told after) (gone_forgotten before mail leaving)) t.1

pub arranged_planned : (held : Held) (client : ℕ) (command : Command) (after : ArrangementView) (leaving : Option ℕ) (p : Planned) → is_refused (answer (size_of held) (state_of held) client command) ≡ false
    → after.size ≡ size_of held
    → (effect (state_of held) client command).windows ≡ after.windows → (effect (state_of held) client command).mail ≡ gone_forgotten (state_of held).windows (state_of held).mail leaving
    → (effect (state_of held) client command).cursor ≡ (state_of held).cursor
    → Arranges held (answer (size_of held) (state_of held) client command) after leaving p → IsPlanned held client command p
arranged_planned held client command after leaving p accepted screen windows mail cursor a =
    let size = size_of held in
    let state = state_of held in
    let done = effect state client command in
    let same = stepped size state client command false accepted in
    record {
      screen = ap (λ (v : ArrangementView). v.size) a.windows ∙ screen;
      reply = a.reply;
      windows = ap (λ (v : ArrangementView). v.windows) a.windows ∙ sym (ap (λ (s : State). s.windows) same ∙ windows);
      revisions = a.revisions ∙ sym (ap (λ (s : State). s.revisions) same ∙ ap (λ ws. map (risen size state ws) slots) windows);
      risen = a.risen ∙ ap (λ (v : ArrangementView). filter (is_changed size state.windows v.windows) slots) (sym a.windows);
      cursor = a.cursor ∙ sym (ap (λ (s : State). s.cursor) same ∙ cursor);
      can = can_tell state.mail leaving (filter (is_modified size state.windows after.windows) slots) p.change (All-filter (is_modified size state.windows after.windows) (λ s. s < 32) slots slots_low) a.told;
      mail = ap (λ (v : ArrangementView). mail_after state.windows v.windows p.change state.mail) a.windows
          ∙ told_mail state.windows after.windows state.mail leaving (filter (is_modified size state.windows after.windows) slots) p.change a.told
          ∙ sym (ap (λ (s : State). s.mail) same
          ∙ ap (λ ws. fold (owner_told ws) done.mail (filter (is_modified size state.windows ws) slots)) windows
          ∙ ap (λ m. fold (owner_told after.windows) m (filter (is_modified size state.windows after.windows) slots)) mail);
    }

-- ---- revisions

map_alike : (f g : ℕ → ℕ) (ks : List ℕ) → All (λ k. f k ≡ g k) ks → map f ks ≡ map g ks
map_alike f g [] h = refl
map_alike f g (k ∷ ks) h = ap (λ n. n ∷ map f ks) (All-head (λ j. f j ≡ g j) k ks h) ∙ ap (λ ns. g k ∷ ns) (map_alike f g ks (All-tail (λ j. f j ≡ g j) k ks h))

pub same_risen : (size : Sides) (state : State) (after : List WindowView) → length state.revisions ≡ 32
    → map (λ slot. if is_changed size state.windows after slot then get_or state.revisions slot 0 + 1 else get_or state.revisions slot 0) slots ≡ map (risen size state after) slots
same_risen size state after long =
    map_alike (λ slot. if is_changed size state.windows after slot then get_or state.revisions slot 0 + 1 else get_or state.revisions slot 0) (risen size state after) slots
    (λ k d below. ap (λ n. if is_changed size state.windows after (get_or slots k d) then n + 1 else n) (get_or_default state.revisions (get_or slots k d) 0 1 (subst (λ n. get_or slots k d < n) (sym long) (slots_low k d below))))

-- ---- a command on the client's own window

-- the first of three causes, by the first of two
pub first_three : (a b x : Option Refusal) → first_of (a ∷ b ∷ x ∷ []) ≡ option_or (first_of (a ∷ b ∷ [])) x
first_three (Some a) b x = refl
first_three None (Some b) x = refl
first_three None None None = refl
first_three None None (Some x) = refl

pub if_ok : (r : Result Planned OutOfMemory) (P Q : Planned → Type 0) → ((p : Planned) → P p → Q p) → IfOk r P → IfOk r Q
if_ok (Ok p) P Q f h = f p h
if_ok (Err e) P Q f h = h

-- with a window of the client's own, refused for its last cause or done
pub outcome_planned : (held : Held) (client : ℕ) (command : Command) (after : ArrangementView) (leaving : Option ℕ) (p : Planned)
    → ((cause : Refusal) → too_complex (size_of held) after.windows ≡ Some cause → answer (size_of held) (state_of held) client command ≡ Refused cause)
    → (too_complex (size_of held) after.windows ≡ None → answer (size_of held) (state_of held) client command ≡ Done)
    → after.size ≡ size_of held
    → (effect (state_of held) client command).windows ≡ after.windows → (effect (state_of held) client command).mail ≡ gone_forgotten (state_of held).windows (state_of held).mail leaving
    → (effect (state_of held) client command).cursor ≡ (state_of held).cursor
    → IsOutcome held after leaving p → IsPlanned held client command p
outcome_planned held client command after leaving p refused done screen windows mail cursor o = ⊎_elim
    (λ (r : (cause : Refusal) × (too_complex (size_of held) after.windows ≡ Some cause) × Keeps held (Refused cause) Nothing p).
    refused_planned held client command r.0 p (refused r.0 r.1) r.2)
    (λ (a : (too_complex (size_of held) after.windows ≡ None) × Arranges held Done after leaving p).
    let is = done a.0 in
    arranged_planned held client command after leaving p (ap is_refused is) screen windows mail cursor (subst (λ reply. Arranges held reply after leaving p) (sym is) a.1))
    o
