-- When a plan that leaves the windows has the step of its command.
use Rattle.std.proofs.Common.{◌≡◌, ℕ, ◌<◌, Bool, false, not, if◌then◌else◌, Option, None, Some, List, [], map, length, get_or, refl, sym, ap, ◌∙◌, subst}
use Rattle.std.specs.Prelude.{Result, Ok, Err, IfOk}
use Rattle.std.specs.Arc.{arc_value}
use Rattle.std.specs.List.{filter, fold}
use Rattle.std.specs.Option.{option_map_or}
use Rattle.std.proofs.lemmas.List.FromFn.{fill_by_all, length-map-range_with_len}
use Rattle.qws_base.specs.Sides.{Sides}
use Rattle.qws_base.specs.Windows.{allocated_points}
use Rattle.qws_base.specs.States.{State, is_refused}
use Rattle.qws_base.specs.Stacking.{slots}
use Rattle.qws_base.specs.Steps.{answer, effect, step, completed, owner_told, risen, is_changed, is_modified}
use Rattle.qws_base.specs.StepLaws.{is_on_windows}
use Rattle.qws_base.specs.declared.windows.WindowView.{WindowView}
use Rattle.qws_base.specs.declared.windows.Cursor.{Cursor}
use Rattle.qws_base.specs.declared.commands.Command.{Command}
use Rattle.qws_base.specs.declared.replies.Reply.{Reply}
use Rattle.qws_base.specs.declared.replies.Reply.TheVariants.{Done, Refused}
use Rattle.qws_base.specs.declared.replies.Refusal.{Refusal}
use Rattle.qws_base.proofs.ListLemmas.{none_passes}
use Rattle.qws_base.proofs.PixelLemmas.{same_everywhere}
use Rattle.qws_base.proofs.StepLaws.{other_law}
use Rattle.window_core.specs.declared.held.Held.{Held}
use Rattle.window_core.specs.declared.held.Planned.{Planned}
use Rattle.window_core.specs.declared.changes.MailChange.{MailChange}
use Rattle.window_core.specs.declared.changes.MailChange.TheVariants.{Nothing}
use Rattle.window_core.specs.Changes.{CanCarry, mail_after}
use Rattle.window_arrangements.specs.Arrangements.{ArrangementView}
use Rattle.window_core.specs.Planning.{size_of, state_of, IsPlanned, Keeps, IsStopped}
use Rattle.window_core.proofs.PlanLemmas.{none_changed, refused_planned}

-- ---- the state after an accepted command on other things than windows

accepted_state : (size : Sides) (state : State) (client : ℕ) (command : Command) → is_refused (answer size state client command) ≡ false
    → (step size state client command).0 ≡ completed size state (effect state client command)
accepted_state size state client command e = ap (λ b. if b then state else completed size state (effect state client command)) e

-- two lists of 32 numbers with the same numbers
same_numbers : (xs ys : List ℕ) → length xs ≡ 32 → length ys ≡ 32 → ((k : ℕ) → k < 32 → get_or xs k 1 ≡ get_or ys k 1) → xs ≡ ys
same_numbers xs ys long as_long same =
    fill_by_all (λ k. get_or ys k 1) xs 32 1 long same ∙ sym (fill_by_all (λ k. get_or ys k 1) ys 32 1 as_long (λ k low. refl))

revision_count : (f : ℕ → ℕ) → length (map f slots) ≡ 32
unfolding slots
revision_count f = length-map-range_with_len f 0 32

revisions_stay : (size : Sides) (state : State) (client : ℕ) (command : Command) → is_on_windows command ≡ false → is_refused (answer size state client command) ≡ false → length state.revisions ≡ 32
    → (step size state client command).0.revisions ≡ state.revisions
revisions_stay size state client command other accepted long =
    same_numbers (step size state client command).0.revisions state.revisions
    (ap (λ (s : State). length s.revisions) (accepted_state size state client command accepted) ∙ revision_count (risen size state (effect state client command).windows))
    long
    (λ slot low. other_law.revisions size state client command slot low other)

none_modified : (size : Sides) (windows : List WindowView) → filter (is_modified size windows windows) slots ≡ []
none_modified size windows =
    none_passes (is_modified size windows windows) slots
    (λ k d below. ap not (same_everywhere size (allocated_points size windows (get_or slots k d)) (allocated_points size windows (get_or slots k d)) (λ p. refl)))

mail_done : (size : Sides) (state : State) (client : ℕ) (command : Command) → (effect state client command).windows ≡ state.windows → is_refused (answer size state client command) ≡ false
    → (step size state client command).0.mail ≡ (effect state client command).mail
mail_done size state client command windows accepted =
    let done = effect state client command in
    ap (λ (s : State). s.mail) (accepted_state size state client command accepted)
    ∙ ap (λ ws. fold (owner_told ws) done.mail (filter (is_modified size state.windows ws) slots)) windows
    ∙ ap (fold (owner_told state.windows) done.mail) (none_modified size state.windows)

-- ---- plans that leave the windows

-- the plan has that reply, change and cursor, and leaves windows and revisions
pub record IsLeft (held : Held) (r : Reply) (m : MailChange) (k : Cursor) (p : Planned) : Type 0 where
  pub reply : p.reply ≡ r
  pub change : p.change ≡ m
  pub windows : arc_value p.arrangement ≡ arc_value held.arrangement
  pub revisions : p.revisions ≡ held.revisions
  pub risen : p.risen.items ≡ []
  pub cursor : arc_value p.cursor ≡ k

-- a command on other things than windows that is accepted
pub record IsAccepted (held : Held) (client : ℕ) (command : Command) (reply : Reply) (change : MailChange) : Type 0 where
  pub other : is_on_windows command ≡ false
  pub windows : (effect (state_of held) client command).windows ≡ (state_of held).windows
  pub slots : length held.revisions ≡ 32
  pub answered : answer (size_of held) (state_of held) client command ≡ reply
  pub accepted : is_refused reply ≡ false
  pub can : CanCarry (state_of held).mail change
  pub mail : mail_after (state_of held).windows (state_of held).windows change (state_of held).mail ≡ (effect (state_of held) client command).mail

accepted_planned : (held : Held) (client : ℕ) (command : Command) (reply : Reply) (change : MailChange) (p : Planned)
    → IsAccepted held client command reply change → IsLeft held reply change (effect (state_of held) client command).cursor p → IsPlanned held client command p
accepted_planned held client command reply change p a l =
    let size = size_of held in
    let state = state_of held in
    let accepted = ap is_refused a.answered ∙ a.accepted in
    let same = accepted_state size state client command accepted in
    record {
      screen = ap (λ (v : ArrangementView). v.size) l.windows;
      reply = l.reply ∙ sym a.answered;
      windows = ap (λ (v : ArrangementView). v.windows) l.windows ∙ sym (other_law.windows size state client command a.other);
      revisions = l.revisions ∙ sym (revisions_stay size state client command a.other accepted a.slots);
      risen = l.risen ∙ sym (none_changed size state.windows) ∙ ap (λ (v : ArrangementView). filter (is_changed size state.windows v.windows) slots) (sym l.windows);
      cursor = l.cursor ∙ sym (ap (λ (s : State). s.cursor) same);
      can = subst (CanCarry state.mail) (sym l.change) a.can;
      mail = ap (λ change. mail_after state.windows (arc_value p.arrangement).windows change state.mail) l.change
          ∙ ap (λ (v : ArrangementView). mail_after state.windows v.windows change state.mail) l.windows
          ∙ a.mail ∙ sym (mail_done size state client command a.windows accepted);
    }

pub if_accepted : {E : Type 0} (held : Held) (client : ℕ) (command : Command) (reply : Reply) (change : MailChange) (r : Result Planned E)
    → IsAccepted held client command reply change → IfOk r (IsLeft held reply change (effect (state_of held) client command).cursor) → IfOk r (IsPlanned held client command)
if_accepted held client command reply change (Ok p) a l = accepted_planned held client command reply change p a l
if_accepted held client command reply change (Err x) a l = tt

pub if_kept : {E : Type 0} (held : Held) (client : ℕ) (command : Command) (reply : Reply) (change : MailChange) (r : Result Planned E)
    → IsAccepted held client command reply change → (effect (state_of held) client command).cursor ≡ arc_value held.cursor → IfOk r (Keeps held reply change) → IfOk r (IsPlanned held client command)
if_kept held client command reply change (Ok p) a cursor k =
    accepted_planned held client command reply change p a (record { reply = k.reply; change = k.change; windows = k.windows; revisions = k.revisions; risen = k.risen; cursor = k.cursor ∙ sym cursor })
if_kept held client command reply change (Err x) a cursor k = tt

pub if_refused : {E : Type 0} (held : Held) (client : ℕ) (command : Command) (cause : Refusal) (r : Result Planned E)
    → answer (size_of held) (state_of held) client command ≡ Refused cause → IfOk r (Keeps held (Refused cause) Nothing) → IfOk r (IsPlanned held client command)
if_refused held client command cause (Ok p) is k = refused_planned held client command cause p is k
if_refused held client command cause (Err x) is k = tt

-- a command that the channels stopped: the reply tells the cause that the stop tells
pub if_stopped : {E : Type 0} (held : Held) (client : ℕ) (command : Command) (cause : Option Refusal) (reply : Reply) (r : Result Planned E)
    → answer (size_of held) (state_of held) client command ≡ option_map_or (λ c. Refused c) cause reply → IfOk r (IsStopped held cause) → IfOk r (IsPlanned held client command)
if_stopped held client command None reply (Ok p) is k = absurd k
if_stopped held client command (Some cause) reply (Ok p) is k = refused_planned held client command cause p is k
if_stopped held client command cause reply (Err x) is k = tt

-- the cursor alone moves
pub if_pointed : {E : Type 0} (held : Held) (client : ℕ) (command : Command) (cursor : Cursor) (r : Result Planned E)
    → IsAccepted held client command Done Nothing → cursor ≡ (effect (state_of held) client command).cursor
    → IfOk r (λ p. p.reply ≡ Done) → IfOk r (λ p. p.change ≡ Nothing) → IfOk r (λ p. arc_value p.arrangement ≡ arc_value held.arrangement) → IfOk r (λ p. p.revisions ≡ held.revisions)
    → IfOk r (λ p. p.risen.items ≡ []) → IfOk r (λ p. arc_value p.cursor ≡ cursor) → IfOk r (IsPlanned held client command)
if_pointed held client command cursor (Ok p) a moved reply change windows revisions risen pointed =
    accepted_planned held client command Done Nothing p a (record { reply = reply; change = change; windows = windows; revisions = revisions; risen = risen; cursor = pointed ∙ moved })
if_pointed held client command cursor (Err x) a moved reply change windows revisions risen pointed = tt

-- ---- cursors

abbrev pub cursor_with : ℕ → ℕ → ℕ → ℕ → List ℕ → Bool → Cursor
cursor_with x y w h cells shown = record { x = x; y = y; w = w; h = h; cells = cells; shown = shown }

-- part by part
pub same_cursor : (k : Cursor) (x y w h : ℕ) (cells : List ℕ) (shown : Bool) → x ≡ k.x → y ≡ k.y → w ≡ k.w → h ≡ k.h → cells ≡ k.cells → shown ≡ k.shown → cursor_with x y w h cells shown ≡ k
same_cursor k x y w h cells shown at_x at_y at_w at_h at_cells at_shown =
    ap (λ n. cursor_with n y w h cells shown) at_x ∙ ap (λ n. cursor_with k.x n w h cells shown) at_y ∙ ap (λ n. cursor_with k.x k.y n h cells shown) at_w
    ∙ ap (λ n. cursor_with k.x k.y k.w n cells shown) at_h ∙ ap (λ cs. cursor_with k.x k.y k.w k.h cs shown) at_cells ∙ ap (cursor_with k.x k.y k.w k.h k.cells) at_shown
