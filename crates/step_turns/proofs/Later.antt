-- What holds of the state after a step, whichever client made it.
use Rattle.std.proofs.Common.{◌≡◌, ℕ, ◌<◌, ◌≤◌, Bool, true, false, length, sym, refl, ◌∙◌, subst, arith}
use Rattle.std.proofs.lemmas.List.FromFn.{length-map-range_with_len}
use Rattle.qws_base.specs.Sides.{Sides}
use Rattle.qws_base.specs.States.{State, revision_of, is_refused}
use Rattle.qws_base.specs.Stacking.{slots}
use Rattle.qws_base.specs.Steps.{step, answer, effect, completed, risen}
use Rattle.qws_base.specs.declared.commands.Command.{Command}
use Rattle.qws_base.specs.declared.commands.Command.TheVariants.{Create, Destroy, Region, Move, Raise, Lower, CursorShape, CursorMove, CursorShow, Join, Leave, Send, Take, IsRegistered}
use Rattle.qws_base.proofs.StepLaws.{made, revision_law}
use Rattle.window_core.specs.CoreViews.{IsServed, IsCursorOn}
use Rattle.window_core.proofs.ServedLemmas.{served_stays}

cursor_kept : (state accepted : State) (refused : Bool) → accepted.cursor ≡ state.cursor → (made state accepted refused).cursor ≡ state.cursor
cursor_kept state accepted true same = refl
cursor_kept state accepted false same = same

count_by : (size : Sides) (state after : State) (refused : Bool) → length state.revisions ≡ 32 → length (made state (completed size state after) refused).revisions ≡ 32
unfolding slots
count_by size state after true long = long
count_by size state after false long = length-map-range_with_len (risen size state after.windows) 0 32

module _ (size : Sides) (state : State) where
  kept : (client : ℕ) (command : Command) → (effect state client command).cursor ≡ state.cursor → (step size state client command).0.cursor ≡ state.cursor
  kept client command same = cursor_kept state (completed size state (effect state client command)) (is_refused (answer size state client command)) same

  -- the cursor after a command doesn't depend on the client
  any_client : (client other : ℕ) (command : Command) → (step size state client command).0.cursor ≡ (step size state other command).0.cursor
  any_client client other (Create layer) = kept client (Create layer) refl ∙ sym (kept other (Create layer) refl)
  any_client client other (Destroy slot) = kept client (Destroy slot) refl ∙ sym (kept other (Destroy slot) refl)
  any_client client other (Region slot origin rects) = kept client (Region slot origin rects) refl ∙ sym (kept other (Region slot origin rects) refl)
  any_client client other (Move slot origin) = kept client (Move slot origin) refl ∙ sym (kept other (Move slot origin) refl)
  any_client client other (Raise slot) = kept client (Raise slot) refl ∙ sym (kept other (Raise slot) refl)
  any_client client other (Lower slot) = kept client (Lower slot) refl ∙ sym (kept other (Lower slot) refl)
  any_client client other (CursorShape w h cells) = refl
  any_client client other (CursorMove x y) = refl
  any_client client other (CursorShow shown) = refl
  any_client client other (Join channel) = kept client (Join channel) refl ∙ sym (kept other (Join channel) refl)
  any_client client other (Leave channel) = kept client (Leave channel) refl ∙ sym (kept other (Leave channel) refl)
  any_client client other (Send channel message payload) = kept client (Send channel message payload) refl ∙ sym (kept other (Send channel message payload) refl)
  any_client client other Take = kept client Take refl ∙ sym (kept other Take refl)
  any_client client other (IsRegistered channel) = kept client (IsRegistered channel) refl ∙ sym (kept other (IsRegistered channel) refl)

  module _ (client : ℕ) (command : Command) (served : IsServed size state) where
    pub cursor_later : IsCursorOn size (step size state client command).0.cursor
    cursor_later = subst (IsCursorOn size) (sym (any_client client 0 command)) (served_stays size state 0 command (omega arith) served).cursor

    pub slots_later : length (step size state client command).0.revisions ≡ 32
    slots_later = count_by size state (effect state client command) (is_refused (answer size state client command)) served.slots

    pub revisions_later : (slot : ℕ) → slot < 32 → 1 ≤ revision_of (step size state client command).0 slot
    revisions_later slot low = let before = served.revisions slot low in let more = revision_law.rises size state client command slot low in omega arith
