-- When a plan that leaves other windows has the step of its command.
use Rattle.std.proofs.Common.{◌≡◌, ℕ, true, false, Option, None, Some, List, [], ◌∷◌, refl, sym, ap, ◌∙◌, subst}
use Rattle.std.specs.Prelude.{Result, Ok, Err, IfOk, is_none, nat_lt}
use Rattle.std.specs.List.{find}
use Rattle.std.specs.Option.{option_map_or, option_or}
use Rattle.std.proofs.lemmas.Bool.{false≢true}
use Rattle.qws_base.specs.Windows.{has_slot}
use Rattle.qws_base.specs.States.{is_refused}
use Rattle.qws_base.specs.Stacking.{free_slot, windows_created}
use Rattle.qws_base.specs.Refusals.{when, first_of, no_window, not_yours, too_complex}
use Rattle.qws_base.specs.Steps.{answer, effect, unless, found_or, leaves_complex}
use Rattle.qws_base.specs.declared.windows.WindowView.{WindowView}
use Rattle.qws_base.specs.declared.commands.Command.{Command}
use Rattle.qws_base.specs.declared.commands.Command.TheVariants.{Create}
use Rattle.qws_base.specs.declared.replies.Reply.TheVariants.{Created, Done, Refused}
use Rattle.qws_base.specs.declared.replies.Refusal.{Refusal}
use Rattle.qws_base.specs.declared.replies.Refusal.TheVariants.{BadLayer, NoSlot}
use Rattle.window_core.specs.declared.held.Held.{Held}
use Rattle.window_core.specs.declared.held.Planned.{Planned}
use Rattle.window_core.specs.declared.changes.MailChange.TheVariants.{Nothing}
use Rattle.window_core.specs.Changes.{gone_forgotten}
use Rattle.window_arrangements.specs.Arrangements.{ArrangementView}
use Rattle.window_core.specs.Planning.{size_of, state_of, IsPlanned, Keeps, Arranges, IsOutcome}
use Rattle.window_core.proofs.PlanLemmas.{first_three, outcome_planned, arranged_planned}
use Rattle.window_core.proofs.MailPlanLemmas.{if_refused}
use Rattle.window_core.proofs.WindowLemmas.{found_slot}

-- ---- a command on the client's own window

-- the causes that each such command has last
abbrev pub own_causes : Held → ℕ → ℕ → Command → List (Option Refusal)
own_causes held client slot command =
    no_window (state_of held).windows slot ∷ not_yours (state_of held).windows client slot ∷ leaves_complex (size_of held) (state_of held) client command ∷ []

-- neither of two causes is there, or one is
abbrev pub own_cause : Held → ℕ → ℕ → Option Refusal
own_cause held client slot = first_of (no_window (state_of held).windows slot ∷ not_yours (state_of held).windows client slot ∷ [])

own_first : (held : Held) (client slot : ℕ) (command : Command) (cause : Option Refusal) → cause ≡ own_cause held client slot
    → first_of (own_causes held client slot command) ≡ option_or cause (leaves_complex (size_of held) (state_of held) client command)
own_first held client slot command cause is =
    first_three (no_window (state_of held).windows slot) (not_yours (state_of held).windows client slot) (leaves_complex (size_of held) (state_of held) client command)
    ∙ ap (λ o. option_or o (leaves_complex (size_of held) (state_of held) client command)) (sym is)

-- the window isn't there or isn't the client's
pub if_not_own : {E : Type 0} (held : Held) (client slot : ℕ) (command : Command) (cause : Refusal) (r : Result Planned E)
    → answer (size_of held) (state_of held) client command ≡ unless (own_causes held client slot command) Done
    → Some cause ≡ own_cause held client slot → IfOk r (Keeps held (Refused cause) Nothing) → IfOk r (IsPlanned held client command)
if_not_own held client slot command cause r answered is kept =
    if_refused held client command cause r (answered ∙ ap (λ o. option_map_or (λ c. Refused c) o Done) (own_first held client slot command (Some cause) is)) kept

-- the window is the client's
pub if_own : {E : Type 0} (held : Held) (client slot : ℕ) (command : Command) (after : ArrangementView) (leaving : Option ℕ) (r : Result Planned E)
    → answer (size_of held) (state_of held) client command ≡ unless (own_causes held client slot command) Done
    → None ≡ own_cause held client slot
    → after ≡ record { size = size_of held; windows = (effect (state_of held) client command).windows }
    → (effect (state_of held) client command).mail ≡ gone_forgotten (state_of held).windows (state_of held).mail leaving
    → (effect (state_of held) client command).cursor ≡ (state_of held).cursor
    → IfOk r (IsOutcome held after leaving) → IfOk r (IsPlanned held client command)
if_own held client slot command after leaving (Ok p) answered is made mail cursor o =
    let told = answered
    ∙ ap (λ o. option_map_or (λ c. Refused c) o Done) (own_first held client slot command None is)
    ∙ ap (λ (v : ArrangementView). option_map_or (λ c. Refused c) (too_complex (size_of held) v.windows) Done) (sym made) in
    outcome_planned held client command after leaving p
    (λ cause e. told ∙ ap (λ o. option_map_or (λ c. Refused c) o Done) e)
    (λ e. told ∙ ap (λ o. option_map_or (λ c. Refused c) o Done) e)
    (ap (λ (v : ArrangementView). v.size) made) (sym (ap (λ (v : ArrangementView). v.windows) made)) mail cursor o
if_own held client slot command after leaving (Err x) answered is made mail cursor o = tt

-- the window that is found by a slot is found by its own
pub found_own : (slot : ℕ) (ws : List WindowView) (w : WindowView) → find (has_slot slot) ws ≡ Some w → find (has_slot w.slot) ws ≡ Some w
found_own slot ws w e = ap (λ s. find (has_slot s) ws) (found_slot slot ws w e) ∙ e

-- a cause that isn't there, or is, before others
pub cause_past : (cause : Option Refusal) (causes : List (Option Refusal)) → cause ≡ None → unless (cause ∷ causes) Done ≡ unless causes Done
cause_past cause causes e = ap (λ o. unless (o ∷ causes) Done) e

pub cause_there : (cause : Option Refusal) (causes : List (Option Refusal)) (there : Refusal) → cause ≡ Some there → unless (cause ∷ causes) Done ≡ Refused there
cause_there cause causes there e = ap (λ o. unless (o ∷ causes) Done) e

-- ---- Create

pub none_is : {A : Type 0} (o : Option A) → is_none o ≡ true → o ≡ None
none_is None e = refl
none_is (Some x) e = absurd (false≢true e)

low_layer : (held : Held) (client layer : ℕ) (free : Option ℕ) → nat_lt 1 layer ≡ false → free_slot (state_of held).windows ≡ free
    → answer (size_of held) (state_of held) client (Create layer) ≡ found_or NoSlot (λ slot. Created slot) free
low_layer held client layer free low is =
    ap (λ high. unless (when high (BadLayer layer) ∷ []) (found_or NoSlot (λ slot. Created slot) (free_slot (state_of held).windows))) low
    ∙ ap (λ o. found_or NoSlot (λ slot. Created slot) o) is

pub if_high_layer : {E : Type 0} (held : Held) (client layer : ℕ) (r : Result Planned E) → nat_lt 1 layer ≡ true
    → IfOk r (Keeps held (Refused (BadLayer layer)) Nothing) → IfOk r (IsPlanned held client (Create layer))
if_high_layer held client layer r high kept =
    if_refused held client (Create layer) (BadLayer layer) r
    (ap (λ high. unless (when high (BadLayer layer) ∷ []) (found_or NoSlot (λ slot. Created slot) (free_slot (state_of held).windows))) high) kept

pub if_none_free : {E : Type 0} (held : Held) (client layer : ℕ) (r : Result Planned E) → nat_lt 1 layer ≡ false → free_slot (state_of held).windows ≡ None
    → IfOk r (Keeps held (Refused NoSlot) Nothing) → IfOk r (IsPlanned held client (Create layer))
if_none_free held client layer r low is kept = if_refused held client (Create layer) NoSlot r (low_layer held client layer None low is) kept

pub if_created : {E : Type 0} (held : Held) (client layer slot : ℕ) (after : ArrangementView) (r : Result Planned E) → nat_lt 1 layer ≡ false → free_slot (state_of held).windows ≡ Some slot
    → after ≡ record { size = size_of held; windows = windows_created client layer (state_of held).windows }
    → IfOk r (Arranges held (Created slot) after None) → IfOk r (IsPlanned held client (Create layer))
if_created held client layer slot after (Ok p) low is made a =
    let answered = low_layer held client layer (Some slot) low is in
    arranged_planned held client (Create layer) after None p (ap is_refused answered)
    (ap (λ (v : ArrangementView). v.size) made) (sym (ap (λ (v : ArrangementView). v.windows) made)) refl refl
    (subst (λ reply. Arranges held reply after None p) (sym answered) a)
if_created held client layer slot after (Err x) low is made a = tt
