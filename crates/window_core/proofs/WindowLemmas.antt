-- The window that a search by its slot finds.
use Rattle.std.proofs.Common.{◌≡◌, ℕ, ◌∙◌, Bool, true, false, not, ◌||◌, ◌==◌, cond, None, Some, List, [], ◌∷◌, refl, sym, ap, eq-eqb}
use Rattle.std.specs.Prelude.{All, is_some}
use Rattle.std.specs.List.{find}
use Rattle.std.specs.Option.{option_map, option_and_then}
use Rattle.std.proofs.lemmas.Bool.{ne_eqb}
use Rattle.qws_base.specs.Windows.{has_slot, is_live, client_of_slot}
use Rattle.qws_base.specs.Refusals.{when, first_of, no_window, not_yours}
use Rattle.qws_base.specs.declared.replies.Refusal.TheVariants.{NoWindow, NotYours}
use Rattle.qws_base.specs.declared.windows.WindowView.{WindowView}
use Rattle.qws_base.proofs.ListLemmas.{found_member}
use Rattle.window_arrangements.proofs.ArrangementLemmas.{slot_is}

pub found_slot : (slot : ℕ) (ws : List WindowView) (w : WindowView) → find (has_slot slot) ws ≡ Some w → w.slot ≡ slot
found_slot slot ws w e = slot_is slot w (found_member (λ v. v.slot ≡ v.slot) (has_slot slot) ws w (λ k d l. refl_of _) e).1
  where
    refl_of : (n : ℕ) → n ≡ n
    refl_of n = refl

pub found_has : (P : WindowView → Type 0) (slot : ℕ) (ws : List WindowView) (w : WindowView) → All P ws → find (has_slot slot) ws ≡ Some w → P w
found_has P slot ws w all e = (found_member P (has_slot slot) ws w all e).0

pub found_client : (slot : ℕ) (ws : List WindowView) (w : WindowView) → find (has_slot slot) ws ≡ Some w → client_of_slot ws slot ≡ Some w.owner
found_client slot ws w e = ap (option_map (λ v. v.owner)) e

pub not_found_client : (slot : ℕ) (ws : List WindowView) → find (has_slot slot) ws ≡ None → client_of_slot ws slot ≡ None
not_found_client slot ws e = ap (option_map (λ v. v.owner)) e

-- ---- a client's own window

live_found : (slot : ℕ) (ws : List WindowView) → is_live ws slot ≡ is_some (find (has_slot slot) ws)
live_found slot [] = refl
live_found slot (w ∷ ws) = by (has_slot slot w) (live_found slot ws)
  where
    by : (here : Bool) → is_live ws slot ≡ is_some (find (has_slot slot) ws) → (here || is_live ws slot) ≡ is_some (cond here (Some w) (find (has_slot slot) ws))
    by true e = refl
    by false e = e

pub own_none : (ws : List WindowView) (client slot : ℕ) → find (has_slot slot) ws ≡ None → Some (NoWindow slot) ≡ first_of (no_window ws slot ∷ not_yours ws client slot ∷ [])
own_none ws client slot e =
    sym (ap (λ b. first_of (when (not b) (NoWindow slot) ∷ not_yours ws client slot ∷ [])) (live_found slot ws ∙ ap (λ o. is_some o) e))

own_found : (ws : List WindowView) (client slot : ℕ) (w : WindowView) → find (has_slot slot) ws ≡ Some w → first_of (no_window ws slot ∷ not_yours ws client slot ∷ []) ≡ first_of (when (not (w.owner == client)) (NotYours slot w.owner) ∷ [])
own_found ws client slot w e =
    ap (λ b. first_of (when (not b) (NoWindow slot) ∷ not_yours ws client slot ∷ [])) (live_found slot ws ∙ ap (λ o. is_some o) e)
    ∙ ap (λ o. first_of (option_and_then (λ owner. when (not (owner == client)) (NotYours slot owner)) (option_map (λ v. v.owner) o) ∷ [])) e

pub own_other : (ws : List WindowView) (client slot : ℕ) (w : WindowView) → find (has_slot slot) ws ≡ Some w → (w.owner ≡ client → ⊥) → Some (NotYours slot w.owner) ≡ first_of (no_window ws slot ∷ not_yours ws client slot ∷ [])
own_other ws client slot w e differs = sym (own_found ws client slot w e ∙ ap (λ b. first_of (when (not b) (NotYours slot w.owner) ∷ [])) (ne_eqb w.owner client differs))

pub own_same : (ws : List WindowView) (client slot : ℕ) (w : WindowView) → find (has_slot slot) ws ≡ Some w → w.owner ≡ client → None ≡ first_of (no_window ws slot ∷ not_yours ws client slot ∷ [])
own_same ws client slot w e same = sym (own_found ws client slot w e ∙ ap (λ b. first_of (when (not b) (NotYours slot w.owner) ∷ [])) (eq-eqb w.owner client same))
