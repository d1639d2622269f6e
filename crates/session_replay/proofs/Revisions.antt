-- How far revisions rise: no further than there are calls.
use Rattle.std.proofs.Common.{◌≡◌, ℕ, ◌+◌, ◌<◌, ◌≤◌, ◌^◌, List, [], ◌∷◌, map, length, get_or, Bool, true, false, refl, ap, arith, suc, zero, inl, inr}
use Rattle.std.specs.List.{range_with_len}
use Rattle.qws_base.specs.Sides.{Sides}
use Rattle.qws_base.specs.States.{State, revision_of, is_refused, opening_state, opening_revisions}
use Rattle.qws_base.specs.Steps.{step}
use Rattle.qws_base.specs.Scenes.{Setting}
use Rattle.qws_base.specs.Histories.{Entry, World, next_world, world_from, opening_world}
use Rattle.qws_base.specs.Histories.Entry.{Step as StepEntry, Paint as PaintEntry}
use Rattle.qws_base.specs.declared.commands.Command.{Command}
use Rattle.qws_base.proofs.StepLaws.{refused_law, revision_law}
use Rattle.window_core.specs.CoreViews.{CoreView, CanRise}
use Rattle.pixel_model.specs.Drawn.{Drawn}
use Rattle.script_grammar.specs.Session.{Session, session_setting}
use Rattle.session_replay.specs.Steps.{IsWorld}

-- ---- a step raises a revision by at most one

step_rises : (size : Sides) (state : State) (client : ℕ) (command : Command) (slot n : ℕ) → slot < 32 → revision_of state slot ≤ n → revision_of (step size state client command).0 slot ≤ n + 1
step_rises size state client command slot n low few = by_refusal (is_refused (step size state client command).1) refl
  where
    by_refusal : (refused : Bool) → is_refused (step size state client command).1 ≡ refused → revision_of (step size state client command).0 slot ≤ n + 1
    by_refusal true is = omega (arith, few, ap (λ (s : State). revision_of s slot) (refused_law size state client command is))
    by_refusal false is = elim (revision_law.exact size state client command slot low is) [ inl same ↦ omega (arith, few, same.1) | inr more ↦ omega (arith, few, more.1) ]

entry_rises : (setting : Setting) (world : World) (e : Entry) (slot n : ℕ) → slot < 32 → revision_of world.state slot ≤ n → revision_of (next_world setting world e).state slot ≤ n + 1
entry_rises setting world (StepEntry client command reply) slot n low few = step_rises setting.size world.state client command slot n low few
entry_rises setting world (PaintEntry client painted tag sheet reply) slot n low few = omega (arith, few)

history_rises : (setting : Setting) (world : World) (h : List Entry) (slot n : ℕ) → slot < 32 → revision_of world.state slot ≤ n → revision_of (world_from setting world h).state slot ≤ n + length h
history_rises setting world [] slot n low few = omega (arith, few)
history_rises setting world (e ∷ h) slot n low few =
    omega (arith, history_rises setting (next_world setting world e) h slot (n + 1) low (entry_rises setting world e slot n low few))

-- each slot opens with revision 1
ones : (xs : List ℕ) (slot : ℕ) → ◌≡◌ {A = ℕ} (get_or (map (λ x. 1) xs) slot 1) 1
ones [] slot = refl
ones (x ∷ xs) zero = refl
ones (x ∷ xs) (suc slot) = ones xs slot

opens_with_one : (slot : ℕ) → revision_of opening_state slot ≡ 1
unfolding opening_revisions
opens_with_one slot = ones (range_with_len 0 32) slot

-- no revision is the last while so few calls are made
pub can_rise : (session : Session) (h : List Entry) (core : CoreView) (canvas : Drawn) → length h + 2 < 2 ^ 64 → IsWorld session h core canvas → CanRise core.state
can_rise session h core canvas few world =
    let setting : Setting = session_setting session in
    λ slot low.
    omega (
      arith,
      few,
      ap (λ (s : State). revision_of s slot) world.state,
      history_rises setting (opening_world setting) h slot 1 low (omega (arith, opens_with_one slot)),
    )
