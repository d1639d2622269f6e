-- Which slots a step changes.
use Rattle.std.proofs.Common.{◌≡◌, ℕ, zero, suc, ◌+◌, ◌<◌, ◌≤◌, ⊎_elim, Bool, true, false, cond, if◌then◌else◌, List, ◌∷◌, sym, refl, ap, ◌∙◌, subst, arith}
use Rattle.std.specs.List.{filter, range_with_len, Contains}
use Rattle.std.proofs.lemmas.Bool.{cases_eq, cases_Bool, false≢true}
use Rattle.std.proofs.lemmas.List.Elements.{All-contains, filter_passes}
use Rattle.std.proofs.lemmas.List.FromFn.{get_or-map-range_with_len}
use Rattle.qws_base.specs.Sides.{Sides}
use Rattle.qws_base.specs.States.{State, revision_of, is_refused}
use Rattle.qws_base.specs.Stacking.{slots}
use Rattle.qws_base.specs.Steps.{step, answer, effect, completed, risen, is_changed}
use Rattle.qws_base.specs.StepLaws.{IsAsBefore}
use Rattle.qws_base.specs.declared.commands.Command.{Command}
use Rattle.qws_base.proofs.StepLaws.{made, refused_law, revision_law, not_changed}

-- ---- the slots that pass a test

there : (test : ℕ → Bool) (i n k : ℕ) → i ≤ k → k < i + n → test k ≡ true → Contains (filter test (range_with_len i n)) k
there test i zero k low high holds = absurd (omega arith)
there test i (suc n) k low high holds = ⊎_elim
    (λ (same : k ≡ i). first (test i) (subst (λ j. test j ≡ true) same holds) same)
    (λ (other : k ≡ i → ⊥). later (test i) (there test (i + 1) n k (omega arith) (omega arith) holds))
    (cases_eq k i)
  where
    rest : List ℕ
    rest = filter test (range_with_len (i + 1) n)

    first : (b : Bool) → b ≡ true → k ≡ i → Contains (cond b (i ∷ rest) rest) k
    first true e same = (0, omega arith, sym same)
    first false e same = absurd (false≢true e)

    later : (b : Bool) → Contains rest k → Contains (cond b (i ∷ rest) rest) k
    later true h = let lt = h.1 in (suc h.0, omega arith, h.2)
    later false h = h

pub passing : (test : ℕ → Bool) (slot : ℕ) → slot < 32 → test slot ≡ true → Contains (filter test slots) slot
unfolding slots
passing test slot low holds = there test 0 32 slot (omega arith) low holds

pub passed : (test : ℕ → Bool) (slot : ℕ) → Contains (filter test slots) slot → test slot ≡ true
passed test slot has = All-contains (λ k. test k ≡ true) (filter test slots) slot (filter_passes test slots) has

-- ---- what a step does to a slot

revision_by : (size : Sides) (state after : State) (slot : ℕ) (refused : Bool) → slot < 32
    → revision_of (made state (completed size state after) refused) slot
    ≡ (if is_changed size state.windows (made state (completed size state after) refused).windows slot then revision_of state slot + 1 else revision_of state slot)
unfolding slots
revision_by size state after slot true low = sym (ap (λ b. if b then revision_of state slot + 1 else revision_of state slot) (not_changed size state.windows slot))
revision_by size state after slot false low = get_or-map-range_with_len (risen size state after.windows) 0 32 slot slot 1 low (omega arith)

module _ (size : Sides) (state : State) (client : ℕ) (command : Command) where
  abbrev new : State
  new = (step size state client command).0

  revision_is : (slot : ℕ) → slot < 32 → revision_of new slot ≡ (if is_changed size state.windows new.windows slot then revision_of state slot + 1 else revision_of state slot)
  revision_is slot low = revision_by size state (effect state client command) slot (is_refused (answer size state client command)) low

  -- the revision of a slot that changes is greater
  pub revision_more : (slot : ℕ) → slot < 32 → is_changed size state.windows new.windows slot ≡ true → revision_of state slot < revision_of new slot
  revision_more slot low changed =
      let more = revision_is slot low ∙ ap (λ b. if b then revision_of state slot + 1 else revision_of state slot) changed in omega arith

  revision_same : (slot : ℕ) → slot < 32 → is_changed size state.windows new.windows slot ≡ false → revision_of new slot ≡ revision_of state slot
  revision_same slot low same = revision_is slot low ∙ ap (λ b. if b then revision_of state slot + 1 else revision_of state slot) same

  -- a slot that doesn't change is as before
  pub as_before : (slot : ℕ) → slot < 32 → is_changed size state.windows new.windows slot ≡ false → IsAsBefore size state.windows new.windows slot × (revision_of new slot ≡ revision_of state slot)
  as_before slot low same = ⊎_elim
      (λ (refused : is_refused (answer size state client command) ≡ true).
      (subst (λ (s : State). IsAsBefore size state.windows s.windows slot) (sym (refused_law size state client command refused)) (record { owner = refl; origin = refl; pixels = λ p. refl }), revision_same slot low same))
      (λ (done : is_refused (answer size state client command) ≡ false). ⊎_elim
      (λ (kept : IsAsBefore size state.windows new.windows slot × (revision_of new slot ≡ revision_of state slot)). kept)
      (λ (more : (IsAsBefore size state.windows new.windows slot → ⊥) × (revision_of new slot ≡ revision_of state slot + 1)).
      let n = revision_same slot low same in let m = more.1 in absurd (omega arith))
      (revision_law.exact size state client command slot low done))
      (cases_Bool (is_refused (answer size state client command)))
