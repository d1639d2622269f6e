-- Laws of a server's step.
use Rattle.std.proofs.Common.{◌≡◌, ℕ, zero, suc, ◌+◌, ◌<◌, ◌≤◌, Bool, true, false, not, ◌&&◌, ◌||◌, ◌==◌, if◌then◌else◌, cond, Option, None, Some, List, [], ◌∷◌, refl, sym, ap, ◌∙◌, subst, ◌⊎◌, inl, inr, arith}
use Rattle.std.specs.Prelude.{nat_eq, All}
use Rattle.std.specs.List.{list_any, find, range_with_len}
use Rattle.std.specs.Option.{option_map, option_eq}
use Rattle.std.proofs.lemmas.Bool.{false≢true, and_parts, eqb-false, not-false}
use Rattle.std.proofs.lemmas.Int.{ints}
use Rattle.std.proofs.lemmas.List.Elements.{All-head, All-tail}
use Rattle.std.proofs.lemmas.List.FromFn.{get_or-map-range_with_len}
use Rattle.qws_base.specs.Sides.{Sides}
use Rattle.qws_base.specs.Points.{is_on_screen}
use Rattle.qws_base.specs.Regions.{IsOnScreen, same_pixels}
use Rattle.qws_base.specs.Windows.{client_of_slot, origin_of, allocated_points, covers, is_slot, owner_at}
use Rattle.qws_base.specs.States.{State, revision_of, is_refused}
use Rattle.qws_base.specs.Stacking.{slots}
use Rattle.qws_base.specs.Steps.{answer, effect, is_modified, is_changed, same_point, risen, completed}
use Rattle.qws_base.specs.StepLaws.{is_on_windows, IsAsBefore, RefusedLaw, RevisionLaw, OtherLaw, OneOwnerLaw, AllAllocatedLaw}
use Rattle.qws_base.specs.declared.points.Point.{Point}
use Rattle.qws_base.specs.declared.windows.WindowView.{WindowView}
use Rattle.qws_base.specs.declared.commands.Command.{Command}
use Rattle.qws_base.specs.declared.commands.Command.TheVariants.{Create, Destroy, Region, Move, Raise, Lower, CursorShape, CursorMove, CursorShow, Join, Leave, Send, Take, IsRegistered}
use Rattle.qws_base.proofs.ListLemmas.{some_same}
use Rattle.qws_base.proofs.PixelLemmas.{same_on_screen, same_everywhere}

-- ---- refused or accepted

-- the state after a command, by whether it is refused
abbrev pub made : State → State → Bool → State
made state accepted refused = if refused then state else accepted

pub refused_law : RefusedLaw
refused_law size state client command h = ap (made state (completed size state (effect state client command))) h

-- ---- revisions

pub itself_client : (client : Option ℕ) → option_eq nat_eq client client ≡ true
itself_client None = refl
itself_client (Some c) = grind arith

pub itself : (p : Point) → same_point p p ≡ true
itself p = grind (arith, ints)

completed_revision : (size : Sides) (before after : State) (slot : ℕ) → slot < 32 → revision_of (completed size before after) slot ≡ risen size before after.windows slot
unfolding slots
completed_revision size before after slot low = get_or-map-range_with_len (risen size before after.windows) 0 32 slot slot 1 low (omega arith)

at_least : (changed : Bool) (n : ℕ) → n ≤ (if changed then n + 1 else n)
at_least true n = omega arith
at_least false n = omega arith

rises_by : (size : Sides) (state after : State) (slot : ℕ) (refused : Bool) → slot < 32 → revision_of state slot ≤ revision_of (made state (completed size state after) refused) slot
rises_by size state after slot false low = subst (λ n. revision_of state slot ≤ n) (sym (completed_revision size state after slot low)) (at_least (is_changed size state.windows after.windows slot) (revision_of state slot))
rises_by size state after slot true low = omega arith

-- ---- a slot that is as before

pub allocated_on : (size : Sides) (windows : List WindowView) (slot : ℕ) → IsOnScreen size (allocated_points size windows slot)
allocated_on size windows slot p h = (and_parts (is_on_screen size p) (is_slot slot (owner_at windows p)) h).0

same_client : (a b : Option ℕ) → option_eq nat_eq a b ≡ true → a ≡ b
same_client None None h = refl
same_client None (Some d) h = cc
same_client (Some c) None h = cc
same_client (Some c) (Some d) h = ap Some (equal_is c d h)
  where
    equal_is : (i j : ℕ) → nat_eq i j ≡ true → i ≡ j
    equal_is i j e = grind arith

point_is : (p q : Point) → same_point p q ≡ true → p ≡ q
point_is p q h = grind (arith, ints)

not_any : (a b c : Bool) → (not a || not b || c) ≡ false → (a ≡ true) × (b ≡ true) × (c ≡ false)
not_any true true false h = (refl, refl, refl)
not_any true true true h = cc
not_any true false c h = cc
not_any false b c h = cc

any_of : (a b c : Bool) → (not a || not b || c) ≡ true → a ≡ true → b ≡ true → c ≡ true
any_of true true c h e f = h
any_of true false c h e f = absurd (false≢true f)
any_of false b c h e f = absurd (false≢true e)

as_before : (size : Sides) (before after : List WindowView) (slot : ℕ) → is_changed size before after slot ≡ false → IsAsBefore size before after slot
as_before size before after slot h =
    let parts = not_any (option_eq nat_eq (client_of_slot before slot) (client_of_slot after slot)) (same_point (origin_of before slot) (origin_of after slot)) (is_modified size before after slot) h in
    record {
      owner = same_client (client_of_slot before slot) (client_of_slot after slot) parts.0;
      origin = point_is (origin_of before slot) (origin_of after slot) parts.1;
      pixels = same_on_screen size (allocated_points size before slot) (allocated_points size after slot) (allocated_on size before slot) (allocated_on size after slot)
          (not-false (same_pixels size (allocated_points size before slot) (allocated_points size after slot)) parts.2);
    }

not_before : (size : Sides) (before after : List WindowView) (slot : ℕ) → is_changed size before after slot ≡ true → IsAsBefore size before after slot → ⊥
not_before size before after slot h same = false≢true (sym (not_modified same.pixels) ∙ modified)
  where
    not_modified : ((p : Point) → allocated_points size before slot p ≡ allocated_points size after slot p) → is_modified size before after slot ≡ false
    not_modified e = ap not (same_everywhere size (allocated_points size before slot) (allocated_points size after slot) e)

    modified : is_modified size before after slot ≡ true
    modified = any_of (option_eq nat_eq (client_of_slot before slot) (client_of_slot after slot)) (same_point (origin_of before slot) (origin_of after slot)) (is_modified size before after slot) h
        (ap (λ c. option_eq nat_eq (client_of_slot before slot) c) (sym same.owner) ∙ itself_client (client_of_slot before slot))
        (ap (same_point (origin_of before slot)) (sym same.origin) ∙ itself (origin_of before slot))

by_change : (size : Sides) (before after : List WindowView) (slot n m : ℕ) (changed : Bool) → is_changed size before after slot ≡ changed → m ≡ (if changed then n + 1 else n)
    → (IsAsBefore size before after slot × (m ≡ n)) ⊎ ((IsAsBefore size before after slot → ⊥) × (m ≡ n + 1))
by_change size before after slot n m false is e = inl (as_before size before after slot is, e)
by_change size before after slot n m true is e = inr (not_before size before after slot is, e)

exact_by : (size : Sides) (state after : State) (slot : ℕ) (refused : Bool) → slot < 32 → refused ≡ false
    → (IsAsBefore size state.windows (made state (completed size state after) refused).windows slot × (revision_of (made state (completed size state after) refused) slot ≡ revision_of state slot))
    ⊎ ((IsAsBefore size state.windows (made state (completed size state after) refused).windows slot → ⊥) × (revision_of (made state (completed size state after) refused) slot ≡ revision_of state slot + 1))
exact_by size state after slot false low h =
    by_change size state.windows after.windows slot (revision_of state slot) (revision_of (completed size state after) slot) (is_changed size state.windows after.windows slot) refl (completed_revision size state after slot low)
exact_by size state after slot true low h = absurd (false≢true (sym h))

pub revision_law : RevisionLaw
revision_law = record {
  exact = λ size state client command slot low h. exact_by size state (effect state client command) slot (is_refused (answer size state client command)) low h;
  rises = λ size state client command slot low. rises_by size state (effect state client command) slot (is_refused (answer size state client command)) low;
}

-- ---- commands on other things

not_modified : (size : Sides) (windows : List WindowView) (slot : ℕ) → is_modified size windows windows slot ≡ false
not_modified size windows slot = ap not (same_everywhere size (allocated_points size windows slot) (allocated_points size windows slot) (λ p. refl))

pub not_changed : (size : Sides) (windows : List WindowView) (slot : ℕ) → is_changed size windows windows slot ≡ false
not_changed size windows slot =
    ap (λ a. not a || not (same_point (origin_of windows slot) (origin_of windows slot)) || is_modified size windows windows slot) (itself_client (client_of_slot windows slot))
    ∙ ap (λ a. not a || is_modified size windows windows slot) (itself (origin_of windows slot))
    ∙ not_modified size windows slot

effect_keeps : (state : State) (client : ℕ) (command : Command) → is_on_windows command ≡ false → (effect state client command).windows ≡ state.windows
effect_keeps state client (Create layer) h = cc
effect_keeps state client (Destroy slot) h = cc
effect_keeps state client (Region slot origin rects) h = cc
effect_keeps state client (Move slot origin) h = cc
effect_keeps state client (Raise slot) h = cc
effect_keeps state client (Lower slot) h = cc
effect_keeps state client (CursorShape w height cells) h = refl
effect_keeps state client (CursorMove x y) h = refl
effect_keeps state client (CursorShow shown) h = refl
effect_keeps state client (Join channel) h = refl
effect_keeps state client (Leave channel) h = refl
effect_keeps state client (Send channel message payload) h = refl
effect_keeps state client Take h = refl
effect_keeps state client (IsRegistered channel) h = refl

windows_by : (size : Sides) (state after : State) (refused : Bool) → after.windows ≡ state.windows → (made state (completed size state after) refused).windows ≡ state.windows
windows_by size state after false same = same
windows_by size state after true same = refl

revisions_by : (size : Sides) (state after : State) (slot : ℕ) (refused : Bool) → slot < 32 → after.windows ≡ state.windows → revision_of (made state (completed size state after) refused) slot ≡ revision_of state slot
revisions_by size state after slot false low same =
    completed_revision size state after slot low
    ∙ ap (λ windows. risen size state windows slot) same ∙ ap (λ b. if b then revision_of state slot + 1 else revision_of state slot) (not_changed size state.windows slot)
revisions_by size state after slot true low same = refl

pub other_law : OtherLaw
other_law = record {
  windows = λ size state client command other. windows_by size state (effect state client command) (is_refused (answer size state client command)) (effect_keeps state client command other);
  revisions = λ size state client command slot low other. revisions_by size state (effect state client command) slot (is_refused (answer size state client command)) low (effect_keeps state client command other);
}

-- ---- one owner

slot_is : (slot : ℕ) (owner : Option ℕ) → is_slot slot owner ≡ true → owner ≡ Some slot
slot_is slot None h = cc
slot_is slot (Some other) h = let e : other ≡ slot = grind arith in ap Some e

pub one_owner_law : OneOwnerLaw
one_owner_law size windows i j p h k =
    let a = (and_parts (is_on_screen size p) (is_slot i (owner_at windows p)) h).1 in
    let b = (and_parts (is_on_screen size p) (is_slot j (owner_at windows p)) k).1 in
    some_same i j (sym (slot_is i (owner_at windows p) a) ∙ slot_is j (owner_at windows p) b)

-- ---- all pixels of the requests

any_by : (s a n : ℕ) (here : Bool) → (s == a) ≡ here → s < a + suc n → a ≤ s → (a + 1 ≤ s → s < a + 1 + n → list_any (λ slot. is_slot slot (Some s)) (range_with_len (a + 1) n) ≡ true) → (here || list_any (λ slot. is_slot slot (Some s)) (range_with_len (a + 1) n)) ≡ true
any_by s a n true e high low later = refl
any_by s a n false e high low later = let ne = eqb-false s a e in later (omega (arith, ne)) (omega arith)

any_slot : (s a n : ℕ) → a ≤ s → s < a + n → list_any (λ slot. is_slot slot (Some s)) (range_with_len a n) ≡ true
any_slot s a zero low high = absurd (omega arith)
any_slot s a (suc n) low high = any_by s a n (s == a) refl high low (any_slot s (a + 1) n)

no_owner : (ks : List ℕ) → list_any (λ slot. is_slot slot None) ks ≡ false
no_owner [] = refl
no_owner (k ∷ ks) = no_owner ks

owned : (windows : List WindowView) (p : Point) → All (λ w. w.slot < 32) windows → list_any (λ slot. is_slot slot (owner_at windows p)) (range_with_len 0 32) ≡ list_any (covers p) windows
owned [] p few = no_owner (range_with_len 0 32)
owned (w ∷ windows) p few = by (covers p w) (All-head (λ v. v.slot < 32) w windows few) (owned windows p (All-tail (λ v. v.slot < 32) w windows few))
  where
    by : (here : Bool) → w.slot < 32 → list_any (λ slot. is_slot slot (owner_at windows p)) (range_with_len 0 32) ≡ list_any (covers p) windows
        → list_any (λ slot. is_slot slot (option_map (λ v. v.slot) (cond here (Some w) (find (covers p) windows)))) (range_with_len 0 32) ≡ (here || list_any (covers p) windows)
    by true low rest = any_slot w.slot 0 32 (omega arith) (omega arith)
    by false low rest = rest

-- a test that all elements share
both : {X : Type 0} (shared : Bool) (test : X → Bool) (xs : List X) → list_any (λ x. shared && test x) xs ≡ (shared && list_any test xs)
both true test xs = refl
both false test [] = refl
both false test (x ∷ xs) = both false test xs

pub all_allocated_law : AllAllocatedLaw
unfolding slots
all_allocated_law size windows few p =
    both (is_on_screen size p) (λ slot. is_slot slot (owner_at windows p)) (range_with_len 0 32)
    ∙ ap (λ b. is_on_screen size p && b) (owned windows p few)
    ∙ sym (both (is_on_screen size p) (covers p) windows)
