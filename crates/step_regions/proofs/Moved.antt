-- Where windows are, and the window that an accepted command moves.
use Rattle.std.proofs.Common.{◌≡◌, ℕ, suc, ◌<◌, ◌==◌, Bool, true, false, not, ◌&&◌, ◌||◌, cond, if◌then◌else◌, Option, None, Some, List, [], ◌∷◌, refl, sym, ap, ◌∙◌, subst, arith, ℤ, pos, ◌-ℤ◌, ◌≤ℤ◌, to_z, of_z, w32, FitsSigned}
use Rattle.std.specs.Prelude.{All, is_none, negsuc, int_le}
use Rattle.std.specs.List.{find}
use Rattle.std.specs.Option.{option_map_or}
use Rattle.std.proofs.lemmas.Bool.{and_parts, false≢true}
use Rattle.std.proofs.lemmas.List.Elements.{All-head, All-tail}
use Rattle.std.proofs.lemmas.Int.{ints}
use Rattle.qws_base.specs.Sides.{Sides}
use Rattle.qws_base.specs.Points.{IsPlaced, minus, origin_zero}
use Rattle.qws_base.specs.Arranged.{IsWindow, IsArranged}
use Rattle.qws_base.specs.States.{State, is_refused}
use Rattle.qws_base.specs.Steps.{answer, unless, leaves_complex}
use Rattle.qws_base.specs.Refusals.{no_window, not_yours, off_screen, is_coordinate}
use Rattle.qws_base.specs.Windows.{is_live, origin_of, has_slot}
use Rattle.qws_base.specs.declared.points.Point.{Point}
use Rattle.qws_base.specs.declared.windows.WindowView.{WindowView}
use Rattle.qws_base.specs.declared.commands.Command.TheVariants.{Move}
use Rattle.qws_base.specs.declared.replies.Reply.TheVariants.{Done}
use Rattle.qws_base.specs.declared.replies.Refusal.{Refusal}
use Rattle.qws_base.specs.declared.replies.Refusal.TheVariants.{NoWindow, OffScreen}
use Rattle.qws_base.proofs.CauseLemmas.{not_caused}
use Rattle.qws_base.proofs.ArrangedLemmas.{arranged_law}
use Rattle.window_core.specs.CoreViews.{CoreView, PlanView, Belongs}
use Rattle.step_regions.specs.Carried.{IsNear}
use Rattle.step_regions.proofs.Distances.{two}

-- ---- where windows are

placed_point : (p : Point) → off_screen p ≡ None → IsPlaced p
placed_point p none = go (is_coordinate p.x) (is_coordinate p.y) refl refl none
  where
    near : (x : ℤ) → is_coordinate x ≡ true → (negsuc 4095 ≤ℤ x) × (x ≤ℤ pos 4095)
    near x e = let parts = and_parts (int_le (negsuc 4095) x) (int_le x (pos 4095)) e in (grind (arith, ints), grind (arith, ints))

    go : (a b : Bool) → is_coordinate p.x ≡ a → is_coordinate p.y ≡ b → (if not (a && b) then Some (OffScreen p.x p.y) else None) ≡ None → IsPlaced p
    go true true a b e = let x = near p.x a in let y = near p.y b in record { low_x = x.0; high_x = x.1; low_y = y.0; high_y = y.1 }
    go true false a b e = absurd (false≢true (ap is_none e))
    go false y a b e = absurd (false≢true (ap is_none e))

zero_placed : IsPlaced origin_zero
zero_placed = record { low_x = omega (arith, ints); high_x = omega (arith, ints); low_y = omega (arith, ints); high_y = omega (arith, ints) }

pub found_placed : (slot : ℕ) (windows : List WindowView) → All IsWindow windows → IsPlaced (origin_of windows slot)
found_placed slot [] ok = zero_placed
found_placed slot (w ∷ ws) ok = go (w.slot == slot) (found_placed slot ws (λ k d below. ok (suc k) d (omega arith)))
  where
    go : (b : Bool) → IsPlaced (option_map_or (λ (v : WindowView). v.origin) (find (has_slot slot) ws) origin_zero) → IsPlaced (option_map_or (λ (v : WindowView). v.origin) (cond b (Some w) (find (has_slot slot) ws)) origin_zero)
    go true rest = placed_point w.origin (ok 0 w (omega arith)).placed
    go false rest = rest

-- ---- causes

second_cause : (a b : Option Refusal) (rest : List (Option Refusal)) → is_refused (unless (a ∷ b ∷ rest) Done) ≡ false → b ≡ None
second_cause None None rest e = refl
second_cause None (Some cause) rest e = absurd (false≢true (sym e))
second_cause (Some cause) b rest e = absurd (false≢true (sym e))

live_low : (slot : ℕ) (ws : List WindowView) → All IsWindow ws → is_live ws slot ≡ true → slot < 32
live_low slot [] each live = absurd (false≢true live)
live_low slot (w ∷ ws) each live = go (w.slot == slot) refl live (live_low slot ws (All-tail IsWindow w ws each))
  where
    go : (b : Bool) → (w.slot == slot) ≡ b → (b || is_live ws slot) ≡ true → (is_live ws slot ≡ true → slot < 32) → slot < 32
    go true is e rest = let low = (All-head IsWindow w ws each).slot in grind arith
    go false is e rest = rest e

-- the slot of an accepted move is below 32
pub moved_low : (size : Sides) (state : State) (client slot : ℕ) (origin : Point) → All IsWindow state.windows → is_refused (answer size state client (Move slot origin)) ≡ false → slot < 32
moved_low size state client slot origin each done = live_low slot state.windows each (not_caused (is_live state.windows slot) (NoWindow slot)
    (second_cause (off_screen origin) (no_window state.windows slot) (not_yours state.windows client slot ∷ leaves_complex size state client (Move slot origin) ∷ []) done))

-- the windows after a plan's step are in their ranges
pub each_planned : (core : CoreView) (plan : PlanView) → Belongs core.size plan core.state → IsArranged core.size core.state.windows → All IsWindow plan.windows
each_planned core plan belongs arranged = subst (All IsWindow) (sym belongs.windows) (arranged_law.stays core.size core.state plan.client plan.command arranged).each

pub placed_at : (slot : ℕ) (windows ws : List WindowView) (p : Point) → p ≡ origin_of ws slot → ws ≡ windows → All IsWindow windows → IsPlaced p
placed_at slot windows ws p is same each = subst IsPlaced (sym (is ∙ ap (λ (l : List WindowView). origin_of l slot) same)) (found_placed slot windows each)

-- ---- distances

fits_itself : (x : ℤ) → negsuc 8191 ≤ℤ x → x ≤ℤ pos 8192 → to_z w32 (of_z w32 x) ≡ x
fits_itself x low high = omega (arith, ints)

pub difference_fits : (x y : ℤ) → negsuc 4095 ≤ℤ x → x ≤ℤ pos 4095 → negsuc 4095 ≤ℤ y → y ≤ℤ pos 4095 → FitsSigned w32 (to_z w32 (of_z w32 x) -ℤ to_z w32 (of_z w32 y))
difference_fits x y low_x high_x low_y high_y = omega (arith, ints)

difference_is : (x y : ℤ) → negsuc 4095 ≤ℤ x → x ≤ℤ pos 4095 → negsuc 4095 ≤ℤ y → y ≤ℤ pos 4095 → to_z w32 (of_z w32 (to_z w32 (of_z w32 x) -ℤ to_z w32 (of_z w32 y))) ≡ x -ℤ y
difference_is x y low_x high_x low_y high_y =
    let a : to_z w32 (of_z w32 x) ≡ x = fits_itself x (omega (arith, ints)) (omega (arith, ints)) in
    let b : to_z w32 (of_z w32 y) ≡ y = fits_itself y (omega (arith, ints)) (omega (arith, ints)) in
    ap (λ z. to_z w32 (of_z w32 z)) (ap (λ z. z -ℤ to_z w32 (of_z w32 y)) a ∙ ap (λ z. x -ℤ z) b) ∙ fits_itself (x -ℤ y) (omega (arith, ints)) (omega (arith, ints))

pub difference_near : (x y : ℤ) → negsuc 4095 ≤ℤ x → x ≤ℤ pos 4095 → negsuc 4095 ≤ℤ y → y ≤ℤ pos 4095 → IsNear (to_z w32 (of_z w32 (to_z w32 (of_z w32 x) -ℤ to_z w32 (of_z w32 y))))
difference_near x y low_x high_x low_y high_y = subst IsNear (sym (difference_is x y low_x high_x low_y high_y)) (record { low = omega (arith, ints); high = omega (arith, ints) })

pub distance_is : (a b : Point) → IsPlaced a → IsPlaced b
    → (let d : Point = record { x = to_z w32 (of_z w32 (to_z w32 (of_z w32 a.x) -ℤ to_z w32 (of_z w32 b.x))); y = to_z w32 (of_z w32 (to_z w32 (of_z w32 a.y) -ℤ to_z w32 (of_z w32 b.y))) } in d) ≡ minus a b
distance_is a b is_a is_b = two _ _ (a.x -ℤ b.x) (a.y -ℤ b.y) (difference_is a.x b.x is_a.low_x is_a.high_x is_b.low_x is_b.high_x) (difference_is a.y b.y is_a.low_y is_a.high_y is_b.low_y is_b.high_y)
