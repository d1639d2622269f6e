use Rattle.std.proofs.Common.{◌≡◌, ℕ, ◌<◌, ◌≤◌, ◌∙◌, Bool, true, false, not, ◌&&◌, [], ◌∷◌, w32, to_z, of_z, ap, sym, refl, subst, arith}
use Rattle.std.specs.Prelude.{ℤ, pos, ◌<ℤ◌, ◌≤ℤ◌, nat_abs}
use Rattle.std.specs.Int.Signed.{lt_z}
use Rattle.std.specs.Arc.{arc_value}
use Rattle.std.specs.Option.{option_map_or}
use Rattle.std.proofs.lemmas.Int.{ints, to_z-of_z}
use Rattle.qws_base.specs.Sides.{Sides}
use Rattle.qws_base.specs.Points.{spans}
use Rattle.qws_base.specs.Refusals.{when, first_of}
use Rattle.qws_base.specs.declared.windows.Cursor.{Cursor}
use Rattle.qws_base.specs.declared.commands.Command.TheVariants.{CursorMove}
use Rattle.qws_base.specs.declared.replies.Reply.TheVariants.{Refused, Done}
use Rattle.qws_base.specs.declared.replies.Refusal.TheVariants.{OffScreen}
use Rattle.qws_base.proofs.Integers.{spans_not_before, spans_not_after, spans_from}
use Rattle.window_arrangements.specs.Arrangements.{ArrangementView}
use Rattle.window_core.specs.Planning.{size_of}
use Rattle.window_core.proofs.MailPlanLemmas.{if_pointed, if_refused, cursor_with, same_cursor}
use Rattle.window_core.proofs.held.Held.plan_place.Goals as goal
use Rattle.window_core.proofs.held.Held.plan_place.Goals.{then-x-lt0-via-then-x-lt0, then-x-lt0-via-else-x-lt0+then-y-lt0, then-x-lt0-via-else-x-lt0+else-y-lt0+then-x-w, then-x-lt0-via-else-x-lt0+else-y-lt0+else-x-w+then-y-h}

-- z stands before the span, behind it, or in it
before : (z : ℤ) (n : ℕ) → lt_z z (pos 0) ≡ true → spans (pos 0) n z ≡ false
before z n h = let low : z <ℤ pos 0 = grind (arith, ints) in spans_not_before (pos 0) z n low

behind : (z : ℤ) (n m : ℕ) → lt_z z (pos 0) ≡ false → m ≤ nat_abs z → m ≡ n → spans (pos 0) n z ≡ false
behind z n m h far same =
    let low : pos 0 ≤ℤ z = grind (arith, ints) in
    spans_not_after (pos 0) z n (omega (arith, ints, low, far, same))

between : (z : ℤ) (n m : ℕ) → lt_z z (pos 0) ≡ false → nat_abs z < m → m ≡ n → spans (pos 0) n z ≡ true
between z n m h near same =
    let low : pos 0 ≤ℤ z = grind (arith, ints) in
    spans_from (pos 0) z n low (omega (arith, ints, low, near, same))

off_either : (a : Bool) → (a && false) ≡ false
off_either true = refl
off_either false = refl

off_first : (a b : Bool) → a ≡ false → (a && b) ≡ false
off_first a b e = ap (λ c. c && b) e

off_second : (a b : Bool) → b ≡ false → (a && b) ≡ false
off_second a b e = ap (λ c. a && c) e ∙ off_either a

on_both : (a b : Bool) → a ≡ true → b ≡ true → (a && b) ≡ true
on_both a b e f = ap (λ c. c && b) e ∙ f

pub returns-then-x-lt0 : goal.returns-then-x-lt0
returns-then-x-lt0 c =
    let held = c.args.self.now in
    let x = c.args.x in
    let y = c.args.y in
    let same_x : to_z w32 (of_z w32 x) ≡ x = to_z-of_z w32 x c.ranges.x in
    let same_y : to_z w32 (of_z w32 y) ≡ y = to_z-of_z w32 y c.ranges.y in
    let wide : c.size-size.result.w ≡ (size_of held).w = ap (λ (s : Sides). s.w) c.size-size.ensures ∙ ap (λ (v : ArrangementView). v.size.w) c.deref.ensures in
    let high : c.size-size.result.h ≡ (size_of held).h = ap (λ (s : Sides). s.h) c.size-size.ensures ∙ ap (λ (v : ArrangementView). v.size.h) c.deref.ensures in
    let column = spans (pos 0) (size_of held).w x in
    let row = spans (pos 0) (size_of held).h y in
    let off : (column && row) ≡ false = elim c.then-x-lt0.branch [
      | then-x-lt0-via-then-x-lt0 w ↦ off_first column row (before x (size_of held).w (subst (λ z. lt_z z (pos 0) ≡ true) same_x w.if-x-lt0.true))
      | then-x-lt0-via-else-x-lt0+then-y-lt0 w ↦ off_second column row (before y (size_of held).h (subst (λ z. lt_z z (pos 0) ≡ true) same_y w.if-y-lt0.true))
      | then-x-lt0-via-else-x-lt0+else-y-lt0+then-x-w w ↦
          off_first column row (behind x (size_of held).w w.w.result (subst (λ z. lt_z z (pos 0) ≡ false) same_x w.if-x-lt0.false) (subst (λ z. w.w.result ≤ nat_abs z) same_x w.if-x-w.true) (w.w.ensures.value ∙ wide))
      | then-x-lt0-via-else-x-lt0+else-y-lt0+else-x-w+then-y-h w ↦
          off_second column row (behind y (size_of held).h w.h.result (subst (λ z. lt_z z (pos 0) ≡ false) same_y w.if-y-lt0.false) (subst (λ z. w.h.result ≤ nat_abs z) same_y w.if-y-h.true) (w.h.ensures.value ∙ high))
    ] in
    if_refused held c.args.client (CursorMove x y) (OffScreen (to_z w32 (of_z w32 x)) (to_z w32 (of_z w32 y))) c.refused.result
    (ap (λ b. option_map_or (λ r. Refused r) (first_of (when (not b) (OffScreen x y) ∷ [])) Done) off
    ∙ ap (λ a. Refused (OffScreen a y)) (sym same_x) ∙ ap (λ b. Refused (OffScreen (to_z w32 (of_z w32 x)) b)) (sym same_y)) c.refused.ensures

pub returns : goal.returns
returns c =
    let held = c.args.self.now in
    let x = c.args.x in
    let y = c.args.y in
    let same_x : to_z w32 (of_z w32 x) ≡ x = to_z-of_z w32 x c.ranges.x in
    let same_y : to_z w32 (of_z w32 y) ≡ y = to_z-of_z w32 y c.ranges.y in
    let wide : c.size-size.result.w ≡ (size_of held).w = ap (λ (s : Sides). s.w) c.size-size.ensures ∙ ap (λ (v : ArrangementView). v.size.w) c.deref.ensures in
    let high : c.size-size.result.h ≡ (size_of held).h = ap (λ (s : Sides). s.h) c.size-size.ensures ∙ ap (λ (v : ArrangementView). v.size.h) c.deref.ensures in
    let on : (spans (pos 0) (size_of held).w x && spans (pos 0) (size_of held).h y) ≡ true =
    on_both (spans (pos 0) (size_of held).w x) (spans (pos 0) (size_of held).h y)
    (between x (size_of held).w c.w.result (subst (λ z. lt_z z (pos 0) ≡ false) same_x c.if-x-lt0.false) (subst (λ z. nat_abs z < c.w.result) same_x c.if-x-w.false) (c.w.ensures.value ∙ wide))
    (between y (size_of held).h c.h.result (subst (λ z. lt_z z (pos 0) ≡ false) same_y c.if-y-lt0.false) (subst (λ z. nat_abs z < c.h.result) same_y c.if-y-h.false) (c.h.ensures.value ∙ high)) in
    let w = c.deref-2.result.now.w in
    let h = c.deref-3.result.now.h in
    let cells = c.in_ok-copy.field-0 in
    let copy : cells ≡ c.deref-4.result.now.cells = c.in_ok-copy.ensures in
    let shown = c.deref-5.result.now.shown in
    let at_x = nat_abs (to_z w32 (of_z w32 x)) in
    let at_y = nat_abs (to_z w32 (of_z w32 y)) in
    if_pointed held c.args.client (CursorMove x y) (cursor_with at_x at_y w h cells shown) c.pointed.result
    (record {
      other = refl;
      windows = refl;
      slots = c.requires.slots;
      answered = ap (λ b. option_map_or (λ r. Refused r) (first_of (when (not b) (OffScreen x y) ∷ [])) Done) on;
      accepted = refl;
      can = tt;
      mail = refl;
    })
    (same_cursor (record (arc_value held.cursor) { x = nat_abs x; y = nat_abs y }) at_x at_y w h cells shown
    (ap nat_abs same_x) (ap nat_abs same_y) (ap (λ (k : Cursor). k.w) c.deref-2.ensures) (ap (λ (k : Cursor). k.h) c.deref-3.ensures)
    (copy ∙ ap (λ (k : Cursor). k.cells) c.deref-4.ensures) (ap (λ (k : Cursor). k.shown) c.deref-5.ensures))
    c.pointed.ensures.reply c.pointed.ensures.change c.pointed.ensures.windows c.pointed.ensures.revisions c.pointed.ensures.risen c.pointed.ensures.cursor
