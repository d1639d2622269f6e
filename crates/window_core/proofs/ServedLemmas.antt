-- What holds of each state of a server stays through a step of one of its clients.
use Rattle.std.proofs.Common.{◌≡◌, ℕ, ◌*◌, ◌<◌, ◌≤◌, ℤ, pos, Bool, true, false, not, ◌&&◌, nat_le, if◌then◌else◌, Option, None, Some, List, [], ◌∷◌, map, length, get_or, refl, sym, ap, ◌∙◌, subst, inl, inr, arith}
use Rattle.std.specs.Prelude.{nat_abs, ◌==◌, All}
use Rattle.std.specs.List.{filter, find}
use Rattle.std.specs.Option.{option_map_or}
use Rattle.std.proofs.lemmas.Int.{ints}
use Rattle.std.proofs.lemmas.Bool.{false≢true}
use Rattle.std.proofs.lemmas.List.Elements.{All-nil, All-cons, All-append, All-filter}
use Rattle.std.proofs.lemmas.List.FromFn.{length-map-range_with_len, get_or-map-range_with_len}
use Rattle.qws_base.specs.Sides.{Sides, IsScreen}
use Rattle.qws_base.specs.Points.{spans, is_on_screen}
use Rattle.qws_base.specs.Windows.{has_slot}
use Rattle.qws_base.specs.States.{State, revision_of, is_refused, opening_state, opening_cursor, opening_revisions}
use Rattle.qws_base.specs.Mail.{Mail, opening_mail}
use Rattle.qws_base.specs.Shown.{IsShape}
use Rattle.qws_base.specs.Stacking.{slots, free_slot, is_above, is_below, with_front, with_back, new_window, windows_without, with_region, with_origin}
use Rattle.qws_base.specs.Refusals.{when, bad_shape, off_pixels}
use Rattle.qws_base.specs.Steps.{answer, effect, step, completed, unless, risen}
use Rattle.qws_base.specs.declared.windows.WindowView.{WindowView}
use Rattle.qws_base.specs.declared.windows.Cursor.{Cursor}
use Rattle.qws_base.specs.declared.commands.Command.{Command}
use Rattle.qws_base.specs.declared.commands.Command.TheVariants.{Create, Destroy, Region, Move, Raise, Lower, CursorShape, CursorMove, CursorShow, Join, Leave, Send, Take, IsRegistered}
use Rattle.qws_base.specs.declared.replies.Reply.TheVariants.{Done}
use Rattle.qws_base.specs.declared.replies.Refusal.{Refusal}
use Rattle.qws_base.specs.declared.replies.Refusal.TheVariants.{BadShape, OffScreen}
use Rattle.qws_base.proofs.ListLemmas.{each_map, found_member}
use Rattle.qws_base.proofs.StepLaws.{made, revision_law}
use Rattle.qws_base.proofs.ArrangedLemmas.{arranged_law}
use Rattle.std.specs.Arc.{arc_value}
use Rattle.qws_base.specs.Arranged.{IsArranged}
use Rattle.window_core.specs.declared.held.Held.{Held}
use Rattle.window_core.specs.declared.held.Planned.{Planned}
use Rattle.window_arrangements.specs.Arrangements.{ArrangementView}
use Rattle.window_core.specs.Planning.{size_of, state_of, plan_of}
use Rattle.window_core.specs.CoreViews.{CoreView, PlanView, Belongs, IsCursorOn, IsServed}

-- ---- owners

module _ (few : ℕ) where
  -- the owner is one of the first clients
  abbrev pub IsOwned : WindowView → Type 0
  IsOwned w = w.owner < few

  front_owned : (new : WindowView) (ws : List WindowView) → IsOwned new → All IsOwned ws → All IsOwned (with_front new ws)
  front_owned new ws own h =
      All-append IsOwned (filter (is_above new.layer) ws) (new ∷ filter (λ w. not (is_above new.layer w)) ws)
      (All-filter (is_above new.layer) IsOwned ws h)
      (All-cons IsOwned new (filter (λ w. not (is_above new.layer w)) ws) own (All-filter (λ w. not (is_above new.layer w)) IsOwned ws h))

  back_owned : (new : WindowView) (ws : List WindowView) → IsOwned new → All IsOwned ws → All IsOwned (with_back new ws)
  back_owned new ws own h =
      All-append IsOwned (filter (λ w. not (is_below new.layer w)) ws) (new ∷ filter (is_below new.layer) ws)
      (All-filter (λ w. not (is_below new.layer w)) IsOwned ws h)
      (All-cons IsOwned new (filter (is_below new.layer) ws) own (All-filter (is_below new.layer) IsOwned ws h))

  without_owned : (slot : ℕ) (ws : List WindowView) → All IsOwned ws → All IsOwned (windows_without slot ws)
  without_owned slot ws h = All-filter (λ w. not (has_slot slot w)) IsOwned ws h

  created_owned : (client layer : ℕ) (slot : Option ℕ) (ws : List WindowView) → client < few → All IsOwned ws → All IsOwned (option_map_or (λ s. with_front (new_window s client layer) ws) slot ws)
  created_owned client layer None ws low h = h
  created_owned client layer (Some slot) ws low h = front_owned (new_window slot client layer) ws low h

  raised_owned : (slot : ℕ) (v : Option WindowView) (ws : List WindowView) → find (has_slot slot) ws ≡ v → All IsOwned ws → All IsOwned (option_map_or (λ w. with_front w (windows_without slot ws)) v ws)
  raised_owned slot None ws e h = h
  raised_owned slot (Some v) ws e h = front_owned v (windows_without slot ws) (found_member IsOwned (has_slot slot) ws v h e).0 (without_owned slot ws h)

  lowered_owned : (slot : ℕ) (v : Option WindowView) (ws : List WindowView) → find (has_slot slot) ws ≡ v → All IsOwned ws → All IsOwned (option_map_or (λ w. with_back w (windows_without slot ws)) v ws)
  lowered_owned slot None ws e h = h
  lowered_owned slot (Some v) ws e h = back_owned v (windows_without slot ws) (found_member IsOwned (has_slot slot) ws v h e).0 (without_owned slot ws h)

  either_owned : (b : Bool) (v w : WindowView) → v.owner ≡ w.owner → IsOwned w → IsOwned (if b then v else w)
  either_owned true v w same own = subst (λ n. n < few) (sym same) own
  either_owned false v w same own = own

  effect_owned : (state : State) (client : ℕ) (command : Command) → client < few → All IsOwned state.windows → All IsOwned (effect state client command).windows
  effect_owned state client (Create layer) low h = created_owned client layer (free_slot state.windows) state.windows low h
  effect_owned state client (Destroy slot) low h = without_owned slot state.windows h
  effect_owned state client (Region slot origin rects) low h =
      each_map IsOwned IsOwned (with_region slot origin rects) (λ w own. either_owned (has_slot slot w) (record w { origin = origin; rects = rects }) w refl own) state.windows h
  effect_owned state client (Move slot origin) low h =
      each_map IsOwned IsOwned (with_origin slot origin) (λ w own. either_owned (has_slot slot w) (record w { origin = origin }) w refl own) state.windows h
  effect_owned state client (Raise slot) low h = raised_owned slot (find (has_slot slot) state.windows) state.windows refl h
  effect_owned state client (Lower slot) low h = lowered_owned slot (find (has_slot slot) state.windows) state.windows refl h
  effect_owned state client (CursorShape w h cells) low own = own
  effect_owned state client (CursorMove x y) low h = h
  effect_owned state client (CursorShow shown) low h = h
  effect_owned state client (Join channel) low h = h
  effect_owned state client (Leave channel) low h = h
  effect_owned state client (Send channel message payload) low h = h
  effect_owned state client Take low h = h
  effect_owned state client (IsRegistered channel) low h = h

-- ---- the cursor

-- an accepted command has not its one cause
no_cause : (cause : Option Refusal) → is_refused (unless (cause ∷ []) Done) ≡ false → cause ≡ None
no_cause None e = refl
no_cause (Some cause) e = absurd (false≢true (sym e))

-- a test that is no cause passes
passed : (b : Bool) (cause : Refusal) → when (not b) cause ≡ None → b ≡ true
passed true cause e = refl
passed false cause e = cc

are_sides : (w h cells : ℕ) → ((nat_le 1 w && nat_le w 32) && (nat_le 1 h && nat_le h 32)) && cells == w * h ≡ true → ((1 ≤ w) × (w ≤ 32) × (1 ≤ h) × (h ≤ 32)) × (cells ≡ w * h)
are_sides w h cells e = ((grind arith, grind arith, grind arith, grind arith), grind arith)

shape_fits : (cursor : Cursor) → bad_shape cursor.w cursor.h cursor.cells ≡ None → IsShape cursor
shape_fits cursor e =
    let it = are_sides cursor.w cursor.h (length cursor.cells)
    (passed (((nat_le 1 cursor.w && nat_le cursor.w 32) && (nat_le 1 cursor.h && nat_le cursor.h 32)) && length cursor.cells == cursor.w * cursor.h) (BadShape cursor.w cursor.h) e) in
    record { sides = inl it.0; cells = it.1 }

inside : (n : ℕ) (x : ℤ) → spans (pos 0) n x ≡ true → nat_abs x < n
inside n x e = grind (arith, ints)

both : (a b : Bool) → a && b ≡ true → (a ≡ true) × (b ≡ true)
both true true e = (refl, refl)
both true false e = (refl, e)
both false b e = cc

on_pixel : (size : Sides) (x y : ℤ) → off_pixels size (record { x = x; y = y }) ≡ None → (nat_abs x < size.w) × (nat_abs y < size.h)
on_pixel size x y e =
    let on = both (spans (pos 0) size.w x) (spans (pos 0) size.h y) (passed (is_on_screen size (record { x = x; y = y })) (OffScreen x y) e) in
    (inside size.w x on.0, inside size.h y on.1)

effect_cursor : (size : Sides) (state : State) (client : ℕ) (command : Command) → is_refused (answer size state client command) ≡ false → IsCursorOn size state.cursor → IsCursorOn size (effect state client command).cursor
effect_cursor size state client (Create layer) e c = c
effect_cursor size state client (Destroy slot) e c = c
effect_cursor size state client (Region slot origin rects) e c = c
effect_cursor size state client (Move slot origin) e c = c
effect_cursor size state client (Raise slot) e c = c
effect_cursor size state client (Lower slot) e c = c
effect_cursor size state client (CursorShape w h cells) e c = record {
  in_columns = c.in_columns;
  in_rows = c.in_rows;
  shape = shape_fits (record state.cursor { w = w; h = h; cells = cells }) (no_cause (bad_shape w h cells) e);
}
effect_cursor size state client (CursorMove x y) e c =
    let on = on_pixel size x y (no_cause (off_pixels size (record { x = x; y = y })) e) in
    record { in_columns = on.0; in_rows = on.1; shape = record { sides = c.shape.sides; cells = c.shape.cells } }
effect_cursor size state client (CursorShow shown) e c = record { in_columns = c.in_columns; in_rows = c.in_rows; shape = record { sides = c.shape.sides; cells = c.shape.cells } }
effect_cursor size state client (Join channel) e c = c
effect_cursor size state client (Leave channel) e c = c
effect_cursor size state client (Send channel message payload) e c = c
effect_cursor size state client Take e c = c
effect_cursor size state client (IsRegistered channel) e c = c

-- ---- the step

slot_count : (f : ℕ → ℕ) → length (map f slots) ≡ 32
unfolding slots
slot_count f = length-map-range_with_len f 0 32

module _ (few : ℕ) where
  made_owned : (state accepted : State) (refused : Bool) → All (IsOwned few) accepted.windows → All (IsOwned few) state.windows → All (IsOwned few) (made state accepted refused).windows
  made_owned state accepted false h k = h
  made_owned state accepted true h k = k

  -- windows after a step of one of the first clients are theirs where they were
  pub owned_after : (size : Sides) (state : State) (client : ℕ) (command : Command) → client < few → All (IsOwned few) state.windows → All (IsOwned few) (step size state client command).0.windows
  owned_after size state client command low h =
      made_owned state (completed size state (effect state client command)) (is_refused (answer size state client command)) (effect_owned few state client command low h) h

made_cursor : (size : Sides) (state accepted : State) (refused : Bool) → (refused ≡ false → IsCursorOn size accepted.cursor) → IsCursorOn size state.cursor → IsCursorOn size (made state accepted refused).cursor
made_cursor size state accepted false h k = h refl
made_cursor size state accepted true h k = k

made_count : (state accepted : State) (refused : Bool) → length accepted.revisions ≡ 32 → length state.revisions ≡ 32 → length (made state accepted refused).revisions ≡ 32
made_count state accepted false h k = h
made_count state accepted true h k = k

pub served_stays : (size : Sides) (state : State) (client : ℕ) (command : Command) → client < 16 → IsServed size state → IsServed size (step size state client command).0
served_stays size state client command low s =
    let refused : Bool = is_refused (answer size state client command) in
    let accepted : State = completed size state (effect state client command) in
    record {
      windows = arranged_law.stays size state client command s.windows;
      owners = owned_after 16 size state client command low s.owners;
      cursor = made_cursor size state accepted refused (λ e. effect_cursor size state client command e s.cursor) s.cursor;
      slots = made_count state accepted refused (slot_count (risen size state (effect state client command).windows)) s.slots;
      revisions = λ slot below. let before = s.revisions slot below in let more = revision_law.rises size state client command slot below in omega arith;
    }

-- served is what has its windows, cursor and revisions
same_served : (size other : Sides) (state after : State) → other ≡ size → after.windows ≡ state.windows → after.cursor ≡ state.cursor → after.revisions ≡ state.revisions → IsServed size state → IsServed other after
same_served size other state after screen windows cursor revisions s = subst (λ n. IsServed n after) (sym screen) (record {
  windows = subst (IsArranged size) (sym windows) s.windows;
  owners = subst (All (IsOwned 16)) (sym windows) s.owners;
  cursor = subst (IsCursorOn size) (sym cursor) s.cursor;
  slots = subst (λ ns. length ns ≡ 32) (sym revisions) s.slots;
  revisions = λ slot below. subst (λ ns. 1 ≤ get_or ns slot 1) (sym revisions) (s.revisions slot below);
})

-- what a plan that belongs to a state leaves is served
pub planned_served : (core : CoreView) (plan : PlanView) (after : Held) (p : Planned) (command : Command) → plan_of plan.client command p ≡ plan → Belongs core.size plan core.state → plan.client < 16
    → IsServed core.size core.state → arc_value after.arrangement ≡ arc_value p.arrangement → arc_value after.cursor ≡ arc_value p.cursor → after.revisions ≡ p.revisions → IsServed (size_of after) (state_of after)
planned_served core plan after p command is belongs low served arrangement cursor revisions =
    same_served core.size (size_of after) (step core.size core.state plan.client plan.command).0 (state_of after)
    (ap (λ (a : ArrangementView). a.size) arrangement ∙ ap (λ (v : PlanView). v.size) is ∙ belongs.screen)
    (ap (λ (a : ArrangementView). a.windows) arrangement ∙ ap (λ (v : PlanView). v.windows) is ∙ belongs.windows)
    (cursor ∙ ap (λ (v : PlanView). v.cursor) is ∙ belongs.cursor)
    (revisions ∙ ap (λ (v : PlanView). v.revisions) is ∙ belongs.revisions)
    (served_stays core.size core.state plan.client plan.command low served)

-- ---- the opening state

opening_revision : (slot : ℕ) → slot < 32 → 1 ≤ revision_of opening_state slot
unfolding opening_revisions
opening_revision slot below = subst (λ n. 1 ≤ n) (sym (get_or-map-range_with_len {X = ℕ} (λ slot. 1) 0 32 slot slot 1 below (omega arith))) (omega arith)

opening_count : length opening_revisions ≡ 32
unfolding opening_revisions
opening_count = length-map-range_with_len {X = ℕ} (λ slot. 1) 0 32

served_opens : (size : Sides) → IsScreen size → IsServed size opening_state
served_opens size screen = record {
  windows = arranged_law.opens size;
  owners = All-nil (IsOwned 16);
  cursor = record { in_columns = screen.some_w; in_rows = screen.some_h; shape = record { sides = inr (refl, refl); cells = refl } };
  slots = opening_count;
  revisions = opening_revision;
}

ones : 1 ∷ 1 ∷ 1 ∷ 1 ∷ 1 ∷ 1 ∷ 1 ∷ 1 ∷ 1 ∷ 1 ∷ 1 ∷ 1 ∷ 1 ∷ 1 ∷ 1 ∷ 1 ∷ 1 ∷ 1 ∷ 1 ∷ 1 ∷ 1 ∷ 1 ∷ 1 ∷ 1 ∷ 1 ∷ 1 ∷ 1 ∷ 1 ∷ 1 ∷ 1 ∷ 1 ∷ 1 ∷ [] ≡ opening_revisions
unfolding opening_revisions
ones = refl

-- what is held at first
pub record IsOpening (size : Sides) (held : Held) : Type 0 where
  pub arrangement : arc_value held.arrangement ≡ record { size = size; windows = [] }
  pub cursor : arc_value held.cursor ≡ opening_cursor
  pub mail : held.channels ≡ opening_mail
  pub revisions : held.revisions ≡ 1 ∷ 1 ∷ 1 ∷ 1 ∷ 1 ∷ 1 ∷ 1 ∷ 1 ∷ 1 ∷ 1 ∷ 1 ∷ 1 ∷ 1 ∷ 1 ∷ 1 ∷ 1 ∷ 1 ∷ 1 ∷ 1 ∷ 1 ∷ 1 ∷ 1 ∷ 1 ∷ 1 ∷ 1 ∷ 1 ∷ 1 ∷ 1 ∷ 1 ∷ 1 ∷ 1 ∷ 1 ∷ []

pub opening_served : (size : Sides) (held : Held) → IsScreen size → IsOpening size held → IsServed (size_of held) (state_of held)
opening_served size held screen o =
    same_served size (size_of held) opening_state (state_of held)
    (ap (λ (a : ArrangementView). a.size) o.arrangement) (ap (λ (a : ArrangementView). a.windows) o.arrangement) o.cursor (o.revisions ∙ ones)
    (served_opens size screen)

abbrev core_of : Sides → ℕ → List WindowView → Cursor → Mail → List ℕ → CoreView
core_of size backdrop windows cursor mail revisions = record { size = size; backdrop = backdrop; state = record { windows = windows; cursor = cursor; mail = mail; revisions = revisions } }

pub opening_view : (size : Sides) (backdrop : ℕ) (held : Held) → IsOpening size held → core_of (size_of held) backdrop (arc_value held.arrangement).windows (arc_value held.cursor) held.channels held.revisions ≡ core_of size backdrop [] opening_cursor opening_mail opening_revisions
opening_view size backdrop held o =
    ap (λ (a : ArrangementView). core_of a.size backdrop a.windows (arc_value held.cursor) held.channels held.revisions) o.arrangement
    ∙ ap (λ cursor. core_of size backdrop [] cursor held.channels held.revisions) o.cursor
    ∙ ap (λ mail. core_of size backdrop [] opening_cursor mail held.revisions) o.mail
    ∙ ap (core_of size backdrop [] opening_cursor opening_mail) (o.revisions ∙ ones)
