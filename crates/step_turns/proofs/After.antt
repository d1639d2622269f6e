-- The words after a step's turn publish the state after the step.
use Rattle.std.proofs.Common.{◌≡◌, ℕ, ◌^◌, ◌<◌, ◌≤◌, inl, inr, ⊎_elim, true, false, List, sym, refl, ap, ◌∙◌, subst, arith, []}
use Rattle.std.specs.Prelude.{All, slice_index, slice_index_or}
use Rattle.std.specs.List.{filter, Contains}
use Rattle.std.proofs.lemmas.Bool.{cases_lt, cases_Bool, false≢true}
use Rattle.std.proofs.lemmas.List.{get_or_default, ext_get_or}
use Rattle.std.proofs.lemmas.List.Elements.{All-contains}
use Rattle.qws_base.specs.Sides.{Sides}
use Rattle.qws_base.specs.Points.{IsPlaced}
use Rattle.qws_base.specs.States.{State, revision_of}
use Rattle.qws_base.specs.Stacking.{slots}
use Rattle.qws_base.specs.Steps.{is_changed}
use Rattle.qws_base.specs.StepLaws.{IsAsBefore}
use Rattle.qws_base.specs.Arranged.{IsWindow, IsArranged}
use Rattle.qws_base.proofs.ArrangedLemmas.{arranged_law}
use Rattle.qws_base.specs.Windows.{client_of_slot, origin_of, allocated_points}
use Rattle.qws_base.specs.declared.windows.WindowView.{WindowView}
use Rattle.qws_base.specs.declared.windows.Cursor.{Cursor}
use Rattle.region_table.specs.Tables.{no_row, row_of}
use Rattle.region_table.specs.Spelling.{Spell}
use Rattle.region_table.specs.Published.{IsRowOf, IsTableOf}
use Rattle.region_table.specs.declared.tables.Row.{Row}
use Rattle.region_table.specs.declared.tables.Table.{Table}
use Rattle.turn_logs.specs.Publishing.{IsPublishable, RowsFollow}
use Rattle.band_regions.proofs.Corners.{count_is}
use Rattle.window_core.specs.CoreViews.{CoreView, PlanView, Belongs, IsServed, IsCursorOn}
use Rattle.window_arrangements.proofs.RequestLemmas.{near_origin}
use Rattle.step_regions.proofs.Lost.{below_all}
use Rattle.table_turns.proofs.Spelled.{written_law}
use Rattle.desk_turns.specs.Rows.{IsPlannedRow, SpellsRows}
use Rattle.desk_turns.proofs.Planned.{few_rects}
use Rattle.step_turns.specs.Publishes.{Publishes}
use Rattle.step_turns.specs.Changes.{state_planned}
use Rattle.step_turns.specs.Written.{WritesTable}
use Rattle.step_turns.proofs.Slots.{passing, passed, revision_more, as_before}
use Rattle.step_turns.proofs.Later.{cursor_later, slots_later, revisions_later}
use Rattle.window_core.proofs.ServedLemmas.{owned_after}

pub placed : (windows : List WindowView) → All IsWindow windows → All (λ w. IsPlaced w.origin) windows
placed windows each = λ k d below. let near = near_origin (slice_index_or windows k d).origin (each k d below).placed in
    record { low_x = near.x.low; high_x = near.x.high; low_y = near.y.low; high_y = near.y.high }

-- the risen slots of a plan are below 32
pub few_risen : (core : CoreView) (plan : PlanView) → Belongs core.size plan core.state → All (λ slot. slot < 32) plan.risen
few_risen core plan belongs = subst (All (λ slot. slot < 32)) (sym belongs.risen) (below_all (is_changed core.size core.state.windows plan.windows))

module _ (core : CoreView) (plan : PlanView) (admitted stamp number : ℕ) (before after : List ℕ)
    (served : IsServed core.size core.state) (belongs : Belongs core.size plan core.state) (client : plan.client < admitted)
    (publishes : Publishes core.size admitted stamp core.state before) (writes : WritesTable core plan number before after) (cells : All (λ cell. cell < 2 ^ 32) plan.cursor.cells) where
  abbrev size : Sides
  size = core.size

  abbrev old : State
  old = core.state

  abbrev new : State
  new = state_planned core plan

  arranged : IsArranged size new.windows
  arranged = arranged_law.stays size old plan.client plan.command served.windows

  on_screen : IsCursorOn size new.cursor
  on_screen = cursor_later size old plan.client plan.command served

  abbrev rows : SpellsRows plan plan.risen publishes.table writes.with_rows
  rows = writes.rows.spells publishes.table publishes.of_state.whole publishes.spelled

  -- the table after it
  abbrev pub next : Table
  next = record { stamp = number; cursor = plan.cursor; rows = rows.now.rows }

  pub spelled : Spell (slice_index after) next
  spelled = written_law.stamp (record rows.now { cursor = plan.cursor }) number writes.with_cursor after
      (writes.cursor.spells rows.now (rows.cursor ∙ publishes.of_state.cursor_is) rows.spelled) writes.stamp

  -- ---- rows

  risen_is : plan.risen ≡ filter (is_changed size old.windows new.windows) slots
  risen_is = belongs.risen ∙ ap (λ (ws : List WindowView). filter (is_changed size old.windows ws) slots) belongs.windows

  has_risen : (slot : ℕ) → slot < 32 → is_changed size old.windows new.windows slot ≡ true → Contains plan.risen slot
  has_risen slot low changed = subst (λ l. Contains l slot) (sym risen_is) (passing (is_changed size old.windows new.windows) slot low changed)

  hasnt_risen : (slot : ℕ) → is_changed size old.windows new.windows slot ≡ false → Contains plan.risen slot → ⊥
  hasnt_risen slot same has = false≢true (sym same ∙ passed (is_changed size old.windows new.windows) slot (subst (λ l. Contains l slot) risen_is has))

  last_risen : Contains plan.risen 32 → ⊥
  last_risen has = let low : 32 < 32 = All-contains (λ k. k < 32) plan.risen 32 (few_risen core plan belongs) has in absurd (omega arith)

  planned_row : (slot : ℕ) (row : Row) → slot < 32 → IsPlannedRow plan slot row → IsRowOf size new slot row
  planned_row slot row low is = record {
    owner = is.owner ∙ ap (λ (ws : List WindowView). client_of_slot ws slot) belongs.windows;
    revision = is.revision ∙ ap (λ (ns : List ℕ). slice_index ns slot) belongs.revisions ∙ get_or_default new.revisions slot 0 1 (subst (λ n. slot < n) (sym (slots_later size old plan.client plan.command served)) low);
    origin = is.origin ∙ ap (λ (ws : List WindowView). origin_of ws slot) belongs.windows;
    region = record {
      canonical = is.region.canonical;
      points = λ p. is.region.points p ∙ ap (λ (z : Sides). allocated_points z plan.windows slot p) belongs.screen ∙ ap (λ (ws : List WindowView). allocated_points size ws slot p) belongs.windows;
    };
  }

  same_row : (slot : ℕ) (row : Row) → IsAsBefore size old.windows new.windows slot × (revision_of new slot ≡ revision_of old slot) → IsRowOf size old slot row → IsRowOf size new slot row
  same_row slot row stays is = record {
    owner = is.owner ∙ stays.0.owner;
    revision = is.revision ∙ sym stays.1;
    origin = is.origin ∙ stays.0.origin;
    region = record { canonical = is.region.canonical; points = λ p. is.region.points p ∙ stays.0.pixels p };
  }

  kept_row : (slot : ℕ) → is_changed size old.windows new.windows slot ≡ false → row_of next slot ≡ row_of publishes.table slot
  kept_row slot same = rows.kept slot (hasnt_risen slot same)

  row_after : (slot : ℕ) → slot < 32 → IsRowOf size new slot (row_of next slot)
  row_after slot low = ⊎_elim
      (λ (changed : is_changed size old.windows new.windows slot ≡ true). planned_row slot (row_of next slot) low (rows.planned slot (has_risen slot low changed)))
      (λ (same : is_changed size old.windows new.windows slot ≡ false). subst (IsRowOf size new slot) (sym (kept_row slot same))
      (same_row slot (row_of publishes.table slot) (as_before size old plan.client plan.command slot low same) (publishes.of_state.rows slot low)))
      (cases_Bool (is_changed size old.windows new.windows slot))

  pub of_state : IsTableOf size new number next
  of_state = record {
    stamp_is = refl;
    cursor_is = belongs.cursor;
    whole = rows.whole ∙ publishes.of_state.whole;
    rows = row_after;
    last = rows.kept 32 last_risen ∙ publishes.of_state.last;
  }

  pub fits : IsPublishable size admitted new next
  fits = record {
    owners = owned_after admitted size old plan.client plan.command client publishes.fits.owners;
    placed = placed new.windows arranged.each;
    revisions = revisions_later size old plan.client plan.command served;
    few = λ slot low. few_rects count_is size new.windows slot (row_of next slot).rects (arranged.simple slot low) (row_after slot low).region;
    in_columns = on_screen.in_columns;
    in_rows = on_screen.in_rows;
    shape = on_screen.shape;
    cells = subst (λ (c : Cursor). All (λ cell. cell < 2 ^ 32) c.cells) belongs.cursor cells;
  }

  -- without a slot whose revision rises, the rows stay
  pub rows_stay : plan.risen ≡ [] → publishes.table.rows ≡ next.rows
  rows_stay none = ext_get_or no_row publishes.table.rows next.rows (sym rows.whole) (λ slot low. sym (rows.kept slot (λ has. nothing (subst (λ (l : List ℕ). Contains l slot) none has))))
    where
      nothing : {slot : ℕ} → Contains [] slot → ⊥
      nothing has = let lt = has.1 in absurd (omega arith)

  pub follows : RowsFollow publishes.table next
  follows slot below = ⊎_elim
      (λ (low : slot < 32). ⊎_elim
      (λ (changed : is_changed size old.windows new.windows slot ≡ true).
      let was = (publishes.of_state.rows slot low).revision in let is = (row_after slot low).revision in
      let more = revision_more size old plan.client plan.command slot low changed in inr (omega arith))
      (λ (same : is_changed size old.windows new.windows slot ≡ false). inl (sym (kept_row slot same)))
      (cases_Bool (is_changed size old.windows new.windows slot)))
      (λ (high : 32 ≤ slot). let last : slot ≡ 32 = omega arith in
      inl (subst (λ k. row_of publishes.table k ≡ row_of next k) (sym last) (publishes.of_state.last ∙ sym of_state.last)))
      (cases_lt slot 32)

  pub published : Publishes size admitted number new after
  published = record { table = next; spelled = spelled; of_state = of_state; fits = fits }
