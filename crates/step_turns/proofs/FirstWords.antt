-- Words that publish a state.
use Rattle.std.proofs.Common.{ℕ, ◌+◌, ◌^◌, ◌<◌, ◌≤◌, inr, length, sym, refl, subst, arith}
use Rattle.std.proofs.lemmas.List.Elements.{All-nil}
use Rattle.std.proofs.lemmas.List.FromFn.{get_or-map-range_with_len}
use Rattle.qws_base.specs.Sides.{Sides, IsScreen}
use Rattle.qws_base.specs.Points.{IsPlaced}
use Rattle.qws_base.specs.States.{State, opening_state, opening_revisions, revision_of}
use Rattle.qws_base.specs.declared.windows.WindowView.{WindowView}
use Rattle.region_table.specs.Opening.{opening_table as first_table}
use Rattle.region_table.specs.Published.{IsTableOf}
use Rattle.region_table.specs.declared.tables.Row.{Row}
use Rattle.region_table.specs.declared.tables.Table.{Table}
use Rattle.region_table.proofs.Openings.{opening_row, opening_law}
use Rattle.turn_logs.specs.Publishing.{IsPublishable, PublishLaw}
use Rattle.step_turns.specs.Publishes.{PublishesLaw}

opening_revision : (slot : ℕ) → slot < 32 → 1 ≤ revision_of opening_state slot
unfolding opening_revisions
opening_revision slot low = subst (λ n. 1 ≤ n) (sym (get_or-map-range_with_len (λ (s : ℕ). 1) 0 32 slot slot 1 low (omega arith))) (omega arith)

opening_fits : (size : Sides) (admitted : ℕ) → IsScreen size → IsPublishable size admitted opening_state first_table
opening_fits size admitted screen = record {
  owners = All-nil (λ (w : WindowView). w.owner < admitted);
  placed = All-nil (λ (w : WindowView). IsPlaced w.origin);
  revisions = opening_revision;
  few = λ slot low. subst (λ (r : Row). length r.rects ≤ 256) (sym (opening_row slot)) (omega arith);
  in_columns = screen.some_w;
  in_rows = screen.some_h;
  shape = record { sides = inr (refl, refl); cells = refl };
  cells = All-nil (λ (cell : ℕ). cell < 2 ^ 32);
}

one_more : (size : Sides) (admitted : ℕ) (state : State) (table : Table) → IsPublishable size admitted state table → IsPublishable size (admitted + 1) state table
one_more size admitted state table fits = record {
  owners = λ k d below. let low = fits.owners k d below in omega arith;
  placed = fits.placed;
  revisions = fits.revisions;
  few = fits.few;
  in_columns = fits.in_columns;
  in_rows = fits.in_rows;
  shape = fits.shape;
  cells = fits.cells;
}

pub publishes_law : PublishLaw → PublishesLaw
publishes_law law = record {
  opens = λ size admitted screen. record { table = first_table; spelled = law.opens.0; of_state = opening_law.published size; fits = opening_fits size admitted screen };
  admits = λ size admitted stamp state words is. record { table = is.table; spelled = is.spelled; of_state = is.of_state; fits = one_more size admitted state is.table is.fits };
  well_formed = λ size admitted stamp state words screen is. (law.published size admitted stamp state is.table words screen is.of_state is.fits is.spelled).0;
  of_state = λ size admitted stamp state words screen is.
      subst (IsTableOf size state stamp) (sym (law.published size admitted stamp state is.table words screen is.of_state is.fits is.spelled).2) is.of_state;
}
