-- Rows after a plan's step, one slot after another.
use Rattle.std.proofs.Common.{◌≡◌, ℕ, ◌<◌, ◌≤◌, ⊎_elim, Bool, List, [], ◌∷◌, ◌++◌, length, sym, refl, ◌∙◌, subst, arith}
use Rattle.std.specs.Prelude.{All, slice_index_or}
use Rattle.std.specs.List.{Contains}
use Rattle.std.proofs.lemmas.Int.{ints}
use Rattle.std.proofs.lemmas.Bool.{and_parts, cases_eq}
use Rattle.std.proofs.lemmas.List.{get_or-set_same, get_or-set_other, length-set}
use Rattle.std.proofs.lemmas.List.Elements.{Contains-append_left, Contains-push, Contains-push_cases}
use Rattle.qws_base.specs.Sides.{Sides, IsScreen}
use Rattle.qws_base.specs.Points.{is_on_screen}
use Rattle.qws_base.specs.Regions.{IsRegionOf, IsOnScreen, rect_count}
use Rattle.qws_base.specs.RectPixels.{IsWithin}
use Rattle.qws_base.specs.Windows.{allocated_points, owner_at, is_slot}
use Rattle.qws_base.specs.Refusals.{rects_needed}
use Rattle.qws_base.specs.declared.points.Point.{Point}
use Rattle.qws_base.specs.declared.points.Rect.{Rect}
use Rattle.qws_base.specs.declared.windows.WindowView.{WindowView}
use Rattle.region_table.specs.Packing.{IsPackable}
use Rattle.region_table.specs.Tables.{no_row, row_of}
use Rattle.region_table.specs.declared.tables.Table.{Table}
use Rattle.window_core.specs.CoreViews.{PlanView}
use Rattle.step_regions.proofs.Lost.{all_within}
use Rattle.table_turns.specs.Writes.{WrittenLaw, with_row}
use Rattle.desk_turns.specs.Rows.{IsPlannedRow, WritesPlanned, SpellsRows, WritesRows}

-- ---- what has a place in the words

packable : (size : Sides) (r : Rect) → IsScreen size → IsWithin size r → IsPackable r
packable size r screen on =
    let w = screen.most_w in let h = screen.most_h in
    let left = on.from_left in let top = on.from_top in let to_right = on.to_right in let to_bottom = on.to_bottom in
    record { low_x = left; high_x = omega (arith, ints); low_y = top; high_y = omega (arith, ints); few_w = omega (arith, ints); few_h = omega (arith, ints) }

pub all_packable : (size : Sides) (windows : List WindowView) (slot : ℕ) (rects : List Rect) → IsScreen size → IsRegionOf rects (allocated_points size windows slot) → All IsPackable rects
all_packable size windows slot rects screen region = λ k d lt. packable size (slice_index_or rects k d) screen
    (all_within size rects region.canonical.some_pixels (λ p h. (and_parts (is_on_screen size p) (is_slot slot (owner_at windows p)) (sym (region.points p) ∙ h)).0) k d lt)

pub few_rects : ((size : Sides) (rects : List Rect) (set : Point → Bool) → IsOnScreen size set → IsRegionOf rects set → length rects ≡ rect_count size set) → (size : Sides) (windows : List WindowView) (slot : ℕ) (rects : List Rect)
    → rects_needed size windows slot ≤ 256 → IsRegionOf rects (allocated_points size windows slot) → length rects ≤ 256
few_rects law size windows slot rects few region = subst (λ n. n ≤ 256)
    (sym (law size rects (allocated_points size windows slot) (λ p e. (and_parts (is_on_screen size p) (is_slot slot (owner_at windows p)) e).0) region)) few

-- ---- one slot after another

pub no_rows : (plan : PlanView) (words : List ℕ) → WritesRows plan [] words words
no_rows plan words = record {
  long = refl;
  spells = λ table whole spell. record {
    now = table;
    spelled = spell;
    stamp = refl;
    cursor = refl;
    whole = refl;
    planned = λ slot has. let lt = has.1 in absurd (omega arith);
    kept = λ slot hasnt. refl;
  };
}

pub row_more : WrittenLaw → (plan : PlanView) (slots : List ℕ) (slot : ℕ) (a b d : List ℕ) → slot < 32 → WritesRows plan slots a b → WritesPlanned plan slot b d → WritesRows plan (slots ++ slot ∷ []) a d
row_more law plan slots slot a b d low rows one = record {
  long = one.sets.long ∙ rows.long;
  spells = λ table whole spell. let s = rows.spells table whole spell in more table s (s.whole ∙ whole);
}
  where
    module_row : (table : Table) (s : SpellsRows plan slots table b) → length s.now.rows ≡ 33 → row_of (with_row s.now slot one.row) slot ≡ one.row
    module_row table s long = get_or-set_same s.now.rows slot one.row no_row (omega arith)

    more : (table : Table) (s : SpellsRows plan slots table b) → length s.now.rows ≡ 33 → SpellsRows plan (slots ++ slot ∷ []) table d
    more table s long = record {
      now = with_row s.now slot one.row;
      spelled = law.row s.now slot one.row b d (omega arith) one.few s.spelled one.sets;
      stamp = s.stamp;
      cursor = s.cursor;
      whole = length-set s.now.rows slot one.row ∙ s.whole;
      planned = λ k has. ⊎_elim
          (λ (same : k ≡ slot). subst (λ j. IsPlannedRow plan j (row_of (with_row s.now slot one.row) j)) (sym same) (subst (IsPlannedRow plan slot) (sym (module_row table s long)) one.planned))
          (λ (other : k ≡ slot → ⊥). subst (IsPlannedRow plan k) (sym (get_or-set_other s.now.rows slot k one.row no_row other))
          (s.planned k (⊎_elim (λ (h : Contains slots k). h) (λ (h : slot ≡ k). absurd (other (sym h))) (Contains-push_cases slots slot k has))))
          (cases_eq k slot);
      kept = λ k hasnt. get_or-set_other s.now.rows slot k one.row no_row (λ same. hasnt (subst (Contains (slots ++ slot ∷ [])) (sym same) (Contains-push slots slot)))
          ∙ s.kept k (λ h. hasnt (Contains-append_left slots (slot ∷ []) k h));
    }
