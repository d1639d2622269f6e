-- A step that changes no row and no cursor is carried by an empty log.
use Rattle.std.proofs.Common.{◌≡◌, ℕ, zero, suc, ◌+◌, ◌*◌, ◌/◌, ◌%◌, ◌<◌, ◌⊎◌, inl, inr, Bool, true, false, not, ◌&&◌, if◌then◌else◌, List, [], Option, Some, None, sym, refl, ap, ◌∙◌, subst, arith, ◌-ℤ◌}
use Rattle.std.specs.Prelude.{is_none}
use Rattle.std.proofs.lemmas.Int.{ints}
use Rattle.std.proofs.lemmas.Bool.{and_parts}
use Rattle.std.proofs.lemmas.Nat.{div-add-mod'}
use Rattle.qws_base.specs.Sides.{Sides}
use Rattle.qws_base.specs.Points.{pixel_at, point_of, pixel_count, minus}
use Rattle.qws_base.specs.Scenes.{Setting, source_in, carried_from}
use Rattle.qws_base.specs.States.{is_refused, moved_slot}
use Rattle.qws_base.specs.Windows.{Layout, owns}
use Rattle.qws_base.specs.declared.points.Point.{Point}
use Rattle.qws_base.specs.declared.windows.Cursor.{Cursor}
use Rattle.qws_base.specs.declared.commands.Command.{Command}
use Rattle.qws_base.specs.declared.replies.Reply.{Reply}
use Rattle.region_table.specs.Layouts.{layout_of_table}
use Rattle.region_table.specs.declared.tables.Row.{Row}
use Rattle.region_table.specs.declared.tables.Table.{Table}
use Rattle.turn_logs.specs.Carries.{ShownCell, shown_cell, scene_word, Keeps, SceneCarried, CellCarried, source_of, is_bared, CarriesStep}
use Rattle.turn_logs.proofs.Options.{some_is, none_some}
use Rattle.step_regions.proofs.Distances.{pixel_on, two}

some_columns : (w h p : ℕ) → p < w * h → 0 < w
some_columns zero h p below = absurd (omega arith)
some_columns (suc w) h p below = omega arith

-- a pixel is found at its point
found : (size : Sides) (p : ℕ) → p < pixel_count size → pixel_at size (point_of size.w p) ≡ Some p
found size p lt = ap (λ b. if b then Some (p / size.w * size.w + p % size.w) else None) (pixel_on size p (some_columns size.w size.h p lt) lt)
    ∙ ap Some (let e = div-add-mod' p size.w in omega arith)

-- no distance from a point to itself
no_distance : (p o : Point) → minus p (minus o o) ≡ p
no_distance p o = two (p.x -ℤ (o.x -ℤ o.x)) (p.y -ℤ (o.y -ℤ o.y)) p.x p.y (omega (arith, ints)) (omega (arith, ints))

-- where the origins stay, a move brings each pixel to itself
from_itself : (size : Sides) (layout : Layout) (moved : Option ℕ) (p : ℕ) → p < pixel_count size → (carried_from size layout layout moved p ≡ None) ⊎ (carried_from size layout layout moved p ≡ Some p)
from_itself size layout None p lt = inl refl
from_itself size layout (Some slot) p lt = go (owns layout slot p && owns layout slot p) refl
  where
    here : carried_from size layout layout (Some slot) p ≡ (if owns layout slot p && owns layout slot p then Some p else None)
    here = ap (λ (q : Point). source_in size layout layout slot p (pixel_at size q)) (no_distance (point_of size.w p) (layout.origin slot)) ∙ ap (source_in size layout layout slot p) (found size p lt)

    go : (b : Bool) → (owns layout slot p && owns layout slot p) ≡ b → (carried_from size layout layout (Some slot) p ≡ None) ⊎ (carried_from size layout layout (Some slot) p ≡ Some p)
    go true is = inr (here ∙ ap (λ b. if b then Some p else None) is)
    go false is = inl (here ∙ ap (λ b. if b then Some p else None) is)

module _ (setting : Setting) (before after : Table) (command : Command) (reply : Reply) (rows : before.rows ≡ after.rows) (cursor : before.cursor ≡ after.cursor) where
  layout_same : layout_of_table setting.size after ≡ layout_of_table setting.size before
  layout_same = ap (λ (l : List Row). layout_of_table setting.size (record before { rows = l })) (sym rows)

  source_is : (p : ℕ) → p < pixel_count setting.size → (source_of setting.size before after command reply p ≡ None) ⊎ (source_of setting.size before after command reply p ≡ Some p)
  source_is p lt = subst (λ (l : Layout). ((if is_refused reply then None else carried_from setting.size (layout_of_table setting.size before) l (moved_slot command) p) ≡ None)
      ⊎ ((if is_refused reply then None else carried_from setting.size (layout_of_table setting.size before) l (moved_slot command) p) ≡ Some p)) (sym layout_same)
      (either (is_refused reply) (carried_from setting.size (layout_of_table setting.size before) (layout_of_table setting.size before) (moved_slot command) p)
      (from_itself setting.size (layout_of_table setting.size before) (moved_slot command) p lt))
    where
      either : (b : Bool) (o : Option ℕ) → (o ≡ None) ⊎ (o ≡ Some p) → ((if b then None else o) ≡ None) ⊎ ((if b then None else o) ≡ Some p)
      either true o is = inl refl
      either false o is = is

  keeps : (q p : ℕ) → q ≡ p → Keeps setting.size before.cursor after.cursor [] q p
  keeps q p same = inr (ap (λ k. scene_word k (shown_cell setting.size before.cursor k)) same ∙ ap (λ (c : Cursor). scene_word p (shown_cell setting.size c p)) cursor, refl)

  scene : (p : ℕ) (source : Option ℕ) (bare : Bool) → (source ≡ None) ⊎ (source ≡ Some p) → is_bared setting.size after reply p ≡ bare → SceneCarried setting before after [] p source bare
  scene p (Some q) bare (inl is) e = none_some q (sym is)
  scene p (Some q) bare (inr is) e = keeps q p (some_is q p is)
  scene p None true how e = inr (ap (λ (l : Layout). is_none (l.owner p)) (sym layout_same) ∙ (and_parts (not (is_refused reply)) (is_none ((layout_of_table setting.size after).owner p)) e).1, keeps p p refl)
  scene p None false how e = keeps p p refl

  cell : (p : ℕ) (old new : Option ShownCell) → old ≡ new → CellCarried setting.depth [] p old new
  cell p old None same = tt
  cell p old (Some c) same = inr (refl, refl, same)

  pub still_carries : CarriesStep setting before after command reply []
  still_carries = record {
    scene = λ p lt. scene p (source_of setting.size before after command reply p) (is_bared setting.size after reply p) (source_is p lt) refl;
    cells = λ p lt. cell p (shown_cell setting.size before.cursor p) (shown_cell setting.size after.cursor p) (ap (λ (c : Cursor). shown_cell setting.size c p) cursor);
  }
