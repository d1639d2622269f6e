-- The regions of a step are what it asks.
use Rattle.std.proofs.Common.{◌≡◌, ℕ, zero, suc, ◌*◌, ◌<◌, ◌⊎◌, inl, inr, ⊎_elim, Bool, true, false, not, ◌&&◌, if◌then◌else◌, List, Option, Some, None, sym, refl, ap, ◌∙◌, arith}
use Rattle.std.specs.Prelude.{is_none}
use Rattle.std.proofs.lemmas.Bool.{and_parts, and_from, cases_Bool, false≢true}
use Rattle.qws_base.specs.Points.{any_holds, point_of, pixel_count, is_on_screen}
use Rattle.qws_base.specs.Scenes.{Setting, carried_from}
use Rattle.qws_base.specs.States.{moved_slot}
use Rattle.qws_base.specs.Windows.{layout_of, owner_at, is_slot}
use Rattle.qws_base.specs.declared.points.Rect.{Rect}
use Rattle.region_table.specs.Layouts.{layout_of_table}
use Rattle.region_table.specs.Published.{TellSame}
use Rattle.region_table.proofs.Telling.{published_law}
use Rattle.region_table.proofs.SameScenes.{carried_same}
use Rattle.turn_logs.specs.Carries.{source_of, is_bared}
use Rattle.step_regions.specs.Carried.{source, HasSource}
use Rattle.scene_turns.specs.Changes.{IsAsked, is_in}
use Rattle.desk_turns.specs.Asked.{AskedLaw}
use Rattle.step_regions.specs.Carried.{CarriesFor}
use Rattle.step_regions.proofs.Distances.{pixel_on}

some_columns : (w h p : ℕ) → p < w * h → 0 < w
some_columns zero h p below = absurd (omega arith)
some_columns (suc w) h p below = omega arith

source_low : (setting : Setting) (falling : Bool) (by p : ℕ) → p < pixel_count setting.size → HasSource setting falling by p → source falling by p < pixel_count setting.size
source_low setting false by p lt has = has
source_low setting true by p lt has = omega arith

-- a slot's point has an owner
owned_some : (slot : ℕ) (o : Option ℕ) → is_slot slot o ≡ true → is_none o ≡ true → ⊥
owned_some slot None is none = false≢true is
owned_some slot (Some k) is none = false≢true none

pub asked_law : AskedLaw
asked_law setting old new n m before after command reply falling by carried bared is_old is_new slots_old slots_new done carries lost p lt = ask (moved_slot command) refl carries
  where
    tell_old : TellSame setting.size (layout_of_table setting.size before) (layout_of setting.size old.windows)
    tell_old = published_law setting.size old n before is_old slots_old

    tell_new : TellSame setting.size (layout_of_table setting.size after) (layout_of setting.size new.windows)
    tell_new = published_law setting.size new m after is_new slots_new

    from : source_of setting.size before after command reply p ≡ carried_from setting.size (layout_of setting.size old.windows) (layout_of setting.size new.windows) (moved_slot command) p
    from = ap (λ b. if b then None else carried_from setting.size (layout_of_table setting.size before) (layout_of_table setting.size after) (moved_slot command) p) done
        ∙ carried_same setting.size (layout_of_table setting.size before) (layout_of_table setting.size after) (layout_of setting.size old.windows) (layout_of setting.size new.windows) tell_old tell_new (moved_slot command) p lt

    bare_is : is_bared setting.size after reply p ≡ is_none (owner_at new.windows (point_of setting.size.w p))
    bare_is = ap (λ b. not b && is_none ((layout_of_table setting.size after).owner p)) done ∙ ap is_none (tell_new.owner p lt)

    lost_parts : is_in setting bared p ≡ true → is_none (owner_at new.windows (point_of setting.size.w p)) ≡ true
    lost_parts holds =
        let a = and_parts (is_on_screen setting.size (point_of setting.size.w p)) (not (is_none (owner_at old.windows (point_of setting.size.w p))) && is_none (owner_at new.windows (point_of setting.size.w p))) (sym (lost (point_of setting.size.w p)) ∙ holds) in
        (and_parts (not (is_none (owner_at old.windows (point_of setting.size.w p)))) (is_none (owner_at new.windows (point_of setting.size.w p))) a.1).1

    loses : is_bared setting.size after reply p ≡ true → (is_in setting bared p ≡ true) ⊎ (is_none ((layout_of_table setting.size before).owner p) ≡ true)
    loses bare = ⊎_elim
        (λ (none : is_none (owner_at old.windows (point_of setting.size.w p)) ≡ true). inr (ap is_none (tell_old.owner p lt) ∙ none))
        (λ (some : is_none (owner_at old.windows (point_of setting.size.w p)) ≡ false). inl (lost (point_of setting.size.w p)
        ∙ and_from (is_on_screen setting.size (point_of setting.size.w p)) (not (is_none (owner_at old.windows (point_of setting.size.w p))) && is_none (owner_at new.windows (point_of setting.size.w p)))
        (pixel_on setting.size p (some_columns setting.size.w setting.size.h p lt) lt)
        (and_from (not (is_none (owner_at old.windows (point_of setting.size.w p)))) (is_none (owner_at new.windows (point_of setting.size.w p))) (ap (λ b. not b) some) (sym bare_is ∙ bare))))
        (cases_Bool (is_none (owner_at old.windows (point_of setting.size.w p))))

    ask : (o : Option ℕ) → moved_slot command ≡ o → CarriesFor setting.size old.windows new.windows o carried falling by → IsAsked setting before after command reply falling by carried bared p
    ask None moved none = record {
      carried_is = from ∙ ap (λ o. carried_from setting.size (layout_of setting.size old.windows) (layout_of setting.size new.windows) o p) moved
          ∙ sym (ap (λ (l : List Rect). if any_holds l (point_of setting.size.w p) then Some (source falling by p) else None) none);
      source_in = λ holds. absurd (false≢true (sym (ap (λ (l : List Rect). any_holds l (point_of setting.size.w p)) none) ∙ holds));
      bare = λ holds. (bare_is ∙ lost_parts holds, ap (λ (l : List Rect). any_holds l (point_of setting.size.w p)) none);
      lost = loses;
    }
    ask (Some slot) moved is = record {
      carried_is = from ∙ ap (λ o. carried_from setting.size (layout_of setting.size old.windows) (layout_of setting.size new.windows) o p) moved ∙ is.carries p lt;
      source_in = λ holds. source_low setting falling by p lt (is.sources setting p refl lt holds);
      bare = λ holds. (
        bare_is ∙ lost_parts holds,
        ⊎_elim
            (λ (h : is_in setting carried p ≡ true). absurd (owned_some slot (owner_at new.windows (point_of setting.size.w p)) (is.owned p lt h) (lost_parts holds)))
            (λ (h : is_in setting carried p ≡ false). h)
            (cases_Bool (is_in setting carried p)),
      );
      lost = loses;
    }
