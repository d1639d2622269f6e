-- The log of a step's turn carries the step.
use Rattle.std.proofs.Common.{◌≡◌, ℕ, ◌<◌, ⊎_elim, Bool, true, false, not, ◌&&◌, if◌then◌else◌, List, [], Some, None, ◌++◌, ◌⊎◌, inl, inr, append-nil, append_assoc, sym, refl, ap, ◌∙◌, subst}
use Rattle.std.specs.Prelude.{is_none}
use Rattle.std.proofs.lemmas.Bool.{cases_Bool, false≢true}
use Rattle.qws_base.specs.Sides.{Sides}
use Rattle.qws_base.specs.Points.{any_holds, point_of, pixel_count, is_on_screen}
use Rattle.qws_base.specs.Scenes.{Setting, carried_from}
use Rattle.qws_base.specs.Shown.{IsShape}
use Rattle.qws_base.specs.States.{State, is_refused, moved_slot}
use Rattle.qws_base.specs.Windows.{owner_at}
use Rattle.qws_base.specs.declared.points.Point.{Point}
use Rattle.qws_base.specs.declared.points.Rect.{Rect}
use Rattle.qws_base.specs.declared.windows.WindowView.{WindowView}
use Rattle.qws_base.specs.declared.commands.Command.{Command}
use Rattle.qws_base.specs.declared.replies.Reply.{Reply}
use Rattle.region_table.specs.Layouts.{layout_of_table}
use Rattle.region_table.specs.Published.{IsTableOf, AreSlotted}
use Rattle.region_table.specs.declared.tables.Table.{Table}
use Rattle.turn_logs.specs.declared.items.Item.{Item}
use Rattle.turn_logs.specs.Carries.{CarriesStep}
use Rattle.turn_logs.specs.Lines.{OnlyPicks}
use Rattle.turn_logs.specs.Phases.{IsTrueLog, ChangesScene, IsAway, lift_items, drop_items}
use Rattle.qws_base.specs.declared.windows.Cursor.{Cursor}
use Rattle.step_turns.proofs.Picked.{true_after}
use Rattle.turn_logs.proofs.Phases.{phase_law, away_law}
use Rattle.turn_logs.proofs.Lifting.{cells_law}
use Rattle.scene_turns.specs.declared.works.Work.{Work}
use Rattle.scene_turns.specs.declared.works.Work.TheVariants.{Fill, Carry}
use Rattle.step_regions.specs.Carried.{CarriesFor, source}
use Rattle.scene_turns.specs.Sweeps.{Sweeps, AddsSweep}
use Rattle.scene_turns.specs.Changes.{IsAsked}
use Rattle.scene_turns.proofs.Changing.{change_law}
use Rattle.step_regions.specs.Bared.{is_lost}
use Rattle.desk_turns.specs.Redraws.{Redraws}
use Rattle.desk_turns.proofs.Asking.{asked_law}
use Rattle.desk_turns.proofs.Redrawing.{redrawn_law}
use Rattle.window_core.specs.CoreViews.{PlanView}
use Rattle.step_turns.specs.declared.changed.Changes.{Changes}
use Rattle.step_turns.specs.Changes.{IsClear}
use Rattle.step_turns.specs.Written.{DrawsOn, Draws, IsStill, SweepsBoth, SweepsClear, LeavesCells}
use Rattle.step_turns.proofs.Away.{clear_away}
use Rattle.step_turns.proofs.Still.{still_carries}

-- where windows stay, no pixel loses its last owner
none_lost : (on some : Bool) → (on && (not some && some)) ≡ true → ⊥
none_lost true true e = false≢true e
none_lost true false e = false≢true e
none_lost false some e = false≢true e

-- a refused command asks for nothing
refused_asks : (setting : Setting) (before after : Table) (command : Command) (reply : Reply) (falling : Bool) (by : ℕ) (carried bared : List Rect) (windows : List WindowView) → is_refused reply ≡ true
    → carried ≡ [] → ((p : Point) → any_holds bared p ≡ is_lost setting.size windows windows p) → (p : ℕ) → IsAsked setting before after command reply falling by carried bared p
refused_asks setting before after command reply falling by carried bared windows refused none lost p = record {
  carried_is = ap (λ b. if b then None else carried_from setting.size (layout_of_table setting.size before) (layout_of_table setting.size after) (moved_slot command) p) refused
      ∙ sym (ap (λ (l : List Rect). if any_holds l (point_of setting.size.w p) then Some (source falling by p) else None) none);
  source_in = λ holds. absurd (false≢true (sym (ap (λ (l : List Rect). any_holds l (point_of setting.size.w p)) none) ∙ holds));
  bare = λ holds. absurd (none_lost (is_on_screen setting.size (point_of setting.size.w p)) (is_none (owner_at windows (point_of setting.size.w p))) (sym (lost (point_of setting.size.w p)) ∙ holds));
  lost = λ bare. absurd (false≢true (ap (λ b. not b && is_none ((layout_of_table setting.size after).owner p)) (sym refused) ∙ bare));
}

-- the changes of a step are what it asks
pub step_asks : (setting : Setting) (size : Sides) (old new : State) (n m : ℕ) (before after : Table) (command : Command) (reply : Reply) (changes : Changes) → setting.size ≡ size
    → IsTableOf size old n before → IsTableOf size new m after → AreSlotted old.windows → AreSlotted new.windows → (is_refused reply ≡ true → new.windows ≡ old.windows)
    → CarriesFor size old.windows new.windows (if is_refused reply then None else moved_slot command) changes.carried.region changes.carried.falling changes.carried.by
    → ((p : Point) → any_holds changes.bared p ≡ is_lost size old.windows new.windows p)
    → (p : ℕ) → p < pixel_count setting.size → IsAsked setting before after command reply changes.carried.falling changes.carried.by changes.carried.region changes.bared p
step_asks setting size old new n m before after command reply changes same is_old is_new slots_old slots_new refuses carries lost = subst
    (λ (z : Sides). IsTableOf z old n before → IsTableOf z new m after
    → CarriesFor z old.windows new.windows (if is_refused reply then None else moved_slot command) changes.carried.region changes.carried.falling changes.carried.by
    → ((p : Point) → any_holds changes.bared p ≡ is_lost z old.windows new.windows p)
    → (p : ℕ) → p < pixel_count setting.size → IsAsked setting before after command reply changes.carried.falling changes.carried.by changes.carried.region changes.bared p)
    same
    here is_old is_new carries lost
  where
    here : IsTableOf setting.size old n before → IsTableOf setting.size new m after
        → CarriesFor setting.size old.windows new.windows (if is_refused reply then None else moved_slot command) changes.carried.region changes.carried.falling changes.carried.by
        → ((p : Point) → any_holds changes.bared p ≡ is_lost setting.size old.windows new.windows p)
        → (p : ℕ) → p < pixel_count setting.size → IsAsked setting before after command reply changes.carried.falling changes.carried.by changes.carried.region changes.bared p
    here is_old is_new carries lost p lt = ⊎_elim
        (λ (refused : is_refused reply ≡ true). refused_asks setting before after command reply changes.carried.falling changes.carried.by changes.carried.region changes.bared old.windows refused
        (subst (λ b. CarriesFor setting.size old.windows new.windows (if b then None else moved_slot command) changes.carried.region changes.carried.falling changes.carried.by) refused carries)
        (λ q. lost q ∙ ap (λ (ws : List WindowView). is_lost setting.size old.windows ws q) (refuses refused)) p)
        (λ (done : is_refused reply ≡ false). asked_law setting old new n m before after command reply changes.carried.falling changes.carried.by changes.carried.region changes.bared is_old is_new slots_old slots_new done
        (subst (λ b. CarriesFor setting.size old.windows new.windows (if b then None else moved_slot command) changes.carried.region changes.carried.falling changes.carried.by) done carries) lost p lt)
        (cases_Bool (is_refused reply))

-- nothing is swept where there is no rectangle
no_sweep : (size : Sides) (rects : List Rect) (work : Work) → rects ≡ [] → Sweeps size rects work []
no_sweep size rects work none = record {
  inside = λ p lt holds. absurd (false≢true (sym (ap (λ (l : List Rect). any_holds l (point_of size.w p)) none) ∙ holds));
  outside = λ p lt misses. refl;
  away = λ x untouched. refl;
}

-- a turn that draws as a plan's step asks carries it
pub drawn_carries : (setting : Setting) (before after : Table) (plan : PlanView) (changes : Changes) (log : List Item) → IsShape before.cursor → IsShape plan.cursor → after.cursor ≡ plan.cursor
    → (plan.risen ≡ [] → before.rows ≡ after.rows)
    → ((p : ℕ) → p < pixel_count setting.size → IsAsked setting before after plan.command plan.reply changes.carried.falling changes.carried.by changes.carried.region changes.bared p)
    → Draws setting before.cursor plan changes log → CarriesStep setting before after plan.command plan.reply log
drawn_carries setting before after plan changes log old new is rows asked draws = ⊎_elim
    (λ (d : Redraws setting before.cursor plan.cursor changes.carried.falling changes.carried.by changes.carried.region changes.bared setting.backdrop [] log × IsTrueLog log).
    redrawn_law phase_law cells_law change_law setting before after plan.command plan.reply changes.carried.falling changes.carried.by changes.carried.region changes.bared log old (subst IsShape (sym is) new) asked
    (subst (λ (k : Cursor). Redraws setting before.cursor k changes.carried.falling changes.carried.by changes.carried.region changes.bared setting.backdrop [] log) (sym is) d.0) d.1)
    (λ (rest : SweepsClear setting before.cursor plan changes log ⊎ ((log ≡ []) × IsStill before.cursor plan changes)). ⊎_elim
    (λ (s : SweepsClear setting before.cursor plan changes log). away_law setting before after plan.command plan.reply log (sym (is ∙ s.cursor))
    (clear_away setting.size before.cursor changes.carried changes.bared setting.backdrop s.moved s.filled log old s.clear s.carries s.fills s.log_is)
    (subst (ChangesScene setting before after plan.command plan.reply) (sym s.log_is)
    (change_law setting before after plan.command plan.reply changes.carried.falling changes.carried.by changes.carried.region changes.bared s.moved s.filled s.carries s.fills asked)))
    (λ (s : (log ≡ []) × IsStill before.cursor plan changes). subst (CarriesStep setting before after plan.command plan.reply) (sym s.0) (⊎_elim
    (λ (none : plan.risen ≡ []). still_carries setting before after plan.command plan.reply (rows none) (sym (is ∙ s.1.cursor)))
    (λ (none : (changes.carried.region ≡ []) × (changes.bared ≡ [])). away_law setting before after plan.command plan.reply [] (sym (is ∙ s.1.cursor)) (λ p cell lt lies. (refl, refl))
    (change_law setting before after plan.command plan.reply changes.carried.falling changes.carried.by changes.carried.region changes.bared [] []
    (no_sweep setting.size changes.carried.region (Carry changes.carried.falling changes.carried.by) none.0) (no_sweep setting.size changes.bared (Fill setting.backdrop) none.1) asked))
    s.1.pixels))
    rest)
    draws

-- a redrawing that goes on after what was only read
pub draws_on : (setting : Setting) (old old' new : Cursor) (plan : PlanView) (changes : Changes) (backdrop : ℕ) (before after : List Item) → old' ≡ old → new ≡ plan.cursor → backdrop ≡ setting.backdrop
    → OnlyPicks before → IsTrueLog after → Redraws setting old' new changes.carried.falling changes.carried.by changes.carried.region changes.bared backdrop before after → DrawsOn setting old plan changes before after
draws_on setting old old' new plan changes backdrop before after is_old is_new is_backdrop only true_log redraws =
    let r : Redraws setting old plan.cursor changes.carried.falling changes.carried.by changes.carried.region changes.bared setting.backdrop before after =
    subst (λ (k : Cursor). Redraws setting k plan.cursor changes.carried.falling changes.carried.by changes.carried.region changes.bared setting.backdrop before after) is_old
    (subst (λ (k : Cursor). Redraws setting old' k changes.carried.falling changes.carried.by changes.carried.region changes.bared setting.backdrop before after) is_new
    (subst (λ b. Redraws setting old' new changes.carried.falling changes.carried.by changes.carried.region changes.bared b before after) is_backdrop redraws)) in
    let added : List Item = lift_items setting.size old r.lifted ++ ((r.moved ++ r.filled) ++ drop_items setting.depth setting.size plan.cursor r.dropped) in
    let alone : Redraws setting old plan.cursor changes.carried.falling changes.carried.by changes.carried.region changes.bared setting.backdrop [] added =
    record { lifted = r.lifted; moved = r.moved; filled = r.filled; dropped = r.dropped; log = refl; carries = r.carries; fills = r.fills } in
    record {
      added = added;
      log = r.log;
      draws = inl (alone, true_after before added only (subst IsTrueLog r.log true_log));
      true_log = true_log;
    }

-- what two sweeps add
module _ (setting : Setting) (size : Sides) (old : Cursor) (plan : PlanView) (changes : Changes) (backdrop : ℕ) (before after : List Item) (same : setting.size ≡ size) (clear : IsClear size old changes.carried changes.bared)
    (sweeps : SweepsBoth setting.size changes.carried changes.bared backdrop before after) where
  abbrev first : AddsSweep setting.size changes.carried.region (Carry changes.carried.falling changes.carried.by) before sweeps.middle
  first = sweeps.carries

  abbrev second : AddsSweep setting.size changes.bared (Fill backdrop) sweeps.middle after
  second = sweeps.fills

  abbrev both : List Item
  both = first.added ++ second.added

  both_added : after ≡ before ++ both
  both_added = second.log ∙ ap (λ l. l ++ second.added) first.log ∙ append_assoc before first.added second.added

  clear_here : IsClear setting.size old changes.carried changes.bared
  clear_here = subst (λ (z : Sides). IsClear z old changes.carried changes.bared) (sym same) clear

  -- sweeps clear of a cursor that stays draw what a step asks
  pub sweeps_on : plan.cursor ≡ old → backdrop ≡ setting.backdrop → IsTrueLog after → DrawsOn setting old plan changes before after
  sweeps_on stays is_backdrop true_log = record {
    added = both;
    log = both_added;
    draws = inr (inl record { cursor = stays; clear = clear_here; moved = first.added; filled = second.added; log_is = refl; carries = first.sweeps; fills = subst (λ b. Sweeps setting.size changes.bared (Fill b) second.added) is_backdrop second.sweeps });
    true_log = true_log;
  }

  -- they leave its cells
  pub sweeps_leave : IsShape old → LeavesCells size old before after
  sweeps_leave shape = record {
    added = both;
    log = both_added;
    away = subst (λ (z : Sides). IsAway z old both) same
        (clear_away setting.size old changes.carried changes.bared backdrop first.added second.added both shape clear_here first.sweeps second.sweeps refl);
  }

-- a log that stays leaves all cells
pub stays_leaves : (size : Sides) (old : Cursor) (before after : List Item) → after ≡ before → LeavesCells size old before after
stays_leaves size old before after same = record { added = []; log = same ∙ sym (append-nil before); away = λ p cell lt lies. (refl, refl) }
