-- The turn of a planned step can end.
use Rattle.std.proofs.Common.{◌≡◌, ℕ, ◌+◌, ◌^◌, ◌<◌, true, List, ◌++◌, length, sym, ap, ◌∙◌, subst, refl}
use Rattle.std.specs.Prelude.{All}
use mathlib.Core.Option.{some, some-injective}
use lib.ListN.{get_elem?}
use Rattle.qws_base.specs.Sides.{Sides, IsScreen}
use Rattle.qws_base.specs.Points.{pixel_count}
use Rattle.qws_base.specs.Arranged.{IsArranged}
use Rattle.qws_base.specs.Shown.{IsShape}
use Rattle.qws_base.specs.States.{State, is_refused}
use Rattle.qws_base.specs.declared.windows.WindowView.{WindowView}
use Rattle.qws_base.specs.declared.windows.Cursor.{Cursor}
use Rattle.qws_base.specs.declared.commands.Command.{Command}
use Rattle.qws_base.specs.declared.replies.Reply.{Reply}
use Rattle.qws_base.specs.declared.journals.JournalEntry.{JournalEntry}
use Rattle.qws_base.proofs.StepLaws.{refused_law}
use Rattle.region_table.specs.Tables.{IsSpellable}
use Rattle.region_table.specs.Published.{IsTableOf, AreSlotted}
use Rattle.region_table.specs.declared.tables.Table.{Table}
use Rattle.turn_logs.specs.declared.items.Item.{Item}
use Rattle.turn_logs.specs.Tables.{table_of, IsTable, Follows}
use Rattle.turn_logs.specs.Carries.{CarriesStep}
use Rattle.turn_logs.proofs.Publishing.{publish_law, follow_law}
use Rattle.scene_turns.specs.Changes.{IsAsked}
use Rattle.step_regions.specs.Bared.{is_lost}
use Rattle.fb_words.specs.declared.known.Server.{Server}
use Rattle.fb_words.specs.Steps.{IsNextTable, CarriesAtGive}
use Rattle.window_core.specs.CoreViews.{CoreView, PlanView, Belongs, IsServed}
use Rattle.qws_base.proofs.ArrangedLemmas.{arranged_law}
use Rattle.step_regions.specs.Carried.{CarriesFor, slot_carried}
use Rattle.step_turns.specs.declared.changed.Changes.{Changes}
use Rattle.step_turns.specs.Publishes.{Publishes}
use Rattle.step_turns.specs.Changes.{AreChangesOf, state_planned}
use Rattle.step_turns.specs.Written.{Draws, WritesTable}
use Rattle.step_turns.proofs.After.{next, spelled, of_state, fits, rows_stay, follows}
use Rattle.step_turns.proofs.Carried.{step_asks, drawn_carries}
use Rattle.step_turns.proofs.Picked.{picks_carry}
use Rattle.turn_logs.specs.Lines.{OnlyPicks}
use Rattle.turn_logs.specs.Phases.{IsTrueLog}

-- words that publish a state are read as its table, and their cursor as its cursor
pub read_as : (size : Sides) (admitted stamp : ℕ) (state : State) (words : List ℕ) → IsScreen size → (is : Publishes size admitted stamp state words)
    → IsTable size admitted stamp words × IsSpellable is.table × (table_of words ≡ is.table)
read_as size admitted stamp state words screen is = publish_law.published size admitted stamp state is.table words screen is.of_state is.fits is.spelled

pub cursor_read : (size : Sides) (admitted stamp : ℕ) (state : State) (words : List ℕ) → IsScreen size → Publishes size admitted stamp state words → (table_of words).cursor ≡ state.cursor
cursor_read size admitted stamp state words screen is = ap (λ (t : Table). t.cursor) (read_as size admitted stamp state words screen is).2 ∙ is.of_state.cursor_is

slotted : (size : Sides) (windows : List WindowView) → IsArranged size windows → AreSlotted windows
slotted size windows is = record { few = λ k d below. (is.each k d below).slot; once = is.once }

-- what a turn did for a plan, of a server whose present table publishes the state before it
pub record IsDone (s : Server) (core : CoreView) (plan : PlanView) (changes : Changes) (number : ℕ) (present : List ℕ) (log : List Item) : Type 0 where
  pub screen : IsScreen core.size
  pub size : s.setting.size ≡ core.size
  pub last : get_elem? s.tables (length s.closed) ≡ some s.present
  pub numbered : number ≡ length s.closed + 1
  pub publishes : Publishes core.size (length s.limits) (length s.closed) core.state s.present
  pub served : IsServed core.size core.state
  pub belongs : Belongs core.size plan core.state
  pub client : plan.client < length s.limits
  pub asks : AreChangesOf core plan changes
  pub cells : All (λ cell. cell < 2 ^ 32) plan.cursor.cells
  pub draws : Draws s.setting core.state.cursor plan changes log
  pub writes : WritesTable core plan number s.present present

module _ (s : Server) (core : CoreView) (plan : PlanView) (changes : Changes) (number : ℕ) (present : List ℕ) (log : List Item) (is : IsDone s core plan changes number present log) where
  abbrev old : State
  old = core.state

  abbrev new : State
  new = state_planned core plan

  abbrev before : Table
  before = is.publishes.table

  abbrev after : Table
  after = next core plan (length s.limits) (length s.closed) number s.present present is.served is.belongs is.client is.publishes is.writes is.cells

  pub after_of : IsTableOf core.size new number after
  after_of = of_state core plan (length s.limits) (length s.closed) number s.present present is.served is.belongs is.client is.publishes is.writes is.cells

  -- the words after it publish the state after it
  abbrev pub published : Publishes core.size (length s.limits) number new present
  published = record {
    table = after;
    spelled = spelled core plan (length s.limits) (length s.closed) number s.present present is.served is.belongs is.client is.publishes is.writes is.cells;
    of_state = after_of;
    fits = fits core plan (length s.limits) (length s.closed) number s.present present is.served is.belongs is.client is.publishes is.writes is.cells;
  }

  reads_before : IsTable core.size (length s.limits) (length s.closed) s.present × IsSpellable before × (table_of s.present ≡ before)
  reads_before = read_as core.size (length s.limits) (length s.closed) old s.present is.screen is.publishes

  reads_after : IsTable core.size (length s.limits) number present × IsSpellable after × (table_of present ≡ after)
  reads_after = publish_law.published core.size (length s.limits) number new after present is.screen published.of_state published.fits published.spelled

  same_last : (t : List ℕ) → get_elem? s.tables (length s.closed) ≡ some t → s.present ≡ t
  same_last t at = some-injective s.present t (sym is.last ∙ at)

  abbrev server : Server
  server = record s { present = present; log = log }

  pub next_table : IsNextTable server
  next_table = record {
    is_table = subst (λ (z : Sides). IsTable z (length s.limits) (length s.closed + 1) present) (sym is.size)
        (subst (λ n. IsTable core.size (length s.limits) n present) is.numbered reads_after.0);
    follows = λ t at. subst (λ l. Follows l present) (same_last t at)
        (follow_law before after s.present present reads_before.1 reads_after.1
        (follows core plan (length s.limits) (length s.closed) number s.present present is.served is.belongs is.client is.publishes is.writes is.cells)
        is.publishes.spelled published.spelled);
  }

  pub left : IsTableOf core.size new number (table_of present)
  left = subst (IsTableOf core.size new number) (sym reads_after.2) after_of

  refuses : is_refused plan.reply ≡ true → new.windows ≡ old.windows
  refuses refused = ap (λ (t : State). t.windows) (refused_law core.size old plan.client plan.command (ap is_refused (sym is.belongs.reply) ∙ refused))

  asked : (p : ℕ) → p < pixel_count s.setting.size → IsAsked s.setting before after plan.command plan.reply changes.carried.falling changes.carried.by changes.carried.region changes.bared p
  asked = step_asks s.setting core.size old new (length s.closed) number before after plan.command plan.reply changes is.size is.publishes.of_state after_of
      (slotted core.size old.windows is.served.windows) (slotted core.size new.windows (arranged_law.stays core.size old plan.client plan.command is.served.windows)) refuses
      (subst (λ (ws : List WindowView). CarriesFor core.size old.windows ws (slot_carried plan) changes.carried.region changes.carried.falling changes.carried.by) is.belongs.windows is.asks.carried)
      (λ p. is.asks.bared p ∙ ap (λ (ws : List WindowView). is_lost core.size old.windows ws p) is.belongs.windows)

  carried : CarriesStep s.setting before after plan.command plan.reply log
  carried = drawn_carries s.setting before after plan changes log
      (subst IsShape (sym is.publishes.of_state.cursor_is) is.publishes.fits.shape)
      (subst IsShape (sym is.belongs.cursor) published.fits.shape)
      refl
      (rows_stay core plan (length s.limits) (length s.closed) number s.present present is.served is.belongs is.client is.publishes is.writes is.cells)
      asked
      (subst (λ (k : Cursor). Draws s.setting k plan changes log) (sym is.publishes.of_state.cursor_is) is.draws)

  pub carries : (entry : JournalEntry) → entry.command ≡ plan.command → entry.reply ≡ plan.reply → CarriesAtGive server entry
  carries entry command reply t at = subst (λ l. CarriesStep s.setting (table_of l) (table_of present) entry.command entry.reply log) (same_last t at)
      (subst (λ (k : Command). CarriesStep s.setting (table_of s.present) (table_of present) k entry.reply log) (sym command)
      (subst (λ (r : Reply). CarriesStep s.setting (table_of s.present) (table_of present) plan.command r log) (sym reply)
      (subst (λ (a : Table). CarriesStep s.setting a (table_of present) plan.command plan.reply log) (sym reads_before.2)
      (subst (λ (b : Table). CarriesStep s.setting before b plan.command plan.reply log) (sym reads_after.2) carried))))

-- the same where the turn has only read before
pub all_carried : (s : Server) (entry : JournalEntry) (present : List ℕ) (read added all : List Item) → all ≡ read ++ added → OnlyPicks read → IsTrueLog all
    → CarriesAtGive (record s { present = present; log = added }) entry → CarriesAtGive (record s { present = present; log = all }) entry
all_carried s entry present read added all is only true_log carries t at =
    subst (λ l. CarriesStep s.setting (table_of t) (table_of present) entry.command entry.reply l) (sym is)
    (picks_carry s.setting (table_of t) (table_of present) entry.command entry.reply read added only (subst IsTrueLog is true_log) (carries t at))
