-- What a turn of the desk's server keeps.
use Rattle.std.proofs.Common.{List, ◌≡◌, ℕ, ◌+◌, ◌<◌, ◌≤◌, Bool, true, false, [], ◌∷◌, ◌++◌, length, map, sym, refl, ap, ◌∙◌, subst, arith, ⊎_elim, length-append}
use Rattle.qws_base.specs.Sides.{Sides}
use Rattle.qws_base.specs.States.{State, revision_of, is_refused}
use Rattle.qws_base.specs.Steps.{step}
use Rattle.qws_base.specs.StepLaws.{IsAsBefore}
use Rattle.qws_base.specs.declared.commands.Command.{Command}
use Rattle.qws_base.specs.declared.replies.Reply.{Reply}
use Rattle.qws_base.specs.declared.journals.JournalEntry.{JournalEntry}
use Rattle.qws_base.proofs.StepLaws.{revision_law, refused_law}
use Rattle.region_table.specs.Published.{IsTableOf}
use Rattle.turn_logs.specs.Tables.{table_of}
use Rattle.fb_words.specs.declared.known.Closed.{Closed}
use Rattle.fb_words.specs.Views.{HeadView}
use Rattle.fb_words.specs.Desks.{KeepingLaw, state_after}
use Rattle.window_core.specs.CoreViews.{CoreView, PlanView}
use Rattle.fb_words.specs.Steps.{after_give, with_step}
use Rattle.display_lock.specs.Turns.{opened}
use Rattle.step_turns.specs.Changes.{OnlyTurn}
use Rattle.step_turns.specs.Publishes.{Publishes}
use Rattle.server_desk.specs.Keeping.{IsCurrent}
use Rattle.qws_base.specs.declared.colours.Depth.{Depth}
use Rattle.server_desk.specs.Readings.{HasRead}
use Rattle.server_desk.specs.Serving.{HasServed, turn_with, after_turn}

-- no step raises a revision by more than one
rises_once : (size : Sides) (state : State) (client : ℕ) (command : Command) (slot : ℕ) → slot < 32 → revision_of (step size state client command).0 slot ≤ revision_of state slot + 1
rises_once size state client command slot low = by_reply (is_refused (step size state client command).1) refl
  where
    after : State
    after = (step size state client command).0

    by_reply : (b : Bool) → is_refused (step size state client command).1 ≡ b → revision_of (step size state client command).0 slot ≤ revision_of state slot + 1
    by_reply true is = let same = ap (λ (x : State). revision_of x slot) (refused_law size state client command is) in omega arith
    by_reply false is = ⊎_elim
        (λ (t : IsAsBefore size state.windows (step size state client command).0.windows slot × (revision_of (step size state client command).0 slot ≡ revision_of state slot)). let a = t.1 in omega arith)
        (λ (t : (IsAsBefore size state.windows (step size state client command).0.windows slot → ⊥) × (revision_of (step size state client command).0 slot ≡ revision_of state slot + 1)). let a = t.1 in omega arith)
        (revision_law.exact size state client command slot low is)

-- a head whose turn was opened, worked in and ended has closed it
abbrev pub served_of : (head opening turn after : HeadView) (e : JournalEntry) → opening ≡ opened head → OnlyTurn opening turn
    → after ≡ record turn { server = after_give turn.server e; sitting = map (with_step e) turn.sitting } → HasServed head after e
served_of head opening turn after e is_opened only ended = record {
  log = turn.server.log;
  words = turn.server.present;
  head = ended ∙ ap (λ (x : HeadView). record x { server = after_give x.server e; sitting = map (with_step e) x.sitting })
      (only ∙ ap (λ (y : HeadView). record y { server = record y.server { present = turn.server.present; log = turn.server.log } }) is_opened);
}

-- a turn that has read first, and then did its work, has changed the present table and the log alone
pub read_first : (opening now turn : HeadView) (depth : Depth) (shown : List ℕ) (count : ℕ) → HasRead opening now depth shown count → OnlyTurn now turn → OnlyTurn opening turn
read_first opening now turn depth shown count read only =
    only ∙ ap (λ (y : HeadView). record y { server = record y.server { present = turn.server.present; log = turn.server.log } }) read.head

pub sitting_same : (head opening turn : HeadView) → opening ≡ opened head → OnlyTurn opening turn → turn.sitting ≡ head.sitting
sitting_same head opening turn is_opened only = ap (λ (h : HeadView). h.sitting) only ∙ ap (λ (h : HeadView). h.sitting) is_opened

-- a closed turn keeps what is current
pub current_served : KeepingLaw → (head after : HeadView) (core core' : CoreView) (e : JournalEntry) (served : HasServed head after e)
    → IsCurrent head core → core' ≡ record core { state = (step core.size core.state e.client e.command).0 }
    → e.reply ≡ (step core.size core.state e.client e.command).1
    → Publishes core.size (length head.server.limits) (length head.server.closed + 1) (step core.size core.state e.client e.command).0 served.words
    → IsTableOf core.size (step core.size core.state e.client e.command).0 (length head.server.closed + 1) (table_of served.words)
    → IsCurrent after core'
current_served law head after core core' e served current is_core answered publishes left =
    let size = core.size in
    let closed = head.server.closed in
    let t : Closed = turn_with e served.log in
    let long : length (closed ++ t ∷ []) ≡ length closed + 1 = length-append closed (t ∷ []) in
    let now : State = (step size core.state e.client e.command).0 in
    let new_core : CoreView = record core { state = now } in
    let new_head : HeadView = record head { server = after_turn head.server e served.log served.words; sitting = map (with_step e) head.sitting } in
    let state : core.state ≡ state_after size closed = current.state in
    subst (λ (h : HeadView). IsCurrent h core') (sym served.head) (subst (λ (c : CoreView). IsCurrent new_head c) (sym is_core) (let r : IsCurrent new_head new_core = record {
      own_setting = current.own_setting;
      setting = current.setting;
      screen = current.screen;
      not_writing = refl;
      quiet = refl;
      state = ap (λ (x : State). (step size x e.client e.command).0) state ∙ sym (law.next size closed t);
      turns = law.grows size closed head.server.tables t served.words current.turns (record {
        answered = answered ∙ ap (λ (x : State). (step size x e.client e.command).1) state;
        left = subst (λ (x : State). IsTableOf size (step size x e.client e.command).0 (length closed + 1) (table_of served.words)) state left;
      });
      published = subst (λ n. Publishes size (length head.server.limits) n now served.words) (sym long) publishes;
      revisions = λ slot low. let a = rises_once size core.state e.client e.command slot low in let b = current.revisions slot low in omega arith;
    } in r))

-- the same of the turn of a plan
pub current_ended : KeepingLaw → (head opening turn after : HeadView) (core core' : CoreView) (plan : PlanView) (e : JournalEntry) (number : ℕ) → opening ≡ opened head → OnlyTurn opening turn
    → after ≡ record turn { server = after_give turn.server e; sitting = map (with_step e) turn.sitting }
    → IsCurrent head core → number ≡ length head.server.closed + 1 → e.client ≡ plan.client → e.command ≡ plan.command → e.reply ≡ (step core.size core.state plan.client plan.command).1
    → core' ≡ record core { state = (step core.size core.state plan.client plan.command).0 }
    → Publishes core.size (length opening.server.limits) number (step core.size core.state plan.client plan.command).0 turn.server.present
    → IsTableOf core.size (step core.size core.state plan.client plan.command).0 number (table_of turn.server.present)
    → IsCurrent after core'
current_ended law head opening turn after core core' plan e number is_opened only ended current is_number client command reply is_core publishes left =
    let size = core.size in
    let here : (step size core.state plan.client plan.command) ≡ (step size core.state e.client e.command) =
    ap (λ n. step size core.state n plan.command) (sym client) ∙ ap (step size core.state e.client) (sym command) in
    let limits : opening.server.limits ≡ head.server.limits = ap (λ (h : HeadView). h.server.limits) is_opened in
    current_served law head after core core' e (served_of head opening turn after e is_opened only ended) current
    (is_core ∙ ap (λ (x : State × Reply). record core { state = x.0 }) here) (reply ∙ ap (λ (x : State × Reply). x.1) here)
    (subst (λ (x : State × Reply). Publishes size (length head.server.limits) (length head.server.closed + 1) x.0 turn.server.present) here
    (subst (λ n. Publishes size (length head.server.limits) n (step size core.state plan.client plan.command).0 turn.server.present) is_number
    (subst (λ l. Publishes size (length l) number (step size core.state plan.client plan.command).0 turn.server.present) limits publishes)))
    (subst (λ (x : State × Reply). IsTableOf size x.0 (length head.server.closed + 1) (table_of turn.server.present)) here
    (subst (λ n. IsTableOf size (step size core.state plan.client plan.command).0 n (table_of turn.server.present)) is_number left))
