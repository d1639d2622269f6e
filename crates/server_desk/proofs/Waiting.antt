-- A command that waits for painters: what stays while the server is shut out.
use Rattle.std.proofs.Common.{◌≡◌, ◌≢◌, ℕ, ◌<◌, List, [], ◌∷◌, ◌++◌, length, append-nil, append_assoc, Result, Ok, Err, sym, ap, ◌∙◌, subst, arith}
use Rattle.std.specs.Prelude.{IfOk, All}
use Rattle.std.proofs.lemmas.List.Elements.{All-nil, All-cons, All-append}
use lib.ListN.{get_elem?}
use Rattle.qws_base.specs.Sides.{Sides}
use Rattle.qws_base.specs.States.{State}
use Rattle.qws_base.specs.declared.commands.Command.{Command}
use Rattle.region_table.specs.Numbers.{closed_gate}
use Rattle.fb_words.specs.declared.known.Client.{Client}
use Rattle.fb_words.specs.declared.known.ServerMode.TheVariants.{Closing}
use Rattle.fb_words.specs.Views.{HeadView, only}
use Rattle.fb_words.specs.Steps.{AllSit, Sits}
use Rattle.fb_words.specs.Desks.{state_after}
use Rattle.display_lock.specs.Turns.{shut_out}
use Rattle.window_core.specs.CoreViews.{CoreView, PlanView, Belongs}
use Rattle.step_turns.specs.declared.changed.Changes.{Changes}
use Rattle.step_turns.specs.Changes.{AreChangesOf}
use Rattle.server_desk.specs.declared.answers.Answer.{Answer}
use Rattle.server_desk.specs.declared.answers.CallStop.{CallStop}
use Rattle.server_desk.specs.declared.answers.CallStop.TheVariants.{Busy, JournalFull, OutOfMemory}
use Rattle.server_desk.specs.declared.calls.Draft.{Draft}
use Rattle.server_desk.specs.DeskViews.{DeskView}
use Rattle.server_desk.specs.Answers.{steps_made, HasAnswered, HasAnsweredLater}
use Rattle.server_desk.specs.Drafts.{IsDraftOf, IsDraftFor, core_in}
use Rattle.server_desk.specs.Keeping.{IsCurrent}
use Rattle.server_desk.specs.Stepping.{delayed, IsDelayed, HasStepped, HasSteppedLater, StopsWith, HaltsWith}
use Rattle.server_desk.proofs.Answered.{desk_of, stepped_desk, sat_down}
use Rattle.server_desk.proofs.Stepped.{same_size}

-- ---- drafts

-- a draft asks of the core its size and its state alone
draft_there : (core other : CoreView) (client : ℕ) (command : Command) (draft : Draft) → core.size ≡ other.size → core.state ≡ other.state → IsDraftOf core client command draft → IsDraftOf other client command draft
draft_there core other client command draft size state is =
    let there : CoreView = record { size = core.size; backdrop = other.backdrop; state = core.state } in
    let same : IsDraftOf there client command draft = record {
      belongs = is.belongs;
      client_is = is.client_is;
      command_is = is.command_is;
      changes = record {
        carried = is.changes.carried;
        bared = is.changes.bared;
        on_screen = is.changes.on_screen;
        same_cursor = is.changes.same_cursor;
        other_cursor = is.changes.other_cursor;
        clear = is.changes.clear;
        covered = is.changes.covered;
      };
      reply = is.reply;
    } in
    subst (λ (s : State). IsDraftOf (record other { state = s }) client command draft) state
    (subst (λ (z : Sides). IsDraftOf (record { size = z; backdrop = other.backdrop; state = core.state }) client command draft) size same)

pub draft_for : (h a : HeadView) (core : CoreView) (client : ℕ) (command : Command) (draft : Draft) → h ≡ a → IsCurrent h core → client ≡ (only a.sitting).number → IsDraftOf core client command draft → IsDraftFor a command draft
draft_for h a core client command draft same current number is =
    let size = same_size h core current in
    subst (λ (x : HeadView). IsDraftOf (core_in x) (only a.sitting).number command draft) same
    (subst (λ n. IsDraftOf (core_in h) n command draft) number
    (draft_there core (core_in h) client command draft size (current.state ∙ ap (λ (z : Sides). state_after z h.server.closed) size) is))

pub draft_of : (h a : HeadView) (core : CoreView) (command : Command) (draft : Draft) → h ≡ a → IsCurrent h core → IsDraftFor a command draft → IsDraftOf core (only a.sitting).number command draft
draft_of h a core command draft same current is =
    let size = same_size h core current in
    draft_there (core_in h) core (only a.sitting).number command draft (sym size) (sym (current.state ∙ ap (λ (z : Sides). state_after z h.server.closed) size))
    (subst (λ (x : HeadView). IsDraftOf (core_in x) (only a.sitting).number command draft) (sym same) is)

-- a draft is one of its own command
pub own_command : (h : HeadView) (command : Command) (draft : Draft) → IsDraftFor h command draft → IsDraftFor h draft.plan.command draft
own_command h command draft is = subst (λ (k : Command). IsDraftFor h k draft) (sym is.command_is) is

-- a command that has no draft stops
pub stops_halted : (before after : HeadView) (p : Client) (stop : CallStop) → HaltsWith before after p stop → StopsWith before after p stop
stops_halted before after p OutOfMemory is = is
stops_halted before after p (JournalFull held) is = is
stops_halted before after p (Busy found) is = absurd is

-- ---- while the server is shut out

pub undelayed : (h now : HeadView) → now ≡ h → IsDelayed h now
undelayed h now same = record {
  mode = h.server.mode;
  found = [];
  head = same ∙ ap (λ l. let x : HeadView = record h { server = record h.server { turned = l } } in x) (sym (append-nil h.server.turned));
  others = All-nil (λ n. n ≢ closed_gate);
}

pub delayed_more : (before now then : HeadView) (found : ℕ) → IsDelayed before now → found ≢ closed_gate → then ≡ shut_out now found → IsDelayed before then
delayed_more before now then found is other out = record {
  mode = Closing;
  found = is.found ++ found ∷ [];
  head = out ∙ ap (λ (h : HeadView). shut_out h found) is.head
      ∙ ap (λ l. let x : HeadView = record before { server = record before.server { mode = Closing; turned = l } } in x) (append_assoc before.server.turned is.found (found ∷ []));
  others = All-append (λ n. n ≢ closed_gate) is.found (found ∷ []) is.others (All-cons (λ n. n ≢ closed_gate) found [] other (All-nil (λ n. n ≢ closed_gate)));
}

module _ (before now : HeadView) (is : IsDelayed before now) where
  pub sits_delayed : AllSit before.server before.sitting → AllSit now.server now.sitting
  sits_delayed all = subst (λ (h : HeadView). AllSit h.server h.sitting) (sym is.head) (λ k p at. let s = all k p at in let r : Sits (delayed before is.mode is.found).server p = record {
    setting = s.setting;
    limit = s.limit;
    seen = s.seen;
    own_steps = s.own_steps;
    order = s.order;
    clips = s.clips;
    paints = s.paints;
  } in r)

  pub sitting_delayed : now.sitting ≡ before.sitting
  sitting_delayed = ap (λ (h : HeadView). h.sitting) is.head

  pub screen_delayed : now.screen ≡ before.screen
  screen_delayed = ap (λ (h : HeadView). h.screen) is.head

  pub one_delayed : before.sitting ≡ only before.sitting ∷ [] → now.sitting ≡ only now.sitting ∷ []
  one_delayed one = subst (λ (l : List Client). l ≡ only l ∷ []) (sym sitting_delayed) one

  pub draft_delayed : (command : Command) (draft : Draft) → IsDraftFor before command draft → IsDraftFor now command draft
  draft_delayed command draft for = subst (λ (h : HeadView). IsDraftFor h command draft) (sym is.head) for

  pub few_delayed : steps_made (only before.sitting) < (only before.sitting).step_limit → steps_made (only now.sitting) < (only now.sitting).step_limit
  few_delayed few = subst (λ (l : List Client). steps_made (only l) < (only l).step_limit) (sym sitting_delayed) few

  -- the draft that was made at first is one of its own command
  pub own_draft : (command : Command) (draft made : Draft) → draft ≡ made → IsDraftFor before command made → IsDraftFor now draft.plan.command draft
  own_draft command draft made same for = subst (λ (d : Draft). IsDraftFor now d.plan.command d) (sym same) (draft_delayed made.plan.command made (own_command before command made for))

  -- an answer after the wait
  pub stepped_later : (after : HeadView) (command : Command) (draft made : Draft) (answer : Answer) → draft ≡ made → IsDraftFor before command made → HasStepped now after (only now.sitting) draft.plan.command answer
      → HasSteppedLater before after (only before.sitting) command answer
  stepped_later after command draft made answer same for stepped = record {
    then = now;
    waited = is;
    stepped = subst (λ (l : List Client). HasStepped now after (only l) command answer) sitting_delayed
        (subst (λ (k : Command). HasStepped now after (only now.sitting) k answer) (ap (λ (d : Draft). d.plan.command) same ∙ for.command_is) stepped);
  }

-- ---- the answer

pub answered_later : (d : DeskView) (inner kept sat stepped then risen : HeadView) (p : Client) (others : List Client) (command : Command) (r : Result Answer CallStop) → desk_of inner ≡ d → kept ≡ inner → inner.sitting ≡ []
    → sat ≡ record kept { sitting = kept.sitting ++ p ∷ [] } → IfOk r (λ a. HasSteppedLater sat stepped (only sat.sitting) command a) → then ≡ stepped → risen ≡ record then { sitting = others }
    → IfOk r (λ a. HasAnsweredLater d (desk_of risen) p.number command a)
answered_later d inner kept sat stepped then risen p others command (Err stop) desk is none seated done same rose = tt
answered_later d inner kept sat stepped then risen p others command (Ok answer) desk is none seated done same rose =
    let before : desk_of sat ≡ d = ap desk_of seated ∙ ap desk_of is ∙ desk in
    let after : desk_of stepped ≡ desk_of risen = sym (ap desk_of rose ∙ ap desk_of same) in
    let one : only sat.sitting ≡ p = ap only (sat_down inner kept sat p is none seated) in
    let w = done.waited in
    let here : HasAnswered (desk_of (delayed sat w.mode w.found)) (desk_of stepped) (only sat.sitting).number command answer =
    subst (λ (h : HeadView). HasAnswered (desk_of h) (desk_of stepped) (only sat.sitting).number command answer) w.head (stepped_desk done.then stepped (only sat.sitting) command answer done.stepped) in
    record {
      mode = w.mode;
      found = w.found;
      others = w.others;
      answered = subst (λ (y : DeskView). HasAnswered (record y { server = record y.server { mode = w.mode; turned = y.server.turned ++ w.found } }) (desk_of risen) p.number command answer) before
          (subst (λ (y : DeskView). HasAnswered (desk_of (delayed sat w.mode w.found)) y p.number command answer) after
          (subst (λ (q : Client). HasAnswered (desk_of (delayed sat w.mode w.found)) (desk_of stepped) q.number command answer) one here));
    }

pub rises_later : (inner kept sat stepped : HeadView) (p : Client) (command : Command) (r : Result Answer CallStop) → kept ≡ inner → inner.sitting ≡ [] → sat ≡ record kept { sitting = kept.sitting ++ p ∷ [] } → AllSit sat.server sat.sitting
    → IfOk r (λ a. HasSteppedLater sat stepped (only sat.sitting) command a) → IfOk r (λ a. p.seen < a.number)
rises_later inner kept sat stepped p command (Err stop) is none seated sits done = tt
rises_later inner kept sat stepped p command (Ok answer) is none seated sits done =
    let here : Sits sat.server p = sits 0 p (ap (λ (l : List Client). get_elem? l 0) (sat_down inner kept sat p is none seated)) in
    let seen = here.seen in
    let number = done.stepped.number in
    let closed : length done.then.server.closed ≡ length sat.server.closed = ap (λ (h : HeadView). length h.server.closed) done.waited.head in
    omega arith
