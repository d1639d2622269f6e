-- A desk after a command that was answered.
use Rattle.std.proofs.Common.{◌≡◌, ◌<◌, List, [], ◌∷◌, ◌++◌, Result, Ok, Err, sym, ap, ◌∙◌, subst, arith}
use Rattle.std.specs.Prelude.{IfOk}
use lib.ListN.{get_elem?}
use Rattle.qws_base.specs.declared.commands.Command.{Command}
use Rattle.fb_words.specs.declared.known.Client.{Client}
use Rattle.fb_words.specs.Views.{HeadView, only}
use Rattle.fb_words.specs.Steps.{AllSit, Sits}
use Rattle.fb_words.specs.Desks.{journal_of}
use Rattle.server_desk.specs.declared.answers.Answer.{Answer}
use Rattle.server_desk.specs.declared.answers.CallStop.{CallStop}
use Rattle.server_desk.specs.DeskViews.{DeskView}
use Rattle.server_desk.specs.Answers.{HasAnswered, turn_of}
use Rattle.server_desk.specs.Stepping.{HasStepped}
use Rattle.server_desk.proofs.Called.{journal_more}

abbrev pub desk_of : HeadView → DeskView
desk_of h = record { screen = h.screen; server = h.server }

pub stepped_desk : (before after : HeadView) (p : Client) (command : Command) (answer : Answer) → HasStepped before after p command answer → HasAnswered (desk_of before) (desk_of after) p.number command answer
stepped_desk before after p command answer is =
    let closed : after.server.closed ≡ before.server.closed ++ turn_of p.number command answer.reply is.served.log ∷ [] = ap (λ (h : HeadView). h.server.closed) is.served.head in
    let number = is.number in
    record {
      number = is.number;
      reply = is.reply;
      screen = ap (λ (h : HeadView). h.screen) is.served.head;
      limits = ap (λ (h : HeadView). h.server.limits) is.served.head;
      log = is.served.log;
      closed = closed;
      journal = ap journal_of closed ∙ journal_more 1 answer.number before.server.closed (turn_of p.number command answer.reply is.served.log) (omega arith);
      turned = ap (λ (h : HeadView). h.server.turned) is.served.head;
      resting = ap (λ (h : HeadView). h.server.mode) is.served.head;
    }

-- the one that has sat down
pub sat_down : (inner kept sat : HeadView) (p : Client) → kept ≡ inner → inner.sitting ≡ [] → sat ≡ record kept { sitting = kept.sitting ++ p ∷ [] } → sat.sitting ≡ p ∷ []
sat_down inner kept sat p is none seated = ap (λ (h : HeadView). h.sitting) seated ∙ ap (λ (h : HeadView). h.sitting ++ p ∷ []) is ∙ ap (λ (l : List Client). l ++ p ∷ []) none

pub answered_desk : {X : Type 0} (f : X → Answer) (d : DeskView) (inner kept sat stepped then risen : HeadView) (p : Client) (others : List Client) (command : Command) (r : Result X CallStop) → desk_of inner ≡ d → kept ≡ inner → inner.sitting ≡ []
    → sat ≡ record kept { sitting = kept.sitting ++ p ∷ [] } → IfOk r (λ x. HasStepped sat stepped (only sat.sitting) command (f x)) → then ≡ stepped → risen ≡ record then { sitting = others }
    → IfOk r (λ x. HasAnswered d (desk_of risen) p.number command (f x))
answered_desk f d inner kept sat stepped then risen p others command (Err stop) desk is none seated done same rose = tt
answered_desk f d inner kept sat stepped then risen p others command (Ok x) desk is none seated done same rose =
    let answer : Answer = f x in
    let before : desk_of sat ≡ d = ap desk_of seated ∙ ap desk_of is ∙ desk in
    let after : desk_of stepped ≡ desk_of risen = sym (ap desk_of rose ∙ ap desk_of same) in
    let one : only sat.sitting ≡ p = ap only (sat_down inner kept sat p is none seated) in
    subst (λ (y : DeskView). HasAnswered y (desk_of risen) p.number command answer) before (subst (λ (y : DeskView). HasAnswered (desk_of sat) y p.number command answer) after
    (subst (λ (q : Client). HasAnswered (desk_of sat) (desk_of stepped) q.number command answer) one (stepped_desk sat stepped (only sat.sitting) command answer done)))

pub answer_rises : {X : Type 0} (f : X → Answer) (inner kept sat stepped : HeadView) (p : Client) (command : Command) (r : Result X CallStop) → kept ≡ inner → inner.sitting ≡ [] → sat ≡ record kept { sitting = kept.sitting ++ p ∷ [] } → AllSit sat.server sat.sitting
    → IfOk r (λ x. HasStepped sat stepped (only sat.sitting) command (f x)) → IfOk r (λ x. p.seen < (f x).number)
answer_rises f inner kept sat stepped p command (Err stop) is none seated sits done = tt
answer_rises f inner kept sat stepped p command (Ok x) is none seated sits done =
    let here : Sits sat.server p = sits 0 p (ap (λ (l : List Client). get_elem? l 0) (sat_down inner kept sat p is none seated)) in
    let seen = here.seen in let number = done.number in omega arith
