use Rattle.std.proofs.Common.{◌≡◌, ◌<◌, ◌≤◌, ◌++◌, ◌∷◌, [], length, refl, ap, sym, subst, ◌∙◌, arith, IfOk, IfErr}
use Rattle.fb_words.specs.declared.known.Call.{Call as OwnCall}
use Rattle.fb_words.specs.declared.known.Call.TheVariants.{Step as OwnStep}
use Rattle.fb_words.specs.declared.known.StepCall.{StepCall}
use Rattle.fb_words.specs.Views.{PassView, paints_in}
use Rattle.qws_base.specs.Sides.{Sides}
use Rattle.qws_base.specs.declared.commands.Command.{Command}
use Rattle.server_desk.specs.Answers.{answered_pass}
use Rattle.server_desk.specs.declared.answers.Answer.{Answer}
use Rattle.shared_desk.specs.Calls.{IsAnsweredIn, SharedStopsAt}
use Rattle.session_script.specs.Calls.{IsFront}
use Rattle.script_names.specs.declared.calls.Call.TheVariants.{Step}
use Rattle.fb_words.specs.Desks.{state_after}
use Rattle.client_session.specs.Runs.{own_entries}
use Rattle.client_session.proofs.Slots.{NamesSlot, answer_names}
use Rattle.client_session.proofs.Tracking.{paints_same}
use Rattle.client_session.proofs.Progress.{step_room, has_line, step_grown, at_step, on_ok, on_err}
use Rattle.client_session.proofs.steps.make_step.Goals as goal

-- the client's call, as it stands among its own
abbrev made : Command → Answer → StepCall
made command answer = record { number = answer.number; command = command; reply = answer.reply }

own : (p q : PassView) (command : Command) (answer : Answer) → q ≡ answered_pass p command answer → q.client.own ≡ p.client.own ++ OwnStep (made command answer) ∷ []
own p q command answer is = ap (λ (x : PassView). x.client.own) is

names_slot : (size : Sides) (client : Rattle.std.proofs.Common.ℕ) (command : Command) (answer : Answer) → IsAnsweredIn size client command answer → NamesSlot answer.reply
names_slot size client command answer h = subst NamesSlot (sym h.reply) (answer_names size (state_after size h.closed) client command)

pub unreachable-requires : goal.unreachable-requires
unreachable-requires g c =
    let p = c.args.caller.pass.client in
    let full = subst (SharedStopsAt p) c.in-JournalFull.is (subst (λ r. IfErr r (λ stop. SharedStopsAt p stop)) c.in-Err.is c.call-caller.ensures.stop) in
    let same = full.0 in
    let fewer = step_room c.args.script.now p c.args.k c.args.names.now c.args.command.now c.requires.at c.requires.call in
    let most = c.requires.limits.steps in omega arith

pub learn-learned-requires : goal.learn-learned-requires
learn-learned-requires g c = has_line c.args.script.now c.args.names.now c.args.k (Step c.args.command.now) c.requires.call

pub returns-clause-at : goal.returns-clause-at
returns-clause-at g c =
    let p = c.args.caller.pass in
    let q = c.call-caller.result.0.pass in
    let command = c.args.command.now in
    let answer = c.in-Ok.answer in
    let is = subst (λ r. IfOk r (λ a. q ≡ answered_pass p command a)) c.in-Ok.is c.call-caller.ensures.pass in
    let low = names_slot c.args.screen.now.setting.size p.client.number command answer (subst (λ r. IfOk r (λ a. IsAnsweredIn c.args.screen.now.setting.size p.client.number command a)) c.in-Ok.is c.call-caller.ensures.answer) in
    on_ok c.learn-learned.result
    (λ told. at_step c.args.script.now p.client q.client c.args.k c.args.names.now c.learn-learned.new.self command (made command answer) c.requires.at c.requires.call refl (ap (λ (x : PassView). x.client.number) is) (own p q command answer is) low c.learn-learned.ensures.client told)
    c.learn-learned.ensures.ok

pub returns-clause-front : goal.returns-clause-front
returns-clause-front g c =
    let p = c.args.caller.pass in
    let q = c.call-caller.result.0.pass in
    let command = c.args.command.now in
    let answer = c.in-Ok.answer in
    let is = subst (λ r. IfOk r (λ a. q ≡ answered_pass p command a)) c.in-Ok.is c.call-caller.ensures.pass in
    let same = ap (λ (x : PassView). x.client.number) is in
    on_err c.learn-learned.result
    (subst (λ n. IsFront c.args.script.now (own_entries q.client) n) same
    (step_grown c.args.script.now p.client q.client c.args.k c.args.names.now command (made command answer) c.requires.at c.requires.call refl same (own p q command answer is)).front)

pub returns-clause-paints : goal.returns-clause-paints
returns-clause-paints g c =
    let p = c.args.caller.pass in
    let is = subst (λ r. IfOk r (λ a. c.call-caller.result.0.pass ≡ answered_pass p c.args.command.now a)) c.in-Ok.is c.call-caller.ensures.pass in
    ap (λ (l : Rattle.std.proofs.Common.List OwnCall). paints_in l) (own p c.call-caller.result.0.pass c.args.command.now c.in-Ok.answer is) ∙ paints_same p.client.own (made c.args.command.now c.in-Ok.answer)
