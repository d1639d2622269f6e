use Rattle.std.proofs.Common.{◌≡◌, ℕ, List, [], ◌++◌, length, take, map, get_or, sym, ap, ◌∙◌, subst, arith}
use Rattle.std.proofs.lemmas.List.{get_or_default, length-take-le, length-map}
use Rattle.std.specs.Bool.{Decides}
use Rattle.std.proofs.lemmas.Slice.Eq.{bytes_eq-Decides}
use Rattle.std.proofs.lemmas.Bool.Decides.{not_from_Decides}
use Rattle.script_grammar.specs.Session.{Session}
use Rattle.session_journal.specs.Texts.{comment}
use Rattle.session_journal.specs.Commented.{commented_client}
use Rattle.session_replay.specs.Files.{named_by}
use Rattle.session_replay.specs.declared.callers.Caller.{Caller}
use Rattle.session_replay.specs.Steps.{answer_words, HasLeft, HasNone}
use Rattle.session_replay.proofs.Going.{ready}
use Rattle.session_replay.proofs.Due.{one_left, Tells, call_tells, due_if, undue_if, undue_none}
use Rattle.session_replay.proofs.checks.is_due.Goals as goal

pub returns-in_default-clause-undue : goal.returns-in_default-clause-undue
returns-in_default-clause-undue c = λ told.
    let session : Session = c.args.script.now in
    let lines : List (List ℕ) = c.args.lines.now in
    let k : ℕ = c.args.k in
    let line : List ℕ = c.as_slice-line.result.now in
    let line_is : line ≡ get_or lines k [] = c.as_slice-line.ensures ∙ c.index-lines-k.is ∙ get_or_default lines k _ [] c.requires.below in
    undue_none session lines k line c.args.replay.now c.requires.session c.requires.replay line_is (subst (λ (l : List Caller). HasNone l (commented_client line)) c.deref.ensures.value (c.in_default.ensures {u = tt}))

pub call_next-requires : goal.call_next-requires
call_next-requires c =
    let session : Session = c.args.script.now in
    let lines : List (List ℕ) = c.args.lines.now in
    let k : ℕ = c.args.k in
    let clients : List ℕ = map commented_client (take k lines) in
    let few : length clients ≡ k = length-map (take k lines) commented_client ∙ length-take-le k lines (omega (arith, c.requires.below)) in
    let has : HasLeft c.args.replay.now.callers.items c.in-Some.client = subst (λ (l : List Caller). HasLeft l c.in-Some.client) c.deref.ensures.value c.in-Some.ensures.1 in
    ready session clients c.in-Some.client c.args.replay.now c.requires.session (omega (arith, has.known, c.requires.replay.callers.many))
    (one_left session (named_by session (take k lines)) c.args.replay.now.callers.items c.in-Some.client c.requires.replay.callers has) (omega (arith, few, c.requires.below)) c.requires.replay

pub returns-clause-due : goal.returns-clause-due
returns-clause-due c = λ told.
    let session : Session = c.args.script.now in
    let lines : List (List ℕ) = c.args.lines.now in
    let k : ℕ = c.args.k in
    let line : List ℕ = c.as_slice-line.result.now in
    let line_is : line ≡ get_or lines k [] = c.as_slice-line.ensures ∙ c.index-lines-k.is ∙ get_or_default lines k _ [] c.requires.below in
    let has : HasLeft c.args.replay.now.callers.items c.in-Some.client = subst (λ (l : List Caller). HasLeft l c.in-Some.client) c.deref.ensures.value c.in-Some.ensures.1 in
    let text : c.as_slice.result.now ≡ comment c.in-Some.client c.index.result.now.made (answer_words c.in_ok-answer.answer) = c.as_slice.ensures.value ∙ c.in_ok-push_comment.ensures.text ∙ ap (λ (t : List ℕ). t ++ comment c.in-Some.client c.index.result.now.made (answer_words c.in_ok-answer.answer)) c.clear.ensures.items in
    let tells : Tells session lines k c.as_slice.result.now c.call_next.new.replay =
    call_tells session lines k line c.in-Some.client c.args.replay.now c.call_next.new.replay c.index.result.now c.in_ok-answer.answer c.as_slice.result.now c.requires.below line_is c.in-Some.ensures.0 c.requires.replay has c.index.ensures c.in_ok-answer.ensures text in
    due_if session lines k line c.as_slice.result.now c.call_next.new.replay line_is tells ((bytes_eq-Decides c.as_slice.result.now line).0 (sym c.eq.ensures ∙ told))

pub returns-clause-undue : goal.returns-clause-undue
returns-clause-undue c = λ told.
    let session : Session = c.args.script.now in
    let lines : List (List ℕ) = c.args.lines.now in
    let k : ℕ = c.args.k in
    let line : List ℕ = c.as_slice-line.result.now in
    let line_is : line ≡ get_or lines k [] = c.as_slice-line.ensures ∙ c.index-lines-k.is ∙ get_or_default lines k _ [] c.requires.below in
    let has : HasLeft c.args.replay.now.callers.items c.in-Some.client = subst (λ (l : List Caller). HasLeft l c.in-Some.client) c.deref.ensures.value c.in-Some.ensures.1 in
    let text : c.as_slice.result.now ≡ comment c.in-Some.client c.index.result.now.made (answer_words c.in_ok-answer.answer) = c.as_slice.ensures.value ∙ c.in_ok-push_comment.ensures.text ∙ ap (λ (t : List ℕ). t ++ comment c.in-Some.client c.index.result.now.made (answer_words c.in_ok-answer.answer)) c.clear.ensures.items in
    let tells : Tells session lines k c.as_slice.result.now c.call_next.new.replay =
    call_tells session lines k line c.in-Some.client c.args.replay.now c.call_next.new.replay c.index.result.now c.in_ok-answer.answer c.as_slice.result.now c.requires.below line_is c.in-Some.ensures.0 c.requires.replay has c.index.ensures c.in_ok-answer.ensures text in
    undue_if session lines k line c.as_slice.result.now c.call_next.new.replay line_is tells (not_from_Decides c.eq.result (subst (λ b. Decides b (c.as_slice.result.now ≡ line)) (sym c.eq.ensures) (bytes_eq-Decides c.as_slice.result.now line)) told)

pub returns-clause-replay : goal.returns-clause-replay
returns-clause-replay c = λ told.
    let session : Session = c.args.script.now in
    let lines : List (List ℕ) = c.args.lines.now in
    let k : ℕ = c.args.k in
    let line : List ℕ = c.as_slice-line.result.now in
    let line_is : line ≡ get_or lines k [] = c.as_slice-line.ensures ∙ c.index-lines-k.is ∙ get_or_default lines k _ [] c.requires.below in
    let has : HasLeft c.args.replay.now.callers.items c.in-Some.client = subst (λ (l : List Caller). HasLeft l c.in-Some.client) c.deref.ensures.value c.in-Some.ensures.1 in
    let text : c.as_slice.result.now ≡ comment c.in-Some.client c.index.result.now.made (answer_words c.in_ok-answer.answer) = c.as_slice.ensures.value ∙ c.in_ok-push_comment.ensures.text ∙ ap (λ (t : List ℕ). t ++ comment c.in-Some.client c.index.result.now.made (answer_words c.in_ok-answer.answer)) c.clear.ensures.items in
    let tells : Tells session lines k c.as_slice.result.now c.call_next.new.replay =
    call_tells session lines k line c.in-Some.client c.args.replay.now c.call_next.new.replay c.index.result.now c.in_ok-answer.answer c.as_slice.result.now c.requires.below line_is c.in-Some.ensures.0 c.requires.replay has c.index.ensures c.in_ok-answer.ensures text in
    tells.behind
