use Rattle.std.proofs.Common.{◌+◌, ◌<◌, length, arith, refl, sym, ap, ◌∙◌, subst}
use Rattle.qws_base.specs.declared.journals.JournalEntry.{JournalEntry}
use Rattle.server_desk.proofs.Called.{made_few, next_number}
use Rattle.server_desk.proofs.Stepped.{sitter, listed_served, stepped_so, some_left, some_room}
use Rattle.server_desk.proofs.Waiting.{draft_of}
use Rattle.server_desk.proofs.kept.Kept.carry_out.Goals as goal

pub serve-requires-clause-belongs : goal.serve-requires-clause-belongs
serve-requires-clause-belongs c =
    let k = c.self.inside in
    (draft_of k.head c.args.self.now k.core c.args.draft.plan.command c.args.draft c.self.view_is c.self.invariant.0 c.requires.draft).belongs

pub serve-requires-clause-changes : goal.serve-requires-clause-changes
serve-requires-clause-changes c =
    let k = c.self.inside in
    (draft_of k.head c.args.self.now k.core c.args.draft.plan.command c.args.draft c.self.view_is c.self.invariant.0 c.requires.draft).changes

pub serve-requires-clause-client : goal.serve-requires-clause-client
serve-requires-clause-client c =
    let k = c.self.inside in
    let client = c.client-at.result in
    let number = c.client-at.ensures ∙ c.requires.draft.client_is in
    let p = sitter k.head c.args.self.now k.journal.items k.connected k.made k.left k.room _ client c.self.view_is c.requires.one c.requires.sits c.self.invariant.1 number in
    subst (λ n. n < length k.head.server.limits) c.client-at.ensures p.admitted

pub serve-requires-clause-number : goal.serve-requires-clause-number
serve-requires-clause-number c =
    let k = c.self.inside in
    ap (λ n. n + 1) (c.len.ensures ∙ k.journal.ok.0 ∙ next_number k.head.server k.journal.items k.connected k.made k.left k.room _ c.self.invariant.1)

pub overflow_add-self : goal.overflow_add-self
overflow_add-self c =
    let k = c.self.inside in
    let client = c.client-at.result in
    let number = c.client-at.ensures ∙ c.requires.draft.client_is in
    let p = sitter k.head c.args.self.now k.journal.items k.connected k.made k.left k.room _ client c.self.view_is c.requires.one c.requires.sits c.self.invariant.1 number in
    let few = made_few k.head.server k.journal.items k.connected k.made k.left k.room _ client c.self.invariant.1 p.few in
    omega arith

pub invariant_of-self : goal.invariant_of-self
invariant_of-self c =
    let k = c.self.inside in
    let client = c.client-at.result in
    let number = c.client-at.ensures ∙ c.requires.draft.client_is in
    let p = sitter k.head c.args.self.now k.journal.items k.connected k.made k.left k.room _ client c.self.view_is c.requires.one c.requires.sits c.self.invariant.1 number in
    let e = c.in-Ok.ensures in (
      e.current,
      listed_served k.head c.serve.new.head c.in-Ok.both.0 e.served k.journal.items c.push_reserved.new.self.items k.connected k.made k.left k.room _ _ client c.self.invariant.1
          (ap (λ (x : JournalEntry). x.client) e.entry ∙ sym c.client-at.ensures) p.admitted (some_left k.head.server k.made k.left client _ p c.requires.few)
          (ap (λ (x : JournalEntry). x.number) e.entry ∙ ap (λ n. n + 1) (c.len.ensures ∙ k.journal.ok.0 ∙ next_number k.head.server k.journal.items k.connected k.made k.left k.room _ c.self.invariant.1))
          c.push_reserved.ensures.items c.push_reserved.ensures.capacity,
    )

pub returns-in-Ok-clause-answered : goal.returns-in-Ok-clause-answered
returns-in-Ok-clause-answered c =
    let k = c.self.inside in
    let client = c.client-at.result in
    let number = c.client-at.ensures ∙ c.requires.draft.client_is in
    let p = sitter k.head c.args.self.now k.journal.items k.connected k.made k.left k.room _ client c.self.view_is c.requires.one c.requires.sits c.self.invariant.1 number in
    let e = c.in-Ok.ensures in
    let d = draft_of k.head c.args.self.now k.core c.args.draft.plan.command c.args.draft c.self.view_is c.self.invariant.0 c.requires.draft in
    stepped_so k.head c.args.self.now c.serve.new.head k.core c.args.draft.plan k.head.server k.made k.left client c.len.result c.args.draft.plan.command c.args.draft.reply c.in-Ok.both.0 c.self.view_is c.self.invariant.0
    p (some_left k.head.server k.made k.left client _ p c.requires.few) (c.len.ensures ∙ k.journal.ok.0 ∙ next_number k.head.server k.journal.items k.connected k.made k.left k.room _ c.self.invariant.1)
    (sym c.client-at.ensures) refl d.reply d.belongs.reply e.entry e.served

pub push_reserved-requires : goal.push_reserved-requires
push_reserved-requires c =
    let k = c.self.inside in
    let client = c.client-at.result in
    let number = c.client-at.ensures ∙ c.requires.draft.client_is in
    let p = sitter k.head c.args.self.now k.journal.items k.connected k.made k.left k.room _ client c.self.view_is c.requires.one c.requires.sits c.self.invariant.1 number in
    let room = some_room k.head.server k.journal.items k.connected k.made k.left k.room _ client c.self.invariant.1 p.few (some_left k.head.server k.made k.left client _ p c.requires.few) in
    let len = k.journal.ok.0 in
    let more = room.1 in
    omega arith

pub overflow_sub-self : goal.overflow_sub-self
overflow_sub-self c =
    let k = c.self.inside in
    let client = c.client-at.result in
    let number = c.client-at.ensures ∙ c.requires.draft.client_is in
    let p = sitter k.head c.args.self.now k.journal.items k.connected k.made k.left k.room _ client c.self.view_is c.requires.one c.requires.sits c.self.invariant.1 number in
    some_left k.head.server k.made k.left client _ p c.requires.few

pub overflow_sub-self-in-Ok : goal.overflow_sub-self-in-Ok
overflow_sub-self-in-Ok c =
    let k = c.self.inside in
    let client = c.client-at.result in
    let number = c.client-at.ensures ∙ c.requires.draft.client_is in
    let p = sitter k.head c.args.self.now k.journal.items k.connected k.made k.left k.room _ client c.self.view_is c.requires.one c.requires.sits c.self.invariant.1 number in
    (some_room k.head.server k.journal.items k.connected k.made k.left k.room _ client c.self.invariant.1 p.few (some_left k.head.server k.made k.left client _ p c.requires.few)).0
