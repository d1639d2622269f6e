use Rattle.server_desk.proofs.Called.{can_rise}
use Rattle.server_desk.proofs.Stepped.{sitter, halts, few_made}
use Rattle.server_desk.proofs.Waiting.{draft_for}
use Rattle.server_desk.proofs.kept.Kept.prepare.Goals as goal

pub bounds-self-inside-at : goal.bounds-self-inside-at
bounds-self-inside-at c =
    let k = c.self.inside in
    let p = sitter k.head c.args.self.now k.journal.items k.connected k.made k.left k.room _ c.args.client c.self.view_is c.requires.one c.requires.sits c.self.invariant.1 c.requires.client in
    p.few

pub bounds-self-inside-at-2 : goal.bounds-self-inside-at-2
bounds-self-inside-at-2 c =
    let k = c.self.inside in
    let p = sitter k.head c.args.self.now k.journal.items k.connected k.made k.left k.room _ c.args.client c.self.view_is c.requires.one c.requires.sits c.self.invariant.1 c.requires.client in
    p.few

pub make_draft-requires-clause-client : goal.make_draft-requires-clause-client
make_draft-requires-clause-client c =
    let k = c.self.inside in
    let p = sitter k.head c.args.self.now k.journal.items k.connected k.made k.left k.room _ c.args.client c.self.view_is c.requires.one c.requires.sits c.self.invariant.1 c.requires.client in
    p.few

pub make_draft-requires-clause-room : goal.make_draft-requires-clause-room
make_draft-requires-clause-room c =
    let k = c.self.inside in
    can_rise k.head k.core k.journal.items k.connected k.made k.left k.room _ c.self.invariant.0 c.self.invariant.1

pub returns-in-Ok-clause-draft : goal.returns-in-Ok-clause-draft
returns-in-Ok-clause-draft c =
    let k = c.self.inside in
    draft_for k.head c.args.self.now k.core c.args.client c.args.command.now c.in-Ok.draft c.self.view_is c.self.invariant.0 c.requires.client c.in-Ok.ensures.draft

pub returns-in-Ok-clause-few : goal.returns-in-Ok-clause-few
returns-in-Ok-clause-few c =
    let k = c.self.inside in
    let p = sitter k.head c.args.self.now k.journal.items k.connected k.made k.left k.room _ c.args.client c.self.view_is c.requires.one c.requires.sits c.self.invariant.1 c.requires.client in
    few_made k.head.server k.made k.left c.args.client _ p c.in-Ok.ensures.left

pub returns-in-Err-clause-stopped : goal.returns-in-Err-clause-stopped
returns-in-Err-clause-stopped c =
    let k = c.self.inside in
    let p = sitter k.head c.args.self.now k.journal.items k.connected k.made k.left k.room _ c.args.client c.self.view_is c.requires.one c.requires.sits c.self.invariant.1 c.requires.client in
    halts k.head c.args.self.now c.withdraw.new.head k.head.server k.made k.left c.args.client c.in-Err.stop c.self.view_is p c.in-Err.ensures.stop c.withdraw.ensures
