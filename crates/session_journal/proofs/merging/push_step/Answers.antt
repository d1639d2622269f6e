use Rattle.std.proofs.Common.{◌≡◌, ◌-◌, ◌<◌, ◌++◌, ◌∷◌, [], List, ℕ, zero, suc, length, get_or, map, ap, sym, ◌∙◌, arith}
use borrow.Author.Tests.{ltb-true}
use Rattle.qws_base.specs.declared.commands.Command.{Command}
use Rattle.qws_base.specs.declared.replies.Reply.{Reply}
use Rattle.qws_base.specs.declared.journals.JournalEntry.{JournalEntry}
use Rattle.qws_base.specs.Merges.{numbered}
use Rattle.session_journal.specs.declared.histories.Entry.{Entry}
use Rattle.session_journal.specs.declared.histories.Entry.TheVariants.{Step}
use Rattle.session_journal.specs.Merging.{step_of}
use Rattle.session_journal.proofs.merging.push_step.Goals as goal

-- the entry at a place
numbered_at : (journal : List JournalEntry) (k : ℕ) (e : JournalEntry) → k < length journal → e ≡ get_or journal k e → numbered (map step_of journal) (suc k) ≡ step_of e ∷ []
numbered_at [] k e within h = absurd (omega arith)
numbered_at (x ∷ journal) zero e within h = ap (λ (x : JournalEntry). step_of x ∷ []) (sym h)
numbered_at (x ∷ journal) (suc k) e within h = numbered_at journal k e (omega arith) h

pub returns-in_ok-push : goal.returns-in_ok-push
returns-in_ok-push c =
    let journal = c.args.journal.now in
    let turn = c.in-Some.turn.now in
    let one : suc (c.args.number - 1) ≡ c.args.number = omega arith in
    c.in_ok-push.ensures.items
    ∙ ap (λ (command : Command). c.args.entries.now.items ++ Step turn.client command c.in_ok-reply.reply ∷ []) c.in_ok-command.ensures
    ∙ ap (λ (reply : Reply). c.args.entries.now.items ++ Step turn.client turn.command reply ∷ []) c.in_ok-reply.ensures
    ∙ ap (λ (some : List Entry). c.args.entries.now.items ++ some) (sym (ap (numbered (map step_of journal)) (sym one) ∙ numbered_at journal (c.args.number - 1) turn (ltb-true (c.args.number - 1) (length journal) (sym c.in-Some.ensures.lookup.0)) c.in-Some.ensures.lookup.1))
