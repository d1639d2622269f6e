use Rattle.std.proofs.Common.{◌≡◌, ◌<◌, length, map, get_or, sym, ap, subst, ◌∙◌, IfOk}
use Rattle.server_desk.specs.Sessions.{history_in}
use Rattle.session_journal.specs.Grammar.{IsFile}
use Rattle.session_journal.specs.Merging.{AreStamps, step_of, paints_of}
use Rattle.session_journal.specs.Texts.{told, file_of_entries}
use Rattle.qws_base.specs.Merges.{merged}
use Rattle.session_run.proofs.Merging.{book_stamps}
use Rattle.session_run.proofs.Closing.{run_file}
use Rattle.session_run.proofs.sessions.run_session.Goals as goal

pub merge-requires : goal.merge-requires
merge-requires g c k d below =
    let closed = c.in_ok-closed.closed in
    let run = c.in_ok-closed.ensures in
    subst (λ js. AreStamps (length js) (get_or c.books.result.now k d).entries) (sym c.journal.ensures)
    (subst (λ bs. AreStamps (length closed.journal) (get_or bs k d).entries) (sym c.books.ensures)
    (book_stamps (length closed.journal) run.clients closed.books run.session.as_many run.session.books run.session.order k d (subst (λ bs. k < length bs) c.books.ensures below)))

pub returns : goal.returns
returns g c =
    let said = c.args.script.now in
    let closed = c.in_ok-closed.closed in
    let run = c.in_ok-closed.ensures in
    run_file said closed run c.in_ok-bytes.bytes.items c.size.result c.in_ok-history.history c.shown.result.now c.size.ensures
    (c.in_ok-history.ensures ∙ (λ i. merged (map step_of (c.journal.ensures i)) (map paints_of (c.books.ensures i)))) c.shown.ensures c.in_ok-bytes.ensures.text
    (λ few pixels. subst (λ r. IfOk r (λ bytes. IsFile bytes.items (file_of_entries c.size.result (map told c.in_ok-history.history) c.shown.result.now))) c.in_ok-bytes.was (c.write_file.ensures.file few pixels))
    (c.runs_are_named.ensures (history_in closed.journal run.clients) run.run)
    (λ one. c.one_run_in_order.ensures.alone one (history_in closed.journal run.clients) run.run)
