use Rattle.std.proofs.Common.{◌≡◌, ◌≤◌, subst, arith}
use Rattle.std.specs.Prelude.{slice_index_or, All}
use Rattle.std.proofs.lemmas.List.{take_all}
use Rattle.std.proofs.lemmas.List.Elements.{All-more}
use Rattle.qws_base.specs.Books.{BookView}
use Rattle.session_journal.specs.Merging.{AreStamps}
use Rattle.qws_rows_shared.proofs.replays.are_all_stamps.Goals as goal

pub loop-k-preserved : goal.loop-k-preserved
loop-k-preserved c =
    let own : AreStamps c.args.last c.index-books-k.result.entries = subst (AreStamps c.args.last) c.entries.ensures (c.are_stamps.ensures c.if-not-are_stamps.false) in
    All-more (λ (book : BookView). AreStamps c.args.last book.entries) c.args.books.now c.loop-k.k c.index-books-k.result c.loop-k-test.true c.loop-k.invariant
    (subst (λ (book : BookView). AreStamps c.args.last book.entries) c.index-books-k.is own)

pub returns : goal.returns
returns c _ = subst (All (λ (book : BookView). AreStamps c.args.last book.entries)) (take_all c.loop-k.k c.args.books.now (omega arith)) c.loop-k.invariant
