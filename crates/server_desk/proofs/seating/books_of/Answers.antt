use Rattle.std.proofs.Common.{◌∷◌, [], ◌++◌, List, ap, ◌∙◌, sym, arith}
use Rattle.std.proofs.lemmas.List.FromFn.{map-range_with_len_more}
use Rattle.qws_base.specs.Books.{BookView}
use Rattle.server_desk.specs.Sessions.{book_among, books_among}
use Rattle.server_desk.proofs.seating.books_of.Goals as goal

pub loop-client-preserved : goal.loop-client-preserved
loop-client-preserved c =
    c.in_ok-push.ensures.items ∙ ap (λ (l : List BookView). l ++ c.in_ok-book.book ∷ []) c.loop-client.invariant
    ∙ ap (λ (b : BookView). books_among c.args.passes.now c.loop-client.client ++ b ∷ []) c.in_ok-book.ensures
    ∙ sym (map-range_with_len_more (book_among c.args.passes.now) 0 c.loop-client.client c.loop-client.client (omega arith))
