use Rattle.std.proofs.Common.{rules}
use Rattle.qws_rows_threads.specs.Tokens.{IsHead}
use Rattle.qws_rows_threads.proofs.word_rows.opening_words.Goals as goal

pub stamp-requires-clause-head : goal.stamp-requires-clause-head
stamp-requires-clause-head g c =
    let first : IsHead c.in-Ok.turn.screen.now 1 c.in-Ok.turn.head.now = search rules in
    let head = c.read-cell.ensures.head 1 (c.read-shape.ensures.head 1 (c.read-place.ensures.head 1 (c.read-stamp_found.ensures.head 1 first))) in
    let row = c.read-count.ensures.head 1 (c.read-origin.ensures.head 1 (c.read-revision.ensures.head 1 (c.read-owner.ensures.head 1 head))) in
    c.read-pixel.ensures.head 1 (c.read-saved.ensures.head 1 (c.read-rect.ensures.head 1 row))
