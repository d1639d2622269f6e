use Rattle.std.proofs.Common.{◌≡◌, Err, sym}
use Rattle.qws_base.specs.declared.points.Rect.{Rect}
use Rattle.script_grammar.specs.Spelling.{place_read, side_read}
use Rattle.script_grammar.specs.Words.{placed_rect_read}
use Rattle.script_words.specs.Judged.{joined4}
use Rattle.script_words.proofs.Joins.{four_err}
use Rattle.script_words.proofs.groups.placed_rect.Goals as goal

pub returns-in-Err : goal.returns-in-Err
unfolding placed_rect_read
returns-in-Err c =
    let read : joined4 (place_read c.args.x.now) (place_read c.args.y.now) (side_read c.args.w.now) (side_read c.args.h.now) ≡ Err c.in-Err.cause = cc (c.in-Err.is, c.join4.ensures.value, c.place.ensures, c.place-2.ensures, c.side.ensures, c.side-2.ensures) in
    sym (four_err (λ x y w h. let r : Rect = record { x = x; y = y; w = w; h = h } in r) (place_read c.args.x.now) (place_read c.args.y.now) (side_read c.args.w.now) (side_read c.args.h.now) c.in-Err.cause read)
