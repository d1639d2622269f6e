use Rattle.std.proofs.Common.{◌≡◌, Err, sym}
use Rattle.qws_base.specs.declared.points.Rect.{Rect}
use Rattle.script_grammar.specs.Words.{short_read, coordinate_read, rect_read}
use Rattle.script_words.specs.Judged.{joined4}
use Rattle.script_words.proofs.Joins.{four_err}
use Rattle.script_words.proofs.groups.signed_rect.Goals as goal

pub returns-in-Err : goal.returns-in-Err
unfolding rect_read
returns-in-Err c =
    let read : joined4 (coordinate_read c.args.x.now) (coordinate_read c.args.y.now) (short_read c.args.w.now) (short_read c.args.h.now) ≡ Err c.in-Err.cause = cc (c.in-Err.is, c.join4.ensures.value, c.coordinate.ensures, c.coordinate-2.ensures, c.short.ensures, c.short-2.ensures) in
    sym (four_err (λ x y w h. let r : Rect = record { x = x; y = y; w = w; h = h } in r) (coordinate_read c.args.x.now) (coordinate_read c.args.y.now) (short_read c.args.w.now) (short_read c.args.h.now) c.in-Err.cause read)
