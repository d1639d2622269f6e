use Rattle.std.proofs.Common.{◌≡◌, Result, Err, ap, sym}
use Rattle.gfx_fills.specs.Images.{ImageView}
use Rattle.script_grammar.specs.Judging.{◌>>=◌}
use Rattle.script_grammar.specs.Words.{ranged, pixels_read}
use Rattle.script_grammar.specs.Lines.{whole_image}
use Rattle.script_grammar.specs.declared.lines.Cause.{Cause}
use Rattle.script_words.specs.Judged.{joined3}
use Rattle.script_words.proofs.Joins.{three_err}
use Rattle.script_lines.proofs.images.image.Goals as goal

pub returns-in-Err : goal.returns-in-Err
returns-in-Err c =
    let read : joined3 (ranged 1 256 c.args.w.now) (ranged 1 256 c.args.h.now) (pixels_read c.args.pixel_word.now) ≡ Err c.in-Err.cause = cc (c.in-Err.is, c.join3.ensures.value, c.ranged.ensures.value, c.ranged-2.ensures.value, c.in_ok-pixels.ensures) in
    sym (ap (λ (r : Result ImageView Cause). r >>= whole_image) (three_err (λ w h pixels. let i : ImageView = record { w = w; h = h; pixels = pixels } in i) (ranged 1 256 c.args.w.now) (ranged 1 256 c.args.h.now) (pixels_read c.args.pixel_word.now) c.in-Err.cause read))
