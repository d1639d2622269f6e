use Rattle.std.proofs.Common.{◌≡◌, Ok, Err, ◌∙◌}
use Rattle.qws_base.specs.Sides.{Sides}
use Rattle.script_grammar.specs.Spelling.{width_read, height_read}
use Rattle.script_words.specs.Judged.{joined}
use Rattle.script_words.proofs.Sizes.{size_made, size_bad}
use Rattle.script_words.proofs.groups.screen_size.Goals as goal

pub returns-in-Ok : goal.returns-in-Ok
returns-in-Ok c =
    let read : joined (width_read c.args.w.now) (height_read c.args.h.now) ≡ Ok (c.in-Ok.w, c.in-Ok.h) = cc (c.in-Ok.is, c.width.ensures, c.height.ensures, c.join.ensures.value) in
    let size : Sides = record { w = c.in-Ok.w; h = c.in-Ok.h } in
    c.ok_or.ensures.value ∙ size_made c.args.w.now c.args.h.now size c.new.result read c.new.ensures

pub returns-in-Err : goal.returns-in-Err
returns-in-Err c =
    let read : joined (width_read c.args.w.now) (height_read c.args.h.now) ≡ Err c.in-Err.cause = cc (c.in-Err.is, c.width.ensures, c.height.ensures, c.join.ensures.value) in
    size_bad c.args.w.now c.args.h.now c.in-Err.cause read
