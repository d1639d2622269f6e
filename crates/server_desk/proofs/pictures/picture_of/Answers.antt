use Rattle.std.proofs.Common.{◌*◌, [], ◌∷◌, ◌++◌, sym, ap, ◌∙◌, arith}
use Rattle.qws_base.specs.Points.{pixel_count}
use Rattle.qws_base.specs.Scenes.{Setting}
use Rattle.server_desk.proofs.Reading.{read_more, all_read}
use Rattle.server_desk.proofs.pictures.picture_of.Goals as goal

pub loop-p-preserved : goal.loop-p-preserved
loop-p-preserved c = record {
  read = read_more c.reads_find_what_was_written.ensures c.args.head.now c.loop-p.head c.read-word.new.head c.depth-depth.result c.loop-p.shown.items c.push_reserved.new.self.items c.loop-p.p c.read-word.result
      c.requires.here c.loop-p.invariant.read c.read-word.ensures.head c.read-word.ensures.tells (c.push_reserved.ensures.items ∙ ap (λ n. c.loop-p.shown.items ++ n ∷ []) c.shown_word.ensures);
  many = let a = c.push_reserved.ensures.len in let b = c.loop-p.invariant.many in omega arith;
  room = let a = c.push_reserved.ensures.capacity in let b = c.loop-p.invariant.room in omega arith;
}

pub returns : goal.returns
returns c =
    let w = c.w.ensures.value in
    let h = c.h.ensures.value in
    let same = ap (λ (s : Setting). s.size) c.requires.setting in
    all_read c.args.head.now c.loop-p.head c.depth-depth.result c.loop-p.shown.items c.loop-p.p c.from-pixels.result c.loop-p.invariant.read
    (let a = c.loop-p-test.false in let b = c.loop-p.auto.p-end in omega arith)
    (c.from-pixels.ensures ∙ ap (λ n. n * c.h.result) w ∙ ap (λ n. c.size-size.result.w * n) h ∙ ap pixel_count (c.size-size.ensures ∙ sym same))
    (c.depth-depth.ensures ∙ sym (ap (λ (s : Setting). s.depth) c.requires.setting))
