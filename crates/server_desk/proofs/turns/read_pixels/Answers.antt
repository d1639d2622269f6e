use Rattle.std.proofs.Common.{◌+◌, [], ◌∷◌, ◌++◌, inr, ap, ◌∙◌, arith}
use Rattle.region_table.proofs.Words.{kind_law}
use Rattle.server_desk.proofs.Grabbing.{one_more_read}
use Rattle.server_desk.proofs.turns.read_pixels.Goals as goal

pub loop-p-preserved : goal.loop-p-preserved
loop-p-preserved c =
    let inv = c.loop-p.invariant in
    record {
      same = (c.read-word.ensures.same.0 ∙ inv.same.0, c.read-word.ensures.same.1 ∙ inv.same.1);
      open_turn = c.read-word.ensures.open;
      read = one_more_read c.logs_stay_true.ensures c.args.turn.now.head.now c.loop-p.turn.head.now c.read-word.new.self.head.now c.depth-depth.result c.loop-p.shown.items c.push_reserved.new.self.items c.loop-p.p c.read-word.result
          (kind_law.line (10632 + c.loop-p.p) (inr (omega arith))) inv.read c.read-word.ensures.head c.read-word.ensures.tells (c.push_reserved.ensures.items ∙ ap (λ n. c.loop-p.shown.items ++ n ∷ []) c.shown_word.ensures);
      many = let a = c.push_reserved.ensures.len in let b = inv.many in omega arith;
      room = let a = c.push_reserved.ensures.capacity in let b = inv.room in omega arith;
    }
