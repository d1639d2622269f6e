use Rattle.std.proofs.Common.{rules, ◌≡◌, ℕ, ◌+◌, List, length, map, sym, refl, ap, ◌∙◌, subst, arith, pos}
use Rattle.std.specs.Prelude.{slice_index}
use Rattle.std.proofs.lemmas.List.{get_or-map}
use Rattle.qws_base.specs.declared.points.Rect.{Rect}
use Rattle.region_table.specs.Numbers.{row_word}
use Rattle.region_table.specs.Packing.{packed}
use Rattle.fb_words.specs.Views.{HeadView}
use Rattle.table_turns.specs.Writes.{Sets}
use Rattle.table_turns.proofs.Setting.{none_set, set_more}
use Rattle.table_turns.proofs.rows.write_rects.Goals as goal

pub loop-j-init : goal.loop-j-init
loop-j-init c = record {
  same = search rules;
  is_open = c.requires.open;
  head = refl;
  words = none_set (row_word c.args.slot + 4) (slice_index (map packed c.args.rects.now)) c.args.turn.now.head.now.server.present;
}

pub loop-j-preserved : goal.loop-j-preserved
loop-j-preserved c = let i = c.loop-j.invariant in let e = c.write_word.ensures in
    let low = c.requires.slot in
    let few = c.requires.few in
    let wide = c.requires.wide in
    let test = c.loop-j-test.true in
    let at = c.row_at-first.ensures in
    let w : List ℕ = c.write_word.new.turn.head.now.server.present in
    let d : Rect = record { x = pos 0; y = pos 0; w = 0; h = 0 } in
    record {
      same = search rules;
      is_open = e.open;
      head = e.head ∙ ap (λ (h : HeadView). record h { server = record h.server { present = w } }) i.head;
      words = set_more (row_word c.args.slot + 4) c.loop-j.j (c.row_at-first.result + 4 + c.loop-j.j) c.pack.result (slice_index (map packed c.args.rects.now)) c.args.turn.now.head.now.server.present c.loop-j.turn.head.now.server.present w
          i.words e.present (omega arith) (omega arith) (c.pack.ensures.word ∙ sym (get_or-map packed c.args.rects.now c.loop-j.j d 0 test));
    }

pub returns-clause-words : goal.returns-clause-words
returns-clause-words c = let i = c.loop-j.invariant in let end = c.loop-j.auto.j-end in let test = c.loop-j-test.false in
    subst (λ n. Sets (row_word c.args.slot + 4) n (slice_index (map packed c.args.rects.now)) c.args.turn.now.head.now.server.present c.loop-j.turn.head.now.server.present) (let z : c.loop-j.j ≡ length c.args.rects.now = omega arith in z) i.words
