use Rattle.std.proofs.Common.{rules, ◌≡◌, ℕ, Bool, length, sym, refl, ap, ◌∙◌, subst, arith}
use Rattle.fb_words.specs.Views.{HeadView, ScreenView}
use Rattle.scene_turns.specs.Works.{Works, CanWork, is_falling, place}
use Rattle.scene_turns.specs.Sweeps.{row_part, rows_part}
use Rattle.scene_turns.proofs.Working.{none_done, both_done, pieces_more}
use Rattle.scene_turns.proofs.regions.work_rows.Goals as goal

pub loop-j-init : goal.loop-j-init
loop-j-init c = let a = c.args.turn.now.head.now.server.log in record {
  same = search rules;
  is_open = c.requires.open;
  head = refl;
  log = none_done c.args.work a;
  true_log = λ t. t;
}

pub work_row-requires-clause-size : goal.work_row-requires-clause-size
work_row-requires-clause-size c = c.requires.size ∙ sym (ap (λ (s : ScreenView). s.setting.size) c.loop-j.invariant.same.1)

pub work_row-requires-clause-can : goal.work_row-requires-clause-can
work_row-requires-clause-can c = λ p within holds. subst (λ (s : ScreenView). CanWork s.setting c.args.work p) (sym c.loop-j.invariant.same.1) (c.requires.can p within holds)

pub loop-j-preserved : goal.loop-j-preserved
loop-j-preserved c = let i = c.loop-j.invariant in let e = c.work_row.ensures in
    let a = c.args.turn.now.head.now.server.log in
    let b = c.loop-j.turn.head.now.server.log in
    let d = c.work_row.new.turn.head.now.server.log in
    let f : Bool = is_falling c.args.work in
    let n : ℕ = length c.args.rects.now in
    let piece = λ (j : ℕ). row_part f c.args.size.w c.args.rects.now (place f c.args.size.h j) n in
    let y : c.pixel_place-y.result ≡ place f c.args.size.h c.loop-j.j = c.pixel_place-y.ensures.value ∙ ap (λ b. place b c.h-rows.result c.loop-j.j) c.is_falling-falling.ensures ∙ ap (λ m. place f m c.loop-j.j) c.h-rows.ensures.value in
    record {
      same = search rules;
      is_open = e.open;
      head = e.head ∙ ap (λ (h : HeadView). record h { server = record h.server { log = d } }) i.head;
      log = subst (λ l. Works c.args.work l a d) (sym (pieces_more piece c.loop-j.j))
          (both_done c.args.work (rows_part f c.args.size.w c.args.rects.now c.args.size.h c.loop-j.j) (piece c.loop-j.j) a b d i.log
          (subst (λ y. Works c.args.work (row_part f c.args.size.w c.args.rects.now y n) b d) y e.log));
      true_log = λ t. e.true_log (i.true_log t);
    }

pub returns-clause-log : goal.returns-clause-log
returns-clause-log c = let i = c.loop-j.invariant in let end = c.loop-j.auto.j-end in let test = c.loop-j-test.false in let h = c.h-rows.ensures.value in
    subst (λ n. Works c.args.work (rows_part (is_falling c.args.work) c.args.size.w c.args.rects.now c.args.size.h n) c.args.turn.now.head.now.server.log c.loop-j.turn.head.now.server.log)
    (let z : c.loop-j.j ≡ c.args.size.h = omega arith in z) i.log
