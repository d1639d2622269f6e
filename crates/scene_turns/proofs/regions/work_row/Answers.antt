use Rattle.std.proofs.Common.{rules, ◌≡◌, ℕ, Bool, length, sym, refl, ap, ◌∙◌, subst, arith}
use Rattle.std.specs.Prelude.{slice_index_or}
use Rattle.std.proofs.lemmas.List.Folds.{list_any_at}
use Rattle.qws_base.specs.Points.{holds, point_of}
use Rattle.qws_base.specs.declared.points.Rect.{Rect}
use Rattle.fb_words.specs.Views.{HeadView, ScreenView}
use Rattle.scene_turns.specs.Works.{Works, CanWork, is_falling, place}
use Rattle.scene_turns.specs.Sweeps.{rect_row, row_part, no_rect}
use Rattle.scene_turns.proofs.Working.{none_done, both_done, pieces_more}
use Rattle.scene_turns.proofs.regions.work_row.Goals as goal

pub loop-j-init : goal.loop-j-init
loop-j-init c = let a = c.args.turn.now.head.now.server.log in record {
  same = search rules;
  is_open = c.requires.open;
  head = refl;
  log = none_done c.args.work a;
  true_log = λ t. t;
}

pub work_rect_row-requires-clause-size : goal.work_rect_row-requires-clause-size
work_rect_row-requires-clause-size c = c.requires.size ∙ sym (ap (λ (s : ScreenView). s.setting.size) c.loop-j.invariant.same.1)

pub work_rect_row-requires-clause-within : goal.work_rect_row-requires-clause-within
work_rect_row-requires-clause-within c = let low = c.rect_place.ensures.within in
    c.requires.within c.rect_place.result (record { x = _; y = _; w = _; h = _ }) low

pub work_rect_row-requires-clause-can : goal.work_rect_row-requires-clause-can
work_rect_row-requires-clause-can c = λ p within holds_it. let i = c.loop-j.invariant in let low = c.rect_place.ensures.within in
    subst (λ (s : ScreenView). CanWork s.setting c.args.work p) (sym i.same.1)
    (c.requires.can p within (list_any_at (λ (r : Rect). holds r (point_of c.args.size.w p)) c.args.rects.now c.rect_place.result no_rect low holds_it))

pub loop-j-preserved : goal.loop-j-preserved
loop-j-preserved c = let i = c.loop-j.invariant in let e = c.work_rect_row.ensures in
    let a = c.args.turn.now.head.now.server.log in
    let b = c.loop-j.turn.head.now.server.log in
    let d = c.work_rect_row.new.turn.head.now.server.log in
    let f : Bool = is_falling c.args.work in
    let piece = λ (j : ℕ). rect_row f c.args.size.w c.args.y (slice_index_or c.args.rects.now (place f (length c.args.rects.now) j) no_rect) in
    let at : c.rect_place.result ≡ place f (length c.args.rects.now) c.loop-j.j = c.rect_place.ensures.value ∙ ap (λ b. place b (length c.args.rects.now) c.loop-j.j) c.is_falling-falling.ensures in
    record {
      same = search rules;
      is_open = e.open;
      head = e.head ∙ ap (λ (h : HeadView). record h { server = record h.server { log = d } }) i.head;
      log = subst (λ l. Works c.args.work l a d) (sym (pieces_more piece c.loop-j.j))
          (both_done c.args.work (row_part f c.args.size.w c.args.rects.now c.args.y c.loop-j.j) (piece c.loop-j.j) a b d i.log
          (subst (λ k. Works c.args.work (rect_row f c.args.size.w c.args.y (slice_index_or c.args.rects.now k no_rect)) b d) at e.log));
      true_log = λ t. e.true_log (i.true_log t);
    }

pub returns-clause-log : goal.returns-clause-log
returns-clause-log c = let i = c.loop-j.invariant in let end = c.loop-j.auto.j-end in let test = c.loop-j-test.false in
    subst (λ n. Works c.args.work (row_part (is_falling c.args.work) c.args.size.w c.args.rects.now c.args.y n) c.args.turn.now.head.now.server.log c.loop-j.turn.head.now.server.log)
    (let z : c.loop-j.j ≡ length c.args.rects.now = omega arith in z) i.log
