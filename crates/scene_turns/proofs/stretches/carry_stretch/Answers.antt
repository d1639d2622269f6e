use Rattle.std.proofs.Common.{rules, ◌≡◌, ℕ, ◌+◌, [], ◌∷◌, sym, refl, ap, ◌∙◌, subst, arith}
use Rattle.fb_words.specs.Views.{HeadView, ScreenView}
use Rattle.scene_turns.specs.declared.works.Work.TheVariants.{Carry}
use Rattle.scene_turns.specs.Works.{Works, CanWork}
use Rattle.scene_turns.proofs.Working.{none_done, both_done, stretch_part, no_stretch, whole_stretch, stretch_more}
use Rattle.scene_turns.proofs.stretches.carry_stretch.Goals as goal

pub loop-j-init : goal.loop-j-init
loop-j-init c = let a = c.args.turn.now.head.now.server.log in record {
  same = search rules;
  is_open = c.requires.open;
  head = refl;
  log = subst (λ l. Works (Carry c.args.falling c.args.by) l a a) (sym (no_stretch c.args.falling c.args.first c.args.count)) (none_done (Carry c.args.falling c.args.by) a);
  true_log = λ t. t;
}

pub carry_pixel-requires-clause-can : goal.carry_pixel-requires-clause-can
carry_pixel-requires-clause-can c =
    let i = c.loop-j.invariant in
    let within = c.pixel_place.ensures.within in
    let p : ℕ = c.args.first + c.pixel_place.result in
    subst (λ (s : ScreenView). CanWork s.setting (Carry c.args.falling c.args.by) p) (sym i.same.1) (c.requires.can p (omega arith) (omega arith))

pub loop-j-preserved : goal.loop-j-preserved
loop-j-preserved c = let i = c.loop-j.invariant in let e = c.carry_pixel.ensures in
    let a = c.args.turn.now.head.now.server.log in
    let b = c.loop-j.turn.head.now.server.log in
    let d = c.carry_pixel.new.turn.head.now.server.log in
    let p : ℕ = c.args.first + c.pixel_place.result in
    record {
      same = search rules;
      is_open = e.open;
      head = e.head ∙ ap (λ (h : HeadView). record h { server = record h.server { log = d } }) i.head;
      log = subst (λ l. Works (Carry c.args.falling c.args.by) l a d) (sym (stretch_more c.args.falling c.args.first c.args.count c.loop-j.j p (ap (λ n. c.args.first + n) c.pixel_place.ensures.value)))
          (both_done (Carry c.args.falling c.args.by) (stretch_part c.args.falling c.args.first c.args.count c.loop-j.j) (p ∷ []) a b d i.log e.log);
      true_log = λ t. e.true_log (i.true_log t);
    }

pub returns-clause-log : goal.returns-clause-log
returns-clause-log c = let i = c.loop-j.invariant in let end = c.loop-j.auto.j-end in let test = c.loop-j-test.false in
    subst (λ l. Works (Carry c.args.falling c.args.by) l c.args.turn.now.head.now.server.log c.loop-j.turn.head.now.server.log)
    (ap (stretch_part c.args.falling c.args.first c.args.count) (let z : c.loop-j.j ≡ c.args.count = omega arith in z) ∙ whole_stretch c.args.falling c.args.first c.args.count) i.log
