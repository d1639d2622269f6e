use Rattle.std.proofs.Common.{rules, ◌≡◌, refl, ap, ◌∙◌, subst, Some}
use Rattle.qws_base.specs.Sheets.{Sheet}
use Rattle.qws_base.specs.declared.replies.PaintReply.TheVariants.{Painted, Gone}
use Rattle.fb_words.specs.Views.{PassView}
use Rattle.shared_painter.specs.Answers.{HasPainted, HasGone}
use Rattle.shared_painter.proofs.Ending.{has_painted, has_gone, painted_back, gone_back}
use Rattle.shared_painter.proofs.painters.try_paint.Goals as goal

pub end-requires-clause-carries : goal.end-requires-clause-carries
end-requires-clause-carries g c = c.in-Some.ensures.answer.carries (record { stamp = c.stamp-stamp.result; slot = c.slot-slot.result; tag = c.args.tag; reply = Painted c.in-Some.field-0.pixels }) c.slot-slot.ensures.value refl

pub end-requires-in-None-clause-carries : goal.end-requires-in-None-clause-carries
end-requires-in-None-clause-carries g c = c.in-None.ensures.answer.carries (record { stamp = c.stamp-stamp.result; slot = c.slot-slot.result; tag = c.args.tag; reply = Gone }) c.slot-slot.ensures.value refl

pub returns-in-Some-clause-answer : goal.returns-in-Some-clause-answer
returns-in-Some-clause-answer g c =
    let sheet : Sheet = g.P.Picture.sheet c.args.picture.now in
    let e = c.paint_in_turn.ensures in
    let all : (a : PassView) → c.end.new.self.1.0 ≡ a → HasPainted c.args.pass.now a c.args.clip.now c.paint_in_turn.new.clip sheet c.args.tag record { stamp = c.stamp-stamp.result; pixels = c.in-Some.field-0.pixels; fetched = c.in-Some.field-0.fetched } =
    λ a is. subst (λ (x : PassView). HasPainted c.args.pass.now x c.args.clip.now c.paint_in_turn.new.clip sheet c.args.tag record { stamp = c.stamp-stamp.result; pixels = c.in-Some.field-0.pixels; fetched = c.in-Some.field-0.fetched }) is
    (has_painted c.args.pass.now c.in-Ok.turn.pass.now c.paint_in_turn.new.turn.pass.now c.end.new.self.1.0 c.args.clip.now c.paint_in_turn.new.clip sheet c.args.tag c.in-Ok.turn.stamp c.stamp-stamp.result c.slot-slot.result c.in-Some.field-0
    c.in-Ok.ensures.open.1 e.same.3 e.same.4 c.in-Ok.ensures.seen.0 (e.open.2 ∙ ap (λ n. Some n) e.same.2) c.stamp-stamp.ensures c.slot-slot.ensures.value c.in-Some.ensures.answer c.end.ensures.pass c.end.ensures.kept) in
    all _ (search rules)

pub returns-in-None-clause-answer : goal.returns-in-None-clause-answer
returns-in-None-clause-answer g c =
    let sheet : Sheet = g.P.Picture.sheet c.args.picture.now in
    let e = c.paint_in_turn.ensures in
    let all : (a : PassView) → c.end-in-None.new.self.1.0 ≡ a → HasGone c.args.pass.now a c.args.clip.now sheet c.args.tag c.stamp-stamp.result =
    λ a is. subst (λ (x : PassView). HasGone c.args.pass.now x c.args.clip.now sheet c.args.tag c.stamp-stamp.result) is
    (has_gone c.args.pass.now c.in-Ok.turn.pass.now c.paint_in_turn.new.turn.pass.now c.end-in-None.new.self.1.0 c.args.clip.now c.paint_in_turn.new.clip sheet c.args.tag c.in-Ok.turn.stamp c.stamp-stamp.result c.slot-slot.result
    c.in-Ok.ensures.open.1 e.same.3 e.same.4 c.in-Ok.ensures.seen.0 (e.open.2 ∙ ap (λ n. Some n) e.same.2) c.stamp-stamp.ensures c.slot-slot.ensures.value c.in-None.ensures.answer c.end-in-None.ensures.pass c.end-in-None.ensures.kept) in
    (c.in-None.ensures.answer.clip_is, all _ (search rules))

pub returns-in-Some-clause-back : goal.returns-in-Some-clause-back
returns-in-Some-clause-back g c = (painted_back c.args.pass.now _ c.args.clip.now c.paint_in_turn.new.clip (g.P.Picture.sheet c.args.picture.now) c.args.tag _ (returns-in-Some-clause-answer g c)).0

pub returns-in-Some-clause-known : goal.returns-in-Some-clause-known
returns-in-Some-clause-known g c = (painted_back c.args.pass.now _ c.args.clip.now c.paint_in_turn.new.clip (g.P.Picture.sheet c.args.picture.now) c.args.tag _ (returns-in-Some-clause-answer g c)).1

pub returns-in-Some-clause-slot : goal.returns-in-Some-clause-slot
returns-in-Some-clause-slot g c = (painted_back c.args.pass.now _ c.args.clip.now c.paint_in_turn.new.clip (g.P.Picture.sheet c.args.picture.now) c.args.tag _ (returns-in-Some-clause-answer g c)).2

pub returns-in-None-clause-back : goal.returns-in-None-clause-back
returns-in-None-clause-back g c = (gone_back c.args.pass.now _ c.args.clip.now c.paint_in_turn.new.clip (g.P.Picture.sheet c.args.picture.now) c.args.tag _ (returns-in-None-clause-answer g c)).0

pub returns-in-None-clause-known : goal.returns-in-None-clause-known
returns-in-None-clause-known g c = (gone_back c.args.pass.now _ c.args.clip.now c.paint_in_turn.new.clip (g.P.Picture.sheet c.args.picture.now) c.args.tag _ (returns-in-None-clause-answer g c)).1

pub returns-in-None-clause-slot : goal.returns-in-None-clause-slot
returns-in-None-clause-slot g c = (gone_back c.args.pass.now _ c.args.clip.now c.paint_in_turn.new.clip (g.P.Picture.sheet c.args.picture.now) c.args.tag _ (returns-in-None-clause-answer g c)).2
