use Rattle.std.proofs.Common.{◌≡◌, length, sym, ap, ◌∙◌, subst, arith}
use Rattle.std.specs.List.{filter}
use Rattle.qws_base.specs.Scenes.{has_ink}
use Rattle.qws_base.specs.Sheets.{Sheet}
use Rattle.qws_base.specs.declared.points.Rect.{Rect}
use Rattle.turn_logs.specs.Tables.{IsOnScreen}
use Rattle.display_lock.specs.Turns.{client_in}
use Rattle.picture_cuts.specs.Cuts.{cut_rect}
use Rattle.picture_cuts.proofs.CutPoints.{on_largest}
use Rattle.picture_cuts.proofs.CutPixels.{no_part}
use Rattle.shared_painter.specs.Painted.{PaintsPixels, OwnsRect}
use Rattle.shared_painter.proofs.Cutting.{within_screen, part_on_screen}
use Rattle.shared_painter.proofs.Painting.{none_painted, part_owned}
use Rattle.shared_painter.proofs.rows.paint_part.Goals as goal

pub cut-part-requires : goal.cut-part-requires
cut-part-requires g c = on_largest c.args.size c.args.rect c.w-width.ensures.is_screen (within_screen c.args.size c.args.rect c.requires.on_screen)

pub returns-then-part-eq0-clause-log : goal.returns-then-part-eq0-clause-log
returns-then-part-eq0-clause-log g c =
    let sheet : Sheet = g.P.Picture.sheet c.args.picture.now in
    let none = no_part c.args.size.w (cut_rect c.args.origin c.args.reach c.args.rect) (λ some_w some_h. let e : (cut_rect c.args.origin c.args.reach c.args.rect).w ≡ 0 = ap (λ (r : Rect). r.w) (sym c.cut-part.ensures) ∙ c.if-part-eq0.true in omega arith) in
    subst (λ l. PaintsPixels c.args.origin sheet l (client_in c.args.turn.now) (client_in c.args.turn.now)) (sym none) (none_painted c.args.origin sheet (client_in c.args.turn.now))

pub returns-then-part-eq0-clause-count : goal.returns-then-part-eq0-clause-count
returns-then-part-eq0-clause-count g c =
    let none = no_part c.args.size.w (cut_rect c.args.origin c.args.reach c.args.rect) (λ some_w some_h. let e : (cut_rect c.args.origin c.args.reach c.args.rect).w ≡ 0 = ap (λ (r : Rect). r.w) (sym c.cut-part.ensures) ∙ c.if-part-eq0.true in omega arith) in
    ap (λ l. length (filter (has_ink c.args.size.w c.args.origin (g.P.Picture.sheet c.args.picture.now)) l)) (sym none)

pub returns-then-part-eq0-2-clause-log : goal.returns-then-part-eq0-2-clause-log
returns-then-part-eq0-2-clause-log g c =
    let sheet : Sheet = g.P.Picture.sheet c.args.picture.now in
    let none = no_part c.args.size.w (cut_rect c.args.origin c.args.reach c.args.rect) (λ some_w some_h. let e : (cut_rect c.args.origin c.args.reach c.args.rect).h ≡ 0 = ap (λ (r : Rect). r.h) (sym c.cut-part.ensures) ∙ c.if-part-eq0-2.true in omega arith) in
    subst (λ l. PaintsPixels c.args.origin sheet l (client_in c.args.turn.now) (client_in c.args.turn.now)) (sym none) (none_painted c.args.origin sheet (client_in c.args.turn.now))

pub returns-then-part-eq0-2-clause-count : goal.returns-then-part-eq0-2-clause-count
returns-then-part-eq0-2-clause-count g c =
    let none = no_part c.args.size.w (cut_rect c.args.origin c.args.reach c.args.rect) (λ some_w some_h. let e : (cut_rect c.args.origin c.args.reach c.args.rect).h ≡ 0 = ap (λ (r : Rect). r.h) (sym c.cut-part.ensures) ∙ c.if-part-eq0-2.true in omega arith) in
    ap (λ l. length (filter (has_ink c.args.size.w c.args.origin (g.P.Picture.sheet c.args.picture.now)) l)) (sym none)

pub paint_rect-requires-clause-on_screen : goal.paint_rect-requires-clause-on_screen
paint_rect-requires-clause-on_screen g c = subst (IsOnScreen c.args.size) (sym c.cut-part.ensures)
    (part_on_screen c.args.size c.args.origin c.args.reach c.args.rect c.cut-part.result.w c.cut-part.result.h c.requires.on_screen (ap (λ (r : Rect). r.w) c.cut-part.ensures) (ap (λ (r : Rect). r.h) c.cut-part.ensures) c.if-part-eq0.false c.if-part-eq0-2.false)

pub paint_rect-requires-clause-owns : goal.paint_rect-requires-clause-owns
paint_rect-requires-clause-owns g c = subst (OwnsRect (client_in c.args.turn.now)) (sym c.cut-part.ensures) (part_owned (client_in c.args.turn.now) c.args.origin c.args.reach c.args.rect c.requires.owns)
