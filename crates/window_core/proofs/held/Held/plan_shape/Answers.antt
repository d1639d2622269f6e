use Rattle.std.proofs.Common.{◌≡◌, ◌∙◌, None, Some, [], ◌∷◌, ap, sym, refl}
use Rattle.std.specs.Arc.{arc_value}
use Rattle.std.specs.Option.{option_map_or}
use Rattle.qws_base.specs.Refusals.{bad_shape, first_of}
use Rattle.qws_base.specs.declared.windows.Cursor.{Cursor}
use Rattle.qws_base.specs.declared.commands.Command.TheVariants.{CursorShape}
use Rattle.qws_base.specs.declared.replies.Reply.TheVariants.{Refused, Done}
use Rattle.window_core.proofs.MailPlanLemmas.{if_pointed, if_refused, cursor_with, same_cursor}
use Rattle.window_core.proofs.held.Held.plan_shape.Goals as goal

pub returns-in-Some : goal.returns-in-Some
returns-in-Some c =
    let held = c.args.self.now in
    let bad : Some c.in-Some.cause ≡ bad_shape c.args.w c.args.h c.args.cells.now = c.in-Some.ensures ∙ ap (bad_shape c.args.w c.args.h) c.as_slice.ensures in
    if_refused held c.args.client (CursorShape c.args.w c.args.h c.args.cells.now) c.in-Some.cause c.refused.result
    (ap (λ cause. option_map_or (λ r. Refused r) (first_of (cause ∷ [])) Done) (sym bad)) c.refused.ensures

pub returns : goal.returns
returns c =
    let held = c.args.self.now in
    let good : None ≡ bad_shape c.args.w c.args.h c.args.cells.now = c.in_default.ensures ∙ ap (bad_shape c.args.w c.args.h) c.as_slice.ensures in
    let x = c.deref.result.now.x in
    let y = c.deref-2.result.now.y in
    let cells = c.in_ok-copy.field-0 in
    let shown = c.deref-3.result.now.shown in
    let copy : cells ≡ c.args.cells.now = c.in_ok-copy.ensures in
    if_pointed held c.args.client (CursorShape c.args.w c.args.h c.args.cells.now) (cursor_with x y c.args.w c.args.h cells shown) c.pointed.result
    (record {
      other = refl;
      windows = refl;
      slots = c.requires.slots;
      answered = ap (λ cause. option_map_or (λ r. Refused r) (first_of (cause ∷ [])) Done) (sym good);
      accepted = refl;
      can = tt;
      mail = refl;
    })
    (same_cursor (record (arc_value held.cursor) { w = c.args.w; h = c.args.h; cells = c.args.cells.now }) x y c.args.w c.args.h cells shown
    (ap (λ (k : Cursor). k.x) c.deref.ensures) (ap (λ (k : Cursor). k.y) c.deref-2.ensures) refl refl copy (ap (λ (k : Cursor). k.shown) c.deref-3.ensures))
    c.pointed.ensures.reply c.pointed.ensures.change c.pointed.ensures.windows c.pointed.ensures.revisions c.pointed.ensures.risen c.pointed.ensures.cursor
