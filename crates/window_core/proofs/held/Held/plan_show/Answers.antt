use Rattle.std.proofs.Common.{◌≡◌, ◌∙◌, ap, refl}
use Rattle.std.specs.Arc.{arc_value}
use Rattle.qws_base.specs.declared.windows.Cursor.{Cursor}
use Rattle.qws_base.specs.declared.commands.Command.TheVariants.{CursorShow}
use Rattle.window_core.proofs.MailPlanLemmas.{if_pointed, cursor_with, same_cursor}
use Rattle.window_core.proofs.held.Held.plan_show.Goals as goal

pub returns : goal.returns
returns c =
    let held = c.args.self.now in
    let x = c.deref.result.now.x in
    let y = c.deref-2.result.now.y in
    let w = c.deref-3.result.now.w in
    let h = c.deref-4.result.now.h in
    let cells = c.in_ok-copy.field-0 in
    let copy : cells ≡ c.deref-5.result.now.cells = c.in_ok-copy.ensures in
    if_pointed held c.args.client (CursorShow c.args.shown) (cursor_with x y w h cells c.args.shown) c.pointed.result
    (record { other = refl; windows = refl; slots = c.requires.slots; answered = refl; accepted = refl; can = tt; mail = refl })
    (same_cursor (record (arc_value held.cursor) { shown = c.args.shown }) x y w h cells c.args.shown
    (ap (λ (k : Cursor). k.x) c.deref.ensures) (ap (λ (k : Cursor). k.y) c.deref-2.ensures) (ap (λ (k : Cursor). k.w) c.deref-3.ensures) (ap (λ (k : Cursor). k.h) c.deref-4.ensures)
    (copy ∙ ap (λ (k : Cursor). k.cells) c.deref-5.ensures) refl)
    c.pointed.ensures.reply c.pointed.ensures.change c.pointed.ensures.windows c.pointed.ensures.revisions c.pointed.ensures.risen c.pointed.ensures.cursor
