use Rattle.std.proofs.Common.{◌≡◌, ◌∙◌, ap, length, to_z, of_z, w32, arith}
use Rattle.std.proofs.lemmas.Int.{ints}
use Rattle.qws_base.specs.Sheets.{row_of}
use Rattle.picture_rows.proofs.RowLemmas.{row_of_fill}
use Rattle.gfx_fills.specs.Fills.{fill_sheet}
use Rattle.gfx_fills.proofs.fills.FillPicture.row.Goals as goal

pub returns : goal.returns
returns c =
    let x : to_z w32 (of_z w32 c.args.x) ≡ c.args.x = omega (arith, ints) in
    let y : to_z w32 (of_z w32 c.args.y) ≡ c.args.y = omega (arith, ints) in
    row_of_fill c.self.inside.rect c.self.inside.ink c.args.y c.args.x (length c.args.out.now) c.part-from.result.0 c.part-from.result.1 c.fill_run.new.out (rw (x, y) at c.part-from.ensures) c.fill_run.ensures
    ∙ ap (λ v. row_of (fill_sheet v.rect v.ink) c.args.y c.args.x (length c.args.out.now)) c.self.view_is
