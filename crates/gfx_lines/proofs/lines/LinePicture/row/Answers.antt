use Rattle.std.proofs.Common.{◌≡◌, [], ◌∷◌, length, cond, to_z, of_z, w32, arith, subst, sym, ap}
use Rattle.std.proofs.lemmas.Int.{ints}
use Rattle.qws_base.specs.declared.inks.Ink.TheVariants.{Skip, Copy}
use Rattle.qws_base.specs.Sheets.{row_of}
use Rattle.picture_rows.specs.Boxes.{closed_reach}
use Rattle.picture_rows.proofs.RowLemmas.{inked_as, row_of_test}
use Rattle.gfx_lines.specs.Lines.{on_line}
use Rattle.gfx_lines.specs.Strokes.{line_sheet}
use Rattle.gfx_lines.proofs.ColumnLemmas.{line_run}
use Rattle.gfx_lines.proofs.ReachLemmas.{ends_within}
use Rattle.gfx_lines.proofs.lines.LinePicture.row.Goals as goal

pub returns : goal.returns
returns c =
    let y : to_z w32 (of_z w32 c.args.y) ≡ c.args.y = omega (arith, ints) in
    let x : to_z w32 (of_z w32 c.args.x) ≡ c.args.x = omega (arith, ints) in
    let l = c.self.inside in
    let left : to_z w32 (of_z w32 c.line_columns-left.result.0) ≡ c.line_columns-left.result.0 = omega (arith, ints, c.line_columns-left.type_inv) in
    let run = line_run l.from l.to c.args.y c.args.x c.line_columns-left.result.0 c.line_columns-left.result.1 (length c.args.out.now) c.span-first.result.0 c.span-first.result.1
    (rw y at c.line_columns-left.ensures) (rw (x, left) at c.span-first.ensures) in
    subst (λ v. c.fill_run.new.out ≡ row_of (line_sheet v) c.args.y c.args.x (length c.args.out.now)) c.self.view_is
    (row_of_test (closed_reach (l.from ∷ l.to ∷ [])) (on_line l.from l.to) (Copy l.colour) c.args.y c.args.x (length c.args.out.now) c.fill_run.new.out (ends_within l.from l.to)
    (inked_as (length c.args.out.now) _ _ c.fill_run.new.out (λ k below. ap (λ t. cond t (Copy l.colour) Skip) (sym (run.at k below))) c.fill_run.ensures))
