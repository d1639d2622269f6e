use Rattle.std.proofs.Common.{◌≡◌, ℕ, ◌*◌, ◌/◌, ◌%◌, ◌^◌, ◌<◌, ◌==◌, sym, ap, ◌∙◌, subst, arith, List}
use Rattle.std.specs.Prelude.{slice_index}
use Rattle.qws_base.specs.Shown.{IsShape}
use Rattle.qws_base.specs.declared.windows.Cursor.{Cursor}
use Rattle.region_table.specs.Numbers.{cell_word}
use Rattle.qws_rows_painters.proofs.Served.{cells_so_far, one_cell_more, all_cells, cell_low, shape_in}
use Rattle.qws_rows_painters.proofs.turns.cursor_in.Goals as goal

pub loop-k-preserved : goal.loop-k-preserved
loop-k-preserved c =
    let words : List ℕ = c.args.words.now in
    let w : ℕ = slice_index words 3 % 65536 in
    let low : slice_index words c.cell_at.result < 2 ^ 32 = cell_low c.args.size words c.loop-k.k c.cell_at.result c.requires.cursor (let a = c.loop-k-test.true in omega arith) c.cell_at.ensures in
    let small : slice_index words c.cell_at.result % 4294967296 ≡ slice_index words c.cell_at.result = omega arith in
    c.in_ok-push.ensures.items ∙ one_cell_more words w c.loop-k.k _ c.loop-k.cells.items c.loop-k.invariant (small ∙ ap (slice_index words) c.cell_at.ensures)

pub returns-clause-cursor : goal.returns-clause-cursor
returns-clause-cursor c =
    let words : List ℕ = c.args.words.now in
    let w : ℕ = slice_index words 3 % 65536 in let h : ℕ = slice_index words 3 / 65536 in
    let z : c.loop-k.k ≡ w * h = (let a = c.loop-k-test.false in let b = c.loop-k.auto.k-end in omega arith) in
    ap (λ l. let r : Cursor = record { x = slice_index words 2 % 65536; y = slice_index words 2 / 65536 % 65536; w = w; h = h; cells = l; shown = slice_index words 2 / 4294967296 == 1 } in r)
    (c.of.ensures ∙ all_cells words w h c.loop-k.cells.items (c.loop-k.invariant ∙ ap (cells_so_far words w) z))

pub returns-clause-shape : goal.returns-clause-shape
returns-clause-shape c =
    let words : List ℕ = c.args.words.now in
    let w : ℕ = slice_index words 3 % 65536 in let h : ℕ = slice_index words 3 / 65536 in
    let z : c.loop-k.k ≡ w * h = (let a = c.loop-k-test.false in let b = c.loop-k.auto.k-end in omega arith) in
    subst IsShape
    (sym (ap (λ l. let r : Cursor = record { x = slice_index words 2 % 65536; y = slice_index words 2 / 65536 % 65536; w = w; h = h; cells = l; shown = slice_index words 2 / 4294967296 == 1 } in r)
    (c.of.ensures ∙ all_cells words w h c.loop-k.cells.items (c.loop-k.invariant ∙ ap (cells_so_far words w) z))))
    (shape_in c.args.size words c.requires.cursor)
