use Rattle.std.proofs.Common.{◌≡◌, ℕ, ◌+◌, ◌<◌, ◌/◌, ◌%◌, [], ◌∷◌, List, length, get_or, set, sym, refl, ap, ◌∙◌, subst, arith, pos, ◌-ℤ◌, to_z, of_z, w32}
use Rattle.std.specs.Prelude.{slice_index}
use Rattle.std.specs.List.{filter, range_with_len}
use Rattle.std.proofs.lemmas.Int.{ints}
use Rattle.qws_base.specs.Inks.{ink_after}
use Rattle.qws_base.specs.Points.{pixel_count}
use Rattle.qws_base.specs.Scenes.{ink_on, has_ink}
use Rattle.qws_base.specs.Sheets.{Sheet, row_of}
use Rattle.qws_base.specs.declared.points.Point.{Point}
use Rattle.qws_base.specs.declared.inks.Ink.{Ink}
use Rattle.qws_base.proofs.PixelRows.{range_more, counted_more, few_more, ink_in_row, row_length}
use Rattle.pixel_model.specs.Drawn.{Drawn}
use Rattle.gfx_painters.specs.Plain.{laid}
use Rattle.gfx_painters.proofs.PlainLemmas.{laid-append}
use Rattle.gfx_painters.proofs.plain.paint_row.Goals as goal

pub loop-j-init : goal.loop-j-init
loop-j-init g c =
    let sheet : Sheet = g.P.Picture.sheet c.args.picture.now in
    let x : to_z w32 (of_z w32 (to_z w32 (of_z w32 c.args.at.x) -ℤ to_z w32 (of_z w32 c.args.origin.x))) ≡ c.args.at.x -ℤ c.args.origin.x = omega (arith, ints) in
    let y : to_z w32 (of_z w32 (to_z w32 (of_z w32 c.args.at.y) -ℤ to_z w32 (of_z w32 c.args.origin.y))) ≡ c.args.at.y -ℤ c.args.origin.y = omega (arith, ints) in
    record {
      row = c.row.ensures ∙ ap (λ b. row_of sheet b (to_z w32 (of_z w32 (to_z w32 (of_z w32 c.args.at.x) -ℤ to_z w32 (of_z w32 c.args.origin.x)))) (length c.args.inks.now)) y ∙ ap (λ a. row_of sheet (c.args.at.y -ℤ c.args.origin.y) a (length c.args.inks.now)) x;
      canvas = refl;
      few = omega arith;
      counted = refl;
    }

pub lay-requires : goal.lay-requires
lay-requires g c =
    let i = c.loop-j.invariant in
    let test = c.loop-j-test.true in
    let long = row_length (g.P.Picture.sheet c.args.picture.now) (c.args.at.y -ℤ c.args.origin.y) (c.args.at.x -ℤ c.args.origin.x) (length c.args.inks.now) c.row.new.out i.row in
    let end = c.loop-j.auto.j-end in
    subst (λ (q : Drawn). c.args.first + c.loop-j.j < pixel_count q.setting.size) (sym i.canvas) (let z : c.args.first + c.loop-j.j < pixel_count c.args.canvas.now.setting.size = omega (arith, c.requires.pixels) in z)

pub loop-j-preserved : goal.loop-j-preserved
loop-j-preserved g c =
    let i = c.loop-j.invariant in
    let test = c.loop-j-test.true in
    let end = c.loop-j.auto.j-end in
    let width = c.requires.width in
    let sheet : Sheet = g.P.Picture.sheet c.args.picture.now in
    let old : Drawn = c.args.canvas.now in
    let w : ℕ = old.setting.size.w in
    let f : ℕ = c.args.first in
    let j : ℕ = c.loop-j.j in
    let n : ℕ = length c.args.inks.now in
    let long = row_length sheet (c.args.at.y -ℤ c.args.origin.y) (c.args.at.x -ℤ c.args.origin.x) n c.row.new.out i.row in
    let at_x : c.args.at.x ≡ pos (f % w) = ap (λ (p : Point). p.x) c.requires.at in
    let at_y : c.args.at.y ≡ pos (f / w) = ap (λ (p : Point). p.y) c.requires.at in
    let row : c.row.new.out ≡ row_of sheet (pos (f / w) -ℤ c.args.origin.y) (pos (f % w) -ℤ c.args.origin.x) n = i.row
    ∙ ap (λ b. row_of sheet (b -ℤ c.args.origin.y) (c.args.at.x -ℤ c.args.origin.x) n) at_y ∙ ap (λ a. row_of sheet (pos (f / w) -ℤ c.args.origin.y) (a -ℤ c.args.origin.x) n) at_x in
    let ink_is : (d : Ink) → get_or c.row.new.out j d ≡ ink_on w c.args.origin sheet (f + j) = λ d. ap (λ l. get_or l j d) row ∙ ink_in_row w f j n c.args.origin sheet d (omega arith) (omega arith) in
    let put : c.index-inks-j-in-loop-j.result ≡ ink_on w c.args.origin sheet (f + j) = c.index-inks-j-in-loop-j.is ∙ ink_is _ in
    let ink : Ink = get_or c.row.new.out j c.index-inks-j.result in
    let told : ink ≡ ink_on w c.args.origin sheet (f + j) = ink_is c.index-inks-j.result in
    let laid_now : List ℕ = laid old.setting c.args.origin sheet (range_with_len f j) old.scene in
    let on : Drawn → Ink → Drawn = λ q k. record q { scene = set q.scene (f + j) (ink_after q.setting.depth k (slice_index q.scene (f + j))) } in
    record {
      row = i.row;
      canvas = c.lay.ensures ∙ ap (λ (q : Drawn). on q c.index-inks-j-in-loop-j.result) i.canvas ∙ ap (on (record old { scene = laid_now })) put
          ∙ ap (λ (s : List ℕ). let d : Drawn = record old { scene = s } in d) (sym (ap (λ ps. laid old.setting c.args.origin sheet ps old.scene) (range_more f j) ∙ laid-append old.setting c.args.origin sheet (range_with_len f j) ((f + j) ∷ []) old.scene));
      few = few_more c.loop-j.count j c.inked-count.result ink i.few c.inked-count.ensures;
      counted = counted_more w c.args.origin sheet f j c.loop-j.count c.inked-count.result ink i.counted c.inked-count.ensures told;
    }

pub returns-clause-canvas : goal.returns-clause-canvas
returns-clause-canvas g c =
    let i = c.loop-j.invariant in
    let test = c.loop-j-test.false in
    let end = c.loop-j.auto.j-end in
    let sheet : Sheet = g.P.Picture.sheet c.args.picture.now in
    let long = row_length sheet (c.args.at.y -ℤ c.args.origin.y) (c.args.at.x -ℤ c.args.origin.x) (length c.args.inks.now) c.row.new.out i.row in
    i.canvas ∙ ap (λ (n : ℕ). let d : Drawn = record c.args.canvas.now { scene = laid c.args.canvas.now.setting c.args.origin sheet (range_with_len c.args.first n) c.args.canvas.now.scene } in d) (let z : c.loop-j.j ≡ length c.args.inks.now = omega arith in z)

pub returns-clause-count : goal.returns-clause-count
returns-clause-count g c =
    let i = c.loop-j.invariant in
    let test = c.loop-j-test.false in
    let end = c.loop-j.auto.j-end in
    let long = row_length (g.P.Picture.sheet c.args.picture.now) (c.args.at.y -ℤ c.args.origin.y) (c.args.at.x -ℤ c.args.origin.x) (length c.args.inks.now) c.row.new.out i.row in
    i.counted ∙ ap (λ n. length (filter (has_ink c.args.canvas.now.setting.size.w c.args.origin (g.P.Picture.sheet c.args.picture.now)) (range_with_len c.args.first n))) (let z : c.loop-j.j ≡ length c.args.inks.now = omega arith in z)
