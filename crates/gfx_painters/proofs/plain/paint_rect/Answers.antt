use Rattle.std.proofs.Common.{◌≡◌, ℕ, ◌+◌, ◌-◌, ◌*◌, ◌/◌, ◌%◌, ◌≤◌, List, length, length-append, length-drop, take, drop, sym, ap, ◌∙◌, subst, arith, ℤ, pos, ◌+ℤ◌, nat_abs, to_z, of_z, w32}
use Rattle.std.specs.List.{filter, range_with_len}
use Rattle.std.proofs.lemmas.Int.{ints}
use Rattle.std.proofs.lemmas.Nat.{mul-add-lt, mul-le}
use Rattle.std.proofs.lemmas.List.{length-take-le}
use Rattle.qws_base.specs.Sides.{Sides}
use Rattle.qws_base.specs.Points.{point_of, pixel_count}
use Rattle.qws_base.specs.Scenes.{has_ink}
use Rattle.qws_base.specs.Sheets.{Sheet}
use Rattle.qws_base.specs.declared.points.Point.{Point}
use Rattle.qws_base.proofs.PixelRows.{rows_of, no_rows, all_rows, row_more, counted_both, more_columns, end_in, rect_place}
use Rattle.pixel_model.specs.Drawn.{Drawn}
use Rattle.gfx_painters.specs.Plain.{laid}
use Rattle.gfx_painters.proofs.PlainLemmas.{laid-append}
use Rattle.gfx_painters.proofs.plain.paint_rect.Goals as goal

pub loop-i-init : goal.loop-i-init
loop-i-init g c =
    let sheet : Sheet = g.P.Picture.sheet c.args.picture.now in
    let old : Drawn = c.args.canvas.now in
    let none = sym (no_rows c.args.size.w c.args.rect) in
    record {
      room = c.requires.room;
      canvas = ap (λ (ps : List ℕ). let d : Drawn = record old { scene = laid old.setting c.args.origin sheet ps old.scene } in d) none;
      few = omega arith;
      counted = ap (λ l. length (filter (has_ink c.args.size.w c.args.origin sheet) l)) none;
    }

pub paint_row-count-requires-clause-at : goal.paint_row-count-requires-clause-at
paint_row-count-requires-clause-at g c =
    let i = c.loop-i.invariant in
    let r = c.args.rect in
    let x : to_z w32 (of_z w32 r.x) ≡ r.x = omega (arith, ints) in
    let y : to_z w32 (of_z w32 r.y) ≡ r.y = omega (arith, ints) in
    let place = rect_place c.args.size r c.loop-i.i c.w-width.result (nat_abs (to_z w32 (of_z w32 r.y))) (nat_abs (to_z w32 (of_z w32 r.x))) c.requires.on_screen c.requires.some_pixels c.loop-i-test.true c.w-width.ensures.value (ap nat_abs y) (ap nat_abs x) in
    let f : ℕ = (nat_abs (to_z w32 (of_z w32 r.y)) + c.loop-i.i) * c.w-width.result + nat_abs (to_z w32 (of_z w32 r.x)) in
    let size : c.args.size ≡ c.loop-i.canvas.setting.size = c.requires.size ∙ sym (ap (λ (q : Drawn). q.setting.size) i.canvas) in
    let across = place.across in
    let down = place.down in
    let some = place.some_w in
    let most_w = c.w-width.ensures.is_screen.most_w in
    let most_h = c.w-width.ensures.is_screen.most_h in
    let row = place.y_is in
    let is_x : to_z w32 (of_z w32 r.x) ≡ pos (f % c.args.size.w) = x ∙ place.x_is ∙ ap (λ (n : ℕ). pos n) (sym place.column) in
    let sum : to_z w32 (of_z w32 (to_z w32 (of_z w32 r.y) +ℤ to_z w32 c.loop-i.i)) ≡ pos (nat_abs r.y + c.loop-i.i) = omega (arith, ints) in
    let is_y : to_z w32 (of_z w32 (to_z w32 (of_z w32 r.y) +ℤ to_z w32 c.loop-i.i)) ≡ pos (f / c.args.size.w) = sum ∙ ap (λ (n : ℕ). pos n) (sym place.row) in
    ap (λ (a : ℤ). let p : Point = record { x = a; y = to_z w32 (of_z w32 (to_z w32 (of_z w32 r.y) +ℤ to_z w32 c.loop-i.i)) } in p) is_x
    ∙ ap (λ (b : ℤ). let p : Point = record { x = pos (f % c.args.size.w); y = b } in p) is_y ∙ ap (λ (s : Sides). point_of s.w f) size

pub paint_row-count-requires-clause-width : goal.paint_row-count-requires-clause-width
paint_row-count-requires-clause-width g c =
    let i = c.loop-i.invariant in
    let r = c.args.rect in
    let x : to_z w32 (of_z w32 r.x) ≡ r.x = omega (arith, ints) in
    let y : to_z w32 (of_z w32 r.y) ≡ r.y = omega (arith, ints) in
    let place = rect_place c.args.size r c.loop-i.i c.w-width.result (nat_abs (to_z w32 (of_z w32 r.y))) (nat_abs (to_z w32 (of_z w32 r.x))) c.requires.on_screen c.requires.some_pixels c.loop-i-test.true c.w-width.ensures.value (ap nat_abs y) (ap nat_abs x) in
    let f : ℕ = (nat_abs (to_z w32 (of_z w32 r.y)) + c.loop-i.i) * c.w-width.result + nat_abs (to_z w32 (of_z w32 r.x)) in
    let size : c.args.size ≡ c.loop-i.canvas.setting.size = c.requires.size ∙ sym (ap (λ (q : Drawn). q.setting.size) i.canvas) in
    let across = place.across in
    let some = place.some_w in
    let most_w = c.w-width.ensures.is_screen.most_w in
    let room = i.room in
    let long : length (take r.w c.loop-i.inks) ≡ r.w = length-take-le r.w c.loop-i.inks (omega arith) in
    let column = place.column in
    subst (λ (s : Sides). f % s.w + length (take r.w c.loop-i.inks) ≤ s.w) size (omega arith)

pub paint_row-count-requires-clause-most : goal.paint_row-count-requires-clause-most
paint_row-count-requires-clause-most g c =
    let i = c.loop-i.invariant in
    let size : c.args.size ≡ c.loop-i.canvas.setting.size = c.requires.size ∙ sym (ap (λ (q : Drawn). q.setting.size) i.canvas) in
    subst (λ (s : Sides). s.w ≤ 640) size c.w-width.ensures.is_screen.most_w

pub paint_row-count-requires-clause-few : goal.paint_row-count-requires-clause-few
paint_row-count-requires-clause-few g c =
    let i = c.loop-i.invariant in
    let size : c.args.size ≡ c.loop-i.canvas.setting.size = c.requires.size ∙ sym (ap (λ (q : Drawn). q.setting.size) i.canvas) in
    subst (λ (s : Sides). pixel_count s ≤ 307200) size (mul-le c.args.size.w c.args.size.h 640 480 c.w-width.ensures.is_screen.most_w c.w-width.ensures.is_screen.most_h)

pub paint_row-count-requires-clause-pixels : goal.paint_row-count-requires-clause-pixels
paint_row-count-requires-clause-pixels g c =
    let i = c.loop-i.invariant in
    let r = c.args.rect in
    let x : to_z w32 (of_z w32 r.x) ≡ r.x = omega (arith, ints) in
    let y : to_z w32 (of_z w32 r.y) ≡ r.y = omega (arith, ints) in
    let place = rect_place c.args.size r c.loop-i.i c.w-width.result (nat_abs (to_z w32 (of_z w32 r.y))) (nat_abs (to_z w32 (of_z w32 r.x))) c.requires.on_screen c.requires.some_pixels c.loop-i-test.true c.w-width.ensures.value (ap nat_abs y) (ap nat_abs x) in
    let f : ℕ = (nat_abs (to_z w32 (of_z w32 r.y)) + c.loop-i.i) * c.w-width.result + nat_abs (to_z w32 (of_z w32 r.x)) in
    let size : c.args.size ≡ c.loop-i.canvas.setting.size = c.requires.size ∙ sym (ap (λ (q : Drawn). q.setting.size) i.canvas) in
    let across = place.across in
    let down = place.down in
    let some = place.some_w in
    let most_w = c.w-width.ensures.is_screen.most_w in
    let room = i.room in
    let long : length (take r.w c.loop-i.inks) ≡ r.w = length-take-le r.w c.loop-i.inks (omega arith) in
    let is = place.is in
    let most = mul-add-lt (nat_abs r.y + c.loop-i.i) c.args.size.w (nat_abs r.x + r.w - 1) c.args.size.h down (omega arith) in
    subst (λ (s : Sides). f + length (take r.w c.loop-i.inks) ≤ pixel_count s) size (omega arith)

pub loop-i-preserved : goal.loop-i-preserved
loop-i-preserved g c =
    let i = c.loop-i.invariant in
    let r = c.args.rect in
    let x : to_z w32 (of_z w32 r.x) ≡ r.x = omega (arith, ints) in
    let y : to_z w32 (of_z w32 r.y) ≡ r.y = omega (arith, ints) in
    let place = rect_place c.args.size r c.loop-i.i c.w-width.result (nat_abs (to_z w32 (of_z w32 r.y))) (nat_abs (to_z w32 (of_z w32 r.x))) c.requires.on_screen c.requires.some_pixels c.loop-i-test.true c.w-width.ensures.value (ap nat_abs y) (ap nat_abs x) in
    let f : ℕ = (nat_abs (to_z w32 (of_z w32 r.y)) + c.loop-i.i) * c.w-width.result + nat_abs (to_z w32 (of_z w32 r.x)) in
    let old : Drawn = c.args.canvas.now in
    let q : Drawn = c.loop-i.canvas in
    let across = place.across in
    let most_w = c.w-width.ensures.is_screen.most_w in
    let room = i.room in
    let long : length (take r.w c.loop-i.inks) ≡ r.w = length-take-le r.w c.loop-i.inks (omega arith) in
    let sheet : Sheet = g.P.Picture.sheet c.args.picture.now in
    let e = c.paint_row-count.ensures in
    let all = row_more c.args.size.w r c.loop-i.i f place.is in
    let rows : List ℕ = rows_of c.args.size.w r c.loop-i.i in
    let size : c.args.size ≡ q.setting.size = c.requires.size ∙ sym (ap (λ (q : Drawn). q.setting.size) i.canvas) in
    let count : c.paint_row-count.result ≡ length (filter (has_ink c.args.size.w c.args.origin sheet) (range_with_len f r.w)) =
    e.count ∙ ap (λ n. length (filter (has_ink q.setting.size.w c.args.origin sheet) (range_with_len f n))) long ∙ ap (λ (s : Sides). length (filter (has_ink s.w c.args.origin sheet) (range_with_len f r.w))) (sym size) in
    let on : Drawn → ℕ → Drawn = λ d n. record d { scene = laid d.setting c.args.origin sheet (range_with_len f n) d.scene } in
    record {
      room = (let new = e.room in let d = length-drop r.w c.loop-i.inks in omega (arith, length-append c.paint_row-count.new.inks (drop r.w c.loop-i.inks)));
      canvas = e.canvas ∙ ap (on q) long ∙ ap (λ (d : Drawn). on d r.w) i.canvas
          ∙ ap (λ (s : List ℕ). let d : Drawn = record old { scene = s } in d) (sym (ap (λ ps. laid old.setting c.args.origin sheet ps old.scene) all ∙ laid-append old.setting c.args.origin sheet rows (range_with_len f r.w) old.scene));
      few = more_columns r.w c.loop-i.count c.paint_row-count.result c.loop-i.i (length (take r.w c.loop-i.inks)) i.few e.few long;
      counted = counted_both (has_ink c.args.size.w c.args.origin sheet) rows (range_with_len f r.w) (rows_of c.args.size.w r (c.loop-i.i + 1)) c.loop-i.count c.paint_row-count.result i.counted count all;
    }

pub returns-clause-canvas : goal.returns-clause-canvas
returns-clause-canvas g c =
    let i = c.loop-i.invariant in
    let old : Drawn = c.args.canvas.now in
    let a = c.loop-i-test.false in
    let b = c.loop-i.auto.i-end in
    let z : c.loop-i.i ≡ c.args.rect.h = omega arith in
    i.canvas ∙ ap (λ (ps : List ℕ). let d : Drawn = record old { scene = laid old.setting c.args.origin (g.P.Picture.sheet c.args.picture.now) ps old.scene } in d) (ap (rows_of c.args.size.w c.args.rect) z ∙ all_rows c.args.size.w c.args.rect)

pub returns-clause-count : goal.returns-clause-count
returns-clause-count g c =
    let i = c.loop-i.invariant in
    let a = c.loop-i-test.false in
    let b = c.loop-i.auto.i-end in
    let z : c.loop-i.i ≡ c.args.rect.h = omega arith in
    i.counted ∙ ap (λ l. length (filter (has_ink c.args.size.w c.args.origin (g.P.Picture.sheet c.args.picture.now)) l)) (ap (rows_of c.args.size.w c.args.rect) z ∙ all_rows c.args.size.w c.args.rect)

pub returns-clause-few : goal.returns-clause-few
returns-clause-few g c =
    let r = c.args.rect in
    let few = c.loop-i.invariant.few in
    let end = c.loop-i.auto.i-end in
    let across = end_in r.x r.w c.args.size.w c.requires.on_screen.from_left c.requires.on_screen.to_right in
    let down = end_in r.y r.h c.args.size.h c.requires.on_screen.from_top c.requires.on_screen.to_bottom in
    let most_w = c.w-width.ensures.is_screen.most_w in
    let most_h = c.w-width.ensures.is_screen.most_h in
    let all = mul-le r.w c.loop-i.i 640 480 (omega arith) (omega arith) in
    omega arith
