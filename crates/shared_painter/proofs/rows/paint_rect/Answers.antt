use Rattle.std.proofs.Common.{rules, ◌≡◌, ℕ, ◌+◌, ◌-◌, ◌*◌, ◌/◌, ◌%◌, ◌<◌, ◌≤◌, length, length-append, length-drop, take, drop, true, sym, ap, ◌∙◌, subst, arith, ℤ, pos, ◌+ℤ◌, nat_abs, to_z, of_z, w32}
use Rattle.std.specs.List.{filter, range_with_len}
use Rattle.std.proofs.lemmas.Int.{ints}
use Rattle.std.proofs.lemmas.Nat.{mul-add-lt, mul-le}
use Rattle.std.proofs.lemmas.List.{length-take-le}
use Rattle.qws_base.specs.Sides.{Sides}
use Rattle.qws_base.specs.Points.{holds, point_of, pixel_count}
use Rattle.qws_base.specs.Scenes.{has_ink}
use Rattle.qws_base.specs.Sheets.{Sheet}
use Rattle.qws_base.specs.declared.points.Point.{Point}
use Rattle.region_table.specs.Numbers.{pixel_word}
use Rattle.fb_words.specs.declared.known.Client.{Client}
use Rattle.fb_words.proofs.Going.{none_done, both_done}
use Rattle.display_lock.specs.Turns.{client_in}
use Rattle.shared_painter.specs.Painted.{PaintsPixels}
use Rattle.qws_base.proofs.PixelRows.{rows_of, no_rows, all_rows, row_more, counted_both, more_columns, end_in, row_in}
use Rattle.shared_painter.proofs.Painting.{none_painted, both_painted, place_on_screen}
use Rattle.shared_painter.proofs.rows.paint_rect.Goals as goal

pub loop-i-init : goal.loop-i-init
loop-i-init g c =
    let sheet : Sheet = g.P.Picture.sheet c.args.picture.now in
    let none = sym (no_rows c.args.size.w c.args.rect) in
    record {
      same = search rules;
      is_open = c.requires.open;
      goes = none_done 2 1028 (client_in c.args.turn.now);
      covers = c.requires.cover;
      room = c.requires.room;
      log = subst (λ l. PaintsPixels c.args.origin sheet l (client_in c.args.turn.now) (client_in c.args.turn.now)) none (none_painted c.args.origin sheet (client_in c.args.turn.now));
      few = omega arith;
      counted = ap (λ l. length (filter (has_ink c.args.size.w c.args.origin sheet) l)) none;
    }

pub paint_row-count-requires-clause-at : goal.paint_row-count-requires-clause-at
paint_row-count-requires-clause-at g c =
    let i = c.loop-i.invariant in
    let r = c.args.rect in
    let x : to_z w32 (of_z w32 r.x) ≡ r.x = omega (arith, ints) in
    let y : to_z w32 (of_z w32 r.y) ≡ r.y = omega (arith, ints) in
    let place = place_on_screen c.args.size r c.loop-i.i c.w-width.result (nat_abs (to_z w32 (of_z w32 r.y))) (nat_abs (to_z w32 (of_z w32 r.x))) c.requires.on_screen c.loop-i-test.true c.w-width.ensures.value (ap nat_abs y) (ap nat_abs x) in
    let f : ℕ = (nat_abs (to_z w32 (of_z w32 r.y)) + c.loop-i.i) * c.w-width.result + nat_abs (to_z w32 (of_z w32 r.x)) in
    let size : c.args.size ≡ (client_in c.loop-i.turn).setting.size = c.requires.size ∙ sym (ap (λ (q : Client). q.setting.size) i.goes.rest) in
    let across = place.across in
    let down = place.down in
    let some = place.some_w in
    let most_w = c.w-width.ensures.is_screen.most_w in
    let most_h = c.w-width.ensures.is_screen.most_h in
    let room = i.room in
    let long : length (take r.w c.loop-i.inks) ≡ r.w = length-take-le r.w c.loop-i.inks (omega arith) in
    let row = place.y_is in
    let is_x : to_z w32 (of_z w32 r.x) ≡ pos (f % c.args.size.w) = x ∙ place.x_is ∙ ap (λ (n : ℕ). pos n) (sym place.column) in
    let sum : to_z w32 (of_z w32 (to_z w32 (of_z w32 r.y) +ℤ to_z w32 c.loop-i.i)) ≡ pos (nat_abs r.y + c.loop-i.i) = omega (arith, ints) in
    let is_y : to_z w32 (of_z w32 (to_z w32 (of_z w32 r.y) +ℤ to_z w32 c.loop-i.i)) ≡ pos (f / c.args.size.w) = sum ∙ ap (λ (n : ℕ). pos n) (sym place.row) in
    ap (λ (a : ℤ). let p : Point = record { x = a; y = to_z w32 (of_z w32 (to_z w32 (of_z w32 r.y) +ℤ to_z w32 c.loop-i.i)) } in p) is_x
    ∙ ap (λ (b : ℤ). let p : Point = record { x = pos (f % c.args.size.w); y = b } in p) is_y ∙ ap (λ (s : Sides). point_of s.w f) size

pub paint_row-count-requires-clause-width : goal.paint_row-count-requires-clause-width
paint_row-count-requires-clause-width g c =
    let i = c.loop-i.invariant in
    let r = c.args.rect in
    let x : to_z w32 (of_z w32 r.x) ≡ r.x = omega (arith, ints) in
    let y : to_z w32 (of_z w32 r.y) ≡ r.y = omega (arith, ints) in
    let place = place_on_screen c.args.size r c.loop-i.i c.w-width.result (nat_abs (to_z w32 (of_z w32 r.y))) (nat_abs (to_z w32 (of_z w32 r.x))) c.requires.on_screen c.loop-i-test.true c.w-width.ensures.value (ap nat_abs y) (ap nat_abs x) in
    let f : ℕ = (nat_abs (to_z w32 (of_z w32 r.y)) + c.loop-i.i) * c.w-width.result + nat_abs (to_z w32 (of_z w32 r.x)) in
    let size : c.args.size ≡ (client_in c.loop-i.turn).setting.size = c.requires.size ∙ sym (ap (λ (q : Client). q.setting.size) i.goes.rest) in
    let across = place.across in
    let down = place.down in
    let some = place.some_w in
    let most_w = c.w-width.ensures.is_screen.most_w in
    let most_h = c.w-width.ensures.is_screen.most_h in
    let room = i.room in
    let long : length (take r.w c.loop-i.inks) ≡ r.w = length-take-le r.w c.loop-i.inks (omega arith) in
    let column = place.column in
    subst (λ (s : Sides). f % s.w + length (take r.w c.loop-i.inks) ≤ s.w) size (omega arith)

pub paint_row-count-requires-clause-pixels : goal.paint_row-count-requires-clause-pixels
paint_row-count-requires-clause-pixels g c =
    let i = c.loop-i.invariant in
    let r = c.args.rect in
    let x : to_z w32 (of_z w32 r.x) ≡ r.x = omega (arith, ints) in
    let y : to_z w32 (of_z w32 r.y) ≡ r.y = omega (arith, ints) in
    let place = place_on_screen c.args.size r c.loop-i.i c.w-width.result (nat_abs (to_z w32 (of_z w32 r.y))) (nat_abs (to_z w32 (of_z w32 r.x))) c.requires.on_screen c.loop-i-test.true c.w-width.ensures.value (ap nat_abs y) (ap nat_abs x) in
    let f : ℕ = (nat_abs (to_z w32 (of_z w32 r.y)) + c.loop-i.i) * c.w-width.result + nat_abs (to_z w32 (of_z w32 r.x)) in
    let size : c.args.size ≡ (client_in c.loop-i.turn).setting.size = c.requires.size ∙ sym (ap (λ (q : Client). q.setting.size) i.goes.rest) in
    let across = place.across in
    let down = place.down in
    let some = place.some_w in
    let most_w = c.w-width.ensures.is_screen.most_w in
    let most_h = c.w-width.ensures.is_screen.most_h in
    let room = i.room in
    let long : length (take r.w c.loop-i.inks) ≡ r.w = length-take-le r.w c.loop-i.inks (omega arith) in
    let is = place.is in
    let most = mul-add-lt (nat_abs r.y + c.loop-i.i) c.args.size.w (nat_abs r.x + r.w - 1) 480 (omega arith) (omega arith) in
    omega arith

pub paint_row-count-requires-clause-owns : goal.paint_row-count-requires-clause-owns
paint_row-count-requires-clause-owns g c = λ k from to.
    let i = c.loop-i.invariant in
    let r = c.args.rect in
    let x : to_z w32 (of_z w32 r.x) ≡ r.x = omega (arith, ints) in
    let y : to_z w32 (of_z w32 r.y) ≡ r.y = omega (arith, ints) in
    let place = place_on_screen c.args.size r c.loop-i.i c.w-width.result (nat_abs (to_z w32 (of_z w32 r.y))) (nat_abs (to_z w32 (of_z w32 r.x))) c.requires.on_screen c.loop-i-test.true c.w-width.ensures.value (ap nat_abs y) (ap nat_abs x) in
    let f : ℕ = (nat_abs (to_z w32 (of_z w32 r.y)) + c.loop-i.i) * c.w-width.result + nat_abs (to_z w32 (of_z w32 r.x)) in
    let size : c.args.size ≡ (client_in c.loop-i.turn).setting.size = c.requires.size ∙ sym (ap (λ (q : Client). q.setting.size) i.goes.rest) in
    let across = place.across in
    let down = place.down in
    let some = place.some_w in
    let most_w = c.w-width.ensures.is_screen.most_w in
    let most_h = c.w-width.ensures.is_screen.most_h in
    let room = i.room in
    let long : length (take r.w c.loop-i.inks) ≡ r.w = length-take-le r.w c.loop-i.inks (omega arith) in
    let there = row_in c.args.size r c.loop-i.i f place c.loop-i-test.true k from (subst (λ n. k < f + n) long to) in
    i.goes.owns (pixel_word k) (c.requires.owns k (subst (λ (s : Sides). k < pixel_count s) c.requires.size there.0) (subst (λ (s : Sides). holds r (point_of s.w k) ≡ true) c.requires.size there.1))

pub loop-i-preserved : goal.loop-i-preserved
loop-i-preserved g c =
    let i = c.loop-i.invariant in
    let r = c.args.rect in
    let x : to_z w32 (of_z w32 r.x) ≡ r.x = omega (arith, ints) in
    let y : to_z w32 (of_z w32 r.y) ≡ r.y = omega (arith, ints) in
    let place = place_on_screen c.args.size r c.loop-i.i c.w-width.result (nat_abs (to_z w32 (of_z w32 r.y))) (nat_abs (to_z w32 (of_z w32 r.x))) c.requires.on_screen c.loop-i-test.true c.w-width.ensures.value (ap nat_abs y) (ap nat_abs x) in
    let f : ℕ = (nat_abs (to_z w32 (of_z w32 r.y)) + c.loop-i.i) * c.w-width.result + nat_abs (to_z w32 (of_z w32 r.x)) in
    let size : c.args.size ≡ (client_in c.loop-i.turn).setting.size = c.requires.size ∙ sym (ap (λ (q : Client). q.setting.size) i.goes.rest) in
    let across = place.across in
    let down = place.down in
    let some = place.some_w in
    let most_w = c.w-width.ensures.is_screen.most_w in
    let most_h = c.w-width.ensures.is_screen.most_h in
    let room = i.room in
    let long : length (take r.w c.loop-i.inks) ≡ r.w = length-take-le r.w c.loop-i.inks (omega arith) in
    let sheet : Sheet = g.P.Picture.sheet c.args.picture.now in
    let p : Client = client_in c.args.turn.now in
    let q : Client = client_in c.loop-i.turn in
    let t : Client = client_in c.paint_row-count.new.turn in
    let e = c.paint_row-count.ensures in
    let all = row_more c.args.size.w r c.loop-i.i f place.is in
    let log : PaintsPixels c.args.origin sheet (range_with_len f r.w) q t = subst (λ n. PaintsPixels c.args.origin sheet (range_with_len f n) q t) long e.log in
    let count : c.paint_row-count.result ≡ length (filter (has_ink c.args.size.w c.args.origin sheet) (range_with_len f r.w)) =
    e.count ∙ ap (λ n. length (filter (has_ink q.setting.size.w c.args.origin sheet) (range_with_len f n))) long ∙ ap (λ (s : Sides). length (filter (has_ink s.w c.args.origin sheet) (range_with_len f r.w))) (sym size) in
    record {
      same = search rules;
      is_open = e.open;
      goes = both_done 2 1028 p q t i.goes e.goes;
      covers = e.cover;
      room = (let new = e.room in let d = length-drop r.w c.loop-i.inks in omega (arith, length-append c.paint_row-count.new.inks (drop r.w c.loop-i.inks)));
      log = subst (λ l. PaintsPixels c.args.origin sheet l p t) (sym all) (both_painted c.args.origin sheet (rows_of c.args.size.w r c.loop-i.i) (range_with_len f r.w) p q t (ap (λ (x : Client). x.setting) i.goes.rest) e.goes.stays i.log log);
      few = more_columns r.w c.loop-i.count c.paint_row-count.result c.loop-i.i (length (take r.w c.loop-i.inks)) i.few e.few long;
      counted = counted_both (has_ink c.args.size.w c.args.origin sheet) (rows_of c.args.size.w r c.loop-i.i) (range_with_len f r.w) (rows_of c.args.size.w r (c.loop-i.i + 1)) c.loop-i.count c.paint_row-count.result i.counted count all;
    }

pub returns-clause-log : goal.returns-clause-log
returns-clause-log g c = let i = c.loop-i.invariant in
    subst (λ l. PaintsPixels c.args.origin (g.P.Picture.sheet c.args.picture.now) l (client_in c.args.turn.now) (client_in c.loop-i.turn)) (ap (rows_of c.args.size.w c.args.rect) (let a = c.loop-i-test.false in let b = c.loop-i.auto.i-end in let z : c.loop-i.i ≡ c.args.rect.h = omega arith in z) ∙ all_rows c.args.size.w c.args.rect) i.log

pub returns-clause-count : goal.returns-clause-count
returns-clause-count g c = let i = c.loop-i.invariant in
    i.counted ∙ ap (λ l. length (filter (has_ink c.args.size.w c.args.origin (g.P.Picture.sheet c.args.picture.now)) l)) (ap (rows_of c.args.size.w c.args.rect) (let a = c.loop-i-test.false in let b = c.loop-i.auto.i-end in let z : c.loop-i.i ≡ c.args.rect.h = omega arith in z) ∙ all_rows c.args.size.w c.args.rect)

pub returns-clause-few : goal.returns-clause-few
returns-clause-few g c =
    let r = c.args.rect in
    let few = c.loop-i.invariant.few in
    let end = c.loop-i.auto.i-end in
    let across = end_in r.x r.w c.args.size.w c.requires.on_screen.from_left c.requires.on_screen.to_right in
    let down = end_in r.y r.h c.args.size.h c.requires.on_screen.from_top c.requires.on_screen.to_bottom in
    let most_w = c.w-width.ensures.is_screen.most_w in
    let most_h = c.w-width.ensures.is_screen.most_h in
    let all = mul-le r.w c.loop-i.i 640 480 (omega arith) (omega arith) in
    omega arith
