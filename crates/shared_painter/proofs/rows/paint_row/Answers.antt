use Rattle.std.proofs.Common.{rules, ◌≡◌, ℕ, ◌+◌, ◌/◌, ◌%◌, ◌≤◌, [], ◌∷◌, length, get_or, sym, refl, ap, ◌∙◌, subst, arith, ℤ, pos, ◌+ℤ◌, ◌-ℤ◌, to_z, of_z, w32}
use Rattle.std.specs.List.{filter, range_with_len}
use Rattle.std.proofs.lemmas.Int.{ints}
use Rattle.qws_base.specs.Points.{point_of}
use Rattle.qws_base.specs.Scenes.{Setting, ink_on, has_ink}
use Rattle.qws_base.specs.Sheets.{Sheet, row_of}
use Rattle.qws_base.specs.declared.points.Point.{Point}
use Rattle.qws_base.specs.declared.inks.Ink.{Ink}
use Rattle.region_table.specs.Numbers.{pixel_word}
use Rattle.fb_words.specs.declared.known.Client.{Client}
use Rattle.fb_words.proofs.Going.{none_done, both_done}
use Rattle.display_lock.specs.Turns.{client_in}
use Rattle.sw_cursor.specs.Covers.{bare_cursor}
use Rattle.shared_painter.specs.Painted.{PaintsPixels, PaintsInks, HasInks}
use Rattle.shared_painter.proofs.Even.{row_here, row_inks, clear_row}
use Rattle.qws_base.proofs.PixelRows.{range_more, counted_more, few_more, next_in_row, ink_in_row, row_length}
use Rattle.shared_painter.proofs.Painting.{none_painted, one_painted, both_painted}
use Rattle.shared_painter.proofs.rows.paint_row.Goals as goal

pub loop-j-init : goal.loop-j-init
loop-j-init g c =
    let sheet : Sheet = g.P.Picture.sheet c.args.picture.now in
    let x : to_z w32 (of_z w32 (to_z w32 (of_z w32 c.args.at.x) -ℤ to_z w32 (of_z w32 c.args.origin.x))) ≡ c.args.at.x -ℤ c.args.origin.x = omega (arith, ints) in
    let y : to_z w32 (of_z w32 (to_z w32 (of_z w32 c.args.at.y) -ℤ to_z w32 (of_z w32 c.args.origin.y))) ≡ c.args.at.y -ℤ c.args.origin.y = omega (arith, ints) in
    record {
      same = search rules;
      is_open = c.requires.open;
      goes = none_done 2 1028 (client_in c.args.turn.now);
      covers = c.requires.cover;
      row = c.row.ensures ∙ ap (λ b. row_of sheet b (to_z w32 (of_z w32 (to_z w32 (of_z w32 c.args.at.x) -ℤ to_z w32 (of_z w32 c.args.origin.x)))) (length c.args.inks.now)) y ∙ ap (λ a. row_of sheet (c.args.at.y -ℤ c.args.origin.y) a (length c.args.inks.now)) x;
      log = none_painted c.args.origin sheet (client_in c.args.turn.now);
      few = omega arith;
      counted = refl;
    }

pub paint_clear-requires-clause-clear : goal.paint_clear-requires-clause-clear
paint_clear-requires-clause-clear g c =
    let sheet : Sheet = g.P.Picture.sheet c.args.picture.now in
    let w : ℕ = (client_in c.args.turn.now).setting.size.w in
    let f : ℕ = c.args.first in
    let n : ℕ = length c.args.inks.now in
    let x : to_z w32 (of_z w32 (to_z w32 (of_z w32 c.args.at.x) -ℤ to_z w32 (of_z w32 c.args.origin.x))) ≡ c.args.at.x -ℤ c.args.origin.x = omega (arith, ints) in
    let y : to_z w32 (of_z w32 (to_z w32 (of_z w32 c.args.at.y) -ℤ to_z w32 (of_z w32 c.args.origin.y))) ≡ c.args.at.y -ℤ c.args.origin.y = omega (arith, ints) in
    let row = row_here w f n c.args.at c.args.origin sheet _ _ c.row.new.out c.requires.at y x c.row.ensures in
    let long : length c.row.new.out ≡ n = row_length sheet _ _ n c.row.new.out row in
    let here : to_z w32 (of_z w32 c.args.at.y) ≡ c.args.at.y = omega (arith, ints) in
    clear_row w f (length c.row.new.out) (bare_cursor c.args.cover.now) (to_z w32 (of_z w32 c.args.at.y)) (sym c.if-misses.true ∙ c.misses.ensures) (here ∙ ap (λ (p : Point). p.y) c.requires.at) (subst (λ m. f % w + m ≤ w) (sym long) c.requires.width)

pub paint_clear-requires-clause-owns : goal.paint_clear-requires-clause-owns
paint_clear-requires-clause-owns g c k low high =
    let sheet : Sheet = g.P.Picture.sheet c.args.picture.now in
    let w : ℕ = (client_in c.args.turn.now).setting.size.w in
    let f : ℕ = c.args.first in
    let n : ℕ = length c.args.inks.now in
    let x : to_z w32 (of_z w32 (to_z w32 (of_z w32 c.args.at.x) -ℤ to_z w32 (of_z w32 c.args.origin.x))) ≡ c.args.at.x -ℤ c.args.origin.x = omega (arith, ints) in
    let y : to_z w32 (of_z w32 (to_z w32 (of_z w32 c.args.at.y) -ℤ to_z w32 (of_z w32 c.args.origin.y))) ≡ c.args.at.y -ℤ c.args.origin.y = omega (arith, ints) in
    let row = row_here w f n c.args.at c.args.origin sheet _ _ c.row.new.out c.requires.at y x c.row.ensures in
    let long : length c.row.new.out ≡ n = row_length sheet _ _ n c.row.new.out row in
    c.requires.owns k low (omega arith)

pub returns-then-misses-clause-log : goal.returns-then-misses-clause-log
returns-then-misses-clause-log g c =
    let sheet : Sheet = g.P.Picture.sheet c.args.picture.now in
    let w : ℕ = (client_in c.args.turn.now).setting.size.w in
    let f : ℕ = c.args.first in
    let n : ℕ = length c.args.inks.now in
    let x : to_z w32 (of_z w32 (to_z w32 (of_z w32 c.args.at.x) -ℤ to_z w32 (of_z w32 c.args.origin.x))) ≡ c.args.at.x -ℤ c.args.origin.x = omega (arith, ints) in
    let y : to_z w32 (of_z w32 (to_z w32 (of_z w32 c.args.at.y) -ℤ to_z w32 (of_z w32 c.args.origin.y))) ≡ c.args.at.y -ℤ c.args.origin.y = omega (arith, ints) in
    let row = row_here w f n c.args.at c.args.origin sheet _ _ c.row.new.out c.requires.at y x c.row.ensures in
    let long : length c.row.new.out ≡ n = row_length sheet _ _ n c.row.new.out row in
    let has : HasInks w c.args.origin sheet c.row.new.out f n = row_inks w f n c.args.origin sheet c.row.new.out row c.requires.width in
    let inks : PaintsInks c.row.new.out f n (client_in c.args.turn.now) (client_in c.paint_clear.new.turn) c.paint_clear.result = subst (λ m. PaintsInks c.row.new.out f m (client_in c.args.turn.now) (client_in c.paint_clear.new.turn) c.paint_clear.result) long c.paint_clear.ensures.log in
    inks.log c.args.origin sheet has

pub returns-then-misses-clause-count : goal.returns-then-misses-clause-count
returns-then-misses-clause-count g c =
    let sheet : Sheet = g.P.Picture.sheet c.args.picture.now in
    let w : ℕ = (client_in c.args.turn.now).setting.size.w in
    let f : ℕ = c.args.first in
    let n : ℕ = length c.args.inks.now in
    let x : to_z w32 (of_z w32 (to_z w32 (of_z w32 c.args.at.x) -ℤ to_z w32 (of_z w32 c.args.origin.x))) ≡ c.args.at.x -ℤ c.args.origin.x = omega (arith, ints) in
    let y : to_z w32 (of_z w32 (to_z w32 (of_z w32 c.args.at.y) -ℤ to_z w32 (of_z w32 c.args.origin.y))) ≡ c.args.at.y -ℤ c.args.origin.y = omega (arith, ints) in
    let row = row_here w f n c.args.at c.args.origin sheet _ _ c.row.new.out c.requires.at y x c.row.ensures in
    let long : length c.row.new.out ≡ n = row_length sheet _ _ n c.row.new.out row in
    let has : HasInks w c.args.origin sheet c.row.new.out f n = row_inks w f n c.args.origin sheet c.row.new.out row c.requires.width in
    let inks : PaintsInks c.row.new.out f n (client_in c.args.turn.now) (client_in c.paint_clear.new.turn) c.paint_clear.result = subst (λ m. PaintsInks c.row.new.out f m (client_in c.args.turn.now) (client_in c.paint_clear.new.turn) c.paint_clear.result) long c.paint_clear.ensures.log in
    inks.counted c.args.origin sheet has

pub put_covered-requires-clause-at : goal.put_covered-requires-clause-at
put_covered-requires-clause-at g c =
    let i = c.loop-j.invariant in
    let test = c.loop-j-test.true in
    let end = c.loop-j.auto.j-end in
    let width = c.requires.width in
    let most = c.requires.most in
    let w : ℕ = (client_in c.args.turn.now).setting.size.w in
    let f : ℕ = c.args.first in
    let j : ℕ = c.loop-j.j in
    let long = row_length (g.P.Picture.sheet c.args.picture.now) (c.args.at.y -ℤ c.args.origin.y) (c.args.at.x -ℤ c.args.origin.x) (length c.args.inks.now) c.row.new.out i.row in
    let next = next_in_row w f j (omega arith) in
    let at_x : c.args.at.x ≡ pos (f % w) = ap (λ (p : Point). p.x) c.requires.at in
    let at_y : c.args.at.y ≡ pos (f / w) = ap (λ (p : Point). p.y) c.requires.at in
    let x : to_z w32 (of_z w32 (to_z w32 (of_z w32 c.args.at.x) +ℤ to_z w32 j)) ≡ pos ((f + j) % w) = (let e : to_z w32 (of_z w32 (to_z w32 (of_z w32 c.args.at.x) +ℤ to_z w32 j)) ≡ pos (f % w + j) = omega (arith, ints) in e ∙ ap (λ (a : ℕ). pos a) (sym next.0)) in
    let y : to_z w32 (of_z w32 c.args.at.y) ≡ pos ((f + j) / w) = (let e : to_z w32 (of_z w32 c.args.at.y) ≡ c.args.at.y = omega (arith, ints) in e ∙ at_y ∙ ap (λ (a : ℕ). pos a) (sym next.1)) in
    let same : point_of w (f + j) ≡ point_of (client_in c.loop-j.turn).setting.size.w (f + j) = ap (λ (s : Setting). point_of s.size.w (f + j)) (sym (ap (λ (q : Client). q.setting) i.goes.rest)) in
    ap (λ (a : ℤ). let p : Point = record { x = a; y = to_z w32 (of_z w32 c.args.at.y) } in p) x ∙ ap (λ (b : ℤ). let p : Point = record { x = pos ((f + j) % w); y = b } in p) y ∙ same

pub put_covered-requires-clause-owns : goal.put_covered-requires-clause-owns
put_covered-requires-clause-owns g c =
    let i = c.loop-j.invariant in
    let test = c.loop-j-test.true in
    let end = c.loop-j.auto.j-end in
    let long = row_length (g.P.Picture.sheet c.args.picture.now) (c.args.at.y -ℤ c.args.origin.y) (c.args.at.x -ℤ c.args.origin.x) (length c.args.inks.now) c.row.new.out i.row in
    i.goes.owns (pixel_word (c.args.first + c.loop-j.j)) (c.requires.owns (c.args.first + c.loop-j.j) (omega arith) (omega arith))

pub loop-j-preserved : goal.loop-j-preserved
loop-j-preserved g c =
    let i = c.loop-j.invariant in
    let test = c.loop-j-test.true in
    let end = c.loop-j.auto.j-end in
    let width = c.requires.width in
    let sheet : Sheet = g.P.Picture.sheet c.args.picture.now in
    let p : Client = client_in c.args.turn.now in
    let q : Client = client_in c.loop-j.turn in
    let r : Client = client_in c.put_covered.new.turn in
    let w : ℕ = p.setting.size.w in
    let f : ℕ = c.args.first in
    let j : ℕ = c.loop-j.j in
    let n : ℕ = length c.args.inks.now in
    let e = c.put_covered.ensures in
    let long = row_length sheet (c.args.at.y -ℤ c.args.origin.y) (c.args.at.x -ℤ c.args.origin.x) n c.row.new.out i.row in
    let at_x : c.args.at.x ≡ pos (f % w) = ap (λ (p : Point). p.x) c.requires.at in
    let at_y : c.args.at.y ≡ pos (f / w) = ap (λ (p : Point). p.y) c.requires.at in
    let setting : q.setting ≡ p.setting = ap (λ (x : Client). x.setting) i.goes.rest in
    let row : c.row.new.out ≡ row_of sheet (pos (f / w) -ℤ c.args.origin.y) (pos (f % w) -ℤ c.args.origin.x) n = i.row
    ∙ ap (λ b. row_of sheet (b -ℤ c.args.origin.y) (c.args.at.x -ℤ c.args.origin.x) n) at_y ∙ ap (λ a. row_of sheet (pos (f / w) -ℤ c.args.origin.y) (a -ℤ c.args.origin.x) n) at_x in
    let ink_is : (d : Ink) → get_or c.row.new.out j d ≡ ink_on w c.args.origin sheet (f + j) = λ d. ap (λ l. get_or l j d) row ∙ ink_in_row w f j n c.args.origin sheet d (omega arith) (omega arith) in
    let put : c.index-inks-j-in-loop-j.result ≡ ink_on w c.args.origin sheet (f + j) = c.index-inks-j-in-loop-j.is ∙ ink_is _ in
    let ink : Ink = get_or c.row.new.out j c.index-inks-j.result in
    let told : ink ≡ ink_on w c.args.origin sheet (f + j) = ink_is c.index-inks-j.result in
    let one : PaintsPixels c.args.origin sheet ((f + j) ∷ []) q r = one_painted c.args.origin sheet q r (f + j) c.index-inks-j-in-loop-j.result e.log (put ∙ ap (λ (s : Setting). ink_on s.size.w c.args.origin sheet (f + j)) (sym setting)) in
    record {
      same = search rules;
      is_open = e.open;
      goes = both_done 2 1028 p q r i.goes e.goes;
      covers = e.cover;
      row = i.row;
      log = subst (λ l. PaintsPixels c.args.origin sheet l p r) (sym (range_more f j)) (both_painted c.args.origin sheet (range_with_len f j) ((f + j) ∷ []) p q r setting e.goes.stays i.log one);
      few = few_more c.loop-j.count j c.inked-count.result ink i.few c.inked-count.ensures;
      counted = counted_more w c.args.origin sheet f j c.loop-j.count c.inked-count.result ink i.counted c.inked-count.ensures told;
    }

pub returns-clause-log : goal.returns-clause-log
returns-clause-log g c =
    let i = c.loop-j.invariant in
    let test = c.loop-j-test.false in
    let end = c.loop-j.auto.j-end in
    let long = row_length (g.P.Picture.sheet c.args.picture.now) (c.args.at.y -ℤ c.args.origin.y) (c.args.at.x -ℤ c.args.origin.x) (length c.args.inks.now) c.row.new.out i.row in
    subst (λ n. PaintsPixels c.args.origin (g.P.Picture.sheet c.args.picture.now) (range_with_len c.args.first n) (client_in c.args.turn.now) (client_in c.loop-j.turn)) (let z : c.loop-j.j ≡ length c.args.inks.now = omega arith in z) i.log

pub returns-clause-count : goal.returns-clause-count
returns-clause-count g c =
    let i = c.loop-j.invariant in
    let test = c.loop-j-test.false in
    let end = c.loop-j.auto.j-end in
    let long = row_length (g.P.Picture.sheet c.args.picture.now) (c.args.at.y -ℤ c.args.origin.y) (c.args.at.x -ℤ c.args.origin.x) (length c.args.inks.now) c.row.new.out i.row in
    i.counted ∙ ap (λ n. length (filter (has_ink (client_in c.args.turn.now).setting.size.w c.args.origin (g.P.Picture.sheet c.args.picture.now)) (range_with_len c.args.first n))) (let z : c.loop-j.j ≡ length c.args.inks.now = omega arith in z)
