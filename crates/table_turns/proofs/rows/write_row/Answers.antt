use Rattle.std.proofs.Common.{◌≡◌, ◌==◌, ℕ, zero, suc, ◌+◌, ◌-◌, ◌<◌, false, if◌then◌else◌, List, length, map, sym, refl, ap, ◌∙◌, arith}
use Rattle.std.specs.Prelude.{slice_index, Option}
use Rattle.std.proofs.lemmas.Bool.Decides.{nat_tests}
use Rattle.qws_base.specs.declared.points.Point.{Point}
use Rattle.qws_base.specs.declared.points.Rect.{Rect}
use Rattle.region_table.specs.Numbers.{row_word}
use Rattle.region_table.specs.Packing.{packed}
use Rattle.region_table.specs.Tables.{owner_word, origin_word, row_word_of}
use Rattle.table_turns.specs.Writes.{head_words, made_row}
use Rattle.table_turns.proofs.Setting.{set_both}
use Rattle.table_turns.proofs.rows.write_row.Goals as goal

head_is : (owner : Option ℕ) (revision : ℕ) (origin : Point) (rects : List Rect) (count k : ℕ) → count ≡ length rects → k < 4 → head_words owner revision origin count k ≡ row_word_of (made_row owner revision origin rects) k
head_is owner revision origin rects count zero is lt = refl
head_is owner revision origin rects count (suc zero) is lt = refl
head_is owner revision origin rects count (suc (suc zero)) is lt = refl
head_is owner revision origin rects count (suc (suc (suc zero))) is lt = is
head_is owner revision origin rects count (suc (suc (suc (suc k)))) is lt = absurd (omega arith)

rect_is : (owner : Option ℕ) (revision : ℕ) (origin : Point) (rects : List Rect) (k : ℕ) → slice_index (map packed rects) k ≡ row_word_of (made_row owner revision origin rects) (4 + k)
rect_is owner revision origin rects k =
    let a : (4 + k == 0) ≡ false = grind (arith, nat_tests) in
    let b : (4 + k == 1) ≡ false = grind (arith, nat_tests) in
    let d : (4 + k == 2) ≡ false = grind (arith, nat_tests) in
    let e : (4 + k == 3) ≡ false = grind (arith, nat_tests) in
    ap (slice_index (map packed rects)) (let z : k ≡ 4 + k - 4 = omega arith in z)
    ∙ sym (ap (λ t. if t then length rects else slice_index (map packed rects) (4 + k - 4)) e)
    ∙ sym (ap (λ t. if t then origin_word origin else if 4 + k == 3 then length rects else slice_index (map packed rects) (4 + k - 4)) d)
    ∙ sym (ap (λ t. if t then revision else if 4 + k == 2 then origin_word origin else if 4 + k == 3 then length rects else slice_index (map packed rects) (4 + k - 4)) b)
    ∙ sym (ap (λ t. if t then owner_word owner else if 4 + k == 1 then revision else if 4 + k == 2 then origin_word origin else if 4 + k == 3 then length rects else slice_index (map packed rects) (4 + k - 4)) a)

pub returns-clause-words : goal.returns-clause-words
returns-clause-words c =
    let o = c.args.owner in
    let v = c.args.revision in
    let p = c.args.origin in
    let l = c.args.rects.now in
    set_both (row_word c.args.slot) 4 (length l) (row_word c.args.slot + 4) (head_words o v p (length l)) (slice_index (map packed l)) (row_word_of (made_row o v p l))
    c.args.turn.now.head.now.server.present c.write_head.new.turn.head.now.server.present c.write_rects.new.turn.head.now.server.present c.write_head.ensures.words c.write_rects.ensures.words refl
    (λ k lt. head_is o v p l (length l) k refl lt) (λ k lt. rect_is o v p l k)
