-- Glyphs are found by their codes as in the list of all glyphs, and a new one goes last.
use Rattle.std.proofs.Common.{ℕ, ◌≡◌, ◌+◌, ◌-◌, ◌*◌, ◌≤◌, nat_eq, ◌==◌, List, [], ◌∷◌, ◌++◌, None, Some, Result, Ok, Err, is_ok, Bool, true, false, cond, not, if◌then◌else◌, ◌||◌, is_some, length, take, drop, refl, sym, ap, ◌∙◌, subst, arith}
use Rattle.std.specs.List.{All, find, list_any, position, position_or_len}
use Rattle.std.specs.Map.{lookup, keys_of}
use Rattle.std.specs.Cmp.{nat_eq_equiv}
use Rattle.std.proofs.lemmas.Bool.{true≢false, eqb-true}
use Rattle.std.proofs.lemmas.List.{drop-drop, take-append-le, drop-append-le, length-append, length-drop}
use Rattle.std.proofs.Math.Seq.{take-length}
use Rattle.std.proofs.lemmas.List.Elements.{All-nil, All-cons, All-append}
use Rattle.std.proofs.lemmas.Option.{same_Some}
use Rattle.indexmap.specs.IndexMap.{insert_entry}
use Rattle.indexmap.proofs.MapLemmas.{Found-position}
use Rattle.glyph_masks.specs.Glyphs.{GlyphView, IsGlyph}
use Rattle.glyph_masks.specs.Places.{placed, ArePlaced}
use Rattle.glyph_masks.proofs.SpellLemmas.{found}

-- the glyph of an index
abbrev pub placed_at : ℕ → ℕ → ℕ → List ℕ → ℕ → GlyphView
placed_at height code width rows i = record { code = code; width = width; rows = take height (drop (i * height) rows) }

pub has_at : (height code : ℕ) (es : List (ℕ × ℕ)) (rows : List ℕ) → is_some (lookup (nat_eq code) es) ≡ list_any (λ g. g.code == code) (placed height es rows)
has_at height code [] rows = refl
has_at height code (e ∷ es) rows =
    by (nat_eq code e.0) ∙ ap (λ b. b || is_some (lookup (nat_eq code) es)) (nat_eq_equiv.symm code e.0)
    ∙ ap (λ b. nat_eq e.0 code || b) (has_at height code es (drop height rows))
  where
    by : (b : Bool) → is_some (cond b (Some e.1) (lookup (nat_eq code) es)) ≡ (b || is_some (lookup (nat_eq code) es))
    by true = refl
    by false = refl

pub none_at : (height code : ℕ) (es : List (ℕ × ℕ)) (rows : List ℕ) → lookup (nat_eq code) es ≡ None → find (λ g. g.code == code) (placed height es rows) ≡ None
none_at height code [] rows none = refl
none_at height code (e ∷ es) rows none =
    ap (λ b. cond b (Some (record { code = e.0; width = e.1; rows = take height rows })) (find (λ g. g.code == code) (placed height es (drop height rows)))) (nat_eq_equiv.symm e.0 code)
    ∙ by (nat_eq code e.0) (none_at height code es (drop height rows)) none
  where
    by : (b : Bool) → (lookup (nat_eq code) es ≡ None → find (λ g. g.code == code) (placed height es (drop height rows)) ≡ None) → cond b (Some e.1) (lookup (nat_eq code) es) ≡ None
        → cond b (Some (record { code = e.0; width = e.1; rows = take height rows })) (find (λ g. g.code == code) (placed height es (drop height rows))) ≡ None
    by true rest h = cc
    by false rest h = rest h

first : (height code width : ℕ) (es : List (ℕ × ℕ)) (rows : List ℕ) → lookup (nat_eq code) es ≡ Some width
    → find (λ g. g.code == code) (placed height es rows) ≡ Some (placed_at height code width rows (position_or_len (nat_eq code) (keys_of es)))
first height code width [] rows some = cc
first height code width (e ∷ es) rows some =
    ap (λ b. cond b (Some (record { code = e.0; width = e.1; rows = take height rows })) (find (λ g. g.code == code) (placed height es (drop height rows)))) (nat_eq_equiv.symm e.0 code)
    ∙ by (nat_eq code e.0) refl (first height code width es (drop height rows)) some
  where
    by : (b : Bool) → nat_eq code e.0 ≡ b
        → (lookup (nat_eq code) es ≡ Some width → find (λ g. g.code == code) (placed height es (drop height rows)) ≡ Some (placed_at height code width (drop height rows) (position_or_len (nat_eq code) (keys_of es))))
        → cond b (Some e.1) (lookup (nat_eq code) es) ≡ Some width
        → cond b (Some (record { code = e.0; width = e.1; rows = take height rows })) (find (λ g. g.code == code) (placed height es (drop height rows)))
        ≡ Some (placed_at height code width rows (cond (not b) (1 + position_or_len (nat_eq code) (keys_of es)) 0))
    by true t rest h =
        let start : 0 ≡ 0 * height = omega arith in
        λ j. Some (record { code = sym (eqb-true code e.0 t) j; width = same_Some e.1 width h j; rows = take height (drop (start j) rows) })
    by false t rest h =
        let i : ℕ = position_or_len (nat_eq code) (keys_of es) in
        rest h
        ∙ ap (λ l. Some (record { code = code; width = width; rows = take height l })) (drop-drop (i * height) height rows ∙ ap (λ n. drop n rows) (omega arith))

-- what is found of a code
pub found_at : (height code width : ℕ) (es : List (ℕ × ℕ)) (rows : List ℕ) (i : ℕ) → position (nat_eq code) (keys_of es) ≡ Some i → lookup (nat_eq code) es ≡ Some width
    → find (λ g. g.code == code) (placed height es rows) ≡ Some (placed_at height code width rows i)
found_at height code width es rows i at value =
    first height code width es rows value ∙ ap (λ n. Some (placed_at height code width rows n)) (Found-position (nat_eq code) es i at).or_len

-- the glyph of an index is good
pub good_at : (height code width : ℕ) (es : List (ℕ × ℕ)) (rows part : List ℕ) (i : ℕ) → ArePlaced height es rows → position (nat_eq code) (keys_of es) ≡ Some i → lookup (nat_eq code) es ≡ Some width
    → part ≡ take height (drop (i * height) rows) → IsGlyph (length part) width part
good_at height code width es rows part i kept at value is =
    let good : IsGlyph height width (take height (drop (i * height) rows)) =
    found (λ g. IsGlyph height g.width g.rows) (λ g. g.code == code) (placed height es rows) kept.good (placed_at height code width rows i) (found_at height code width es rows i at value) in
    subst (λ l. IsGlyph (length l) width l) (sym is) (subst (λ n. IsGlyph n width (take height (drop (i * height) rows))) (sym good.rows_of_font) good)

-- the part of so many from a place on
pub part_from : (from n : ℕ) (all rows : List ℕ) → all ≡ rows → take (from + n - from) (drop from all) ≡ take n (drop from rows)
part_from from n all rows same = ap (λ k. take k (drop from all)) (omega arith) ∙ ap (λ l. take n (drop from l)) same

-- what an appending that didn't fail has made
pub appended : {A E : Type 0} (r : Result A E) (all some none : List ℕ) → is_ok r ≡ true → all ≡ (if is_ok r then some else none) → all ≡ some
appended (Ok x) all some none ok is = is
appended (Err e) all some none ok is = cc

-- a new code goes last
pub added_last : (code width : ℕ) (es : List (ℕ × ℕ)) → is_some (lookup (nat_eq code) es) ≡ false → insert_entry nat_eq es code width ≡ es ++ (code, width) ∷ []
added_last code width [] new = refl
added_last code width (e ∷ es) new = by (nat_eq code e.0) (added_last code width es) new
  where
    by : (b : Bool) → (is_some (lookup (nat_eq code) es) ≡ false → insert_entry nat_eq es code width ≡ es ++ (code, width) ∷ []) → is_some (cond b (Some e.1) (lookup (nat_eq code) es)) ≡ false
        → (if b then (e.0, width) ∷ es else e ∷ insert_entry nat_eq es code width) ≡ e ∷ (es ++ (code, width) ∷ [])
    by true more new = absurd (true≢false new)
    by false more new = ap (λ l. e ∷ l) (more new)

empty : {X : Type 0} (xs : List X) → length xs ≡ 0 → xs ≡ []
empty [] h = refl
empty (x ∷ xs) h = absurd (omega (arith, h))

-- rows behind those of all glyphs are those of one more
pub placed_last : (height code width : ℕ) (es : List (ℕ × ℕ)) (rows more : List ℕ) → length rows ≡ length es * height → length more ≡ height
    → placed height (es ++ (code, width) ∷ []) (rows ++ more) ≡ placed height es rows ++ record { code = code; width = width; rows = more } ∷ []
placed_last height code width [] rows more all one =
    let none : rows ≡ [] = empty rows (omega (arith, all)) in
    let whole : take height (rows ++ more) ≡ more = ap (λ l. take height (l ++ more)) none ∙ ap (λ n. take n more) (sym one) ∙ take-length more in
    ap (λ l. record { code = code; width = width; rows = l } ∷ []) whole
placed_last height code width (e ∷ es) rows more all one =
    let some : height ≤ length rows = omega (arith, all) in
    let left : length (drop height rows) ≡ length es * height = omega (arith, all, length-drop height rows) in
    (λ j. record { code = e.0; width = e.1; rows = take-append-le height rows more some j } ∷ placed height (es ++ (code, width) ∷ []) (drop-append-le height rows more some j))
    ∙ ap (λ l. record { code = e.0; width = e.1; rows = take height rows } ∷ l) (placed_last height code width es (drop height rows) more left one)

-- what a font keeps, with a glyph more
pub kept_on : (height code width : ℕ) (es after : List (ℕ × ℕ)) (rows more all : List ℕ) → ArePlaced height es rows → IsGlyph height width more → is_some (lookup (nat_eq code) es) ≡ false
    → after ≡ insert_entry nat_eq es code width → all ≡ rows ++ more
    → ArePlaced height after all × (placed height after all ≡ placed height es rows ++ record { code = code; width = width; rows = more } ∷ [])
kept_on height code width es after rows more all kept good new entries is =
    let last : after ≡ es ++ (code, width) ∷ [] = entries ∙ added_last code width es new in
    let glyph : GlyphView = record { code = code; width = width; rows = more } in
    let one_more : placed height after all ≡ placed height es rows ++ glyph ∷ [] =
    (λ j. placed height (last j) (is j)) ∙ placed_last height code width es rows more kept.rows_of_all good.rows_of_font in
    let IsGood : GlyphView → Type 0 = λ g. IsGlyph height g.width g.rows in
    let count : length after ≡ length es + 1 = ap length last ∙ length-append es ((code, width) ∷ []) in
    let size : length all ≡ (length es + 1) * height = omega (arith, ap length is, length-append rows more, kept.rows_of_all, good.rows_of_font) in (
      record {
        some_height = kept.some_height;
        most_height = kept.most_height;
        rows_of_all = size ∙ ap (λ n. n * height) (sym count);
        good = subst (All IsGood) (sym one_more) (All-append IsGood (placed height es rows) (glyph ∷ []) kept.good (All-cons IsGood glyph [] good (All-nil IsGood)));
      },
      one_more,
    )
