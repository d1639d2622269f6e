-- A form has at most 300 words.
use Rattle.std.proofs.Common.{◌≡◌, ℕ, ◌<◌, ◌≤◌, suc, List, [], ◌∷◌, length, Bool, true, false, ◌&&◌, ◌||◌, cond, nat_le, nat_lt, Result, Err, refl, arith, inl, inr}
use Rattle.std.specs.Prelude.{◌==◌, ◌%◌}
use lib.Chars.{codes}
use Rattle.std.specs.List.{list_any}
use Rattle.std.specs.Str.{bytes_eq}
use Rattle.std.proofs.lemmas.Bool.Decides.{nat_tests}
use Rattle.glyph_masks.specs.Glyphs.{FontView}
use Rattle.script_grammar.specs.Session.{Session, fonts_of, latest}
use Rattle.script_grammar.specs.Spelling.{words_of}
use Rattle.script_grammar.specs.Reading.{Before, Nothing, Deep, Sized, Within, Finished, is_blank, line_in}
use Rattle.script_grammar.specs.Shapes.{so_many, between, in_groups, behind_one, behind_ink, is_plain_ink, is_shown, Shape, call_shapes, fits_one, fixed_and, is_rows, is_call, is_asset, fits_there}
use Rattle.script_grammar.specs.declared.lines.Cause.{Cause}
use Rattle.script_grammar.specs.declared.lines.Cause.TheVariants.{Form}
use Rattle.script_grammar.proofs.Forms.{told}
use Rattle.script_reader.specs.Few.{IsOpen, ManyWords}

-- nothing with more words fits
abbrev pub IsBounded : ℕ → (List (List ℕ) → Bool) → Type 0
IsBounded most fits = (words : List (List ℕ)) → most < length words → fits words ≡ false

so_few : (n : ℕ) → IsBounded n (so_many n)
so_few n words many = grind (arith, nat_tests)

and_false : (a b : Bool) → b ≡ false → (a && b) ≡ false
and_false true b h = h
and_false false b h = refl

false_and : (a b : Bool) → a ≡ false → (a && b) ≡ false
false_and a b h = rw h refl

not_between : (least most : ℕ) → IsBounded most (between least most)
not_between least most words many = and_false (nat_le least (length words)) (nat_le (length words) most) (grind (arith, nat_tests))

not_in_groups : (group least most : ℕ) → IsBounded most (in_groups group least most)
not_in_groups group least most words many = false_and (between least most words) (length words % group == 0) (not_between least most words many)

one_before : (most : ℕ) (rest : List (List ℕ) → Bool) → IsBounded most rest → IsBounded (suc most) (behind_one rest)
one_before most rest h [] many = absurd (omega arith)
one_before most rest h (word ∷ words) many = h words (omega arith)

more : (least most : ℕ) (fits : List (List ℕ) → Bool) → least ≤ most → IsBounded least fits → IsBounded most fits
more least most fits few h words many = h words (omega arith)

both_false : (t a b : Bool) (u v : Bool) → u ≡ false → v ≡ false → cond t u (a && v) ≡ false
both_false true a b u v h k = h
both_false false a b u v h k = and_false a v k

ink_before : (most : ℕ) (rest : List (List ℕ) → Bool) → IsBounded most rest → IsBounded (suc (suc (suc most))) (behind_ink rest)
ink_before most rest h [] many = absurd (omega arith)
ink_before most rest h (kind ∷ words) many = both_false (is_plain_ink kind) (bytes_eq kind (codes "blend")) true (behind_one rest words) (behind_one (behind_one rest) words) (one_before most rest h words (omega arith)) (one_before (suc most) (behind_one rest) (one_before most rest h) words (omega arith))

not_shown : IsBounded 1 is_shown
not_shown [] many = absurd (omega arith)
not_shown (word ∷ words) many = and_false (bytes_eq word (codes "0") || bytes_eq word (codes "1")) (so_many 0 words) (so_few 0 words (omega arith))

abbrev pub EachBounded : List Shape → Type 0
EachBounded [] = Unit {0}
EachBounded (shape ∷ shapes) = IsBounded 298 shape.fits × EachBounded shapes

at_kind : (t : Bool) (u v : Bool) → u ≡ false → v ≡ false → cond t u v ≡ false
at_kind true u v h k = h
at_kind false u v h k = k

none_fits : (shapes : List Shape) (kind : List ℕ) → EachBounded shapes → (words : List (List ℕ)) → 298 < length words → fits_one shapes kind words ≡ false
none_fits [] kind h words many = refl
none_fits (shape ∷ shapes) kind h words many = at_kind (bytes_eq kind shape.kind) (shape.fits words) (fits_one shapes kind words) (h.0 words many) (none_fits shapes kind h.1 words many)

few : (n : ℕ) → n ≤ 298 → IsBounded 298 (so_many n)
few n small = more n 298 (so_many n) small (so_few n)

all_bounded : EachBounded call_shapes
all_bounded = (
  few 2 (omega arith),
  (
    few 1 (omega arith),
    (
      more 259 298 (behind_one (behind_one (behind_one (in_groups 4 0 256)))) (omega arith) (one_before 258 (behind_one (behind_one (in_groups 4 0 256))) (one_before 257 (behind_one (in_groups 4 0 256)) (one_before 256 (in_groups 4 0 256) (not_in_groups 4 0 256)))),
      (
        few 3 (omega arith),
        (
          few 1 (omega arith),
          (
            few 1 (omega arith),
            (
              few 3 (omega arith),
              (
                few 2 (omega arith),
                (
                  more 1 298 is_shown (omega arith) not_shown,
                  (
                    few 1 (omega arith),
                    (
                      few 1 (omega arith),
                      (
                        few 3 (omega arith),
                        (
                          few 0 (omega arith),
                          (
                            few 1 (omega arith),
                            (
                              more 8 298 (behind_one (behind_one (behind_one (behind_one (behind_one (behind_ink (so_many 0))))))) (omega arith) (one_before 7 (behind_one (behind_one (behind_one (behind_one (behind_ink (so_many 0)))))) (one_before 6 (behind_one (behind_one (behind_one (behind_ink (so_many 0))))) (one_before 5 (behind_one (behind_one (behind_ink (so_many 0)))) (one_before 4 (behind_one (behind_ink (so_many 0))) (one_before 3 (behind_ink (so_many 0)) (ink_before 0 (so_many 0) (so_few 0))))))),
                              (
                                few 6 (omega arith),
                                (
                                  few 5 (omega arith),
                                  (
                                    few 6 (omega arith),
                                    (
                                      more 130 298 (behind_one (behind_one (in_groups 2 4 128))) (omega arith) (one_before 129 (behind_one (in_groups 2 4 128)) (one_before 128 (in_groups 2 4 128) (not_in_groups 2 4 128))),
                                      (
                                        more 132 298 (behind_one (behind_ink (in_groups 2 6 128))) (omega arith) (one_before 131 (behind_ink (in_groups 2 6 128)) (ink_before 128 (in_groups 2 6 128) (not_in_groups 2 6 128))),
                                        (
                                          more 263 298 (behind_one (behind_one (behind_one (behind_one (behind_ink (between 1 256)))))) (omega arith) (one_before 262 (behind_one (behind_one (behind_one (behind_ink (between 1 256))))) (one_before 261 (behind_one (behind_one (behind_ink (between 1 256)))) (one_before 260 (behind_one (behind_ink (between 1 256))) (one_before 259 (behind_ink (between 1 256)) (ink_before 256 (between 1 256) (not_between 1 256)))))),
                                          tt,
                                        ),
                                      ),
                                    ),
                                  ),
                                ),
                              ),
                            ),
                          ),
                        ),
                      ),
                    ),
                  ),
                ),
              ),
            ),
          ),
        ),
      ),
    ),
  ),
)

not_fixed : (fixed : List ℕ) (most : ℕ) (rest : List (List ℕ) → Bool) → IsBounded most rest → IsBounded (suc most) (fixed_and fixed rest)
not_fixed fixed most rest h [] many = absurd (omega arith)
not_fixed fixed most rest h (word ∷ words) many = and_false (bytes_eq word fixed) (rest words) (h words (omega arith))

-- a fixed word and few more
no_line : (fixed : List ℕ) (n : ℕ) (words : List (List ℕ)) → n ≤ 298 → 300 < length words → fixed_and fixed (so_many n) words ≡ false
no_line fixed n words small many = not_fixed fixed n (so_many n) (so_few n) words (omega arith)

no_call : (words : List (List ℕ)) → 300 < length words → is_call words ≡ false
no_call [] many = absurd (omega arith)
no_call (client ∷ []) many = absurd (omega arith)
no_call (client ∷ kind ∷ words) many = none_fits call_shapes kind all_bounded words (omega arith)

no_rows : (fonts : List FontView) → (latest fonts).height ≤ 32 → IsBounded 32 (is_rows fonts)
no_rows fonts low rows many = and_false (nat_lt 0 (length fonts)) (length rows == (latest fonts).height) (grind (arith, nat_tests))

or_false : (a b : Bool) → a ≡ false → b ≡ false → (a || b) ≡ false
or_false a b h k = rw (h, k) refl

no_asset : (said : Session) (words : List (List ℕ)) → (latest (fonts_of said.assets)).height ≤ 32 → 300 < length words → is_asset said words ≡ false
no_asset said words low many =
    and_false (length said.calls == 0) _ (or_false _ _ (no_line (codes "font") 1 words (omega arith) many) (or_false _ _ (not_fixed (codes "glyph") 34 (behind_one (behind_one (is_rows (fonts_of said.assets)))) (one_before 33 (behind_one (is_rows (fonts_of said.assets))) (one_before 32 (is_rows (fonts_of said.assets)) (no_rows (fonts_of said.assets) low))) words (omega arith)) (no_line (codes "image") 3 words (omega arith) many)))

no_form : (before : Before) (words : List (List ℕ)) → IsOpen before → 300 < length words → fits_there before words ≡ false
no_form Nothing words left many = or_false _ _ (no_line (codes "depth") 1 words (omega arith) many) (no_line (codes "screen") 3 words (omega arith) many)
no_form (Deep depth) words left many = no_line (codes "screen") 3 words (omega arith) many
no_form (Sized depth size backdrop) words left many = no_line (codes "clients") 1 words (omega arith) many
no_form (Within said) words left many = or_false _ _ (no_line (codes "end") 0 words (omega arith) many) (or_false _ _ (no_asset said words left many) (no_call words many))
no_form (Finished said) words left many = absurd left

blank_or_not : (b : Bool) (r : Result Before Cause) → b ≡ true → cond b (Err Form) r ≡ Err Form
blank_or_not b r h = rw h refl

form_anyway : (b : Bool) (r : Result Before Cause) → r ≡ Err Form → cond b (Err Form) r ≡ Err Form
form_anyway true r h = refl
form_anyway false r h = h

pub many_words : ManyWords
many_words before text left (inl blank) = blank_or_not (list_any is_blank (words_of text)) (line_in before (words_of text)) blank
many_words before text left (inr many) = form_anyway (list_any is_blank (words_of text)) (line_in before (words_of text)) ((told before (words_of text)).1 (no_form before (words_of text) left many))
