-- Each byte at each place: the place behind it, or that no file goes on with it.
use Rattle.std.proofs.Common.{◌≡◌, ◌↔◌, ℕ, zero, suc, ◌+◌, ◌-◌, ◌*◌, ◌<◌, ◌≤◌, nat_le, nat_lt, ◌++◌, [], ◌∷◌, List, Bool, true, false, cond, ◌&&◌, ◌==◌, length, Option, Some, None, refl, sym, subst, ◌∙◌, length-append, arith}
use Rattle.std.specs.List.{list_all}
use Rattle.std.specs.Option.{option_map}
use Rattle.std.proofs.lemmas.List.Folds.{list_all-append}
use Rattle.std.proofs.lemmas.Bool.{and_parts, and_from, eqb-true, eqb-false}
use Rattle.std.proofs.lemmas.Bool.Decides.{nat_tests}
use Rattle.session_journal.specs.declared.files.File.{File}
use Rattle.session_journal.specs.declared.places.Stage.{Stage}
use Rattle.session_journal.specs.declared.places.Stage.TheVariants.{Magic, Line, Comment, Width, Blank, Height, Most, Raster}
use Rattle.session_journal.specs.Grammar.{is_printing, IsComment}
use Rattle.session_journal.specs.Places.{Behind, HeightOf, MostOf, RasterOf, Lines, Comments, Follows, IsPlace, is_digit, is_first_digit, place_after, lines_after, line_after}
use Rattle.session_journal.proofs.PlaceLemmas.{behind_more, behind_other, behind_all, number_end, number_digit, number_stuck, whole_digit, whole_stuck, line_comment, line_size, comment_end, comment_more, comment_stuck}

-- what a byte leaves: what may follow at the next place, or nothing
abbrev pub GoesOn : Stage → ℕ → List (List ℕ) → List ℕ → Option Stage → Type 0
GoesOn place c lines line None = (tail : List ℕ) (file : File) → ¬ Follows place lines line (c ∷ tail) file
GoesOn place c lines line (Some next) =
    IsPlace next (line_after place c line)
    × ((tail : List ℕ) (file : File) → Follows place lines line (c ∷ tail) file ↔ Follows next (lines_after place c lines line) (line_after place c line) tail file)

pub both_ways : {A B C : Type 0} → A ↔ B → B ↔ C → A ↔ C
both_ways f g = (λ a. g.0 (f.0 a), λ c. f.1 (g.1 c))

byte_of : (t c : ℕ) (text : List ℕ) (Next : List ℕ → File → Type 0) → (c == t) ≡ true → (tail : List ℕ) (file : File) → Behind (t ∷ text) Next (c ∷ tail) file ↔ Behind text Next tail file
byte_of t c text Next is tail file = subst (λ (k : ℕ). Behind (t ∷ text) Next (k ∷ tail) file ↔ Behind text Next tail file) (sym (eqb-true c t is)) (behind_more text Next tail file t)

byte_not : (t c : ℕ) (text : List ℕ) (Next : List ℕ → File → Type 0) → (c == t) ≡ false → (tail : List ℕ) (file : File) → ¬ Behind (t ∷ text) Next (c ∷ tail) file
byte_not t c text Next other tail file = behind_other text Next tail file t c (eqb-false c t other)

magic_goes : (read c : ℕ) (lines : List (List ℕ)) (line : List ℕ) → read < 3 → line ≡ [] → GoesOn (Magic read) c lines line (place_after (Magic read) (length line) c)
magic_goes zero c lines line low empty = by_byte (c == 80) refl
  where
    by_byte : (b : Bool) → (c == 80) ≡ b → GoesOn (Magic 0) c lines line (cond b (Some (Magic 1)) None)
    by_byte true is = ((omega arith, empty), byte_of 80 c (54 ∷ 10 ∷ []) (Lines lines) is)
    by_byte false is = byte_not 80 c (54 ∷ 10 ∷ []) (Lines lines) is
magic_goes (suc zero) c lines line low empty = by_byte (c == 54) refl
  where
    by_byte : (b : Bool) → (c == 54) ≡ b → GoesOn (Magic 1) c lines line (cond b (Some (Magic 2)) None)
    by_byte true is = ((omega arith, empty), byte_of 54 c (10 ∷ []) (Lines lines) is)
    by_byte false is = byte_not 54 c (10 ∷ []) (Lines lines) is
magic_goes (suc (suc zero)) c lines line low empty = by_byte (c == 10) refl
  where
    by_byte : (b : Bool) → (c == 10) ≡ b → GoesOn (Magic 2) c lines line (cond b (Some Line) None)
    by_byte true is = (empty, λ tail file. both_ways (byte_of 10 c [] (Lines lines) is tail file) (behind_all [] (Lines lines) tail file))
    by_byte false is = byte_not 10 c [] (Lines lines) is
magic_goes (suc (suc (suc read))) c lines line low empty = absurd (omega arith)

most_goes : (w h read c : ℕ) (lines : List (List ℕ)) (line : List ℕ) → IsPlace (Most w h read) line → GoesOn (Most w h read) c lines line (place_after (Most w h read) (length line) c)
most_goes w h zero c lines line ok = by_byte (c == 50) refl
  where
    by_byte : (b : Bool) → (c == 50) ≡ b → GoesOn (Most w h 0) c lines line (cond b (Some (Most w h 1)) None)
    by_byte true is = ((ok.0, ok.1, ok.2, ok.3, omega arith, ok.5), byte_of 50 c (53 ∷ 53 ∷ 10 ∷ []) (RasterOf lines w h) is)
    by_byte false is = byte_not 50 c (53 ∷ 53 ∷ 10 ∷ []) (RasterOf lines w h) is
most_goes w h (suc zero) c lines line ok = by_byte (c == 53) refl
  where
    by_byte : (b : Bool) → (c == 53) ≡ b → GoesOn (Most w h 1) c lines line (cond b (Some (Most w h 2)) None)
    by_byte true is = ((ok.0, ok.1, ok.2, ok.3, omega arith, ok.5), byte_of 53 c (53 ∷ 10 ∷ []) (RasterOf lines w h) is)
    by_byte false is = byte_not 53 c (53 ∷ 10 ∷ []) (RasterOf lines w h) is
most_goes w h (suc (suc zero)) c lines line ok = by_byte (c == 53) refl
  where
    by_byte : (b : Bool) → (c == 53) ≡ b → GoesOn (Most w h 2) c lines line (cond b (Some (Most w h 3)) None)
    by_byte true is = ((ok.0, ok.1, ok.2, ok.3, omega arith, ok.5), byte_of 53 c (10 ∷ []) (RasterOf lines w h) is)
    by_byte false is = byte_not 53 c (10 ∷ []) (RasterOf lines w h) is
most_goes w h (suc (suc (suc zero))) c lines line ok = by_byte (c == 10) refl
  where
    by_byte : (b : Bool) → (c == 10) ≡ b → GoesOn (Most w h 3) c lines line (cond b (Some (Raster w h)) None)
    by_byte true is = ((ok.0, ok.1, ok.2, ok.3, ok.5), λ tail file. both_ways (byte_of 10 c [] (RasterOf lines w h) is tail file) (behind_all [] (RasterOf lines w h) tail file))
    by_byte false is = byte_not 10 c [] (RasterOf lines w h) is
most_goes w h (suc (suc (suc (suc read)))) c lines line ok = let low = ok.4 in absurd (omega arith)

no_comment : IsComment []
no_comment = record { short = omega arith; prints = refl }

line_goes : (c : ℕ) (lines : List (List ℕ)) (line : List ℕ) → line ≡ [] → GoesOn Line c lines line (place_after Line (length line) c)
line_goes c lines line empty = by_byte (c == 35) refl (is_first_digit c) refl
  where
    by_byte : (a : Bool) → (c == 35) ≡ a → (b : Bool) → is_first_digit c ≡ b → GoesOn Line c lines line (cond a (Some Comment) (option_map (λ w. Width w) (cond b (Some (c - 48)) None)))
    by_byte true is b digit = (
      subst IsComment (sym empty) no_comment,
      λ tail file. subst (λ (k : ℕ). Lines lines (k ∷ tail) file ↔ Comments lines line tail file) (sym (eqb-true c 35 is))
          (subst (λ (l : List ℕ). Lines lines (35 ∷ tail) file ↔ Comments lines l tail file) (sym empty) (line_comment lines file tail)),
    )
    by_byte false is true digit =
        let low : 49 ≤ c = grind (arith, nat_tests) in
        let high : c ≤ 57 = grind (arith, nat_tests) in
        ((omega arith, omega arith, empty), λ tail file. both_ways (line_size lines file tail c (eqb-false c 35 is)) (whole_digit 640 32 (omega arith) (HeightOf lines) file tail c digit))
    by_byte false is false digit = λ tail file h. whole_stuck 640 32 (omega arith) (HeightOf lines) file tail c digit ((line_size lines file tail c (eqb-false c 35 is)).0 h)

comment_goes : (c : ℕ) (lines : List (List ℕ)) (line : List ℕ) → IsComment line → GoesOn Comment c lines line (place_after Comment (length line) c)
comment_goes c lines line ok = by_byte (c == 10) refl (is_printing c && nat_lt (length line) 64) refl
  where
    Kept : Bool → Type 0
    Kept b = IsComment (cond b [] (line ++ c ∷ [])) × ((tail : List ℕ) (file : File) → Comments lines line (c ∷ tail) file ↔ Comments (cond b (lines ++ line ∷ []) lines) (cond b [] (line ++ c ∷ [])) tail file)

    by_byte : (a : Bool) → (c == 10) ≡ a → (b : Bool) → (is_printing c && nat_lt (length line) 64) ≡ b → GoesOn Comment c lines line (cond a (Some Line) (cond b (Some Comment) None))
    by_byte true is b more =
        subst (λ (k : ℕ). GoesOn Comment k lines line (Some Line)) (sym (eqb-true c 10 is)) (refl, λ tail file. comment_end lines line file tail ok)
    by_byte false is true more =
        let prints = (and_parts (is_printing c) (nat_lt (length line) 64) more).0 in
        let room = (and_parts (is_printing c) (nat_lt (length line) 64) more).1 in
        let few : length line < 64 = grind (arith, nat_tests) in
        let longer : IsComment (line ++ c ∷ []) = record {
          short = omega (arith, length-append line (c ∷ []));
          prints = list_all-append is_printing line (c ∷ []) ∙ and_from (list_all is_printing line) (list_all is_printing (c ∷ [])) ok.prints (and_from (is_printing c) true prints refl);
        } in
        subst (λ (b : Bool). IsComment (cond b [] (line ++ c ∷ [])) × ((tail : List ℕ) (file : File) → Comments lines line (c ∷ tail) file ↔ Comments (cond b (lines ++ line ∷ []) lines) (cond b [] (line ++ c ∷ [])) tail file)) (sym is)
        (longer, λ tail file. comment_more lines line file tail c prints)
    by_byte false is false more = λ tail file. comment_stuck lines line file tail c (eqb-false c 10 is) (λ prints. full (is_printing c) prints (nat_lt (length line) 64) refl more)
      where
        full : (p : Bool) → p ≡ true → (few : Bool) → nat_lt (length line) 64 ≡ few → (p && few) ≡ false → 64 ≤ length line
        full true h true low none = cc
        full true h false low none = grind (arith, nat_tests)
        full false h few low none = cc

-- a digit too many makes a number too large
too_large : (most n c : ℕ) → (is_digit c && nat_le (10 * n + (c - 48)) most) ≡ false → is_digit c ≡ true → most < 10 * n + (c - 48)
too_large most n c none digit = by_test (is_digit c) digit (nat_le (10 * n + (c - 48)) most) refl none
  where
    by_test : (d : Bool) → d ≡ true → (fits : Bool) → nat_le (10 * n + (c - 48)) most ≡ fits → (d && fits) ≡ false → most < 10 * n + (c - 48)
    by_test true h true is none = cc
    by_test true h false is none = grind (arith, nat_tests)
    by_test false h fits is none = cc

width_goes : (w c : ℕ) (lines : List (List ℕ)) (line : List ℕ) → IsPlace (Width w) line → GoesOn (Width w) c lines line (place_after (Width w) (length line) c)
width_goes w c lines line ok = by_byte (c == 32) refl (is_digit c && nat_le (10 * w + (c - 48)) 640) refl
  where
    by_byte : (a : Bool) → (c == 32) ≡ a → (b : Bool) → (is_digit c && nat_le (10 * w + (c - 48)) 640) ≡ b
        → GoesOn (Width w) c lines line (cond a (Some (Blank w)) (option_map (λ n. Width n) (cond b (Some (10 * w + (c - 48))) None)))
    by_byte true is b digit = subst (λ (k : ℕ). GoesOn (Width w) k lines line (Some (Blank w))) (sym (eqb-true c 32 is)) ((ok.0, ok.1, ok.2), λ tail file. number_end 640 32 refl (HeightOf lines) tail file w ok.1)
    by_byte false is true digit =
        let parts = and_parts (is_digit c) (nat_le (10 * w + (c - 48)) 640) digit in
        let test = parts.1 in
        let some = ok.0 in
        let fits : 10 * w + (c - 48) ≤ 640 = grind (arith, nat_tests) in
        ((omega arith, fits, ok.2), λ tail file. number_digit 640 32 refl (HeightOf lines) tail file w c parts.0)
    by_byte false is false digit = λ tail file. number_stuck 640 32 refl (HeightOf lines) tail file w c (eqb-false c 32 is) (too_large 640 w c digit)

height_goes : (w h c : ℕ) (lines : List (List ℕ)) (line : List ℕ) → IsPlace (Height w h) line → GoesOn (Height w h) c lines line (place_after (Height w h) (length line) c)
height_goes w h c lines line ok = by_byte (c == 10) refl (is_digit c && nat_le (10 * h + (c - 48)) 480) refl
  where
    by_byte : (a : Bool) → (c == 10) ≡ a → (b : Bool) → (is_digit c && nat_le (10 * h + (c - 48)) 480) ≡ b
        → GoesOn (Height w h) c lines line (cond a (Some (Most w h 0)) (option_map (λ n. Height w n) (cond b (Some (10 * h + (c - 48))) None)))
    by_byte true is b digit = subst (λ (k : ℕ). GoesOn (Height w h) k lines line (Some (Most w h 0))) (sym (eqb-true c 10 is)) ((ok.0, ok.1, ok.2, ok.3, omega arith, ok.4), λ tail file. number_end 480 10 refl (MostOf lines w) tail file h ok.3)
    by_byte false is true digit =
        let parts = and_parts (is_digit c) (nat_le (10 * h + (c - 48)) 480) digit in
        let test = parts.1 in
        let some = ok.2 in
        let fits : 10 * h + (c - 48) ≤ 480 = grind (arith, nat_tests) in
        ((ok.0, ok.1, omega arith, fits, ok.4), λ tail file. number_digit 480 10 refl (MostOf lines w) tail file h c parts.0)
    by_byte false is false digit = λ tail file. number_stuck 480 10 refl (MostOf lines w) tail file h c (eqb-false c 10 is) (too_large 480 h c digit)

blank_goes : (w c : ℕ) (lines : List (List ℕ)) (line : List ℕ) → IsPlace (Blank w) line → GoesOn (Blank w) c lines line (place_after (Blank w) (length line) c)
blank_goes w c lines line ok = by_byte (is_first_digit c) refl
  where
    by_byte : (b : Bool) → is_first_digit c ≡ b → GoesOn (Blank w) c lines line (option_map (λ h. Height w h) (cond b (Some (c - 48)) None))
    by_byte true digit =
        let low : 49 ≤ c = grind (arith, nat_tests) in
        let high : c ≤ 57 = grind (arith, nat_tests) in
        ((ok.0, ok.1, omega arith, omega arith, ok.2), λ tail file. whole_digit 480 10 (omega arith) (MostOf lines w) file tail c digit)
    by_byte false digit = λ tail file. whole_stuck 480 10 (omega arith) (MostOf lines w) file tail c digit

-- a byte at each place before the raster
pub goes_on : (place : Stage) (c : ℕ) (lines : List (List ℕ)) (line : List ℕ) → IsPlace place line → ((w h : ℕ) → place ≡ Raster w h → ⊥) → GoesOn place c lines line (place_after place (length line) c)
goes_on (Magic read) c lines line ok before = magic_goes read c lines line ok.0 ok.1
goes_on Line c lines line ok before = line_goes c lines line ok
goes_on Comment c lines line ok before = comment_goes c lines line ok
goes_on (Width w) c lines line ok before = width_goes w c lines line ok
goes_on (Blank w) c lines line ok before = blank_goes w c lines line ok
goes_on (Height w h) c lines line ok before = height_goes w h c lines line ok
goes_on (Most w h read) c lines line ok before = most_goes w h read c lines line ok
goes_on (Raster w h) c lines line ok before = absurd (before w h refl)
