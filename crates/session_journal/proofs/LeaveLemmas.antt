-- Where bytes leave the grammar: what follows at the places, and the longest prefix of a file.
use Rattle.std.proofs.Common.{◌≡◌, ◌↔◌, ℕ, zero, suc, ◌+◌, ◌-◌, ◌*◌, ◌<◌, ◌≤◌, nat_lt, ◌++◌, [], ◌∷◌, List, Bool, true, false, length, take, drop, get_or, replicate, refl, sym, ap, subst, ◌∙◌, append_assoc, append-nil, length-append, length-take, length-drop, arith}
use lib.Chars.{codes}
use Rattle.std.specs.List.{flat_map}
use Rattle.std.specs.Fmt.{decimal}
use Rattle.std.proofs.Math.Nat.{mul-le-mul_left}
use Rattle.std.proofs.lemmas.List.{take_all, length-replicate, take-append-drop}
use Rattle.std.proofs.Math.Seq.{take-add}
use Rattle.std.proofs.lemmas.Bool.Decides.{nat_tests}
use Rattle.session_journal.specs.declared.files.File.{File}
use Rattle.session_journal.specs.declared.places.Stage.{Stage}
use Rattle.session_journal.specs.declared.places.Stage.TheVariants.{Magic, Line, Comment, Width, Blank, Height, Most, Raster}
use Rattle.session_journal.specs.Texts.{line_text, head_text}
use Rattle.session_journal.specs.Grammar.{IsComment, IsFile, BeginsFile, LeavesAt}
use Rattle.session_journal.specs.Places.{Behind, Number, WholeNumber, HeightOf, MostOf, RasterOf, WidthOf, Lines, Comments, Follows, IsPlace, Leads}
use Rattle.session_journal.proofs.PlaceLemmas.{behind_nil, number_nil, whole_nil, lines_nil, comments_nil, no_lines}

pub not_below : (a b : ℕ) → (a < b → ⊥) → b ≤ a
not_below a b h = by_test (nat_lt a b) refl
  where
    by_test : (t : Bool) → nat_lt a b ≡ t → b ≤ a
    by_test true is = absurd (h (grind (arith, nat_tests)))
    by_test false is = grind (arith, nat_tests)

-- ---- the whole file

pub file_start : (tail : List ℕ) (file : File) → IsFile tail file ↔ Follows (Magic 0) [] [] tail file
file_start tail file = (to, from)
  where
    after_width : List ℕ
    after_width = decimal file.size.h ++ 10 ∷ (codes "255\n" ++ file.raster)

    head : head_text file.size ++ file.raster ≡ decimal file.size.w ++ 32 ∷ after_width
    head =
        append_assoc (decimal file.size.w) (codes " " ++ (decimal file.size.h ++ codes "\n255\n")) file.raster
        ∙ ap (λ (l : List ℕ). decimal file.size.w ++ 32 ∷ l) (append_assoc (decimal file.size.h) (codes "\n255\n") file.raster)

    to : IsFile tail file → Behind (codes "P6\n") (Lines []) tail file
    to is =
        let size = is.size in
        let some_w = size.some_w in
        let some_h = size.some_h in
        record {
          rest = flat_map line_text file.lines ++ (head_text file.size ++ file.raster);
          text_is = is.text;
          next = record {
            more = file.lines;
            rest = head_text file.size ++ file.raster;
            comments = is.comments;
            text_is = refl;
            next = record {
              value = file.size.w;
              rest = after_width;
              some = omega arith;
              small = size.most_w;
              text_is = head;
              next = record {
                value = file.size.h;
                rest = codes "255\n" ++ file.raster;
                some = omega arith;
                small = size.most_h;
                text_is = refl;
                next = record { rest = file.raster; text_is = refl; next = record { file_is = refl; long = is.raster } };
              };
            };
          };
        }

    from : Behind (codes "P6\n") (Lines []) tail file → IsFile tail file
    from b =
        let l = b.next in
        let w = l.next in
        let h = w.next in
        let m = h.next in
        let some_w = w.some in
        let some_h = h.some in
        let head_is : head_text (record { w = w.value; h = h.value }) ++ m.rest ≡ decimal w.value ++ 32 ∷ (decimal h.value ++ 10 ∷ (codes "255\n" ++ m.rest)) =
        append_assoc (decimal w.value) (codes " " ++ (decimal h.value ++ codes "\n255\n")) m.rest
        ∙ ap (λ (x : List ℕ). decimal w.value ++ 32 ∷ x) (append_assoc (decimal h.value) (codes "\n255\n") m.rest) in
        let rest : l.rest ≡ head_text (record { w = w.value; h = h.value }) ++ m.rest =
        w.text_is ∙ ap (λ (x : List ℕ). decimal w.value ++ 32 ∷ x) (h.text_is ∙ ap (λ (x : List ℕ). decimal h.value ++ 10 ∷ x) m.text_is) ∙ sym head_is in
        subst (λ (f : File). IsFile tail f) (sym m.next.file_is)
        (record {
          text = b.text_is ∙ ap (λ (x : List ℕ). codes "P6\n" ++ x) (l.text_is ∙ ap (λ (x : List ℕ). flat_map line_text l.more ++ x) rest);
          comments = l.comments;
          size = record { some_w = omega arith; some_h = omega arith; most_w = w.small; most_h = h.small };
          raster = m.next.long;
        })

-- ---- something may follow at each place

pub record Lives (Next : List ℕ → File → Type 0) : Type 0 where
  pub tail : List ℕ
  pub file : File
  pub follows : Next tail file

zeros : ℕ → List ℕ
zeros n = replicate n 0

pub raster_lives : (lines : List (List ℕ)) (w h : ℕ) → Lives (RasterOf lines w h)
raster_lives lines w h = record { tail = replicate (3 * (w * h)) 0; file = record { size = record { w = w; h = h }; lines = lines; raster = replicate (3 * (w * h)) 0 }; follows = record { file_is = refl; long = length-replicate (3 * (w * h)) 0 } }

behind_lives : (text : List ℕ) (Next : List ℕ → File → Type 0) → Lives Next → Lives (Behind text Next)
behind_lives text Next n = record { tail = text ++ n.tail; file = n.file; follows = record { rest = n.tail; text_is = refl; next = n.follows } }

number_lives : (most end n : ℕ) (Next : ℕ → List ℕ → File → Type 0) → n ≤ most → Lives (Next n) → Lives (Number most end n Next)
number_lives most end n Next small next = record { tail = end ∷ next.tail; file = next.file; follows = record { digits = []; rest = next.tail; are_digits = refl; text_is = refl; small = small; next = next.follows } }

whole_lives : (most end : ℕ) (Next : ℕ → List ℕ → File → Type 0) → 1 ≤ most → Lives (Next 1) → Lives (WholeNumber most end Next)
whole_lives most end Next small next = record { tail = decimal 1 ++ end ∷ next.tail; file = next.file; follows = record { value = 1; rest = next.tail; some = omega arith; small = small; text_is = refl; next = next.follows } }

most_lives : (lines : List (List ℕ)) (w h : ℕ) → Lives (MostOf lines w h)
most_lives lines w h = behind_lives (codes "255\n") (RasterOf lines w h) (raster_lives lines w h)

height_lives : (lines : List (List ℕ)) (w : ℕ) → Lives (HeightOf lines w)
height_lives lines w = whole_lives 480 10 (MostOf lines w) (omega arith) (most_lives lines w 1)

lines_live : (lines : List (List ℕ)) → Lives (Lines lines)
lines_live lines =
    let next : Lives (WidthOf (lines ++ [])) = whole_lives 640 32 (HeightOf (lines ++ [])) (omega arith) (height_lives (lines ++ []) 1) in
    record { tail = next.tail; file = next.file; follows = record { more = []; rest = next.tail; comments = no_lines; text_is = refl; next = next.follows } }

comment_lives : (lines : List (List ℕ)) (line : List ℕ) → IsComment line → Lives (Comments lines line)
comment_lives lines line ok =
    let next = lines_live (lines ++ (line ++ []) ∷ []) in
    record { tail = 10 ∷ next.tail; file = next.file; follows = record { more = []; rest = next.tail; comment = subst IsComment (sym (append-nil line)) ok; text_is = refl; next = next.follows } }

pub lives : (place : Stage) (lines : List (List ℕ)) (line : List ℕ) → IsPlace place line → Lives (Follows place lines line)
lives (Magic read) lines line ok = behind_lives (drop read (codes "P6\n")) (Lines lines) (lines_live lines)
lives Line lines line ok = lines_live lines
lives Comment lines line ok = comment_lives lines line ok
lives (Width w) lines line ok = number_lives 640 32 w (HeightOf lines) ok.1 (height_lives lines w)
lives (Blank w) lines line ok = height_lives lines w
lives (Height w h) lines line ok = number_lives 480 10 h (MostOf lines w) ok.3 (most_lives lines w h)
lives (Most w h read) lines line ok = behind_lives (drop read (codes "255\n")) (RasterOf lines w h) (raster_lives lines w h)
lives (Raster w h) lines line ok = raster_lives lines w h

-- ---- no file ends before its raster does

some_pixels : (w h : ℕ) → 1 ≤ w → 1 ≤ h → 1 ≤ w * h
some_pixels w h some_w some_h = omega (arith, mul-le-mul_left w some_h)

magic_open : (read : ℕ) (lines : List (List ℕ)) (file : File) → read < 3 → ¬ Behind (drop read (codes "P6\n")) (Lines lines) [] file
magic_open zero lines file low = behind_nil 80 (54 ∷ 10 ∷ []) (Lines lines) file
magic_open (suc zero) lines file low = behind_nil 54 (10 ∷ []) (Lines lines) file
magic_open (suc (suc zero)) lines file low = behind_nil 10 [] (Lines lines) file
magic_open (suc (suc (suc read))) lines file low = absurd (omega arith)

most_open : (w h read : ℕ) (lines : List (List ℕ)) (file : File) → read < 4 → ¬ Behind (drop read (codes "255\n")) (RasterOf lines w h) [] file
most_open w h zero lines file low = behind_nil 50 (53 ∷ 53 ∷ 10 ∷ []) (RasterOf lines w h) file
most_open w h (suc zero) lines file low = behind_nil 53 (53 ∷ 10 ∷ []) (RasterOf lines w h) file
most_open w h (suc (suc zero)) lines file low = behind_nil 53 (10 ∷ []) (RasterOf lines w h) file
most_open w h (suc (suc (suc zero))) lines file low = behind_nil 10 [] (RasterOf lines w h) file
most_open w h (suc (suc (suc (suc read)))) lines file low = absurd (omega arith)

pub still_open : (place : Stage) (lines : List (List ℕ)) (line : List ℕ) (file : File) → IsPlace place line → ¬ Follows place lines line [] file
still_open (Magic read) lines line file ok = magic_open read lines file ok.0
still_open Line lines line file ok = lines_nil lines file
still_open Comment lines line file ok = comments_nil lines line file
still_open (Width w) lines line file ok = number_nil 640 32 w (HeightOf lines) file
still_open (Blank w) lines line file ok = whole_nil 480 10 (omega arith) (MostOf lines w) file
still_open (Height w h) lines line file ok = number_nil 480 10 h (MostOf lines w) file
still_open (Most w h read) lines line file ok = most_open w h read lines file ok.4
still_open (Raster w h) lines line file ok = λ r. let none = r.long in absurd (omega (arith, some_pixels w h ok.0 ok.2))

-- ---- where the bytes leave

-- the bytes up to a place past another
record Past (bytes : List ℕ) (at k : ℕ) : Type 0 where
  rest : List ℕ
  is : take k bytes ≡ take at bytes ++ get_or bytes at 0 ∷ rest

past : (bytes : List ℕ) (at k : ℕ) → at < k → k ≤ length bytes → Past bytes at k
past [] at k above within = absurd (omega arith)
past (x ∷ xs) zero zero above within = absurd (omega arith)
past (x ∷ xs) zero (suc k) above within = record { rest = take k xs; is = refl }
past (x ∷ xs) (suc at) zero above within = absurd (omega arith)
past (x ∷ xs) (suc at) (suc k) above within = let p = past xs at k (omega arith) (omega arith) in record { rest = p.rest; is = ap (λ (l : List ℕ). x ∷ l) p.is }

-- a reader stopped: no file goes on with the byte there, if there is one
pub leaves : (bytes : List ℕ) (at : ℕ) (place : Stage) (lines : List (List ℕ)) (line : List ℕ) → at ≤ length bytes → IsPlace place line → Leads bytes at place lines line
    → (at < length bytes → (tail : List ℕ) (file : File) → ¬ Follows place lines line (get_or bytes at 0 ∷ tail) file) → LeavesAt bytes at
leaves bytes at place lines line within ok leads stuck = record {
  no_file = λ file is. no_file file is (nat_lt at (length bytes)) refl;
  within = within;
  begins = let l = lives place lines line ok in record { rest = l.tail; file = l.file; is_file = (leads l.tail l.file).1 l.follows };
  longest = λ k le b. not_below at k (λ above. beyond k above le b);
}
  where
    beyond : (k : ℕ) → at < k → k ≤ length bytes → BeginsFile (take k bytes) → ⊥
    beyond k above le b =
        let p = past bytes at k above le in
        let text : take k bytes ++ b.rest ≡ take at bytes ++ get_or bytes at 0 ∷ (p.rest ++ b.rest) = ap (λ (l : List ℕ). l ++ b.rest) p.is ∙ append_assoc (take at bytes) (get_or bytes at 0 ∷ p.rest) b.rest in
        stuck (omega arith) (p.rest ++ b.rest) b.file ((leads (get_or bytes at 0 ∷ (p.rest ++ b.rest)) b.file).0 (subst (λ (l : List ℕ). IsFile l b.file) text b.is_file))

    no_file : (file : File) → IsFile bytes file → (t : Bool) → nat_lt at (length bytes) ≡ t → ⊥
    no_file file is true below = beyond (length bytes) (grind (arith, nat_tests)) (omega arith) (record { rest = []; file = file; is_file = subst (λ (l : List ℕ). IsFile l file) (sym (append-nil (take (length bytes) bytes) ∙ take_all (length bytes) bytes (omega arith))) is })
    no_file file is false ended =
        let end : length bytes ≤ at = grind (arith, nat_tests) in
        still_open place lines line file ok ((leads [] file).0 (subst (λ (l : List ℕ). IsFile l file) (sym (append-nil (take at bytes) ∙ take_all at bytes end)) is))

-- ---- the raster

module _ (bytes : List ℕ) (at w h : ℕ) (lines : List (List ℕ)) (within : at ≤ length bytes) (leads : Leads bytes at (Raster w h) lines []) where
  whole : take at bytes ++ drop at bytes ≡ bytes
  whole = take-append-drop at bytes

  -- the file with that raster
  abbrev pub with_rows : List ℕ → File
  with_rows raster = record { size = record { w = w; h = h }; lines = lines; raster = raster }

  is_with_rows : (raster : List ℕ) → length raster ≡ 3 * (w * h) → IsFile (take at bytes ++ raster) (with_rows raster)
  is_with_rows raster long = (leads raster (with_rows raster)).1 (record { file_is = refl; long = long })

  left : length (drop at bytes) ≡ length bytes - at
  left = length-drop at bytes

  no_other : (file : File) → IsFile bytes file → at + 3 * (w * h) ≡ length bytes
  no_other file is =
      let r = (leads (drop at bytes) file).0 (subst (λ (l : List ℕ). IsFile l file) (sym whole) is) in
      let long = r.long in
      let rest = left in
      let low = within in
      omega arith

  pub raster_only : (other : File) → IsFile bytes other → other ≡ with_rows (drop at bytes)
  raster_only other is = ((leads (drop at bytes) other).0 (subst (λ (l : List ℕ). IsFile l other) (sym whole) is)).file_is

  pub raster_fits : at + 3 * (w * h) ≡ length bytes → IsFile bytes (with_rows (drop at bytes))
  raster_fits end = subst (λ (l : List ℕ). IsFile l (with_rows (drop at bytes))) whole (is_with_rows (drop at bytes) (let rest = left in omega arith))

  pub raster_short : length bytes < at + 3 * (w * h) → LeavesAt bytes (length bytes)
  raster_short short =
      let low = within in
      let rest = left in
      let missing : List ℕ = replicate (at + 3 * (w * h) - length bytes) 0 in
      let filled : length missing ≡ at + 3 * (w * h) - length bytes = length-replicate (at + 3 * (w * h) - length bytes) 0 in
      let text : take at bytes ++ (drop at bytes ++ missing) ≡ take (length bytes) bytes ++ missing =
      sym (append_assoc (take at bytes) (drop at bytes) missing) ∙ ap (λ (l : List ℕ). l ++ missing) (whole ∙ sym (take_all (length bytes) bytes (omega arith))) in
      record {
        no_file = λ file is. let same = no_other file is in omega arith;
        within = omega arith;
        begins = record { rest = missing; file = with_rows (drop at bytes ++ missing); is_file = subst (λ (l : List ℕ). IsFile l (with_rows (drop at bytes ++ missing))) text (is_with_rows (drop at bytes ++ missing) (omega (arith, filled, length-append (drop at bytes) missing))) };
        longest = λ k le b. le;
      }

  pub raster_long : at + 3 * (w * h) < length bytes → LeavesAt bytes (at + 3 * (w * h))
  raster_long long =
      let n = 3 * (w * h) in
      let rest = left in
      let rows = take n (drop at bytes) in
      let many = length-take n (drop at bytes) in
      let text : take at bytes ++ rows ≡ take (at + n) bytes ++ [] = sym (append-nil (take (at + n) bytes) ∙ take-add at n bytes) in
      record {
        no_file = λ file is. let same = no_other file is in omega arith;
        within = omega arith;
        begins = record { rest = []; file = with_rows rows; is_file = subst (λ (l : List ℕ). IsFile l (with_rows rows)) text (is_with_rows rows (omega arith)) };
        longest = λ k le b. not_below (at + n) k (λ above. beyond k above le b);
      }
    where
      beyond : (k : ℕ) → at + 3 * (w * h) < k → k ≤ length bytes → BeginsFile (take k bytes) → ⊥
      beyond k above le b =
          let some = k - at in
          let split : k ≡ at + some = omega arith in
          let text : take k bytes ++ b.rest ≡ take at bytes ++ (take some (drop at bytes) ++ b.rest) =
          ap (λ (j : ℕ). take j bytes ++ b.rest) split ∙ ap (λ (l : List ℕ). l ++ b.rest) (take-add at some bytes) ∙ append_assoc (take at bytes) (take some (drop at bytes)) b.rest in
          let r = (leads (take some (drop at bytes) ++ b.rest) b.file).0 (subst (λ (l : List ℕ). IsFile l b.file) text b.is_file) in
          let exact = r.long in
          let rest = left in
          omega (arith, length-append (take some (drop at bytes)) b.rest, length-take some (drop at bytes))
