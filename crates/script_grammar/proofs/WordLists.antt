-- Inks and lists of words are read as printed.
use Rattle.std.proofs.Common.{◌≡◌, ℕ, ◌+◌, ◌*◌, ◌<◌, ◌≤◌, ◌^◌, zero, suc, ℤ, List, [], ◌∷◌, ◌++◌, length, map, Bool, true, false, ◌&&◌, cond, nat_le, nat_lt, Result, Ok, Err, refl, ap, sym, ◌∙◌, subst, arith, length-append, append-nil}
use Rattle.std.specs.Prelude.{◌==◌, All}
use lib.Chars.{codes}
use Rattle.std.specs.List.{list_all, flat_map}
use Rattle.std.specs.Str.{bytes_eq}
use Rattle.std.specs.Fmt.{decimal, signed_decimal}
use Rattle.std.proofs.lemmas.Bool.Decides.{nat_tests}
use Rattle.std.proofs.lemmas.Slice.Eq.{bytes_eq-Decides}
use Rattle.std.proofs.lemmas.List.Elements.{All-nil, All-cons, All-head, All-tail}
use Rattle.qws_base.specs.declared.points.Point.{Point}
use Rattle.qws_base.specs.declared.points.Rect.{Rect}
use Rattle.qws_base.specs.declared.inks.Ink.{Ink}
use Rattle.qws_base.specs.declared.inks.Ink.TheVariants.{Skip, Copy, Xor, And, Or, Blend}
use Rattle.qws_base.specs.Points.{IsPlaced}
use Rattle.script_grammar.specs.Spelling.{colour_read}
use Rattle.script_grammar.specs.Judging.{◌⊛◌, each_of}
use Rattle.script_grammar.specs.Limits.{IsColour, IsByte, IsInk, IsAsked, IsShort}
use Rattle.script_grammar.specs.Printing.{colour, ink_words, point_words, rect_words}
use Rattle.script_grammar.specs.Words.{ranged, rect_read, placed_point_read, rects_read, points_read, in_count, coloured, blended, ink_then, and_no_more}
use Rattle.script_grammar.specs.declared.lines.Cause.{Cause}
use Rattle.script_grammar.specs.declared.lines.Cause.TheVariants.{Form, Number, Range}
use Rattle.script_grammar.proofs.Binds.{err_is_no_ok, bind_ok, cond_ok}
use Rattle.script_grammar.proofs.Spelling.{IsSpelling, ok_same, both, and_true, cond_is, bind_is, ranged_spelling, short_spelling}
use Rattle.script_grammar.proofs.Hex.{colour_spelling}
use Rattle.script_grammar.proofs.Made.{made1_is, made2_is, made1_ok, made2_ok}
use Rattle.script_grammar.proofs.WordForms.{rect_reads, rect_printed, placed_point_reads, placed_point_printed}

-- ---- inks

bytes_255 : IsSpelling (ranged 0 255) decimal (λ n. (0 ≤ n) × (n ≤ 255))
bytes_255 = ranged_spelling 0 255 (omega arith)

pub ink_reads : (ink : Ink) (rest : List (List ℕ)) → IsInk ink → ink_then (ink_words ink ++ rest) ≡ (Ok ink, rest)
unfolding ink_then
ink_reads Skip rest h = absurd h
ink_reads (Copy c) rest h = ap (λ (r : Result Ink Cause). (r, rest)) (made1_is Copy (colour_read (colour c)) c (colour_spelling.reads c h))
ink_reads (Xor c) rest h = ap (λ (r : Result Ink Cause). (r, rest)) (made1_is Xor (colour_read (colour c)) c (colour_spelling.reads c h))
ink_reads (And c) rest h = ap (λ (r : Result Ink Cause). (r, rest)) (made1_is And (colour_read (colour c)) c (colour_spelling.reads c h))
ink_reads (Or c) rest h = ap (λ (r : Result Ink Cause). (r, rest)) (made1_is Or (colour_read (colour c)) c (colour_spelling.reads c h))
ink_reads (Blend c a) rest h = ap (λ (r : Result Ink Cause). (r, rest)) (made2_is (λ a c. Blend c a) (ranged 0 255 (decimal a)) (colour_read (colour c)) a c (bytes_255.reads a (omega arith, let byte = h.1 in omega arith)) (colour_spelling.reads c h.0))

pub cond_case : {A : Type 0} (P : A → Type 0) (b : Bool) (x y : A) → (b ≡ true → P x) → (b ≡ false → P y) → P (cond b x y)
cond_case P true x y holds fails = holds refl
cond_case P false x y holds fails = fails refl

-- an ink was cut off the front of words
abbrev IsCutInk : List (List ℕ) → Ink → Result Ink Cause × List (List ℕ) → Type 0
IsCutInk words ink judged = judged.0 ≡ Ok ink → (words ≡ ink_words ink ++ judged.1) × IsInk ink

coloured_printed : (make : ℕ → Ink) (name kind : List ℕ) (words : List (List ℕ)) (ink : Ink) → ((c : ℕ) → ink_words (make c) ≡ name ∷ colour c ∷ []) → ((c : ℕ) → IsColour c → IsInk (make c)) → kind ≡ name → IsCutInk (kind ∷ words) ink (coloured make words)
coloured_printed make name kind [] ink spelled inside is e = err_is_no_ok Form ink e
coloured_printed make name kind (w ∷ words) ink spelled inside is e =
    let made = made1_ok make (colour_read w) ink e in
    let c = colour_spelling.printed w made.0 made.1 in
    ((λ i. is i ∷ c.0 i ∷ words) ∙ ap (λ (front : List (List ℕ)). front ++ words) (sym (spelled made.0)) ∙ ap (λ (k : Ink). ink_words k ++ words) made.2, subst IsInk made.2 (inside made.0 c.1))

blended_printed : (kind : List ℕ) (words : List (List ℕ)) (ink : Ink) → kind ≡ codes "blend" → IsCutInk (kind ∷ words) ink (blended words)
blended_printed kind [] ink is e = err_is_no_ok Form ink e
blended_printed kind (a ∷ []) ink is e = err_is_no_ok Form ink e
blended_printed kind (a ∷ c ∷ words) ink is e =
    let made = made2_ok (λ (a c : ℕ). Blend c a) (ranged 0 255 a) (colour_read c) ink e in
    let alpha = bytes_255.printed a made.0 made.2 in
    let shade = colour_spelling.printed c made.1 made.3 in
    let byte : IsByte made.0 = let most = alpha.1.1 in omega arith in
    let inside : IsInk (Blend made.1 made.0) = (shade.1, byte) in
    ((λ i. is i ∷ alpha.0 i ∷ shade.0 i ∷ words) ∙ ap (λ (k : Ink). ink_words k ++ words) made.4, subst IsInk made.4 inside)

pub ink_printed : (words : List (List ℕ)) (ink : Ink) → (ink_then words).0 ≡ Ok ink → (words ≡ ink_words ink ++ (ink_then words).1) × IsInk ink
unfolding ink_then
ink_printed [] ink e = err_is_no_ok Form ink e
ink_printed (kind ∷ words) ink e =
    let is = λ (name : List ℕ) (h : bytes_eq kind name ≡ true). (bytes_eq-Decides kind name).0 h in
    let P = IsCutInk (kind ∷ words) ink in
    cond_case P (bytes_eq kind (codes "copy")) _ _ (λ h. coloured_printed Copy (codes "copy") kind words ink (λ c. refl) (λ c k. k) (is (codes "copy") h)) (λ h.
    cond_case P (bytes_eq kind (codes "xor")) _ _ (λ h. coloured_printed Xor (codes "xor") kind words ink (λ c. refl) (λ c k. k) (is (codes "xor") h)) (λ h.
    cond_case P (bytes_eq kind (codes "and")) _ _ (λ h. coloured_printed And (codes "and") kind words ink (λ c. refl) (λ c k. k) (is (codes "and") h)) (λ h.
    cond_case P (bytes_eq kind (codes "or")) _ _ (λ h. coloured_printed Or (codes "or") kind words ink (λ c. refl) (λ c k. k) (is (codes "or") h)) (λ h.
    cond_case P (bytes_eq kind (codes "blend")) _ _ (λ h. blended_printed kind words ink (is (codes "blend") h)) (λ h.
    λ no. err_is_no_ok Form ink no))))) e

pub no_more_reads : (ink : Ink) → IsInk ink → and_no_more (ink_then (ink_words ink)) ≡ Ok ink
no_more_reads ink h = ap and_no_more (ap ink_then (sym (append-nil (ink_words ink))) ∙ ink_reads ink [] h)

nothing_left : (rest : List (List ℕ)) → (length rest == 0) ≡ true → rest ≡ []
nothing_left [] e = refl
nothing_left (w ∷ rest) e = absurd (grind (arith, nat_tests))

pub no_more_printed : (words : List (List ℕ)) (ink : Ink) → and_no_more (ink_then words) ≡ Ok ink → (words ≡ ink_words ink) × IsInk ink
no_more_printed words ink e =
    let found = cond_ok (length (ink_then words).1 == 0) (ink_then words).0 Form ink e in
    let cut = ink_printed words ink found.1 in
    (cut.0 ∙ ap (λ (rest : List (List ℕ)). ink_words ink ++ rest) (nothing_left (ink_then words).1 found.0) ∙ append-nil (ink_words ink), cut.1)

-- ---- lists

pub each_spelling : {A : Type 0} {judge : List ℕ → Result A Cause} {print : A → List ℕ} {Limit : A → Type 0} → IsSpelling judge print Limit → IsSpelling (each_of judge) (map print) (All Limit)
each_spelling {A} {judge} {print} {Limit} own = record { reads = reading; printed = printing }
  where
    reading : (xs : List A) → All Limit xs → each_of judge (map print xs) ≡ Ok xs
    reading [] h = refl
    reading (x ∷ xs) h = made2_is (λ y ys. y ∷ ys) (judge (print x)) (each_of judge (map print xs)) x xs (own.reads x (All-head Limit x xs h)) (reading xs (All-tail Limit x xs h))

    printing : (ws : List (List ℕ)) (xs : List A) → each_of judge ws ≡ Ok xs → (ws ≡ map print xs) × All Limit xs
    printing [] xs e = let same = ok_same [] xs e in (ap (map print) same, subst (All Limit) same (All-nil Limit))
    printing (w ∷ ws) xs e =
        let made = made2_ok (λ y ys. y ∷ ys) (judge w) (each_of judge ws) xs e in
        let first = own.printed w made.0 made.2 in
        let rest = printing ws made.1 made.3 in
        ((λ i. first.0 i ∷ rest.0 i) ∙ ap (map print) made.4, subst (All Limit) made.4 (All-cons Limit made.0 made.1 first.1 rest.1))

pub rects_reads : (rs : List Rect) → All IsAsked rs → rects_read (flat_map rect_words rs) ≡ Ok rs
rects_reads [] h = refl
rects_reads (r ∷ rs) h = made2_is (λ r rs. r ∷ rs) _ (rects_read (flat_map rect_words rs)) r rs (rect_reads r (All-head IsAsked r rs h)) (rects_reads rs (All-tail IsAsked r rs h))

pub rects_printed : (ws : List (List ℕ)) (rs : List Rect) → rects_read ws ≡ Ok rs → (ws ≡ flat_map rect_words rs) × All IsAsked rs
rects_printed [] rs e = let same = ok_same [] rs e in (ap (flat_map rect_words) same, subst (All IsAsked) same (All-nil IsAsked))
rects_printed (x ∷ []) rs e = err_is_no_ok Form rs e
rects_printed (x ∷ y ∷ []) rs e = err_is_no_ok Form rs e
rects_printed (x ∷ y ∷ w ∷ []) rs e = err_is_no_ok Form rs e
rects_printed (x ∷ y ∷ w ∷ h ∷ ws) rs e =
    let made = made2_ok (λ r rs. r ∷ rs) (rect_read x y w h) (rects_read ws) rs e in
    let first = rect_printed x y w h made.0 made.2 in
    let rest = rects_printed ws made.1 made.3 in
    ((λ i. first.0 i ∷ first.1 i ∷ first.2 i ∷ first.3 i ∷ rest.0 i) ∙ ap (flat_map rect_words) made.4, subst (All IsAsked) made.4 (All-cons IsAsked made.0 made.1 first.4 rest.1))

pub points_reads : (ps : List Point) → All IsPlaced ps → points_read (flat_map point_words ps) ≡ Ok ps
points_reads [] h = refl
points_reads (p ∷ ps) h = made2_is (λ p ps. p ∷ ps) _ (points_read (flat_map point_words ps)) p ps (placed_point_reads p (All-head IsPlaced p ps h)) (points_reads ps (All-tail IsPlaced p ps h))

pub points_printed : (ws : List (List ℕ)) (ps : List Point) → points_read ws ≡ Ok ps → (ws ≡ flat_map point_words ps) × All IsPlaced ps
points_printed [] ps e = let same = ok_same [] ps e in (ap (flat_map point_words) same, subst (All IsPlaced) same (All-nil IsPlaced))
points_printed (x ∷ []) ps e = err_is_no_ok Form ps e
points_printed (x ∷ y ∷ ws) ps e =
    let made = made2_ok (λ p ps. p ∷ ps) (placed_point_read x y) (points_read ws) ps e in
    let first = placed_point_printed x y made.0 made.2 in
    let rest = points_printed ws made.1 made.3 in
    ((λ i. first.0 i ∷ first.1 i ∷ rest.0 i) ∙ ap (flat_map point_words) made.4, subst (All IsPlaced) made.4 (All-cons IsPlaced made.0 made.1 first.2 rest.1))

pub length-rects : (rs : List Rect) → length (flat_map rect_words rs) ≡ 4 * length rs
length-rects [] = refl
length-rects (r ∷ rs) = let rest = length-rects rs in omega arith

pub length-points : (ps : List Point) → length (flat_map point_words ps) ≡ 2 * length ps
length-points [] = refl
length-points (p ∷ ps) = let rest = length-points ps in omega arith

pub counted_is : {A : Type 0} (least most : ℕ) (words : List (List ℕ)) (judged : Result A Cause) → least ≤ length words → length words ≤ most → in_count least most words judged ≡ judged
counted_is least most words judged low high = cond_is (nat_le least (length words) && nat_le (length words) most) judged (Err Form) (and_true (nat_le least (length words)) (nat_le (length words) most) (grind (arith, nat_tests)) (grind (arith, nat_tests)))

pub counted_ok : {A : Type 0} (least most : ℕ) (words : List (List ℕ)) (judged : Result A Cause) (x : A) → in_count least most words judged ≡ Ok x → (judged ≡ Ok x) × (least ≤ length words) × (length words ≤ most)
counted_ok least most words judged x e =
    let found = cond_ok (nat_le least (length words) && nat_le (length words) most) judged Form x e in
    let ends = both (nat_le least (length words)) (nat_le (length words) most) found.0 in
    (found.1, grind (arith, nat_tests), grind (arith, nat_tests))
