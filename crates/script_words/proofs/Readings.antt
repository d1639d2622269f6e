-- Lists of words, read one after the other.
use Rattle.std.proofs.Common.{◌≡◌, ℕ, ◌-◌, ◌<◌, ◌≤◌, List, [], ◌∷◌, length, map, take, drop, get_or, true, false, Result, Ok, Err, refl, ap, sym, ◌∙◌, arith, append-nil, length-drop}
use Rattle.std.specs.Prelude.{◌==◌}
use Rattle.std.specs.Borrow.{Bor}
use Rattle.std.proofs.lemmas.Bool.Decides.{nat_tests}
use Rattle.std.proofs.Math.Seq.{take-length}
use Rattle.qws_base.specs.declared.points.Point.{Point}
use Rattle.qws_base.specs.declared.points.Rect.{Rect}
use Rattle.script_grammar.specs.Judging.{first_cause, ◌⊛◌, each_of}
use Rattle.script_grammar.specs.Words.{rect_read, placed_point_read, rects_read, points_read}
use Rattle.script_grammar.specs.declared.lines.Cause.{Cause}
use Rattle.script_grammar.specs.declared.lines.Cause.TheVariants.{Form, Number, Range, Unknown, Repeated, Missing, Many, End}
use Rattle.script_words.specs.Judged.{pushed, fronted}
use Rattle.script_words.proofs.Fronts.{fronted_push, fronted_none}

all_behind : {A : Type 0} (n : ℕ) (rest : List A) → take (length rest - n) (drop n rest) ≡ drop n rest
all_behind n rest = ap (λ k. take k (drop n rest)) (sym (length-drop n rest)) ∙ take-length (drop n rest)

-- one more is read behind others
step : {A : Type 0} (whole all : Result (List A) Cause) (more : Result A Cause) (front next : Result (List A) Cause) → whole ≡ fronted all front → front ≡ (Ok (λ y ys. y ∷ ys) ⊛ more ⊛ next) → whole ≡ fronted (pushed all more) next
step whole all more front next h is = h ∙ ap (fronted all) is ∙ sym (fronted_push all more next)

form_is_first : (c : Cause) → first_cause c Form ≡ Form
form_is_first Form = refl
form_is_first Number = refl
form_is_first Range = refl
form_is_first Unknown = refl
form_is_first Repeated = refl
form_is_first Missing = refl
form_is_first Many = refl
form_is_first End = refl

form_behind : {A : Type 0} (all : Result (List A) Cause) → fronted all (Err Form) ≡ Err Form
form_behind (Ok xs) = refl
form_behind (Err c) = ap Err (form_is_first c)

none_behind : {A : Type 0} (all : Result (List A) Cause) → fronted all (Ok []) ≡ all
none_behind (Ok xs) = ap Ok (append-nil xs)
none_behind (Err c) = refl

-- ---- words one by one

abbrev pub no_word : Bor (List ℕ)
no_word = record { ref_ptr = (0, 0); now = [] }

pub each_step : {A : Type 0} (judge : List ℕ → Result A Cause) (words : List (List ℕ)) (all longer : Result (List A) Cause) (rest : List (Bor (List ℕ))) (read : Result A Cause) → 1 ≤ length rest → read ≡ judge (get_or rest 0 no_word).now → longer ≡ pushed all read → each_of judge words ≡ fronted all (each_of judge (map (λ w. w.now) rest)) → each_of judge words ≡ fronted longer (each_of judge (map (λ w. w.now) (take (length rest - 1) (drop 1 rest))))
each_step judge words all longer [] read some is more h = absurd (omega arith)
each_step {A} judge words all longer (w ∷ rest) read some is more h =
    step (each_of judge words) all (judge w.now) (each_of judge (w.now ∷ map (λ w. w.now) rest)) (each_of judge (map (λ w. w.now) rest)) h refl
    ∙ ap (λ (rs : List (Bor (List ℕ))). fronted (pushed all (judge w.now)) (each_of judge (map (λ w. w.now) rs))) (sym (all_behind 1 (w ∷ rest)))
    ∙ ap (λ (front : Result (List A) Cause). fronted front (each_of judge (map (λ w. w.now) (take (length (w ∷ rest) - 1) (drop 1 (w ∷ rest)))))) (ap (pushed all) (sym is) ∙ sym more)

-- nothing was read before
pub start : {A : Type 0} (whole : Result (List A) Cause) (items : List A) → items ≡ [] → whole ≡ fronted (Ok items) whole
start {A} whole items none = sym (fronted_none whole) ∙ ap (λ (xs : List A). fronted (Ok xs) whole) (sym none)

-- ---- points

points_next : (x y : List ℕ) (words : List (List ℕ)) → points_read (x ∷ y ∷ words) ≡ (Ok (λ p ps. p ∷ ps) ⊛ placed_point_read x y ⊛ points_read words)
points_next x y words = refl

pub points_step : (words : List (List ℕ)) (all longer : Result (List Point) Cause) (rest : List (Bor (List ℕ))) (read : Result Point Cause) → 2 ≤ length rest → read ≡ placed_point_read (get_or rest 0 no_word).now (get_or rest 1 no_word).now → longer ≡ pushed all read → points_read words ≡ fronted all (points_read (map (λ w. w.now) rest)) → points_read words ≡ fronted longer (points_read (map (λ w. w.now) (take (length rest - 2) (drop 2 rest))))
points_step words all longer [] read some is more h = absurd (omega arith)
points_step words all longer (x ∷ []) read some is more h = absurd (omega arith)
points_step words all longer (x ∷ y ∷ rest) read some is more h =
    step (points_read words) all (placed_point_read x.now y.now) (points_read (x.now ∷ y.now ∷ map (λ w. w.now) rest)) (points_read (map (λ w. w.now) rest)) h (points_next x.now y.now (map (λ w. w.now) rest))
    ∙ ap (λ (rs : List (Bor (List ℕ))). fronted (pushed all (placed_point_read x.now y.now)) (points_read (map (λ w. w.now) rs))) (sym (all_behind 2 (x ∷ y ∷ rest)))
    ∙ ap (λ (front : Result (List Point) Cause). fronted front (points_read (map (λ w. w.now) (take (length (x ∷ y ∷ rest) - 2) (drop 2 (x ∷ y ∷ rest)))))) (ap (pushed all) (sym is) ∙ sym more)

pub points_odd : (words : List (List ℕ)) (all : Result (List Point) Cause) (rest : List (Bor (List ℕ))) → length rest < 2 → (length rest == 0) ≡ false → points_read words ≡ fronted all (points_read (map (λ w. w.now) rest)) → Err Form ≡ points_read words
points_odd words all [] few some h = absurd (grind (arith, nat_tests))
points_odd words all (x ∷ []) few some h = sym (h ∙ form_behind all)
points_odd words all (x ∷ y ∷ rest) few some h = absurd (omega arith)

pub points_end : (words : List (List ℕ)) (all : Result (List Point) Cause) (rest : List (Bor (List ℕ))) → (length rest == 0) ≡ true → points_read words ≡ fronted all (points_read (map (λ w. w.now) rest)) → all ≡ points_read words
points_end words all [] none h = sym (h ∙ none_behind all)
points_end words all (x ∷ rest) none h = absurd (grind (arith, nat_tests))

-- ---- rectangles

rects_next : (x y w h : List ℕ) (words : List (List ℕ)) → rects_read (x ∷ y ∷ w ∷ h ∷ words) ≡ (Ok (λ r rs. r ∷ rs) ⊛ rect_read x y w h ⊛ rects_read words)
rects_next x y w h words = refl

pub rects_step : (words : List (List ℕ)) (all longer : Result (List Rect) Cause) (rest : List (Bor (List ℕ))) (read : Result Rect Cause) → 4 ≤ length rest → read ≡ rect_read (get_or rest 0 no_word).now (get_or rest 1 no_word).now (get_or rest 2 no_word).now (get_or rest 3 no_word).now → longer ≡ pushed all read → rects_read words ≡ fronted all (rects_read (map (λ w. w.now) rest)) → rects_read words ≡ fronted longer (rects_read (map (λ w. w.now) (take (length rest - 4) (drop 4 rest))))
rects_step words all longer [] read some is more h = absurd (omega arith)
rects_step words all longer (x ∷ []) read some is more h = absurd (omega arith)
rects_step words all longer (x ∷ y ∷ []) read some is more h = absurd (omega arith)
rects_step words all longer (x ∷ y ∷ w ∷ []) read some is more h = absurd (omega arith)
rects_step words all longer (x ∷ y ∷ w ∷ v ∷ rest) read some is more h =
    step (rects_read words) all (rect_read x.now y.now w.now v.now) (rects_read (x.now ∷ y.now ∷ w.now ∷ v.now ∷ map (λ w. w.now) rest)) (rects_read (map (λ w. w.now) rest)) h (rects_next x.now y.now w.now v.now (map (λ w. w.now) rest))
    ∙ ap (λ (rs : List (Bor (List ℕ))). fronted (pushed all (rect_read x.now y.now w.now v.now)) (rects_read (map (λ w. w.now) rs))) (sym (all_behind 4 (x ∷ y ∷ w ∷ v ∷ rest)))
    ∙ ap (λ (front : Result (List Rect) Cause). fronted front (rects_read (map (λ w. w.now) (take (length (x ∷ y ∷ w ∷ v ∷ rest) - 4) (drop 4 (x ∷ y ∷ w ∷ v ∷ rest)))))) (ap (pushed all) (sym is) ∙ sym more)

pub rects_odd : (words : List (List ℕ)) (all : Result (List Rect) Cause) (rest : List (Bor (List ℕ))) → length rest < 4 → (length rest == 0) ≡ false → rects_read words ≡ fronted all (rects_read (map (λ w. w.now) rest)) → Err Form ≡ rects_read words
rects_odd words all [] few some h = absurd (grind (arith, nat_tests))
rects_odd words all (x ∷ []) few some h = sym (h ∙ form_behind all)
rects_odd words all (x ∷ y ∷ []) few some h = sym (h ∙ form_behind all)
rects_odd words all (x ∷ y ∷ w ∷ []) few some h = sym (h ∙ form_behind all)
rects_odd words all (x ∷ y ∷ w ∷ v ∷ rest) few some h = absurd (omega arith)

pub rects_end : (words : List (List ℕ)) (all : Result (List Rect) Cause) (rest : List (Bor (List ℕ))) → (length rest == 0) ≡ true → rects_read words ≡ fronted all (rects_read (map (λ w. w.now) rest)) → all ≡ rects_read words
rects_end words all [] none h = sym (h ∙ none_behind all)
rects_end words all (x ∷ rest) none h = absurd (grind (arith, nat_tests))
