-- What a turn that only reads has read.
use Rattle.std.proofs.Common.{◌≡◌, ℕ, ◌+◌, ◌-◌, ◌<◌, ◌≤◌, inr, List, [], ◌∷◌, ◌++◌, map, length, get_or, length-append, sym, refl, ap, ◌∙◌, subst, arith, ⊎_elim}
use Rattle.std.specs.Prelude.{slice_index}
use Rattle.std.proofs.lemmas.List.FromFn.{fill_by_all}
use Rattle.std.proofs.lemmas.List.{get_or-map, length-map}
use Rattle.std.proofs.lemmas.Bool.{cases_lt}
use Rattle.std.proofs.lemmas.List.{get_or-append_right}
use Rattle.std.proofs.Math.ListN.{get_or-append}
use Rattle.qws_base.specs.Points.{pixel_count}
use Rattle.qws_base.specs.Colours.{shown_colour}
use Rattle.qws_base.specs.declared.colours.Depth.{Depth}
use Rattle.region_table.specs.Numbers.{pixel_word}
use Rattle.turn_logs.specs.Lines.{written, OnlyPicks}
use Rattle.fb_words.specs.Segments.{line, first_value}
use Rattle.fb_words.specs.Views.{HeadView}
use Rattle.fb_words.specs.Steps.{AllHere, arranged, ReadTells, after_read}
use Rattle.fb_words.specs.ServerLogs.{ReadingLaw}
use Rattle.server_desk.specs.Reading.{IsPicture}

-- what all closed turns have written in the word
abbrev pub Was : HeadView → ℕ → ℕ → Type 0
Was h x n = n ≡ written (first_value h.server.setting x) (line x record h.server { log = [] } (arranged (length h.server.limits) h.sitting))

-- the turn has read the words of the first p pixels, and nothing else
pub record HasRead (first now : HeadView) (depth : Depth) (shown : List ℕ) (p : ℕ) : Type 0 where
  pub words : List ℕ
  pub head : now ≡ record first { server = record first.server { log = now.server.log } }
  pub only : OnlyPicks now.server.log
  pub long : length words ≡ p
  pub each : (k : ℕ) → k < p → Was first (pixel_word k) (slice_index words k)
  pub colours : shown ≡ map (shown_colour depth) words

pub none_read : (first : HeadView) (depth : Depth) (shown : List ℕ) → first.server.log ≡ [] → shown ≡ [] → HasRead first first depth shown 0
none_read first depth shown fresh none = record { words = []; head = refl; only = subst OnlyPicks (sym fresh) tt; long = refl; each = λ k lt. absurd (omega arith); colours = none }

map-append : {A B : Type 0} (f : A → B) (l m : List A) → map f (l ++ m) ≡ map f l ++ map f m
map-append f [] m = refl
map-append f (x ∷ l) m = ap (λ t. f x ∷ t) (map-append f l m)

pub read_more : ReadingLaw → (first now then : HeadView) (depth : Depth) (shown shown' : List ℕ) (p n : ℕ) → AllHere first.server first.sitting → HasRead first now depth shown p
    → then ≡ record now { server = after_read now.server (10632 + p) n } → ReadTells now.server now.sitting (10632 + p) n → shown' ≡ shown ++ shown_colour depth n ∷ [] → HasRead first then depth shown' (p + 1)
read_more law first now then depth shown shown' p n here has is tells more =
    let words = has.words in
    let here_now : AllHere now.server now.sitting = subst (λ (h : HeadView). AllHere h.server h.sitting) (sym has.head) here in
    let told = law now.server now.sitting (10632 + p) n tells has.only (inr (omega arith)) here_now in
    let was : Was first (pixel_word p) n = subst (λ (h : HeadView). Was h (10632 + p) n) has.head told.0 in
    let long = has.long in
    record {
      words = words ++ n ∷ [];
      head = is ∙ ap (λ (h : HeadView). record h { server = record h.server { log = (after_read now.server (10632 + p) n).log } }) has.head
          ∙ ap (λ l. record first { server = record first.server { log = l } }) (sym (ap (λ (h : HeadView). h.server.log) is));
      only = subst (λ (h : HeadView). OnlyPicks h.server.log) (sym is) told.1;
      long = length-append words (n ∷ []) ∙ omega arith;
      each = λ k lt. ⊎_elim
          (λ (low : k < p). subst (Was first (pixel_word k)) (sym (get_or-append words (n ∷ []) 0 k (omega arith))) (has.each k low))
          (λ (high : p ≤ k). let same : k ≡ p = omega arith in
          subst (λ i. Was first (pixel_word i) (slice_index (words ++ n ∷ []) i)) (sym same) (subst (Was first (pixel_word p)) (sym (get_or-append_right words (n ∷ []) p p 0 long (omega arith) ∙ ap (λ i. get_or (n ∷ []) i 0) (let z : p - p ≡ 0 = omega arith in z))) was))
          (cases_lt k p);
      colours = more ∙ ap (λ l. l ++ shown_colour depth n ∷ []) has.colours ∙ sym (map-append (shown_colour depth) words (n ∷ []));
    }

pub all_read : (first now : HeadView) (depth : Depth) (shown : List ℕ) (p n : ℕ) → HasRead first now depth shown p → p ≡ n → n ≡ pixel_count first.server.setting.size → depth ≡ first.server.setting.depth → IsPicture first shown
all_read first now depth shown p n has all is deep =
    let count : length has.words ≡ pixel_count first.server.setting.size = let long = has.long in omega arith in
    let back : (k : ℕ) → 10632 + k - 10632 ≡ k = λ k. omega arith in
    record {
      words = λ x. slice_index has.words (x - 10632);
      written = λ k within. ap (slice_index has.words) (back k) ∙ has.each k (omega arith);
      colours = has.colours ∙ ap (λ (d : Depth). map (shown_colour d) has.words) deep
          ∙ fill_by_all (λ k. shown_colour first.server.setting.depth (slice_index has.words (10632 + k - 10632))) (map (shown_colour first.server.setting.depth) has.words) (pixel_count first.server.setting.size) 0
          (length-map has.words (shown_colour first.server.setting.depth) ∙ count)
          (λ k within. get_or-map (shown_colour first.server.setting.depth) has.words k 0 0 (omega arith) ∙ ap (λ i. shown_colour first.server.setting.depth (slice_index has.words i)) (sym (back k)));
    }
