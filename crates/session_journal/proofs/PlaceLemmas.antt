-- What a byte leaves of what may follow at a place of a file.
use Rattle.std.proofs.Common.{◌≡◌, ◌≢◌, ◌↔◌, ℕ, zero, suc, ◌+◌, ◌-◌, ◌*◌, ◌<◌, ◌≤◌, ◌++◌, [], ◌∷◌, List, Bool, true, false, length, All, refl, sym, ap, subst, ◌∙◌, append_assoc, append-nil, length-append, arith}
use Rattle.std.specs.List.{list_all, flat_map}
use Rattle.std.specs.Fmt.{decimal}
use Rattle.std.proofs.lemmas.List.Folds.{list_all-append}
use Rattle.std.proofs.lemmas.Bool.{false≢true, and_parts, and_from}
use Rattle.std.proofs.lemmas.Bool.Decides.{nat_tests}
use Rattle.session_journal.specs.declared.files.File.{File}
use Rattle.session_journal.specs.Texts.{line_text}
use Rattle.session_journal.specs.Grammar.{is_printing, IsComment}
use Rattle.session_journal.specs.Places.{Behind, Number, WholeNumber, WidthOf, Lines, Comments, is_digit, is_first_digit, value_on}
use Rattle.session_journal.proofs.NumberLemmas.{value_least, decimal_on, decimal_first, decimal_digits}

never : (b : Bool) {X : Type 0} → b ≡ true → b ≡ false → X
never true h k = absurd (false≢true (sym k))
never false h k = absurd (false≢true h)

-- ---- a text

module _ (text : List ℕ) (Next : List ℕ → File → Type 0) (ys : List ℕ) (file : File) where
  pub behind_more : (t : ℕ) → Behind (t ∷ text) Next (t ∷ ys) file ↔ Behind text Next ys file
  behind_more t = (λ b. record { rest = b.rest; text_is = tail b.rest b.text_is; next = b.next }, λ b. record { rest = b.rest; text_is = ap (λ (l : List ℕ). t ∷ l) b.text_is; next = b.next })
    where
      tail : (rest : List ℕ) → t ∷ ys ≡ t ∷ (text ++ rest) → ys ≡ text ++ rest
      tail rest h = cc

  pub behind_other : (t c : ℕ) → c ≢ t → ¬ Behind (t ∷ text) Next (c ∷ ys) file
  behind_other t c apart b = apart (first b.rest b.text_is)
    where
      first : (rest : List ℕ) → c ∷ ys ≡ t ∷ (text ++ rest) → c ≡ t
      first rest h = cc

  pub behind_all : Behind [] Next ys file ↔ Next ys file
  behind_all = (λ b. subst (λ (l : List ℕ). Next l file) (sym b.text_is) b.next, λ n. record { rest = ys; text_is = refl; next = n })

pub behind_nil : (t : ℕ) (text : List ℕ) (Next : List ℕ → File → Type 0) (file : File) → ¬ Behind (t ∷ text) Next [] file
behind_nil t text Next file b = none b.rest b.text_is
  where
    none : (rest : List ℕ) → [] ≡ t ∷ (text ++ rest) → ⊥
    none rest h = cc

-- ---- numbers

module _ (most end : ℕ) (other : is_digit end ≡ false) (Next : ℕ → List ℕ → File → Type 0) (ys : List ℕ) (file : File) (n : ℕ) where
  pub number_end : n ≤ most → Number most end n Next (end ∷ ys) file ↔ Next n ys file
  number_end small = (λ h. ended h.digits h.rest h.are_digits h.text_is h.next, λ next. record { digits = []; rest = ys; are_digits = refl; text_is = refl; small = small; next = next })
    where
      ended : (digits rest : List ℕ) → list_all is_digit digits ≡ true → end ∷ ys ≡ digits ++ end ∷ rest → Next (value_on n digits) rest file → Next n ys file
      ended [] rest all is next = let same : rest ≡ ys = cc in subst (λ (l : List ℕ). Next n l file) same next
      ended (d ∷ ds) rest all is next = let same : d ≡ end = cc in never (is_digit end) (ap is_digit (sym same) ∙ (and_parts (is_digit d) (list_all is_digit ds) all).0) other

  pub number_digit : (c : ℕ) → is_digit c ≡ true → Number most end n Next (c ∷ ys) file ↔ Number most end (10 * n + (c - 48)) Next ys file
  number_digit c digit = (
    λ h. more h.digits h.rest h.are_digits h.text_is h.small h.next,
    λ h. record { digits = c ∷ h.digits; rest = h.rest; are_digits = and_from (is_digit c) (list_all is_digit h.digits) digit h.are_digits; text_is = ap (λ (l : List ℕ). c ∷ l) h.text_is; small = h.small; next = h.next },
  )
    where
      more : (digits rest : List ℕ) → list_all is_digit digits ≡ true → c ∷ ys ≡ digits ++ end ∷ rest → value_on n digits ≤ most → Next (value_on n digits) rest file → Number most end (10 * n + (c - 48)) Next ys file
      more [] rest all is small next = let same : c ≡ end = cc in never (is_digit end) (ap is_digit (sym same) ∙ digit) other
      more (d ∷ ds) rest all is small next =
          let same : d ≡ c = cc in
          let tail : ys ≡ ds ++ end ∷ rest = cc in
          let value : value_on n (d ∷ ds) ≡ value_on n (c ∷ ds) = ap (λ (e : ℕ). value_on n (e ∷ ds)) same in
          record { digits = ds; rest = rest; are_digits = (and_parts (is_digit d) (list_all is_digit ds) all).1; text_is = tail; small = subst (λ (v : ℕ). v ≤ most) value small; next = subst (λ (v : ℕ). Next v rest file) value next }

  pub number_stuck : (c : ℕ) → c ≢ end → (is_digit c ≡ true → most < 10 * n + (c - 48)) → ¬ Number most end n Next (c ∷ ys) file
  number_stuck c apart large h = stuck h.digits h.rest h.are_digits h.text_is h.small
    where
      stuck : (digits rest : List ℕ) → list_all is_digit digits ≡ true → c ∷ ys ≡ digits ++ end ∷ rest → value_on n digits ≤ most → ⊥
      stuck [] rest all is small = let same : c ≡ end = cc in apart same
      stuck (d ∷ ds) rest all is small =
          let same : d ≡ c = cc in
          let high = large (ap is_digit (sym same) ∙ (and_parts (is_digit d) (list_all is_digit ds) all).0) in
          let least = value_least (10 * n + (d - 48)) ds in
          let equal : 10 * n + (d - 48) ≡ 10 * n + (c - 48) = ap (λ (e : ℕ). 10 * n + (e - 48)) same in
          omega arith

pub number_nil : (most end n : ℕ) (Next : ℕ → List ℕ → File → Type 0) (file : File) → ¬ Number most end n Next [] file
number_nil most end n Next file h = none h.digits h.rest h.text_is
  where
    none : (digits rest : List ℕ) → [] ≡ digits ++ end ∷ rest → ⊥
    none [] rest is = cc
    none (d ∷ ds) rest is = cc

module _ (most end : ℕ) (fits : most < 1000) (Next : ℕ → List ℕ → File → Type 0) (file : File) where
  pub whole_digit : (ys : List ℕ) (c : ℕ) → is_first_digit c ≡ true → WholeNumber most end Next (c ∷ ys) file ↔ Number most end (c - 48) Next ys file
  whole_digit ys c digit = (to, from)
    where
      low : 49 ≤ c
      low = grind (arith, nat_tests)

      high : c ≤ 57
      high = grind (arith, nat_tests)

      to : WholeNumber most end Next (c ∷ ys) file → Number most end (c - 48) Next ys file
      to h =
          let some = h.some in
          let few = h.small in
          let p = decimal_digits h.value some (omega arith) in
          let whole : c ∷ ys ≡ p.first ∷ (p.others ++ end ∷ h.rest) = h.text_is ∙ ap (λ (l : List ℕ). l ++ end ∷ h.rest) p.text_is in
          let same : c ≡ p.first = cc in
          let tail : ys ≡ p.others ++ end ∷ h.rest = cc in
          let value : value_on (c - 48) p.others ≡ h.value = ap (λ (f : ℕ). value_on (f - 48) p.others) same ∙ p.value in
          record { digits = p.others; rest = h.rest; are_digits = p.are_digits; text_is = tail; small = subst (λ (v : ℕ). v ≤ most) (sym value) h.small; next = subst (λ (v : ℕ). Next v h.rest file) (sym value) h.next }

      from : Number most end (c - 48) Next ys file → WholeNumber most end Next (c ∷ ys) file
      from h =
          let few = h.small in
          let from_1 = low in
          let to_9 = high in
          let least = value_least (c - 48) h.digits in
          let text : decimal (value_on (c - 48) h.digits) ≡ c ∷ h.digits = decimal_on h.digits (c - 48) h.are_digits (omega arith) (omega arith) ∙ ap (λ (l : List ℕ). l ++ h.digits) (decimal_first c low high) in
          record {
            value = value_on (c - 48) h.digits;
            rest = h.rest;
            some = omega arith;
            small = h.small;
            text_is = ap (λ (l : List ℕ). c ∷ l) h.text_is ∙ ap (λ (l : List ℕ). l ++ end ∷ h.rest) (sym text);
            next = h.next;
          }

  pub whole_stuck : (ys : List ℕ) (c : ℕ) → is_first_digit c ≡ false → ¬ WholeNumber most end Next (c ∷ ys) file
  whole_stuck ys c other h =
      let some = h.some in
      let few = h.small in
      let p = decimal_digits h.value some (omega arith) in
      let whole : c ∷ ys ≡ p.first ∷ (p.others ++ end ∷ h.rest) = h.text_is ∙ ap (λ (l : List ℕ). l ++ end ∷ h.rest) p.text_is in
      let same : c ≡ p.first = cc in
      let low = p.low in
      let high = p.high in
      let digit : is_first_digit c ≡ true = grind (arith, nat_tests) in
      never (is_first_digit c) digit other

  pub whole_nil : ¬ WholeNumber most end Next [] file
  whole_nil h =
      let some = h.some in
      let few = h.small in
      let p = decimal_digits h.value some (omega arith) in
      let whole : [] ≡ p.first ∷ (p.others ++ end ∷ h.rest) = h.text_is ∙ ap (λ (l : List ℕ). l ++ end ∷ h.rest) p.text_is in
      cc

-- ---- lines

-- a line and more lines, before the rest of a file
line_split : (m rest : List ℕ) (more : List (List ℕ)) → flat_map line_text (m ∷ more) ++ rest ≡ 35 ∷ (m ++ 10 ∷ (flat_map line_text more ++ rest))
line_split m rest more = ap (λ (l : List ℕ). 35 ∷ l) (append_assoc (m ++ 10 ∷ []) (flat_map line_text more) rest ∙ append_assoc m (10 ∷ []) (flat_map line_text more ++ rest))

pub no_lines : All IsComment []
no_lines i d below = absurd (omega arith)

one_line : (m : List ℕ) (more : List (List ℕ)) → IsComment m → All IsComment more → All IsComment (m ∷ more)
one_line m more first others zero d below = first
one_line m more first others (suc i) d below = others i d (omega arith)

module _ (lines : List (List ℕ)) (file : File) where
  pub line_comment : (ys : List ℕ) → Lines lines (35 ∷ ys) file ↔ Comments lines [] ys file
  line_comment ys = (λ h. to h.more h.rest h.comments h.text_is h.next, from)
    where
      to : (more : List (List ℕ)) (rest : List ℕ) → All IsComment more → 35 ∷ ys ≡ flat_map line_text more ++ rest → WidthOf (lines ++ more) rest file → Comments lines [] ys file
      to [] rest all is next = absurd (whole_stuck 640 32 (omega arith) _ file ys 35 refl (subst (λ (l : List ℕ). WidthOf (lines ++ []) l file) (sym is) next))
      to (m ∷ more) rest all is next =
          let split = is ∙ line_split m rest more in
          let tail : ys ≡ m ++ 10 ∷ (flat_map line_text more ++ rest) = cc in
          record {
            more = m;
            rest = flat_map line_text more ++ rest;
            comment = all 0 [] (omega arith);
            text_is = tail;
            next = record { more = more; rest = rest; comments = λ i d below. all (suc i) d (omega arith); text_is = refl; next = subst (λ (l : List (List ℕ)). WidthOf l rest file) (sym (append_assoc lines (m ∷ []) more)) next };
          }

      from : Comments lines [] ys file → Lines lines (35 ∷ ys) file
      from h = record {
        more = h.more ∷ h.next.more;
        rest = h.next.rest;
        comments = one_line h.more h.next.more h.comment h.next.comments;
        text_is = ap (λ (l : List ℕ). 35 ∷ l) (h.text_is ∙ ap (λ (l : List ℕ). h.more ++ 10 ∷ l) h.next.text_is) ∙ sym (line_split h.more h.next.rest h.next.more);
        next = subst (λ (l : List (List ℕ)). WidthOf l h.next.rest file) (append_assoc lines (h.more ∷ []) h.next.more) h.next.next;
      }

  pub line_size : (ys : List ℕ) (c : ℕ) → c ≢ 35 → Lines lines (c ∷ ys) file ↔ WidthOf lines (c ∷ ys) file
  line_size ys c apart = (λ h. to h.more h.rest h.text_is h.next, λ next. record { more = []; rest = c ∷ ys; comments = no_lines; text_is = refl; next = subst (λ (l : List (List ℕ)). WidthOf l (c ∷ ys) file) (sym (append-nil lines)) next })
    where
      to : (more : List (List ℕ)) (rest : List ℕ) → c ∷ ys ≡ flat_map line_text more ++ rest → WidthOf (lines ++ more) rest file → WidthOf lines (c ∷ ys) file
      to [] rest is next = subst (λ (l : List (List ℕ)). WidthOf l (c ∷ ys) file) (append-nil lines) (subst (λ (l : List ℕ). WidthOf (lines ++ []) l file) (sym is) next)
      to (m ∷ more) rest is next =
          let split : c ∷ ys ≡ 35 ∷ (m ++ 10 ∷ (flat_map line_text more ++ rest)) = is ∙ line_split m rest more in
          let same : c ≡ 35 = cc in
          absurd (apart same)

  pub lines_nil : ¬ Lines lines [] file
  lines_nil h = none h.more h.rest h.text_is h.next
    where
      none : (more : List (List ℕ)) (rest : List ℕ) → [] ≡ flat_map line_text more ++ rest → WidthOf (lines ++ more) rest file → ⊥
      none [] rest is next = whole_nil 640 32 (omega arith) _ file (subst (λ (l : List ℕ). WidthOf (lines ++ []) l file) (sym is) next)
      none (m ∷ more) rest is next = let split : [] ≡ 35 ∷ (m ++ 10 ∷ (flat_map line_text more ++ rest)) = is ∙ line_split m rest more in cc

-- a byte of a comment prints
prints_at : (line more : List ℕ) (c : ℕ) → IsComment (line ++ c ∷ more) → is_printing c ≡ true
prints_at line more c h = (and_parts (is_printing c) (list_all is_printing more) (and_parts (list_all is_printing line) (list_all is_printing (c ∷ more)) (sym (list_all-append is_printing line (c ∷ more)) ∙ h.prints)).1).0

module _ (lines : List (List ℕ)) (line : List ℕ) (file : File) where
  pub comment_end : (ys : List ℕ) → IsComment line → Comments lines line (10 ∷ ys) file ↔ Lines (lines ++ line ∷ []) ys file
  comment_end ys ok = (
    λ h. to h.more h.rest h.comment h.text_is h.next,
    λ next. record { more = []; rest = ys; comment = subst IsComment (sym (append-nil line)) ok; text_is = refl; next = subst (λ (l : List ℕ). Lines (lines ++ l ∷ []) ys file) (sym (append-nil line)) next },
  )
    where
      to : (more rest : List ℕ) → IsComment (line ++ more) → 10 ∷ ys ≡ more ++ 10 ∷ rest → Lines (lines ++ (line ++ more) ∷ []) rest file → Lines (lines ++ line ∷ []) ys file
      to [] rest comment is next =
          let tail : rest ≡ ys = cc in
          subst (λ (l : List ℕ). Lines (lines ++ line ∷ []) l file) tail (subst (λ (l : List ℕ). Lines (lines ++ l ∷ []) rest file) (append-nil line) next)
      to (d ∷ more) rest comment is next =
          let same : d ≡ 10 = cc in
          never (is_printing 10) (ap is_printing (sym same) ∙ prints_at line more d comment) refl

  pub comment_more : (ys : List ℕ) (c : ℕ) → is_printing c ≡ true → Comments lines line (c ∷ ys) file ↔ Comments lines (line ++ c ∷ []) ys file
  comment_more ys c prints = (
    λ h. to h.more h.rest h.comment h.text_is h.next,
    λ h. record {
      more = c ∷ h.more;
      rest = h.rest;
      comment = subst IsComment (append_assoc line (c ∷ []) h.more) h.comment;
      text_is = ap (λ (l : List ℕ). c ∷ l) h.text_is;
      next = subst (λ (l : List ℕ). Lines (lines ++ l ∷ []) h.rest file) (append_assoc line (c ∷ []) h.more) h.next;
    },
  )
    where
      to : (more rest : List ℕ) → IsComment (line ++ more) → c ∷ ys ≡ more ++ 10 ∷ rest → Lines (lines ++ (line ++ more) ∷ []) rest file → Comments lines (line ++ c ∷ []) ys file
      to [] rest comment is next = let same : c ≡ 10 = cc in never (is_printing 10) (ap is_printing (sym same) ∙ prints) refl
      to (d ∷ more) rest comment is next =
          let same : d ≡ c = cc in
          let tail : ys ≡ more ++ 10 ∷ rest = cc in
          let moved : line ++ d ∷ more ≡ (line ++ c ∷ []) ++ more = ap (λ (e : ℕ). line ++ e ∷ more) same ∙ sym (append_assoc line (c ∷ []) more) in
          record { more = more; rest = rest; comment = subst IsComment moved comment; text_is = tail; next = subst (λ (l : List ℕ). Lines (lines ++ l ∷ []) rest file) moved next }

  pub comment_stuck : (ys : List ℕ) (c : ℕ) → c ≢ 10 → (is_printing c ≡ true → 64 ≤ length line) → ¬ Comments lines line (c ∷ ys) file
  comment_stuck ys c apart long h = stuck h.more h.rest h.comment h.text_is
    where
      stuck : (more rest : List ℕ) → IsComment (line ++ more) → c ∷ ys ≡ more ++ 10 ∷ rest → ⊥
      stuck [] rest comment is = let same : c ≡ 10 = cc in apart same
      stuck (d ∷ more) rest comment is =
          let same : d ≡ c = cc in
          let full = long (ap is_printing (sym same) ∙ prints_at line more d comment) in
          let short = comment.short in
          omega (arith, length-append line (d ∷ more))

  pub comments_nil : ¬ Comments lines line [] file
  comments_nil h = none h.more h.rest h.text_is
    where
      none : (more rest : List ℕ) → [] ≡ more ++ 10 ∷ rest → ⊥
      none [] rest is = cc
      none (d ∷ more) rest is = cc
