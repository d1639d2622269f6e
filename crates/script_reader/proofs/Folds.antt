-- One line more is read, or the last one.
use Rattle.std.proofs.Common.{◌≡◌, ℕ, ◌+◌, ◌-◌, ◌≤◌, ◌<◌, List, [], ◌∷◌, ◌++◌, length, Bool, true, false, cond, Result, Ok, Err, Option, None, Some, refl, ap, sym, ◌∙◌, subst, arith, append-nil, append_assoc, length-append}
use Rattle.std.specs.Prelude.{◌==◌, MatchOption}
use Rattle.std.specs.List.{flat_map, join_with_byte, list_any, All}
use Rattle.std.proofs.lemmas.List.Elements.{All-get_or}
use Rattle.std.proofs.lemmas.List.Splits.{join_with_byte-slice_split, length-slice_split}
use Rattle.std.proofs.lemmas.Grind.{flat_map-append}
use Rattle.std.proofs.lemmas.Bool.Decides.{nat_tests}
use Rattle.script_grammar.specs.Judging.{◌>>=◌}
use Rattle.script_grammar.specs.Spelling.{words_of}
use Rattle.script_grammar.specs.Printing.{ended_line}
use Rattle.glyph_masks.specs.Glyphs.{FontView}
use Rattle.script_grammar.specs.Session.{Session, fonts_of, latest, no_font}
use Rattle.script_grammar.specs.Limits.{IsSession}
use Rattle.script_grammar.specs.Laws.{IsFont}
use Rattle.script_grammar.proofs.Law.{stock}
use Rattle.script_reader.specs.ReadTo.{IsReadTo}
use Rattle.script_grammar.specs.Reading.{Before, Nothing, Within, is_blank, by_words, line_in, text_in, said_at_end, last_in, at_line, and_then, script_from, text_lines, script_of}
use Rattle.script_grammar.specs.declared.lines.Cause.{Cause}
use Rattle.script_grammar.specs.declared.lines.Cause.TheVariants.{Form, End}
use Rattle.script_grammar.proofs.Sound.{lines_before, Reached, text_step}
use Rattle.script_reader.specs.Few.{IsOpen}
use Rattle.script_reader.specs.Stages.{stage_before}
use Rattle.script_reader.specs.declared.heads.HeadStage.{HeadStage}
use Rattle.script_reader.specs.declared.heads.HeadStage.TheVariants.{Start, Deep as DeepStage, Measured}

-- what stands before line n, with the rest to come
pub record IsReadUpTo (bytes : List ℕ) (before : Before) (n : ℕ) (rest : List ℕ) : Type 0 where
  pub reads : script_of bytes ≡ script_from n before (text_lines rest)
  pub text : bytes ≡ flat_map ended_line (lines_before before) ++ rest
  pub reached : Reached before
  pub number : n + length rest ≤ length bytes + 1

pub at_first : (bytes : List ℕ) → IsReadUpTo bytes Nothing 1 bytes
unfolding script_of
at_first bytes = record { reads = refl; text = refl; reached = tt; number = omega arith }

-- ---- a line with its line feed

some_lines : (bytes : List ℕ) → 0 < length (text_lines bytes)
some_lines bytes = omega (arith, length-slice_split (λ c. c == 10) bytes)

goes_on : (n : ℕ) (before next : Before) (text : List ℕ) (parts : List (List ℕ)) → 0 < length parts → text_in before text ≡ Ok next → script_from n before (text ∷ parts) ≡ script_from (n + 1) next parts
unfolding script_from
goes_on n before next text [] some is = absurd (omega arith)
goes_on n before next text (part ∷ parts) some is = ap (λ (r : Result Before Cause). and_then (at_line n r) (λ after. script_from (n + 1) after (part ∷ parts))) is

stops : (n : ℕ) (before : Before) (text : List ℕ) (parts : List (List ℕ)) (c : Cause) → 0 < length parts → text_in before text ≡ Err c → script_from n before (text ∷ parts) ≡ Err (n, c)
unfolding script_from
stops n before text [] c some is = absurd (omega arith)
stops n before text (part ∷ parts) c some is = ap (λ (r : Result Before Cause). and_then (at_line n r) (λ after. script_from (n + 1) after (part ∷ parts))) is

joined_rest : (rest text after : List ℕ) (parts : List (List ℕ)) → 0 < length parts → join_with_byte 10 parts ≡ after → text_lines rest ≡ text ∷ parts → rest ≡ text ++ 10 ∷ after
joined_rest rest text after [] some same cut_off = absurd (omega arith)
joined_rest rest text after (part ∷ parts) some same cut_off = sym (join_with_byte-slice_split 10 rest) ∙ ap (join_with_byte 10) cut_off ∙ ap (λ (l : List ℕ). text ++ 10 ∷ l) same

-- a line and what is behind its line feed
pub rest_is : (rest text after : List ℕ) → text_lines rest ≡ text ∷ text_lines after → rest ≡ text ++ 10 ∷ after
rest_is rest text after cut_off = joined_rest rest text after (text_lines after) (some_lines after) (join_with_byte-slice_split 10 after) cut_off

text_more : (lines : List (List (List ℕ))) (text after rest : List ℕ) → rest ≡ text ++ 10 ∷ after → flat_map ended_line lines ++ rest ≡ flat_map ended_line (lines ++ words_of text ∷ []) ++ after
text_more lines text after rest is =
    let line : ended_line (words_of text) ≡ text ++ 10 ∷ [] = ap (λ (t : List ℕ). t ++ 10 ∷ []) (join_with_byte-slice_split 32 text) in
    let all : flat_map ended_line (lines ++ words_of text ∷ []) ≡ flat_map ended_line lines ++ (text ++ 10 ∷ []) =
    flat_map-append ended_line lines (words_of text ∷ []) ∙ ap (λ (l : List ℕ). flat_map ended_line lines ++ l) (append-nil (ended_line (words_of text)) ∙ line) in
    ap (λ (l : List ℕ). flat_map ended_line lines ++ l) (is ∙ sym (append_assoc text (10 ∷ []) after))
    ∙ sym (append_assoc (flat_map ended_line lines) (text ++ 10 ∷ []) after)
    ∙ ap (λ (l : List ℕ). l ++ after) (sym all)

pub at_next : {bytes rest : List ℕ} {before : Before} {n : ℕ} → IsReadUpTo bytes before n rest → (next : Before) (text after : List ℕ) → text_lines rest ≡ text ∷ text_lines after → text_in before text ≡ Ok next → IsReadUpTo bytes next (n + 1) after
at_next {bytes} {rest} {before} {n} at next text after cut_off is =
    let step = text_step before text next at.reached is in
    let behind = rest_is rest text after cut_off in
    record {
      reads = at.reads ∙ ap (script_from n before) cut_off ∙ goes_on n before next text (text_lines after) (some_lines after) is;
      text = at.text ∙ text_more (lines_before before) text after rest behind ∙ ap (λ (l : List (List (List ℕ))). flat_map ended_line l ++ after) (sym step.lines);
      reached = step.reached;
      number = omega (arith, at.number, ap length behind, length-append text (10 ∷ after));
    }

pub bad_next : {bytes rest : List ℕ} {before : Before} {n : ℕ} → IsReadUpTo bytes before n rest → (text after : List ℕ) (c : Cause) → text_lines rest ≡ text ∷ text_lines after → text_in before text ≡ Err c → script_of bytes ≡ Err (n, c)
bad_next {bytes} {rest} {before} {n} at text after c cut_off is = at.reads ∙ ap (script_from n before) cut_off ∙ stops n before text (text_lines after) c (some_lines after) is

-- ---- the last line

last_is : (n : ℕ) (before : Before) (rest : List ℕ) → text_lines rest ≡ rest ∷ [] → script_from n before (text_lines rest) ≡ at_line n (last_in before rest)
unfolding script_from
last_is n before rest none = ap (script_from n before) none

pub last_in_bad : (before : Before) (rest : List ℕ) (c : Cause) → 0 < length rest → text_in before rest ≡ Err c → last_in before rest ≡ Err c
last_in_bad before [] c some is = absurd (omega arith)
last_in_bad before (b ∷ rest) c some is = ap (λ (r : Result Before Cause). r >>= λ after. Err End) is

pub last_in_open : (before next : Before) (rest : List ℕ) → 0 < length rest → text_in before rest ≡ Ok next → last_in before rest ≡ Err End
last_in_open before next [] some is = absurd (omega arith)
last_in_open before next (b ∷ rest) some is = ap (λ (r : Result Before Cause). r >>= λ after. Err End) is

pub last_in_none : (before : Before) (rest : List ℕ) → length rest ≡ 0 → last_in before rest ≡ said_at_end before
last_in_none before [] none = refl
last_in_none before (b ∷ rest) none = absurd (omega arith)

pub is_none : (n : ℕ) → (n == 0) ≡ true → n ≡ 0
is_none n e = grind (arith, nat_tests)

pub is_some : (n : ℕ) → (n == 0) ≡ false → 0 < n
is_some n e = grind (arith, nat_tests)

pub at_last : {bytes rest : List ℕ} {before : Before} {n : ℕ} → IsReadUpTo bytes before n rest → (c : Cause) → text_lines rest ≡ rest ∷ [] → last_in before rest ≡ Err c → script_of bytes ≡ Err (n, c)
at_last {bytes} {rest} {before} {n} at c none is = at.reads ∙ last_is n before rest none ∙ ap (at_line n) is

-- ---- a line of the head, by its words

pub head_by : (stage : HeadStage) (text : List ℕ) → text_in (stage_before stage) text ≡ by_words (stage_before stage) text
unfolding text_in
head_by Start text = refl
head_by (DeepStage depth) text = refl
head_by (Measured depth size backdrop) text = refl

pub filled_by : (before : Before) (text : List ℕ) (words : List (List ℕ)) → words ≡ words_of text → list_any is_blank words ≡ false → by_words before text ≡ line_in before words
filled_by before text words same filled =
    ap (λ (b : Bool). cond b (Err Form) (line_in before (words_of text))) (ap (list_any is_blank) (sym same) ∙ filled) ∙ ap (line_in before) (sym same)

pub head_open : (stage : HeadStage) → IsOpen (stage_before stage)
head_open Start = tt
head_open (DeepStage depth) = tt
head_open (Measured depth size backdrop) = tt

pub head_ends : (stage : HeadStage) → said_at_end (stage_before stage) ≡ Err End
head_ends Start = refl
head_ends (DeepStage depth) = refl
head_ends (Measured depth size backdrop) = refl

-- ---- what a match found

pub match_none : {A : Type 0} (P : Type 0) (Q : A → Type 0) (o : Option A) → o ≡ None → MatchOption o P Q → P
match_none P Q o e h = subst (λ p. MatchOption p P Q) e h

pub match_some : {A : Type 0} (P : Type 0) (Q : A → Type 0) (o : Option A) (x : A) → o ≡ Some x → MatchOption o P Q → Q x
match_some P Q o x e h = subst (λ p. MatchOption p P Q) e h

-- ---- a line behind the head, by its words

pub within_by : (said : Session) (text : List ℕ) → text_in (Within said) text ≡ by_words (Within said) text
unfolding text_in
within_by said text = refl

latest_of : (fonts : List FontView) → All IsFont fonts → (latest fonts).height ≤ 32
latest_of [] all = omega arith
latest_of (font ∷ fonts) all = (All-get_or IsFont (font ∷ fonts) (length (font ∷ fonts) - 1) no_font (omega arith) all).most_height

-- the latest font has few rows
pub within_open : (said : Session) → IsSession said → IsOpen (Within said)
within_open said limits = latest_of (fonts_of said.assets) (stock said limits).fonts

-- ---- the lines behind the head

pub to_up_to : {bytes rest : List ℕ} {said : Session} {n : ℕ} → IsReadTo bytes said n rest → IsReadUpTo bytes (Within said) n rest
to_up_to at = record { reads = at.reads; text = at.text; reached = at.limits; number = at.number }

pub to_within : {bytes rest : List ℕ} {said : Session} {n : ℕ} → IsReadUpTo bytes (Within said) n rest → IsReadTo bytes said n rest
to_within at = record { reads = at.reads; text = at.text; limits = at.reached; number = at.number }
