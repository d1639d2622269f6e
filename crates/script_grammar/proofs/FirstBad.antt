-- The first bad line.
use Rattle.std.proofs.Common.{◌≡◌, ℕ, ◌+◌, ◌*◌, ◌<◌, ◌≤◌, zero, suc, List, [], ◌∷◌, ◌++◌, length, map, Bool, true, false, cond, Result, Ok, Err, refl, ap, sym, ◌∙◌, subst, arith, append-nil, append_assoc, length-append}
use Rattle.std.specs.Prelude.{◌==◌, ⊤, IsErr}
use lib.Chars.{codes}
use Rattle.std.specs.List.{list_any, flat_map, join_with_byte, slice_split}
use Rattle.std.proofs.lemmas.List.{length-map}
use Rattle.std.proofs.lemmas.List.Splits.{join_with_byte-slice_split, length-slice_split, slice_split_at}
use Rattle.qws_base.specs.Sides.{Sides, IsScreen}
use Rattle.qws_base.specs.declared.colours.Depth.{Depth}
use Rattle.qws_base.specs.declared.colours.Depth.TheVariants.{Full, Narrow}
use Rattle.script_grammar.specs.Judging.{◌>>=◌}
use Rattle.script_grammar.specs.Spelling.{words_of}
use Rattle.script_grammar.specs.Limits.{IsColour, IsSession}
use Rattle.script_grammar.specs.Printing.{colour, depth_lines, screen_line, clients_line, end_line, head_lines, asset_words, line_words, script_lines, ended_line, script_text}
use Rattle.script_grammar.specs.Session.{Session}
use Rattle.script_grammar.specs.Reading.{Before, Nothing, Deep, Sized, Within, Finished, is_blank, line_in, text_in, said_at_end, last_in, at_line, and_then, script_from, text_lines, script_of}
use Rattle.script_grammar.specs.Laws.{BeginsScript, IsFirstBad, FirstBad, NothingBehind, NoFront}
use Rattle.script_grammar.specs.declared.lines.Cause.{Cause}
use Rattle.script_grammar.specs.declared.lines.Cause.TheVariants.{Form, End}
use Rattle.script_grammar.proofs.Binds.{err_is_no_ok, bind_ok}
use Rattle.script_grammar.proofs.Spelling.{ok_same}
use Rattle.script_grammar.proofs.Sound.{line_of_words, lines_before, Reached, Step, text_step, bad_is_no_ok, at_line_ok, and_then_ok, read_is_printed}
use Rattle.script_grammar.proofs.Plain.{PlainLines, Plain, cut_lines, none_of, is_line_byte, no_feed, line_bytes}
use Rattle.script_grammar.proofs.Complete.{printed_is_read, lines_plain}

-- what stands behind ended lines
reach : Before → List (List ℕ) → Result Before Cause
reach before [] = Ok before
reach before (text ∷ texts) = text_in before text >>= λ after. reach after texts

reach_on : (before after : Before) (text : List ℕ) (texts : List (List ℕ)) → text_in before text ≡ Ok after → reach before (text ∷ texts) ≡ reach after texts
unfolding reach
reach_on before after text texts e = ap (λ (r : Result Before Cause). r >>= λ a. reach a texts) e

reach_none : (before : Before) → reach before [] ≡ Ok before
unfolding reach
reach_none before = refl

reach_first : (before last : Before) (text : List ℕ) (texts : List (List ℕ)) → reach before (text ∷ texts) ≡ Ok last → (after : Before) × (text_in before text ≡ Ok after) × (reach after texts ≡ Ok last)
unfolding reach
reach_first before last text texts e = bind_ok (text_in before text) (λ a. reach a texts) last e

reach_last : (before last : Before) → reach before [] ≡ Ok last → before ≡ last
unfolding reach
reach_last before last e = ok_same before last e

-- ---- ended lines in front of more

on_one : (n : ℕ) (before after : Before) (text : List ℕ) (parts : List (List ℕ)) → 0 < length parts → text_in before text ≡ Ok after → script_from n before (text ∷ parts) ≡ script_from (n + 1) after parts
unfolding script_from
on_one n before after text [] some e = absurd (omega arith)
on_one n before after text (next ∷ parts) some e = ap (λ (r : Result Before Cause). and_then (at_line n r) (λ a. script_from (n + 1) a (next ∷ parts))) e

on_front : (n : ℕ) (before last : Before) (front parts : List (List ℕ)) → 0 < length parts → reach before front ≡ Ok last → script_from n before (front ++ parts) ≡ script_from (n + length front) last parts
on_front n before last [] parts some e = (λ i. script_from n (reach_last before last e i) parts) ∙ ap (λ m. script_from m last parts) (let same : n ≡ n + 0 = omega arith in same)
on_front n before last (text ∷ front) parts some e =
    let first = reach_first before last text front e in
    on_one n before first.0 text (front ++ parts) (omega (arith, length-append front parts)) first.1
    ∙ on_front (n + 1) first.0 last front parts some first.2
    ∙ ap (λ m. script_from m last parts) (let same : n + 1 + length front ≡ n + suc (length front) = omega arith in same)

-- ---- where the lines fail

record Failed (n : ℕ) (before : Before) (parts : List (List ℕ)) (line : ℕ) (cause : Cause) : Type 0 where
  front : List (List ℕ)
  text : List ℕ
  back : List (List ℕ)
  words : List (List (List ℕ))
  last : Before
  whole : parts ≡ front ++ text ∷ back
  number : line ≡ n + length front
  walked : reach before front ≡ Ok last
  texts : front ≡ map line_of_words words
  lines : lines_before last ≡ lines_before before ++ words
  reached : Reached last
  bad : (after : Before) → text_in last text ≡ Ok after → (cause ≡ End) × (back ≡ [])

at_line_bad : {A : Type 0} (n : ℕ) (r : Result A Cause) (line : ℕ) (cause : Cause) → at_line n r ≡ Err (line, cause) → (r ≡ Err cause) × (line ≡ n)
at_line_bad {A} n (Ok x) line cause e = absurd (let h : ⊥ = cc in h)
at_line_bad {A} n (Err c) line cause e = let same = same_bad n c line cause e in (ap Err (sym same.1), same.0)
  where
    same_bad : (n : ℕ) (c : Cause) (line : ℕ) (cause : Cause) → ◌≡◌ {A = Result A (ℕ × Cause)} (Err (n, c)) (Err (line, cause)) → (line ≡ n) × (cause ≡ c)
    same_bad n c line cause e = let pair : (n, c) ≡ (line, cause) = cc in (sym (ap (λ (p : ℕ × Cause). p.0) pair), sym (ap (λ (p : ℕ × Cause). p.1) pair))

-- an empty text is no line
no_empty_line : (last after : Before) → text_in last [] ≡ Ok after → ⊥
unfolding text_in
no_empty_line Nothing after e = err_is_no_ok Form after e
no_empty_line (Deep depth) after e = err_is_no_ok Form after e
no_empty_line (Sized depth size c) after e = err_is_no_ok Form after e
no_empty_line (Within said) after e = err_is_no_ok Form after e
no_empty_line (Finished said) after e = err_is_no_ok End after e

last_bad : (last : Before) (text : List ℕ) (cause : Cause) (after : Before) → last_in last text ≡ Err cause → text_in last text ≡ Ok after → cause ≡ End
last_bad last [] cause after e is = absurd (no_empty_line last after is)
last_bad last (c ∷ text) cause after e is =
    let stop : Before → Result Session Cause = λ a. Err End in
    let found : stop after ≡ Err cause = ap (λ (r : Result Before Cause). r >>= stop) (sym is) ∙ e in
    same_cause found
  where
    same_cause : ◌≡◌ {A = Result Session Cause} (Err End) (Err cause) → cause ≡ End
    same_cause found = cc

failed_step : (n : ℕ) (before : Before) (text : List ℕ) (rest : List (List ℕ)) (line : ℕ) (cause : Cause) → Reached before → (r : Result Before Cause) → text_in before text ≡ r → and_then (at_line n r) (λ a. script_from (n + 1) a rest) ≡ Err (line, cause) → ((after : Before) → Reached after → script_from (n + 1) after rest ≡ Err (line, cause) → Failed (n + 1) after rest line cause) → Failed n before (text ∷ rest) line cause
failed_step n before text rest line cause reached (Err c) is e more =
    let found = at_line_bad {A = Session} n (Err c) line cause e in
    record {
      front = [];
      text = text;
      back = rest;
      words = [];
      last = before;
      whole = refl;
      number = found.1 ∙ (let same : n ≡ n + 0 = omega arith in same);
      walked = reach_none before;
      texts = refl;
      lines = sym (append-nil (lines_before before));
      reached = reached;
      bad = λ after fine. err_is_no_ok c after (sym is ∙ fine);
    }
failed_step n before text rest line cause reached (Ok after) is e more =
    let step = text_step before text after reached is in
    let f = more after step.reached e in
    record {
      front = text ∷ f.front;
      text = f.text;
      back = f.back;
      words = words_of text ∷ f.words;
      last = f.last;
      whole = ap (λ rest. text ∷ rest) f.whole;
      number = f.number ∙ (let same : n + 1 + length f.front ≡ n + suc (length f.front) = omega arith in same);
      walked = reach_on before after text f.front is ∙ f.walked;
      texts = λ i. sym (join_with_byte-slice_split 32 text) i ∷ f.texts i;
      lines = f.lines ∙ ap (λ front. front ++ f.words) step.lines ∙ append_assoc (lines_before before) (words_of text ∷ []) f.words;
      reached = f.reached;
      bad = f.bad;
    }

failed : (n : ℕ) (before : Before) (parts : List (List ℕ)) (line : ℕ) (cause : Cause) → 0 < length parts → Reached before → script_from n before parts ≡ Err (line, cause) → Failed n before parts line cause
unfolding script_from
failed n before [] line cause some reached e = absurd (omega arith)
failed n before (text ∷ []) line cause some reached e =
    let found = at_line_bad n (last_in before text) line cause e in
    record {
      front = [];
      text = text;
      back = [];
      words = [];
      last = before;
      whole = refl;
      number = found.1 ∙ (let same : n ≡ n + 0 = omega arith in same);
      walked = reach_none before;
      texts = refl;
      lines = sym (append-nil (lines_before before));
      reached = reached;
      bad = λ after is. (last_bad before text cause after found.0 is, refl);
    }
failed n before (text ∷ next ∷ parts) line cause some reached e = failed_step n before text (next ∷ parts) line cause reached (text_in before text) refl e (λ after is found. failed (n + 1) after (next ∷ parts) line cause (omega arith) is found)

-- ---- what stands before a line can be completed

abbrev plain_session : Depth → Sides → ℕ → Session
plain_session depth size c = record { depth = depth; size = size; backdrop = c; clients = 0; assets = []; calls = [] }

plain_is : (depth : Depth) (size : Sides) (c : ℕ) → IsScreen size → IsColour c → IsSession (plain_session depth size c)
plain_is depth size c h k = record { screen = h; backdrop = k; clients = omega arith; assets = tt; calls = tt }

abbrev one_pixel : Sides
one_pixel = record { w = 1; h = 1 }

is_one_pixel : IsScreen one_pixel
is_one_pixel = record { some_w = omega arith; some_h = omega arith; most_w = omega arith; most_h = omega arith }

record Completed (before : Before) : Type 0 where
  said : Session
  limits : IsSession said
  rest : List (List (List ℕ))
  lines : script_lines said ≡ lines_before before ++ rest

plain_lines : (depth : Depth) (size : Sides) (c : ℕ) → script_lines (plain_session depth size c) ≡ depth_lines depth ++ screen_line (plain_session depth size c) ∷ clients_line (plain_session depth size c) ∷ end_line ∷ []
plain_lines Full size c = refl
plain_lines Narrow size c = refl

completed : (before : Before) → Reached before → Completed before
completed Nothing reached = record { said = plain_session Full one_pixel 0; limits = plain_is Full one_pixel 0 is_one_pixel (omega arith); rest = script_lines (plain_session Full one_pixel 0); lines = refl }
completed (Deep depth) reached = record { said = plain_session depth one_pixel 0; limits = plain_is depth one_pixel 0 is_one_pixel (omega arith); rest = screen_line (plain_session depth one_pixel 0) ∷ clients_line (plain_session depth one_pixel 0) ∷ end_line ∷ []; lines = plain_lines depth one_pixel 0 }
completed (Sized depth size c) reached = record { said = plain_session depth size c; limits = plain_is depth size c reached.0 reached.1; rest = clients_line (plain_session depth size c) ∷ end_line ∷ []; lines = plain_lines depth size c ∙ sym (append_assoc (depth_lines depth) (screen_line (plain_session depth size c) ∷ []) (clients_line (plain_session depth size c) ∷ end_line ∷ [])) }
completed (Within said) reached = record { said = said; limits = reached; rest = end_line ∷ []; lines = refl }
completed (Finished said) reached = record { said = said; limits = reached; rest = []; lines = sym (append-nil (script_lines said)) }

map_two : {A B : Type 0} (f : A → B) (xs ys : List A) → map f (xs ++ ys) ≡ map f xs ++ map f ys
map_two f [] ys = refl
map_two f (x ∷ xs) ys = ap (λ zs. f x ∷ zs) (map_two f xs ys)

printed_lines : (said : Session) → text_lines (script_text said) ≡ text_lines (flat_map ended_line (script_lines said))
unfolding script_text
printed_lines said = refl

begins : (last : Before) (front : List (List ℕ)) → Reached last → front ≡ map line_of_words (lines_before last) → BeginsScript front
begins last front reached texts =
    let all = completed last reached in
    let lines : text_lines (flat_map ended_line (script_lines all.said)) ≡ map line_of_words (script_lines all.said) ++ [] ∷ [] = cut_lines (script_lines all.said) (lines_plain all.said all.limits) in
    record {
      said = all.said;
      limits = all.limits;
      rest = map line_of_words all.rest ++ [] ∷ [];
      some = omega (arith, length-append (map line_of_words all.rest) ([] ∷ []));
      lines = printed_lines all.said ∙ lines ∙ ap (λ ws. map line_of_words ws ++ [] ∷ []) all.lines ∙ ap (λ ts. ts ++ [] ∷ []) (map_two line_of_words (lines_before last) all.rest) ∙ append_assoc (map line_of_words (lines_before last)) (map line_of_words all.rest) ([] ∷ []) ∙ ap (λ ts. ts ++ (map line_of_words all.rest ++ [] ∷ [])) (sym texts);
    }

-- ---- what begins a script is read line by line

line_ok : (n : ℕ) (last : Before) (text : List ℕ) (rest : List (List ℕ)) (said : Session) → 0 < length rest → script_from n last (text ∷ rest) ≡ Ok said → (after : Before) × (text_in last text ≡ Ok after)
unfolding script_from
line_ok n last text [] said some e = absurd (omega arith)
line_ok n last text (next ∷ rest) said some e = let read = and_then_ok n (text_in last text) (λ a. script_from (n + 1) a (next ∷ rest)) said e in (read.0, read.1)

ok_reaches : (n : ℕ) (before last : Before) (front : List (List ℕ)) (text : List ℕ) (rest : List (List ℕ)) (said : Session) → 0 < length rest → reach before front ≡ Ok last → script_from n before (front ++ text ∷ rest) ≡ Ok said → (after : Before) × (text_in last text ≡ Ok after)
ok_reaches n before last front text rest said some walked e =
    line_ok (n + length front) last text rest said some (sym (on_front n before last front (text ∷ rest) (omega arith) walked) ∙ e)

whole_from : (bytes : List ℕ) → script_of bytes ≡ script_from 1 Nothing (text_lines bytes)
unfolding script_of
whole_from bytes = refl

pub first_bad : FirstBad
first_bad bytes line cause e =
    let f = failed 1 Nothing (text_lines bytes) line cause (omega (arith, length-slice_split (λ c. c == 10) bytes)) tt (sym (whole_from bytes) ∙ e) in
    record {
      front = f.front;
      text = f.text;
      back = f.back;
      whole = f.whole;
      number = f.number;
      before = begins f.last f.front f.reached (f.texts ∙ ap (map line_of_words) (sym f.lines));
      bad = λ b.
          let lines : text_lines (script_text b.said) ≡ f.front ++ f.text ∷ b.rest = b.lines ∙ append_assoc f.front (f.text ∷ []) b.rest in
          let read : script_from 1 Nothing (f.front ++ f.text ∷ b.rest) ≡ Ok b.said = ap (script_from 1 Nothing) (sym lines) ∙ sym (whole_from (script_text b.said)) ∙ printed_is_read b.said b.limits in
          let on = ok_reaches 1 Nothing f.last f.front f.text b.rest b.said b.some f.walked read in
          f.bad on.0 on.1;
    }

-- ---- behind the end

-- what reads as a session ends behind its last line
record Ends (before : Before) (parts : List (List ℕ)) (said : Session) : Type 0 where
  front : List (List ℕ)
  whole : parts ≡ front ++ [] ∷ []
  walked : reach before front ≡ Ok (Finished said)

ended_ends : (before : Before) (said : Session) → said_at_end before ≡ Ok said → Ends before ([] ∷ []) said
ended_ends Nothing said e = err_is_no_ok End said e
ended_ends (Deep depth) said e = err_is_no_ok End said e
ended_ends (Sized depth size c) said e = err_is_no_ok End said e
ended_ends (Within sofar) said e = err_is_no_ok End said e
ended_ends (Finished all) said e = record { front = []; whole = refl; walked = reach_none (Finished all) ∙ ap (λ (s : Session). Ok (Finished s)) (ok_same all said e) }

last_ends : (before : Before) (text : List ℕ) (said : Session) → last_in before text ≡ Ok said → Ends before (text ∷ []) said
last_ends before [] said e = ended_ends before said e
last_ends before (c ∷ text) said e = let read = bind_ok (text_in before (c ∷ text)) (λ after. Err End) said e in err_is_no_ok End said read.2

ends : (n : ℕ) (before : Before) (parts : List (List ℕ)) (said : Session) → script_from n before parts ≡ Ok said → Ends before parts said
unfolding script_from
ends n before [] said e = bad_is_no_ok (n, End) said e
ends n before (text ∷ []) said e = last_ends before text said (at_line_ok n (last_in before text) said e)
ends n before (text ∷ next ∷ parts) said e =
    let read = and_then_ok n (text_in before text) (λ after. script_from (n + 1) after (next ∷ parts)) said e in
    let more = ends (n + 1) read.0 (next ∷ parts) said read.2 in
    record { front = text ∷ more.front; whole = ap (λ rest. text ∷ rest) more.whole; walked = reach_on before read.0 text more.front read.1 ∙ more.walked }

-- all but the last
but_last : List (List ℕ) → List (List ℕ)
but_last [] = []
but_last (x ∷ []) = []
but_last (x ∷ y ∷ xs) = x ∷ but_last (y ∷ xs)

but_last_is : (xs : List (List ℕ)) → but_last (xs ++ [] ∷ []) ≡ xs
unfolding but_last
but_last_is [] = refl
but_last_is (x ∷ []) = refl
but_last_is (x ∷ y ∷ xs) = ap (λ rest. x ∷ rest) (but_last_is (y ∷ xs))

cut_lines_more : (lines : List (List (List ℕ))) (more : List ℕ) → PlainLines lines → text_lines (flat_map ended_line lines ++ more) ≡ map line_of_words lines ++ text_lines more
cut_lines_more [] more h = refl
cut_lines_more (words ∷ lines) more h =
    ap text_lines (append_assoc (ended_line words) (flat_map ended_line lines) more ∙ append_assoc (line_of_words words) (10 ∷ []) (flat_map ended_line lines ++ more))
    ∙ slice_split_at (λ c. c == 10) (line_of_words words) 10 (flat_map ended_line lines ++ more) (none_of is_line_byte (λ c. c == 10) no_feed (line_of_words words) (line_bytes words h.0)) refl
    ∙ ap (λ rest. line_of_words words ∷ rest) (cut_lines_more lines more h.1)

behind_end : (n : ℕ) (said : Session) (parts : List (List ℕ)) → 0 < length parts → (parts ≡ [] ∷ [] → ⊥) → script_from n (Finished said) parts ≡ Err (n, End)
unfolding script_from text_in
behind_end n said [] some h = absurd (omega arith)
behind_end n said ([] ∷ []) some h = absurd (h refl)
behind_end n said ((c ∷ text) ∷ []) some h = refl
behind_end n said (text ∷ next ∷ parts) some h = refl

whole_reached : (said : Session) → IsSession said → reach Nothing (map line_of_words (script_lines said)) ≡ Ok (Finished said)
whole_reached said h =
    let cut = printed_lines said ∙ cut_lines (script_lines said) (lines_plain said h) in
    let read : script_from 1 Nothing (map line_of_words (script_lines said) ++ [] ∷ []) ≡ Ok said = ap (script_from 1 Nothing) (sym cut) ∙ sym (whole_from (script_text said)) ∙ printed_is_read said h in
    let all = ends 1 Nothing (map line_of_words (script_lines said) ++ [] ∷ []) said read in
    let same : map line_of_words (script_lines said) ≡ all.front = sym (but_last_is (map line_of_words (script_lines said))) ∙ ap but_last all.whole ∙ but_last_is all.front in
    ap (reach Nothing) same ∙ all.walked

text_is : (said : Session) → script_text said ≡ flat_map ended_line (script_lines said)
unfolding script_text
text_is said = refl

pub nothing_behind : NothingBehind
nothing_behind said more h some =
    let lines = script_lines said in
    let not_ended : text_lines more ≡ [] ∷ [] → ⊥ = λ e. omega (arith, some, ap length (sym (join_with_byte-slice_split 10 more) ∙ ap (join_with_byte 10) e)) in
    let parts : 0 < length (text_lines more) = omega (arith, length-slice_split (λ c. c == 10) more) in
    let number : 1 + length (map line_of_words (script_lines said)) ≡ length (script_lines said) + 1 = omega (arith, length-map (script_lines said) line_of_words) in
    whole_from (script_text said ++ more)
    ∙ ap (λ bytes. script_from 1 Nothing (text_lines (bytes ++ more))) (text_is said)
    ∙ ap (script_from 1 Nothing) (cut_lines_more (script_lines said) more (lines_plain said h))
    ∙ on_front 1 Nothing (Finished said) (map line_of_words (script_lines said)) (text_lines more) parts (whole_reached said h)
    ∙ behind_end (1 + length (map line_of_words (script_lines said))) said (text_lines more) parts not_ended
    ∙ ap (λ n. Err (n, End)) number

is_err : (r : Result Session (ℕ × Cause)) → ((said : Session) → r ≡ Ok said → ⊥) → IsErr r
is_err (Ok said) h = absurd (h said refl)
is_err (Err bad) h = refl

pub no_front : NoFront
no_front front more said e some = is_err (script_of front) (λ found read.
    let printed = read_is_printed front found read in
    bad_is_no_ok (length (script_lines found) + 1, End) said (sym (nothing_behind found more printed.1 some) ∙ ap (λ bytes. script_of (bytes ++ more)) (sym printed.0) ∙ e))
