-- Where a client's line k begins: there stand its words, and a line feed behind them.
use Rattle.std.proofs.Common.{◌≡◌, ℕ, ◌+◌, ◌<◌, ◌≤◌, zero, suc, List, [], ◌∷◌, ◌++◌, length, map, drop, get_or, Bool, true, false, cond, Some, refl, ap, sym, ◌∙◌, subst, arith, append_assoc, length-append}
use Rattle.std.specs.Prelude.{slice_get}
use Rattle.std.specs.List.{filter, flat_map, join_with_byte}
use Rattle.std.proofs.lemmas.Grind.{flat_map-append}
use Rattle.std.proofs.Math.Seq.{drop-append_seam}
use Rattle.script_grammar.specs.Session.{Session, is_by, lines_by, call_line}
use Rattle.script_grammar.specs.Limits.{IsSession}
use Rattle.script_grammar.specs.Printing.{head_lines, asset_words, line_words, ended_line, end_line, script_lines, script_text}
use Rattle.script_grammar.specs.declared.lines.CallLine.{CallLine}
use Rattle.script_grammar.proofs.Plain.{Plain, PlainLines}
use Rattle.script_grammar.proofs.Complete.{lines_plain}
use Rattle.script_reader.specs.Places.{places_from, calls_start, call_places, is_place_by, starts_by}
use Rattle.script_reader.specs.declared.places.LinePlace.{LinePlace}
use Rattle.script_reader.proofs.Counts.{behind}

abbrev text_of : CallLine → List ℕ
text_of line = ended_line (line_words line)

abbrev text_all : List CallLine → List ℕ
text_all lines = flat_map ended_line (map line_words lines)

-- a line stands at a place in the text of some, of which the first begins there
record IsIn (start : ℕ) (lines : List CallLine) (line : CallLine) (at : ℕ) : Type 0 where
  front : List ℕ
  back : List ℕ
  whole : text_all lines ≡ front ++ (text_of line ++ back)
  place : at ≡ start + length front
  plain : Plain (line_words line)

abbrev Found : ℕ → List CallLine → List CallLine → List LinePlace → ℕ → Type 0
Found start lines kept places k = (line : CallLine) × (slice_get kept k ≡ Some line) × IsIn start lines line (get_or (map (λ (p : LinePlace). p.start) places) k 0)

one_more : (start : ℕ) (first : CallLine) (lines : List CallLine) (line : CallLine) (at : ℕ) → IsIn (behind start first) lines line at → IsIn start (first ∷ lines) line at
one_more start first lines line at found =
    record {
      front = text_of first ++ found.front;
      back = found.back;
      whole = ap (λ (rest : List ℕ). text_of first ++ rest) found.whole ∙ sym (append_assoc (text_of first) found.front (text_of line ++ found.back));
      place = found.place ∙ omega (arith, length-append (text_of first) found.front);
      plain = found.plain;
    }

found_step : (b : Bool) (start : ℕ) (first : CallLine) (place : LinePlace) (places : List LinePlace) (lines kept : List CallLine) (k : ℕ) → place.start ≡ start → Plain (line_words first)
    → k < length (cond b (first ∷ kept) kept)
    → ((i : ℕ) → i < length kept → Found (behind start first) lines kept places i)
    → Found start (first ∷ lines) (cond b (first ∷ kept) kept) (cond b (place ∷ places) places) k
found_step true start first place places lines kept zero here plain small later =
    (first, refl, record { front = []; back = text_all lines; whole = refl; place = here ∙ omega arith; plain = plain })
found_step true start first place places lines kept (suc k) here plain small later =
    let found = later k (omega arith) in
    (found.0, found.1, one_more start first lines found.0 _ found.2)
found_step false start first place places lines kept k here plain small later =
    let found = later k small in
    (found.0, found.1, one_more start first lines found.0 _ found.2)

line_found : (client start k : ℕ) (lines : List CallLine) → PlainLines (map line_words lines) → k < length (filter (is_by client) lines) → Found start lines (filter (is_by client) lines) (filter (is_place_by client) (places_from start lines)) k
line_found client start k [] plain small = absurd (omega arith)
line_found client start k (line ∷ lines) plain small =
    found_step (is_by client line) start line _ (filter (is_place_by client) (places_from (behind start line) lines)) lines (filter (is_by client) lines) k refl plain.0 small
    (λ i few. line_found client (behind start line) i lines plain.1 few)

plain_behind : (xs ys : List (List (List ℕ))) → PlainLines (xs ++ ys) → PlainLines ys
plain_behind [] ys h = h
plain_behind (x ∷ xs) ys h = plain_behind xs ys h.1

plain_before : (xs ys : List (List (List ℕ))) → PlainLines (xs ++ ys) → PlainLines xs
plain_before [] ys h = tt
plain_before (x ∷ xs) ys h = (h.0, plain_before xs ys h.1)

-- the line at a place among bytes
pub record IsLineAt (bytes : List ℕ) (line : CallLine) (at : ℕ) : Type 0 where
  pub more : List ℕ
  pub rest : drop at bytes ≡ join_with_byte 32 (line_words line) ++ 10 ∷ more
  pub plain : Plain (line_words line)
  pub within : at ≤ length bytes

-- in the whole text
at_whole : (head calls tail front back : List ℕ) (line : CallLine) (at : ℕ) → calls ≡ front ++ (text_of line ++ back) → at ≡ length head + length front → Plain (line_words line) → IsLineAt (head ++ calls ++ tail) line at
at_whole head calls tail front back line at is place plain =
    let words = join_with_byte 32 (line_words line) in
    let behind_line : (text_of line ++ back) ++ tail ≡ words ++ 10 ∷ (back ++ tail) = append_assoc (text_of line) back tail ∙ append_assoc words (10 ∷ []) (back ++ tail) in
    let all : head ++ calls ++ tail ≡ (head ++ front) ++ ((text_of line ++ back) ++ tail) =
    ap (λ (c : List ℕ). head ++ c ++ tail) is ∙ ap (λ (c : List ℕ). c ++ tail) (sym (append_assoc head front (text_of line ++ back))) ∙ append_assoc (head ++ front) (text_of line ++ back) tail in
    let here : at ≡ length (head ++ front) = place ∙ sym (length-append head front) in
    record {
      more = back ++ tail;
      rest = ap (λ (n : ℕ). drop n (head ++ calls ++ tail)) here ∙ ap (drop (length (head ++ front))) all ∙ drop-append_seam (head ++ front) ((text_of line ++ back) ++ tail) ∙ behind_line;
      plain = plain;
      within = omega (arith, here, ap length all, length-append (head ++ front) ((text_of line ++ back) ++ tail));
    }

-- a client's line k in the bytes of a session
pub said_line : (said : Session) (client k : ℕ) → IsSession said → k < length (lines_by client said.calls) → (line : CallLine) × (call_line said client k ≡ Some line) × IsLineAt (script_text said) line (get_or (starts_by (call_places said) client) k 0)
unfolding script_text
said_line said client k limits small =
    let front = head_lines said ++ map asset_words said.assets in
    let calls = map line_words said.calls in
    let plain : PlainLines calls = plain_behind front calls (plain_before (front ++ calls) (end_line ∷ []) (lines_plain said limits)) in
    let found = line_found client (calls_start said) k said.calls plain small in
    let parts : flat_map ended_line (script_lines said) ≡ flat_map ended_line front ++ flat_map ended_line calls ++ flat_map ended_line (end_line ∷ []) =
    flat_map-append ended_line (front ++ calls) (end_line ∷ []) ∙ ap (λ (t : List ℕ). t ++ flat_map ended_line (end_line ∷ [])) (flat_map-append ended_line front calls) in (
      found.0,
      found.1,
      subst (λ (bytes : List ℕ). IsLineAt bytes found.0 (get_or (starts_by (call_places said) client) k 0)) (sym parts)
          (at_whole (flat_map ended_line front) (flat_map ended_line calls) (flat_map ended_line (end_line ∷ [])) found.2.front found.2.back found.0 _ found.2.whole found.2.place found.2.plain),
    )
