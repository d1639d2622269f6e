-- A call more in the text.
use Rattle.std.proofs.Common.{◌≡◌, ℕ, List, [], ◌∷◌, ◌++◌, map, refl, ap, sym, ◌∙◌, append_assoc, append-nil, add-one, subst, ◌+◌}
use Rattle.std.specs.List.{flat_map}
use Rattle.std.proofs.lemmas.List.{map-append}
use Rattle.std.proofs.lemmas.List.Concat.{flat_map-append}
use Rattle.script_grammar.specs.declared.lines.CallLine.{CallLine}
use Rattle.script_grammar.specs.Printing.{head_lines, asset_words, line_words, end_line, ended_line, script_text}
use Rattle.session_maker.specs.Kinds.{Drawn, call_drawn}
use Rattle.std.specs.Prelude.{codes}
use Rattle.session_maker.specs.Made.{Lines, with_drawn, with_calls, first_clients, made_assets, made_session, call_text}
use Rattle.std.specs.Fmt.{decimal}
use Rattle.session_maker.proofs.NumberWords.{word_2, word_3, word_65, word_240, word_320}
use Rattle.session_maker.specs.Added.{head_text, calls_text, AreAdded}

calls_more : (calls : List CallLine) (client : ℕ) (made : Drawn) → calls_text (calls ++ record { client = client; call = made.call } ∷ []) ≡ calls_text calls ++ call_text client made
unfolding calls_text
calls_more calls client made =
    let line : CallLine = record { client = client; call = made.call } in
    ap (flat_map ended_line) (map-append line_words calls (line ∷ []))
    ∙ flat_map-append ended_line (map line_words calls) (line_words line ∷ [])
    ∙ ap (λ (t : List ℕ). flat_map ended_line (map line_words calls) ++ t) (append-nil (ended_line (line_words line)))

pub added_more : (head old new : List ℕ) (client k state next : ℕ) (lines : Lines) → AreAdded head lines old state → new ≡ old ++ call_text client (call_drawn client k state) → next ≡ (call_drawn client k state).state → AreAdded head (with_drawn client (call_drawn client k lines.state) lines) new next
added_more head old new client k state next lines added text moved =
    let made : Drawn = call_drawn client k lines.state in
    record {
      text_is = text ∙ (λ i. added.text_is i ++ call_text client (call_drawn client k (added.state_is i))) ∙ append_assoc head (calls_text lines.calls) (call_text client made) ∙ ap (λ (t : List ℕ). head ++ t) (sym (calls_more lines.calls client made));
      state_is = moved ∙ ap (λ (s : ℕ). (call_drawn client k s).state) added.state_is;
    }

-- before the first call
pub added_none : (head text : List ℕ) (seed : ℕ) → text ≡ head → AreAdded head (record { calls = []; state = seed }) text seed
unfolding calls_text
added_none head text seed is = record { text_is = is ∙ sym (append-nil head); state_is = refl }

-- a client more, and a call more, as the code counts them
pub added_clients : (head text : List ℕ) (state seed calls client : ℕ) → AreAdded head (with_calls client calls (first_clients seed calls client)) text state → AreAdded head (first_clients seed calls (client + 1)) text state
added_clients head text state seed calls client added = subst (λ (n : ℕ). AreAdded head (first_clients seed calls n) text state) (sym (add-one client)) added

-- all lines, and the last one
pub added_whole : (seed clients calls state : ℕ) (text new : List ℕ) → AreAdded (head_text clients) (first_clients seed calls clients) text state → new ≡ text ++ codes "end\n" → new ≡ script_text (made_session seed clients calls)
unfolding script_text calls_text
added_whole seed clients calls state text new added ended =
    let front = head_lines (made_session seed clients calls) ++ map asset_words made_assets in
    let lines = map line_words (first_clients seed calls clients).calls in
    ended ∙ ap (λ (t : List ℕ). t ++ codes "end\n") (added.text_is ∙ sym (flat_map-append ended_line front lines)) ∙ sym (flat_map-append ended_line (front ++ lines) (end_line ∷ []))

-- the text before the calls, as it is written
abbrev pub head_written : ℕ → List ℕ
head_written clients = codes "screen 320 240 204060\nclients " ++ (decimal clients ++ codes "\nfont 3\nglyph 65 3 2 7 5\nimage 2 2 ff102030ff405060ff708090ffa0b0c0\n")

pub head_is : (clients : ℕ) → head_written clients ≡ head_text clients
head_is clients =
    rw (word_320, word_240, word_65, word_3, word_2)
    (ap (λ (t : List ℕ). codes "screen 320 240 204060\nclients " ++ t) (sym (append_assoc (decimal clients) (10 ∷ []) (codes "font 3\nglyph 65 3 2 7 5\nimage 2 2 ff102030ff405060ff708090ffa0b0c0\n"))))
