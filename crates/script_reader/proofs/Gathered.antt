-- The words of a line that were gathered in front of a rest.
use Rattle.std.proofs.Common.{◌≡◌, ℕ, ◌<◌, ◌≤◌, suc, List, [], ◌∷◌, ◌++◌, length, map, Bool, true, false, ◌||◌, refl, ap, sym, ◌∙◌, subst, arith, append_assoc, length-append}
use Rattle.std.specs.Prelude.{◌==◌}
use Rattle.std.specs.List.{list_any}
use Rattle.std.specs.Borrow.{Bor}
use Rattle.std.proofs.lemmas.List.Splits.{length-slice_split}
use Rattle.script_grammar.specs.Spelling.{words_of}
use Rattle.script_grammar.specs.Reading.{is_blank}
use Rattle.script_reader.specs.Few.{IsWordsOf}

-- what the words are, seen through their loans
abbrev pub seen_words : List (Bor (List ℕ)) → List (List ℕ)
seen_words words = map (λ w. w.now) words

length-seen : (words : List (Bor (List ℕ))) → length (seen_words words) ≡ length words
length-seen [] = refl
length-seen (w ∷ words) = ap suc (length-seen words)

pub record IsGathered (text : List ℕ) (words : List (Bor (List ℕ))) (rest : List ℕ) : Type 0 where
  pub parts : words_of text ≡ seen_words words ++ words_of rest
  pub filled : list_any is_blank (seen_words words) ≡ false
  pub few : length words ≤ 299

pub gathered_none : (text : List ℕ) (words : List (Bor (List ℕ))) → words ≡ [] → IsGathered text words text
gathered_none text words none = subst (λ (ws : List (Bor (List ℕ))). IsGathered text ws text) (sym none) (record { parts = refl; filled = refl; few = omega arith })

seen_push : (words : List (Bor (List ℕ))) (w : Bor (List ℕ)) → seen_words (words ++ w ∷ []) ≡ seen_words words ++ w.now ∷ []
seen_push [] w = refl
seen_push (v ∷ words) w = ap (λ (ws : List (List ℕ)). v.now ∷ ws) (seen_push words w)

neither : (a b : Bool) → (a || b) ≡ false → (a ≡ false) × (b ≡ false)
neither true b h = absurd (let e : ⊥ = cc in e)
neither false b h = (refl, h)

or_is : (a b : Bool) → a ≡ false → b ≡ false → (a || b) ≡ false
or_is a b h k = rw (h, k) refl

or_true : (a b : Bool) → b ≡ true → (a || b) ≡ true
or_true true b h = refl
or_true false b h = h

none_push : (words : List (List ℕ)) (word : List ℕ) → list_any is_blank words ≡ false → (length word == 0) ≡ false → list_any is_blank (words ++ word ∷ []) ≡ false
none_push [] word h k = rw k refl
none_push (w ∷ words) word h k =
    let parts = neither (is_blank w) (list_any is_blank words) h in
    or_is (is_blank w) (list_any is_blank (words ++ word ∷ [])) parts.0 (none_push words word parts.1 k)

some_found : (words more : List (List ℕ)) (word : List ℕ) → (length word == 0) ≡ true → list_any is_blank (words ++ word ∷ more) ≡ true
some_found [] more word k = rw k refl
some_found (w ∷ words) more word k = or_true (is_blank w) (list_any is_blank (words ++ word ∷ more)) (some_found words more word k)

pub gathered_more : (text : List ℕ) (words longer : List (Bor (List ℕ))) (rest after : List ℕ) (w : Bor (List ℕ)) → IsGathered text words rest → words_of rest ≡ w.now ∷ words_of after → (length w.now == 0) ≡ false → length words < 299 → longer ≡ words ++ w ∷ [] → IsGathered text longer after
gathered_more text words longer rest after w h is full room more = subst (λ (ws : List (Bor (List ℕ))). IsGathered text ws after) (sym more) (record {
  parts = h.parts ∙ ap (λ (r : List (List ℕ)). seen_words words ++ r) is ∙ sym (append_assoc (seen_words words) (w.now ∷ []) (words_of after)) ∙ ap (λ (f : List (List ℕ)). f ++ words_of after) (sym (seen_push words w));
  filled = ap (list_any is_blank) (seen_push words w) ∙ none_push (seen_words words) w.now h.filled full;
  few = omega (arith, length-append words (w ∷ []));
})

pub an_empty_word : (text : List ℕ) (words : List (Bor (List ℕ))) (rest word : List ℕ) (more : List (List ℕ)) → IsGathered text words rest → words_of rest ≡ word ∷ more → (length word == 0) ≡ true → list_any is_blank (words_of text) ≡ true
an_empty_word text words rest word more h is empty = ap (list_any is_blank) (h.parts ∙ ap (λ (r : List (List ℕ)). seen_words words ++ r) is) ∙ some_found (seen_words words) more word empty

pub too_many : (text : List ℕ) (words : List (Bor (List ℕ))) (rest word after : List ℕ) → IsGathered text words rest → words_of rest ≡ word ∷ words_of after → 299 ≤ length words → 300 < length (words_of text)
too_many text words rest word after h is many =
    let some : 0 < length (words_of after) = omega (arith, length-slice_split (λ c. c == 32) after) in
    omega (arith, ap length h.parts, length-append (seen_words words) (words_of rest), ap length is, length-seen words)

pub all_words : (text : List ℕ) (words all : List (Bor (List ℕ))) (rest : List ℕ) (w : Bor (List ℕ)) → IsGathered text words rest → words_of rest ≡ rest ∷ [] → (length rest == 0) ≡ false → w.now ≡ rest → all ≡ words ++ w ∷ [] → IsWordsOf text (seen_words all)
all_words text words all rest w h is full same more = subst (λ (ws : List (Bor (List ℕ))). IsWordsOf text (seen_words ws)) (sym more) (record {
  same = seen_push words w ∙ ap (λ (v : List ℕ). seen_words words ++ v ∷ []) same ∙ sym (h.parts ∙ ap (λ (r : List (List ℕ)). seen_words words ++ r) is);
  filled = ap (list_any is_blank) (seen_push words w) ∙ none_push (seen_words words) w.now h.filled (ap (λ (v : List ℕ). length v == 0) same ∙ full);
  few = omega (arith, h.few, length-seen (words ++ w ∷ []), length-append words (w ∷ []));
})
