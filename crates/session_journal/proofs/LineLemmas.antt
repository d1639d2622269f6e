-- The comments of entries, one after another, and how many entries of each client stand before.
use Rattle.std.proofs.Common.{◌≡◌, ℕ, ◌+◌, ◌*◌, ◌≤◌, ◌++◌, [], ◌∷◌, List, Bool, true, false, cond, ◌==◌, length, Option, Some, unwrap_or, refl, sym, ap, subst, ◌∙◌, append_assoc, append-nil, arith}
use Rattle.std.specs.Prelude.{All}
use Rattle.std.proofs.lemmas.Bool.Decides.{nat_tests}
use Rattle.std.proofs.lemmas.List.Elements.{All-push}
use Rattle.std.proofs.lemmas.Grind.{flat_map-append}
use Rattle.std.specs.List.{flat_map}
use lib.Dec.{eqb}
use Rattle.session_journal.specs.Grammar.{IsComment}
use Rattle.session_journal.specs.Texts.{Told, comment, comments, comments_behind, entries_of, line_text, colour_bytes}

-- one entry more
pub comments_behind-more : (before entries : List Told) (t : Told) → comments_behind before (entries ++ t ∷ []) ≡ comments_behind before entries ++ comment t.client (entries_of t.client (before ++ entries)) t.words ∷ []
comments_behind-more before [] t = ap (λ (b : List Told). comment t.client (entries_of t.client b) t.words ∷ []) (sym (append-nil before))
comments_behind-more before (e ∷ entries) t =
    ap (λ (l : List (List ℕ)). comment e.client (entries_of e.client before) e.words ∷ l)
    (comments_behind-more (before ++ e ∷ []) entries t
    ∙ ap (λ (b : List Told). comments_behind (before ++ e ∷ []) entries ++ comment t.client (entries_of t.client b) t.words ∷ []) (append_assoc before (e ∷ []) entries))

pub entries_of-more : (client : ℕ) (entries : List Told) (t : Told) → entries_of client (entries ++ t ∷ []) ≡ cond (t.client == client) (entries_of client entries + 1) (entries_of client entries)
entries_of-more client [] t = one (t.client == client)
  where
    one : (b : Bool) → length (cond b (t ∷ []) []) ≡ cond b 1 0
    one true = refl
    one false = refl
entries_of-more client (e ∷ entries) t = kept (e.client == client) (t.client == client) _ _ (entries_of-more client entries t)
  where
    kept : (b new : Bool) (some more : List Told) → length more ≡ cond new (length some + 1) (length some) → length (cond b (e ∷ more) more) ≡ cond new (length (cond b (e ∷ some) some) + 1) (length (cond b (e ∷ some) some))
    kept true true some more h = omega arith
    kept true false some more h = omega arith
    kept false true some more h = h
    kept false false some more h = h

pub entries_of-within : (client : ℕ) (entries : List Told) → entries_of client entries ≤ length entries
entries_of-within client [] = omega arith
entries_of-within client (e ∷ entries) = kept (e.client == client) _ (entries_of-within client entries)
  where
    kept : (b : Bool) (some : List Told) → length some ≤ length entries → length (cond b (e ∷ some) some) ≤ length (e ∷ entries)
    kept true some h = omega arith
    kept false some h = omega arith

-- a table of counts with that of a client one higher
pub counted_more : (f g : ℕ → Option ℕ) (client number : ℕ) (entries : List Told) (t : Told) → client ≡ t.client → number ≡ entries_of client entries
    → ((q : ℕ) → unwrap_or (f q) 0 ≡ entries_of q entries) → ((q : ℕ) → g q ≡ cond (eqb client q) (Some (number + 1)) (f q)) → (q : ℕ) → unwrap_or (g q) 0 ≡ entries_of q (entries ++ t ∷ [])
counted_more f g client number entries t is counted old new q = by_client (eqb client q) refl
  where
    by_client : (b : Bool) → eqb client q ≡ b → unwrap_or (g q) 0 ≡ entries_of q (entries ++ t ∷ [])
    by_client true same =
        let equal : client ≡ q = grind (arith, nat_tests) in
        let it : (t.client == q) ≡ true = grind (arith, nat_tests) in
        ap (λ (o : Option ℕ). unwrap_or o 0) (new q ∙ ap (λ (b : Bool). cond b (Some (number + 1)) (f q)) same)
        ∙ ap (λ (n : ℕ). n + 1) (counted ∙ ap (λ (k : ℕ). entries_of k entries) equal)
        ∙ sym (entries_of-more q entries t ∙ ap (λ (b : Bool). cond b (entries_of q entries + 1) (entries_of q entries)) it)
    by_client false other =
        let it : (t.client == q) ≡ false = grind (arith, nat_tests) in
        ap (λ (o : Option ℕ). unwrap_or o 0) (new q ∙ ap (λ (b : Bool). cond b (Some (number + 1)) (f q)) other) ∙ old q
        ∙ sym (entries_of-more q entries t ∙ ap (λ (b : Bool). cond b (entries_of q entries + 1) (entries_of q entries)) it)

-- the line of one entry more
pub lines_more : (before now : List ℕ) (entries : List Told) (t : Told) (client number : ℕ) → client ≡ t.client → number ≡ entries_of client entries
    → now ≡ (before ++ flat_map line_text (comments entries)) ++ line_text (comment t.client number t.words) → now ≡ before ++ flat_map line_text (comments (entries ++ t ∷ []))
lines_more before now entries t client number is counted now_is =
    let count : number ≡ entries_of t.client entries = counted ∙ ap (λ (k : ℕ). entries_of k entries) is in
    let line : List ℕ = line_text (comment t.client (entries_of t.client entries) t.words) in
    now_is
    ∙ ap (λ (n : ℕ). (before ++ flat_map line_text (comments entries)) ++ line_text (comment t.client n t.words)) count
    ∙ append_assoc before (flat_map line_text (comments entries)) line
    ∙ ap (λ (l : List ℕ). before ++ (flat_map line_text (comments entries) ++ l)) (sym (append-nil line))
    ∙ ap (λ (l : List ℕ). before ++ l) (sym (ap (flat_map line_text) (comments_behind-more [] entries t) ∙ flat_map-append line_text (comments entries) (comment t.client (entries_of t.client entries) t.words ∷ [])))

-- each comment of one entry more is one
pub all_more : (entries : List Told) (t : Told) (client number : ℕ) → client ≡ t.client → number ≡ entries_of client entries
    → All IsComment (comments entries) → IsComment (comment t.client number t.words) → All IsComment (comments (entries ++ t ∷ []))
all_more entries t client number is counted all line =
    let count : number ≡ entries_of t.client entries = counted ∙ ap (λ (k : ℕ). entries_of k entries) is in
    subst (All IsComment) (sym (comments_behind-more [] entries t))
    (All-push IsComment (comments entries) (comment t.client (entries_of t.client entries) t.words) all
    (subst (λ (n : ℕ). IsComment (comment t.client n t.words)) count line))

-- three bytes a colour
pub raster_length : (shown : List ℕ) → length (flat_map colour_bytes shown) ≡ 3 * length shown
raster_length [] = refl
raster_length (c ∷ shown) = let rest = raster_length shown in omega arith
