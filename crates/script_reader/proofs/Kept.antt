-- How far the lines behind a head are read, and what is kept of them.
use Rattle.std.proofs.Common.{◌≡◌, ℕ, ◌+◌, ◌-◌, ◌≤◌, ◌<◌, List, [], ◌∷◌, length, true, false, Ok, Err, refl, ap, sym, subst, ◌∙◌, arith, length-append}
use Rattle.std.specs.Prelude.{◌==◌}
use Rattle.std.specs.List.{flat_map, join_with_byte}
use Rattle.std.proofs.lemmas.List.Splits.{length-slice_split, join_with_byte-slice_split}
use Rattle.script_grammar.specs.Session.{Session}
use Rattle.script_grammar.specs.Printing.{ended_line}
use Rattle.script_grammar.specs.Reading.{Within, Finished, text_in, script_from, text_lines, script_of}
use Rattle.script_grammar.specs.declared.lines.Cause.{Cause}
use Rattle.script_grammar.specs.declared.lines.Cause.TheVariants.{End}
use Rattle.script_lines.specs.Counted.{IsCounted}
use Rattle.script_lines.specs.Stock.{IsSomeStock}
use Rattle.script_reader.specs.declared.heads.Head.{Head}
use Rattle.script_reader.specs.declared.bodies.Body.{Body}
use Rattle.script_reader.specs.ReadTo.{lines_so_far, IsReadTo}
use Rattle.script_reader.specs.Bodies.{IsBodyOf, IsSameBody, IsFound, line_by_text, JudgesLine, JudgesLast}
use Rattle.script_reader.proofs.Folds.{IsReadUpTo, to_up_to, to_within, at_next, bad_next, at_last}

pub record IsKeptTo (bytes : List ℕ) (head : Head) (body : Body) (n : ℕ) (rest : List ℕ) : Type 0 where
  pub said : Session
  pub at : IsReadTo bytes said n rest
  pub kept : IsBodyOf head body said

pub few_clients : {bytes rest : List ℕ} {head : Head} {body : Body} {n : ℕ} → IsKeptTo bytes head body n rest → head.clients ≤ 16
few_clients k = omega (arith, k.at.limits.clients, ap (λ (h : Head). h.clients) k.kept.same_head)

pub some_stock : {bytes rest : List ℕ} {head : Head} {body : Body} {n : ℕ} → IsKeptTo bytes head body n rest → IsSomeStock body.fonts.items body.images.items
some_stock k = record { before = k.said.assets; is = record { same_fonts = sym k.kept.same_fonts; same_images = sym k.kept.same_images } }

-- so many bytes were read
pub so_many : {bytes rest : List ℕ} {head : Head} {body : Body} {n : ℕ} (k : IsKeptTo bytes head body n rest) (start : ℕ) → start ≡ length bytes - length rest → start ≡ length (flat_map ended_line (lines_so_far k.said))
so_many {bytes} {rest} k start is = omega (arith, is, ap length k.at.text, length-append (flat_map ended_line (lines_so_far k.said)) rest)

pub shorter : {bytes rest : List ℕ} {head : Head} {body : Body} {n : ℕ} → IsKeptTo bytes head body n rest → length rest ≤ length bytes
shorter {bytes} {rest} k = omega (arith, ap length k.at.text, length-append (flat_map ended_line (lines_so_far k.said)) rest)

pub with_room : {bytes rest : List ℕ} {head : Head} {old : Body} {n : ℕ} → IsKeptTo bytes head old n rest → (new : Body) → IsSameBody old new → IsKeptTo bytes head new n rest
with_room k new same = record {
  said = k.said;
  at = k.at;
  kept = record {
    same_head = k.kept.same_head;
    same_fonts = k.kept.same_fonts ∙ sym same.fonts;
    same_images = k.kept.same_images ∙ sym same.images;
    counted = subst (λ (counts : List ℕ). IsCounted counts k.said.calls) (sym same.counts) k.kept.counted;
    places = same.places ∙ k.kept.places;
  };
}

-- ---- a line more

pub bad_line : {bytes rest : List ℕ} {head : Head} {old : Body} {n : ℕ} → IsKeptTo bytes head old n rest → (start : ℕ) → start ≡ length bytes - length rest → (new : Body) (text after : List ℕ) (cause : Cause) → text_lines rest ≡ text ∷ text_lines after
    → JudgesLine (line_by_text text) head start old new (Err cause) → script_of bytes ≡ Err (n, cause)
bad_line k start is new text after cause cut_off judges = bad_next (to_up_to k.at) text after cause cut_off (judges k.said k.at.limits k.kept (so_many k start is))

pub next_line : {bytes rest : List ℕ} {head : Head} {old : Body} {n : ℕ} → IsKeptTo bytes head old n rest → (start : ℕ) → start ≡ length bytes - length rest → (new : Body) (text after : List ℕ) → text_lines rest ≡ text ∷ text_lines after
    → JudgesLine (line_by_text text) head start old new (Ok false) → IsKeptTo bytes head new (n + 1) after
next_line k start is new text after cut_off judges =
    let read = judges k.said k.at.limits k.kept (so_many k start is) in
    record { said = read.0; at = to_within (at_next (to_up_to k.at) (Within read.0) text after cut_off read.1); kept = read.2 }

pub bad_last : {bytes rest : List ℕ} {head : Head} {body : Body} {n : ℕ} → IsKeptTo bytes head body n rest → (start : ℕ) → start ≡ length bytes - length rest → (cause : Cause) → text_lines rest ≡ rest ∷ [] → JudgesLast head start rest body cause → script_of bytes ≡ Err (n, cause)
bad_last k start is cause none judges = at_last (to_up_to k.at) cause none (judges k.said k.at.limits k.kept (so_many k start is))

-- ---- the line `end`

pub record IsEnded (bytes : List ℕ) (head : Head) (body : Body) (n : ℕ) (after : List ℕ) : Type 0 where
  pub said : Session
  pub at : IsReadUpTo bytes (Finished said) n after
  pub kept : IsBodyOf head body said

pub last_line : {bytes rest : List ℕ} {head : Head} {old : Body} {n : ℕ} → IsKeptTo bytes head old n rest → (start : ℕ) → start ≡ length bytes - length rest → (new : Body) (text after : List ℕ) → text_lines rest ≡ text ∷ text_lines after
    → JudgesLine (line_by_text text) head start old new (Ok true) → IsEnded bytes head new (n + 1) after
last_line k start is new text after cut_off judges =
    let read = judges k.said k.at.limits k.kept (so_many k start is) in
    record { said = k.said; at = at_next (to_up_to k.at) (Finished k.said) text after cut_off read.0; kept = read.1 }

nothing_more : (n : ℕ) (said : Session) → script_from n (Finished said) (text_lines []) ≡ Ok said
unfolding script_from
nothing_more n said = refl

pub is_found : {bytes : List ℕ} {head : Head} {body : Body} {n : ℕ} (after : List ℕ) → IsEnded bytes head body n after → after ≡ [] → IsFound bytes head body
is_found {bytes} {head} {body} {n} after k none =
    record { said = k.said; reads = k.at.reads ∙ ap (λ (a : List ℕ). script_from n (Finished k.said) (text_lines a)) none ∙ nothing_more n k.said; kept = k.kept }

last_more : (n : ℕ) (said : Session) (after : List ℕ) → 0 < length after → script_from n (Finished said) (after ∷ []) ≡ Err (n, End)
unfolding script_from text_in
last_more n said [] some = absurd (omega arith)
last_more n said (b ∷ after) some = refl

some_more : (n : ℕ) (said : Session) (text next : List ℕ) (parts : List (List ℕ)) → script_from n (Finished said) (text ∷ next ∷ parts) ≡ Err (n, End)
unfolding script_from text_in
some_more n said text next parts = refl

more_in : (n : ℕ) (said : Session) (after : List ℕ) (parts : List (List ℕ)) → 0 < length after → 0 < length parts → join_with_byte 10 parts ≡ after → script_from n (Finished said) parts ≡ Err (n, End)
more_in n said after [] some any joined = absurd (omega arith)
more_in n said after (text ∷ []) some any joined = ap (λ (t : List ℕ). script_from n (Finished said) (t ∷ [])) joined ∙ last_more n said after some
more_in n said after (text ∷ next ∷ parts) some any joined = some_more n said text next parts

pub is_bad_behind : {bytes : List ℕ} {head : Head} {body : Body} {n : ℕ} (after : List ℕ) (bad : ℕ × Cause) → IsEnded bytes head body n after → bad ≡ (n, End) → 0 < length after → script_of bytes ≡ Err bad
is_bad_behind {bytes} {head} {body} {n} after bad k is some =
    k.at.reads ∙ more_in n k.said after (text_lines after) some (omega (arith, length-slice_split (λ c. c == 10) after)) (join_with_byte-slice_split 10 after) ∙ ap Err (sym is)
