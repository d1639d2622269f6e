-- A line of a call behind others, by the count of its client's calls.
use Rattle.std.proofs.Common.{◌≡◌, ℕ, ◌+◌, ◌<◌, List, [], ◌∷◌, ◌++◌, length, Bool, true, false, cond, nat_lt, Result, Ok, Err, refl, ap, sym, ◌∙◌, subst, arith, length-append, eqb-true}
use Rattle.std.specs.Prelude.{◌==◌, slice_index, slice_set}
use Rattle.std.proofs.lemmas.Bool.Decides.{nat_tests}
use Rattle.std.proofs.lemmas.List.Elements.{filter-append}
use Rattle.std.proofs.lemmas.List.{get_or-set_other}
use Rattle.std.proofs.lemmas.Grind.{get_or-set_at}
use Rattle.glyph_masks.specs.Glyphs.{FontView}
use Rattle.script_grammar.specs.Judging.{◌>>=◌}
use Rattle.script_grammar.specs.Session.{Session, fonts_of, images_of, is_by, lines_by}
use Rattle.script_grammar.specs.Words.{declared_read}
use Rattle.script_grammar.specs.Lines.{call_forms, call_by, with_room, line_read}
use Rattle.script_grammar.specs.declared.lines.CallLine.{CallLine}
use Rattle.script_grammar.specs.declared.lines.LineCall.{LineCall}
use Rattle.script_grammar.specs.declared.lines.Cause.{Cause}
use Rattle.script_grammar.specs.declared.lines.Cause.TheVariants.{Form, Unknown, Many}
use Rattle.script_grammar.specs.Spelling.{below}
use Rattle.script_grammar.specs.Words.{short_read}
use Rattle.script_grammar.proofs.Binds.{err_is_no_ok, bind_ok, cond_ok}
use Rattle.script_grammar.proofs.Made.{made2_ok}
use Rattle.script_lines.specs.Kinds.{call_line_read}
use Rattle.script_lines.specs.Counted.{IsCounted, IsBehind, NextCall}

ok_same : {A : Type 0} (x y : A) → ◌≡◌ {A = Result A Cause} (Ok x) (Ok y) → x ≡ y
ok_same x y e = cc

below_is : (count n m : ℕ) → below count n ≡ Ok m → m < count
below_is count n m e =
    let found = cond_ok (nat_lt n count) (Ok n) Unknown m e in
    let test = found.0 in
    subst (λ k. k < count) (ok_same n m found.1) (grind (arith, nat_tests))

declared_below : (count : ℕ) (word : List ℕ) (n : ℕ) → declared_read count word ≡ Ok n → n < count
unfolding declared_read
declared_below count word n e = let read = bind_ok (short_read word) (below count) n e in below_is count read.0 n read.2

-- the client of a line is one of those
pub client_below : (clients : ℕ) (fonts : List FontView) (images : ℕ) (words : List (List ℕ)) (line : CallLine) → Ok line ≡ call_line_read clients fonts images words → line.client < clients
client_below clients fonts images [] line e = err_is_no_ok Form line (sym e)
client_below clients fonts images (client ∷ []) line e = err_is_no_ok Form line (sym e)
client_below clients fonts images (client ∷ kind ∷ words) line e =
    let made = made2_ok (λ (client : ℕ) (call : LineCall). let l : CallLine = record { client = client; call = call } in l) (declared_read clients client) (call_by (call_forms fonts images) kind words) line (sym e) in
    subst (λ (l : CallLine). l.client < clients) made.4 (declared_below clients client made.0 made.2)

-- a line is read without looking at those before it, and then it has room or not
line_is : (said : Session) (words : List (List ℕ)) → line_read said words ≡ (call_line_read said.clients (fonts_of said.assets) (length (images_of said.assets)) words >>= with_room said.calls)
unfolding line_read
line_is said [] = refl
line_is said (client ∷ []) = refl
line_is said (client ∷ kind ∷ words) = refl

-- by the numbers that tell of the session
behind_is : (clients : ℕ) (fonts : List FontView) (images : ℕ) (counts : List ℕ) (said : Session) (words : List (List ℕ)) → IsBehind clients fonts images counts said → line_read said words ≡ (call_line_read clients fonts images words >>= with_room said.calls)
behind_is clients fonts images counts said words h = line_is said words ∙ (λ i. call_line_read (h.same_clients i) (h.same_fonts i) (h.same_images i) words >>= with_room said.calls)

pub bad_line : (clients : ℕ) (fonts : List FontView) (images : ℕ) (counts : List ℕ) (words : List (List ℕ)) (cause : Cause) → Err cause ≡ call_line_read clients fonts images words → NextCall clients fonts images counts counts (Err cause) words
bad_line clients fonts images counts words cause is said h = (behind_is clients fonts images counts said words h ∙ ap (λ (r : Result CallLine Cause). r >>= with_room said.calls) (sym is), refl)

room_by : (b : Bool) (line : CallLine) → b ≡ true → (let r : Result CallLine Cause = cond b (Ok line) (Err Many) in r) ≡ Ok line
room_by b line h = rw h refl

full_by : (b : Bool) (line : CallLine) → b ≡ false → (let r : Result CallLine Cause = cond b (Ok line) (Err Many) in r) ≡ Err Many
full_by b line h = rw h refl

read_line : (clients : ℕ) (fonts : List FontView) (images : ℕ) (counts : List ℕ) (words : List (List ℕ)) (line : CallLine) (said : Session) → Ok line ≡ call_line_read clients fonts images words → IsBehind clients fonts images counts said → line_read said words ≡ with_room said.calls line
read_line clients fonts images counts words line said is h = behind_is clients fonts images counts said words h ∙ ap (λ (r : Result CallLine Cause). r >>= with_room said.calls) (sym is)

pub full_line : (clients : ℕ) (fonts : List FontView) (images : ℕ) (old new : List ℕ) (words : List (List ℕ)) (line : CallLine) → Ok line ≡ call_line_read clients fonts images words → line.client < 16 → nat_lt (slice_index old line.client) 65536 ≡ false → new ≡ old → NextCall clients fonts images old new (Err Many) words
full_line clients fonts images old new words line is small full same said h =
    (read_line clients fonts images old words line said is h ∙ full_by (nat_lt (length (lines_by line.client said.calls)) 65536) line (ap (λ n. nat_lt n 65536) (sym (h.counted line.client small)) ∙ full), same)

-- ---- one more is counted

one_more : (mine : Bool) (line : CallLine) (n : ℕ) → n + length (cond mine (line ∷ []) []) ≡ cond mine (n + 1) n
one_more true line n = refl
one_more false line n = omega arith

more_by : (client : ℕ) (calls : List CallLine) (line : CallLine) → length (lines_by client (calls ++ line ∷ [])) ≡ cond (line.client == client) (length (lines_by client calls) + 1) (length (lines_by client calls))
more_by client calls line =
    ap length (filter-append (is_by client) calls (line ∷ []))
    ∙ length-append (lines_by client calls) (lines_by client (line ∷ []))
    ∙ one_more (is_by client line) line (length (lines_by client calls))

set_by : (mine : Bool) (xs : List ℕ) (i v j : ℕ) → (i == j) ≡ mine → i < length xs → slice_index (slice_set xs i v) j ≡ cond mine v (slice_index xs j)
set_by true xs i v j e h = get_or-set_at xs i j v 0 (sym (eqb-true i j e)) h
set_by false xs i v j e h = get_or-set_other xs i j v 0 (λ same. let test : (i == j) ≡ true = grind (arith, nat_tests) in cc)

counted_by : (mine : Bool) (n m k : ℕ) → (mine ≡ true → n ≡ k) → m ≡ k → cond mine (n + 1) m ≡ cond mine (k + 1) k
counted_by true n m k same h = ap (λ x. x + 1) (same refl)
counted_by false n m k same h = h

pub counted_more : (counts : List ℕ) (calls : List CallLine) (line : CallLine) → line.client < length counts → line.client < 16 → IsCounted counts calls → IsCounted (slice_set counts line.client (slice_index counts line.client + 1)) (calls ++ line ∷ [])
counted_more counts calls line inside small h client below =
    set_by (line.client == client) counts line.client (slice_index counts line.client + 1) client refl inside
    ∙ counted_by (line.client == client) (slice_index counts line.client) (slice_index counts client) (length (lines_by client calls)) (λ mine. ap (slice_index counts) (eqb-true line.client client mine) ∙ h client below) (h client below)
    ∙ sym (more_by client calls line)

pub next_line : (clients : ℕ) (fonts : List FontView) (images : ℕ) (old new : List ℕ) (words : List (List ℕ)) (line : CallLine) → Ok line ≡ call_line_read clients fonts images words → line.client < 16 → length old ≡ 16 → nat_lt (slice_index old line.client) 65536 ≡ true → new ≡ slice_set old line.client (slice_index old line.client + 1) → NextCall clients fonts images old new (Ok line) words
next_line clients fonts images old new words line is small sixteen room same said h =
    (read_line clients fonts images old words line said is h ∙ room_by (nat_lt (length (lines_by line.client said.calls)) 65536) line (ap (λ n. nat_lt n 65536) (sym (h.counted line.client small)) ∙ room), subst (λ (counts : List ℕ). IsCounted counts (said.calls ++ line ∷ [])) (sym same) (counted_more old said.calls line (omega arith) small h.counted))
