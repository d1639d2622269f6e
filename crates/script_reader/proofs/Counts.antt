-- The places of calls tell whose each line is, and whether it paints.
use Rattle.std.proofs.Common.{◌≡◌, ℕ, ◌+◌, zero, suc, List, [], ◌∷◌, length, Bool, true, false, cond, not, refl, ap, ◌∙◌}
use Rattle.std.specs.Prelude.{slice_get}
use Rattle.std.specs.Option.{option_map}
use Rattle.std.specs.List.{filter}
use Rattle.script_grammar.specs.Session.{is_by, is_paint}
use Rattle.script_grammar.specs.Printing.{ended_line, line_words}
use Rattle.script_grammar.specs.declared.lines.CallLine.{CallLine}
use Rattle.script_reader.specs.Places.{places_from, is_place_by}
use Rattle.script_reader.specs.declared.places.LinePlace.{LinePlace}

-- where the next line begins
abbrev pub behind : ℕ → CallLine → ℕ
behind start line = start + length (ended_line (line_words line))

pub length-places : (start : ℕ) (lines : List CallLine) → length (places_from start lines) ≡ length lines
length-places start [] = refl
length-places start (line ∷ lines) = ap suc (length-places (behind start line) lines)

pub client_at : (start j : ℕ) (lines : List CallLine) → option_map (λ (p : LinePlace). p.client) (slice_get (places_from start lines) j) ≡ option_map (λ (l : CallLine). l.client) (slice_get lines j)
client_at start j [] = refl
client_at start zero (line ∷ lines) = refl
client_at start (suc j) (line ∷ lines) = client_at (behind start line) j lines

kept_step : {A B : Type 0} (b : Bool) (x : A) (y : B) (xs : List A) (ys : List B) → length xs ≡ length ys → length (cond b (x ∷ xs) xs) ≡ length (cond b (y ∷ ys) ys)
kept_step true x y xs ys same = ap suc same
kept_step false x y xs ys same = same

-- one line more, by both tests
count_step : {A B : Type 0} (b : Bool) (f : A → Bool) (g : B → Bool) (x : A) (y : B) (xs : List A) (ys : List B) → f x ≡ g y → length (filter f xs) ≡ length (filter g ys) → length (filter f (cond b (x ∷ xs) xs)) ≡ length (filter g (cond b (y ∷ ys) ys))
count_step true f g x y xs ys same more =
    kept_step (f x) x y (filter f xs) (filter g ys) more
    ∙ ap (λ (t : Bool). length (cond t (y ∷ filter g ys) (filter g ys))) same
count_step false f g x y xs ys same more = more

-- how many lines of a client paint
pub paints_counted : (client start : ℕ) (lines : List CallLine) → length (filter (λ (p : LinePlace). p.paints) (filter (is_place_by client) (places_from start lines))) ≡ length (filter (λ (l : CallLine). is_paint l.call) (filter (is_by client) lines))
paints_counted client start [] = refl
paints_counted client start (line ∷ lines) =
    count_step (is_by client line) (λ (p : LinePlace). p.paints) (λ (l : CallLine). is_paint l.call) (record { client = line.client; start = start; paints = is_paint line.call }) line
    (filter (is_place_by client) (places_from (behind start line) lines)) (filter (is_by client) lines) refl (paints_counted client (behind start line) lines)

-- and how many don't
pub steps_counted : (client start : ℕ) (lines : List CallLine) → length (filter (λ (p : LinePlace). not p.paints) (filter (is_place_by client) (places_from start lines))) ≡ length (filter (λ (l : CallLine). not (is_paint l.call)) (filter (is_by client) lines))
steps_counted client start [] = refl
steps_counted client start (line ∷ lines) =
    count_step (is_by client line) (λ (p : LinePlace). not p.paints) (λ (l : CallLine). not (is_paint l.call)) (record { client = line.client; start = start; paints = is_paint line.call }) line
    (filter (is_place_by client) (places_from (behind start line) lines)) (filter (is_by client) lines) refl (steps_counted client (behind start line) lines)

-- a client has as many starts as lines
pub lines_counted : (client start : ℕ) (lines : List CallLine) → length (filter (is_place_by client) (places_from start lines)) ≡ length (filter (is_by client) lines)
lines_counted client start [] = refl
lines_counted client start (line ∷ lines) =
    kept_step (is_by client line) (record { client = line.client; start = start; paints = is_paint line.call }) line
    (filter (is_place_by client) (places_from (behind start line) lines)) (filter (is_by client) lines) (lines_counted client (behind start line) lines)
