-- A line behind the head, by its words.
use Rattle.std.proofs.Common.{◌≡◌, ℕ, ◌+◌, ◌<◌, List, [], ◌∷◌, ◌++◌, length, map, Bool, true, false, cond, Result, Ok, Err, refl, ap, sym, ◌∙◌, arith, length-append}
use Rattle.std.specs.Prelude.{◌==◌}
use Rattle.std.specs.List.{flat_map}
use Rattle.std.proofs.lemmas.Grind.{flat_map-append}
use Rattle.std.proofs.lemmas.Bool.Decides.{nat_tests}
use Rattle.script_grammar.specs.Judging.{◌>>=◌, ◌or_else◌}
use Rattle.script_grammar.specs.Session.{Session, Asset, is_paint}
use Rattle.script_grammar.specs.Printing.{head_lines, asset_words, line_words, ended_line}
use Rattle.script_grammar.specs.Lines.{asset_read, line_read}
use Rattle.script_grammar.specs.Reading.{Before, Within, Finished, and_asset, and_call, end_in, asset_in, call_in, line_in}
use Rattle.script_grammar.specs.declared.lines.Cause.{Cause}
use Rattle.script_grammar.specs.declared.lines.Cause.TheVariants.{Form, Number, Range, Unknown, Repeated, Missing, Many, End}
use Rattle.script_grammar.specs.declared.lines.CallLine.{CallLine}
use Rattle.script_reader.specs.Places.{places_from, calls_start, call_places}
use Rattle.script_reader.specs.declared.places.LinePlace.{LinePlace}
use Rattle.script_reader.specs.Bodies.{is_end_line}
use Rattle.script_reader.specs.ReadTo.{lines_so_far}

-- ---- `end`

end_is : (said : Session) (ws : List (List ℕ)) → end_in said ws ≡ cond (is_end_line ws) (Ok (Finished said)) (Err Form)
end_is said [] = refl
end_is said (word ∷ []) = refl
end_is said (word ∷ next ∷ ws) = refl

pub reads_end : (said : Session) (ws : List (List ℕ)) → is_end_line ws ≡ true → line_in (Within said) ws ≡ Ok (Finished said)
unfolding line_in
reads_end said ws is = ap (λ (r : Result Before Cause). r or_else asset_in said ws or_else call_in said ws) (end_is said ws ∙ ap (λ (b : Bool). cond b (Ok (Finished said)) (Err Form)) is)

pub reads_on : (said : Session) (ws : List (List ℕ)) → is_end_line ws ≡ false → line_in (Within said) ws ≡ (asset_in said ws or_else call_in said ws)
unfolding line_in
reads_on said ws is = ap (λ (r : Result Before Cause). r or_else asset_in said ws or_else call_in said ws) (end_is said ws ∙ ap (λ (b : Bool). cond b (Ok (Finished said)) (Err Form)) is)

-- ---- fonts and images, before any call

pub asset_with : (said : Session) (ws : List (List ℕ)) → said.calls ≡ [] → asset_in said ws ≡ (asset_read said.assets ws >>= λ asset. Ok (and_asset said asset))
asset_with said ws none = ap (λ (calls : List CallLine). cond (length calls == 0) (asset_read said.assets ws >>= λ asset. Ok (and_asset said asset)) (Err Form)) none

pub reads_asset : (said : Session) (ws : List (List ℕ)) (asset : Asset) → is_end_line ws ≡ false → said.calls ≡ [] → asset_read said.assets ws ≡ Ok asset → line_in (Within said) ws ≡ Ok (and_asset said asset)
reads_asset said ws asset on none read =
    reads_on said ws on ∙ ap (λ (r : Result Before Cause). r or_else call_in said ws) (asset_with said ws none ∙ ap (λ (r : Result Asset Cause). r >>= λ a. Ok (and_asset said a)) read)

pub other_cause : (c : Cause) (r : Result Before Cause) → (c ≡ Form → ⊥) → ((Err c) or_else r) ≡ Err c
other_cause Form r apart = absurd (apart refl)
other_cause Number r apart = refl
other_cause Range r apart = refl
other_cause Unknown r apart = refl
other_cause Repeated r apart = refl
other_cause Missing r apart = refl
other_cause Many r apart = refl
other_cause End r apart = refl

asset_err : (said : Session) (ws : List (List ℕ)) (c : Cause) → is_end_line ws ≡ false → said.calls ≡ [] → asset_read said.assets ws ≡ Err c → line_in (Within said) ws ≡ ((Err c) or_else call_in said ws)
asset_err said ws c on none read =
    reads_on said ws on ∙ ap (λ (r : Result Before Cause). r or_else call_in said ws) (asset_with said ws none ∙ ap (λ (r : Result Asset Cause). r >>= λ a. Ok (and_asset said a)) read)

pub reads_bad_asset : (said : Session) (ws : List (List ℕ)) (c : Cause) → is_end_line ws ≡ false → said.calls ≡ [] → asset_read said.assets ws ≡ Err c → (c ≡ Form → ⊥) → line_in (Within said) ws ≡ Err c
reads_bad_asset said ws c on none read apart = asset_err said ws c on none read ∙ other_cause c (call_in said ws) apart

pub reads_no_asset : (said : Session) (ws : List (List ℕ)) → is_end_line ws ≡ false → said.calls ≡ [] → asset_read said.assets ws ≡ Err Form → line_in (Within said) ws ≡ call_in said ws
reads_no_asset said ws on none read = asset_err said ws Form on none read

-- ---- calls

some_calls : (calls : List CallLine) (x y : Result Before Cause) → 0 < length calls → cond (length calls == 0) x y ≡ y
some_calls calls x y some =
    let any : (length calls == 0) ≡ false = grind (arith, nat_tests) in
    ap (λ (b : Bool). cond b x y) any

pub reads_behind_calls : (said : Session) (ws : List (List ℕ)) → is_end_line ws ≡ false → 0 < length said.calls → line_in (Within said) ws ≡ call_in said ws
reads_behind_calls said ws on some =
    reads_on said ws on ∙ ap (λ (r : Result Before Cause). r or_else call_in said ws) (some_calls said.calls (asset_read said.assets ws >>= λ asset. Ok (and_asset said asset)) (Err Form) some)

pub call_ok : (said : Session) (ws : List (List ℕ)) (line : CallLine) → line_read said ws ≡ Ok line → call_in said ws ≡ Ok (and_call said line)
call_ok said ws line read = ap (λ (r : Result CallLine Cause). r >>= λ l. Ok (and_call said l)) read

pub call_bad : (said : Session) (ws : List (List ℕ)) (c : Cause) → line_read said ws ≡ Err c → call_in said ws ≡ Err c
call_bad said ws c read = ap (λ (r : Result CallLine Cause). r >>= λ l. Ok (and_call said l)) read

-- ---- places

behind_all : (start : ℕ) (lines : List CallLine) (line : CallLine) → places_from start (lines ++ line ∷ []) ≡ places_from start lines ++ record { client = line.client; start = start + length (flat_map ended_line (map line_words lines)); paints = is_paint line.call } ∷ []
behind_all start [] line = ap (λ (n : ℕ). record { client = line.client; start = n; paints = is_paint line.call } ∷ []) (omega arith)
behind_all start (first ∷ lines) line =
    let next = start + length (ended_line (line_words first)) in
    let same : next + length (flat_map ended_line (map line_words lines)) ≡ start + length (flat_map ended_line (map line_words (first ∷ lines))) = omega (arith, length-append (ended_line (line_words first)) (flat_map ended_line (map line_words lines))) in
    ap (λ (rest : List LinePlace). record { client = first.client; start = start; paints = is_paint first.call } ∷ rest)
    (behind_all next lines line ∙ ap (λ (n : ℕ). places_from next lines ++ record { client = line.client; start = n; paints = is_paint line.call } ∷ []) same)

pub place_more : (said : Session) (line : CallLine) (start : ℕ) (paints : Bool) → start ≡ length (flat_map ended_line (lines_so_far said)) → paints ≡ is_paint line.call
    → call_places (record said { calls = said.calls ++ line ∷ [] }) ≡ call_places said ++ record { client = line.client; start = start; paints = paints } ∷ []
place_more said line start paints at is =
    let front = head_lines said ++ map asset_words said.assets in
    let calls = map line_words said.calls in
    let here : calls_start said + length (flat_map ended_line calls) ≡ start =
    sym (length-append (flat_map ended_line front) (flat_map ended_line calls)) ∙ ap length (sym (flat_map-append ended_line front calls)) ∙ sym at in
    behind_all (calls_start said) said.calls line
    ∙ ap (λ (n : ℕ). call_places said ++ record { client = line.client; start = n; paints = is_paint line.call } ∷ []) here
    ∙ ap (λ (b : Bool). call_places said ++ record { client = line.client; start = start; paints = b } ∷ []) (sym is)

no_calls : (start : ℕ) (calls : List CallLine) → length (places_from start calls) ≡ 0 → calls ≡ []
no_calls start [] none = refl
no_calls start (line ∷ calls) none = absurd (omega arith)

pub none_yet : (said : Session) → length (call_places said) ≡ 0 → said.calls ≡ []
none_yet said none = no_calls (calls_start said) said.calls none
