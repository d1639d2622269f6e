-- What bytes read as is printed as them, and within the limits.
use Rattle.std.proofs.Common.{◌≡◌, ℕ, ◌+◌, ◌*◌, ◌<◌, ◌≤◌, zero, suc, List, [], ◌∷◌, ◌++◌, length, map, Bool, true, false, cond, Result, Ok, Err, refl, ap, sym, ◌∙◌, subst, arith, append-nil, append_assoc, ◌⊎◌, inl, inr}
use Rattle.std.specs.Prelude.{◌==◌, ⊤}
use lib.Chars.{codes}
use Rattle.std.specs.List.{list_any, flat_map, join_with_byte, slice_split}
use Rattle.std.specs.Str.{bytes_eq}
use Rattle.std.specs.Fmt.{decimal}
use Rattle.std.proofs.lemmas.Bool.Decides.{nat_tests}
use Rattle.std.proofs.lemmas.Slice.Eq.{bytes_eq-Decides}
use Rattle.std.proofs.lemmas.List.Splits.{join_with_byte-slice_split, length-slice_split}
use Rattle.qws_base.specs.Sides.{Sides, IsScreen}
use Rattle.qws_base.specs.declared.colours.Depth.{Depth}
use Rattle.qws_base.specs.declared.colours.Depth.TheVariants.{Full, Narrow}
use Rattle.script_grammar.specs.Judging.{◌>>=◌, ◌or_else◌}
use Rattle.script_grammar.specs.Spelling.{words_of}
use Rattle.script_grammar.specs.Limits.{IsColour, IsAsset, IsCallLine, EachBehind, IsSession}
use Rattle.script_grammar.specs.Printing.{colour, depth_lines, screen_line, clients_line, end_line, head_lines, asset_words, line_words, script_lines, ended_line, script_text}
use Rattle.script_grammar.specs.Lines.{depth_read, screen_read, clients_read, asset_read, line_read}
use Rattle.script_grammar.specs.Session.{Session, Asset}
use Rattle.script_grammar.specs.declared.lines.CallLine.{CallLine}
use Rattle.script_grammar.specs.Reading.{Before, Nothing, Deep, Sized, Within, Finished, sized, begun, and_asset, and_call, asset_in, call_in, end_in, line_in, is_blank, text_in, said_at_end, last_in, at_line, and_then, script_from, text_lines, script_of}
use Rattle.script_grammar.specs.declared.lines.Cause.{Cause}
use Rattle.script_grammar.specs.declared.lines.Cause.TheVariants.{Form, End}
use Rattle.script_grammar.proofs.Binds.{err_is_no_ok, bind_ok, cond_ok}
use Rattle.script_grammar.proofs.Spelling.{ok_same}
use Rattle.script_grammar.proofs.Heads.{depth_printed, screen_printed, clients_printed, or_else_ok, asset_printed, line_printed}

-- ---- what stands before a line, as lines, and within the limits

abbrev pub lines_before : Before → List (List (List ℕ))
lines_before Nothing = []
lines_before (Deep depth) = depth_lines depth
lines_before (Sized depth size c) = depth_lines depth ++ (codes "screen" ∷ decimal size.w ∷ decimal size.h ∷ colour c ∷ []) ∷ []
lines_before (Within said) = head_lines said ++ map asset_words said.assets ++ map line_words said.calls
lines_before (Finished said) = script_lines said

abbrev pub Reached : Before → Type 0
Reached Nothing = ⊤
Reached (Deep depth) = ⊤
Reached (Sized depth size c) = IsScreen size × IsColour c
Reached (Within said) = IsSession said
Reached (Finished said) = IsSession said

-- ---- one more behind others

pub behind_push : {A : Type 0} (Allowed : List A → A → Type 0) (before xs : List A) (x : A) → EachBehind Allowed before xs → Allowed (before ++ xs) x → EachBehind Allowed before (xs ++ x ∷ [])
behind_push {A} Allowed before [] x each last = (subst (λ (ys : List A). Allowed ys x) (append-nil before) last, tt)
behind_push {A} Allowed before (y ∷ xs) x each last = (each.0, behind_push Allowed (before ++ y ∷ []) xs x each.1 (subst (λ (ys : List A). Allowed ys x) (sym (append_assoc before (y ∷ []) xs)) last))

map_append : {A B : Type 0} (f : A → B) (xs : List A) (x : A) → map f (xs ++ x ∷ []) ≡ map f xs ++ f x ∷ []
map_append f [] x = refl
map_append f (y ∷ xs) x = ap (λ ys. f y ∷ ys) (map_append f xs x)

-- ---- a line

no_calls_is : (calls : List CallLine) → (length calls == 0) ≡ true → calls ≡ []
no_calls_is [] e = refl
no_calls_is (line ∷ calls) e = absurd (grind (arith, nat_tests))

-- a line was read behind others
pub record Step (before : Before) (ws : List (List ℕ)) (after : Before) : Type 0 where
  pub lines : lines_before after ≡ lines_before before ++ ws ∷ []
  pub reached : Reached after

end_step : (said : Session) (ws : List (List ℕ)) (after : Before) → IsSession said → end_in said ws ≡ Ok after → Step (Within said) ws after
end_step said [] after reached e = err_is_no_ok Form after e
end_step said (word ∷ more ∷ ws) after reached e = err_is_no_ok Form after e
end_step said (word ∷ []) after reached e =
    let found = cond_ok (bytes_eq word (codes "end")) (Ok (Finished said)) Form after e in
    let is : word ≡ codes "end" = (bytes_eq-Decides word (codes "end")).0 found.0 in
    subst (Step (Within said) (word ∷ [])) (ok_same (Finished said) after found.1) (record { lines = λ i. lines_before (Within said) ++ (sym is i ∷ []) ∷ []; reached = reached })

asset_lines : (head : List (List (List ℕ))) (assets : List Asset) (asset : Asset) (calls : List CallLine) → calls ≡ [] → head ++ map asset_words (assets ++ asset ∷ []) ++ map line_words calls ≡ (head ++ map asset_words assets ++ map line_words calls) ++ asset_words asset ∷ []
asset_lines head assets asset calls none =
    (λ i. (head ++ map_append asset_words assets asset i) ++ map line_words (none i))
    ∙ append-nil (head ++ (map asset_words assets ++ asset_words asset ∷ []))
    ∙ sym (append_assoc head (map asset_words assets) (asset_words asset ∷ []))
    ∙ ap (λ front. front ++ asset_words asset ∷ []) (sym (append-nil (head ++ map asset_words assets)))
    ∙ (λ i. ((head ++ map asset_words assets) ++ map line_words (sym none i)) ++ asset_words asset ∷ [])

asset_step : (said : Session) (ws : List (List ℕ)) (after : Before) → IsSession said → asset_in said ws ≡ Ok after → Step (Within said) ws after
asset_step said ws after reached e =
    let found = cond_ok (length said.calls == 0) (asset_read said.assets ws >>= λ asset. Ok (and_asset said asset)) Form after e in
    let none = no_calls_is said.calls found.0 in
    let read = bind_ok (asset_read said.assets ws) (λ asset. Ok (and_asset said asset)) after found.1 in
    let asset = asset_printed said.assets ws read.0 read.1 in
    let next : Session = record said { assets = said.assets ++ read.0 ∷ [] } in
    let inside : IsSession next = record {
      screen = reached.screen;
      backdrop = reached.backdrop;
      clients = reached.clients;
      assets = behind_push IsAsset [] said.assets read.0 reached.assets asset.1;
      calls = subst (λ (calls : List CallLine). EachBehind (IsCallLine said.clients (said.assets ++ read.0 ∷ [])) [] calls) (sym none) tt;
    } in
    subst (Step (Within said) ws) (ok_same (and_asset said read.0) after read.2) (record {
      lines = asset_lines (head_lines said) said.assets read.0 said.calls none ∙ ap (λ line. lines_before (Within said) ++ line ∷ []) (sym asset.0);
      reached = inside;
    })

call_lines : (head : List (List (List ℕ))) (assets : List Asset) (calls : List CallLine) (line : CallLine) → head ++ map asset_words assets ++ map line_words (calls ++ line ∷ []) ≡ (head ++ map asset_words assets ++ map line_words calls) ++ line_words line ∷ []
call_lines head assets calls line =
    ap (λ rest. (head ++ map asset_words assets) ++ rest) (map_append line_words calls line)
    ∙ sym (append_assoc (head ++ map asset_words assets) (map line_words calls) (line_words line ∷ []))

call_step : (said : Session) (ws : List (List ℕ)) (after : Before) → IsSession said → call_in said ws ≡ Ok after → Step (Within said) ws after
call_step said ws after reached e =
    let read = bind_ok (line_read said ws) (λ line. Ok (and_call said line)) after e in
    let line = line_printed said ws read.0 read.1 in
    let next : Session = record said { calls = said.calls ++ read.0 ∷ [] } in
    let inside : IsSession next = record {
      screen = reached.screen;
      backdrop = reached.backdrop;
      clients = reached.clients;
      assets = reached.assets;
      calls = behind_push (IsCallLine said.clients said.assets) [] said.calls read.0 reached.calls line.1;
    } in
    subst (Step (Within said) ws) (ok_same (and_call said read.0) after read.2) (record {
      lines = call_lines (head_lines said) said.assets said.calls read.0 ∙ ap (λ words. lines_before (Within said) ++ words ∷ []) (sym line.0);
      reached = inside;
    })

screen_step : (depth : Depth) (before : List (List (List ℕ))) (ws : List (List ℕ)) (after : Before) → (screen_read ws >>= λ screen. Ok (sized depth screen)) ≡ Ok after → (lines_before after ≡ depth_lines depth ++ ws ∷ []) × Reached after
screen_step depth before ws after e =
    let read = bind_ok (screen_read ws) (λ screen. Ok (sized depth screen)) after e in
    let screen = screen_printed ws read.0 read.1 in
    subst (λ (a : Before). (lines_before a ≡ depth_lines depth ++ ws ∷ []) × Reached a) (ok_same (sized depth read.0) after read.2) (ap (λ line. depth_lines depth ++ line ∷ []) (sym screen.0), (screen.1, screen.2))

clients_step : (depth : Depth) (size : Sides) (c : ℕ) (ws : List (List ℕ)) (after : Before) → (IsScreen size × IsColour c) → (clients_read ws >>= λ clients. Ok (begun depth size c clients)) ≡ Ok after → Step (Sized depth size c) ws after
clients_step depth size c ws after reached e =
    let read = bind_ok (clients_read ws) (λ clients. Ok (begun depth size c clients)) after e in
    let clients = clients_printed ws read.0 read.1 in
    let said : Session = record { depth = depth; size = size; backdrop = c; clients = read.0; assets = []; calls = [] } in
    let inside : IsSession said = record { screen = reached.0; backdrop = reached.1; clients = clients.1; assets = tt; calls = tt } in
    let lines : lines_before (Within said) ≡ lines_before (Sized depth size c) ++ ws ∷ [] =
    append-nil (head_lines said ++ []) ∙ append-nil (head_lines said) ∙ sym (append_assoc (depth_lines depth) (screen_line said ∷ []) (clients_line said ∷ [])) ∙ ap (λ line. lines_before (Sized depth size c) ++ line ∷ []) (sym clients.0) in
    subst (Step (Sized depth size c) ws) (ok_same (begun depth size c read.0) after read.2) (record { lines = lines; reached = inside })

line_step : (before : Before) (ws : List (List ℕ)) (after : Before) → Reached before → line_in before ws ≡ Ok after → Step before ws after
unfolding line_in
line_step Nothing ws after reached e =
    elim (or_else_ok (depth_read ws >>= λ depth. Ok (Deep depth)) (screen_read ws >>= λ screen. Ok (sized Full screen)) after e) [
      | inl is ↦ (
          let read = bind_ok (depth_read ws) (λ depth. Ok (Deep depth)) after is in
          let depth = depth_printed ws read.0 read.1 in
          subst (Step Nothing ws) (ap Deep (sym depth.0) ∙ ok_same (Deep read.0) after read.2) (record { lines = ap (λ line. line ∷ []) (sym depth.1); reached = tt }))
      | inr is ↦ (let screen = screen_step Full [] ws after is in record { lines = screen.0; reached = screen.1 })
    ]
line_step (Deep depth) ws after reached e = let screen = screen_step depth (depth_lines depth) ws after e in record { lines = screen.0; reached = screen.1 }
line_step (Sized depth size c) ws after reached e = clients_step depth size c ws after reached e
line_step (Within said) ws after reached e =
    elim (or_else_ok (end_in said ws) (asset_in said ws or_else call_in said ws) after e) [
      | inl is ↦ end_step said ws after reached is
      | inr more ↦ elim (or_else_ok (asset_in said ws) (call_in said ws) after more) [
        | inl is ↦ asset_step said ws after reached is
        | inr is ↦ call_step said ws after reached is
      ]
    ]
line_step (Finished said) ws after reached e = err_is_no_ok End after e

-- ---- a line by its text

cond_else_ok : {A : Type 0} (b : Bool) (c : Cause) (r : Result A Cause) (x : A) → cond b (Err c) r ≡ Ok x → r ≡ Ok x
cond_else_ok true c r x e = err_is_no_ok c x e
cond_else_ok false c r x e = e

pub text_step : (before : Before) (text : List ℕ) (after : Before) → Reached before → text_in before text ≡ Ok after → Step before (words_of text) after
unfolding text_in
text_step Nothing text after reached e = line_step Nothing (words_of text) after reached (cond_else_ok (list_any is_blank (words_of text)) Form _ after e)
text_step (Deep depth) text after reached e = line_step (Deep depth) (words_of text) after reached (cond_else_ok (list_any is_blank (words_of text)) Form _ after e)
text_step (Sized depth size c) text after reached e = line_step (Sized depth size c) (words_of text) after reached (cond_else_ok (list_any is_blank (words_of text)) Form _ after e)
text_step (Within said) text after reached e = line_step (Within said) (words_of text) after reached (cond_else_ok (list_any is_blank (words_of text)) Form _ after e)
text_step (Finished said) text after reached e = err_is_no_ok End after e

-- ---- all lines

pub bad_is_no_ok : {A B : Type 0} (bad : ℕ × Cause) (x : A) → ◌≡◌ {A = Result A (ℕ × Cause)} (Err bad) (Ok x) → B
bad_is_no_ok bad x e = absurd (let h : ⊥ = cc in h)

pub at_line_ok : {A : Type 0} (n : ℕ) (r : Result A Cause) (x : A) → at_line n r ≡ Ok x → r ≡ Ok x
at_line_ok n (Ok y) x e = cc
at_line_ok n (Err c) x e = bad_is_no_ok (n, c) x e

pub and_then_ok : (n : ℕ) (r : Result Before Cause) (next : Before → Result Session (ℕ × Cause)) (said : Session) → and_then (at_line n r) next ≡ Ok said → (after : Before) × (r ≡ Ok after) × (next after ≡ Ok said)
and_then_ok n (Ok after) next said e = (after, refl, e)
and_then_ok n (Err c) next said e = bad_is_no_ok (n, c) said e

abbrev pub line_of_words : List (List ℕ) → List ℕ
line_of_words words = join_with_byte 32 words

-- the lines that are left are those that the session is printed as behind the ones before
record Left (before : Before) (parts : List (List ℕ)) (said : Session) : Type 0 where
  rest : List (List (List ℕ))
  texts : parts ≡ map line_of_words rest ++ [] ∷ []
  lines : lines_before before ++ rest ≡ script_lines said
  limits : IsSession said

ended_left : (before : Before) (said : Session) → Reached before → said_at_end before ≡ Ok said → Left before ([] ∷ []) said
ended_left Nothing said reached e = err_is_no_ok End said e
ended_left (Deep depth) said reached e = err_is_no_ok End said e
ended_left (Sized depth size c) said reached e = err_is_no_ok End said e
ended_left (Within sofar) said reached e = err_is_no_ok End said e
ended_left (Finished all) said reached e =
    let same : all ≡ said = ok_same all said e in
    record { rest = []; texts = refl; lines = append-nil (script_lines all) ∙ ap script_lines same; limits = subst IsSession same reached }

last_left : (before : Before) (text : List ℕ) (said : Session) → Reached before → last_in before text ≡ Ok said → Left before (text ∷ []) said
last_left before [] said reached e = ended_left before said reached e
last_left before (c ∷ text) said reached e = let read = bind_ok (text_in before (c ∷ text)) (λ after. Err End) said e in err_is_no_ok End said read.2

left : (n : ℕ) (before : Before) (parts : List (List ℕ)) (said : Session) → Reached before → script_from n before parts ≡ Ok said → Left before parts said
unfolding script_from
left n before [] said reached e = bad_is_no_ok (n, End) said e
left n before (text ∷ []) said reached e = last_left before text said reached (at_line_ok n (last_in before text) said e)
left n before (text ∷ next ∷ parts) said reached e =
    let read = and_then_ok n (text_in before text) (λ after. script_from (n + 1) after (next ∷ parts)) said e in
    let step = text_step before text read.0 reached read.1 in
    let more = left (n + 1) read.0 (next ∷ parts) said step.reached read.2 in
    record {
      rest = words_of text ∷ more.rest;
      texts = λ i. sym (join_with_byte-slice_split 32 text) i ∷ more.texts i;
      lines = sym (append_assoc (lines_before before) (words_of text ∷ []) more.rest) ∙ ap (λ front. front ++ more.rest) (sym step.lines) ∙ more.lines;
      limits = more.limits;
    }

-- lines that are joined, and a last one that is empty
joined_lines : (lines : List (List (List ℕ))) → join_with_byte 10 (map line_of_words lines ++ [] ∷ []) ≡ flat_map ended_line lines
joined_lines [] = refl
joined_lines (words ∷ []) = sym (append-nil (ended_line words))
joined_lines (words ∷ more ∷ lines) = ap (λ rest. line_of_words words ++ 10 ∷ rest) (joined_lines (more ∷ lines)) ∙ sym (append_assoc (line_of_words words) (10 ∷ []) (flat_map ended_line (more ∷ lines)))

pub read_is_printed : (bytes : List ℕ) (said : Session) → script_of bytes ≡ Ok said → (bytes ≡ script_text said) × IsSession said
unfolding script_of script_text
read_is_printed bytes said e =
    let all = left 1 Nothing (text_lines bytes) said tt e in
    (sym (join_with_byte-slice_split 10 bytes) ∙ ap (join_with_byte 10) all.texts ∙ joined_lines all.rest ∙ ap (flat_map ended_line) all.lines, all.limits)
