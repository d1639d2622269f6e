-- What is known of the bytes of a script and of the places of its calls.
use Rattle.std.proofs.Common.{◌≡◌, ℕ, ◌<◌, zero, suc, List, [], ◌∷◌, ◌++◌, length, get_or, Bool, true, false, cond, Option, None, Some, refl, ap, sym, ◌∙◌, subst, arith}
use Rattle.std.specs.Prelude.{◌==◌, slice_get}
use Rattle.std.specs.Option.{option_map}
use Rattle.std.specs.List.{filter, join_with_byte}
use Rattle.std.proofs.lemmas.Bool.{eqb-true}
use Rattle.std.proofs.lemmas.List.{length-map}
use Rattle.std.proofs.lemmas.List.Splits.{slice_split_at, length-slice_split}
use Rattle.std.proofs.lemmas.List.FromFn.{length-map-range_with_len, get_or-map-range_with_len}
use Rattle.glyph_masks.specs.Glyphs.{FontView}
use Rattle.gfx_fills.specs.Images.{ImageView}
use Rattle.script_grammar.specs.Session.{Session, Asset, is_by, lines_by, call_line}
use Rattle.script_grammar.specs.Limits.{IsSession, IsCallLine, EachBehind}
use Rattle.script_grammar.specs.Printing.{line_words, script_text}
use Rattle.script_grammar.specs.Reading.{text_lines}
use Rattle.script_grammar.specs.Spelling.{words_of}
use Rattle.script_grammar.specs.declared.lines.CallLine.{CallLine}
use Rattle.script_grammar.proofs.Sound.{read_is_printed}
use Rattle.script_grammar.proofs.Plain.{Plain, is_line_byte, no_feed, none_of, line_bytes, cut_words}
use Rattle.script_reader.specs.Places.{calls_start, call_places, is_place_by, starts_by, starts_of}
use Rattle.session_script.specs.Stored.{said_by, IsFoundIn}
use Rattle.script_reader.specs.declared.places.LinePlace.{LinePlace}
use Rattle.script_reader.specs.declared.heads.Head.{Head}
use Rattle.script_reader.proofs.Counts.{lines_counted}
use Rattle.script_reader.proofs.Begins.{IsLineAt, said_line}

module _ {bytes : List ℕ} {head : Head} {fonts : List FontView} {images : List ImageView} {places : List LinePlace} (kept : IsFoundIn bytes head fonts images places) where
  pub limits : IsSession (said_by bytes)
  limits = (read_is_printed bytes (said_by bytes) kept.script).1

  pub printed : bytes ≡ script_text (said_by bytes)
  printed = (read_is_printed bytes (said_by bytes) kept.script).0

-- ---- clients

some_step : (n client : ℕ) (b : Bool) (line : CallLine) (lines : List CallLine) → (b ≡ true → line.client ≡ client) → line.client < n → 0 < length (cond b (line ∷ lines) lines) → (0 < length lines → client < n) → client < n
some_step n client true line lines by below some later = let same = by refl in omega arith
some_step n client false line lines by below some later = later some

-- whoever has a line is one of the clients
pub client_below : (n client : ℕ) (assets : List Asset) (before lines : List CallLine) → EachBehind (IsCallLine n assets) before lines → 0 < length (filter (is_by client) lines) → client < n
client_below n client assets before [] each some = absurd (omega arith)
client_below n client assets before (line ∷ lines) each some =
    some_step n client (is_by client line) line (filter (is_by client) lines) (eqb-true line.client client) each.0.client some (client_below n client assets (before ++ line ∷ []) lines each.1)

some_same : (x y : ℕ) → ◌≡◌ {A = Option ℕ} (Some x) (Some y) → x ≡ y
some_same x y e = cc

none_some : {A : Type 0} (y : ℕ) → ◌≡◌ {A = Option ℕ} None (Some y) → A
none_some y e = absurd (let h : ⊥ = cc in h)

-- so is the client of a line
pub below_at : (n c j : ℕ) (assets : List Asset) (before lines : List CallLine) → EachBehind (IsCallLine n assets) before lines → option_map (λ (l : CallLine). l.client) (slice_get lines j) ≡ Some c → c < n
below_at n c j assets before [] each is = none_some c is
below_at n c zero assets before (line ∷ lines) each is = subst (λ (x : ℕ). x < n) (some_same line.client c is) each.0.client
below_at n c (suc j) assets before (line ∷ lines) each is = below_at n c j assets (before ++ line ∷ []) lines each.1 is

-- ---- starts

-- those of a client that there is
pub starts_at : (n client : ℕ) (places : List LinePlace) (starts : List (List ℕ)) (d : List ℕ) → starts ≡ starts_of n places → client < n → get_or starts client d ≡ starts_by places client
starts_at n client places starts d is below = ap (λ (all : List (List ℕ)). get_or all client d) is ∙ get_or-map-range_with_len (starts_by places) 0 n client client d below (omega arith)

pub length-starts : (n : ℕ) (places : List LinePlace) (starts : List (List ℕ)) → starts ≡ starts_of n places → length starts ≡ n
length-starts n places starts is = ap length is ∙ length-map-range_with_len (starts_by places) 0 n

pub length-starts_by : (said : Session) (client : ℕ) → length (starts_by (call_places said) client) ≡ length (lines_by client said.calls)
length-starts_by said client = length-map (filter (is_place_by client) (call_places said)) (λ (p : LinePlace). p.start) ∙ lines_counted client (calls_start said) said.calls

-- ---- the words of a line

first_of : (xs ys : List (List ℕ)) (x y : List ℕ) → x ∷ xs ≡ y ∷ ys → x ≡ y
first_of xs ys x y e = cc

-- bytes that begin with a line are cut behind it
pub cut_behind : (rest more : List ℕ) (line : CallLine) → rest ≡ join_with_byte 32 (line_words line) ++ 10 ∷ more → Plain (line_words line) → text_lines rest ≡ join_with_byte 32 (line_words line) ∷ text_lines more
cut_behind rest more line is plain =
    ap text_lines is ∙ slice_split_at (λ c. c == 10) (join_with_byte 32 (line_words line)) 10 more (none_of is_line_byte (λ c. c == 10) no_feed (join_with_byte 32 (line_words line)) (line_bytes (line_words line) plain)) refl

pub words_cut : (rest more text after : List ℕ) (line : CallLine) → rest ≡ join_with_byte 32 (line_words line) ++ 10 ∷ more → Plain (line_words line) → text_lines rest ≡ text ∷ text_lines after → words_of text ≡ line_words line
words_cut rest more text after line is plain found =
    ap words_of (first_of (text_lines after) (text_lines more) text (join_with_byte 32 (line_words line)) (sym found ∙ cut_behind rest more line is plain))
    ∙ cut_words _ _ plain

pub not_whole : {A : Type 0} (rest more : List ℕ) (line : CallLine) → rest ≡ join_with_byte 32 (line_words line) ++ 10 ∷ more → Plain (line_words line) → text_lines rest ≡ rest ∷ [] → A
not_whole rest more line is plain none =
    let two = cut_behind rest more line is plain in
    absurd (omega (arith, ap length none, ap length two, length-slice_split (λ c. c == 10) more))

-- ---- a client's line k

pub record LineHere (said : Session) (client k : ℕ) (bytes : List ℕ) (start : ℕ) : Type 0 where
  pub line : CallLine
  pub is : call_line said client k ≡ Some line
  pub at : IsLineAt bytes line start

pub line_here : {bytes : List ℕ} {head : Head} {fonts : List FontView} {images : List ImageView} {places : List LinePlace} (kept : IsFoundIn bytes head fonts images places) (client k start : ℕ)
    → k < length (lines_by client (said_by bytes).calls) → start ≡ get_or (starts_by places client) k 0 → LineHere (said_by bytes) client k bytes start
line_here {bytes} {head} {fonts} {images} {places} kept client k start small is =
    let said = said_by bytes in
    let found = said_line said client k (limits kept) small in
    let place : start ≡ get_or (starts_by (call_places said) client) k 0 = is ∙ ap (λ (p : List LinePlace). get_or (starts_by p client) k 0) kept.places in
    record {
      line = found.0;
      is = found.1;
      at = subst (λ (b : List ℕ). IsLineAt b found.0 start) (sym (printed kept)) (subst (λ (n : ℕ). IsLineAt (script_text said) found.0 n) (sym place) found.2);
    }

-- one of the clients has that many starts
pub record StartsHere (of_client k : ℕ) (bytes : List ℕ) (places : List LinePlace) (all : List (List ℕ)) : Type 0 where
  pub below : of_client < length all
  pub starts : (d : List ℕ) → get_or all of_client d ≡ starts_by places of_client
  pub line : k < length (starts_by places of_client)
  pub few : k < length (lines_by of_client (said_by bytes).calls)

pub starts_here : {bytes : List ℕ} {head : Head} {fonts : List FontView} {images : List ImageView} {places : List LinePlace} (kept : IsFoundIn bytes head fonts images places) (starts : List (List ℕ)) (client k : ℕ) (now : Session)
    → starts ≡ starts_of head.clients places → said_by bytes ≡ now → k < length (lines_by client now.calls) → StartsHere client k bytes places starts
starts_here {bytes} {head} {fonts} {images} {places} kept starts client k now are is small =
    let said = said_by bytes in
    let few : k < length (lines_by client said.calls) = omega (arith, ap (λ (v : Session). length (lines_by client v.calls)) is) in
    let below : client < said.clients = client_below said.clients client said.assets [] said.calls (limits kept).calls (omega arith) in
    let same : head.clients ≡ said.clients = ap (λ (h : Head). h.clients) kept.head in
    let count = length-starts head.clients places starts are in
    let lines : length (starts_by places client) ≡ length (lines_by client said.calls) = ap (λ (p : List LinePlace). length (starts_by p client)) kept.places ∙ length-starts_by said client in
    record {
      below = omega arith;
      starts = λ d. starts_at head.clients client places starts d are (omega arith);
      line = omega arith;
      few = few;
    }
