-- The line of a client's call k reads back as that line.
use Rattle.std.proofs.Common.{◌≡◌, ℕ, zero, suc, List, [], ◌∷◌, ◌++◌, length, Bool, true, false, cond, Option, None, Some, Result, Ok, Err, refl, ap, sym, ◌∙◌, subst}
use Rattle.std.specs.Prelude.{slice_get, OnOk}
use Rattle.std.specs.Option.{option_map}
use Rattle.std.specs.List.{filter}
use Rattle.glyph_masks.specs.Glyphs.{FontView}
use Rattle.script_grammar.specs.Session.{Session, Asset, is_by, call_line, fonts_of, images_of}
use Rattle.script_grammar.specs.Limits.{IsSession, IsCallLine, EachBehind, IsCall}
use Rattle.script_grammar.specs.Printing.{line_words}
use Rattle.script_grammar.specs.Spelling.{words_of}
use Rattle.script_grammar.specs.Lines.{line_read, with_room}
use Rattle.script_grammar.specs.declared.lines.Cause.{Cause}
use Rattle.script_grammar.specs.declared.lines.CallLine.{CallLine}
use Rattle.script_grammar.proofs.Binds.{bind_ok}
use Rattle.script_grammar.proofs.Heads.{line_reads}
use Rattle.script_lines.specs.Kinds.{call_line_read}

-- some line that is allowed behind others
record IsAllowed (n : ℕ) (assets : List Asset) (line : CallLine) : Type 0 where
  before : List CallLine
  allowed : IsCallLine n assets before line

none_some : {A B : Type 0} (y : A) → ◌≡◌ {A = Option A} None (Some y) → B
none_some y e = absurd (let h : ⊥ = cc in h)

some_same : {A : Type 0} (x y : A) → ◌≡◌ {A = Option A} (Some x) (Some y) → x ≡ y
some_same x y e = cc

allowed_step : (b : Bool) (n : ℕ) (assets : List Asset) (before kept : List CallLine) (first line : CallLine) (k : ℕ) → IsCallLine n assets before first
    → ((i : ℕ) → slice_get kept i ≡ Some line → IsAllowed n assets line)
    → slice_get (cond b (first ∷ kept) kept) k ≡ Some line → IsAllowed n assets line
allowed_step true n assets before kept first line zero here later is = record { before = before; allowed = subst (IsCallLine n assets before) (some_same first line is) here }
allowed_step true n assets before kept first line (suc k) here later is = later k is
allowed_step false n assets before kept first line k here later is = later k is

line_allowed : (n client : ℕ) (assets : List Asset) (before lines : List CallLine) (line : CallLine) (k : ℕ) → EachBehind (IsCallLine n assets) before lines → slice_get (filter (is_by client) lines) k ≡ Some line → IsAllowed n assets line
line_allowed n client assets before [] line k each is = none_some line is
line_allowed n client assets before (first ∷ lines) line k each is =
    allowed_step (is_by client first) n assets before (filter (is_by client) lines) first line k each.0
    (λ i later. line_allowed n client assets (before ++ first ∷ []) lines line i each.1 later) is

room_same : (b : Bool) (x line : CallLine) (c : Cause) → ◌≡◌ {A = Result CallLine Cause} (cond b (Ok x) (Err c)) (Ok line) → x ≡ line
room_same true x line c e = cc
room_same false x line c e = absurd (let h : ⊥ = cc in h)

-- what a client's line k reads as, from its words
pub record ReadsBack (said : Session) (client k : ℕ) (words : List (List ℕ)) : Type 0 where
  pub line : CallLine
  pub is : call_line said client k ≡ Some line
  pub reads : call_line_read said.clients (fonts_of said.assets) (length (images_of said.assets)) words ≡ Ok line
  pub call : IsCall (fonts_of said.assets) (length (images_of said.assets)) line.call

back_of : (said : Session) (client k : ℕ) (words : List (List ℕ)) (found : Option CallLine) → IsSession said → call_line said client k ≡ found → option_map line_words found ≡ Some words → ReadsBack said client k words
unfolding line_read
back_of said client k words None limits is told = none_some words told
back_of said client k words (Some line) limits is told =
    let same : line_words line ≡ words = some_same (line_words line) words told in
    let here = line_allowed said.clients client said.assets [] said.calls line k limits.calls is in
    let with_before : Session = record said { calls = here.before } in
    let read : line_read with_before (line_words line) ≡ Ok line = line_reads with_before line limits.clients here.allowed in
    let parts = bind_ok (call_line_read said.clients (fonts_of said.assets) (length (images_of said.assets)) (line_words line)) (with_room here.before) line read in
    record {
      line = line;
      is = is;
      reads = ap (call_line_read said.clients (fonts_of said.assets) (length (images_of said.assets))) (sym same) ∙ parts.1 ∙ ap Ok (room_same _ parts.0 line _ parts.2);
      call = here.allowed.call;
    }

pub reads_back : (said : Session) (client k : ℕ) (text : List ℕ) → IsSession said → option_map line_words (call_line said client k) ≡ Some (words_of text) → ReadsBack said client k (words_of text)
reads_back said client k text limits told = back_of said client k (words_of text) (call_line said client k) limits refl told

-- ---- the same words, with the same fonts and images

pub read_as : (n m : ℕ) (fs gs : List FontView) (i j : ℕ) (ws vs : List (List ℕ)) → n ≡ m → fs ≡ gs → i ≡ j → ws ≡ vs → call_line_read n fs i ws ≡ call_line_read m gs j vs
read_as n m fs gs i j ws vs clients fonts images words =
    ap (λ (x : ℕ). call_line_read x fs i ws) clients ∙ ap (λ (x : List FontView). call_line_read m x i ws) fonts
    ∙ ap (λ (x : ℕ). call_line_read m gs x ws) images ∙ ap (call_line_read m gs j) words

pub ok_line : (x y : CallLine) → ◌≡◌ {A = Result CallLine Cause} (Ok x) (Ok y) → x ≡ y
ok_line x y e = cc

pub on_ok : {A B : Type 0} {P Q : Type 0} (r : Result A B) → (P → Q) → OnOk r P → OnOk r Q
on_ok (Ok x) f h = f h
on_ok (Err e) f h = tt
