-- No line of a script but its last says `end`.
use Rattle.std.proofs.Common.{◌≡◌, ℕ, ◌+◌, ◌<◌, List, [], ◌∷◌, ◌++◌, length, map, Bool, true, false, cond, ◌||◌, refl, ap, sym, ◌∙◌, arith, append_assoc, length-append}
use Rattle.std.specs.Prelude.{◌==◌, ⊤}
use lib.Chars.{codes}
use Rattle.std.specs.List.{flat_map, list_any, join_with_byte}
use Rattle.std.specs.Str.{bytes_eq}
use Rattle.std.specs.Cmp.Lexicographic.{bytes_decides}
use Rattle.std.proofs.lemmas.List.{map-append}
use Rattle.std.proofs.lemmas.List.Splits.{slice_split_at, length-slice_split}
use Rattle.std.proofs.lemmas.Grind.{flat_map-append}
use Rattle.qws_base.specs.declared.colours.Depth.{Depth}
use Rattle.qws_base.specs.declared.colours.Depth.TheVariants.{Full, Narrow}
use Rattle.script_grammar.specs.Session.{Session, Asset, FontLine, GlyphLine, ImageLine}
use Rattle.script_grammar.specs.Printing.{depth_lines, head_lines, screen_line, clients_line, end_line, asset_words, line_words, ended_line, script_lines, script_text}
use Rattle.script_grammar.specs.Reading.{text_lines}
use Rattle.script_grammar.specs.declared.lines.CallLine.{CallLine}
use Rattle.script_grammar.proofs.Plain.{PlainLines, is_line_byte, no_feed, none_of, line_bytes}
use Rattle.script_grammar.proofs.Complete.{lines_plain}
use Rattle.script_reader.specs.Cuts.{through_end}
use Rattle.script_reader.specs.Laws.{EndsWithScript}

-- two words at least
abbrev Long : List (List ℕ) → Type 0
Long [] = ⊥
Long (word ∷ []) = ⊥
Long (word ∷ next ∷ words) = ⊤

abbrev LongLines : List (List (List ℕ)) → Type 0
LongLines [] = ⊤
LongLines (words ∷ lines) = Long words × LongLines lines

two_long : (xs ys : List (List (List ℕ))) → LongLines xs → LongLines ys → LongLines (xs ++ ys)
two_long [] ys h k = k
two_long (x ∷ xs) ys h k = (h.0, two_long xs ys h.1 k)

asset_long : (asset : Asset) → Long (asset_words asset)
asset_long (FontLine height) = tt
asset_long (GlyphLine glyph) = tt
asset_long (ImageLine image) = tt

assets_long : (assets : List Asset) → LongLines (map asset_words assets)
assets_long [] = tt
assets_long (asset ∷ assets) = (asset_long asset, assets_long assets)

calls_long : (calls : List CallLine) → LongLines (map line_words calls)
calls_long [] = tt
calls_long (line ∷ calls) = (tt, calls_long calls)

depth_long : (depth : Depth) → LongLines (depth_lines depth)
depth_long Full = tt
depth_long Narrow = (tt, tt)

front_long : (said : Session) → LongLines (head_lines said ++ map asset_words said.assets ++ map line_words said.calls)
front_long said =
    two_long (head_lines said ++ map asset_words said.assets) (map line_words said.calls)
    (two_long (head_lines said) (map asset_words said.assets)
    (two_long (depth_lines said.depth) (screen_line said ∷ clients_line said ∷ []) (depth_long said.depth) (tt, (tt, tt)))
    (assets_long said.assets))
    (calls_long said.calls)

-- ---- a blank tells a line from `end`

or_true : (a : Bool) → (a || true) ≡ true
or_true true = refl
or_true false = refl

has_blank : (word rest : List ℕ) → list_any (λ c. c == 32) (word ++ 32 ∷ rest) ≡ true
has_blank [] rest = refl
has_blank (c ∷ word) rest = ap (λ (b : Bool). (c == 32) || b) (has_blank word rest) ∙ or_true (c == 32)

no_end : (b : Bool) (text : List ℕ) → bytes_eq text (codes "end") ≡ b → list_any (λ c. c == 32) text ≡ true → b ≡ false
no_end false text is blank = refl
no_end true text is blank =
    let same : text ≡ codes "end" = (bytes_decides text (codes "end")).0 is in
    let none : list_any (λ c. c == 32) text ≡ false = ap (list_any (λ c. c == 32)) same in
    absurd (let n : ⊥ = cc in n)

not_end : (words : List (List ℕ)) → Long words → bytes_eq (join_with_byte 32 words) (codes "end") ≡ false
not_end [] long = absurd long
not_end (word ∷ []) long = absurd long
not_end (word ∷ next ∷ words) long = no_end _ (join_with_byte 32 (word ∷ next ∷ words)) refl (has_blank word (join_with_byte 32 (next ∷ words)))

-- ---- lines before more bytes

lines_then : (lines : List (List (List ℕ))) (more : List ℕ) → PlainLines lines → text_lines (flat_map ended_line lines ++ more) ≡ map (join_with_byte 32) lines ++ text_lines more
lines_then [] more plain = refl
lines_then (words ∷ lines) more plain =
    let text = join_with_byte 32 words in
    ap text_lines (append_assoc (text ++ 10 ∷ []) (flat_map ended_line lines) more ∙ append_assoc text (10 ∷ []) (flat_map ended_line lines ++ more))
    ∙ slice_split_at (λ c. c == 10) text 10 (flat_map ended_line lines ++ more) (none_of is_line_byte (λ c. c == 10) no_feed text (line_bytes words plain.0)) refl
    ∙ ap (λ (rest : List (List ℕ)). text ∷ rest) (lines_then lines more plain.1)

through_step : (text : List ℕ) (parts : List (List ℕ)) → 0 < length parts → bytes_eq text (codes "end") ≡ false → through_end (text ∷ parts) ≡ length text + 1 + through_end parts
through_step text [] some is = absurd (omega arith)
through_step text (part ∷ parts) some is = ap (λ (b : Bool). cond b (length text + 1) (length text + 1 + through_end (part ∷ parts))) is

end_step : (text : List ℕ) (parts : List (List ℕ)) → 0 < length parts → bytes_eq text (codes "end") ≡ true → through_end (text ∷ parts) ≡ length text + 1
end_step text [] some is = absurd (omega arith)
end_step text (part ∷ parts) some is = ap (λ (b : Bool). cond b (length text + 1) (length text + 1 + through_end (part ∷ parts))) is

some_lines : (more : List ℕ) → 0 < length (text_lines more)
some_lines more = omega (arith, length-slice_split (λ c. c == 10) more)

-- a line before more of them
pub ends_here : (rest text after : List ℕ) → text_lines rest ≡ text ∷ text_lines after → bytes_eq text (codes "end") ≡ true → through_end (text_lines rest) ≡ length text + 1
ends_here rest text after cut_off is = ap through_end cut_off ∙ end_step text (text_lines after) (some_lines after) is

pub goes_on : (rest text after : List ℕ) → text_lines rest ≡ text ∷ text_lines after → bytes_eq text (codes "end") ≡ false → through_end (text_lines rest) ≡ length text + 1 + through_end (text_lines after)
goes_on rest text after cut_off is = ap through_end cut_off ∙ through_step text (text_lines after) (some_lines after) is

through_last : (parts : List (List ℕ)) → 0 < length parts → through_end (codes "end" ∷ parts) ≡ 4
through_last [] some = absurd (omega arith)
through_last (part ∷ parts) some = refl

through_lines : (lines : List (List (List ℕ))) (rest : List (List ℕ)) → LongLines lines → 0 < length rest → through_end (map (join_with_byte 32) lines ++ rest) ≡ length (flat_map ended_line lines) + through_end rest
through_lines [] rest long some = omega arith
through_lines (words ∷ lines) rest long some =
    let text = join_with_byte 32 words in
    let more = map (join_with_byte 32) lines ++ rest in
    let first = through_step text more (omega (arith, length-append (map (join_with_byte 32) lines) rest)) (not_end words long.0) in
    omega (arith, first, through_lines lines rest long.1 some, length-append (text ++ 10 ∷ []) (flat_map ended_line lines), length-append text (10 ∷ []))

pub ends_with_script : EndsWithScript
unfolding script_text
ends_with_script said more limits =
    let front = head_lines said ++ map asset_words said.assets ++ map line_words said.calls in
    let join = join_with_byte 32 in
    let some : 0 < length (text_lines more) = omega (arith, length-slice_split (λ c. c == 10) more) in
    let parts : text_lines (script_text said ++ more) ≡ map join front ++ (codes "end" ∷ text_lines more) =
    lines_then (script_lines said) more (lines_plain said limits)
    ∙ ap (λ (l : List (List ℕ)). l ++ text_lines more) (map-append join front (end_line ∷ []))
    ∙ append_assoc (map join front) (codes "end" ∷ []) (text_lines more) in
    let all : length (script_text said) ≡ length (flat_map ended_line front) + 4 =
    ap length (flat_map-append ended_line front (end_line ∷ [])) ∙ length-append (flat_map ended_line front) (codes "end" ++ 10 ∷ []) in
    ap through_end parts
    ∙ through_lines front (codes "end" ∷ text_lines more) (front_long said) (omega arith)
    ∙ ap (λ (n : ℕ). length (flat_map ended_line front) + n) (through_last (text_lines more) some)
    ∙ sym all
