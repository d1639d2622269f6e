-- What a session within the limits is printed as reads as the session.
use Rattle.std.proofs.Common.{◌≡◌, ℕ, ◌+◌, ◌*◌, ◌<◌, ◌≤◌, zero, suc, List, [], ◌∷◌, ◌++◌, length, map, Bool, true, false, ◌&&◌, cond, nat_le, nat_lt, Result, Ok, Err, refl, ap, sym, ◌∙◌, subst, arith, append-nil, append_assoc, ◌^◌}
use Rattle.std.specs.Prelude.{◌==◌, ⊤, nat_eq}
use lib.Chars.{codes}
use Rattle.std.specs.List.{list_any, flat_map, join_with_byte}
use Rattle.std.specs.Str.{bytes_eq}
use Rattle.std.specs.Str.Parse.{AllDigits}
use Rattle.std.specs.Fmt.{decimal}
use Rattle.std.proofs.lemmas.Bool.Decides.{nat_tests}
use Rattle.std.proofs.lemmas.Fmt.{decimal_is_IsNumeral}
use Rattle.std.proofs.lemmas.Str.Parse.{digit_from_value}
use Rattle.qws_base.specs.Sides.{Sides, IsScreen}
use Rattle.qws_base.specs.declared.colours.Depth.{Depth}
use Rattle.qws_base.specs.declared.colours.Depth.TheVariants.{Full, Narrow}
use Rattle.glyph_masks.specs.Glyphs.{FontView}
use Rattle.gfx_fills.specs.Images.{ImageView}
use Rattle.script_grammar.specs.Judging.{◌>>=◌, ◌or_else◌}
use Rattle.script_grammar.specs.Spelling.{words_of}
use Rattle.script_grammar.specs.Limits.{IsColour, IsAsset, IsCallLine, EachBehind, IsSession}
use Rattle.script_grammar.specs.Printing.{colour, depth_lines, screen_line, clients_line, end_line, head_lines, asset_words, line_words, script_lines, ended_line, script_text}
use Rattle.script_grammar.specs.Lines.{depth_read, screen_read, clients_read, font_read, glyph_read, image_read, asset_read, line_read}
use Rattle.script_grammar.specs.Session.{Session, Asset, FontLine, GlyphLine, ImageLine, fonts_of, images_of}
use Rattle.script_grammar.specs.declared.lines.CallLine.{CallLine}
use Rattle.script_grammar.specs.Reading.{Before, Nothing, Deep, Sized, Within, Finished, sized, begun, and_asset, and_call, asset_in, call_in, end_in, line_in, is_blank, text_in, said_at_end, last_in, at_line, and_then, script_from, text_lines, script_of}
use Rattle.script_grammar.specs.declared.lines.Cause.{Cause}
use Rattle.script_grammar.specs.declared.lines.Cause.TheVariants.{Form, End}
use Rattle.script_grammar.proofs.Spelling.{cond_is, bind_is}
use Rattle.script_grammar.proofs.Heads.{depth_reads, screen_reads, clients_reads, first_is, second_is, asset_reads, line_reads}
use Rattle.script_grammar.proofs.Plain.{IsPlain, Plain, PlainLines, cut_words, none_blank, cut_lines, two_lines, line_plain, asset_plain, decimal_plain, colour_plain, fixed_plain}
use Rattle.script_grammar.proofs.Sound.{line_of_words}

cond_not : {A : Type 0} (b : Bool) (x y : A) → b ≡ false → cond b x y ≡ y
cond_not true x y e = cc
cond_not false x y e = refl

-- ---- a line by its words

text_is : (words : List (List ℕ)) (text : List ℕ) (r : List (List ℕ) → Result Before Cause) → words_of text ≡ words → Plain words → cond (list_any is_blank (words_of text)) (Err Form) (r (words_of text)) ≡ r words
text_is words text r e h = cond_not (list_any is_blank (words_of text)) (Err Form) (r (words_of text)) (ap (list_any is_blank) e ∙ none_blank words h) ∙ ap r e

nothing_behind : (said : Session) (ws : List (List ℕ)) (after : Before) → line_in (Finished said) ws ≡ Ok after → ◌≡◌ {A = Result Before Cause} (Err End) (Ok after)
unfolding line_in
nothing_behind said ws after e = e

text_reads : (before : Before) (word : List ℕ) (words : List (List ℕ)) (after : Before) → Plain (word ∷ words) → line_in before (word ∷ words) ≡ Ok after → text_in before (line_of_words (word ∷ words)) ≡ Ok after
unfolding text_in
text_reads Nothing word words after h e = text_is (word ∷ words) (line_of_words (word ∷ words)) (line_in Nothing) (cut_words word words h) h ∙ e
text_reads (Deep depth) word words after h e = text_is (word ∷ words) (line_of_words (word ∷ words)) (line_in (Deep depth)) (cut_words word words h) h ∙ e
text_reads (Sized depth size c) word words after h e = text_is (word ∷ words) (line_of_words (word ∷ words)) (line_in (Sized depth size c)) (cut_words word words h) h ∙ e
text_reads (Within said) word words after h e = text_is (word ∷ words) (line_of_words (word ∷ words)) (line_in (Within said)) (cut_words word words h) h ∙ e
text_reads (Finished said) word words after h e = nothing_behind said (word ∷ words) after e

-- ---- from a line on, with nothing behind the last

run : ℕ → Before → List (List (List ℕ)) → Result Session (ℕ × Cause)
run n before lines = script_from n before (map line_of_words lines ++ [] ∷ [])

run_on : (n : ℕ) (before after : Before) (text : List ℕ) (parts : List (List ℕ)) → 0 < length parts → text_in before text ≡ Ok after → script_from n before (text ∷ parts) ≡ script_from (n + 1) after parts
unfolding script_from
run_on n before after text [] some e = absurd (omega arith)
run_on n before after text (next ∷ parts) some e = ap (λ (r : Result Before Cause). and_then (at_line n r) (λ a. script_from (n + 1) a (next ∷ parts))) e

some_parts : (lines : List (List (List ℕ))) → 0 < length (map line_of_words lines ++ [] ∷ [])
some_parts [] = omega arith
some_parts (words ∷ lines) = omega arith

run_line : (n : ℕ) (before after : Before) (word : List ℕ) (words : List (List ℕ)) (lines : List (List (List ℕ))) → Plain (word ∷ words) → line_in before (word ∷ words) ≡ Ok after → run n before ((word ∷ words) ∷ lines) ≡ run (n + 1) after lines
unfolding run
run_line n before after word words lines h e = run_on n before after (line_of_words (word ∷ words)) (map line_of_words lines ++ [] ∷ []) (some_parts lines) (text_reads before word words after h e)

run_end : (n : ℕ) (said : Session) → run n (Within said) (end_line ∷ []) ≡ Ok said
unfolding run script_from text_in line_in
run_end n said = refl

-- ---- calls

no_call_is_end : (said : Session) (a b : List ℕ) (ws : List (List ℕ)) → end_in said (a ∷ b ∷ ws) ≡ Err Form
no_call_is_end said a b ws = refl

-- a number isn't a fixed word
number_is_no_word : (w : List ℕ) (c : ℕ) (cs : List ℕ) → 0 < length w → AllDigits 10 w → 57 < c → bytes_eq w (c ∷ cs) ≡ false
number_is_no_word [] c cs some d high = absurd (omega arith)
number_is_no_word (b ∷ w) c cs some d high = let at = digit_from_value b d.0 in no_first (nat_eq b c) (bytes_eq w cs) (grind (arith, nat_tests))
  where
    no_first : (p q : Bool) → p ≡ false → (p && q) ≡ false
    no_first true q h = cc
    no_first false q h = refl

not_font : (fonts : List FontView) (fixed : List ℕ) (ws : List (List ℕ)) → bytes_eq fixed (codes "font") ≡ false → font_read fonts (fixed ∷ ws) ≡ Err Form
unfolding font_read
not_font fonts fixed [] e = refl
not_font fonts fixed (a ∷ []) e = cond_not (bytes_eq fixed (codes "font")) _ (Err Form) e
not_font fonts fixed (a ∷ b ∷ ws) e = refl

not_both : (p q : Bool) → p ≡ false → (p && q) ≡ false
not_both true q h = cc
not_both false q h = refl

not_glyph : (fonts : List FontView) (fixed : List ℕ) (ws : List (List ℕ)) → bytes_eq fixed (codes "glyph") ≡ false → glyph_read fonts (fixed ∷ ws) ≡ Err Form
unfolding glyph_read
not_glyph fonts fixed [] e = refl
not_glyph fonts fixed (a ∷ []) e = refl
not_glyph fonts fixed (a ∷ b ∷ ws) e = cond_not (bytes_eq fixed (codes "glyph") && _) _ (Err Form) (not_both (bytes_eq fixed (codes "glyph")) _ e)

not_image : (images : List ImageView) (fixed : List ℕ) (ws : List (List ℕ)) → bytes_eq fixed (codes "image") ≡ false → image_read images (fixed ∷ ws) ≡ Err Form
unfolding image_read
not_image images fixed [] e = refl
not_image images fixed (a ∷ []) e = refl
not_image images fixed (a ∷ b ∷ []) e = refl
not_image images fixed (a ∷ b ∷ c ∷ []) e = cond_not (bytes_eq fixed (codes "image")) _ (Err Form) e
not_image images fixed (a ∷ b ∷ c ∷ d ∷ ws) e = refl

not_asset : (before : List Asset) (n : ℕ) (ws : List (List ℕ)) → n < 2 ^ 64 → asset_read before (decimal n ∷ ws) ≡ Err Form
unfolding asset_read
not_asset before n ws small =
    let k = decimal_is_IsNumeral n small in
    second_is _ _ (not_font (fonts_of before) (decimal n) ws (number_is_no_word (decimal n) _ _ k.0.0 k.0.1 (omega arith)))
    ∙ second_is _ _ (not_glyph (fonts_of before) (decimal n) ws (number_is_no_word (decimal n) _ _ k.0.0 k.0.1 (omega arith)))
    ∙ not_image (images_of before) (decimal n) ws (number_is_no_word (decimal n) _ _ k.0.0 k.0.1 (omega arith))

not_asset_step : (none : Bool) (r : Result Asset Cause) (f : Asset → Result Before Cause) → r ≡ Err Form → cond none (r >>= f) (Err Form) ≡ Err Form
not_asset_step true r f e = ap (λ (o : Result Asset Cause). o >>= f) e
not_asset_step false r f e = refl

call_line_reads : (said : Session) (line : CallLine) → said.clients ≤ 16 → IsCallLine said.clients said.assets said.calls line → line_in (Within said) (line_words line) ≡ Ok (and_call said line)
unfolding line_in
call_line_reads said line few h =
    let below = h.client in
    second_is (end_in said (line_words line)) (asset_in said (line_words line) or_else call_in said (line_words line)) refl
    ∙ second_is (asset_in said (line_words line)) (call_in said (line_words line)) (not_asset_step (length said.calls == 0) (asset_read said.assets (line_words line)) (λ asset. Ok (and_asset said asset)) (not_asset said.assets line.client _ (omega arith)))
    ∙ bind_is (line_read said (line_words line)) (λ l. Ok (and_call said l)) line (line_reads said line few h)

calls_run : (n : ℕ) (said : Session) (calls : List CallLine) → said.clients ≤ 16 → EachBehind (IsCallLine said.clients said.assets) said.calls calls → run n (Within said) (map line_words calls ++ end_line ∷ []) ≡ Ok (record said { calls = said.calls ++ calls })
calls_run n said [] few h = run_end n said ∙ ap (λ (calls : List CallLine). Ok (record said { calls = calls })) (sym (append-nil said.calls))
calls_run n said (line ∷ calls) few h =
    run_line n (Within said) (and_call said line) (decimal line.client) _ (map line_words calls ++ end_line ∷ []) (line_plain said.clients said.assets said.calls line few h.0) (call_line_reads said line few h.0)
    ∙ calls_run (n + 1) (record said { calls = said.calls ++ line ∷ [] }) calls few h.1
    ∙ ap (λ (all : List CallLine). Ok (record said { calls = all })) (append_assoc said.calls (line ∷ []) calls)

-- ---- fonts and images

abbrev bare : Depth → Sides → ℕ → ℕ → List Asset → Session
bare depth size c clients assets = record { depth = depth; size = size; backdrop = c; clients = clients; assets = assets; calls = [] }

asset_is_no_end : (said : Session) (asset : Asset) → end_in said (asset_words asset) ≡ Err Form
asset_is_no_end said (FontLine height) = refl
asset_is_no_end said (GlyphLine glyph) = refl
asset_is_no_end said (ImageLine image) = refl

asset_line_reads : (depth : Depth) (size : Sides) (c clients : ℕ) (before : List Asset) (asset : Asset) → IsAsset before asset → line_in (Within (bare depth size c clients before)) (asset_words asset) ≡ Ok (Within (bare depth size c clients (before ++ asset ∷ [])))
unfolding line_in
asset_line_reads depth size c clients before asset h =
    second_is (end_in (bare depth size c clients before) (asset_words asset)) _ (asset_is_no_end (bare depth size c clients before) asset)
    ∙ first_is (asset_in (bare depth size c clients before) (asset_words asset)) _ _ (bind_is (asset_read before (asset_words asset)) (λ a. Ok (and_asset (bare depth size c clients before) a)) asset (asset_reads before asset h))

run_words : (n : ℕ) (before after : Before) (words : List (List ℕ)) (lines : List (List (List ℕ))) → 0 < length words → Plain words → line_in before words ≡ Ok after → run n before (words ∷ lines) ≡ run (n + 1) after lines
run_words n before after [] lines some h e = absurd (omega arith)
run_words n before after (word ∷ words) lines some h e = run_line n before after word words lines h e

asset_has_words : (asset : Asset) → 0 < length (asset_words asset)
asset_has_words (FontLine height) = omega arith
asset_has_words (GlyphLine glyph) = omega arith
asset_has_words (ImageLine image) = omega arith

assets_run : (n : ℕ) (depth : Depth) (size : Sides) (c clients : ℕ) (before assets : List Asset) (lines : List (List (List ℕ))) (end : Result Session (ℕ × Cause)) → EachBehind IsAsset before assets → ((m : ℕ) → run m (Within (bare depth size c clients (before ++ assets))) lines ≡ end) → run n (Within (bare depth size c clients before)) (map asset_words assets ++ lines) ≡ end
assets_run n depth size c clients before [] lines end h more = ap (λ (all : List Asset). run n (Within (bare depth size c clients all)) lines) (sym (append-nil before)) ∙ more n
assets_run n depth size c clients before (asset ∷ assets) lines end h more =
    run_words n (Within (bare depth size c clients before)) (Within (bare depth size c clients (before ++ asset ∷ []))) (asset_words asset) (map asset_words assets ++ lines) (asset_has_words asset) (asset_plain before asset h.0) (asset_line_reads depth size c clients before asset h.0)
    ∙ assets_run (n + 1) depth size c clients (before ++ asset ∷ []) assets lines end h.1 (λ m. ap (λ (all : List Asset). run m (Within (bare depth size c clients all)) lines) (append_assoc before (asset ∷ []) assets) ∙ more m)

-- ---- the head

screen_plain : (said : Session) → IsSession said → Plain (screen_line said)
screen_plain said h = let w = h.screen.most_w in let k = h.screen.most_h in (fixed_plain _ (omega arith) refl, (decimal_plain said.size.w (omega arith), (decimal_plain said.size.h (omega arith), (colour_plain said.backdrop, tt))))

clients_plain : (said : Session) → IsSession said → Plain (clients_line said)
clients_plain said h = let few = h.clients in (fixed_plain _ (omega arith) refl, (decimal_plain said.clients (omega arith), tt))

abbrev depth_line : List (List ℕ)
depth_line = codes "depth" ∷ codes "16" ∷ []

depth_plain : Plain depth_line
depth_plain = (fixed_plain _ (omega arith) refl, (fixed_plain _ (omega arith) refl, tt))

-- a session's lines behind its head
abbrev behind_head : Session → List (List (List ℕ))
behind_head said = map asset_words said.assets ++ (map line_words said.calls ++ end_line ∷ [])

body_run : (n : ℕ) (said : Session) → IsSession said → run n (Within (bare said.depth said.size said.backdrop said.clients [])) (behind_head said) ≡ Ok said
body_run n said h =
    assets_run n said.depth said.size said.backdrop said.clients [] said.assets (map line_words said.calls ++ end_line ∷ []) (Ok said) h.assets
    (λ m. calls_run m (bare said.depth said.size said.backdrop said.clients said.assets) said.calls h.clients h.calls)

clients_run : (n : ℕ) (said : Session) → IsSession said → run n (Sized said.depth said.size said.backdrop) (clients_line said ∷ behind_head said) ≡ Ok said
unfolding line_in
clients_run n said h =
    run_words n (Sized said.depth said.size said.backdrop) (begun said.depth said.size said.backdrop said.clients) (clients_line said) (behind_head said) (omega arith) (clients_plain said h)
    (bind_is (clients_read (clients_line said)) (λ clients. Ok (begun said.depth said.size said.backdrop clients)) said.clients (clients_reads said.clients h.clients))
    ∙ body_run (n + 1) said h

sized_reads : (said : Session) → IsSession said → (screen_read (screen_line said) >>= λ screen. Ok (sized said.depth screen)) ≡ Ok (Sized said.depth said.size said.backdrop)
sized_reads said h = bind_is (screen_read (screen_line said)) (λ screen. Ok (sized said.depth screen)) (said.size, said.backdrop) (screen_reads said.size said.backdrop h.screen h.backdrop)

deep_reads : (said : Session) → IsSession said → line_in (Deep said.depth) (screen_line said) ≡ Ok (Sized said.depth said.size said.backdrop)
unfolding line_in
deep_reads said h = sized_reads said h

not_depth : (a b c : List ℕ) (ws : List (List ℕ)) → depth_read (a ∷ b ∷ c ∷ ws) ≡ Err Form
unfolding depth_read
not_depth a b c ws = refl

plain_reads : (said : Session) → IsSession said → said.depth ≡ Full → line_in Nothing (screen_line said) ≡ Ok (Sized said.depth said.size said.backdrop)
unfolding line_in
plain_reads said h full =
    second_is (depth_read (screen_line said) >>= λ depth. Ok (Deep depth)) (screen_read (screen_line said) >>= λ screen. Ok (sized Full screen)) (ap (λ (r : Result Depth Cause). r >>= λ depth. Ok (Deep depth)) (not_depth _ _ _ _))
    ∙ (λ i. screen_read (screen_line said) >>= λ screen. Ok (sized (sym full i) screen))
    ∙ sized_reads said h

depth_line_reads : line_in Nothing depth_line ≡ Ok (Deep Narrow)
unfolding line_in
depth_line_reads = first_is (depth_read depth_line >>= λ depth. Ok (Deep depth)) _ (Deep Narrow) (bind_is (depth_read depth_line) (λ depth. Ok (Deep depth)) Narrow depth_reads)

whole_run : (depth : Depth) (said : Session) → said.depth ≡ depth → IsSession said → run 1 Nothing (depth_lines depth ++ screen_line said ∷ clients_line said ∷ behind_head said) ≡ Ok said
whole_run Full said is h =
    run_words 1 Nothing (Sized said.depth said.size said.backdrop) (screen_line said) (clients_line said ∷ behind_head said) (omega arith) (screen_plain said h) (plain_reads said h is)
    ∙ clients_run 2 said h
whole_run Narrow said is h =
    run_words 1 Nothing (Deep Narrow) depth_line (screen_line said ∷ clients_line said ∷ behind_head said) (omega arith) depth_plain depth_line_reads
    ∙ ap (λ d. run 2 (Deep d) (screen_line said ∷ clients_line said ∷ behind_head said)) (sym is)
    ∙ run_words 2 (Deep said.depth) (Sized said.depth said.size said.backdrop) (screen_line said) (clients_line said ∷ behind_head said) (omega arith) (screen_plain said h) (deep_reads said h)
    ∙ clients_run 3 said h

lines_are : (said : Session) → script_lines said ≡ depth_lines said.depth ++ screen_line said ∷ clients_line said ∷ behind_head said
lines_are said =
    append_assoc (head_lines said ++ map asset_words said.assets) (map line_words said.calls) (end_line ∷ [])
    ∙ append_assoc (head_lines said) (map asset_words said.assets) (map line_words said.calls ++ end_line ∷ [])
    ∙ append_assoc (depth_lines said.depth) (screen_line said ∷ clients_line said ∷ []) (behind_head said)

-- ---- all lines are plain

calls_plain : (clients : ℕ) (assets : List Asset) (before calls : List CallLine) → clients ≤ 16 → EachBehind (IsCallLine clients assets) before calls → PlainLines (map line_words calls)
calls_plain clients assets before [] few h = tt
calls_plain clients assets before (line ∷ calls) few h = (line_plain clients assets before line few h.0, calls_plain clients assets (before ++ line ∷ []) calls few h.1)

assets_plain : (before assets : List Asset) → EachBehind IsAsset before assets → PlainLines (map asset_words assets)
assets_plain before [] h = tt
assets_plain before (asset ∷ assets) h = (asset_plain before asset h.0, assets_plain (before ++ asset ∷ []) assets h.1)

depth_lines_plain : (depth : Depth) → PlainLines (depth_lines depth)
depth_lines_plain Full = tt
depth_lines_plain Narrow = (depth_plain, tt)

pub lines_plain : (said : Session) → IsSession said → PlainLines (script_lines said)
lines_plain said h =
    two_lines (head_lines said ++ map asset_words said.assets ++ map line_words said.calls) (end_line ∷ [])
    (two_lines (head_lines said ++ map asset_words said.assets) (map line_words said.calls)
    (two_lines (head_lines said) (map asset_words said.assets)
    (two_lines (depth_lines said.depth) (screen_line said ∷ clients_line said ∷ []) (depth_lines_plain said.depth) (screen_plain said h, (clients_plain said h, tt)))
    (assets_plain [] said.assets h.assets))
    (calls_plain said.clients said.assets [] said.calls h.clients h.calls))
    ((fixed_plain _ (omega arith) refl, tt), tt)

run_is : (n : ℕ) (before : Before) (lines : List (List (List ℕ))) → run n before lines ≡ script_from n before (map line_of_words lines ++ [] ∷ [])
unfolding run
run_is n before lines = refl

pub printed_is_read : (said : Session) → IsSession said → script_of (script_text said) ≡ Ok said
unfolding script_of script_text
printed_is_read said h =
    ap (script_from 1 Nothing) (cut_lines (script_lines said) (lines_plain said h))
    ∙ sym (run_is 1 Nothing (script_lines said))
    ∙ ap (run 1 Nothing) (lines_are said)
    ∙ whole_run said.depth said refl h
