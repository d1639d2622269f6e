-- What bytes that are written one after the other read as.
use Rattle.std.proofs.Common.{◌≡◌, Fits, ℕ, zero, suc, ◌+◌, ◌*◌, ◌^◌, ◌++◌, ◌∷◌, [], ◌<◌, ◌≤◌, List, length, length-append, get_or, take, drop, append-nil, append_assoc, ℤ, pos, refl, sym, ap, ◌∙◌, arith}
use Rattle.std.specs.List.{flat_map, All}
use Rattle.std.specs.Prelude.{FitsSigned}
use Rattle.std.specs.Int.{w32, cast_signed, cast_unsigned}
use Rattle.std.proofs.lemmas.Int.{ints, to_z-of_z}
use Rattle.std.proofs.lemmas.List.{take_more, flat_map_more, drop_at}
use Rattle.std.proofs.lemmas.List.Elements.{All-head, All-tail}
use Rattle.std.proofs.lemmas.List.FromFn.{fill_by_all}
use Rattle.byteorder.specs.Endian.{little_from, little_bytes}
use Rattle.byteorder.specs.Numbers.{little_from-cons, little_number-reads_back}
use Rattle.qws_base.specs.declared.points.Point.{Point}
use Rattle.qws_base.specs.declared.points.Rect.{Rect}
use Rattle.qws_base.specs.declared.commands.Command.TheVariants.{Region, CursorShape}
use Rattle.qws_frames.specs.Layout.{u16_at, u32_at, rect_at, rects_at, words_at, IsFrame, SpellsCommand}
use Rattle.qws_frames.specs.Encoding.{head_bytes, words_bytes, rect_words, rects_bytes, IsRect, IsPlain, IsLetter}

-- one more item is written
pub one_more : {X : Type 0} (f : X → List ℕ) (start : List ℕ) (xs : List X) (i : ℕ) (d : X) → i < length xs → (before now : List ℕ) → before ≡ start ++ flat_map f (take i xs) → now ≡ before ++ f (get_or xs i d)
    → now ≡ start ++ flat_map f (take (i + 1) xs)
one_more {X = X} f start xs i d h before now was more =
    more ∙ ap (λ (b : List ℕ). b ++ f (get_or xs i d)) was ∙ flat_map_more f start (take i xs) (get_or xs i d)
    ∙ ap (λ (all : List X). start ++ flat_map f all) (sym (take_more xs i d h))

-- ---- numbers

-- a number behind other bytes
pub number_behind : (front rest : List ℕ) (n x : ℕ) → x < 256 ^ n → little_from (length front) n (front ++ (little_bytes n x ++ rest)) ≡ x
number_behind [] rest n x h = little_number-reads_back n x rest h
number_behind (a ∷ front) rest n x h = little_from-cons (length front) n a (front ++ (little_bytes n x ++ rest)) ∙ number_behind front rest n x h

-- ---- words

pub length-words_bytes : (words : List ℕ) → length (words_bytes words) ≡ 4 * length words
length-words_bytes [] = refl
length-words_bytes (w ∷ words) = let e = length-words_bytes words in omega arith

-- numbers of 32 bits
pub record AreWords (words : List ℕ) : Type 0 where
  pub each : (k : ℕ) → k < length words → get_or words k 0 < 2 ^ 32

pub no_words : AreWords []
no_words = record { each = λ k h. absurd (omega arith) }

pub word_and : (w : ℕ) {words : List ℕ} → w < 2 ^ 32 → AreWords words → AreWords (w ∷ words)
word_and w {words} fits others = record { each = each }
  where
    each : (k : ℕ) → k < length (w ∷ words) → get_or (w ∷ words) k 0 < 2 ^ 32
    each zero h = fits
    each (suc k) h = others.each k (omega arith)

words_after : (w : ℕ) (words : List ℕ) → AreWords (w ∷ words) → AreWords words
words_after w words all = record { each = λ k h. all.each (suc k) (omega arith) }

pub unsigned_fits : (z : ℤ) → FitsSigned w32 z → cast_unsigned w32 z < 2 ^ 32
unsigned_fits z fits = omega (arith, ints)

pub word_behind : (words front rest : List ℕ) (k at : ℕ) → AreWords words → k < length words → at ≡ length front + 4 * k → u32_at at (front ++ (words_bytes words ++ rest)) ≡ get_or words k 0
word_behind [] front rest k at fit h place = absurd (omega arith)
word_behind (w ∷ words) front rest zero at fit h place =
    let here : at ≡ length front = omega arith in
    ap (λ (p : ℕ). u32_at p (front ++ (words_bytes (w ∷ words) ++ rest))) here ∙ number_behind front (words_bytes words ++ rest) 4 w (fit.each 0 (omega arith))
word_behind (w ∷ words) front rest (suc k) at fit h place =
    let b = little_bytes 4 w in
    ap (λ (all : List ℕ). u32_at at all) (sym (append_assoc front b (words_bytes words ++ rest)))
    ∙ word_behind words (front ++ b) rest k at (words_after w words fit) (omega arith) (omega (arith, length-append front b))

-- the words that stand behind other bytes
pub words_behind : (words front rest : List ℕ) (at : ℕ) → AreWords words → at ≡ length front → words_at at (length words) (front ++ (words_bytes words ++ rest)) ≡ words
words_behind words front rest at fit place =
    sym (fill_by_all (λ (k : ℕ). u32_at (at + 4 * k) (front ++ (words_bytes words ++ rest))) words (length words) 0 refl
    (λ k h. sym (word_behind words front rest k (at + 4 * k) fit h (omega arith))))

-- ---- points and rectangles

pub same_point : (p : Point) (x y : ℤ) → x ≡ p.x → y ≡ p.y → record { x = x; y = y } ≡ p
same_point p x y ex ey = ap (λ (v : ℤ). record { x = v; y = y }) ex ∙ ap (λ (v : ℤ). record { x = p.x; y = v }) ey

same_rect : (r : Rect) (x y : ℤ) (w h : ℕ) → x ≡ r.x → y ≡ r.y → w ≡ r.w → h ≡ r.h → record { x = x; y = y; w = w; h = h } ≡ r
same_rect r x y w h ex ey ew eh =
    ap (λ (v : ℤ). record { x = v; y = y; w = w; h = h }) ex ∙ ap (λ (v : ℤ). record { x = r.x; y = v; w = w; h = h }) ey
    ∙ ap (λ (v : ℕ). record { x = r.x; y = r.y; w = v; h = h }) ew ∙ ap (λ (v : ℕ). record { x = r.x; y = r.y; w = r.w; h = v }) eh

rect_behind : (r : Rect) (front rest : List ℕ) (at : ℕ) → IsRect r → at ≡ length front → rect_at at (front ++ (words_bytes (rect_words r) ++ rest)) ≡ r
rect_behind r front rest at fit place =
    let bytes = front ++ (words_bytes (rect_words r) ++ rest) in
    let x_fits = fit.x in
    let y_fits = fit.y in
    let x_back : cast_signed w32 (cast_unsigned w32 r.x) ≡ r.x = to_z-of_z w32 r.x fit.x in
    let y_back : cast_signed w32 (cast_unsigned w32 r.y) ≡ r.y = to_z-of_z w32 r.y fit.y in
    let words : AreWords (rect_words r) =
    word_and (cast_unsigned w32 r.x) (unsigned_fits r.x fit.x) (word_and (cast_unsigned w32 r.y) (unsigned_fits r.y fit.y) (word_and r.w fit.w (word_and r.h fit.h no_words))) in
    let all : words_at at 4 bytes ≡ rect_words r = words_behind (rect_words r) front rest at words place in
    let x_is : u32_at (at + 0) bytes ≡ cast_unsigned w32 r.x = ap (λ (ws : List ℕ). get_or ws 0 0) all in
    let y_is : u32_at (at + 4) bytes ≡ cast_unsigned w32 r.y = ap (λ (ws : List ℕ). get_or ws 1 0) all in
    let w_is : u32_at (at + 8) bytes ≡ r.w = ap (λ (ws : List ℕ). get_or ws 2 0) all in
    let h_is : u32_at (at + 12) bytes ≡ r.h = ap (λ (ws : List ℕ). get_or ws 3 0) all in
    let start : u32_at at bytes ≡ u32_at (at + 0) bytes = ap (λ (p : ℕ). u32_at p bytes) (omega arith) in
    same_rect r _ _ _ _ (ap (cast_signed w32) (start ∙ x_is) ∙ x_back) (ap (cast_signed w32) y_is ∙ y_back) w_is h_is

pub length-rects_bytes : (rects : List Rect) → length (rects_bytes rects) ≡ 16 * length rects
length-rects_bytes [] = refl
length-rects_bytes (r ∷ rects) = let e = length-rects_bytes rects in omega arith

none : Rect
none = record { x = pos 0; y = pos 0; w = 0; h = 0 }

rect_at_place : (rects : List Rect) (front rest : List ℕ) (k at : ℕ) → All IsRect rects → k < length rects → at ≡ length front + 16 * k → rect_at at (front ++ (rects_bytes rects ++ rest)) ≡ get_or rects k none
rect_at_place [] front rest k at fit h place = absurd (omega arith)
rect_at_place (r ∷ rects) front rest zero at fit h place = rect_behind r front (rects_bytes rects ++ rest) at (All-head IsRect r rects fit) (omega arith)
rect_at_place (r ∷ rects) front rest (suc k) at fit h place =
    let b = words_bytes (rect_words r) in
    ap (λ (all : List ℕ). rect_at at all) (sym (append_assoc front b (rects_bytes rects ++ rest)))
    ∙ rect_at_place rects (front ++ b) rest k at (All-tail IsRect r rects fit) (omega arith) (omega (arith, length-append front b))

-- the rectangles that stand behind other bytes
pub rects_behind : (rects : List Rect) (front rest : List ℕ) (at : ℕ) → All IsRect rects → at ≡ length front → rects_at at (length rects) (front ++ (rects_bytes rects ++ rest)) ≡ rects
rects_behind rects front rest at fit place =
    sym (fill_by_all (λ (k : ℕ). rect_at (at + 16 * k) (front ++ (rects_bytes rects ++ rest))) rects (length rects) none refl
    (λ k h. sym (rect_at_place rects front rest k (at + 16 * k) fit h (omega arith))))

-- ---- frames

pub frame_built : (kind simple raw : ℕ) (bytes parts : List ℕ) → bytes ≡ head_bytes kind simple raw ++ parts → kind < 2 ^ 16 → simple < 2 ^ 16 → raw ≤ 65536 → length parts ≡ simple + raw → IsFrame bytes kind simple raw
frame_built kind simple raw bytes parts e kind_fits simple_fits few size =
    let len : length (head_bytes kind simple raw ++ parts) ≡ 8 + length parts = length-append (head_bytes kind simple raw) parts in
    record {
      kind_is = ap (u16_at 0) e ∙ number_behind [] (little_bytes 2 simple ++ (little_bytes 4 raw ++ parts)) 2 kind kind_fits;
      simple_is = ap (u16_at 2) e ∙ number_behind (little_bytes 2 kind) (little_bytes 4 raw ++ parts) 2 simple simple_fits;
      raw_is = ap (u32_at 4) e ∙ number_behind (little_bytes 2 kind ++ little_bytes 2 simple) parts 4 raw (omega arith);
      few = few;
      whole = ap length e ∙ len ∙ omega arith;
    }

pub plain_built : (kind : ℕ) (words bytes : List ℕ) → bytes ≡ head_bytes kind (4 * length words) 0 ++ words_bytes words → kind < 2 ^ 16 → length words ≤ 4 → AreWords words → IsPlain kind words bytes
plain_built kind words bytes e kind_fits few fit =
    let size = length-words_bytes words in
    let h = head_bytes kind (4 * length words) 0 in
    record {
      frame = frame_built kind (4 * length words) 0 bytes (words_bytes words) e kind_fits (omega arith) (omega arith) (omega arith);
      words_are = ap (words_at 8 (length words)) (e ∙ ap (λ (all : List ℕ). h ++ all) (sym (append-nil (words_bytes words)))) ∙ words_behind words h [] 8 fit refl;
    }

-- a head, then two parts
pub two_parts : {h start between bytes : List ℕ} (a b : List ℕ) → start ≡ h → between ≡ start ++ a → bytes ≡ between ++ b → bytes ≡ (h ++ a) ++ b
two_parts a b e f g = g ∙ ap (λ (x : List ℕ). x ++ b) (f ∙ ap (λ (x : List ℕ). x ++ a) e)

pub region_built : (slot : ℕ) (origin : Point) (rects : List Rect) (x y : ℕ) (bytes : List ℕ) → slot < 2 ^ 32 → FitsSigned w32 origin.x → FitsSigned w32 origin.y → x ≡ cast_unsigned w32 origin.x → y ≡ cast_unsigned w32 origin.y
    → 16 * length rects ≤ 65536 → All IsRect rects → bytes ≡ (head_bytes 3 16 (16 * length rects) ++ words_bytes (slot ∷ x ∷ y ∷ length rects ∷ [])) ++ rects_bytes rects → SpellsCommand (Region slot origin rects) bytes
region_built slot origin rects x y bytes slot_fits x_fits y_fits x_spelled y_spelled few fit e =
    let h = head_bytes 3 16 (16 * length rects) in
    let ws : List ℕ = slot ∷ x ∷ y ∷ length rects ∷ [] in
    let x_word = unsigned_fits origin.x x_fits in
    let y_word = unsigned_fits origin.y y_fits in
    let are : AreWords ws = word_and slot slot_fits (word_and x (omega arith) (word_and y (omega arith) (word_and (length rects) (omega arith) no_words))) in
    let size = length-rects_bytes rects in
    let joined : bytes ≡ h ++ (words_bytes ws ++ rects_bytes rects) = e ∙ append_assoc h (words_bytes ws) (rects_bytes rects) in
    let all : words_at 8 4 bytes ≡ ws = ap (words_at 8 4) joined ∙ words_behind ws h (rects_bytes rects) 8 are refl in
    let slot_is : u32_at 8 bytes ≡ slot = ap (λ (v : List ℕ). get_or v 0 0) all in
    let x_is : u32_at 12 bytes ≡ cast_unsigned w32 origin.x = ap (λ (v : List ℕ). get_or v 1 0) all ∙ x_spelled in
    let y_is : u32_at 16 bytes ≡ cast_unsigned w32 origin.y = ap (λ (v : List ℕ). get_or v 2 0) all ∙ y_spelled in
    let count_is : u32_at 20 bytes ≡ length rects = ap (λ (v : List ℕ). get_or v 3 0) all in
    let read : rects_at 24 (length rects) bytes ≡ rects =
    ap (rects_at 24 (length rects)) (e ∙ ap (λ (b : List ℕ). (h ++ words_bytes ws) ++ b) (sym (append-nil (rects_bytes rects)))) ∙ rects_behind rects (h ++ words_bytes ws) [] 24 fit refl in
    let total : length (words_bytes ws ++ rects_bytes rects) ≡ 16 + 16 * length rects = length-append (words_bytes ws) (rects_bytes rects) ∙ ap (λ (n : ℕ). 16 + n) size in (
      frame_built 3 16 (16 * length rects) bytes (words_bytes ws ++ rects_bytes rects) joined (omega arith) (omega arith) few total,
      slot_is,
      same_point origin _ _ (ap (cast_signed w32) x_is ∙ to_z-of_z w32 origin.x x_fits) (ap (cast_signed w32) y_is ∙ to_z-of_z w32 origin.y y_fits),
      count_is,
      read,
    )

pub shape_built : (w h : ℕ) (cells bytes : List ℕ) → w < 2 ^ 32 → h < 2 ^ 32 → 4 * length cells ≤ 65536 → AreWords cells → bytes ≡ (head_bytes 7 8 (4 * length cells) ++ words_bytes (w ∷ h ∷ [])) ++ words_bytes cells
    → SpellsCommand (CursorShape w h cells) bytes
shape_built w h cells bytes w_fits h_fits few fit e =
    let start = head_bytes 7 8 (4 * length cells) in
    let ws : List ℕ = w ∷ h ∷ [] in
    let are : AreWords ws = word_and w w_fits (word_and h h_fits no_words) in
    let size = length-words_bytes cells in
    let joined : bytes ≡ start ++ (words_bytes ws ++ words_bytes cells) = e ∙ append_assoc start (words_bytes ws) (words_bytes cells) in
    let all : words_at 8 2 bytes ≡ ws = ap (words_at 8 2) joined ∙ words_behind ws start (words_bytes cells) 8 are refl in
    let w_is : u32_at 8 bytes ≡ w = ap (λ (v : List ℕ). get_or v 0 0) all in
    let h_is : u32_at 12 bytes ≡ h = ap (λ (v : List ℕ). get_or v 1 0) all in
    let read : words_at 16 (length cells) bytes ≡ cells =
    ap (words_at 16 (length cells)) (e ∙ ap (λ (b : List ℕ). (start ++ words_bytes ws) ++ b) (sym (append-nil (words_bytes cells)))) ∙ words_behind cells (start ++ words_bytes ws) [] 16 fit refl in
    let total : length (words_bytes ws ++ words_bytes cells) ≡ 8 + 4 * length cells = length-append (words_bytes ws) (words_bytes cells) ∙ ap (λ (n : ℕ). 8 + n) size in
    (frame_built 7 8 (4 * length cells) bytes (words_bytes ws ++ words_bytes cells) joined (omega arith) (omega arith) few total, w_is, h_is, read)

-- the parts of a letter, one after the other
regroup : (h w a b c m p : List ℕ) → (((((h ++ w) ++ a) ++ b) ++ c) ++ m) ++ p ≡ h ++ (w ++ (a ++ (b ++ ((c ++ m) ++ p))))
regroup h w a b c m p = simp append_assoc

pub letter_built : (kind : ℕ) (words channel message payload : List ℕ) {f0 f1 f2 f3 f4 f5 bytes : List ℕ} → kind < 2 ^ 16 → length words ≤ 1 → AreWords words → length channel + length message + length payload ≤ 65536
    → length channel ≤ 65535 → length message ≤ 65535 → f0 ≡ head_bytes kind (4 * length words + 4) (length channel + length message + length payload) → f1 ≡ f0 ++ words_bytes words → f2 ≡ f1 ++ little_bytes 2 (length channel)
    → f3 ≡ f2 ++ little_bytes 2 (length message) → f4 ≡ f3 ++ channel → f5 ≡ f4 ++ message → bytes ≡ f5 ++ payload → IsLetter kind words channel message payload bytes
letter_built kind words channel message payload {bytes = bytes} kind_fits short fit few channel_fits message_fits e0 e1 e2 e3 e4 e5 e6 =
    let raw : ℕ = length channel + length message + length payload in
    let h = head_bytes kind (4 * length words + 4) raw in
    let w = words_bytes words in
    let a = little_bytes 2 (length channel) in
    let b = little_bytes 2 (length message) in
    let text = (channel ++ message) ++ payload in
    let front_is = e3 ∙ ap (λ (f : List ℕ). f ++ b) (e2 ∙ ap (λ (f : List ℕ). f ++ a) (e1 ∙ ap (λ (f : List ℕ). f ++ w) e0)) in
    let whole_is = e6 ∙ ap (λ (f : List ℕ). f ++ payload) (e5 ∙ ap (λ (f : List ℕ). f ++ message) (e4 ∙ ap (λ (f : List ℕ). f ++ channel) front_is)) in
    let joined : bytes ≡ h ++ (w ++ (a ++ (b ++ text))) = whole_is ∙ regroup h w a b channel message payload in
    let size = length-words_bytes words in
    let front : length (h ++ w) ≡ 8 + 4 * length words = length-append h w ∙ ap (λ (n : ℕ). 8 + n) size in
    let front_a : length ((h ++ w) ++ a) ≡ 10 + 4 * length words = length-append (h ++ w) a ∙ omega arith in
    let front_b : length (((h ++ w) ++ a) ++ b) ≡ 12 + 4 * length words = length-append ((h ++ w) ++ a) b ∙ omega arith in
    let at_a : bytes ≡ (h ++ w) ++ (a ++ (b ++ text)) = joined ∙ sym (append_assoc h w (a ++ (b ++ text))) in
    let at_b : bytes ≡ ((h ++ w) ++ a) ++ (b ++ text) = at_a ∙ sym (append_assoc (h ++ w) a (b ++ text)) in
    let at_text : bytes ≡ (((h ++ w) ++ a) ++ b) ++ text = at_b ∙ sym (append_assoc ((h ++ w) ++ a) b text) in
    let text_size : length text ≡ raw = length-append (channel ++ message) payload ∙ ap (λ (n : ℕ). n + length payload) (length-append channel message) in
    let parts : length (w ++ (a ++ (b ++ text))) ≡ (4 * length words + 4) + raw = length-append w (a ++ (b ++ text)) ∙ omega arith in
    record {
      frame = frame_built kind (4 * length words + 4) raw bytes (w ++ (a ++ (b ++ text))) joined kind_fits (omega arith) few parts;
      words_are = ap (words_at 8 (length words)) joined ∙ words_behind words h (a ++ (b ++ text)) 8 fit refl;
      channel_length = ap (λ (p : ℕ). u16_at p bytes) (sym front) ∙ ap (u16_at (length (h ++ w))) at_a ∙ number_behind (h ++ w) (b ++ text) 2 (length channel) (omega arith);
      message_length = ap (λ (p : ℕ). u16_at p bytes) (sym front_a) ∙ ap (u16_at (length ((h ++ w) ++ a))) at_b ∙ number_behind ((h ++ w) ++ a) text 2 (length message) (omega arith);
      text = ap (drop (12 + 4 * length words)) at_text ∙ drop_at (((h ++ w) ++ a) ++ b) text (12 + 4 * length words) front_b;
    }

-- a slice of such numbers
pub words_from : (words : List ℕ) → ((k : ℕ) → Fits w32 (get_or words k 0)) → AreWords words
words_from words all = record { each = λ k h. (all k).fits }
