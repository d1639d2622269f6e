-- What bytes that no cause refuses have.
use Rattle.std.proofs.Common.{◌≡◌, ℕ, ◌+◌, ◌*◌, ◌%◌, ◌/◌, ◌++◌, ◌∷◌, [], zero, suc, take, drop, append_assoc, ◌<◌, ◌≤◌, nat_le, nat_lt, Bool, true, false, not, ◌&&◌, ◌||◌, ◌==◌, if◌then◌else◌, List, length, Option, Some, None, refl, sym, ap, subst, ◌≢◌, length-drop, ◌∙◌, arith}
use Rattle.std.specs.Option.{option_or}
use Rattle.std.proofs.lemmas.Bool.{eqb-true}
use Rattle.std.proofs.lemmas.Bool.Decides.{nat_tests}
use Rattle.qws_frames.specs.declared.stops.FrameStop.{FrameStop}
use Rattle.qws_frames.specs.Layout.{SpellsCommand, SpellsCause, SpellsEvent, point_at, u16_at, u32_at, rect_at, rects_at, words_at, truth_of, IsFrame}
use Rattle.std.proofs.lemmas.List.{take-append-drop}
use Rattle.std.proofs.lemmas.List.FromFn.{map-range_with_len_more, length-map-range_with_len}
use Rattle.qws_frames.specs.Stops.{is_known, simple_length, raw_fits, whole_length, head_refusal, parts_refusal, field_refusal, frame_refusal, field_count, takes_bytes}
use Rattle.qws_base.specs.declared.points.Point.{Point}
use Rattle.qws_base.specs.declared.points.Rect.{Rect}
use Rattle.qws_base.specs.declared.commands.Command.TheVariants.{Region, CursorShape, Send}
use Rattle.qws_base.specs.declared.replies.Refusal.{Refusal}
use Rattle.qws_base.specs.declared.replies.Event.TheVariants.{Message}

-- a stop that isn't given
passed : (b : Bool) (stop : FrameStop) (rest : Option FrameStop) → (if b then Some stop else rest) ≡ None → (b ≡ false) × (rest ≡ None)
passed true stop rest h = cc
passed false stop rest h = (refl, h)

neither : (a b : Option FrameStop) → option_or a b ≡ None → (a ≡ None) × (b ≡ None)
neither None b h = (refl, h)
neither (Some stop) b h = cc

pub record IsSound (is_reply : Bool) (bytes : List ℕ) : Type 0 where
  pub known : is_known is_reply (u16_at 0 bytes) ≡ true
  pub few : u32_at 4 bytes ≤ 65536
  pub simple : u16_at 2 bytes ≡ simple_length (u16_at 0 bytes)
  pub whole : length bytes ≡ whole_length bytes
  pub fits : raw_fits (u16_at 0 bytes) (u32_at 4 bytes) bytes ≡ true
  pub fields : field_refusal bytes ≡ None

not_false : (b : Bool) → not b ≡ false → b ≡ true
not_false true h = refl
not_false false h = sym h

few_from : (raw : ℕ) → nat_lt 65536 raw ≡ false → raw ≤ 65536
few_from raw h = grind (arith, nat_tests)

whole_from : (a b : ℕ) → nat_lt a b ≡ false → nat_lt b a ≡ false → a ≡ b
whole_from a b h k = grind (arith, nat_tests)

pub sound : (is_reply : Bool) (bytes : List ℕ) → frame_refusal is_reply bytes ≡ None → IsSound is_reply bytes
sound is_reply bytes h =
    let parts = neither (head_refusal is_reply bytes) (option_or (parts_refusal bytes) (field_refusal bytes)) h in
    let others = neither (parts_refusal bytes) (field_refusal bytes) parts.1 in
    let h1 = passed _ _ _ parts.0 in
    let h2 = passed _ _ _ h1.1 in
    let h3 = passed _ _ _ h2.1 in
    let h4 = passed _ _ _ h3.1 in
    let p1 = passed _ _ _ others.0 in
    let p2 = passed _ _ _ p1.1 in
    let p3 = passed _ _ _ p2.1 in
    record {
      known = not_false _ h2.0;
      few = few_from (u32_at 4 bytes) h3.0;
      simple = eqb-true (u16_at 2 bytes) (simple_length (u16_at 0 bytes)) (not_false _ h4.0);
      whole = whole_from (length bytes) (whole_length bytes) p1.0 p3.0;
      fits = not_false _ p2.0;
      fields = others.1;
    }

module _ (is_reply : Bool) (bytes : List ℕ) (refused : frame_refusal is_reply bytes ≡ None) (kind simple : ℕ) (kind_is : u16_at 0 bytes ≡ kind) (simple_is : simple_length kind ≡ simple) where
  -- a frame with a raw part
  pub with_raw : IsFrame bytes kind simple (u32_at 4 bytes)
  with_raw =
      let s = sound is_reply bytes refused in
      let length_is : u16_at 2 bytes ≡ simple = s.simple ∙ ap simple_length kind_is ∙ simple_is in
      record { kind_is = kind_is; simple_is = length_is; raw_is = refl; few = s.few; whole = s.whole ∙ ap (λ (n : ℕ). 8 + n + u32_at 4 bytes) length_is }

  -- a frame whose raw part must have a length
  pub with_raw_of : (raw : ℕ) → raw_fits kind (u32_at 4 bytes) bytes ≡ (u32_at 4 bytes == raw) → IsFrame bytes kind simple raw
  with_raw_of raw fit =
      let s = sound is_reply bytes refused in
      let f = with_raw in
      let raw_is : u32_at 4 bytes ≡ raw = eqb-true (u32_at 4 bytes) raw (sym fit ∙ ap (λ (k : ℕ). raw_fits k (u32_at 4 bytes) bytes) (sym kind_is) ∙ s.fits) in
      record { kind_is = kind_is; simple_is = f.simple_is; raw_is = raw_is; few = omega arith; whole = omega arith }

  -- a frame without a raw part
  pub without_raw : raw_fits kind (u32_at 4 bytes) bytes ≡ (u32_at 4 bytes == 0) → IsFrame bytes kind simple 0
  without_raw fit = with_raw_of 0 fit

-- the fields that no cause refuses
pub record HasFields (bytes : List ℕ) : Type 0 where
  pub truth : (((u16_at 0 bytes == 9) || (u16_at 0 bytes == 132)) && nat_lt 1 (u32_at 8 bytes)) ≡ false
  pub number : ((u16_at 0 bytes == 135) && not (nat_le 1 (u32_at 8 bytes) && nat_le (u32_at 8 bytes) 16)) ≡ false
  pub send : ((u16_at 0 bytes == 12) && nat_lt (u32_at 4 bytes) (u16_at 8 bytes + u16_at 10 bytes)) ≡ false
  pub message : ((u16_at 0 bytes == 133) && nat_lt (u32_at 4 bytes) (u16_at 12 bytes + u16_at 14 bytes)) ≡ false
  pub first : ((u16_at 0 bytes == 135) && ((field_count (u32_at 8 bytes) == 0) && not (u32_at 12 bytes == 0))) ≡ false
  pub second : ((u16_at 0 bytes == 135) && (nat_lt (field_count (u32_at 8 bytes)) 2 && not (u32_at 16 bytes == 0))) ≡ false

pub has_fields : (bytes : List ℕ) → field_refusal bytes ≡ None → HasFields bytes
has_fields bytes h =
    let h1 = passed _ _ _ h in
    let h2 = passed _ _ _ h1.1 in
    let h3 = passed _ _ _ h2.1 in
    let h4 = passed _ _ _ h3.1 in
    let h5 = passed _ _ _ h4.1 in
    let h6 = passed _ _ _ h5.1 in
    record { truth = h1.0; number = h2.0; send = h3.0; message = h4.0; first = h5.0; second = h6.0 }

truth_from : (v : ℕ) → nat_lt 1 v ≡ false → v ≡ truth_of (v == 1)
truth_from zero h = refl
truth_from (suc zero) h = refl
truth_from (suc (suc v)) h = absurd (grind (arith, nat_tests))

sum_from : (raw n : ℕ) → nat_lt raw n ≡ false → n ≤ raw
sum_from raw n h = grind (arith, nat_tests)

number_from : (n : ℕ) → not (nat_le 1 n && nat_le n 16) ≡ false → (1 ≤ n) × (n ≤ 16)
number_from n h = (grind (arith, nat_tests), grind (arith, nat_tests))

first_from : (count v : ℕ) → ((count == 0) && not (v == 0)) ≡ false → count ≡ 0 → v ≡ 0
first_from count v h none = grind (arith, nat_tests)

second_from : (count v : ℕ) → (nat_lt count 2 && not (v == 0)) ≡ false → count < 2 → v ≡ 0
second_from count v h few = grind (arith, nat_tests)

quarter : (n : ℕ) → n % 4 ≡ 0 → n ≡ 4 * (n / 4)
quarter n h = omega arith

module _ (is_reply : Bool) (bytes : List ℕ) (refused : frame_refusal is_reply bytes ≡ None) where
  fine : HasFields bytes
  fine = has_fields bytes (sound is_reply bytes refused).fields

  pub truth_at : (kind : ℕ) → u16_at 0 bytes ≡ kind → ((kind == 9) || (kind == 132)) ≡ true → u32_at 8 bytes ≡ truth_of (u32_at 8 bytes == 1)
  truth_at kind is truth =
      truth_from (u32_at 8 bytes) (ap (λ (b : Bool). b && nat_lt 1 (u32_at 8 bytes)) (sym truth ∙ ap (λ (k : ℕ). (k == 9) || (k == 132)) (sym is)) ∙ fine.truth)

  pub send_lengths : u16_at 0 bytes ≡ 12 → u16_at 8 bytes + u16_at 10 bytes ≤ u32_at 4 bytes
  send_lengths is =
      sum_from (u32_at 4 bytes) (u16_at 8 bytes + u16_at 10 bytes) (ap (λ (k : ℕ). (k == 12) && nat_lt (u32_at 4 bytes) (u16_at 8 bytes + u16_at 10 bytes)) (sym is) ∙ fine.send)

  pub message_lengths : u16_at 0 bytes ≡ 133 → u16_at 12 bytes + u16_at 14 bytes ≤ u32_at 4 bytes
  message_lengths is =
      sum_from (u32_at 4 bytes) (u16_at 12 bytes + u16_at 14 bytes) (ap (λ (k : ℕ). (k == 133) && nat_lt (u32_at 4 bytes) (u16_at 12 bytes + u16_at 14 bytes)) (sym is) ∙ fine.message)

  pub number_range : u16_at 0 bytes ≡ 135 → (1 ≤ u32_at 8 bytes) × (u32_at 8 bytes ≤ 16)
  number_range is =
      number_from (u32_at 8 bytes) (ap (λ (k : ℕ). (k == 135) && not (nat_le 1 (u32_at 8 bytes) && nat_le (u32_at 8 bytes) 16)) (sym is) ∙ fine.number)

  pub first_unused : u16_at 0 bytes ≡ 135 → field_count (u32_at 8 bytes) ≡ 0 → u32_at 12 bytes ≡ 0
  first_unused is =
      first_from (field_count (u32_at 8 bytes)) (u32_at 12 bytes) (ap (λ (k : ℕ). (k == 135) && ((field_count (u32_at 8 bytes) == 0) && not (u32_at 12 bytes == 0))) (sym is) ∙ fine.first)

  pub second_unused : u16_at 0 bytes ≡ 135 → field_count (u32_at 8 bytes) < 2 → u32_at 16 bytes ≡ 0
  second_unused is =
      second_from (field_count (u32_at 8 bytes)) (u32_at 16 bytes) (ap (λ (k : ℕ). (k == 135) && (nat_lt (field_count (u32_at 8 bytes)) 2 && not (u32_at 16 bytes == 0))) (sym is) ∙ fine.second)

  pub raw_of_region : u16_at 0 bytes ≡ 3 → u32_at 4 bytes ≡ 16 * u32_at 20 bytes
  raw_of_region is =
      eqb-true (u32_at 4 bytes) (16 * u32_at 20 bytes) (ap (λ (k : ℕ). raw_fits k (u32_at 4 bytes) bytes) (sym is) ∙ (sound is_reply bytes refused).fits)

  pub raw_of_cells : u16_at 0 bytes ≡ 7 → u32_at 4 bytes ≡ 4 * (u32_at 4 bytes / 4)
  raw_of_cells is =
      let rest : u32_at 4 bytes % 4 ≡ 0 = eqb-true (u32_at 4 bytes % 4) 0 (ap (λ (k : ℕ). raw_fits k (u32_at 4 bytes) bytes) (sym is) ∙ (sound is_reply bytes refused).fits) in
      quarter (u32_at 4 bytes) rest

pub letter_parts : (xs : List ℕ) (a b : ℕ) → xs ≡ (take a xs ++ take b (drop a xs)) ++ drop b (drop a xs)
letter_parts xs a b =
    sym (append_assoc (take a xs) (take b (drop a xs)) (drop b (drop a xs)) ∙ ap (λ (rest : List ℕ). take a xs ++ rest) (take-append-drop b (drop a xs)) ∙ take-append-drop a xs)

pub rects_more : (bytes : List ℕ) (at k : ℕ) → rects_at at (k + 1) bytes ≡ rects_at at k bytes ++ rect_at (at + 16 * k) bytes ∷ []
rects_more bytes at k = map-range_with_len_more (λ j. rect_at (at + 16 * j) bytes) 0 k k (omega arith)

pub words_more : (bytes : List ℕ) (at k : ℕ) → words_at at (k + 1) bytes ≡ words_at at k bytes ++ u32_at (at + 4 * k) bytes ∷ []
words_more bytes at k = map-range_with_len_more (λ j. u32_at (at + 4 * j) bytes) 0 k k (omega arith)

reframed : (bytes : List ℕ) (kind simple raw other : ℕ) → IsFrame bytes kind simple raw → raw ≡ other → IsFrame bytes kind simple other
reframed bytes kind simple raw other f e = subst (λ (n : ℕ). IsFrame bytes kind simple n) e f

module _ (bytes : List ℕ) where
  pub region_spelled : frame_refusal false bytes ≡ None → u16_at 0 bytes ≡ 3 → (slot count : ℕ) (origin : Point) (rects : List Rect) → slot ≡ u32_at 8 bytes → origin ≡ point_at 12 bytes → count ≡ u32_at 20 bytes → rects ≡ rects_at 24 count bytes
      → SpellsCommand (Region slot origin rects) bytes
  region_spelled refused is slot count origin rects s o n r =
      let size : length rects ≡ count = ap length r ∙ length-map-range_with_len (λ k. rect_at (24 + 16 * k) bytes) 0 count in
      let frame = with_raw_of false bytes refused 3 16 is refl (16 * u32_at 20 bytes) refl in
      let same : 16 * u32_at 20 bytes ≡ 16 * length rects = ap (λ (k : ℕ). 16 * k) (sym n ∙ sym size) in
      (reframed bytes 3 16 (16 * u32_at 20 bytes) (16 * length rects) frame same, sym s, sym o, sym n ∙ sym size, ap (λ (k : ℕ). rects_at 24 k bytes) size ∙ sym r)

  pub shape_spelled : frame_refusal false bytes ≡ None → u16_at 0 bytes ≡ 7 → (w h count : ℕ) (cells : List ℕ) → w ≡ u32_at 8 bytes → h ≡ u32_at 12 bytes → count ≡ u32_at 4 bytes / 4 → cells ≡ words_at 16 count bytes
      → SpellsCommand (CursorShape w h cells) bytes
  shape_spelled refused is w h count cells we he n r =
      let size : length cells ≡ count = ap length r ∙ length-map-range_with_len (λ k. u32_at (16 + 4 * k) bytes) 0 count in
      let frame = with_raw false bytes refused 7 8 is refl in
      let same : u32_at 4 bytes ≡ 4 * length cells = raw_of_cells false bytes refused is ∙ ap (λ (k : ℕ). 4 * k) (sym n ∙ sym size) in
      (reframed bytes 7 8 (u32_at 4 bytes) (4 * length cells) frame same, sym we, sym he, ap (λ (k : ℕ). words_at 16 k bytes) size ∙ sym r)

  -- the raw part is what follows the simple part
  letter_frame : (is_reply : Bool) → frame_refusal is_reply bytes ≡ None → (kind simple a b c : ℕ) → u16_at 0 bytes ≡ kind → simple_length kind ≡ simple → ((8 + simple) + a) + b + c ≡ length bytes → IsFrame bytes kind simple (a + b + c)
  letter_frame is_reply refused kind simple a b c is size total =
      let frame = with_raw is_reply bytes refused kind simple is size in
      let whole = frame.whole in
      reframed bytes kind simple (u32_at 4 bytes) (a + b + c) frame (omega arith)

  pub send_spelled : frame_refusal false bytes ≡ None → u16_at 0 bytes ≡ 12 → (channel message payload : List ℕ) (a b : ℕ) → a ≡ u16_at 8 bytes → b ≡ u16_at 10 bytes → length channel ≡ a → length message ≡ b
      → 12 + a + b + length payload ≡ length bytes → drop 12 bytes ≡ (channel ++ message) ++ payload → SpellsCommand (Send channel message payload) bytes
  send_spelled refused is channel message payload a b ae be cl ml total text =
      (letter_frame false refused 12 4 (length channel) (length message) (length payload) is refl (omega arith), sym ae ∙ sym cl, sym be ∙ sym ml, text)

  pub message_spelled : frame_refusal true bytes ≡ None → u16_at 0 bytes ≡ 133 → (channel message payload : List ℕ) (from a b : ℕ) → from ≡ u32_at 8 bytes → a ≡ u16_at 12 bytes → b ≡ u16_at 14 bytes → length channel ≡ a → length message ≡ b
      → 16 + a + b + length payload ≡ length bytes → drop 16 bytes ≡ (channel ++ message) ++ payload → SpellsEvent (Message channel from message payload) bytes
  message_spelled refused is channel message payload from a b fe ae be cl ml total text =
      (letter_frame true refused 133 8 (length channel) (length message) (length payload) is refl (omega arith), sym fe, sym ae ∙ sym cl, sym be ∙ sym ml, text)

  -- a raw part of any bytes after a head without a simple part
  pub open_frame : (kind : ℕ) → frame_refusal false bytes ≡ None → u16_at 0 bytes ≡ kind → simple_length kind ≡ 0 → (channel : List ℕ) → channel ≡ drop 8 bytes → IsFrame bytes kind 0 (length channel) × (drop 8 bytes ≡ channel)
  open_frame kind refused is size channel text =
      let frame = with_raw false bytes refused kind 0 is size in
      let whole = frame.whole in
      let rest = ap length text in
      (reframed bytes kind 0 (u32_at 4 bytes) (length channel) frame (omega (arith, length-drop {A = ℕ})), sym text)

-- the types that are left
pub is_take : (kind : ℕ) → is_known false kind ≡ true → takes_bytes kind ≡ false → kind ≢ 1 → kind ≢ 2 → kind ≢ 3 → kind ≢ 4 → kind ≢ 5 → kind ≢ 6 → kind ≢ 7 → kind ≢ 8 → kind ≢ 9 → kind ≡ 13
is_take kind known bytes n1 n2 n3 n4 n5 n6 n7 n8 n9 = grind (arith, nat_tests)

pub is_refused : (kind : ℕ) → is_known true kind ≡ true → kind ≢ 129 → kind ≢ 130 → kind ≢ 131 → kind ≢ 132 → kind ≢ 133 → kind ≢ 134 → kind ≡ 135
is_refused kind known n1 n2 n3 n4 n5 n6 = grind (arith, nat_tests)

pub cause_at : (cause : Refusal) (number first second n f t : ℕ) → number ≡ n → first ≡ f → second ≡ t → SpellsCause cause number first second → SpellsCause cause n f t
cause_at cause number first second n f t ne fe te h =
    subst (λ (x : ℕ). SpellsCause cause n f x) te (subst (λ (x : ℕ). SpellsCause cause n x second) fe (subst (λ (x : ℕ). SpellsCause cause x first second) ne h))
