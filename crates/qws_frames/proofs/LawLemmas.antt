-- What spelled bytes have: no cause refuses them, and they are read back.
use Rattle.std.proofs.Common.{◌≡◌, ℕ, ◌+◌, ◌*◌, ◌%◌, ◌/◌, ◌++◌, ◌∷◌, [], ◌≤◌, nat_le, nat_lt, Bool, true, false, not, ◌&&◌, ◌||◌, ◌==◌, if◌then◌else◌, List, length, take, drop, append_assoc, ℤ, Option, Some, None, Result, Ok, Err, IfOk, refl, sym, ap, ◌∙◌, arith}
use Rattle.std.specs.Option.{option_or}
use Rattle.std.proofs.lemmas.Bool.Decides.{nat_tests}
use Rattle.std.specs.Int.{w32, cast_signed}
use Rattle.qws_base.specs.declared.points.Point.{Point}
use Rattle.qws_base.specs.declared.points.Rect.{Rect}
use Rattle.qws_base.specs.declared.commands.Command.{Command}
use Rattle.qws_base.specs.declared.commands.Command.TheVariants.{Create, Destroy, Region, Move, Raise, Lower, CursorShape, CursorMove, CursorShow, Join, Leave, Send, Take, IsRegistered}
use Rattle.qws_frames.specs.declared.stops.FrameStop.{FrameStop}
use Rattle.qws_frames.specs.Layout.{u16_at, u32_at, i32_at, point_at, rects_at, words_at, truth_of, IsFrame, SpellsCommand, SpellsCause, SpellsEvent, SpellsReply}
use Rattle.qws_frames.specs.Stops.{is_known, simple_length, raw_fits, whole_length, head_refusal, parts_refusal, field_refusal, frame_refusal, first_stop, field_count, refusal_in, IsOrNoMemory}
use Rattle.qws_base.specs.declared.replies.Event.{Event}
use Rattle.qws_base.specs.declared.replies.Event.TheVariants.{Message, RegionModified}
use Rattle.qws_base.specs.declared.replies.Refusal.{Refusal}
use Rattle.qws_base.specs.declared.replies.Refusal.TheVariants.{NoWindow, NotYours, NoSlot, BadLayer, BadRegion, TooComplex, OffScreen, BadShape, Joined, TooManyChannels, BadName, NotJoined, NoChannel, MailboxFull, TooLarge, Empty}
use Rattle.qws_base.specs.declared.replies.Reply.{Reply}
use Rattle.qws_base.specs.declared.replies.Reply.TheVariants as reply
use Rattle.qws_frames.specs.declared.stops.FrameStop.TheVariants.{Short, BadType, BadLength, BadField, TooLong, OutOfMemory}
use Rattle.std.proofs.lemmas.List.{take-append-le, take_all}
use Rattle.std.proofs.Math.Seq.{drop-append_seam}

-- ---- no cause refuses what is spelled

pass : (b : Bool) (stop : FrameStop) (rest : Option FrameStop) → b ≡ false → rest ≡ None → (if b then Some stop else rest) ≡ None
pass true stop rest h r = cc
pass false stop rest h r = r

both_none : (a b : Option FrameStop) → a ≡ None → b ≡ None → option_or a b ≡ None
both_none None b h k = k
both_none (Some stop) b h k = cc

not_true : (b : Bool) → b ≡ true → not b ≡ false
not_true true h = refl
not_true false h = sym h

not_below : (a b : ℕ) → b ≤ a → nat_lt a b ≡ false
not_below a b h = grind (arith, nat_tests)

equal_test : (a b : ℕ) → a ≡ b → (a == b) ≡ true
equal_test a b h = grind (arith, nat_tests)

-- bytes with a head and fields that no cause refuses
module _ (is_reply : Bool) (bytes : List ℕ) (kind simple raw : ℕ) (f : IsFrame bytes kind simple raw) (known : is_known is_reply kind ≡ true) (size : simple_length kind ≡ simple) where
  head_none : head_refusal is_reply bytes ≡ None
  head_none =
      let whole = f.whole in
      let raw_is = f.raw_is in
      let few = f.few in
      pass _ _ _ (not_below (length bytes) 8 (omega arith))
      (pass _ _ _ (not_true _ (ap (is_known is_reply) f.kind_is ∙ known))
      (pass _ _ _ (not_below 65536 (u32_at 4 bytes) (omega arith))
      (pass _ _ _ (not_true _ (equal_test (u16_at 2 bytes) (simple_length (u16_at 0 bytes)) (f.simple_is ∙ sym size ∙ ap simple_length (sym f.kind_is)))) refl)))

  parts_none : raw_fits kind raw bytes ≡ true → parts_refusal bytes ≡ None
  parts_none fits =
      let whole : whole_length bytes ≡ length bytes = ap (λ (n : ℕ). 8 + n + u32_at 4 bytes) f.simple_is ∙ ap (λ (n : ℕ). 8 + simple + n) f.raw_is ∙ sym f.whole in
      pass _ _ _ (not_below (length bytes) (whole_length bytes) (omega arith))
      (pass _ _ _ (not_true _ (ap (λ (k : ℕ). raw_fits k (u32_at 4 bytes) bytes) f.kind_is ∙ ap (λ (r : ℕ). raw_fits kind r bytes) f.raw_is ∙ fits))
      (pass _ _ _ (not_below (whole_length bytes) (length bytes) (omega arith)) refl))

  pub none_refused : raw_fits kind raw bytes ≡ true → field_refusal bytes ≡ None → frame_refusal is_reply bytes ≡ None
  none_refused fits fields = both_none (head_refusal is_reply bytes) (option_or (parts_refusal bytes) (field_refusal bytes)) head_none (both_none (parts_refusal bytes) (field_refusal bytes) (parts_none fits) fields)

-- the fields of a type
abbrev fields_at : ℕ → List ℕ → Option FrameStop
fields_at kind bytes =
    first_stop (
    (((kind == 9) || (kind == 132)) && nat_lt 1 (u32_at 8 bytes), BadField 8)
    ∷ ((kind == 135) && not (nat_le 1 (u32_at 8 bytes) && nat_le (u32_at 8 bytes) 16), BadField 8)
    ∷ ((kind == 12) && nat_lt (u32_at 4 bytes) (u16_at 8 bytes + u16_at 10 bytes), BadField 8)
    ∷ ((kind == 133) && nat_lt (u32_at 4 bytes) (u16_at 12 bytes + u16_at 14 bytes), BadField 12)
    ∷ ((kind == 135) && ((field_count (u32_at 8 bytes) == 0) && not (u32_at 12 bytes == 0)), BadField 12)
    ∷ ((kind == 135) && (nat_lt (field_count (u32_at 8 bytes)) 2 && not (u32_at 16 bytes == 0)), BadField 16)
    ∷ [])

fields_by : (bytes : List ℕ) (kind : ℕ) → u16_at 0 bytes ≡ kind → fields_at kind bytes ≡ None → field_refusal bytes ≡ None
fields_by bytes kind is h = ap (λ (k : ℕ). fields_at k bytes) is ∙ h

truth_fits : (b : Bool) (v : ℕ) → v ≡ truth_of b → nat_lt 1 v ≡ false
truth_fits true v h = ap (nat_lt 1) h
truth_fits false v h = ap (nat_lt 1) h

truth_back : (b : Bool) (v : ℕ) → v ≡ truth_of b → (v == 1) ≡ b
truth_back true v h = ap (λ (n : ℕ). n == 1) h
truth_back false v h = ap (λ (n : ℕ). n == 1) h

fourfold : (n : ℕ) → ((4 * n) % 4) ≡ 0
fourfold n = omega arith

quarter_of : (n : ℕ) → (4 * n) / 4 ≡ n
quarter_of n = omega arith

pub command_none : (c : Command) (bytes : List ℕ) → SpellsCommand c bytes → frame_refusal false bytes ≡ None
command_none (Create layer) bytes h = none_refused false bytes 1 4 0 h.0 refl refl refl (fields_by bytes 1 h.0.kind_is refl)
command_none (Destroy slot) bytes h = none_refused false bytes 2 4 0 h.0 refl refl refl (fields_by bytes 2 h.0.kind_is refl)
command_none (Region slot origin rects) bytes h =
    none_refused false bytes 3 16 (16 * length rects) h.0 refl refl (equal_test (16 * length rects) (16 * u32_at 20 bytes) (ap (λ (n : ℕ). 16 * n) (sym h.3)))
    (fields_by bytes 3 h.0.kind_is refl)
command_none (Move slot origin) bytes h = none_refused false bytes 4 12 0 h.0 refl refl refl (fields_by bytes 4 h.0.kind_is refl)
command_none (Raise slot) bytes h = none_refused false bytes 5 4 0 h.0 refl refl refl (fields_by bytes 5 h.0.kind_is refl)
command_none (Lower slot) bytes h = none_refused false bytes 6 4 0 h.0 refl refl refl (fields_by bytes 6 h.0.kind_is refl)
command_none (CursorShape w h cells) bytes s =
    none_refused false bytes 7 8 (4 * length cells) s.0 refl refl (equal_test ((4 * length cells) % 4) 0 (fourfold (length cells))) (fields_by bytes 7 s.0.kind_is refl)
command_none (CursorMove x y) bytes h = none_refused false bytes 8 8 0 h.0 refl refl refl (fields_by bytes 8 h.0.kind_is refl)
command_none (CursorShow shown) bytes h =
    none_refused false bytes 9 4 0 h.0 refl refl refl (fields_by bytes 9 h.0.kind_is (pass _ _ _ (truth_fits shown (u32_at 8 bytes) h.1) refl))
command_none (Join channel) bytes h = none_refused false bytes 10 0 (length channel) h.0 refl refl refl (fields_by bytes 10 h.0.kind_is refl)
command_none (Leave channel) bytes h = none_refused false bytes 11 0 (length channel) h.0 refl refl refl (fields_by bytes 11 h.0.kind_is refl)
command_none (Send channel message payload) bytes h =
    let a = h.1 in
    let b = h.2 in
    let raw = h.0.raw_is in
    none_refused false bytes 12 4 (length channel + length message + length payload) h.0 refl refl refl
    (fields_by bytes 12 h.0.kind_is (pass _ _ _ (not_below (u32_at 4 bytes) (u16_at 8 bytes + u16_at 10 bytes) (omega arith)) refl))
command_none Take bytes h = none_refused false bytes 13 0 0 h refl refl refl (fields_by bytes 13 h.kind_is refl)
command_none (IsRegistered channel) bytes h = none_refused false bytes 14 0 (length channel) h.0 refl refl refl (fields_by bytes 14 h.0.kind_is refl)

-- ---- what is spelled is read back

-- the command of a type
abbrev command_of : ℕ → List ℕ → Command
command_of kind bytes =
    if kind == 1 then Create (u32_at 8 bytes)
    else (if kind == 2 then Destroy (u32_at 8 bytes)
    else (if kind == 3 then Region (u32_at 8 bytes) (point_at 12 bytes) (rects_at 24 (u32_at 20 bytes) bytes)
    else (if kind == 4 then Move (u32_at 8 bytes) (point_at 12 bytes)
    else (if kind == 5 then Raise (u32_at 8 bytes)
    else (if kind == 6 then Lower (u32_at 8 bytes)
    else (if kind == 7 then CursorShape (u32_at 8 bytes) (u32_at 12 bytes) (words_at 16 (u32_at 4 bytes / 4) bytes)
    else (if kind == 8 then CursorMove (i32_at 8 bytes) (i32_at 12 bytes)
    else (if kind == 9 then CursorShow (u32_at 8 bytes == 1)
    else (if kind == 10 then Join (drop 8 bytes)
    else (if kind == 11 then Leave (drop 8 bytes)
    else (if kind == 12 then Send (take (u16_at 8 bytes) (drop 12 bytes)) (take (u16_at 10 bytes) (drop (u16_at 8 bytes) (drop 12 bytes))) (drop (u16_at 10 bytes) (drop (u16_at 8 bytes) (drop 12 bytes)))
    else (if kind == 13 then Take else IsRegistered (drop 8 bytes)))))))))))))

module _ (text channel message payload : List ℕ) (a b : ℕ) (spelled : text ≡ (channel ++ message) ++ payload) (first : a ≡ length channel) (second : b ≡ length message) where
  joined : text ≡ channel ++ (message ++ payload)
  joined = spelled ∙ append_assoc channel message payload

  pub channel_back : take a text ≡ channel
  channel_back = ap (λ (n : ℕ). take n text) first ∙ ap (take (length channel)) joined ∙ take-append-le (length channel) channel (message ++ payload) (omega arith) ∙ take_all (length channel) channel (omega arith)

  others_back : drop a text ≡ message ++ payload
  others_back = ap (λ (n : ℕ). drop n text) first ∙ ap (drop (length channel)) joined ∙ drop-append_seam channel (message ++ payload)

  pub message_back : take b (drop a text) ≡ message
  message_back = ap (λ (n : ℕ). take n (drop a text)) second ∙ ap (take (length message)) others_back ∙ take-append-le (length message) message payload (omega arith) ∙ take_all (length message) message (omega arith)

  pub payload_back : drop b (drop a text) ≡ payload
  payload_back = ap (λ (n : ℕ). drop n (drop a text)) second ∙ ap (drop (length message)) others_back ∙ drop-append_seam message payload

pub command_back : (c : Command) (bytes : List ℕ) → SpellsCommand c bytes → command_of (u16_at 0 bytes) bytes ≡ c
command_back (Create layer) bytes h = ap (λ (k : ℕ). command_of k bytes) h.0.kind_is ∙ ap Create h.1
command_back (Destroy slot) bytes h = ap (λ (k : ℕ). command_of k bytes) h.0.kind_is ∙ ap Destroy h.1
command_back (Region slot origin rects) bytes h =
    ap (λ (k : ℕ). command_of k bytes) h.0.kind_is ∙ ap (λ (s : ℕ). Region s (point_at 12 bytes) (rects_at 24 (u32_at 20 bytes) bytes)) h.1
    ∙ ap (λ (o : Point). Region slot o (rects_at 24 (u32_at 20 bytes) bytes)) h.2
    ∙ ap (λ (all : List Rect). Region slot origin all) (ap (λ (n : ℕ). rects_at 24 n bytes) h.3 ∙ h.4)
command_back (Move slot origin) bytes h =
    ap (λ (k : ℕ). command_of k bytes) h.0.kind_is ∙ ap (λ (s : ℕ). Move s (point_at 12 bytes)) h.1 ∙ ap (λ (o : Point). Move slot o) h.2
command_back (Raise slot) bytes h = ap (λ (k : ℕ). command_of k bytes) h.0.kind_is ∙ ap Raise h.1
command_back (Lower slot) bytes h = ap (λ (k : ℕ). command_of k bytes) h.0.kind_is ∙ ap Lower h.1
command_back (CursorShape w h cells) bytes s =
    ap (λ (k : ℕ). command_of k bytes) s.0.kind_is ∙ ap (λ (n : ℕ). CursorShape n (u32_at 12 bytes) (words_at 16 (u32_at 4 bytes / 4) bytes)) s.1
    ∙ ap (λ (n : ℕ). CursorShape w n (words_at 16 (u32_at 4 bytes / 4) bytes)) s.2
    ∙ ap (λ (all : List ℕ). CursorShape w h all) (ap (λ (n : ℕ). words_at 16 n bytes) (ap (λ (n : ℕ). n / 4) s.0.raw_is ∙ quarter_of (length cells)) ∙ s.3)
command_back (CursorMove x y) bytes h =
    ap (λ (k : ℕ). command_of k bytes) h.0.kind_is ∙ ap (λ (a : ℤ). CursorMove a (i32_at 12 bytes)) h.1 ∙ ap (λ (b : ℤ). CursorMove x b) h.2
command_back (CursorShow shown) bytes h = ap (λ (k : ℕ). command_of k bytes) h.0.kind_is ∙ ap CursorShow (truth_back shown (u32_at 8 bytes) h.1)
command_back (Join channel) bytes h = ap (λ (k : ℕ). command_of k bytes) h.0.kind_is ∙ ap Join h.1
command_back (Leave channel) bytes h = ap (λ (k : ℕ). command_of k bytes) h.0.kind_is ∙ ap Leave h.1
command_back (Send channel message payload) bytes h =
    let text = drop 12 bytes in
    let a = u16_at 8 bytes in
    let b = u16_at 10 bytes in
    ap (λ (k : ℕ). command_of k bytes) h.0.kind_is
    ∙ ap (λ (c : List ℕ). Send c (take b (drop a text)) (drop b (drop a text))) (channel_back text channel message payload a b h.3 h.1 h.2)
    ∙ ap (λ (m : List ℕ). Send channel m (drop b (drop a text))) (message_back text channel message payload a b h.3 h.1 h.2)
    ∙ ap (λ (p : List ℕ). Send channel message p) (payload_back text channel message payload a b h.3 h.1 h.2)
command_back Take bytes h = ap (λ (k : ℕ). command_of k bytes) h.kind_is
command_back (IsRegistered channel) bytes h = ap (λ (k : ℕ). command_of k bytes) h.0.kind_is ∙ ap IsRegistered h.1

-- bytes spell at most one command
pub one_command : (c d : Command) (bytes : List ℕ) → SpellsCommand c bytes → SpellsCommand d bytes → c ≡ d
one_command c d bytes h k = sym (command_back c bytes h) ∙ command_back d bytes k

-- ---- the same of replies

-- the refusal of a number and two fields
abbrev cause_of : ℕ → ℕ → ℕ → Refusal
cause_of number first second =
    if number == 1 then NoWindow first
    else (if number == 2 then NotYours first second
    else (if number == 3 then NoSlot
    else (if number == 4 then BadLayer first
    else (if number == 5 then BadRegion first
    else (if number == 6 then TooComplex first second
    else (if number == 7 then OffScreen (cast_signed w32 first) (cast_signed w32 second)
    else (if number == 8 then BadShape first second
    else (if number == 9 then Joined
    else (if number == 10 then TooManyChannels
    else (if number == 11 then BadName
    else (if number == 12 then NotJoined
    else (if number == 13 then NoChannel
    else (if number == 14 then MailboxFull first
    else (if number == 15 then TooLarge first else Empty))))))))))))))

cause_back : (c : Refusal) (n f s : ℕ) → SpellsCause c n f s → cause_of n f s ≡ c
cause_back (NoWindow slot) n f s h = ap (λ (k : ℕ). cause_of k f s) h.0 ∙ ap NoWindow h.1
cause_back (NotYours slot owner) n f s h = ap (λ (k : ℕ). cause_of k f s) h.0 ∙ ap (λ (a : ℕ). NotYours a s) h.1 ∙ ap (λ (b : ℕ). NotYours slot b) h.2
cause_back NoSlot n f s h = ap (λ (k : ℕ). cause_of k f s) h.0
cause_back (BadLayer layer) n f s h = ap (λ (k : ℕ). cause_of k f s) h.0 ∙ ap BadLayer h.1
cause_back (BadRegion index) n f s h = ap (λ (k : ℕ). cause_of k f s) h.0 ∙ ap BadRegion h.1
cause_back (TooComplex slot rects) n f s h = ap (λ (k : ℕ). cause_of k f s) h.0 ∙ ap (λ (a : ℕ). TooComplex a s) h.1 ∙ ap (λ (b : ℕ). TooComplex slot b) h.2
cause_back (OffScreen x y) n f s h = ap (λ (k : ℕ). cause_of k f s) h.0 ∙ ap (λ (a : ℤ). OffScreen a (cast_signed w32 s)) h.1 ∙ ap (λ (b : ℤ). OffScreen x b) h.2
cause_back (BadShape w k) n f s h = ap (λ (k : ℕ). cause_of k f s) h.0 ∙ ap (λ (a : ℕ). BadShape a s) h.1 ∙ ap (λ (b : ℕ). BadShape w b) h.2
cause_back Joined n f s h = ap (λ (k : ℕ). cause_of k f s) h.0
cause_back TooManyChannels n f s h = ap (λ (k : ℕ). cause_of k f s) h.0
cause_back BadName n f s h = ap (λ (k : ℕ). cause_of k f s) h.0
cause_back NotJoined n f s h = ap (λ (k : ℕ). cause_of k f s) h.0
cause_back NoChannel n f s h = ap (λ (k : ℕ). cause_of k f s) h.0
cause_back (MailboxFull client) n f s h = ap (λ (k : ℕ). cause_of k f s) h.0 ∙ ap MailboxFull h.1
cause_back (TooLarge len) n f s h = ap (λ (k : ℕ). cause_of k f s) h.0 ∙ ap TooLarge h.1
cause_back Empty n f s h = ap (λ (k : ℕ). cause_of k f s) h.0

-- the tests of a refusal's fields
abbrev cause_fits : ℕ → ℕ → ℕ → Type 0
cause_fits n f s =
    ((nat_le 1 n && nat_le n 16) ≡ true) × (((field_count n == 0) && not (f == 0)) ≡ false) × ((nat_lt (field_count n) 2 && not (s == 0)) ≡ false)

-- a number, and a field that is 0
fits_zero : (k n f s : ℕ) → n ≡ k → f ≡ 0 → s ≡ 0 → (nat_le 1 k && nat_le k 16) ≡ true → cause_fits n f s
fits_zero k n f s ne fe se range =
    (ap (λ (m : ℕ). nat_le 1 m && nat_le m 16) ne ∙ range, ap (λ (m : ℕ). (field_count n == 0) && not (m == 0)) fe ∙ and_false (field_count n == 0), ap (λ (m : ℕ). nat_lt (field_count n) 2 && not (m == 0)) se ∙ and_false (nat_lt (field_count n) 2))
  where
    and_false : (b : Bool) → (b && false) ≡ false
    and_false true = refl
    and_false false = refl

fits_one : (k n f s : ℕ) → n ≡ k → s ≡ 0 → (nat_le 1 k && nat_le k 16) ≡ true → (field_count k == 0) ≡ false → cause_fits n f s
fits_one k n f s ne se range one =
    (ap (λ (m : ℕ). nat_le 1 m && nat_le m 16) ne ∙ range, ap (λ (b : Bool). b && not (f == 0)) (ap (λ (m : ℕ). field_count m == 0) ne ∙ one), ap (λ (m : ℕ). nat_lt (field_count n) 2 && not (m == 0)) se ∙ and_false (nat_lt (field_count n) 2))
  where
    and_false : (b : Bool) → (b && false) ≡ false
    and_false true = refl
    and_false false = refl

fits_two : (k n f s : ℕ) → n ≡ k → (nat_le 1 k && nat_le k 16) ≡ true → (field_count k == 0) ≡ false → nat_lt (field_count k) 2 ≡ false → cause_fits n f s
fits_two k n f s ne range one two =
    (ap (λ (m : ℕ). nat_le 1 m && nat_le m 16) ne ∙ range, ap (λ (b : Bool). b && not (f == 0)) (ap (λ (m : ℕ). field_count m == 0) ne ∙ one), ap (λ (b : Bool). b && not (s == 0)) (ap (λ (m : ℕ). nat_lt (field_count m) 2) ne ∙ two))

cause_in_range : (c : Refusal) (n f s : ℕ) → SpellsCause c n f s → cause_fits n f s
cause_in_range (NoWindow slot) n f s h = fits_one 1 n f s h.0 h.2 refl refl
cause_in_range (NotYours slot owner) n f s h = fits_two 2 n f s h.0 refl refl refl
cause_in_range NoSlot n f s h = fits_zero 3 n f s h.0 h.1 h.2 refl
cause_in_range (BadLayer layer) n f s h = fits_one 4 n f s h.0 h.2 refl refl
cause_in_range (BadRegion index) n f s h = fits_one 5 n f s h.0 h.2 refl refl
cause_in_range (TooComplex slot rects) n f s h = fits_two 6 n f s h.0 refl refl refl
cause_in_range (OffScreen x y) n f s h = fits_two 7 n f s h.0 refl refl refl
cause_in_range (BadShape w k) n f s h = fits_two 8 n f s h.0 refl refl refl
cause_in_range Joined n f s h = fits_zero 9 n f s h.0 h.1 h.2 refl
cause_in_range TooManyChannels n f s h = fits_zero 10 n f s h.0 h.1 h.2 refl
cause_in_range BadName n f s h = fits_zero 11 n f s h.0 h.1 h.2 refl
cause_in_range NotJoined n f s h = fits_zero 12 n f s h.0 h.1 h.2 refl
cause_in_range NoChannel n f s h = fits_zero 13 n f s h.0 h.1 h.2 refl
cause_in_range (MailboxFull client) n f s h = fits_one 14 n f s h.0 h.2 refl refl
cause_in_range (TooLarge len) n f s h = fits_one 15 n f s h.0 h.2 refl refl
cause_in_range Empty n f s h = fits_zero 16 n f s h.0 h.1 h.2 refl

event_none : (e : Event) (bytes : List ℕ) → SpellsEvent e bytes → frame_refusal true bytes ≡ None
event_none (Message channel from message payload) bytes h =
    let a = h.2 in
    let b = h.3 in
    let raw = h.0.raw_is in
    none_refused true bytes 133 8 (length channel + length message + length payload) h.0 refl refl refl
    (fields_by bytes 133 h.0.kind_is (pass _ _ _ (not_below (u32_at 4 bytes) (u16_at 12 bytes + u16_at 14 bytes) (omega arith)) refl))
event_none (RegionModified slot) bytes h = none_refused true bytes 134 4 0 h.0 refl refl refl (fields_by bytes 134 h.0.kind_is refl)

pub reply_none : (r : Reply) (bytes : List ℕ) → SpellsReply r bytes → frame_refusal true bytes ≡ None
reply_none (reply.Created slot) bytes h = none_refused true bytes 129 4 0 h.0 refl refl refl (fields_by bytes 129 h.0.kind_is refl)
reply_none reply.Done bytes h = none_refused true bytes 130 0 0 h refl refl refl (fields_by bytes 130 h.kind_is refl)
reply_none (reply.Sent to) bytes h = none_refused true bytes 131 4 0 h.0 refl refl refl (fields_by bytes 131 h.0.kind_is refl)
reply_none (reply.Registered known) bytes h =
    none_refused true bytes 132 4 0 h.0 refl refl refl (fields_by bytes 132 h.0.kind_is (pass _ _ _ (truth_fits known (u32_at 8 bytes) h.1) refl))
reply_none (reply.Event event) bytes h = event_none event bytes h
reply_none (reply.Refused cause) bytes h =
    let fits = cause_in_range cause (u32_at 8 bytes) (u32_at 12 bytes) (u32_at 16 bytes) h.1 in
    none_refused true bytes 135 12 0 h.0 refl refl refl
    (fields_by bytes 135 h.0.kind_is (pass _ _ _ (not_true _ fits.0) (pass _ _ _ fits.1 (pass _ _ _ fits.2 refl))))

-- the reply of a type
abbrev reply_of : ℕ → List ℕ → Reply
reply_of kind bytes =
    if kind == 129 then reply.Created (u32_at 8 bytes)
    else (if kind == 130 then reply.Done
    else (if kind == 131 then reply.Sent (u32_at 8 bytes)
    else (if kind == 132 then reply.Registered (u32_at 8 bytes == 1)
    else (if kind == 133 then reply.Event (Message (take (u16_at 12 bytes) (drop 16 bytes)) (u32_at 8 bytes) (take (u16_at 14 bytes) (drop (u16_at 12 bytes) (drop 16 bytes))) (drop (u16_at 14 bytes) (drop (u16_at 12 bytes) (drop 16 bytes))))
    else (if kind == 134 then reply.Event (RegionModified (u32_at 8 bytes))
    else reply.Refused (cause_of (u32_at 8 bytes) (u32_at 12 bytes) (u32_at 16 bytes)))))))

event_back : (e : Event) (bytes : List ℕ) → SpellsEvent e bytes → reply_of (u16_at 0 bytes) bytes ≡ reply.Event e
event_back (Message channel from message payload) bytes h =
    let text = drop 16 bytes in
    let a = u16_at 12 bytes in
    let b = u16_at 14 bytes in
    ap (λ (k : ℕ). reply_of k bytes) h.0.kind_is
    ∙ ap (λ (c : List ℕ). reply.Event (Message c (u32_at 8 bytes) (take b (drop a text)) (drop b (drop a text)))) (channel_back text channel message payload a b h.4 h.2 h.3)
    ∙ ap (λ (f : ℕ). reply.Event (Message channel f (take b (drop a text)) (drop b (drop a text)))) h.1
    ∙ ap (λ (m : List ℕ). reply.Event (Message channel from m (drop b (drop a text)))) (message_back text channel message payload a b h.4 h.2 h.3)
    ∙ ap (λ (p : List ℕ). reply.Event (Message channel from message p)) (payload_back text channel message payload a b h.4 h.2 h.3)
event_back (RegionModified slot) bytes h = ap (λ (k : ℕ). reply_of k bytes) h.0.kind_is ∙ ap (λ (s : ℕ). reply.Event (RegionModified s)) h.1

pub reply_back : (r : Reply) (bytes : List ℕ) → SpellsReply r bytes → reply_of (u16_at 0 bytes) bytes ≡ r
reply_back (reply.Created slot) bytes h = ap (λ (k : ℕ). reply_of k bytes) h.0.kind_is ∙ ap reply.Created h.1
reply_back reply.Done bytes h = ap (λ (k : ℕ). reply_of k bytes) h.kind_is
reply_back (reply.Sent to) bytes h = ap (λ (k : ℕ). reply_of k bytes) h.0.kind_is ∙ ap reply.Sent h.1
reply_back (reply.Registered known) bytes h = ap (λ (k : ℕ). reply_of k bytes) h.0.kind_is ∙ ap reply.Registered (truth_back known (u32_at 8 bytes) h.1)
reply_back (reply.Event event) bytes h = event_back event bytes h
reply_back (reply.Refused cause) bytes h =
    ap (λ (k : ℕ). reply_of k bytes) h.0.kind_is ∙ ap reply.Refused (cause_back cause (u32_at 8 bytes) (u32_at 12 bytes) (u32_at 16 bytes) h.1)

-- bytes spell at most one reply
pub one_reply : (r s : Reply) (bytes : List ℕ) → SpellsReply r bytes → SpellsReply s bytes → r ≡ s
one_reply r s bytes h k = sym (reply_back r bytes h) ∙ reply_back s bytes k

-- ---- a call that decodes gives what is spelled

gives_one : {X : Type 0} (P : X → Type 0) (one : (x y : X) → P x → P y → x ≡ y) (result : Result X FrameStop) (x : X) → P x → refusal_in result ≡ None → IfOk result P → IsOrNoMemory result x
gives_one P one (Ok y) x spelled refused read = one y x read spelled
gives_one P one (Err (Short have need)) x spelled refused read = cc
gives_one P one (Err (BadType found)) x spelled refused read = cc
gives_one P one (Err (BadLength at)) x spelled refused read = cc
gives_one P one (Err (BadField at)) x spelled refused read = cc
gives_one P one (Err (TooLong found)) x spelled refused read = cc
gives_one P one (Err OutOfMemory) x spelled refused read = refl

pub command_given : (result : Result Command FrameStop) (bytes : List ℕ) → refusal_in result ≡ frame_refusal false bytes → IfOk result (λ c. SpellsCommand c bytes) → (c : Command) → SpellsCommand c bytes → IsOrNoMemory result c
command_given result bytes refused read c spelled =
    gives_one (λ x. SpellsCommand x bytes) (λ x y. one_command x y bytes) result c spelled (refused ∙ command_none c bytes spelled) read

pub reply_given : (result : Result Reply FrameStop) (bytes : List ℕ) → refusal_in result ≡ frame_refusal true bytes → IfOk result (λ c. SpellsReply c bytes) → (c : Reply) → SpellsReply c bytes → IsOrNoMemory result c
reply_given result bytes refused read c spelled =
    gives_one (λ x. SpellsReply x bytes) (λ x y. one_reply x y bytes) result c spelled (refused ∙ reply_none c bytes spelled) read
