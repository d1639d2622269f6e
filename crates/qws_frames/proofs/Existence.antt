-- Bytes that no cause refuses spell a command or a reply.
use Rattle.std.proofs.Common.{◌≡◌, ◌≢◌, ℕ, ◌+◌, ◌/◌, ◌≤◌, ◌<◌, ◌==◌, true, false, None, List, length, take, drop, refl, sym, ap, ◌∙◌, subst, ⊎_elim, length-drop, arith}
use Rattle.std.proofs.lemmas.Bool.{cases_eq}
use Rattle.std.proofs.lemmas.Bool.Decides.{nat_tests}
use Rattle.std.proofs.lemmas.List.{length-take-le}
use Rattle.std.specs.Int.{w32, cast_signed}
use Rattle.qws_base.specs.declared.commands.Command.{Command}
use Rattle.qws_base.specs.declared.commands.Command.TheVariants.{Create, Destroy, Region, Move, Raise, Lower, CursorShape, CursorMove, CursorShow, Join, Leave, Send, Take, IsRegistered}
use Rattle.qws_base.specs.declared.replies.Event.TheVariants.{Message, RegionModified}
use Rattle.qws_base.specs.declared.replies.Refusal.{Refusal}
use Rattle.qws_base.specs.declared.replies.Refusal.TheVariants.{NoWindow, NotYours, NoSlot, BadLayer, BadRegion, TooComplex, OffScreen, BadShape, Joined, TooManyChannels, BadName, NotJoined, NoChannel, MailboxFull, TooLarge, Empty}
use Rattle.qws_base.specs.declared.replies.Reply.{Reply}
use Rattle.qws_base.specs.declared.replies.Reply.TheVariants as reply
use Rattle.qws_frames.specs.Layout.{SpellsCommand, SpellsReply, SpellsCause, u16_at, u32_at, i32_at, point_at, rects_at, words_at}
use Rattle.qws_frames.specs.Stops.{frame_refusal, is_known, field_count}
use Rattle.qws_frames.proofs.SoundLemmas.{is_refused, sound, with_raw, without_raw, truth_at, send_lengths, message_lengths, number_range, first_unused, second_unused, letter_parts, region_spelled, shape_spelled, send_spelled, message_spelled, open_frame}

by : {G : Type 0} (k n : ℕ) → (k ≡ n → G) → (k ≢ n → G) → G
by k n here there = ⊎_elim here there (cases_eq k n)

-- a text of three parts, of which two have told lengths
record AreParts (xs : List ℕ) (a b : ℕ) : Type 0 where
  first : length (take a xs) ≡ a
  second : length (take b (drop a xs)) ≡ b
  third : a + b + length (drop b (drop a xs)) ≡ length xs

are_parts : (xs : List ℕ) (a b : ℕ) → a + b ≤ length xs → AreParts xs a b
are_parts xs a b h =
    let rest = length-drop a xs in
    record {
      first = length-take-le a xs (omega arith);
      second = length-take-le b (drop a xs) (omega arith);
      third = omega (arith, length-drop b (drop a xs));
    }

-- ---- commands

some_send : (bytes : List ℕ) → frame_refusal false bytes ≡ None → u16_at 0 bytes ≡ 12 → (command : Command) × SpellsCommand command bytes
some_send bytes refused is =
    let a : ℕ = u16_at 8 bytes in
    let b : ℕ = u16_at 10 bytes in
    let text : List ℕ = drop 12 bytes in
    let frame = with_raw false bytes refused 12 4 is refl in
    let whole = frame.whole in
    let room = send_lengths false bytes refused is in
    let long = length-drop 12 bytes in
    let parts = are_parts text a b (omega arith) in
    let third = parts.third in (
      Send (take a text) (take b (drop a text)) (drop b (drop a text)),
      send_spelled bytes refused is (take a text) (take b (drop a text)) (drop b (drop a text)) a b refl refl parts.first parts.second (omega arith) (letter_parts text a b),
    )

last_command : (kind : ℕ) → is_known false kind ≡ true → kind ≢ 1 → kind ≢ 2 → kind ≢ 3 → kind ≢ 4 → kind ≢ 5 → kind ≢ 6 → kind ≢ 7 → kind ≢ 8 → kind ≢ 9 → kind ≢ 10 → kind ≢ 11 → kind ≢ 12 → kind ≢ 13 → kind ≡ 14
last_command kind known n1 n2 n3 n4 n5 n6 n7 n8 n9 n10 n11 n12 n13 = grind (arith, nat_tests)

pub some_command : (bytes : List ℕ) → frame_refusal false bytes ≡ None → (command : Command) × SpellsCommand command bytes
some_command bytes refused =
    let kind : ℕ = u16_at 0 bytes in
    by kind 1 (λ is. (Create (u32_at 8 bytes), (without_raw false bytes refused 1 4 is refl refl, refl)))
    (λ n1. by kind 2 (λ is. (Destroy (u32_at 8 bytes), (without_raw false bytes refused 2 4 is refl refl, refl)))
    (λ n2. by kind 3 (λ is. (Region (u32_at 8 bytes) (point_at 12 bytes) (rects_at 24 (u32_at 20 bytes) bytes), region_spelled bytes refused is (u32_at 8 bytes) (u32_at 20 bytes) (point_at 12 bytes) (rects_at 24 (u32_at 20 bytes) bytes) refl refl refl refl))
    (λ n3. by kind 4 (λ is. (Move (u32_at 8 bytes) (point_at 12 bytes), (without_raw false bytes refused 4 12 is refl refl, refl, refl)))
    (λ n4. by kind 5 (λ is. (Raise (u32_at 8 bytes), (without_raw false bytes refused 5 4 is refl refl, refl)))
    (λ n5. by kind 6 (λ is. (Lower (u32_at 8 bytes), (without_raw false bytes refused 6 4 is refl refl, refl)))
    (λ n6. by kind 7 (λ is. (CursorShape (u32_at 8 bytes) (u32_at 12 bytes) (words_at 16 (u32_at 4 bytes / 4) bytes), shape_spelled bytes refused is (u32_at 8 bytes) (u32_at 12 bytes) (u32_at 4 bytes / 4) (words_at 16 (u32_at 4 bytes / 4) bytes) refl refl refl refl))
    (λ n7. by kind 8 (λ is. (CursorMove (i32_at 8 bytes) (i32_at 12 bytes), (without_raw false bytes refused 8 8 is refl refl, refl, refl)))
    (λ n8. by kind 9 (λ is. (CursorShow (u32_at 8 bytes == 1), (without_raw false bytes refused 9 4 is refl refl, truth_at false bytes refused 9 is refl)))
    (λ n9. by kind 10 (λ is. (Join (drop 8 bytes), open_frame bytes 10 refused is refl (drop 8 bytes) refl))
    (λ n10. by kind 11 (λ is. (Leave (drop 8 bytes), open_frame bytes 11 refused is refl (drop 8 bytes) refl))
    (λ n11. by kind 12 (some_send bytes refused)
    (λ n12. by kind 13 (λ is. (Take, without_raw false bytes refused 13 0 is refl refl))
    (λ n13.
    let is : kind ≡ 14 = last_command kind (sound false bytes refused).known n1 n2 n3 n4 n5 n6 n7 n8 n9 n10 n11 n12 n13 in
    (IsRegistered (drop 8 bytes), open_frame bytes 14 refused is refl (drop 8 bytes) refl))))))))))))))

-- ---- replies

some_message : (bytes : List ℕ) → frame_refusal true bytes ≡ None → u16_at 0 bytes ≡ 133 → (reply : Reply) × SpellsReply reply bytes
some_message bytes refused is =
    let a : ℕ = u16_at 12 bytes in
    let b : ℕ = u16_at 14 bytes in
    let text : List ℕ = drop 16 bytes in
    let frame = with_raw true bytes refused 133 8 is refl in
    let whole = frame.whole in
    let room = message_lengths true bytes refused is in
    let long = length-drop 16 bytes in
    let parts = are_parts text a b (omega arith) in
    let third = parts.third in (
      reply.Event (Message (take a text) (u32_at 8 bytes) (take b (drop a text)) (drop b (drop a text))),
      message_spelled bytes refused is (take a text) (take b (drop a text)) (drop b (drop a text)) (u32_at 8 bytes) a b refl refl refl parts.first parts.second (omega arith) (letter_parts text a b),
    )

-- the fields that a cause of that number hasn't are 0
record AreFields (number first second : ℕ) : Type 0 where
  low : 1 ≤ number
  high : number ≤ 16
  no_first : field_count number ≡ 0 → first ≡ 0
  no_second : field_count number < 2 → second ≡ 0

some_cause : (number first second : ℕ) → AreFields number first second → (cause : Refusal) × SpellsCause cause number first second
some_cause number first second f =
    let low = f.low in
    let high = f.high in
    let none : (n : ℕ) → number ≡ n → field_count n ≡ 0 → first ≡ 0 = λ n is count. f.no_first (ap field_count is ∙ count) in
    let one : (n : ℕ) → number ≡ n → field_count n < 2 → second ≡ 0 = λ n is count. f.no_second (subst (λ (k : ℕ). k < 2) (sym (ap field_count is)) count) in
    by number 1 (λ is. (NoWindow first, (is, refl, one 1 is (omega arith))))
    (λ n1. by number 2 (λ is. (NotYours first second, (is, refl, refl)))
    (λ n2. by number 3 (λ is. (NoSlot, (is, none 3 is refl, one 3 is (omega arith))))
    (λ n3. by number 4 (λ is. (BadLayer first, (is, refl, one 4 is (omega arith))))
    (λ n4. by number 5 (λ is. (BadRegion first, (is, refl, one 5 is (omega arith))))
    (λ n5. by number 6 (λ is. (TooComplex first second, (is, refl, refl)))
    (λ n6. by number 7 (λ is. (OffScreen (cast_signed w32 first) (cast_signed w32 second), (is, refl, refl)))
    (λ n7. by number 8 (λ is. (BadShape first second, (is, refl, refl)))
    (λ n8. by number 9 (λ is. (Joined, (is, none 9 is refl, one 9 is (omega arith))))
    (λ n9. by number 10 (λ is. (TooManyChannels, (is, none 10 is refl, one 10 is (omega arith))))
    (λ n10. by number 11 (λ is. (BadName, (is, none 11 is refl, one 11 is (omega arith))))
    (λ n11. by number 12 (λ is. (NotJoined, (is, none 12 is refl, one 12 is (omega arith))))
    (λ n12. by number 13 (λ is. (NoChannel, (is, none 13 is refl, one 13 is (omega arith))))
    (λ n13. by number 14 (λ is. (MailboxFull first, (is, refl, one 14 is (omega arith))))
    (λ n14. by number 15 (λ is. (TooLarge first, (is, refl, one 15 is (omega arith))))
    (λ n15.
    let is : number ≡ 16 = omega arith in
    (Empty, (is, none 16 is refl, one 16 is (omega arith))))))))))))))))))

some_refusal : (bytes : List ℕ) → frame_refusal true bytes ≡ None → u16_at 0 bytes ≡ 135 → (reply : Reply) × SpellsReply reply bytes
some_refusal bytes refused is =
    let range = number_range true bytes refused is in
    let cause = some_cause (u32_at 8 bytes) (u32_at 12 bytes) (u32_at 16 bytes)
    (record { low = range.0; high = range.1; no_first = first_unused true bytes refused is; no_second = second_unused true bytes refused is }) in
    (reply.Refused cause.0, (without_raw true bytes refused 135 12 is refl refl, cause.1))

pub some_reply : (bytes : List ℕ) → frame_refusal true bytes ≡ None → (reply : Reply) × SpellsReply reply bytes
some_reply bytes refused =
    let kind : ℕ = u16_at 0 bytes in
    by kind 129 (λ is. (reply.Created (u32_at 8 bytes), (without_raw true bytes refused 129 4 is refl refl, refl)))
    (λ n1. by kind 130 (λ is. (reply.Done, without_raw true bytes refused 130 0 is refl refl))
    (λ n2. by kind 131 (λ is. (reply.Sent (u32_at 8 bytes), (without_raw true bytes refused 131 4 is refl refl, refl)))
    (λ n3. by kind 132 (λ is. (reply.Registered (u32_at 8 bytes == 1), (without_raw true bytes refused 132 4 is refl refl, truth_at true bytes refused 132 is refl)))
    (λ n4. by kind 133 (some_message bytes refused)
    (λ n5. by kind 134 (λ is. (reply.Event (RegionModified (u32_at 8 bytes)), (without_raw true bytes refused 134 4 is refl refl, refl)))
    (λ n6. some_refusal bytes refused (is_refused kind (sound true bytes refused).known n1 n2 n3 n4 n5 n6)))))))
