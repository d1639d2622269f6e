-- Comments: they print within a line of a file, and name their clients.
use Rattle.std.proofs.Common.{◌≡◌, ℕ, ◌+◌, ◌<◌, ◌≤◌, ◌^◌, ℤ, pos, negsuc, nat_abs, List, [], ◌∷◌, ◌++◌, length, suc, Bool, true, false, cond, refl, ap, ◌∙◌, arith, length-append}
use lib.Chars.{codes}
use Rattle.std.specs.List.{list_all}
use Rattle.std.specs.Char.{digit_value}
use Rattle.std.specs.Fmt.{decimal, signed_decimal}
use Rattle.std.specs.Str.Parse.{AllDigits, digits_value}
use Rattle.std.proofs.lemmas.Str.Parse.{digit_from_value}
use Rattle.std.proofs.lemmas.Fmt.{decimal_is_IsNumeral, length-decimal-le}
use Rattle.std.proofs.lemmas.List.Folds.{list_all-append}
use Rattle.std.proofs.lemmas.Bool.{and_parts, and_from}
use Rattle.std.proofs.lemmas.Bool.Decides.{nat_tests}
use Rattle.qws_base.specs.declared.replies.Event.{Event}
use Rattle.qws_base.specs.declared.replies.Event.TheVariants.{Message, RegionModified}
use Rattle.qws_base.specs.declared.replies.Reply.{Reply}
use Rattle.qws_base.specs.declared.replies.Reply.TheVariants.{Created, Done, Sent, Registered, Event as EventReply, Refused}
use Rattle.qws_base.specs.declared.replies.PaintReply.{PaintReply}
use Rattle.qws_base.specs.declared.replies.PaintReply.TheVariants.{Painted, Gone}
use Rattle.qws_base.specs.declared.replies.Refusal.{Refusal}
use Rattle.qws_base.specs.declared.replies.Refusal.TheVariants.{NoWindow, NotYours, NoSlot, BadLayer, BadRegion, TooComplex, OffScreen, BadShape, Joined, TooManyChannels, BadName, NotJoined, NoChannel, MailboxFull, TooLarge, Empty}
use Rattle.session_journal.specs.Texts.{refusal_words, event_words, registered_words, reply_words, paint_words, comment}
use Rattle.session_journal.specs.Printed.{IsPrinted, PrintsRefusal, PrintsEvent, PrintsReply, PrintsPaint}
use Rattle.session_journal.specs.Places.{is_digit}
use Rattle.session_journal.specs.Grammar.{is_printing, IsComment}
use Rattle.session_journal.specs.Commented.{front_digits, commented_client}

-- ---- texts that print, and are short

pub record Fits (most : ℕ) (text : List ℕ) : Type 0 where
  pub short : length text ≤ most
  pub prints : list_all is_printing text ≡ true

-- in a longer room
wider : (most more : ℕ) (text : List ℕ) → most ≤ more → Fits most text → Fits more text
wider most more text le h = let short = h.short in record { short = omega arith; prints = h.prints }

pub fits_both : {m n : ℕ} {xs ys : List ℕ} → Fits m xs → Fits n ys → Fits (m + n) (xs ++ ys)
fits_both {m} {n} {xs} {ys} h k =
    let first = h.short in
    let second = k.short in
    record {
      short = omega (arith, length-append xs ys);
      prints = list_all-append is_printing xs ys ∙ and_from (list_all is_printing xs) (list_all is_printing ys) h.prints k.prints;
    }

digit_tests : (c : ℕ) → digit_value c < 10 → (is_digit c ≡ true) × (is_printing c ≡ true)
digit_tests c h = let range = digit_from_value c h in (grind (arith, nat_tests), grind (arith, nat_tests))

digits_pass : (ds : List ℕ) → AllDigits 10 ds → (list_all is_digit ds ≡ true) × (list_all is_printing ds ≡ true)
digits_pass [] h = (refl, refl)
digits_pass (c ∷ ds) h =
    let first = digit_tests c h.0 in
    let others = digits_pass ds h.1 in
    (and_from (is_digit c) (list_all is_digit ds) first.0 others.0, and_from (is_printing c) (list_all is_printing ds) first.1 others.1)

decimal_passes : (n : ℕ) → n < 2 ^ 64 → (list_all is_digit (decimal n) ≡ true) × (list_all is_printing (decimal n) ≡ true)
decimal_passes n small = digits_pass (decimal n) (decimal_is_IsNumeral n small).0.1

pub decimal_fits : (n : ℕ) → n < 2 ^ 32 → Fits 10 (decimal n)
decimal_fits n small = record { short = length-decimal-le 10 n (omega arith) (omega arith) (omega arith); prints = (decimal_passes n (omega arith)).1 }

count_fits : (n : ℕ) → n < 2 ^ 64 → Fits 20 (decimal n)
count_fits n small = record { short = length-decimal-le 20 n (omega arith) (omega arith) small; prints = (decimal_passes n small).1 }

signed_fits : (z : ℤ) → nat_abs z < 2 ^ 32 → Fits 11 (signed_decimal z)
signed_fits (pos n) small = wider 10 11 (decimal n) (omega arith) (decimal_fits n small)
signed_fits (negsuc n) small = fits_both {m = 1} {n = 10} {xs = 45 ∷ []} {ys = decimal (suc n)} (record { short = omega arith; prints = refl }) (decimal_fits (suc n) small)

-- a text that is written out
pub text_fits : (text : List ℕ) → list_all is_printing text ≡ true → Fits (length text) text
text_fits text h = record { short = omega arith; prints = h }

-- ---- the words of replies

two_fit : (m n : ℕ) → IsPrinted m → IsPrinted n → Fits 21 (decimal m ++ (codes " " ++ decimal n))
two_fit m n small few = fits_both {m = 10} {n = 11} (decimal_fits m small) (fits_both {m = 1} {n = 10} (text_fits (codes " ") refl) (decimal_fits n few))

one_behind : (text : List ℕ) (n : ℕ) → list_all is_printing text ≡ true → length text ≤ 3 → IsPrinted n → Fits 26 (text ++ decimal n)
one_behind text n prints few small = wider (length text + 10) 26 (text ++ decimal n) (omega arith) (fits_both {m = length text} {n = 10} (text_fits text prints) (decimal_fits n small))

two_behind : (text : List ℕ) (m n : ℕ) → list_all is_printing text ≡ true → length text ≤ 3 → IsPrinted m → IsPrinted n → Fits 26 (text ++ (decimal m ++ (codes " " ++ decimal n)))
two_behind text m n prints few small less = wider (length text + 21) 26 (text ++ (decimal m ++ (codes " " ++ decimal n))) (omega arith) (fits_both {m = length text} {n = 21} (text_fits text prints) (two_fit m n small less))

signed_behind : (text : List ℕ) (x y : ℤ) → list_all is_printing text ≡ true → length text ≤ 3 → IsPrinted (nat_abs x) → IsPrinted (nat_abs y) → Fits 26 (text ++ (signed_decimal x ++ (codes " " ++ signed_decimal y)))
signed_behind text x y prints few small less =
    wider (length text + 23) 26 (text ++ (signed_decimal x ++ (codes " " ++ signed_decimal y))) (omega arith)
    (fits_both {m = length text} {n = 23} (text_fits text prints) (fits_both {m = 11} {n = 12} (signed_fits x small) (fits_both {m = 1} {n = 11} (text_fits (codes " ") refl) (signed_fits y less))))

short_text : (text : List ℕ) → list_all is_printing text ≡ true → length text ≤ 26 → Fits 26 text
short_text text prints few = record { short = few; prints = prints }

refusal_fits : (cause : Refusal) → PrintsRefusal cause → Fits 26 (refusal_words cause)
refusal_fits (NoWindow slot) prints = one_behind (codes "1 ") slot refl (omega arith) prints
refusal_fits (NotYours slot owner) prints = two_behind (codes "2 ") slot owner refl (omega arith) prints.0 prints.1
refusal_fits NoSlot prints = short_text (codes "3") refl (omega arith)
refusal_fits (BadLayer layer) prints = one_behind (codes "4 ") layer refl (omega arith) prints
refusal_fits (BadRegion index) prints = one_behind (codes "5 ") index refl (omega arith) prints
refusal_fits (TooComplex slot rects) prints = two_behind (codes "6 ") slot rects refl (omega arith) prints.0 prints.1
refusal_fits (OffScreen x y) prints = signed_behind (codes "7 ") x y refl (omega arith) prints.0 prints.1
refusal_fits (BadShape w h) prints = two_behind (codes "8 ") w h refl (omega arith) prints.0 prints.1
refusal_fits Joined prints = short_text (codes "9") refl (omega arith)
refusal_fits TooManyChannels prints = short_text (codes "10") refl (omega arith)
refusal_fits BadName prints = short_text (codes "11") refl (omega arith)
refusal_fits NotJoined prints = short_text (codes "12") refl (omega arith)
refusal_fits NoChannel prints = short_text (codes "13") refl (omega arith)
refusal_fits (MailboxFull client) prints = one_behind (codes "14 ") client refl (omega arith) prints
refusal_fits (TooLarge len) prints = one_behind (codes "15 ") len refl (omega arith) prints
refusal_fits Empty prints = short_text (codes "16") refl (omega arith)

-- a short word before a number of 64 bits
word_count : (text : List ℕ) (n : ℕ) → list_all is_printing text ≡ true → length text ≤ 19 → n < 2 ^ 64 → Fits 39 (text ++ decimal n)
word_count text n prints few small = wider (length text + 20) 39 (text ++ decimal n) (omega arith) (fits_both {m = length text} {n = 20} (text_fits text prints) (count_fits n small))

event_fits : (event : Event) → PrintsEvent event → Fits 39 (event_words event)
event_fits (Message channel from message payload) prints =
    fits_both {m = 8} {n = 31} (text_fits (codes "message ") refl) (fits_both {m = 10} {n = 21} (decimal_fits from prints.0) (fits_both {m = 1} {n = 20} (text_fits (codes " ") refl) (count_fits (length payload) prints.1)))
event_fits (RegionModified slot) prints = word_count (codes "modified ") slot refl (omega arith) (omega arith)

registered_fits : (known : Bool) → Fits 39 (registered_words known)
registered_fits true = record { short = omega arith; prints = refl }
registered_fits false = record { short = omega arith; prints = refl }

pub reply_fits : (reply : Reply) → PrintsReply reply → Fits 39 (reply_words reply)
reply_fits (Created slot) prints = word_count (codes "created ") slot refl (omega arith) (omega arith)
reply_fits Done prints = record { short = omega arith; prints = refl }
reply_fits (Sent to) prints = word_count (codes "sent ") to refl (omega arith) (omega arith)
reply_fits (Registered known) prints = registered_fits known
reply_fits (EventReply event) prints = event_fits event prints
reply_fits (Refused cause) prints = wider 34 39 (codes "refused " ++ refusal_words cause) (omega arith) (fits_both {m = 8} {n = 26} (text_fits (codes "refused ") refl) (refusal_fits cause prints))

pub paint_fits : (reply : PaintReply) → PrintsPaint reply → Fits 39 (paint_words reply)
paint_fits (Painted pixels) prints = word_count (codes "painted ") pixels refl (omega arith) prints
paint_fits Gone prints = record { short = omega arith; prints = refl }

-- ---- comments

-- a comment with short words is one
pub comment_is : (client number : ℕ) (words : List ℕ) → client < 2 ^ 32 → number < 2 ^ 32 → Fits 39 words → IsComment (comment client number words)
comment_is client number words small few fits =
    let all : Fits 62 (comment client number words) =
    fits_both {m = 1} {n = 61} (text_fits (codes " ") refl)
    (fits_both {m = 10} {n = 51} (decimal_fits client small)
    (fits_both {m = 1} {n = 50} (text_fits (codes " ") refl) (fits_both {m = 10} {n = 40} (decimal_fits number few) (fits_both {m = 1} {n = 39} (text_fits (codes " ") refl) fits)))) in
    let short = all.short in
    record { short = omega arith; prints = all.prints }

digits_front : (ds xs : List ℕ) → list_all is_digit ds ≡ true → front_digits (ds ++ 32 ∷ xs) ≡ ds
digits_front [] xs h = refl
digits_front (c ∷ ds) xs h =
    let parts = and_parts (is_digit c) (list_all is_digit ds) h in
    ap (λ b. cond b (c ∷ front_digits (ds ++ 32 ∷ xs)) []) parts.0 ∙ ap (λ l. c ∷ l) (digits_front ds xs parts.1)

-- a comment names its client
pub client_back : (client number : ℕ) (words : List ℕ) → client < 2 ^ 32 → commented_client (comment client number words) ≡ client
unfolding commented_client
client_back client number words small =
    ap (digits_value 10) (digits_front (decimal client) (decimal number ++ (codes " " ++ words)) (decimal_passes client (omega arith)).0)
    ∙ (decimal_is_IsNumeral client (omega arith)).1
