-- A mailbox keeps its count and its room; a message to some clients goes to each of them.
use Rattle.std.proofs.Common.{◌≡◌, ◌≢◌, ℕ, zero, suc, ◌+◌, ◌-◌, ◌<◌, ◌≤◌, ◌++◌, [], ◌∷◌, List, Bool, true, false, not, cond, ◌||◌, ◌==◌, nat_le, filter, take, replicate, length, get_or, set, Option, Some, None, if◌then◌else◌, refl, sym, ap, subst, ◌∙◌, arith}
use Rattle.std.specs.List.{list_any}
use Rattle.std.proofs.lemmas.Bool.{false≢true}
use Rattle.std.proofs.lemmas.Bool.Decides.{nat_tests}
use Rattle.std.proofs.lemmas.List.{length-append, length-set, get_or-set_same, get_or-set_other, get_or-replicate, take-replicate, take_more}
use Rattle.std.proofs.lemmas.List.FromFn.{fill_by_all, get_or-map-range_with_len, length-map-range_with_len}
use Rattle.qws_base.specs.declared.replies.Event.{Event}
use Rattle.qws_base.specs.declared.replies.Event.TheVariants.{Message, RegionModified}
use Rattle.qws_base.specs.Mail.{is_message, is_region_of, message_count, mailbox_of, first_full, is_among, delivered}
use Rattle.qcop_channels.specs.Views.{AreDistinctBelow, told_slots, IsMailbox}
use Rattle.qcop_channels.proofs.DistinctLemmas.{is_among-append, AreDistinctBelow-push, AreDistinctBelow-filter, length-AreDistinctBelow, below_at, not_before}

-- ---- the events of a mailbox

-- each event is a message or tells of a slot
pub length-parts : (box : List Event) → length box ≡ message_count box + length (told_slots box)
length-parts [] = refl
length-parts (Message c f m p ∷ box) = omega (arith, length-parts box)
length-parts (RegionModified slot ∷ box) = omega (arith, length-parts box)

-- a mailbox has at most 32 events that aren't messages
pub length-IsMailbox : (box : List Event) (messages room : ℕ) → IsMailbox box messages room → length box ≤ message_count box + 32
length-IsMailbox box messages room h = omega (arith, length-parts box, length-AreDistinctBelow 32 (told_slots box) h.slots)

message_count-put : (box : List Event) (message : Event) → is_message message ≡ true → message_count (box ++ message ∷ []) ≡ message_count box + 1
message_count-put [] (Message c f m p) h = refl
message_count-put [] (RegionModified slot) h = absurd (false≢true h)
message_count-put (Message c f m p ∷ box) message h = omega (arith, message_count-put box message h)
message_count-put (RegionModified slot ∷ box) message h = message_count-put box message h

told_slots-put : (box : List Event) (message : Event) → is_message message ≡ true → told_slots (box ++ message ∷ []) ≡ told_slots box
told_slots-put [] (Message c f m p) h = refl
told_slots-put [] (RegionModified slot) h = absurd (false≢true h)
told_slots-put (Message c f m p ∷ box) message h = told_slots-put box message h
told_slots-put (RegionModified slot ∷ box) message h = ap (λ (slots : List ℕ). slot ∷ slots) (told_slots-put box message h)

-- one more message
pub IsMailbox-put : (box : List Event) (messages room : ℕ) (message : Event) → IsMailbox box messages room → is_message message ≡ true → message_count box < 256 → IsMailbox (box ++ message ∷ []) (messages + 1) room
IsMailbox-put box messages room message h is few =
    let counted = h.counted in
    let more = message_count-put box message is in
    record { counted = omega arith; few = omega arith; slots = subst (AreDistinctBelow 32) (sym (told_slots-put box message is)) h.slots; wide = h.wide }

message_count-tell : (box : List Event) (slot : ℕ) → message_count (box ++ RegionModified slot ∷ []) ≡ message_count box
message_count-tell [] slot = refl
message_count-tell (Message c f m p ∷ box) slot = omega (arith, message_count-tell box slot)
message_count-tell (RegionModified other ∷ box) slot = message_count-tell box slot

told_slots-tell : (box : List Event) (slot : ℕ) → told_slots (box ++ RegionModified slot ∷ []) ≡ told_slots box ++ slot ∷ []
told_slots-tell [] slot = refl
told_slots-tell (Message c f m p ∷ box) slot = told_slots-tell box slot
told_slots-tell (RegionModified other ∷ box) slot = ap (λ (slots : List ℕ). other ∷ slots) (told_slots-tell box slot)

is_among-told_slots : (box : List Event) (slot : ℕ) → is_among slot (told_slots box) ≡ list_any (is_region_of slot) box
is_among-told_slots [] slot = refl
is_among-told_slots (Message c f m p ∷ box) slot = is_among-told_slots box slot
is_among-told_slots (RegionModified other ∷ box) slot = ap (λ (b : Bool). (other == slot) || b) (is_among-told_slots box slot)

-- one more slot
pub IsMailbox-tell : (box : List Event) (messages room slot : ℕ) → IsMailbox box messages room → slot < 32 → list_any (is_region_of slot) box ≡ false → IsMailbox (box ++ RegionModified slot ∷ []) messages room
IsMailbox-tell box messages room slot h low new = record {
  counted = h.counted ∙ sym (message_count-tell box slot);
  few = h.few;
  slots = subst (AreDistinctBelow 32) (sym (told_slots-tell box slot)) (AreDistinctBelow-push 32 (told_slots box) slot h.slots low (is_among-told_slots box slot ∙ new));
  wide = h.wide;
}

-- room for one more slot
pub room_to_tell : (box : List Event) (messages room slot : ℕ) → IsMailbox box messages room → slot < 32 → list_any (is_region_of slot) box ≡ false → length box < room
room_to_tell box messages room slot h low new =
    let more = IsMailbox-tell box messages room slot h low new in
    let counted = h.counted in
    let few = h.few in
    let wide = h.wide in
    omega (arith, length-IsMailbox (box ++ RegionModified slot ∷ []) messages room more, message_count-tell box slot, length-append box (RegionModified slot ∷ []))

-- room for one more message
pub room_to_put : (box : List Event) (messages room : ℕ) → IsMailbox box messages room → message_count box < 256 → length box < room
room_to_put box messages room h few = let wide = h.wide in omega (arith, length-IsMailbox box messages room h)

-- all events have room
pub room_of_all : (box : List Event) (messages room : ℕ) → IsMailbox box messages room → length box ≤ 288
room_of_all box messages room h = let counted = h.counted in let few = h.few in omega (arith, length-IsMailbox box messages room h)

-- without its oldest event, which is a message
pub IsMailbox-take_message : (event : Event) (box : List Event) (messages room : ℕ) → IsMailbox (event ∷ box) messages room → is_message event ≡ true → (0 < messages) × IsMailbox box (messages - 1) room
IsMailbox-take_message (Message c f m p) box messages room h is =
    let counted = h.counted in
    let few = h.few in
    (omega arith, record { counted = omega arith; few = omega arith; slots = h.slots; wide = h.wide })
IsMailbox-take_message (RegionModified slot) box messages room h is = absurd (false≢true is)

-- or tells of a slot
pub IsMailbox-take_slot : (event : Event) (box : List Event) (messages room : ℕ) → IsMailbox (event ∷ box) messages room → is_message event ≡ false → IsMailbox box messages room
IsMailbox-take_slot (Message c f m p) box messages room h is = absurd (false≢true (sym is))
IsMailbox-take_slot (RegionModified slot) box messages room h is = record { counted = h.counted; few = h.few; slots = h.slots.2; wide = h.wide }

message_count-forget : (slot : ℕ) (box : List Event) → message_count (filter (λ e. not (is_region_of slot e)) box) ≡ message_count box
message_count-forget slot [] = refl
message_count-forget slot (Message c f m p ∷ box) = omega (arith, message_count-forget slot box)
message_count-forget slot (RegionModified other ∷ box) = dropped (not (other == slot)) ∙ message_count-forget slot box
  where
    dropped : (b : Bool) → message_count (cond b (RegionModified other ∷ filter (λ e. not (is_region_of slot e)) box) (filter (λ e. not (is_region_of slot e)) box)) ≡ message_count (filter (λ e. not (is_region_of slot e)) box)
    dropped true = refl
    dropped false = refl

told_slots-forget : (slot : ℕ) (box : List Event) → told_slots (filter (λ e. not (is_region_of slot e)) box) ≡ filter (λ s. not (s == slot)) (told_slots box)
told_slots-forget slot [] = refl
told_slots-forget slot (Message c f m p ∷ box) = told_slots-forget slot box
told_slots-forget slot (RegionModified other ∷ box) = kept _ _ (not (other == slot)) (told_slots-forget slot box)
  where
    kept : (rest : List Event) (slots : List ℕ) (b : Bool) → told_slots rest ≡ slots → told_slots (cond b (RegionModified other ∷ rest) rest) ≡ cond b (other ∷ slots) slots
    kept rest slots true h = ap (λ (s : List ℕ). other ∷ s) h
    kept rest slots false h = h

-- without a slot
pub IsMailbox-forget : (slot : ℕ) (box : List Event) (messages room : ℕ) → IsMailbox box messages room → IsMailbox (filter (λ e. not (is_region_of slot e)) box) messages room
IsMailbox-forget slot box messages room h = record {
  counted = h.counted ∙ sym (message_count-forget slot box);
  few = h.few;
  slots = subst (AreDistinctBelow 32) (sym (told_slots-forget slot box)) (AreDistinctBelow-filter 32 (λ s. not (s == slot)) (told_slots box) h.slots);
  wide = h.wide;
}

-- ---- a message to some clients

-- the mailbox of a client after a delivery
pub mailbox_of-delivered : (event : Event) (clients : List ℕ) (boxes : List (List Event)) (client : ℕ) → client < length boxes
    → mailbox_of (delivered event clients boxes) client ≡ (if is_among client clients then mailbox_of boxes client ++ event ∷ [] else mailbox_of boxes client)
mailbox_of-delivered event clients boxes client low =
    get_or-map-range_with_len (λ c. if is_among c clients then mailbox_of boxes c ++ event ∷ [] else mailbox_of boxes c) 0 (length boxes) client client [] low (omega arith)

pub length-delivered : (event : Event) (clients : List ℕ) (boxes : List (List Event)) → length (delivered event clients boxes) ≡ length boxes
length-delivered event clients boxes = length-map-range_with_len (λ c. if is_among c clients then mailbox_of boxes c ++ event ∷ [] else mailbox_of boxes c) 0 (length boxes)

-- the mailbox of a client that isn't among them stays
pub not_delivered : (event : Event) (clients : List ℕ) (boxes : List (List Event)) (client : ℕ) → client < length boxes → is_among client clients ≡ false
    → mailbox_of (delivered event clients boxes) client ≡ mailbox_of boxes client
not_delivered event clients boxes client low apart =
    mailbox_of-delivered event clients boxes client low ∙ ap (λ (b : Bool). if b then mailbox_of boxes client ++ event ∷ [] else mailbox_of boxes client) apart

-- a delivery to nobody
pub delivered-none : (event : Event) (boxes : List (List Event)) → boxes ≡ delivered event [] boxes
delivered-none event boxes = fill_by_all (mailbox_of boxes) boxes (length boxes) [] refl (λ k below. refl)

-- a delivery to one client more
pub delivered-more : (event : Event) (clients more : List ℕ) (boxes : List (List Event)) (client : ℕ) → client < length boxes → is_among client clients ≡ false
    → ((c : ℕ) → is_among c more ≡ (is_among c clients || (client == c)))
    → set (delivered event clients boxes) client (mailbox_of (delivered event clients boxes) client ++ event ∷ []) ≡ delivered event more boxes
delivered-more event clients more boxes client low apart among =
    let now = delivered event clients boxes in
    let whole = length-delivered event clients boxes in
    fill_by_all wanted changed (length boxes) [] (length-set now client _ ∙ whole) (λ k below. place k below (client == k) refl)
  where
    wanted : ℕ → List Event
    wanted c = if is_among c more then mailbox_of boxes c ++ event ∷ [] else mailbox_of boxes c

    changed : List (List Event)
    changed = set (delivered event clients boxes) client (mailbox_of (delivered event clients boxes) client ++ event ∷ [])

    or_false : (b : Bool) → (b || false) ≡ b
    or_false true = refl
    or_false false = refl

    place : (k : ℕ) → k < length boxes → (same : Bool) → (client == k) ≡ same → get_or changed k [] ≡ wanted k
    place k below true same =
        let equal : client ≡ k = grind (arith, nat_tests) in
        let now = delivered event clients boxes in
        let itself : (client == client) ≡ true = grind (arith, nat_tests) in
        let there : is_among client more ≡ true = among client ∙ ap (λ (b : Bool). b || (client == client)) apart ∙ itself in
        let P : ℕ → Type 0 = λ k. get_or changed k [] ≡ wanted k in
        subst P equal
        (get_or-set_same now client _ [] (omega (arith, length-delivered event clients boxes))
        ∙ ap (λ (box : List Event). box ++ event ∷ []) (not_delivered event clients boxes client low apart)
        ∙ sym (ap (λ (b : Bool). if b then mailbox_of boxes client ++ event ∷ [] else mailbox_of boxes client) there))
    place k below false same =
        let apart_k : k ≢ client = grind (arith, nat_tests) in
        let there : is_among k more ≡ is_among k clients = among k ∙ ap (λ (b : Bool). is_among k clients || b) same ∙ or_false (is_among k clients) in
        get_or-set_other (delivered event clients boxes) client k _ [] apart_k
        ∙ mailbox_of-delivered event clients boxes k below
        ∙ sym (ap (λ (b : Bool). if b then mailbox_of boxes k ++ event ∷ [] else mailbox_of boxes k) there)

not_first : (full : Bool) (c : ℕ) (rest : Option ℕ) → cond full (Some c) rest ≡ None → (full ≡ false) × (rest ≡ None)
not_first true c rest h = cc
not_first false c rest h = (refl, h)

-- each of these clients has room for a message more
pub room_at : (boxes : List (List Event)) (clients : List ℕ) (i : ℕ) → first_full boxes clients ≡ None → i < length clients → message_count (mailbox_of boxes (get_or clients i 0)) < 256
room_at boxes [] i none within = absurd (omega arith)
room_at boxes (c ∷ clients) zero none within =
    let few = (not_first (nat_le 256 (message_count (mailbox_of boxes c))) c (first_full boxes clients) none).0 in
    grind (arith, nat_tests)
room_at boxes (c ∷ clients) (suc i) none within =
    room_at boxes clients i (not_first (nat_le 256 (message_count (mailbox_of boxes c))) c (first_full boxes clients) none).1 (omega arith)

-- the message goes to all clients but the first, and then to the first
module _ (message : Event) (first : ℕ) (others : List ℕ) (boxes : List (List Event)) (all : AreDistinctBelow 16 (first ∷ others)) (whole : length boxes ≡ 16) (room : first_full boxes (first ∷ others) ≡ None) where
  -- the next client has a mailbox
  pub next_low : (i : ℕ) → i < length others → get_or others i 0 < length boxes
  next_low i within = omega (arith, below_at 16 others i all.2 within)

  -- with room, after those before it
  pub next_room : (i : ℕ) → i < length others → message_count (mailbox_of (delivered message (take i others) boxes) (get_or others i 0)) < 256
  next_room i within =
      rw (not_delivered message (take i others) boxes (get_or others i 0) (next_low i within) (not_before 16 others i all.2 within))
      (room_at boxes (first ∷ others) (suc i) room (omega arith))

  -- and gets the message
  pub next_delivered : (i : ℕ) → i < length others
      → set (delivered message (take i others) boxes) (get_or others i 0) (mailbox_of (delivered message (take i others) boxes) (get_or others i 0) ++ message ∷ []) ≡ delivered message (take (i + 1) others) boxes
  next_delivered i within =
      delivered-more message (take i others) (take (i + 1) others) boxes (get_or others i 0) (next_low i within) (not_before 16 others i all.2 within)
      (λ c. ap (is_among c) (take_more others i 0 within) ∙ is_among-append c (take i others) (get_or others i 0))

  -- the first client has room, after the others
  pub first_room : message_count (mailbox_of (delivered message others boxes) first) < 256
  first_room =
      rw (not_delivered message others boxes first (let low = all.0 in omega arith) all.1)
      (room_at boxes (first ∷ others) 0 room (omega arith))

  -- and gets the message
  pub first_delivered : set (delivered message others boxes) first (mailbox_of (delivered message others boxes) first ++ message ∷ []) ≡ delivered message (first ∷ others) boxes
  first_delivered =
      delivered-more message others (first ∷ others) boxes first (let low = all.0 in omega arith) all.1 (λ c. or_flip (first == c) (is_among c others))
    where
      or_flip : (a b : Bool) → (a || b) ≡ (b || a)
      or_flip true true = refl
      or_flip true false = refl
      or_flip false true = refl
      or_flip false false = refl

-- ---- copies of a message

-- the last of some copies is the message, and one fewer are left
pub copy_is : (copies : List Event) (n : ℕ) (message d : Event) → copies ≡ replicate n message → 0 < n → get_or copies (n - 1) d ≡ message
copy_is copies n message d all some = rw all (get_or-replicate n (n - 1) message d (omega arith))

pub copies_left : (copies : List Event) (n m : ℕ) (message : Event) → copies ≡ replicate n message → m + 1 ≡ n → take m copies ≡ replicate m message
copies_left copies n m message all fewer = rw all (take-replicate m n message (omega arith))
