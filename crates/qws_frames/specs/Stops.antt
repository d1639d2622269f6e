-- Why bytes are no frame: the first cause in a fixed order. Why a command or a reply has no frame.
use Rattle.std.specs.Prelude.{◌≡◌, ℕ, ◌+◌, ◌-◌, ◌*◌, ◌%◌, ◌^◌, min, nat_le, nat_lt, Bool, true, false, not, ◌&&◌, ◌||◌, ◌==◌, List, [], ◌∷◌, length, Option, Some, None, Result, Ok, Err, if◌then◌else◌}
use Rattle.std.specs.Option.{option_or}
use Rattle.qws_base.specs.declared.commands.Command.{Command}
use Rattle.qws_base.specs.declared.commands.Command.TheVariants.{Create, Destroy, Region, Move, Raise, Lower, CursorShape, CursorMove, CursorShow, Join, Leave, Send, Take, IsRegistered}
use Rattle.qws_base.specs.declared.replies.Event.TheVariants.{Message, RegionModified}
use Rattle.qws_base.specs.declared.replies.Reply.{Reply}
use Rattle.qws_base.specs.declared.replies.Reply.TheVariants as reply
use Rattle.qws_frames.specs.Layout.{u16_at, u32_at}
use Rattle.qws_frames.specs.declared.stops.EncodeStop.{EncodeStop}
use Rattle.qws_frames.specs.declared.stops.EncodeStop.TheVariants as encode
use Rattle.qws_frames.specs.declared.stops.FrameStop.{FrameStop}
use Rattle.qws_frames.specs.declared.stops.FrameStop.TheVariants.{Short, BadType, BadLength, BadField, TooLong, OutOfMemory}

-- whether a frame of this type is a reply; else it is a command
abbrev pub is_known : Bool → ℕ → Bool
is_known true kind = nat_le 129 kind && nat_le kind 135
is_known false kind = nat_le 1 kind && nat_le kind 14

-- the length of the simple part of a type
abbrev pub simple_length : ℕ → ℕ
simple_length kind =
    if (((kind == 10) || (kind == 11)) || (kind == 13)) || ((kind == 14) || (kind == 130)) then 0
    else (if ((kind == 7) || (kind == 8)) || (kind == 133) then 8
    else (if (kind == 4) || (kind == 135) then 12
    else (if kind == 3 then 16 else 4)))

-- whether a frame of a type has a raw part of any length
abbrev pub takes_bytes : ℕ → Bool
takes_bytes kind = (((kind == 10) || (kind == 11)) || (kind == 12)) || ((kind == 14) || (kind == 133))

-- whether the raw part may have its length: 16 bytes for each rectangle, 4 for each cell, none where there is no raw part
abbrev pub raw_fits : ℕ → ℕ → List ℕ → Bool
raw_fits kind raw bytes =
    if takes_bytes kind then true
    else (if kind == 3 then raw == 16 * u32_at 20 bytes
    else (if kind == 7 then (raw % 4) == 0
    else raw == 0))

-- the length of the whole frame, by its head
abbrev pub whole_length : List ℕ → ℕ
whole_length bytes = 8 + u16_at 2 bytes + u32_at 4 bytes

-- the first stop of a list that applies
abbrev pub first_stop : List (Bool × FrameStop) → Option FrameStop
first_stop [] = None
first_stop ((applies, stop) ∷ stops) = if applies then Some stop else first_stop stops

-- the head: too short, a type that isn't known, too long a raw part, a length of the simple part that isn't the type's
abbrev pub head_refusal : Bool → List ℕ → Option FrameStop
head_refusal is_reply bytes =
    first_stop (
    (nat_lt (length bytes) 8, Short (length bytes) 8)
    ∷ (not (is_known is_reply (u16_at 0 bytes)), BadType (u16_at 0 bytes))
    ∷ (nat_lt 65536 (u32_at 4 bytes), TooLong (u32_at 4 bytes))
    ∷ (not (u16_at 2 bytes == simple_length (u16_at 0 bytes)), BadLength 2)
    ∷ [])

-- the parts: too few bytes, a length of the raw part that isn't allowed, bytes after the frame
abbrev pub parts_refusal : List ℕ → Option FrameStop
parts_refusal bytes =
    first_stop (
    (nat_lt (length bytes) (whole_length bytes), Short (length bytes) (whole_length bytes))
    ∷ (not (raw_fits (u16_at 0 bytes) (u32_at 4 bytes) bytes), BadLength 4)
    ∷ (nat_lt (whole_length bytes) (length bytes), BadLength (whole_length bytes))
    ∷ [])

-- the number of fields of a refusal
abbrev pub field_count : ℕ → ℕ
field_count number =
    if ((number == 2) || (number == 6)) || ((number == 7) || (number == 8)) then 2
    else (if ((number == 1) || (number == 4)) || (((number == 5) || (number == 14)) || (number == 15)) then 1 else 0)

-- a truth value, a refusal's number, two lengths within the raw part
abbrev pub field_refusal : List ℕ → Option FrameStop
field_refusal bytes =
    let kind = u16_at 0 bytes in
    first_stop (
    (((kind == 9) || (kind == 132)) && nat_lt 1 (u32_at 8 bytes), BadField 8)
    ∷ ((kind == 135) && not (nat_le 1 (u32_at 8 bytes) && nat_le (u32_at 8 bytes) 16), BadField 8)
    ∷ ((kind == 12) && nat_lt (u32_at 4 bytes) (u16_at 8 bytes + u16_at 10 bytes), BadField 8)
    ∷ ((kind == 133) && nat_lt (u32_at 4 bytes) (u16_at 12 bytes + u16_at 14 bytes), BadField 12)
    ∷ ((kind == 135) && ((field_count (u32_at 8 bytes) == 0) && not (u32_at 12 bytes == 0)), BadField 12)
    ∷ ((kind == 135) && (nat_lt (field_count (u32_at 8 bytes)) 2 && not (u32_at 16 bytes == 0)), BadField 16)
    ∷ [])

-- the first cause for which bytes are no frame of a command, or of a reply
abbrev pub frame_refusal : Bool → List ℕ → Option FrameStop
frame_refusal is_reply bytes = option_or (head_refusal is_reply bytes) (option_or (parts_refusal bytes) (field_refusal bytes))

-- the cause for which bytes weren't decoded; none where they were, or where memory lacked alone
abbrev pub stop_of : FrameStop → Option FrameStop
stop_of OutOfMemory = None
stop_of stop = Some stop

abbrev pub refusal_in : {X : Type 0} → Result X FrameStop → Option FrameStop
refusal_in (Ok x) = None
refusal_in (Err stop) = stop_of stop

-- it gives this, or memory lacked
abbrev pub IsOrNoMemory : {X : Type 0} → Result X FrameStop → X → Type 0
IsOrNoMemory (Ok y) x = y ≡ x
IsOrNoMemory (Err stop) x = stop ≡ OutOfMemory

-- ---- what has no frame

-- why no frame has a raw part of so many bytes
abbrev pub raw_refusal : ℕ → Option EncodeStop
raw_refusal raw = if nat_lt 65536 raw then Some (encode.TooLong raw) else None

-- a length of three parts in a number of 64 bits, whose last value stands for all above it; no memory holds so many bytes
abbrev pub told_length : ℕ → ℕ
told_length raw = min raw (2 ^ 64 - 1)

-- why no frame has a channel, a message and a payload of these lengths; the first two have 16 bits each
abbrev pub letter_refusal : ℕ → ℕ → ℕ → Option EncodeStop
letter_refusal channel message payload =
    let raw = channel + message + payload in
    if (nat_lt 65536 raw) || (nat_lt 65535 channel || nat_lt 65535 message) then Some (encode.TooLong (told_length raw)) else None

-- why a command has no frame
abbrev pub command_refusal : Command → Option EncodeStop
command_refusal (Create layer) = None
command_refusal (Destroy slot) = None
command_refusal (Region slot origin rects) = raw_refusal (16 * length rects)
command_refusal (Move slot origin) = None
command_refusal (Raise slot) = None
command_refusal (Lower slot) = None
command_refusal (CursorShape w h cells) = raw_refusal (4 * length cells)
command_refusal (CursorMove x y) = None
command_refusal (CursorShow shown) = None
command_refusal (Join channel) = raw_refusal (length channel)
command_refusal (Leave channel) = raw_refusal (length channel)
command_refusal (Send channel message payload) = letter_refusal (length channel) (length message) (length payload)
command_refusal Take = None
command_refusal (IsRegistered channel) = raw_refusal (length channel)

-- why a reply has no frame
abbrev pub reply_refusal : Reply → Option EncodeStop
reply_refusal (reply.Created slot) = None
reply_refusal reply.Done = None
reply_refusal (reply.Sent to) = None
reply_refusal (reply.Registered known) = None
reply_refusal (reply.Event (Message channel from message payload)) = letter_refusal (length channel) (length message) (length payload)
reply_refusal (reply.Event (RegionModified slot)) = None
reply_refusal (reply.Refused cause) = None

-- the cause for which there is no frame; none where there is one, or where memory lacked alone
abbrev pub encode_stop_of : EncodeStop → Option EncodeStop
encode_stop_of encode.OutOfMemory = None
encode_stop_of stop = Some stop

abbrev pub encode_refusal_in : {X : Type 0} → Result X EncodeStop → Option EncodeStop
encode_refusal_in (Ok x) = None
encode_refusal_in (Err stop) = encode_stop_of stop
