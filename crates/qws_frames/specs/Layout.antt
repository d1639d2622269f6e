-- How bytes spell a command and a reply. A frame is the type in 16 bits, the length of its simple part in 16, the length of
-- its raw part in 32, the simple part and the raw part. Numbers have their lowest byte first.
use Rattle.std.specs.Prelude.{◌≡◌, ℕ, ◌+◌, ◌*◌, ◌≤◌, ℤ, Bool, true, false, List, ◌++◌, map, length, drop}
use Rattle.std.specs.List.{range_with_len}
use Rattle.std.specs.Int.{w32, cast_signed}
use Rattle.byteorder.specs.Endian.{little_from}
use Rattle.qws_base.specs.declared.points.Point.{Point}
use Rattle.qws_base.specs.declared.points.Rect.{Rect}
use Rattle.qws_base.specs.declared.commands.Command.{Command}
use Rattle.qws_base.specs.declared.commands.Command.TheVariants.{Create, Destroy, Region, Move, Raise, Lower, CursorShape, CursorMove, CursorShow, Join, Leave, Send, Take, IsRegistered}
use Rattle.qws_base.specs.declared.replies.Event.{Event}
use Rattle.qws_base.specs.declared.replies.Event.TheVariants.{Message, RegionModified}
use Rattle.qws_base.specs.declared.replies.Refusal.{Refusal}
use Rattle.qws_base.specs.declared.replies.Refusal.TheVariants.{NoWindow, NotYours, NoSlot, BadLayer, BadRegion, TooComplex, OffScreen, BadShape, Joined, TooManyChannels, BadName, NotJoined, NoChannel, MailboxFull, TooLarge, Empty}
use Rattle.qws_base.specs.declared.replies.Reply.{Reply}
use Rattle.qws_base.specs.declared.replies.Reply.TheVariants as reply

-- ---- numbers at a place; a byte past the end reads as 0

abbrev pub u16_at : ℕ → List ℕ → ℕ
u16_at at bytes = little_from at 2 bytes

abbrev pub u32_at : ℕ → List ℕ → ℕ
u32_at at bytes = little_from at 4 bytes

-- two's complement
abbrev pub i32_at : ℕ → List ℕ → ℤ
i32_at at bytes = cast_signed w32 (u32_at at bytes)

abbrev pub point_at : ℕ → List ℕ → Point
point_at at bytes = record { x = i32_at at bytes; y = i32_at (at + 4) bytes }

abbrev pub rect_at : ℕ → List ℕ → Rect
rect_at at bytes = record { x = i32_at at bytes; y = i32_at (at + 4) bytes; w = u32_at (at + 8) bytes; h = u32_at (at + 12) bytes }

-- so many rectangles of 16 bytes, and numbers of 4
abbrev pub rects_at : ℕ → ℕ → List ℕ → List Rect
rects_at at count bytes = map (λ k. rect_at (at + 16 * k) bytes) (range_with_len 0 count)

abbrev pub words_at : ℕ → ℕ → List ℕ → List ℕ
words_at at count bytes = map (λ k. u32_at (at + 4 * k) bytes) (range_with_len 0 count)

-- 0 or 1
abbrev pub truth_of : Bool → ℕ
truth_of true = 1
truth_of false = 0

-- ---- frames

-- bytes of this type, with parts of these lengths
pub record IsFrame (bytes : List ℕ) (kind simple raw : ℕ) : Type 0 where
  pub kind_is : u16_at 0 bytes ≡ kind
  pub simple_is : u16_at 2 bytes ≡ simple
  pub raw_is : u32_at 4 bytes ≡ raw
  pub few : raw ≤ 65536
  pub whole : length bytes ≡ 8 + simple + raw

-- one case for each type of command
abbrev pub SpellsCommand : Command → List ℕ → Type 0
SpellsCommand (Create layer) bytes = IsFrame bytes 1 4 0 × (u32_at 8 bytes ≡ layer)
SpellsCommand (Destroy slot) bytes = IsFrame bytes 2 4 0 × (u32_at 8 bytes ≡ slot)
SpellsCommand (Region slot origin rects) bytes =
    IsFrame bytes 3 16 (16 * length rects) × (u32_at 8 bytes ≡ slot) × (point_at 12 bytes ≡ origin) × (u32_at 20 bytes ≡ length rects) × (rects_at 24 (length rects) bytes ≡ rects)
SpellsCommand (Move slot origin) bytes = IsFrame bytes 4 12 0 × (u32_at 8 bytes ≡ slot) × (point_at 12 bytes ≡ origin)
SpellsCommand (Raise slot) bytes = IsFrame bytes 5 4 0 × (u32_at 8 bytes ≡ slot)
SpellsCommand (Lower slot) bytes = IsFrame bytes 6 4 0 × (u32_at 8 bytes ≡ slot)
SpellsCommand (CursorShape w h cells) bytes =
    IsFrame bytes 7 8 (4 * length cells) × (u32_at 8 bytes ≡ w) × (u32_at 12 bytes ≡ h) × (words_at 16 (length cells) bytes ≡ cells)
SpellsCommand (CursorMove x y) bytes = IsFrame bytes 8 8 0 × (i32_at 8 bytes ≡ x) × (i32_at 12 bytes ≡ y)
SpellsCommand (CursorShow shown) bytes = IsFrame bytes 9 4 0 × (u32_at 8 bytes ≡ truth_of shown)
SpellsCommand (Join channel) bytes = IsFrame bytes 10 0 (length channel) × (drop 8 bytes ≡ channel)
SpellsCommand (Leave channel) bytes = IsFrame bytes 11 0 (length channel) × (drop 8 bytes ≡ channel)
SpellsCommand (Send channel message payload) bytes =
    IsFrame bytes 12 4 (length channel + length message + length payload) × (u16_at 8 bytes ≡ length channel) × (u16_at 10 bytes ≡ length message)
    × (drop 12 bytes ≡ (channel ++ message) ++ payload)
SpellsCommand Take bytes = IsFrame bytes 13 0 0
SpellsCommand (IsRegistered channel) bytes = IsFrame bytes 14 0 (length channel) × (drop 8 bytes ≡ channel)

-- the number of a refusal and its fields in the order of its declaration; a field that it hasn't is 0
abbrev pub SpellsCause : Refusal → ℕ → ℕ → ℕ → Type 0
SpellsCause (NoWindow slot) number first second = (number ≡ 1) × (first ≡ slot) × (second ≡ 0)
SpellsCause (NotYours slot owner) number first second = (number ≡ 2) × (first ≡ slot) × (second ≡ owner)
SpellsCause NoSlot number first second = (number ≡ 3) × (first ≡ 0) × (second ≡ 0)
SpellsCause (BadLayer layer) number first second = (number ≡ 4) × (first ≡ layer) × (second ≡ 0)
SpellsCause (BadRegion index) number first second = (number ≡ 5) × (first ≡ index) × (second ≡ 0)
SpellsCause (TooComplex slot rects) number first second = (number ≡ 6) × (first ≡ slot) × (second ≡ rects)
SpellsCause (OffScreen x y) number first second = (number ≡ 7) × (cast_signed w32 first ≡ x) × (cast_signed w32 second ≡ y)
SpellsCause (BadShape w h) number first second = (number ≡ 8) × (first ≡ w) × (second ≡ h)
SpellsCause Joined number first second = (number ≡ 9) × (first ≡ 0) × (second ≡ 0)
SpellsCause TooManyChannels number first second = (number ≡ 10) × (first ≡ 0) × (second ≡ 0)
SpellsCause BadName number first second = (number ≡ 11) × (first ≡ 0) × (second ≡ 0)
SpellsCause NotJoined number first second = (number ≡ 12) × (first ≡ 0) × (second ≡ 0)
SpellsCause NoChannel number first second = (number ≡ 13) × (first ≡ 0) × (second ≡ 0)
SpellsCause (MailboxFull client) number first second = (number ≡ 14) × (first ≡ client) × (second ≡ 0)
SpellsCause (TooLarge len) number first second = (number ≡ 15) × (first ≡ len) × (second ≡ 0)
SpellsCause Empty number first second = (number ≡ 16) × (first ≡ 0) × (second ≡ 0)

abbrev pub SpellsEvent : Event → List ℕ → Type 0
SpellsEvent (Message channel from message payload) bytes =
    IsFrame bytes 133 8 (length channel + length message + length payload) × (u32_at 8 bytes ≡ from) × (u16_at 12 bytes ≡ length channel)
    × (u16_at 14 bytes ≡ length message) × (drop 16 bytes ≡ (channel ++ message) ++ payload)
SpellsEvent (RegionModified slot) bytes = IsFrame bytes 134 4 0 × (u32_at 8 bytes ≡ slot)

-- one case for each type of reply
abbrev pub SpellsReply : Reply → List ℕ → Type 0
SpellsReply (reply.Created slot) bytes = IsFrame bytes 129 4 0 × (u32_at 8 bytes ≡ slot)
SpellsReply reply.Done bytes = IsFrame bytes 130 0 0
SpellsReply (reply.Sent to) bytes = IsFrame bytes 131 4 0 × (u32_at 8 bytes ≡ to)
SpellsReply (reply.Registered known) bytes = IsFrame bytes 132 4 0 × (u32_at 8 bytes ≡ truth_of known)
SpellsReply (reply.Event event) bytes = SpellsEvent event bytes
SpellsReply (reply.Refused cause) bytes = IsFrame bytes 135 12 0 × SpellsCause cause (u32_at 8 bytes) (u32_at 12 bytes) (u32_at 16 bytes)
