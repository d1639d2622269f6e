-- The text of a file: a comment for each entry of a history, the size of the screen, and the raster.
use Rattle.std.specs.Prelude.{ℕ, ◌/◌, ◌%◌, ◌==◌, List, [], ◌∷◌, ◌++◌, filter, length, Bool, true, false}
use lib.Chars.{codes}
use Rattle.std.specs.List.{flat_map}
use Rattle.std.specs.Fmt.{decimal, signed_decimal}
use Rattle.qws_base.specs.Sides.{Sides}
use Rattle.qws_base.specs.Histories.{Entry as Call}
use Rattle.qws_base.specs.Histories.Entry.{Step as StepCall, Paint as PaintCall}
use Rattle.qws_base.specs.declared.replies.Event.{Event}
use Rattle.qws_base.specs.declared.replies.Event.TheVariants.{Message, RegionModified}
use Rattle.qws_base.specs.declared.replies.Reply.{Reply}
use Rattle.qws_base.specs.declared.replies.Reply.TheVariants.{Created, Done, Sent, Registered, Event as EventReply, Refused}
use Rattle.qws_base.specs.declared.replies.PaintReply.{PaintReply}
use Rattle.qws_base.specs.declared.replies.PaintReply.TheVariants.{Painted, Gone}
use Rattle.qws_base.specs.declared.replies.Refusal.{Refusal}
use Rattle.qws_base.specs.declared.replies.Refusal.TheVariants.{NoWindow, NotYours, NoSlot, BadLayer, BadRegion, TooComplex, OffScreen, BadShape, Joined, TooManyChannels, BadName, NotJoined, NoChannel, MailboxFull, TooLarge, Empty}
use Rattle.session_journal.specs.declared.histories.Entry.{Entry}
use Rattle.session_journal.specs.declared.histories.Entry.TheVariants.{Step, Paint}
use Rattle.session_journal.specs.declared.files.File.{File}

-- ---- replies

-- the number of a refusal, 1 to 16, and its fields
abbrev pub refusal_words : Refusal → List ℕ
refusal_words (NoWindow slot) = codes "1 " ++ decimal slot
refusal_words (NotYours slot owner) = codes "2 " ++ (decimal slot ++ (codes " " ++ decimal owner))
refusal_words NoSlot = codes "3"
refusal_words (BadLayer layer) = codes "4 " ++ decimal layer
refusal_words (BadRegion index) = codes "5 " ++ decimal index
refusal_words (TooComplex slot rects) = codes "6 " ++ (decimal slot ++ (codes " " ++ decimal rects))
refusal_words (OffScreen x y) = codes "7 " ++ (signed_decimal x ++ (codes " " ++ signed_decimal y))
refusal_words (BadShape w h) = codes "8 " ++ (decimal w ++ (codes " " ++ decimal h))
refusal_words Joined = codes "9"
refusal_words TooManyChannels = codes "10"
refusal_words BadName = codes "11"
refusal_words NotJoined = codes "12"
refusal_words NoChannel = codes "13"
refusal_words (MailboxFull client) = codes "14 " ++ decimal client
refusal_words (TooLarge len) = codes "15 " ++ decimal len
refusal_words Empty = codes "16"

-- a message has its sender and the number of bytes of its payload
abbrev pub event_words : Event → List ℕ
event_words (Message channel from message payload) = codes "message " ++ (decimal from ++ (codes " " ++ decimal (length payload)))
event_words (RegionModified slot) = codes "modified " ++ decimal slot

abbrev pub registered_words : Bool → List ℕ
registered_words true = codes "registered 1"
registered_words false = codes "registered 0"

abbrev pub reply_words : Reply → List ℕ
reply_words (Created slot) = codes "created " ++ decimal slot
reply_words Done = codes "done"
reply_words (Sent to) = codes "sent " ++ decimal to
reply_words (Registered known) = registered_words known
reply_words (EventReply event) = event_words event
reply_words (Refused cause) = codes "refused " ++ refusal_words cause

abbrev pub paint_words : PaintReply → List ℕ
paint_words (Painted pixels) = codes "painted " ++ decimal pixels
paint_words Gone = codes "gone"

-- ---- comments

-- what a comment tells of an entry: the client, and the words of the reply
pub record Told : Type 0 where
  pub client : ℕ
  pub words : List ℕ

abbrev pub told : Entry → Told
told (Step client command reply) = record { client = client; words = reply_words reply }
told (Paint client slot tag reply) = record { client = client; words = paint_words reply }

-- the same of an entry with its sheet
abbrev pub told_call : Call → Told
told_call (StepCall client command reply) = record { client = client; words = reply_words reply }
told_call (PaintCall client slot tag sheet reply) = record { client = client; words = paint_words reply }

-- ` C K REPLY`, which stands behind `#`: the client, how many of its entries stand before, and the reply
abbrev pub comment : ℕ → ℕ → List ℕ → List ℕ
comment client number words = codes " " ++ (decimal client ++ (codes " " ++ (decimal number ++ (codes " " ++ words))))

-- how many of these entries are the client's
abbrev pub entries_of : ℕ → List Told → ℕ
entries_of client entries = length (filter (λ t. t.client == client) entries)

-- the comments of entries behind those before
abbrev pub comments_behind : List Told → List Told → List (List ℕ)
comments_behind before [] = []
comments_behind before (t ∷ entries) = comment t.client (entries_of t.client before) t.words ∷ comments_behind (before ++ t ∷ []) entries

-- a comment for each entry
abbrev pub comments : List Told → List (List ℕ)
comments entries = comments_behind [] entries

-- ---- the file

-- a comment as its line
abbrev pub line_text : List ℕ → List ℕ
line_text line = codes "#" ++ (line ++ codes "\n")

-- width, height, and the greatest value of a channel
abbrev pub head_text : Sides → List ℕ
head_text size = decimal size.w ++ (codes " " ++ (decimal size.h ++ codes "\n255\n"))

-- red, green and blue
abbrev pub colour_bytes : ℕ → List ℕ
colour_bytes c = (c / 65536 % 256) ∷ (c / 256 % 256) ∷ (c % 256) ∷ []

-- the bytes of a file: the magic number, the comments, the size and the raster
abbrev pub file_bytes : File → List ℕ
file_bytes file = codes "P6\n" ++ (flat_map line_text file.lines ++ (head_text file.size ++ file.raster))

-- the file of entries and of the colours of the pixels by rows
abbrev pub file_of_entries : Sides → List Told → List ℕ → File
file_of_entries size entries shown = record { size = size; lines = comments entries; raster = flat_map colour_bytes shown }
