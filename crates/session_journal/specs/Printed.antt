-- Replies whose numbers print: they are those of 32 bits, and lengths and counts of pixels of 64.
use Rattle.std.specs.Prelude.{ℕ, ◌<◌, ◌^◌, nat_abs, length, ⊤}
use Rattle.qws_base.specs.declared.replies.Event.{Event}
use Rattle.qws_base.specs.declared.replies.Event.TheVariants.{Message, RegionModified}
use Rattle.qws_base.specs.declared.replies.Reply.{Reply}
use Rattle.qws_base.specs.declared.replies.Reply.TheVariants.{Created, Done, Sent, Registered, Event as EventReply, Refused}
use Rattle.qws_base.specs.declared.replies.PaintReply.{PaintReply}
use Rattle.qws_base.specs.declared.replies.PaintReply.TheVariants.{Painted, Gone}
use Rattle.qws_base.specs.declared.replies.Refusal.{Refusal}
use Rattle.qws_base.specs.declared.replies.Refusal.TheVariants.{NoWindow, NotYours, NoSlot, BadLayer, BadRegion, TooComplex, OffScreen, BadShape, Joined, TooManyChannels, BadName, NotJoined, NoChannel, MailboxFull, TooLarge, Empty}

-- numbers of 32 bits
abbrev pub IsPrinted : ℕ → Type 0
IsPrinted n = n < 2 ^ 32

-- numbers of 64 bits
abbrev pub IsCount : ℕ → Type 0
IsCount n = n < 2 ^ 64

abbrev pub PrintsRefusal : Refusal → Type 0
PrintsRefusal (NoWindow slot) = IsPrinted slot
PrintsRefusal (NotYours slot owner) = IsPrinted slot × IsPrinted owner
PrintsRefusal NoSlot = ⊤
PrintsRefusal (BadLayer layer) = IsPrinted layer
PrintsRefusal (BadRegion index) = IsPrinted index
PrintsRefusal (TooComplex slot rects) = IsPrinted slot × IsPrinted rects
PrintsRefusal (OffScreen x y) = IsPrinted (nat_abs x) × IsPrinted (nat_abs y)
PrintsRefusal (BadShape w h) = IsPrinted w × IsPrinted h
PrintsRefusal Joined = ⊤
PrintsRefusal TooManyChannels = ⊤
PrintsRefusal BadName = ⊤
PrintsRefusal NotJoined = ⊤
PrintsRefusal NoChannel = ⊤
PrintsRefusal (MailboxFull client) = IsPrinted client
PrintsRefusal (TooLarge len) = IsPrinted len
PrintsRefusal Empty = ⊤

abbrev pub PrintsEvent : Event → Type 0
PrintsEvent (Message channel from message payload) = IsPrinted from × IsCount (length payload)
PrintsEvent (RegionModified slot) = IsPrinted slot

abbrev pub PrintsReply : Reply → Type 0
PrintsReply (Created slot) = IsPrinted slot
PrintsReply Done = ⊤
PrintsReply (Sent to) = IsPrinted to
PrintsReply (Registered known) = ⊤
PrintsReply (EventReply event) = PrintsEvent event
PrintsReply (Refused cause) = PrintsRefusal cause

abbrev pub PrintsPaint : PaintReply → Type 0
PrintsPaint (Painted pixels) = IsCount pixels
PrintsPaint Gone = ⊤
