-- What the answers of the channels say: the causes of each call in order, and which of them a stop tells.
use Rattle.std.specs.Prelude.{ℕ, List, [], ◌∷◌, Option, Some, None, is_none, Result, Ok, Err}
use Rattle.qws_base.specs.Mail.{Channel, Mail, oldest_event}
use Rattle.qws_base.specs.Refusals.{when, first_of, bad_name, already_joined, too_many_channels, not_joined, too_large, no_channel, mailbox_full}
use Rattle.qws_base.specs.declared.replies.Event.{Event}
use Rattle.qws_base.specs.declared.replies.Refusal.{Refusal}
use Rattle.qws_base.specs.declared.replies.Refusal.TheVariants as cause
use Rattle.qcop_channels.specs.declared.stops.QcopStop.{QcopStop}
use Rattle.qcop_channels.specs.declared.stops.QcopStop.TheVariants.{BadName, Joined, TooManyChannels, NotJoined, TooLarge, NoChannel, MailboxFull, Empty, OutOfMemory}

-- the cause that a stop tells; a want of memory is no refusal
abbrev pub refusal_of : QcopStop → Option Refusal
refusal_of BadName = Some cause.BadName
refusal_of Joined = Some cause.Joined
refusal_of TooManyChannels = Some cause.TooManyChannels
refusal_of NotJoined = Some cause.NotJoined
refusal_of (TooLarge len) = Some (cause.TooLarge len)
refusal_of NoChannel = Some cause.NoChannel
refusal_of (MailboxFull client) = Some (cause.MailboxFull client)
refusal_of Empty = Some cause.Empty
refusal_of OutOfMemory = None

-- the cause for which a call was refused; none where it was done, or where memory lacked alone
abbrev pub refusal_in : {X : Type 0} → Result X QcopStop → Option Refusal
refusal_in (Ok x) = None
refusal_in (Err stop) = refusal_of stop

-- why the client can't join
abbrev pub join_refusal : Mail → ℕ → List ℕ → Option Refusal
join_refusal mail client channel = first_of (bad_name channel ∷ already_joined mail client channel ∷ too_many_channels mail channel ∷ [])

-- why the client can't leave
abbrev pub leave_refusal : Mail → ℕ → List ℕ → Option Refusal
leave_refusal mail client channel = first_of (not_joined mail client channel ∷ [])

-- why the client can't take: its mailbox holds no event
abbrev pub take_refusal : Mail → ℕ → Option Refusal
take_refusal mail client = when (is_none (oldest_event mail client)) cause.Empty

-- why a message doesn't go
abbrev pub send_refusal : Mail → List ℕ → List ℕ → List ℕ → Option Refusal
send_refusal mail channel message payload = first_of (bad_name message ∷ too_large payload ∷ no_channel mail channel ∷ mailbox_full mail channel ∷ [])

-- ---- the same by the parts of the mail that they look at

-- the channels, with mailboxes
abbrev pub mail_of : List Channel → List (List Event) → Mail
mail_of channels boxes = record { channels = channels; mailboxes = boxes }

abbrev pub join_cause : List Channel → ℕ → List ℕ → Option Refusal
join_cause channels client name = join_refusal (mail_of channels []) client name

abbrev pub leave_cause : List Channel → ℕ → List ℕ → Option Refusal
leave_cause channels client name = leave_refusal (mail_of channels []) client name

abbrev pub send_cause : List Channel → List (List Event) → List ℕ → List ℕ → List ℕ → Option Refusal
send_cause channels boxes channel message payload = send_refusal (mail_of channels boxes) channel message payload
