-- What a planned command does to channels and mailboxes.
use Rattle.std.specs.Prelude.{ℕ, ◌≡◌, ◌<◌, List, Option, None, Some, IsSome, All}
use Rattle.std.specs.List.{fold}
use Rattle.std.specs.Option.{option_map_or}
use Rattle.qws_base.specs.Mail.{Mail, mail_joined, mail_left, mail_sent, mail_taken, mail_forgotten, oldest_event}
use Rattle.qws_base.specs.Windows.{client_of_slot}
use Rattle.qws_base.specs.Steps.{owner_told}
use Rattle.qws_base.specs.declared.windows.WindowView.{WindowView}
use Rattle.qcop_channels.specs.Stops.{leave_refusal}
use Rattle.qcop_channels.specs.Prepared.{CanJoin, CanSend}
use Rattle.window_core.specs.declared.changes.MailChange.{MailChange}
use Rattle.window_core.specs.declared.changes.MailChange.TheVariants.{Nothing, Join, Leave, Send, Take, Regions}

-- nothing refuses it
abbrev pub CanCarry : Mail → MailChange → Type 0
CanCarry mail Nothing = Unit {0}
CanCarry mail (Join join) = CanJoin mail join
CanCarry mail (Leave client channel) = (client < 16) × (leave_refusal mail client channel ≡ None)
CanCarry mail (Send send) = CanSend mail send
CanCarry mail (Take client) = (client < 16) × IsSome (oldest_event mail client)
CanCarry mail (Regions leaving told) = All (λ slot. slot < 32) told.items

-- the event of a slot leaves the mailbox of the owner of its window; nothing without a slot
abbrev pub gone_forgotten : List WindowView → Mail → Option ℕ → Mail
gone_forgotten windows mail None = mail
gone_forgotten windows mail (Some slot) = option_map_or (λ owner. mail_forgotten mail owner slot) (client_of_slot windows slot) mail

-- the mail after it, with the windows before and after: for regions, what a window that goes leaves, and then the owners
-- told of their slots
abbrev pub mail_after : List WindowView → List WindowView → MailChange → Mail → Mail
mail_after before after Nothing mail = mail
mail_after before after (Join join) mail = mail_joined mail join.client join.channel
mail_after before after (Leave client channel) mail = mail_left mail client channel
mail_after before after (Send send) mail = mail_sent mail send.from send.channel send.message send.payload
mail_after before after (Take client) mail = mail_taken mail client
mail_after before after (Regions leaving told) mail = fold (owner_told after) (gone_forgotten before mail leaving) told.items
