-- Named channels with their subscribers, and the mailbox of each client.
use Rattle.std.specs.Prelude.{ℕ, nat_le, Bool, true, false, not, ◌&&◌, ◌==◌, List, [], ◌∷◌, ◌++◌, map, length, drop, slice_get, slice_index_or, slice_set, Option, if◌then◌else◌}
use Rattle.std.specs.List.{list_any, list_all, find, filter, range_with_len}
use Rattle.std.specs.Option.{option_map_or}
use Rattle.std.specs.Str.{bytes_eq}
use Rattle.qws_base.specs.declared.replies.Event.{Event}
use Rattle.qws_base.specs.declared.replies.Event.TheVariants.{Message, RegionModified}

-- a known channel, with its subscribers in the order of joining
pub record Channel : Type 0 where
  pub name : List ℕ
  pub subscribers : List ℕ

-- the known channels in the order in which they became known; the mailbox of client c at place c, oldest event first
pub record Mail : Type 0 where
  pub channels : List Channel
  pub mailboxes : List (List Event)

-- no channel, and 16 empty mailboxes
unfoldable pub opening_mail : Mail
opening_mail = record { channels = []; mailboxes = map (λ client. []) (range_with_len 0 16) }

-- ---- channels

-- 1 to 64 bytes, each of 0x21 to 0x7e
abbrev pub is_name : List ℕ → Bool
is_name bytes = (nat_le 1 (length bytes) && nat_le (length bytes) 64) && list_all (λ b. nat_le 33 b && nat_le b 126) bytes

abbrev pub has_name : List ℕ → Channel → Bool
has_name name channel = bytes_eq channel.name name

abbrev pub is_known : List Channel → List ℕ → Bool
is_known channels name = list_any (has_name name) channels

-- the subscribers of a channel; none of an unknown one
abbrev pub subscribers_of : List Channel → List ℕ → List ℕ
subscribers_of channels name = option_map_or (λ c. c.subscribers) (find (has_name name) channels) []

abbrev pub is_among : ℕ → List ℕ → Bool
is_among client clients = list_any (λ c. c == client) clients

abbrev pub is_subscriber : List Channel → ℕ → List ℕ → Bool
is_subscriber channels client name = is_among client (subscribers_of channels name)

-- the channel of that name with changed subscribers, and each other channel as it is
abbrev pub resubscribed : List ℕ → (List ℕ → List ℕ) → Channel → Channel
resubscribed name change channel = record channel { subscribers = if has_name name channel then change channel.subscribers else channel.subscribers }

-- the client is the channel's last subscriber; an unknown channel becomes known, as the last
abbrev pub channels_joined : List Channel → ℕ → List ℕ → List Channel
channels_joined channels client name =
    if is_known channels name then map (resubscribed name (λ s. s ++ client ∷ [])) channels else channels ++ record { name = name; subscribers = client ∷ [] } ∷ []

-- the client isn't a subscriber; the channel stays known
abbrev pub channels_left : List Channel → ℕ → List ℕ → List Channel
channels_left channels client name = map (resubscribed name (filter (λ c. not (c == client)))) channels

-- ---- mailboxes

-- empty for a client past the last
abbrev pub mailbox_of : List (List Event) → ℕ → List Event
mailbox_of boxes client = slice_index_or boxes client []

abbrev pub is_message : Event → Bool
is_message (Message channel from message payload) = true
is_message (RegionModified slot) = false

abbrev pub is_region_of : ℕ → Event → Bool
is_region_of slot (Message channel from message payload) = false
is_region_of slot (RegionModified other) = other == slot

abbrev pub message_count : List Event → ℕ
message_count box = length (filter is_message box)

-- the first of these clients whose mailbox holds 256 messages
abbrev pub first_full : List (List Event) → List ℕ → Option ℕ
first_full boxes clients = find (λ c. nat_le 256 (message_count (mailbox_of boxes c))) clients

-- the event at the end of the mailbox of each of these clients
abbrev pub delivered : Event → List ℕ → List (List Event) → List (List Event)
delivered event clients boxes =
    map (λ c. if is_among c clients then mailbox_of boxes c ++ event ∷ [] else mailbox_of boxes c) (range_with_len 0 (length boxes))

-- ---- what the commands on channels and mailboxes leave, and what they tell

-- the client is the channel's last subscriber; an unknown channel becomes known, as the last
abbrev pub mail_joined : Mail → ℕ → List ℕ → Mail
mail_joined mail client name = record mail { channels = channels_joined mail.channels client name }

-- the client isn't a subscriber
abbrev pub mail_left : Mail → ℕ → List ℕ → Mail
mail_left mail client name = record mail { channels = channels_left mail.channels client name }

-- one message at the end of each subscriber's mailbox, also the sender's where it is one
abbrev pub mail_sent : Mail → ℕ → List ℕ → List ℕ → List ℕ → Mail
mail_sent mail client channel message payload =
    record mail { mailboxes = delivered (Message channel client message payload) (subscribers_of mail.channels channel) mail.mailboxes }

-- to how many clients a message goes
abbrev pub receiver_count : Mail → List ℕ → ℕ
receiver_count mail channel = length (subscribers_of mail.channels channel)

-- the oldest event of a client; none where the mailbox is empty
abbrev pub oldest_event : Mail → ℕ → Option Event
oldest_event mail client = slice_get (mailbox_of mail.mailboxes client) 0

-- the oldest event leaves the client's mailbox
abbrev pub mail_taken : Mail → ℕ → Mail
mail_taken mail client = record mail { mailboxes = slice_set mail.mailboxes client (drop 1 (mailbox_of mail.mailboxes client)) }

-- ---- what a change of regions does to mailboxes

-- the event at the end of the client's mailbox, unless that holds one for the slot
abbrev pub mail_noted : Mail → ℕ → ℕ → Mail
mail_noted mail client slot =
    let box = mailbox_of mail.mailboxes client in
    record mail { mailboxes = slice_set mail.mailboxes client (if list_any (is_region_of slot) box then box else box ++ RegionModified slot ∷ []) }

-- the event of the slot leaves the client's mailbox
abbrev pub mail_forgotten : Mail → ℕ → ℕ → Mail
mail_forgotten mail client slot =
    record mail { mailboxes = slice_set mail.mailboxes client (filter (λ e. not (is_region_of slot e)) (mailbox_of mail.mailboxes client)) }
