-- What the entries of the map show, and what a mailbox keeps.
use Rattle.std.specs.Prelude.{ℕ, ◌<◌, ◌≤◌, ◌≡◌, false, List, [], ◌∷◌, ◌++◌, map, if◌then◌else◌}
use Rattle.std.specs.List.{list_any}
use Rattle.std.specs.declared.vec.Vec.{Vec}
use Rattle.qws_base.specs.declared.replies.Event.{Event}
use Rattle.qws_base.specs.declared.replies.Event.TheVariants.{Message, RegionModified}
use Rattle.qws_base.specs.Mail.{Channel, is_among, is_region_of, message_count}

-- the channel of an entry
abbrev pub channel_of : {Y : Type 0} → Vec ℕ Y × List ℕ → Channel
channel_of entry = record { name = entry.0.items; subscribers = entry.1 }

abbrev pub channels_of : {Y : Type 0} → List (Vec ℕ Y × List ℕ) → List Channel
channels_of entries = map channel_of entries

-- numbers below a bound, none of them twice
abbrev pub AreDistinctBelow : ℕ → List ℕ → Type 0
AreDistinctBelow bound [] = Unit {0}
AreDistinctBelow bound (n ∷ numbers) = (n < bound) × (is_among n numbers ≡ false) × AreDistinctBelow bound numbers

-- the events with that of the slot, at their end where they have none
abbrev pub box_noted : ℕ → List Event → List Event
box_noted slot box = if list_any (is_region_of slot) box then box else box ++ RegionModified slot ∷ []

-- the slots that events tell of
abbrev pub told_slots : List Event → List ℕ
told_slots [] = []
told_slots (Message channel from message payload ∷ box) = told_slots box
told_slots (RegionModified slot ∷ box) = slot ∷ told_slots box

-- a mailbox with a count of its messages and room for so many events
pub record IsMailbox (box : List Event) (messages room : ℕ) : Type 0 where
  pub counted : messages ≡ message_count box
  pub few : messages ≤ 256
  pub slots : AreDistinctBelow 32 (told_slots box)
  pub wide : 288 ≤ room
