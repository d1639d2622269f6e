-- Why a command is refused: each cause, exactly where it applies.
use Rattle.std.specs.Prelude.{ℕ, ◌*◌, ℤ, pos, negsuc, int_le, nat_le, nat_lt, min, Bool, not, ◌&&◌, ◌||◌, ◌==◌, List, [], ◌∷◌, length, slice_index_or, Option, None, Some, if◌then◌else◌}
use Rattle.std.specs.List.{find, range_with_len}
use Rattle.std.specs.Option.{option_map, option_and_then}
use Rattle.qws_base.specs.Sides.{Sides}
use Rattle.qws_base.specs.Points.{is_on_screen}
use Rattle.qws_base.specs.Regions.{rect_count}
use Rattle.qws_base.specs.Windows.{is_live, client_of_slot, allocated_points}
use Rattle.qws_base.specs.Stacking.{slots}
use Rattle.qws_base.specs.Mail.{Mail, is_name, is_known, is_subscriber, subscribers_of, first_full}
use Rattle.qws_base.specs.declared.points.Point.{Point}
use Rattle.qws_base.specs.declared.points.Rect.{Rect}
use Rattle.qws_base.specs.declared.windows.WindowView.{WindowView}
use Rattle.qws_base.specs.declared.replies.Refusal.{Refusal}
use Rattle.qws_base.specs.declared.replies.Refusal.TheVariants.{NoWindow, NotYours, BadLayer, BadRegion, TooComplex, OffScreen, BadShape, Joined, TooManyChannels, BadName, NotJoined, NoChannel, MailboxFull, TooLarge}

-- the cause, where it applies
abbrev pub when : Bool → Refusal → Option Refusal
when applies cause = if applies then Some cause else None

-- the first cause of a list that is there
abbrev pub first_of : List (Option Refusal) → Option Refusal
first_of [] = None
first_of (None ∷ causes) = first_of causes
first_of (Some cause ∷ causes) = Some cause

-- ---- slots and layers

-- no window has the slot
abbrev pub no_window : List WindowView → ℕ → Option Refusal
no_window windows slot = when (not (is_live windows slot)) (NoWindow slot)

-- the window's owner isn't the client
abbrev pub not_yours : List WindowView → ℕ → ℕ → Option Refusal
not_yours windows client slot = option_and_then (λ owner. when (not (owner == client)) (NotYours slot owner)) (client_of_slot windows slot)

-- the layer is above 1
abbrev pub bad_layer : ℕ → Option Refusal
bad_layer layer = when (nat_lt 1 layer) (BadLayer layer)

-- ---- places and rectangles

-- from -4,096 to 4,095
abbrev pub is_coordinate : ℤ → Bool
is_coordinate x = int_le (negsuc 4095) x && int_le x (pos 4095)

-- from 1 to 4,096
abbrev pub is_side : ℕ → Bool
is_side n = nat_le 1 n && nat_le n 4096

-- a coordinate of the origin is out of range
abbrev pub off_screen : Point → Option Refusal
off_screen origin = when (not (is_coordinate origin.x && is_coordinate origin.y)) (OffScreen origin.x origin.y)

-- the place isn't a pixel of the screen
abbrev pub off_pixels : Sides → Point → Option Refusal
off_pixels size place = when (not (is_on_screen size place)) (OffScreen place.x place.y)

abbrev pub is_requestable : Rect → Bool
is_requestable r = (is_coordinate r.x && is_coordinate r.y) && (is_side r.w && is_side r.h)

abbrev pub no_rect : Rect
no_rect = record { x = pos 0; y = pos 0; w = 0; h = 0 }

-- at that place stands a rectangle out of range, or the place is 32 or later
abbrev pub is_bad_place : List Rect → ℕ → Bool
is_bad_place rects k = nat_le 32 k || not (is_requestable (slice_index_or rects k no_rect))

-- the least bad place, counted from 0
abbrev pub bad_region : List Rect → Option Refusal
bad_region rects = option_map (λ k. BadRegion k) (find (is_bad_place rects) (range_with_len 0 (length rects)))

-- a side isn't in 1 to 32, or the cells aren't as many as the shape's places
abbrev pub bad_shape : ℕ → ℕ → List ℕ → Option Refusal
bad_shape w h cells =
    when (not ((nat_le 1 w && nat_le w 32) && (nat_le 1 h && nat_le h 32) && length cells == w * h)) (BadShape w h)

-- ---- the number of rectangles

-- how many rectangles the canonical list of a slot's pixels has
abbrev pub rects_needed : Sides → List WindowView → ℕ → ℕ
rects_needed size windows slot = rect_count size (allocated_points size windows slot)

-- with these windows the pixels of a slot need more than 256 rectangles; the least such slot
abbrev pub too_complex : Sides → List WindowView → Option Refusal
too_complex size windows =
    option_map (λ slot. TooComplex slot (rects_needed size windows slot)) (find (λ slot. nat_lt 256 (rects_needed size windows slot)) slots)

-- ---- channels and mailboxes

-- the name hasn't 1 to 64 bytes of 0x21 to 0x7e
abbrev pub bad_name : List ℕ → Option Refusal
bad_name name = when (not (is_name name)) BadName

-- the client is a subscriber of the channel
abbrev pub already_joined : Mail → ℕ → List ℕ → Option Refusal
already_joined mail client channel = when (is_subscriber mail.channels client channel) Joined

-- the channel isn't known, and 64 are
abbrev pub too_many_channels : Mail → List ℕ → Option Refusal
too_many_channels mail channel = when (not (is_known mail.channels channel) && nat_le 64 (length mail.channels)) TooManyChannels

-- the client isn't a subscriber of the channel
abbrev pub not_joined : Mail → ℕ → List ℕ → Option Refusal
not_joined mail client channel = when (not (is_subscriber mail.channels client channel)) NotJoined

-- the payload has more than 4,096 bytes; the length that is told has 32 bits
abbrev pub too_large : List ℕ → Option Refusal
too_large payload = when (nat_lt 4096 (length payload)) (TooLarge (min (length payload) 4294967295))

-- the channel isn't known
abbrev pub no_channel : Mail → List ℕ → Option Refusal
no_channel mail channel = when (not (is_known mail.channels channel)) NoChannel

-- the mailbox of a subscriber holds 256 messages; the first such in the order of joining
abbrev pub mailbox_full : Mail → List ℕ → Option Refusal
mailbox_full mail channel = option_map (λ client. MailboxFull client) (first_full mail.mailboxes (subscribers_of mail.channels channel))
