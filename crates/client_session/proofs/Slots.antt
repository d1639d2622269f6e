-- Each name of a client stands for a slot, and each paint is of one.
use Rattle.std.proofs.Common.{◌≡◌, ℕ, zero, suc, ◌<◌, true, false, Bool, cond, List, [], ◌∷◌, ◌++◌, length, refl, sym, ap, subst, ◌∙◌, arith, Option, Some, None}
use Rattle.std.specs.Prelude.{slice_get, ⊤, not}
use Rattle.std.specs.List.{filter, find, range_with_len}
use Rattle.std.specs.Option.{option_map_or}
use Rattle.std.specs.Str.{bytes_eq}
use Rattle.qws_base.proofs.ListLemmas.{some_same, found}
use Rattle.qws_base.specs.Sides.{Sides}
use Rattle.qws_base.specs.States.{State}
use Rattle.qws_base.specs.Stacking.{slots, free_slot}
use Rattle.qws_base.specs.Windows.{is_live}
use Rattle.qws_base.specs.Refusals.{first_of, no_window, not_yours, bad_layer, off_screen, bad_region, bad_shape, off_pixels, bad_name, already_joined, too_many_channels, not_joined, too_large, no_channel, mailbox_full}
use Rattle.qws_base.specs.Steps.{answer, unless, found_or, leaves_complex}
use Rattle.qws_base.specs.Mail.{oldest_event, receiver_count}
use Rattle.qws_base.specs.declared.windows.WindowView.{WindowView}
use Rattle.qws_base.specs.declared.replies.Reply.{Reply}
use Rattle.qws_base.specs.declared.replies.Event.{Event as SomeEvent}
use Rattle.qws_base.specs.declared.replies.Refusal.{Refusal}
use Rattle.qws_base.specs.declared.replies.Refusal.TheVariants.{NoSlot, Empty}
use Rattle.qws_base.specs.declared.replies.Reply.TheVariants.{Created, Done, Sent, Registered, Event, Refused}
use Rattle.qws_base.specs.declared.commands.Command.{Command}
use Rattle.qws_base.specs.declared.commands.Command.TheVariants.{Create as CreateCommand, Destroy as DestroyCommand, Region as RegionCommand, Move as MoveCommand, Raise as RaiseCommand, Lower as LowerCommand, CursorShape, CursorMove, CursorShow, Join as JoinCommand, Leave as LeaveCommand, Send as SendCommand, Take as TakeCommand, IsRegistered}
use Rattle.script_grammar.specs.Session.{Session, Asset, is_by, call_line, fonts_of, images_of}
use Rattle.script_grammar.specs.Limits.{IsSession, IsCall, IsCallLine, IsWindowWord, EachBehind}
use Rattle.script_grammar.specs.declared.lines.Window.{Window}
use Rattle.script_grammar.specs.declared.lines.Window.TheVariants.{Named, Numbered}
use Rattle.script_grammar.specs.declared.lines.CallLine.{CallLine}
use Rattle.script_grammar.specs.declared.lines.LineCall.{LineCall}
use Rattle.script_grammar.specs.declared.lines.LineCall.TheVariants.{Create, Destroy, Region, Move, Raise, Lower, Shape, Cursor, Show, Join, Leave, Send, Take, Known, Fill, Tile, Blit, Line, Polyline, Polygon, Text}
use Rattle.script_names.specs.Naming.{Naming, learned, named, with_name, window_slot}
use Rattle.script_names.specs.Meaning.{meaning}
use Rattle.script_names.specs.declared.calls.Call.{Call}
use Rattle.script_names.specs.declared.calls.Call.TheVariants.{Step, Paint}

-- ---- replies

-- a reply that names a window names a slot
abbrev pub NamesSlot : Reply → Type 0
NamesSlot (Created slot) = slot < 33
NamesSlot Done = ⊤
NamesSlot (Sent to) = ⊤
NamesSlot (Registered known) = ⊤
NamesSlot (Event event) = ⊤
NamesSlot (Refused cause) = ⊤

unless_names : (causes : List (Option Refusal)) (reply : Reply) → NamesSlot reply → NamesSlot (unless causes reply)
unless_names causes reply h = by (first_of causes)
  where
    by : (cause : Option Refusal) → NamesSlot (option_map_or (λ c. Refused c) cause reply)
    by None = h
    by (Some cause) = tt

created_names : (cause : Refusal) (windows : List WindowView) (o : Option ℕ) → find (λ slot. not (is_live windows slot)) (range_with_len 0 32) ≡ o → NamesSlot (found_or cause (λ slot. Created slot) o)
created_names cause windows None e = tt
created_names cause windows (Some slot) e = let it = found (λ slot. not (is_live windows slot)) 0 32 slot e in let high = it.high in omega arith

event_names : (cause : Refusal) (o : Option SomeEvent) → NamesSlot (found_or cause (λ event. Event event) o)
event_names cause None = tt
event_names cause (Some event) = tt

pub answer_names : (size : Sides) (state : State) (client : ℕ) (command : Command) → NamesSlot (answer size state client command)
unfolding slots
answer_names size state client (CreateCommand layer) = unless_names (bad_layer layer ∷ []) _ (created_names NoSlot state.windows (free_slot state.windows) refl)
answer_names size state client (DestroyCommand slot) = unless_names (no_window state.windows slot ∷ not_yours state.windows client slot ∷ leaves_complex size state client (DestroyCommand slot) ∷ []) Done tt
answer_names size state client (RegionCommand slot origin rects) =
    unless_names (off_screen origin ∷ bad_region rects ∷ no_window state.windows slot ∷ not_yours state.windows client slot ∷ leaves_complex size state client (RegionCommand slot origin rects) ∷ []) Done tt
answer_names size state client (MoveCommand slot origin) =
    unless_names (off_screen origin ∷ no_window state.windows slot ∷ not_yours state.windows client slot ∷ leaves_complex size state client (MoveCommand slot origin) ∷ []) Done tt
answer_names size state client (RaiseCommand slot) = unless_names (no_window state.windows slot ∷ not_yours state.windows client slot ∷ leaves_complex size state client (RaiseCommand slot) ∷ []) Done tt
answer_names size state client (LowerCommand slot) = unless_names (no_window state.windows slot ∷ not_yours state.windows client slot ∷ leaves_complex size state client (LowerCommand slot) ∷ []) Done tt
answer_names size state client (CursorShape w h cells) = unless_names (bad_shape w h cells ∷ []) Done tt
answer_names size state client (CursorMove x y) = unless_names (off_pixels size (record { x = x; y = y }) ∷ []) Done tt
answer_names size state client (CursorShow shown) = tt
answer_names size state client (JoinCommand channel) = unless_names (bad_name channel ∷ already_joined state.mail client channel ∷ too_many_channels state.mail channel ∷ []) Done tt
answer_names size state client (LeaveCommand channel) = unless_names (not_joined state.mail client channel ∷ []) Done tt
answer_names size state client (SendCommand channel message payload) =
    unless_names (bad_name message ∷ too_large payload ∷ no_channel state.mail channel ∷ mailbox_full state.mail channel ∷ []) (Sent (receiver_count state.mail channel)) tt
answer_names size state client TakeCommand = event_names Empty (oldest_event state.mail client)
answer_names size state client (IsRegistered channel) = tt

-- ---- names

abbrev pub AreSlots : Naming → Type 0
AreSlots given = (name : List ℕ) → given name < 33

with_slot : (given : Naming) (name : List ℕ) (slot : ℕ) → AreSlots given → slot < 33 → AreSlots (with_name given name slot)
with_slot given name slot h low other = by (bytes_eq other name)
  where
    by : (b : Bool) → cond b slot (given other) < 33
    by true = low
    by false = h other

named_slots : (given : Naming) (name : List ℕ) (reply : Reply) → AreSlots given → NamesSlot reply → AreSlots (named given name reply)
named_slots given name (Created slot) h low = with_slot given name slot h low
named_slots given name Done h low = h
named_slots given name (Sent to) h low = h
named_slots given name (Registered known) h low = h
named_slots given name (Event event) h low = h
named_slots given name (Refused cause) h low = h

pub learned_slots : (given : Naming) (call : LineCall) (reply : Reply) → AreSlots given → NamesSlot reply → AreSlots (learned given call reply)
learned_slots given (Create name layer) reply h low = named_slots given name reply h low
learned_slots given (Destroy window) reply h low = h
learned_slots given (Region window origin rects) reply h low = h
learned_slots given (Move window origin) reply h low = h
learned_slots given (Raise window) reply h low = h
learned_slots given (Lower window) reply h low = h
learned_slots given (Shape w hh cells) reply h low = h
learned_slots given (Cursor at) reply h low = h
learned_slots given (Show shown) reply h low = h
learned_slots given (Join channel) reply h low = h
learned_slots given (Leave channel) reply h low = h
learned_slots given (Send channel message payload) reply h low = h
learned_slots given Take reply h low = h
learned_slots given (Known channel) reply h low = h
learned_slots given (Fill window rect ink) reply h low = h
learned_slots given (Tile window rect image) reply h low = h
learned_slots given (Blit window at image alpha) reply h low = h
learned_slots given (Line window from to colour) reply h low = h
learned_slots given (Polyline window colour points) reply h low = h
learned_slots given (Polygon window ink points) reply h low = h
learned_slots given (Text window font at ink written) reply h low = h

-- ---- paints

window_low : (given : Naming) (window : Window) → AreSlots given → IsWindowWord window → window_slot given window < 33
window_low given (Named name) h is = h name
window_low given (Numbered slot) h is = omega arith

abbrev pub slot_in : Call → ℕ
slot_in (Step command) = 0
slot_in (Paint slot paint) = slot

pub meant_low : (said : Session) (given : Naming) (assets : List Asset) (images : ℕ) (call : LineCall) → AreSlots given → IsCall (fonts_of assets) images call → slot_in (meaning said given call) < 33
meant_low said given assets images (Create name layer) h is = omega arith
meant_low said given assets images (Destroy window) h is = omega arith
meant_low said given assets images (Region window origin rects) h is = omega arith
meant_low said given assets images (Move window origin) h is = omega arith
meant_low said given assets images (Raise window) h is = omega arith
meant_low said given assets images (Lower window) h is = omega arith
meant_low said given assets images (Shape w hh cells) h is = omega arith
meant_low said given assets images (Cursor at) h is = omega arith
meant_low said given assets images (Show shown) h is = omega arith
meant_low said given assets images (Join channel) h is = omega arith
meant_low said given assets images (Leave channel) h is = omega arith
meant_low said given assets images (Send channel message payload) h is = omega arith
meant_low said given assets images Take h is = omega arith
meant_low said given assets images (Known channel) h is = omega arith
meant_low said given assets images (Fill window rect ink) h is = window_low given window h is.0
meant_low said given assets images (Tile window rect image) h is = window_low given window h is.0
meant_low said given assets images (Blit window at image alpha) h is = window_low given window h is.0
meant_low said given assets images (Line window from to colour) h is = window_low given window h is.0
meant_low said given assets images (Polyline window colour points) h is = window_low given window h is.0
meant_low said given assets images (Polygon window ink points) h is = window_low given window h is.0
meant_low said given assets images (Text window font at ink written) h is = window_low given window h is.0

-- ---- the lines of a session

none_some : {A : Type 0} (x : A) → ◌≡◌ {A = Option A} None (Some x) → ⊥
none_some x e = cc

call_step : (b : Bool) (n : ℕ) (assets : List Asset) (before lines : List CallLine) (first line : CallLine) (k : ℕ) → IsCallLine n assets before first
    → ((i : ℕ) → slice_get lines i ≡ Some line → IsCall (fonts_of assets) (length (images_of assets)) line.call)
    → slice_get (cond b (first ∷ lines) lines) k ≡ Some line → IsCall (fonts_of assets) (length (images_of assets)) line.call
call_step true n assets before lines first line zero here later is = subst (λ (l : CallLine). IsCall (fonts_of assets) (length (images_of assets)) l.call) (some_same first line is) here.call
call_step true n assets before lines first line (suc k) here later is = later k is
call_step false n assets before lines first line k here later is = later k is

call_at : (n client : ℕ) (assets : List Asset) (before lines : List CallLine) (line : CallLine) (k : ℕ) → EachBehind (IsCallLine n assets) before lines → slice_get (filter (is_by client) lines) k ≡ Some line
    → IsCall (fonts_of assets) (length (images_of assets)) line.call
call_at n client assets before [] line k each is = absurd (none_some line is)
call_at n client assets before (first ∷ lines) line k each is =
    call_step (is_by client first) n assets before (filter (is_by client) lines) first line k each.0 (λ i later. call_at n client assets (before ++ first ∷ []) lines line i each.1 later) is

-- a client's line of a session is within the limits
pub call_within : (said : Session) (client k : ℕ) (line : CallLine) → IsSession said → call_line said client k ≡ Some line → IsCall (fonts_of said.assets) (length (images_of said.assets)) line.call
call_within said client k line limits is = call_at said.clients client said.assets [] said.calls line k limits.calls is
