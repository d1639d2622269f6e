-- What open turns are, and what a refused one leaves.
use Rattle.region_table.specs.Numbers.{stamp_at}
use Rattle.fb_words.specs.Clips.{stamp_in}
use Rattle.fb_words.specs.declared.known.Client.{Client}
use Rattle.std.specs.Prelude.{◌≡◌, ℕ, [], ◌∷◌, ◌++◌, Some, None, Result, Ok, Err}
use Rattle.fb_words.specs.declared.known.Mode.TheVariants.{Idle, Reading}
use Rattle.fb_words.specs.declared.known.ServerMode.{ServerMode}
use Rattle.fb_words.specs.declared.known.ServerMode.TheVariants.{Resting, Closing, Writing}
use Rattle.fb_words.specs.Views.{PassView, HeadView, reading}
use Rattle.display_lock.specs.declared.turns.Busy.{Busy}
use Rattle.display_lock.specs.declared.turns.PaintTurn.{PaintTurn}
use Rattle.display_lock.specs.declared.turns.ServerTurn.{ServerTurn}

-- ---- a painter

-- let in, with an empty log; of the table it has looked at the stamp
abbrev pub let_in : PassView → ℕ → PassView
let_in p stamp = record p { client = record p.client { mode = Reading (Some stamp) None (record { word = stamp_at; value = stamp } ∷ []) [] } }

-- turned away by the word found
abbrev pub turned_away : PassView → ℕ → PassView
turned_away p found = record p { client = record p.client { mode = Idle; turned = p.client.turned ++ found ∷ [] } }

abbrev pub IsTurned : {A : Type 0} → PassView → Result A Busy → PassView → Type 0
IsTurned p (Ok t) now = Unit {0}
IsTurned p (Err busy) now = now ≡ turned_away p busy.found

abbrev pub client_in : PaintTurn → Client
client_in t = t.pass.now.client

abbrev pub IsOpen : PaintTurn → Type 0
IsOpen t = (t.pass.now.screen ≡ t.screen.now) × (reading (client_in t) ≡ 1) × (stamp_in (client_in t).mode ≡ Some t.stamp) × ((client_in t).setting ≡ t.screen.now.setting)

-- the same turn, of the same pass on the same screen
abbrev pub SameTurn : PaintTurn → PaintTurn → Type 0
SameTurn t u = (u.pass.ghost_name ≡ t.pass.ghost_name) × (u.screen.now ≡ t.screen.now) × (u.stamp ≡ t.stamp) × (u.pass.now.screen ≡ t.pass.now.screen) × (u.pass.now.book_limit ≡ t.pass.now.book_limit)

-- ---- the server

abbrev pub opened : HeadView → HeadView
opened h = record h { server = record h.server { mode = Writing } }

-- not let in by the word found: the gate is closed
abbrev pub shut_out : HeadView → ℕ → HeadView
shut_out h found = record h { server = record h.server { mode = Closing; turned = h.server.turned ++ found ∷ [] } }

abbrev pub IsShutOut : {A : Type 0} → HeadView → Result A Busy → HeadView → Type 0
IsShutOut h (Ok t) now = Unit {0}
IsShutOut h (Err busy) now = now ≡ shut_out h busy.found

abbrev pub IsOpenServer : ServerTurn → Type 0
IsOpenServer t = (t.head.now.screen ≡ t.screen.now) × (t.head.now.server.mode ≡ Writing) × (t.head.now.server.setting ≡ t.screen.now.setting)

-- the same turn, of the same head on the same screen
abbrev pub SameServerTurn : ServerTurn → ServerTurn → Type 0
SameServerTurn t u = (u.head.ghost_name ≡ t.head.ghost_name) × (u.screen.now ≡ t.screen.now)

-- closing no more
abbrev pub rested : ServerMode → ServerMode
rested Resting = Resting
rested Closing = Resting
rested Writing = Writing

abbrev pub withdrawn : HeadView → HeadView
withdrawn h = record h { server = record h.server { mode = rested h.server.mode } }
