-- The line of a word: what the turns have read and written there, one after the other.
use Rattle.std.specs.Prelude.{◌≡◌, ℕ, zero, suc, ◌==◌, nat_lt, if◌then◌else◌, List, [], ◌∷◌, ◌++◌, map, length, Some, None}
use Rattle.std.specs.List.{flat_map}
use Rattle.qws_base.specs.Colours.{IsSceneColour}
use Rattle.qws_base.specs.Scenes.{Setting}
use Rattle.turn_logs.specs.declared.items.Item.{Item}
use Rattle.fb_words.specs.declared.known.Call.{Call}
use Rattle.fb_words.specs.declared.known.Call.TheVariants.{Step, Paint}
use Rattle.fb_words.specs.declared.known.Mode.{Mode}
use Rattle.fb_words.specs.declared.known.Mode.TheVariants.{Idle, Refused, Reading}
use Rattle.fb_words.specs.declared.known.Client.{Client}
use Rattle.fb_words.specs.declared.known.Closed.{Closed}
use Rattle.fb_words.specs.declared.known.Server.{Server}
use Rattle.region_table.specs.Numbers.{first_pixel}
use Rattle.turn_logs.specs.Lists.{upto}
use Rattle.turn_logs.specs.Lines.{on, written, Shows}

-- a client's items at stamp e: those of its closed turns, then those of its open turn
abbrev pub call_items : ℕ → Call → List Item
call_items e (Step s) = []
call_items e (Paint p) = if p.stamp == e then p.log else []

abbrev pub open_items : ℕ → Mode → List Item
open_items e Idle = []
open_items e Refused = []
open_items e (Reading None slot looked log) = []
open_items e (Reading (Some t) slot looked log) = if t == e then log else []

abbrev pub client_items : ℕ → Client → List Item
client_items e p = flat_map (call_items e) p.own ++ open_items e p.mode

-- the server's items at number e; there is no server turn 0, and the open turn has the next number
abbrev pub nth_log : List (List Item) → ℕ → List Item
nth_log [] k = []
nth_log (l ∷ ls) zero = l
nth_log (l ∷ ls) (suc k) = nth_log ls k

abbrev pub turn_log : Closed → List Item
turn_log t = t.log

abbrev pub server_items : Server → ℕ → List Item
server_items s zero = []
server_items s (suc k) = nth_log (map turn_log s.closed ++ s.log ∷ []) k

-- the items on word x at number e: the server's, then the clients' by their numbers
abbrev pub segment : ℕ → Server → List Client → ℕ → List Item
segment x s cs e = on x (server_items s e) ++ flat_map (λ p. on x (client_items e p)) cs

-- the line of word x
abbrev pub line : ℕ → Server → List Client → List Item
line x s cs = upto (segment x s cs) (suc (length s.closed))

-- the opening value of a saved word, and of a framebuffer word
abbrev pub first_value : Setting → ℕ → ℕ
first_value setting x = if nat_lt x first_pixel then 0 else setting.backdrop

-- each Pick of a line shows the last Put before it, else the opening value
abbrev pub PicksOk : Setting → Server → List Client → Type 0
PicksOk setting s cs = (x : ℕ) → Shows (first_value setting x) (line x s cs)

-- the word is what its line has written, and it is a scene colour
pub record LineOk (setting : Setting) (x value : ℕ) (items : List Item) : Type 0 where
  pub is_written : value ≡ written (first_value setting x) items
  pub colour : IsSceneColour setting.depth value
