-- The rule of the shared words: the views share out all parts, and the words fit them.
use Rattle.std.specs.Prelude.{◌≡◌, ℕ, ◌+◌, ◌<◌, ◌≤◌, ◌==◌, nat_lt, if◌then◌else◌, true, false, List, [], ◌∷◌, length, slice_index, Option, Some, None, ⊤}
use mathlib.Core.Option.{some}
use lib.ListN.{get_elem?}
use Rattle.atomic_table.specs.Table.{State}
use Rattle.qws_base.specs.Sides.{Sides, IsScreen}
use Rattle.qws_base.specs.Points.{pixel_count}
use Rattle.qws_base.specs.Colours.{IsSceneColour}
use Rattle.qws_base.specs.Scenes.{Setting}
use Rattle.qws_base.specs.declared.replies.PaintReply.TheVariants.{Gone}
use Rattle.region_table.specs.Numbers.{gate_at, IsTableWord, first_pixel, IsLineWord}
use Rattle.fb_words.specs.declared.known.StepCall.{StepCall}
use Rattle.fb_words.specs.declared.known.PaintCall.{PaintCall}
use Rattle.fb_words.specs.declared.known.KeptClip.{KeptClip}
use Rattle.fb_words.specs.declared.known.Mode.{Mode}
use Rattle.fb_words.specs.declared.known.Mode.TheVariants.{Idle, Refused, Reading}
use Rattle.fb_words.specs.declared.known.Call.{Call}
use Rattle.fb_words.specs.declared.known.Call.TheVariants.{Step, Paint}
use Rattle.fb_words.specs.declared.known.Client.{Client}
use Rattle.fb_words.specs.declared.known.Closed.{Closed}
use Rattle.fb_words.specs.declared.known.Server.{Server}
use Rattle.fb_words.specs.declared.known.View.{View}
use Rattle.turn_logs.specs.Tables.{opening_table, table_of, IsTable, Follows}
use Rattle.turn_logs.specs.Carries.{CarriesStep, CarriesPaintUnder, RepliesUnder}
use Rattle.fb_words.specs.Segments.{line, LineOk, PicksOk}
use Rattle.fb_words.specs.Rights.{LogIn}
use Rattle.fb_words.specs.Clips.{IsClip, LooksTrue}
use Rattle.turn_logs.specs.Lists.{total}
use Rattle.fb_words.specs.Views.{is_client, busy, reading, shut, is_writing, steps_in, opening_server}

-- all parts together, wherever they sit: client c stands at place c
pub record Parts : Type 0 where
  pub server : Server
  pub clients : List Client

-- ---- who holds which part

abbrev pub clients_in : ℕ → View → ℕ
clients_in c v = total (is_client c) v.clients

abbrev pub a_server : Option Server → ℕ
a_server (Some s) = 1
a_server None = 0

abbrev pub servers_in : View → ℕ
servers_in v = a_server v.server

abbrev pub IsServer : Option Server → Server → Type 0
IsServer (Some s) t = s ≡ t
IsServer None t = Unit {0}

-- the views hold each part once
pub record Spread (views : List View) (w : Parts) : Type 0 where
  pub one_server : total servers_in views ≡ 1
  pub one_client : (c : ℕ) → total (clients_in c) views ≡ (if nat_lt c (length w.clients) then 1 else 0)
  pub server_is : (id : ℕ) (v : View) → get_elem? views id ≡ some v → IsServer v.server w.server
  pub client_is : (id : ℕ) (v : View) → get_elem? views id ≡ some v → (k : ℕ) (p : Client) → get_elem? v.clients k ≡ some p → get_elem? w.clients p.number ≡ some p

-- ---- what is said of words and parts

-- each part has the screen's setting, and there are as many words as the screen needs
pub record SettingOk (key : Setting) (words : List ℕ) (s : Server) : Type 0 where
  pub long : length words ≡ first_pixel + pixel_count key.size
  pub screen : IsScreen key.size
  pub colour : IsSceneColour key.depth key.backdrop
  pub server : s.setting ≡ key

-- a client's number is its place, and its step limit is what the server part has for it
pub record SeatOk (key : Setting) (s : Server) (c : ℕ) (p : Client) : Type 0 where
  pub setting_is : p.setting ≡ key
  pub number_is : p.number ≡ c
  pub limit_is : get_elem? s.limits c ≡ some p.step_limit

-- what a call has seen: the number of its own step, or the stamp of its turn
abbrev pub mark : Call → ℕ
mark (Step s) = s.number
mark (Paint p) = p.stamp

-- the call b may stand after the call a: a step's number is greater, a paint's stamp at least as great
abbrev pub MayFollow : Call → Call → Type 0
MayFollow a (Step s) = mark a < s.number
MayFollow a (Paint p) = mark a ≤ p.stamp

-- the order of own calls
pub record OrderOk (closed : ℕ) (p : Client) : Type 0 where
  pub rises : (j k : ℕ) (a b : Call) → j < k → get_elem? p.own j ≡ some a → get_elem? p.own k ≡ some b → MayFollow a b
  pub seen_own : (k : ℕ) (a : Call) → get_elem? p.own k ≡ some a → mark a ≤ p.seen
  pub seen_within : p.seen ≤ closed

abbrev pub step_call : ℕ → Closed → StepCall
step_call n t = record { number = n; command = t.command; reply = t.reply }

-- the closed turns of client c, from number n + 1 on, as it has them among its own
abbrev pub steps_of : ℕ → ℕ → List Closed → List StepCall
steps_of c n [] = []
steps_of c n (t ∷ ts) = if t.client == c then step_call (n + 1) t ∷ steps_of c (n + 1) ts else steps_of c (n + 1) ts

-- the table words: those of the last closed table, or in a server turn its present ones
pub record TablesOk (words : List ℕ) (s : Server) : Type 0 where
  pub wide : length s.present ≡ first_pixel
  pub shown : (i : ℕ) → IsTableWord i → slice_index words i ≡ slice_index s.present i
  pub last : is_writing s.mode ≡ false → get_elem? s.tables (length s.closed) ≡ some s.present

-- kept clips
abbrev pub ClipsOk : Sides → Server → ℕ → Client → Type 0
ClipsOk size s c p = (k : ℕ) (clip : KeptClip) (t : List ℕ) → get_elem? p.clips k ≡ some clip → get_elem? s.tables (length s.closed) ≡ some t → IsClip size t c clip

-- looked words: they are the present table words, and the looked stamp is the number of closed server turns
abbrev pub IsStamp : ℕ → Option ℕ → Type 0
IsStamp closed (Some e) = e ≡ closed
IsStamp closed None = ⊤

abbrev pub IsSlot : Option ℕ → Type 0
IsSlot (Some s) = s < 33
IsSlot None = ⊤

abbrev pub LooksOk : List ℕ → ℕ → Mode → Type 0
LooksOk words closed Idle = ⊤
LooksOk words closed Refused = ⊤
LooksOk words closed (Reading stamp slot looked log) = LooksTrue words looked × IsStamp closed stamp × IsSlot slot

-- rights of a paint: each Pick and Put of an open turn lies on a word that the present table gives its slot
abbrev pub OpenRights : Sides → List ℕ → ℕ → Mode → Type 0
OpenRights size t c Idle = ⊤
OpenRights size t c Refused = ⊤
OpenRights size t c (Reading None slot looked log) = log ≡ []
OpenRights size t c (Reading (Some e) None looked log) = log ≡ []
OpenRights size t c (Reading (Some e) (Some s) looked log) = LogIn size t c s log

-- rights of a paint, and carried turns: the same of a closed turn under the table of its stamp; its log carries its paint
-- with the paint's reply; and where that is Gone, nothing was read or written
pub record PaintOk (setting : Setting) (t : List ℕ) (c : ℕ) (p : PaintCall) : Type 0 where
  pub rights : LogIn setting.size t c p.slot p.log
  pub carried : CarriesPaintUnder setting (table_of t) p.slot p.sheet p.reply p.log
  pub answered : RepliesUnder setting (table_of t) c p.slot p.sheet p.reply
  pub gone : p.reply ≡ Gone → p.log ≡ []

abbrev pub CallOk : Setting → List (List ℕ) → ℕ → Call → Type 0
CallOk setting tables c (Step s) = ⊤
CallOk setting tables c (Paint p) = (t : List ℕ) → get_elem? tables p.stamp ≡ some t → PaintOk setting t c p

abbrev pub PaintsOk : Setting → List (List ℕ) → ℕ → Client → Type 0
PaintsOk setting tables c p = (k : ℕ) (a : Call) → get_elem? p.own k ≡ some a → CallOk setting tables c a

-- carried turns of the server: the log of each carries its step from the table before it to the one that it left
abbrev pub StepsOk : Setting → List Closed → List (List ℕ) → Type 0
StepsOk setting closed tables = (e : ℕ) (turn : Closed) (t u : List ℕ) → get_elem? closed e ≡ some turn → get_elem? tables e ≡ some t → get_elem? tables (e + 1) ≡ some u
    → CarriesStep setting (table_of t) (table_of u) turn.command turn.reply turn.log

-- what is said of all closed turns, of the tables that they left, and of the calls of the clients
pub record ClosedOk (setting : Setting) (limits : List ℕ) (closed : List Closed) (tables : List (List ℕ)) (cs : List Client) : Type 0 where
  -- closed tables: one for each turn besides the opening one
  pub long : length tables ≡ length closed + 1
  pub first : get_elem? tables 0 ≡ some opening_table
  pub well : (e : ℕ) (t : List ℕ) → get_elem? tables e ≡ some t → IsTable setting.size (length limits) e t
  pub next : (e : ℕ) (t u : List ℕ) → get_elem? tables e ≡ some t → get_elem? tables (e + 1) ≡ some u → Follows t u
  -- the order of own calls
  pub order : (c : ℕ) (p : Client) → get_elem? cs c ≡ some p → OrderOk (length closed) p
  -- own steps
  pub own_steps : (c : ℕ) (p : Client) → get_elem? cs c ≡ some p → steps_in p.own ≡ steps_of c 0 closed
  pub named : (k : ℕ) (t : Closed) → get_elem? closed k ≡ some t → t.client < length limits
  -- rights of a paint, and carried turns
  pub paints : (c : ℕ) (p : Client) → get_elem? cs c ≡ some p → PaintsOk setting tables c p
  pub steps : StepsOk setting closed tables

-- line values
abbrev pub LinesOk : Setting → List ℕ → Server → List Client → Type 0
LinesOk setting words s cs = (x : ℕ) → IsLineWord x → x < length words → LineOk setting x (slice_index words x) (line x s cs)

-- the words fit the parts
pub record Fits (key : Setting) (words : List ℕ) (w : Parts) : Type 0 where
  -- the setting
  pub setting : SettingOk key words w.server
  -- the gate word
  pub gate : slice_index words gate_at ≡ shut w.server.mode + total busy w.clients
  -- exclusion
  pub apart : is_writing w.server.mode ≡ true → total reading w.clients ≡ 0
  -- seats
  pub as_many : length w.server.limits ≡ length w.clients
  pub few : length w.clients ≤ 16
  pub seats : (c : ℕ) (p : Client) → get_elem? w.clients c ≡ some p → SeatOk key w.server c p
  -- closed turns
  pub closed : ClosedOk key w.server.limits w.server.closed w.server.tables w.clients
  -- table words
  pub tables : TablesOk words w.server
  -- kept clips
  pub clips : (c : ℕ) (p : Client) → get_elem? w.clients c ≡ some p → ClipsOk key.size w.server c p
  -- looked words
  pub looks : (c : ℕ) (p : Client) → get_elem? w.clients c ≡ some p → LooksOk words (length w.server.closed) p.mode
  -- rights of a paint
  pub rights : (c : ℕ) (p : Client) → get_elem? w.clients c ≡ some p → OpenRights key.size w.server.present c p.mode
  -- line values
  pub quiet : is_writing w.server.mode ≡ false → w.server.log ≡ []
  pub lines : LinesOk key words w.server w.clients
  pub picks : PicksOk key w.server w.clients

pub record Holds (key : Setting) (s : State (Unit {0}) View) : Type 0 where
  pub parts : Parts
  pub spread : Spread s.views parts
  pub fits : Fits key s.words parts

abbrev pub opening_view : Setting → View
opening_view setting = record { server = Some (opening_server setting); clients = [] }
