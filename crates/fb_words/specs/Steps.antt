-- What each step tells its seat, and what it changes there.
use Rattle.std.specs.List.{range_with_len}
use Rattle.qws_base.specs.Colours.{IsSceneColour}
use Rattle.turn_logs.specs.Lines.{on, written, Shows}
use Rattle.fb_words.specs.Segments.{line, first_value, PicksOk}
use Rattle.turn_logs.specs.Carries.{CarriesStep, CarriesPaintUnder, RepliesUnder}
use Rattle.std.specs.Prelude.{◌≡◌, ℕ, ◌<◌, ◌≤◌, ◌==◌, nat_lt, if◌then◌else◌, List, [], ◌∷◌, ◌++◌, map, length, None, ◌+◌, Option, Some, pos, slice_index, slice_set}
use mathlib.Core.Option.{some}
use lib.ListN.{get_elem?}
use Rattle.atomic_table.specs.Table.{Me, Step}
use Rattle.qws_base.specs.declared.commands.Command.TheVariants.{Take}
use Rattle.qws_base.specs.declared.replies.Reply.TheVariants.{Done}
use Rattle.qws_base.specs.declared.replies.PaintReply.TheVariants.{Gone}
use Rattle.qws_base.specs.declared.journals.JournalEntry.{JournalEntry}
use Rattle.qws_base.specs.declared.journals.BookEntry.{BookEntry}
use Rattle.qws_base.specs.Sheets.{Sheet}
use Rattle.region_table.specs.Numbers.{stamp_at, closed_gate, IsTableWord, first_pixel, is_table_word, revision_of_slot, IsLineWord}
use Rattle.qws_base.specs.Books.{BookView}
use Rattle.qws_base.specs.Scenes.{Setting}
use Rattle.turn_logs.specs.declared.items.Item.{Item}
use Rattle.turn_logs.specs.declared.items.Item.TheVariants.{Pick, Put}
use Rattle.fb_words.specs.declared.known.Mode.{Mode}
use Rattle.fb_words.specs.declared.known.Mode.TheVariants.{Idle, Refused, Reading}
use Rattle.fb_words.specs.declared.known.ServerMode.TheVariants.{Resting, Closing, Writing}
use Rattle.fb_words.specs.declared.known.StepCall.{StepCall}
use Rattle.fb_words.specs.declared.known.PaintCall.{PaintCall}
use Rattle.fb_words.specs.declared.known.Call.TheVariants.{Step as OwnStep, Paint as OwnPaint}
use Rattle.fb_words.specs.declared.known.Client.{Client}
use Rattle.fb_words.specs.declared.known.Closed.{Closed}
use Rattle.fb_words.specs.declared.known.Server.{Server}
use Rattle.fb_words.specs.declared.known.View.{View}
use Rattle.turn_logs.specs.Tables.{IsTable, Follows, table_of}
use Rattle.fb_words.specs.Clips.{stamp_in, slot_in, log_in, looked_in, row_seen, with_row, Sees}
use Rattle.turn_logs.specs.Lists.{total}
use Rattle.fb_words.specs.Views.{is_client, steps_in, books_in, alone, only, head_view, the_server, client_of, without}
use Rattle.fb_words.specs.Rule.{steps_of, OrderOk, ClipsOk, PaintsOk, ClosedOk}

abbrev pub Empty : Type 0
Empty = Unit {0}

-- ---- a client's steps

-- an enter that found n: the client is let in where n is below 2^32, and else refused
abbrev pub after_enter : Client → ℕ → Client
after_enter p n = record p {
  mode = (if nat_lt n closed_gate then Reading None None [] [] else Refused);
  turned = (if nat_lt n closed_gate then p.turned else p.turned ++ n ∷ []);
}

abbrev pub entered : Step Empty → Me Empty View → ℕ → Me Empty View → Type 0
entered st me n me' = me' ≡ (alone (after_enter (only me.0.clients) n), [])

-- a retreat
abbrev pub after_retreat : Client → Client
after_retreat p = record p { mode = Idle }

abbrev pub retreated : Step Empty → Me Empty View → ℕ → Me Empty View → Type 0
retreated st me n me' = me' ≡ (alone (after_retreat (only me.0.clients)), [])

-- a look at word i that found n
abbrev pub or_first : Option ℕ → Option ℕ → Option ℕ
or_first (Some s) o = Some s
or_first None o = o

abbrev pub looked_mode : ℕ → ℕ → Mode → Mode
looked_mode i n Idle = Idle
looked_mode i n Refused = Refused
looked_mode i n (Reading stamp slot looked log) =
    Reading (or_first stamp (if i == stamp_at then Some n else None)) (or_first slot (revision_of_slot i)) (looked ++ record { word = i; value = n } ∷ []) log

abbrev pub after_look : Client → ℕ → ℕ → Client
after_look p i n = record p { mode = looked_mode i n p.mode }

-- a looked stamp is the turn's
abbrev pub IsTurnStamp : Client → ℕ → ℕ → Type 0
IsTurnStamp p i n = i ≡ stamp_at → stamp_in p.mode ≡ Some n

abbrev pub looked_at : Step Empty → Me Empty View → ℕ → Me Empty View → Type 0
looked_at st me n me' = let q = after_look (only me.0.clients) st.word n in (me' ≡ (alone q, [])) × Sees q × IsTurnStamp q st.word n

-- a pick and a put: one item more in the log
abbrev pub item_mode : Item → Mode → Mode
item_mode i Idle = Idle
item_mode i Refused = Refused
item_mode i (Reading stamp slot looked log) = Reading stamp slot looked (log ++ i ∷ [])

abbrev pub after_item : Client → Item → Client
after_item p i = record p { mode = item_mode i p.mode }

-- the value is a scene colour
abbrev pub picked : Step Empty → Me Empty View → ℕ → Me Empty View → Type 0
picked st me n me' = let p = only me.0.clients in (me' ≡ (alone (after_item p (Pick st.word n)), [])) × IsSceneColour p.setting.depth n

abbrev pub put : Step Empty → Me Empty View → ℕ → Me Empty View → Type 0
put st me n me' = me' ≡ (alone (after_item (only me.0.clients) (Put st.word st.first)), [])

-- a leave: the turn that it closes
abbrev pub paint_call : Client → BookEntry → Sheet → PaintCall
paint_call p e sheet = record { stamp = e.stamp; slot = e.slot; tag = e.tag; sheet = sheet; reply = e.reply; log = log_in p.mode; looked = looked_in p.mode }

abbrev pub after_leave : Client → PaintCall → Client
after_leave p t = record p { mode = Idle; own = p.own ++ OwnPaint t ∷ []; seen = t.stamp; clips = with_row (row_seen p.number p.mode) p.clips }

abbrev pub left : PaintCall → Step Empty → Me Empty View → ℕ → Me Empty View → Type 0
left t st me n me' = me' ≡ (alone (after_leave (only me.0.clients) t), [])

abbrev pub no_paint : PaintCall
no_paint = record { stamp = 0; slot = 0; tag = 0; sheet = record { reach = record { x = pos 0; y = pos 0; w = 0; h = 0 }; inks = [] }; reply = Gone; log = []; looked = [] }

-- the entry of a turn: it has the turn's stamp, and where the turn has read or written a pixel its slot
pub record IsEntryOf (p : Client) (e : BookEntry) : Type 0 where
  pub stamp : stamp_in p.mode ≡ Some e.stamp
  pub slot : (k : ℕ) (i : Item) → get_elem? (log_in p.mode) k ≡ some i → slot_in p.mode ≡ Some e.slot

-- the log carries the entry's paint, and the reply is the paint's, under each table that may be the present one by what the
-- turn has looked at and what the client keeps
abbrev pub CarriesAtEnd : Client → BookEntry → Sheet → Type 0
CarriesAtEnd p e sheet = (v : Sees p)
    → CarriesPaintUnder p.setting (table_of v.table) e.slot sheet e.reply (log_in p.mode) × RepliesUnder p.setting (table_of v.table) p.number e.slot sheet e.reply

-- ---- a server's steps

-- what the rule says of a client part that sits with the server part
pub record Sits (s : Server) (p : Client) : Type 0 where
  pub setting : p.setting ≡ s.setting
  pub limit : get_elem? s.limits p.number ≡ some p.step_limit
  pub seen : p.seen ≤ length s.closed
  pub own_steps : steps_in p.own ≡ steps_of p.number 0 s.closed
  pub order : OrderOk (length s.closed) p
  pub clips : ClipsOk s.setting.size s p.number p
  pub paints : PaintsOk s.setting s.tables p.number p

abbrev pub AllSit : Server → List Client → Type 0
AllSit s ps = (k : ℕ) (p : Client) → get_elem? ps k ≡ some p → Sits s p

-- no client sits twice
abbrev pub SitOnce : List Client → Type 0
SitOnce ps = (c : ℕ) → total (is_client c) ps ≤ 1

-- no client that sits is in a turn
abbrev pub AllIdle : List Client → Type 0
AllIdle ps = (k : ℕ) (p : Client) → get_elem? ps k ≡ some p → p.mode ≡ Idle

-- each admitted client sits
abbrev pub AllHere : Server → List Client → Type 0
AllHere s ps = (c : ℕ) → c < length s.limits → (k : ℕ) × (p : Client) × (get_elem? ps k ≡ some p) × (p.number ≡ c)

abbrev pub after_announce : Server → Server
after_announce s = record s { mode = Closing }

-- it found less than 2^32
abbrev pub announced : Step Empty → Me Empty View → ℕ → Me Empty View → Type 0
announced st me n me' = (me' ≡ (head_view (after_announce (the_server me.0)) me.0.clients, [])) × (n < closed_gate)

-- a settle that found n: the turn is open where n is 2^32
abbrev pub after_settle : Server → ℕ → Server
after_settle s n = record s { mode = (if n == closed_gate then Writing else Closing); turned = (if n == closed_gate then s.turned else s.turned ++ n ∷ []) }

-- the clients that sit, by number, where all n sit
abbrev pub arranged : ℕ → List Client → List Client
arranged n ps = map (λ c. client_of c ps) (range_with_len 0 n)

-- where the server isn't writing, its log is empty, and the present table is the last closed one, which is well formed
pub record IsBetweenTurns (s : Server) : Type 0 where
  pub empty : s.log ≡ []
  pub last : get_elem? s.tables (length s.closed) ≡ some s.present
  pub wide : length s.present ≡ first_pixel
  pub is_table : IsTable s.setting.size (length s.limits) (length s.closed) s.present

-- What is known of all closed turns where all admitted clients sit: what the rule says of them, and that each Pick shows the
-- last Put before it. It doesn't depend on the server's mode.
abbrev pub Knows : Server → List Client → Type 0
Knows s cs = ClosedOk s.setting s.limits s.closed s.tables cs × PicksOk s.setting s cs

-- a load that changes nothing; where all admitted clients sit, all closed turns are known
abbrev pub told : Step Empty → Me Empty View → ℕ → Me Empty View → Type 0
told st me n me' = let s = the_server me.0 in let ps = me.0.clients in
    (me' ≡ me) × AllSit s ps × SitOnce ps × (length s.limits ≤ 16) × (AllHere s ps → Knows s (arranged (length s.limits) ps))

-- the turn would open with an empty log and the last closed table; where all admitted clients sit, it finds 2^32, and all
-- closed turns are known
abbrev pub settled : Step Empty → Me Empty View → ℕ → Me Empty View → Type 0
settled st me n me' = let s = the_server me.0 in let ps = me.0.clients in
    (me' ≡ (head_view (after_settle s n) ps, [])) × (AllHere s ps → n ≡ closed_gate) × (AllHere s ps → Knows s (arranged (length s.limits) ps)) × IsBetweenTurns s

-- a read of word i that found n, and a write of word i
abbrev pub after_read : Server → ℕ → ℕ → Server
after_read s i n = record s { log = (if is_table_word i then s.log else s.log ++ Pick i n ∷ []) }

-- Of a table word it is the present one. Of a framebuffer word or a saved word it is a scene colour, and where all admitted
-- clients sit it is what the word's line has written.
pub record ReadTells (s : Server) (ps : List Client) (x n : ℕ) : Type 0 where
  pub present : IsTableWord x → n ≡ slice_index s.present x
  pub colour : IsLineWord x → IsSceneColour s.setting.depth n
  pub written_is : IsLineWord x → AllHere s ps → n ≡ written (first_value s.setting x) (line x s (arranged (length s.limits) ps))
  pub own_log : IsLineWord x → (v : ℕ) × Shows v (on x s.log) × (n ≡ written v (on x s.log)) × (AllHere s ps → v ≡ written (first_value s.setting x) (line x record s { log = [] } (arranged (length s.limits) ps)))

abbrev pub was_read : Step Empty → Me Empty View → ℕ → Me Empty View → Type 0
was_read st me n me' = let s = the_server me.0 in
    (me' ≡ (head_view (after_read s st.word n) me.0.clients, [])) × ReadTells s me.0.clients st.word n

abbrev pub after_write : Server → ℕ → ℕ → Server
after_write s i v = record s { present = (if is_table_word i then slice_set s.present i v else s.present); log = (if is_table_word i then s.log else s.log ++ Put i v ∷ []) }

abbrev pub wrote : Step Empty → Me Empty View → ℕ → Me Empty View → Type 0
wrote st me n me' = me' ≡ (head_view (after_write (the_server me.0) st.word st.first) me.0.clients, [])

abbrev pub after_withdraw : Server → Server
after_withdraw s = record s { mode = Resting }

abbrev pub withdrew : Step Empty → Me Empty View → ℕ → Me Empty View → Type 0
withdrew st me n me' = me' ≡ (head_view (after_withdraw (the_server me.0)) me.0.clients, [])

-- the present table is a table with the next number, and follows the last closed one
pub record IsNextTable (s : Server) : Type 0 where
  pub is_table : IsTable s.setting.size (length s.limits) (length s.closed + 1) s.present
  pub follows : (t : List ℕ) → get_elem? s.tables (length s.closed) ≡ some t → Follows t s.present

-- the log carries the entry's step from the last closed table to the present one
abbrev pub CarriesAtGive : Server → JournalEntry → Type 0
CarriesAtGive s e = (t : List ℕ) → get_elem? s.tables (length s.closed) ≡ some t → CarriesStep s.setting (table_of t) (table_of s.present) e.command e.reply s.log

-- a give: the turn that it closes, also as its client has it
abbrev pub closed_turn : Server → JournalEntry → Closed
closed_turn s e = record { client = e.client; command = e.command; reply = e.reply; log = s.log }

abbrev pub own_step : JournalEntry → StepCall
own_step e = record { number = e.number; command = e.command; reply = e.reply }

abbrev pub stepped : JournalEntry → Client → Client
stepped e p = record p { seen = e.number; own = p.own ++ OwnStep (own_step e) ∷ [] }

abbrev pub with_step : JournalEntry → Client → Client
with_step e p = if p.number == e.client then stepped e p else p

abbrev pub after_give : Server → JournalEntry → Server
after_give s e = record s { mode = Resting; closed = s.closed ++ closed_turn s e ∷ []; log = []; tables = s.tables ++ s.present ∷ [] }

abbrev pub given : JournalEntry → Step Empty → Me Empty View → ℕ → Me Empty View → Type 0
given e st me n me' = me' ≡ (head_view (after_give (the_server me.0) e) (map (with_step e) me.0.clients), [])

abbrev pub no_entry : JournalEntry
no_entry = record { number = 0; client = 0; command = Take; reply = Done }

-- ---- seats

abbrev pub fresh : Setting → ℕ → ℕ → Client
fresh setting c limit = record { setting = setting; number = c; step_limit = limit; seen = 0; own = []; clips = []; turned = []; mode = Idle }

abbrev pub with_limit : Server → ℕ → Server
with_limit s limit = record s { limits = s.limits ++ limit ∷ [] }

-- the stub's client sits there, and the stub has its book
pub record SitsAs (stub : BookView) (ps : List Client) : Type 0 where
  pub here : 1 ≤ total (is_client stub.client) ps
  pub book : stub.entries ≡ books_in (client_of stub.client ps).own

-- the stub of a client that sits down sits; those that sat stay so, also where another client rises
pub record StubLaw : Type 0 where
  pub sits : (ps : List Client) (p : Client) (stub : BookView) → SitOnce (ps ++ p ∷ []) → stub.client ≡ p.number → stub.entries ≡ books_in p.own → SitsAs stub (ps ++ p ∷ []) × (client_of stub.client (ps ++ p ∷ []) ≡ p)
  pub stays : (ps : List Client) (p : Client) (stub : BookView) → SitsAs stub ps → SitsAs stub (ps ++ p ∷ []) × (client_of stub.client (ps ++ p ∷ []) ≡ client_of stub.client ps)
  pub rises : (ps : List Client) (c : ℕ) (stub : BookView) → (stub.client ≡ c → ⊥) → SitsAs stub ps → SitsAs stub (without c ps) × (client_of stub.client (without c ps) ≡ client_of stub.client ps)
