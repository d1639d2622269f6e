-- A look, and a leave that closes a turn, keep the words and the world in step.
use Rattle.fb_words.proofs.Painting.{look_rights, look_items, rights_log, open_as}
use Rattle.turn_logs.proofs.Joining.{joined-append}
use Rattle.turn_logs.specs.Lists.{total}
use Rattle.fb_words.specs.Segments.{call_items, client_items}
use Rattle.fb_words.specs.Rights.{LogIn}
use Rattle.turn_logs.specs.Carries.{is_painted, CarriesPaintUnder, RepliesUnder}
use Rattle.qws_base.specs.Sheets.{Sheet}
use Rattle.qws_base.specs.Scenes.{inked, paint_reply}
use Rattle.qws_base.specs.declared.replies.PaintReply.{PaintReply}
use Rattle.qws_base.specs.declared.replies.PaintReply.TheVariants.{Painted, Gone}
use Rattle.region_table.specs.Layouts.{is_owner, layout_of_table}
use Rattle.region_table.specs.Tables.{row_of, owner_from}
use Rattle.region_table.proofs.Reading.{row_of_from}
use Rattle.turn_logs.specs.declared.items.Item.{Item}
use Rattle.qws_base.specs.Books.{BookView}
use Rattle.std.proofs.Common.{◌≡◌, ℕ, suc, ◌+◌, ◌-◌, ◌%◌, ◌^◌, ◌<◌, ◌≤◌, ◌==◌, nat_lt, ◌/◌, append-nil, zero-le, if◌then◌else◌, Bool, true, false, List, [], ◌∷◌, ◌++◌, length, get_or, set, slice_index, eq-eqb, ne_eqb, sym, refl, ap, ◌∙◌, subst, arith, Option, Some, None, zero}
use Rattle.std.specs.List.{flat_map}
use Rattle.std.proofs.lemmas.List.{set-get_or}
use Rattle.std.proofs.lemmas.Bool.{false≢true}
use Rattle.std.proofs.lemmas.Bool.Decides.{nat_tests}
use mathlib.Core.Option.{some, none, some-injective, some-ne-none}
use lib.ListN.{get_elem?}
use Rattle.atomic_table.specs.Table.{Me, step, Allows}
use Rattle.atomic_table.proofs.Lists.{at_last, at_longer}
use Rattle.qws_base.specs.Sides.{Sides}
use Rattle.qws_base.specs.declared.journals.BookEntry.{BookEntry}
use Rattle.qws_base.specs.Scenes.{Setting}
use Rattle.region_table.specs.Numbers.{row_word, IsTableWord, revision_of_slot}
use Rattle.fb_words.specs.declared.known.Looked.{Looked}
use Rattle.fb_words.specs.declared.known.KeptClip.{KeptClip}
use Rattle.fb_words.specs.declared.known.PaintCall.{PaintCall}
use Rattle.fb_words.specs.declared.known.Call.TheVariants.{Paint}
use Rattle.fb_words.specs.declared.known.Mode.{Mode}
use Rattle.fb_words.specs.declared.known.Mode.TheVariants.{Idle, Refused, Reading}
use Rattle.fb_words.specs.declared.known.Client.{Client}
use Rattle.fb_words.specs.declared.known.Server.{Server}
use Rattle.fb_words.specs.declared.known.View.{View}
use Rattle.turn_logs.specs.Tables.{revision_in, count_in, IsTable, table_of}
use Rattle.fb_words.specs.Clips.{look_of, looked_in, row_seen, with_row, kept, IsClip, LooksTrue, Sees, stamp_in, slot_in, log_in}
use Rattle.fb_words.specs.Views.{busy, reading, busy_mode, reading_mode, is_writing, steps_in, books_in, book_entry, alone}
use Rattle.fb_words.specs.Rule.{Parts, TablesOk, IsStamp, IsSlot, LooksOk, Fits, Holds, PaintOk, CallOk}
use Rattle.fb_words.specs.Steps.{or_first, looked_mode, after_look, looked_at, after_leave, left}
use Rattle.fb_words.proofs.Places.{each_of}
use Rattle.turn_logs.proofs.Totals.{total_one}
use Rattle.fb_words.proofs.Rows.{look_true, spelt_from, seen_row, kept_is}
use Rattle.turn_logs.proofs.Options.{same_some, none_some}
use Rattle.region_table.proofs.Words.{table_below}
use Rattle.fb_words.proofs.Spreads.{client_steps}
use Rattle.fb_words.proofs.Gate.{SameWords, gate_set, gate_now, same_calls, fits_client, part_of, IsAlone}
use Rattle.fb_words.proofs.Serving.{order_more, steps_more, books_more}

abbrev Mine : Type 0
Mine = Me (Unit {0}) View

look_set : (words : List ℕ) (i : ℕ) → SameWords words (set words i (get_or words i 0))
look_set words i = let P : List ℕ → Type 0 = SameWords words in subst P (sym (set-get_or words i 0)) record { long = refl; same = λ _ _. refl }

-- where a client reads, no server turn is open
not_writing : (b : Bool) (n k : ℕ) → (b ≡ true → n ≡ 0) → k ≤ n → k ≡ 1 → b ≡ false
not_writing true n k none_reads le one = absurd (let z = none_reads refl in omega arith)
not_writing false n k none_reads le one = refl

pub no_turn : (key : Setting) (words : List ℕ) (w : Parts) (p : Client) → Fits key words w → get_elem? w.clients p.number ≡ some p → reading p ≡ 1 → is_writing w.server.mode ≡ false
no_turn key words w p f at reads = not_writing (is_writing w.server.mode) (total reading w.clients) (reading p) f.apart (total_one reading w.clients p.number p at) reads

-- then the present table is the last closed one
pub present_table : (key : Setting) (words : List ℕ) (w : Parts) → Fits key words w → is_writing w.server.mode ≡ false → IsTable key.size (length w.server.limits) (length w.server.closed) w.server.present
present_table key words w f idle = f.closed.well (length w.server.closed) w.server.present (f.tables.last idle)

-- looked words are those of the present table
pub looks_present : (words : List ℕ) (s : Server) (m : Mode) → TablesOk words s → LooksOk words (length s.closed) m → LooksOk s.present (length s.closed) m
looks_present words s Idle ok l = tt
looks_present words s Refused ok l = tt
looks_present words s (Reading stamp slot looked log) ok l = ((λ k x e. let t = l.0 k x e in (t.0, sym (ok.shown x.word t.0) ∙ t.1)), l.1, l.2)

pub looks_in : (t : List ℕ) (closed : ℕ) (m : Mode) → LooksOk t closed m → LooksTrue t (looked_in m)
looks_in t closed Idle l = λ k x e. absurd (some-ne-none x (sym e))
looks_in t closed Refused l = λ k x e. absurd (some-ne-none x (sym e))
looks_in t closed (Reading stamp slot looked log) l = l.0

-- ---- look

stamp_first : (b : Bool) (stamp : Option ℕ) (n closed : ℕ) → (b ≡ true → n ≡ closed) → IsStamp closed stamp → IsStamp closed (or_first stamp (if b then Some n else None))
stamp_first b (Some e) n closed is ok = ok
stamp_first true None n closed is ok = is refl
stamp_first false None n closed is ok = tt

slot_first : (slot o : Option ℕ) → IsSlot slot → IsSlot o → IsSlot (or_first slot o)
slot_first (Some s) o ok new = ok
slot_first None o ok new = new

slot_below : (i : ℕ) → i < 10632 → IsSlot (revision_of_slot i)
slot_below i lt = go (nat_lt i 2052) refl ((i - 2052) % 260 == 1)
  where
    go : (b : Bool) → nat_lt i 2052 ≡ b → (c : Bool) → IsSlot (if b then None else if c then Some ((i - 2052) / 260) else None)
    go true is c = tt
    go false is true = omega arith
    go false is false = tt

looked_ok : (words : List ℕ) (closed i : ℕ) (m : Mode) → IsTableWord i → (i ≡ 1 → get_or words i 0 ≡ closed) → LooksOk words closed m → LooksOk words closed (looked_mode i (get_or words i 0) m)
looked_ok words closed i Idle t stamp ok = ok
looked_ok words closed i Refused t stamp ok = ok
looked_ok words closed i (Reading st slot looked log) t stamp ok = (
  each_of (λ k (l : Looked). IsTableWord l.word × (get_or words l.word 0 ≡ l.value)) looked record { word = i; value = get_or words i 0 } ok.0 (t, refl),
  stamp_first (i == 1) st (get_or words i 0) closed (λ e. stamp (grind (arith, nat_tests))) ok.1,
  slot_first slot (revision_of_slot i) ok.2 (slot_below i (table_below i t)),
)

turn_stamp : (words : List ℕ) (closed i n : ℕ) (m : Mode) → reading_mode m ≡ 1 → LooksOk words closed m → i ≡ 1 → n ≡ closed → stamp_in (looked_mode i n m) ≡ Some n
turn_stamp words closed i n Idle reads ok one now = absurd (omega arith)
turn_stamp words closed i n Refused reads ok one now = absurd (omega arith)
turn_stamp words closed i n (Reading None slot looked log) reads ok one now = ap (λ b. if b then Some n else None) (eq-eqb i 1 one)
turn_stamp words closed i n (Reading (Some e) slot looked log) reads ok one now = ap (λ x. Some x) (ok.1 ∙ sym now)

same_busy : (m : Mode) (i n : ℕ) → (busy_mode (looked_mode i n m) ≡ busy_mode m) × (reading_mode (looked_mode i n m) ≡ reading_mode m)
same_busy Idle i n = (refl, refl)
same_busy Refused i n = (refl, refl)
same_busy (Reading stamp slot looked log) i n = (refl, refl)

pub looks : (key : Setting) (slots id : ℕ) (me : Mine) (i : ℕ) → IsAlone me → reading_mode (part_of me).mode ≡ 1 → IsTableWord i → Allows (Holds key) slots id me i (λ n. n) (looked_at (step slots i 0 0 none) me)
looks key slots id me i is reads t = let p = part_of me in let Q : Mine → Type 0 = λ m. Allows (Holds key) slots id m i (λ n. n) (looked_at (step slots i 0 0 none) m) in
    subst Q (sym is) (client_steps key slots id p i (λ n. n) (looked_at (step slots i 0 0 none) (alone p, []))
    (λ words w f at _. let n : ℕ = get_or words i 0 in let s = w.server in let q = after_look p i n in
    let idle = no_turn key words w p f at reads in let table = present_table key words w f idle in let ok = f.looks p.number p at in
    let stamp : i ≡ 1 → n ≡ length s.closed = (λ one. f.tables.shown i t ∙ ap (λ k. get_or s.present k 0) one ∙ table.stamp_is) in
    let looked = looked_ok words (length s.closed) i p.mode t stamp ok in let b = same_busy p.mode i n in
    let set_ok : LooksOk (set words i n) (length s.closed) q.mode = subst (λ x. LooksOk x (length s.closed) q.mode) (sym (set-get_or words i 0)) looked in
    let seat = f.seats p.number p at in let many = f.as_many in let few = f.few in let order = f.closed.order p.number p at in let seen = order.seen_within in let stamped = table.stamp_is in (
      q,
      refl,
      fits_client key words (set words i n) w p q f at (look_set words i)
          (ap (λ ws. get_or ws 0 0 + busy p) (set-get_or words i 0) ∙ ap (λ k. get_or words 0 0 + k) (sym b.0)) (λ _. (let e = b.1 in omega arith))
          (same_calls key words (set words i n) w p q f at refl refl refl refl refl refl set_ok (look_rights key.size s.present p.number i n p.mode (f.rights p.number p at)) (λ e. look_items key.size s.present p.number i n e p.mode (f.rights p.number p at))),
      (
        refl,
        record {
          table = s.present;
          admitted = length s.limits;
          few = omega arith;
          is_table = subst (λ x. IsTable x.size (length s.limits) (get_or s.present 1 0) s.present) (sym seat.setting_is) (subst (λ k. IsTable key.size (length s.limits) k s.present) (sym stamped) table);
          looks = looks_in s.present (length s.closed) q.mode (looks_present words s q.mode f.tables looked);
          seen = omega arith;
          clips = λ k clip e. subst (λ x. IsClip x.size s.present p.number clip) (sym seat.setting_is) (f.clips p.number p at k clip s.present e (f.tables.last idle));
        },
        (λ one. turn_stamp words (length s.closed) i n p.mode reads ok one (stamp one)),
      ),
    )))

-- ---- what a look tells

-- a turn's stamp stays
pub stamp_stays : (m : Mode) (i n e : ℕ) → stamp_in m ≡ Some e → stamp_in (looked_mode i n m) ≡ Some e
stamp_stays Idle i n e is = none_some e is
stamp_stays Refused i n e is = none_some e is
stamp_stays (Reading None slot looked log) i n e is = none_some e is
stamp_stays (Reading (Some s) slot looked log) i n e is = is

last_look : (m : Mode) (i n : ℕ) → reading_mode m ≡ 1 → (k : ℕ) × (get_elem? (looked_in (looked_mode i n m)) k ≡ some record { word = i; value = n })
last_look Idle i n reads = absurd (omega arith)
last_look Refused i n reads = absurd (omega arith)
last_look (Reading stamp slot looked log) i n reads = (length looked, at_last looked record { word = i; value = n } (length looked) refl)

pub earlier : (t : List ℕ) (m : Mode) (i n : ℕ) → LooksTrue t (looked_in (looked_mode i n m)) → LooksTrue t (looked_in m)
earlier t Idle i n ok = ok
earlier t Refused i n ok = ok
earlier t (Reading stamp slot looked log) i n ok = λ k l e. ok k l (at_longer looked (record { word = i; value = n } ∷ []) k l e)

pub value_seen : (p : Client) (i n : ℕ) → reading p ≡ 1 → (v : Sees (after_look p i n)) → get_or v.table i 0 ≡ n
value_seen p i n reads v = let l = last_look p.mode i n reads in (v.looks l.0 _ l.1).1

pub same_value : (p : Client) (i n : ℕ) → reading p ≡ 1 → Sees (after_look p i n) → (value : ℕ) → look_of (looked_in p.mode) i ≡ Some value → n ≡ value
same_value p i n reads v value e = sym (value_seen p i n reads v) ∙ (look_true v.table (looked_in p.mode) i value (earlier v.table p.mode i n v.looks) e).1

pub stamp_seen : (p : Client) (i n : ℕ) → reading p ≡ 1 → Sees (after_look p i n) → i ≡ 1 → p.seen ≤ n
stamp_seen p i n reads v one = let is = value_seen p i n reads v in let at : get_or v.table 1 0 ≡ n = ap (λ k. get_or v.table k 0) (sym one) ∙ is in let z = v.seen in omega arith

seen_revision : (t : List ℕ) (number : ℕ) (m : Mode) (clip : KeptClip) → LooksTrue t (looked_in m) → row_seen number m ≡ Some clip → revision_in t clip.slot ≡ clip.revision
seen_revision t number Idle clip ok e = none_some clip e
seen_revision t number Refused clip ok e = none_some clip e
seen_revision t number (Reading stamp None looked log) clip ok e = none_some clip e
seen_revision t number (Reading stamp (Some s) looked log) clip ok e = (look_true t looked _ _ ok (spelt_from number s looked clip e).1.revision).1

pub count_seen : (p : Client) (i n : ℕ) → reading p ≡ 1 → Sees (after_look p i n) → (s : ℕ) → s < 33 → i ≡ row_word s + 3 → n ≤ 256
count_seen p i n reads v s low at = let now : count_in v.table s ≡ n = ap (λ x. get_or v.table x 0) (sym at) ∙ value_seen p i n reads v in subst (λ x. x ≤ 256) now (v.is_table.few s low)

pub revision_seen : (p : Client) (i n : ℕ) → reading p ≡ 1 → Sees (after_look p i n) → (s : ℕ) (clip : KeptClip) → s < 33 → i ≡ row_word s + 1 → kept p s ≡ Some clip → clip.revision ≤ n
revision_seen p i n reads v s clip _ at e =
    let k = kept_is p s clip (λ c. c.revision ≤ revision_in v.table c.slot) (λ c d. let r = seen_revision v.table p.number p.mode c (earlier v.table p.mode i n v.looks) d in omega arith) (λ k c d. (v.clips k c d).at_most) e in
    let now : revision_in v.table clip.slot ≡ n = ap (λ x. get_or v.table (row_word x + 1) 0) k.1 ∙ ap (λ x. get_or v.table x 0) (sym at) ∙ value_seen p i n reads v in
    subst (λ x. clip.revision ≤ x) now k.0

-- ---- leave

pub stamped_reads : (m : Mode) (e : ℕ) → stamp_in m ≡ Some e → reading_mode m ≡ 1
stamped_reads Idle e is = none_some e is
stamped_reads Refused e is = none_some e is
stamped_reads (Reading stamp slot looked log) e is = refl

pub stamp_now : (words : List ℕ) (closed : ℕ) (m : Mode) (e : ℕ) → LooksOk words closed m → stamp_in m ≡ Some e → e ≡ closed
stamp_now words closed Idle e ok is = none_some e is
stamp_now words closed Refused e ok is = none_some e is
stamp_now words closed (Reading None slot looked log) e ok is = none_some e is
stamp_now words closed (Reading (Some s) slot looked log) e ok is = sym (same_some s e is) ∙ ok.1

pub reads_busy : (m : Mode) → reading_mode m ≡ 1 → busy_mode m ≡ 1
reads_busy Idle e = absurd (omega arith)
reads_busy Refused e = absurd (omega arith)
reads_busy (Reading stamp slot looked log) e = refl

left_clips : (key : Setting) (words : List ℕ) (w : Parts) (p : Client) → Fits key words w → get_elem? w.clients p.number ≡ some p → is_writing w.server.mode ≡ false
    → (k : ℕ) (clip : KeptClip) (t : List ℕ) → get_elem? (with_row (row_seen p.number p.mode) p.clips) k ≡ some clip → get_elem? w.server.tables (length w.server.closed) ≡ some t → IsClip key.size t p.number clip
left_clips key words w p f at idle k clip t at_k at_t = go (row_seen p.number p.mode) refl k at_k
  where
    now : w.server.present ≡ t
    now = some-injective w.server.present t (sym (f.tables.last idle) ∙ at_t)

    go : (o : Option KeptClip) → row_seen p.number p.mode ≡ o → (k : ℕ) → get_elem? (with_row o p.clips) k ≡ some clip → IsClip key.size t p.number clip
    go None is k e = f.clips p.number p at k clip t e at_t
    go (Some c) is zero e = let row = seen_row key.size (length w.server.limits) (length w.server.closed) p.number w.server.present p.mode c (present_table key words w f idle)
        (looks_present words w.server p.mode f.tables (f.looks p.number p at)) is in
        subst (λ x. IsClip key.size t p.number x) (some-injective c clip e) (subst (λ x. IsClip key.size x p.number c) now row.0)
    go (Some c) is (suc k) e = f.clips p.number p at k clip t e at_t

-- what a leave asks: the turn that it closes is the client's open one, in its slot, and carries its paint
abbrev pub Leaving : Client → PaintCall → Type 0
Leaving p t = (stamp_in p.mode ≡ Some t.stamp) × ((k : ℕ) (i : Item) → get_elem? (log_in p.mode) k ≡ some i → slot_in p.mode ≡ Some t.slot) × (t.log ≡ log_in p.mode)
    × ((v : Sees p) → CarriesPaintUnder p.setting (table_of v.table) t.slot t.sheet t.reply (log_in p.mode) × RepliesUnder p.setting (table_of v.table) p.number t.slot t.sheet t.reply)

-- a gone turn has read and written nothing: its slot isn't the client's, whose words alone it may read and write
nothing_done : (size : Sides) (t : List ℕ) (c s : ℕ) (sheet : Sheet) (reply : PaintReply) (log : List Item) → LogIn size t c s log → reply ≡ paint_reply size (layout_of_table size (table_of t)) c s sheet → reply ≡ Gone → log ≡ []
nothing_done size t c s sheet reply [] rights answer gone = refl
nothing_done size t c s sheet reply (i ∷ log) rights answer gone = let g = rights 0 i refl in
    let mine : is_owner c (row_of (table_of t) s).owner ≡ true = ap (λ r. is_owner c r.owner) (row_of_from (slice_index t) s g.slot_in) ∙ ap (λ n. is_owner c (owner_from n)) g.owner ∙ own c in
    absurd (painted_apart (length (inked size (layout_of_table size (table_of t)) s sheet)) (sym (ap (λ b. if b then Painted (length (inked size (layout_of_table size (table_of t)) s sheet)) else Gone) mine) ∙ sym answer ∙ gone))
  where
    own : (c : ℕ) → is_owner c (owner_from (c + 1)) ≡ true
    own c = ap (λ b. is_owner c (if b then None else Some (c + 1 - 1))) (ne_eqb (c + 1) 0 (λ e. absurd (omega arith))) ∙ eq-eqb (c + 1 - 1) c (omega arith)

    painted_apart : (n : ℕ) → Painted n ≡ Gone → ⊥
    painted_apart n e = false≢true (sym (ap is_painted e))

-- the turn that is closed
closed_paint : (key : Setting) (words : List ℕ) (w : Parts) (p : Client) (t : PaintCall) → Fits key words w → get_elem? w.clients p.number ≡ some p → is_writing w.server.mode ≡ false → Leaving p t
    → (u : List ℕ) → get_elem? w.server.tables t.stamp ≡ some u → PaintOk key u p.number t
closed_paint key words w p t f at idle asks u at_u =
    let s = w.server in let table = present_table key words w f idle in let seat = f.seats p.number p at in let many = f.as_many in let few = f.few in
    let order = f.closed.order p.number p at in let seen = order.seen_within in let stamped = table.stamp_is in
    let now : t.stamp ≡ length s.closed = stamp_now words (length s.closed) p.mode t.stamp (f.looks p.number p at) asks.0 in
    let is : s.present ≡ u = some-injective s.present u (sym (f.tables.last idle) ∙ ap (get_elem? s.tables) (sym now) ∙ at_u) in
    let v : Sees p = record {
      table = s.present;
      admitted = length s.limits;
      few = omega arith;
      is_table = subst (λ x. IsTable x.size (length s.limits) (get_or s.present 1 0) s.present) (sym seat.setting_is) (subst (λ k. IsTable key.size (length s.limits) k s.present) (sym stamped) table);
      looks = looks_in s.present (length s.closed) p.mode (looks_present words s p.mode f.tables (f.looks p.number p at));
      seen = omega arith;
      clips = λ k clip e. subst (λ x. IsClip x.size s.present p.number clip) (sym seat.setting_is) (f.clips p.number p at k clip s.present e (f.tables.last idle));
    } in
    let carries = asks.3 v in
    let P : Setting → Type 0 = λ x. CarriesPaintUnder x (table_of s.present) t.slot t.sheet t.reply (log_in p.mode) × RepliesUnder x (table_of s.present) p.number t.slot t.sheet t.reply in
    let here = subst P seat.setting_is carries in
    let rights : LogIn key.size s.present p.number t.slot (log_in p.mode) = (λ k i e. rights_log key.size s.present p.number t.slot t.stamp p.mode (f.rights p.number p at) asks.0 (asks.1 k i e) k i e) in
    subst (λ x. PaintOk key x p.number t) is record {
      rights = subst (λ l. LogIn key.size s.present p.number t.slot l) (sym asks.2)
          rights;
      carried = subst (λ l. CarriesPaintUnder key (table_of s.present) t.slot t.sheet t.reply l) (sym asks.2) here.0;
      answered = here.1;
      gone = λ gone. asks.2 ∙ nothing_done key.size s.present p.number t.slot t.sheet t.reply (log_in p.mode) rights here.1 gone;
    }

left_items : (p : Client) (t : PaintCall) (e : ℕ) → stamp_in p.mode ≡ Some t.stamp → t.log ≡ log_in p.mode → client_items e (after_leave p t) ≡ client_items e p
left_items p t e stamped log = append-nil (flat_map (call_items e) (p.own ++ Paint t ∷ [])) ∙ joined-append (call_items e) p.own (Paint t ∷ [])
    ∙ ap (λ l. flat_map (call_items e) p.own ++ l) (append-nil (if t.stamp == e then t.log else []) ∙ ap (λ l. if t.stamp == e then l else []) log ∙ sym (open_as p.mode t.stamp e stamped))

pub leaves : (key : Setting) (slots id : ℕ) (me : Mine) (t : PaintCall) → IsAlone me → Leaving (part_of me) t → Allows (Holds key) slots id me 0 (λ n. (n + (2 ^ 64 - 1)) % 2 ^ 64) (left t (step slots 0 1 0 none) me)
leaves key slots id me t is asks = let P : Mine → Type 0 = λ m. Allows (Holds key) slots id m 0 (λ n. (n + (2 ^ 64 - 1)) % 2 ^ 64) (left t (step slots 0 1 0 none) m) in let p = part_of me in
    subst P (sym is) (client_steps key slots id p 0 (λ n. (n + (2 ^ 64 - 1)) % 2 ^ 64) (left t (step slots 0 1 0 none) (alone p, []))
    (λ words w f at small. let n : ℕ = get_or words 0 0 in let fits : n < 18446744073709551616 = small in let g = f.gate in let s = w.server in let q = after_leave p t in
    let reads = stamped_reads p.mode t.stamp asks.0 in let is_busy : busy p ≡ 1 = reads_busy p.mode reads in let one = total_one busy w.clients p.number p at in
    let less : (n + 18446744073709551615) % 18446744073709551616 ≡ n - 1 = omega arith in
    let idle = no_turn key words w p f at reads in let order = f.closed.order p.number p at in let seen = order.seen_within in
    let now : t.stamp ≡ length s.closed = stamp_now words (length s.closed) p.mode t.stamp (f.looks p.number p at) asks.0 in (
      q,
      refl,
      rw less (fits_client key words (set words 0 (n - 1)) w p q f at (gate_set words (n - 1))
          (let z = gate_now key words w (n - 1) f in omega arith) (λ _. zero-le)
          record {
            number = refl;
            setting = refl;
            limit = refl;
            order = order_more (length s.closed) (length s.closed) p q (Paint t) order refl refl (omega arith) (λ b le. omega arith) (omega arith);
            steps = steps_more p.own (Paint t) ∙ append-nil (steps_in p.own);
            clips = left_clips key words w p f at idle;
            looks = tt;
            rights = tt;
            paints = each_of (λ k a. CallOk key s.tables p.number a) p.own (Paint t) (f.closed.paints p.number p at) (closed_paint key words w p t f at idle asks);
            items = λ e. left_items p t e asks.0 asks.2;
          }),
      refl,
    )))

-- the book after the turn
pub left_book : (p : Client) (t : PaintCall) (books : List BookEntry) (e : BookEntry) → books ≡ books_in p.own → e ≡ book_entry t → books ++ e ∷ [] ≡ books_in (after_leave p t).own
left_book p t books e so_far is = ap (λ l. l ++ e ∷ []) so_far ∙ ap (λ x. books_in p.own ++ x ∷ []) is ∙ sym (books_more p.own (Paint t))

pub left_pass : (m me : Mine) (t : PaintCall) (book now : BookView) (e : BookEntry) → m ≡ (alone (after_leave (part_of me) t), []) → (book.client ≡ (part_of me).number) × (book.entries ≡ books_in (part_of me).own)
    → now ≡ record book { entries = book.entries ++ e ∷ [] } → e ≡ book_entry t → IsAlone m × (now.client ≡ (part_of m).number) × (now.entries ≡ books_in (part_of m).own) × (e.stamp ≡ (part_of m).seen)
left_pass m me t book now e is kept pushed entry = let P : Mine → BookView → Type 0 = λ x b. IsAlone x × (b.client ≡ (part_of x).number) × (b.entries ≡ books_in (part_of x).own) × (e.stamp ≡ (part_of x).seen) in
    subst (λ b. P m b) (sym pushed) (subst (λ x. P x record book { entries = book.entries ++ e ∷ [] }) (sym is) (refl, kept.0, left_book (part_of me) t book.entries e kept.1 entry, ap (λ b. b.stamp) entry))
