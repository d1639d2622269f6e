-- Lines, where an open paint turn has one item more.
use Rattle.std.proofs.Common.{◌≡◌, ℕ, suc, ◌<◌, ◌≤◌, ◌==◌, eq-eqb, ne_eqb, ◌≢◌, if◌then◌else◌, Bool, true, false, List, [], ◌∷◌, ◌++◌, append_assoc, append-nil, map, length, set, sym, refl, ap, ◌∙◌, subst, arith, Option, Some, None}
use Rattle.std.specs.List.{flat_map}
use Rattle.std.proofs.lemmas.List.{length-map}
use mathlib.Core.Option.{some, some-ne-none}
use mathlib.Core.Logic.{dite}
use native.Mathlib.Decide.{ℕ_discrete}
use lib.ListN.{get_elem?}
use Rattle.qws_base.specs.Sides.{Sides}
use Rattle.qws_base.specs.Scenes.{Setting}
use Rattle.turn_logs.specs.declared.items.Item.{Item}
use Rattle.fb_words.specs.declared.known.Looked.{Looked}
use Rattle.fb_words.specs.declared.known.Call.{Call}
use Rattle.fb_words.specs.declared.known.Call.TheVariants.{Step, Paint}
use Rattle.fb_words.specs.declared.known.Mode.{Mode}
use Rattle.fb_words.specs.declared.known.Mode.TheVariants.{Idle, Refused, Reading}
use Rattle.fb_words.specs.declared.known.Client.{Client}
use Rattle.fb_words.specs.declared.known.Server.{Server}
use Rattle.turn_logs.specs.Lines.{item_word, on}
use Rattle.turn_logs.specs.Tables.{IsTable}
use Rattle.region_table.specs.Numbers.{revision_of_slot}
use Rattle.turn_logs.specs.Lists.{upto}
use Rattle.fb_words.specs.Segments.{call_items, open_items, client_items, nth_log, turn_log, server_items, segment, line}
use Rattle.fb_words.specs.Rights.{IsGiven, LogIn}
use Rattle.fb_words.specs.Clips.{stamp_in, slot_in, log_in}
use Rattle.fb_words.specs.Rule.{mark, OrderOk, LooksOk, OpenRights, CallOk, PaintsOk}
use Rattle.fb_words.specs.Steps.{or_first, looked_mode}
use Rattle.turn_logs.proofs.Joining.{on-append, on_none, on_here, on_there, joined_set_more, joined_set_same, joined_none, on_joined, upto_same, upto_more}
use Rattle.fb_words.proofs.Cells.{one_owner}
use Rattle.turn_logs.proofs.Options.{none_some, same_some}

-- ---- rights of an open turn

pub rights_empty : (size : Sides) (t : List ℕ) (c : ℕ) (stamp slot : Option ℕ) (looked : List Looked) → OpenRights size t c (Reading stamp slot looked [])
rights_empty size t c None slot looked = refl
rights_empty size t c (Some e) None looked = refl
rights_empty size t c (Some e) (Some s) looked = λ k i at. absurd (none_at k i at)
  where
    none_at : (k : ℕ) (i : Item) → get_elem? (let l : List Item = [] in l) k ≡ some i → ⊥
    none_at k i at = some-ne-none i (sym at)

-- the log lies in the turn's slot
pub rights_log : (size : Sides) (t : List ℕ) (c s e : ℕ) (m : Mode) → OpenRights size t c m → stamp_in m ≡ Some e → slot_in m ≡ Some s → LogIn size t c s (log_in m)
rights_log size t c s e Idle ok is at = none_some e is
rights_log size t c s e Refused ok is at = none_some e is
rights_log size t c s e (Reading None slot looked log) ok is at = none_some e is
rights_log size t c s e (Reading (Some x) None looked log) ok is at = none_some s at
rights_log size t c s e (Reading (Some x) (Some r) looked log) ok is at = subst (λ y. LogIn size t c y log) (same_some r s at) ok

-- where the log isn't in a slot, it is empty
pub rights_none : (size : Sides) (t : List ℕ) (c : ℕ) (m : Mode) → OpenRights size t c m → slot_in m ≡ None → log_in m ≡ []
rights_none size t c Idle ok at = refl
rights_none size t c Refused ok at = refl
rights_none size t c (Reading None slot looked log) ok at = ok
rights_none size t c (Reading (Some x) None looked log) ok at = ok
rights_none size t c (Reading (Some x) (Some r) looked log) ok at = none_some r (sym at)

-- ---- a look

pub look_rights : (size : Sides) (t : List ℕ) (c i n : ℕ) (m : Mode) → OpenRights size t c m → OpenRights size t c (looked_mode i n m)
look_rights size t c i n Idle ok = tt
look_rights size t c i n Refused ok = tt
look_rights size t c i n (Reading None slot looked log) ok = subst (λ l. OpenRights size t c (looked_mode i n (Reading None slot looked l))) (sym ok)
    (rights_empty size t c _ _ (looked ++ record { word = i; value = n } ∷ []))
look_rights size t c i n (Reading (Some e) None looked log) ok = subst (λ l. OpenRights size t c (looked_mode i n (Reading (Some e) None looked l))) (sym ok)
    (rights_empty size t c (Some e) _ (looked ++ record { word = i; value = n } ∷ []))
look_rights size t c i n (Reading (Some e) (Some s) looked log) ok = ok

pub look_items : (size : Sides) (t : List ℕ) (c i n e : ℕ) (m : Mode) → OpenRights size t c m → open_items e (looked_mode i n m) ≡ open_items e m
look_items size t c i n e Idle ok = refl
look_items size t c i n e Refused ok = refl
look_items size t c i n e (Reading None slot looked log) ok = go (i == 1)
  where
    empty_if : (b : Bool) → (if b then log else []) ≡ []
    empty_if true = ok
    empty_if false = refl

    go : (b : Bool) → open_items e (Reading (if b then Some n else None) (or_first slot (revision_of_slot i)) (looked ++ record { word = i; value = n } ∷ []) log) ≡ []
    go true = empty_if (n == e)
    go false = refl
look_items size t c i n e (Reading (Some s) slot looked log) ok = refl

-- a look changes no items
pub look_client_items : (size : Sides) (t : List ℕ) (i n e : ℕ) (p : Client) → OpenRights size t p.number p.mode → client_items e record p { mode = looked_mode i n p.mode } ≡ client_items e p
look_client_items size t i n e p ok = ap (λ l. flat_map (call_items e) p.own ++ l) (look_items size t p.number i n e p.mode ok)

-- ---- other clients

log_away : (size : Sides) (admitted stamp : ℕ) (t : List ℕ) (c d s r x : ℕ) (log : List Item) → c ≢ d → IsTable size admitted stamp t → IsGiven size t c s x → LogIn size t d r log → on x log ≡ []
log_away size admitted stamp t c d s r x log apart table mine theirs =
    on_none x log (λ k i e eq. apart (one_owner size admitted stamp t c d s r x table mine (subst (IsGiven size t d r) eq (theirs k i e))))

-- Another client has no item at the present stamp on a word that the present table gives this one.
pub others_away : (setting : Setting) (admitted closed : ℕ) (s : Server) (words : List ℕ) (c d slot x : ℕ) (r : Client) → c ≢ d → IsTable setting.size admitted closed s.present → get_elem? s.tables closed ≡ some s.present
    → IsGiven setting.size s.present c slot x → LooksOk words closed r.mode → OpenRights setting.size s.present d r.mode → PaintsOk setting s.tables d r → on x (client_items closed r) ≡ []
others_away setting admitted closed s words c d slot x r apart table last mine looks rights paints =
    on-append x (flat_map (call_items closed) r.own) (open_items closed r.mode)
    ∙ ap (λ z. z ++ on x (open_items closed r.mode)) (on_joined x (call_items closed) r.own ∙ joined_none (λ a. on x (call_items closed a)) r.own (λ k a at. call_away a (paints k a at)))
    ∙ open_away r.mode looks rights
  where
    call_away : (a : Call) → CallOk setting s.tables d a → on x (call_items closed a) ≡ []
    call_away (Step q) ok = refl
    call_away (Paint q) ok = dite (ℕ_discrete q.stamp closed)
        (λ eq. ap (λ b. on x (if b then q.log else [])) (eq-eqb q.stamp closed eq)
        ∙ log_away setting.size admitted closed s.present c d slot q.slot x q.log apart table mine (ok s.present (ap (get_elem? s.tables) eq ∙ last)).rights)
        (λ ne. ap (λ b. on x (if b then q.log else [])) (ne_eqb q.stamp closed ne))

    open_away : (m : Mode) → LooksOk words closed m → OpenRights setting.size s.present d m → on x (open_items closed m) ≡ []
    open_away Idle l o = refl
    open_away Refused l o = refl
    open_away (Reading None sl looked log) l o = refl
    open_away (Reading (Some t) None looked log) l o = ap (λ z. on x (if t == closed then z else [])) o ∙ ap (on x) (empty_if (t == closed))
      where
        empty_if : (b : Bool) → (if b then (let z : List Item = [] in z) else []) ≡ []
        empty_if true = refl
        empty_if false = refl
    open_away (Reading (Some t) (Some sl) looked log) l o =
        ap (λ b. on x (if b then log else [])) (eq-eqb t closed l.1) ∙ log_away setting.size admitted closed s.present c d slot sl x log apart table mine o

-- no client has an item at a number past the present one
pub late_none : (words : List ℕ) (closed x n : ℕ) (r : Client) → closed < n → OrderOk closed r → LooksOk words closed r.mode → on x (client_items n r) ≡ []
late_none words closed x n r late order looks =
    on-append x (flat_map (call_items n) r.own) (open_items n r.mode)
    ∙ ap (λ z. z ++ on x (open_items n r.mode)) (on_joined x (call_items n) r.own ∙ joined_none (λ a. on x (call_items n a)) r.own (λ k a at. call_late a (order.seen_own k a at)))
    ∙ open_late r.mode looks
  where
    call_late : (a : Call) → mark a ≤ r.seen → on x (call_items n a) ≡ []
    call_late (Step q) le = refl
    call_late (Paint q) le = let seen = order.seen_within in ap (λ b. on x (if b then q.log else [])) (ne_eqb q.stamp n (λ eq. absurd (omega arith)))

    open_late : (m : Mode) → LooksOk words closed m → on x (open_items n m) ≡ []
    open_late Idle l = refl
    open_late Refused l = refl
    open_late (Reading None sl looked log) l = refl
    open_late (Reading (Some t) sl looked log) l = let now = l.1 in ap (λ b. on x (if b then log else [])) (ne_eqb t n (λ eq. absurd (omega arith)))

-- ---- the items of a client whose open log gains i

module _ (p : Client) (E S : ℕ) (looked : List Looked) (log : List Item) (i : Item) where
  abbrev pub before : Mode
  before = Reading (Some E) (Some S) looked log

  abbrev pub after : Mode
  after = Reading (Some E) (Some S) looked (log ++ i ∷ [])

  abbrev pub grown : Client
  grown = record p { mode = after }

  gains_here : (x : ℕ) → p.mode ≡ before → item_word i ≡ x → on x (client_items E grown) ≡ on x (client_items E p) ++ i ∷ []
  gains_here x is same = let l = flat_map (call_items E) p.own in
      ap (λ b. on x (l ++ (if b then log ++ i ∷ [] else []))) (eq-eqb E E refl)
      ∙ ap (on x) (sym (append_assoc l log (i ∷ [])))
      ∙ on-append x (l ++ log) (i ∷ [])
      ∙ ap (λ z. on x (l ++ log) ++ z) (on_here x i same)
      ∙ ap (λ z. z ++ i ∷ []) (ap (λ b. on x (l ++ (if b then log else []))) (sym (eq-eqb E E refl)) ∙ ap (λ m. on x (l ++ open_items E m)) (sym is))

  gains_there : (x e : ℕ) → p.mode ≡ before → (e ≡ E → item_word i ≢ x) → on x (client_items e grown) ≡ on x (client_items e p)
  gains_there x e is away = let l = flat_map (call_items e) p.own in dite (ℕ_discrete E e)
      (λ eq. let apart : item_word i ≢ x = away (sym eq) in
      ap (λ b. on x (l ++ (if b then log ++ i ∷ [] else []))) (eq-eqb E e eq)
      ∙ ap (on x) (sym (append_assoc l log (i ∷ [])))
      ∙ on-append x (l ++ log) (i ∷ [])
      ∙ ap (λ z. on x (l ++ log) ++ z) (on_there x i apart)
      ∙ append-nil (on x (l ++ log))
      ∙ ap (λ b. on x (l ++ (if b then log else []))) (sym (eq-eqb E e eq)) ∙ ap (λ m. on x (l ++ open_items e m)) (sym is))
      (λ ne. ap (λ b. on x (l ++ (if b then log ++ i ∷ [] else []))) (ne_eqb E e ne)
      ∙ ap (λ b. on x (l ++ (if b then log else []))) (sym (ne_eqb E e ne)) ∙ ap (λ m. on x (l ++ open_items e m)) (sym is))

-- the server's open log, at the next number
pub open_log_at : (ls : List (List Item)) (l : List Item) → nth_log (ls ++ l ∷ []) (length ls) ≡ l
open_log_at [] l = refl
open_log_at (k ∷ ls) l = open_log_at ls l

pub length_logs : (s : Server) → length (map turn_log s.closed) ≡ length s.closed
length_logs s = length-map s.closed turn_log

-- the item stands at the end of its line, and no other line changes
module _ (x : ℕ) (s : Server) (cs : List Client) (p : Client) (S : ℕ) (looked : List Looked) (log : List Item) (i : Item) where
  abbrev E : ℕ
  E = length s.closed

  abbrev cs' : List Client
  cs' = set cs p.number (grown p E S looked log i)

  pub line_gains : s.log ≡ [] → p.mode ≡ before p E S looked log i → item_word i ≡ x → get_elem? cs p.number ≡ some p
      → ((c : ℕ) (r : Client) → get_elem? cs c ≡ some r → c ≢ p.number → on x (client_items E r) ≡ []) → ((c : ℕ) (r : Client) → get_elem? cs c ≡ some r → on x (client_items (suc E) r) ≡ [])
      → line x s cs' ≡ line x s cs ++ i ∷ []
  line_gains idle is same at others late =
      let q = grown p E S looked log i in
      let early : upto (segment x s cs') E ≡ upto (segment x s cs) E ++ i ∷ [] = upto_more (segment x s cs') (segment x s cs) (i ∷ []) E
      (λ e lt. ap (λ z. on x (server_items s e) ++ z) (joined_set_same (λ r. on x (client_items e r)) cs p.number p q at (gains_there p E S looked log i x e is (λ eq. absurd (omega arith)))))
      (ap (λ z. on x (server_items s E) ++ z) (joined_set_more (λ r. on x (client_items E r)) (i ∷ []) cs p.number p q at (gains_here p E S looked log i x is same)
      (λ c r lt e. others c r e (λ eq. absurd (omega arith)))) ∙ sym (append_assoc (on x (server_items s E)) (flat_map (λ r. on x (client_items E r)) cs) (i ∷ []))) in
      let last_new : segment x s cs' (suc E) ≡ [] = ap (λ z. on x (server_items s (suc E)) ++ z) (joined_set_same (λ r. on x (client_items (suc E) r)) cs p.number p q at (gains_there p E S looked log i x (suc E) is (λ eq. absurd (omega arith)))) ∙ tail_none in
      ap (λ z. upto (segment x s cs') E ++ z) last_new ∙ append-nil (upto (segment x s cs') E) ∙ early ∙ ap (λ z. z ++ i ∷ []) (sym (append-nil (upto (segment x s cs) E)) ∙ ap (λ z. upto (segment x s cs) E ++ z) (sym tail_none))
    where
      tail_none : segment x s cs (suc E) ≡ []
      tail_none = ap (λ z. on x (server_items s (suc E)) ++ z) (joined_none (λ r. on x (client_items (suc E) r)) cs late)
          ∙ append-nil (on x (server_items s (suc E))) ∙ ap (on x) (ap (λ k. nth_log (map turn_log s.closed ++ s.log ∷ []) k) (sym (length_logs s)) ∙ open_log_at (map turn_log s.closed) s.log ∙ idle)

  pub line_stays : p.mode ≡ before p E S looked log i → item_word i ≢ x → get_elem? cs p.number ≡ some p → line x s cs' ≡ line x s cs
  line_stays is away at = upto_same (segment x s cs') (segment x s cs) (suc E)
      (λ e le. ap (λ z. on x (server_items s e) ++ z) (joined_set_same (λ r. on x (client_items e r)) cs p.number p (grown p E S looked log i) at (gains_there p E S looked log i x e is (λ _. away))))

-- ---- a turn that is closed

pub open_as : (m : Mode) (a e : ℕ) → stamp_in m ≡ Some a → open_items e m ≡ (if a == e then log_in m else [])
open_as Idle a e is = none_some a is
open_as Refused a e is = none_some a is
open_as (Reading None slot looked log) a e is = none_some a is
open_as (Reading (Some t) slot looked log) a e is = ap (λ n. if n == e then log else []) (same_some t a is)
