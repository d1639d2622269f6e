-- Where all clients sit, the closed turns that a desk has kept are a whole session.
use Rattle.std.proofs.Common.{◌≡◌, ℕ, zero, suc, ◌+◌, ◌<◌, ◌≤◌, ◌==◌, nat_lt, if◌then◌else◌, Bool, true, false, List, [], ◌∷◌, ◌++◌, map, length, length-append, sym, refl, ap, ◌∙◌, subst, ⊎_elim, arith}
use Rattle.std.specs.Prelude.{slice_index, slice_index_or}
use Rattle.std.specs.List.{fold, flat_map, range_with_len}
use Rattle.std.proofs.lemmas.Bool.Decides.{nat_tests}
use Rattle.std.proofs.lemmas.List.{length-map}
use Rattle.std.proofs.lemmas.List.FromFn.{length-range_with_len}
use mathlib.Core.Option.{some, some-injective, some-ne-none}
use lib.ListN.{get_elem?}
use Rattle.atomic_table.proofs.Lists.{at_longer}
use Rattle.qws_base.specs.Colours.{shown_colour}
use Rattle.qws_base.specs.declared.journals.JournalEntry.{JournalEntry}
use Rattle.qws_base.specs.Sides.{Sides}
use Rattle.qws_base.specs.States.{State, opening_state}
use Rattle.qws_base.specs.Steps.{step}
use Rattle.qws_base.specs.Arranged.{IsArranged, ArrangedLaw}
use Rattle.qws_base.specs.Scenes.{Setting}
use Rattle.qws_base.specs.Histories.{Entry, Step, step_entry, state_of_journal, World, world_from, world_after, opening_world, IsLegal}
use Rattle.qws_base.specs.Merges.{merged, changed_by}
use Rattle.qws_base.proofs.MergeLemmas.{merge_law}
use Rattle.qws_base.specs.Shown.{shown_picture}
use Rattle.fb_words.specs.declared.known.PaintCall.{PaintCall}
use Rattle.fb_words.specs.Turns.{served_from, drawn, drawn_by}
use Rattle.region_table.specs.Numbers.{pixel_word}
use Rattle.region_table.specs.Opening.{opening_table as first_table}
use Rattle.region_table.specs.declared.tables.Table.{Table}
use Rattle.region_table.specs.Published.{IsTableOf}
use Rattle.region_table.proofs.Openings.{opening_law}
use Rattle.region_table.proofs.Pixels.{pixels_same}
use Rattle.fb_words.specs.declared.known.Mode.TheVariants.{Idle}
use Rattle.fb_words.specs.declared.known.Call.{Call}
use Rattle.fb_words.specs.declared.known.Call.TheVariants.{Step as OwnStep, Paint as OwnPaint}
use Rattle.fb_words.specs.declared.known.Client.{Client}
use Rattle.fb_words.specs.declared.known.Closed.{Closed}
use Rattle.fb_words.specs.declared.known.Server.{Server}
use Rattle.turn_logs.specs.Tables.{opening_table, table_of}
use Rattle.turn_logs.specs.Lines.{on, written, Shows}
use Rattle.turn_logs.specs.Lists.{upto}
use Rattle.fb_words.specs.Segments.{line, first_value}
use Rattle.fb_words.specs.Views.{client_of, paints_in}
use Rattle.fb_words.specs.Rule.{CallOk}
use Rattle.turn_logs.specs.Carries.{words_after, CarriesPaintUnder, RepliesUnder}
use Rattle.turn_logs.specs.Sessions.{ClosedTurn, Served, Drawn, entry_of, logs_of, table_after, stamp_after, SessionLaw, PictureLaw, IsServed, AreCarried}
use Rattle.qws_base.proofs.ListLemmas.{item_at}
use Rattle.fb_words.proofs.ByNumber.{drawn_of, drawn_at, nth_served, served_at, turns_by, turns_are}
use Rattle.fb_words.specs.Steps.{AllIdle, AllHere, arranged, Knows}
use Rattle.fb_words.specs.Desks.{state_upto, state_after, IsKeptTurn, AreKeptTurns, KeepingLaw, journal_from, journal_of, stamped_paint, history_of, paints_of, WholeLaw}
use Rattle.fb_words.proofs.Places.{at_end, there}
use Rattle.turn_logs.proofs.Totals.{from_map}
use Rattle.region_table.proofs.Words.{table_below}
use Rattle.turn_logs.proofs.FirstTable.{at_opening}
use Rattle.turn_logs.proofs.Joining.{place_within}
use Rattle.fb_words.proofs.Sitting.{client_of_here}
use Rattle.fb_words.proofs.Serving.{in_order, sits_as}
use Rattle.fb_words.proofs.Whole.{line_law}
use Rattle.fb_words.proofs.Calls.{calls_law, none_else}

-- ---- states, turn by turn

-- the opening words are read as the opening table
opening_read : table_of opening_table ≡ first_table
opening_read = opening_law.words (slice_index opening_table) (λ i is. at_opening i (table_below i is))

module _ (size : Sides) where
  pub state_none : (state : State) (ts : List Closed) → state_upto size state ts 0 ≡ state
  state_none state [] = refl
  state_none state (t ∷ ts) = refl

  pub state_next : (state : State) (ts : List Closed) (k : ℕ) (t : Closed) → get_elem? ts k ≡ some t → state_upto size state ts (suc k) ≡ (step size (state_upto size state ts k) t.client t.command).0
  state_next state [] k t at = absurd (some-ne-none t (sym at))
  state_next state (u ∷ ts) zero t at = state_none (step size state u.client u.command).0 ts ∙ ap (λ x. (step size state x.client x.command).0) (some-injective u t at)
  state_next state (u ∷ ts) (suc k) t at = state_next (step size state u.client u.command).0 ts k t at

  state_longer : (state : State) (ts more : List Closed) (k : ℕ) → k ≤ length ts → state_upto size state (ts ++ more) k ≡ state_upto size state ts k
  state_longer state [] more zero le = state_none state more
  state_longer state [] more (suc k) le = absurd (omega arith)
  state_longer state (t ∷ ts) more zero le = refl
  state_longer state (t ∷ ts) more (suc k) le = state_longer (step size state t.client t.command).0 ts more k (omega arith)

  arranged_upto : ArrangedLaw → (state : State) (ts : List Closed) (k : ℕ) → IsArranged size state.windows → IsArranged size (state_upto size state ts k).windows
  arranged_upto law state [] k is = is
  arranged_upto law state (t ∷ ts) zero is = is
  arranged_upto law state (t ∷ ts) (suc k) is = arranged_upto law (step size state t.client t.command).0 ts k (law.stays size state t.client t.command is)

at_same : {A : Type 0} (l m : List A) (k : ℕ) (a : A) → k < length l → get_elem? (l ++ m) k ≡ some a → get_elem? l k ≡ some a
at_same {A} l m k a lt at = let here = there l k lt in here.1 ∙ ap (λ (x : A). some x) (some-injective here.0 a (sym (at_longer l m k here.0 here.1) ∙ at))

last_is : {A : Type 0} (l : List A) (a : A) → get_elem? (l ++ a ∷ []) (length l) ≡ some a
last_is l a = Rattle.atomic_table.proofs.Lists.at_last l a (length l) refl

published_now : (size : Sides) (closed : List Closed) (tables : List (List ℕ)) (words : List ℕ) → AreKeptTurns size closed tables → get_elem? tables (length closed) ≡ some words
    → IsTableOf size (state_after size closed) (length closed) (table_of words)
published_now size [] tables words kept at = subst (IsTableOf size opening_state 0) (sym (opening_read) ∙ ap table_of (some-injective opening_table words (sym kept.first ∙ at))) (opening_law.published size)
published_now size (t ∷ ts) tables words kept at =
    let closed : List Closed = t ∷ ts in
    let last = there closed (length ts) (omega arith) in
    let long : length closed ≡ length ts + 1 = omega arith in
    let is = kept.each (length ts) last.0 words last.1 (ap (get_elem? tables) (sym long) ∙ at) in
    let state : state_after size closed ≡ (step size (state_upto size opening_state closed (length ts)) last.0.client last.0.command).0 =
    ap (state_upto size opening_state closed) (let z : length closed ≡ suc (length ts) = omega arith in z) ∙ state_next size opening_state closed (length ts) last.0 last.1 in
    subst (λ (x : State). IsTableOf size x (length closed) (table_of words)) (sym state)
    (subst (λ n. IsTableOf size (step size (state_upto size opening_state closed (length ts)) last.0.client last.0.command).0 n (table_of words)) (sym long) is.left)

journal_state : (size : Sides) (state : State) (n : ℕ) (ts : List Closed) → state_upto size state ts (length ts) ≡ fold (λ (x : State) (e : JournalEntry). (step size x e.client e.command).0) state (journal_from n ts)
journal_state size state n [] = refl
journal_state size state n (t ∷ ts) = ap (state_upto size state (t ∷ ts)) (let z : length (t ∷ ts) ≡ suc (length ts) = omega arith in z) ∙ journal_state size (step size state t.client t.command).0 (n + 1) ts

pub keeping_law : ArrangedLaw → KeepingLaw
keeping_law arranged = record {
  opens = λ size. record { long = refl; first = refl; each = λ e turn words at _. absurd (some-ne-none turn (sym at)) };
  grows = λ size closed tables turn words kept new. record {
    long = let a = length-append closed (turn ∷ []) in let b = length-append tables (words ∷ []) in let c = kept.long in omega arith;
    first = at_longer tables (words ∷ []) 0 opening_table kept.first;
    each = λ e t w at at_w. let long = kept.long in
        ⊎_elim
        (λ (old : get_elem? closed e ≡ some t).
        let low = place_within closed e t old in
        subst (λ (x : State). IsKeptTurn size x (e + 1) t w) (sym (state_longer size opening_state closed (turn ∷ []) e (omega arith)))
        (kept.each e t w old (at_same tables (words ∷ []) (e + 1) w (omega arith) at_w)))
        (λ (last : (e ≡ length closed) × (turn ≡ t)).
        let P : ℕ → Closed → List ℕ → Type 0 = λ k u v. IsKeptTurn size (state_upto size opening_state (closed ++ turn ∷ []) k) (k + 1) u v in
        let words_are : words ≡ w = some-injective words w (sym (last_is tables words) ∙ ap (get_elem? (tables ++ words ∷ [])) (long ∙ ap (λ k. k + 1) (sym last.0)) ∙ at_w) in
        let here : P (length closed) turn words = subst (λ (x : State). IsKeptTurn size x (length closed + 1) turn words) (sym (state_longer size opening_state closed (turn ∷ []) (length closed) (omega arith))) new in
        subst (λ v. P e t v) words_are (subst (λ u. P e u words) last.1 (subst (λ k. P k turn words) (sym last.0) here)))
        (at_end closed e turn t at);
  };
  next = λ size closed turn.
      let long : length (closed ++ turn ∷ []) ≡ suc (length closed) = length-append closed (turn ∷ []) ∙ omega arith in
      ap (state_upto size opening_state (closed ++ turn ∷ [])) long
      ∙ state_next size opening_state (closed ++ turn ∷ []) (length closed) turn (last_is closed turn)
      ∙ ap (λ x. (step size x turn.client turn.command).0) (state_longer size opening_state closed (turn ∷ []) (length closed) (omega arith));
  now = λ size closed tables words kept at. record {
    arranged = arranged_upto size arranged opening_state closed (length closed) (arranged.opens size);
    published = published_now size closed tables words kept at;
  };
  journal = λ size closed. journal_state size opening_state 1 closed;
}

-- ---- turns, one list after the other

abbrev pub state_by : Sides → State → List ClosedTurn → State
state_by size state [] = state
state_by size state (Served client command reply after log ∷ turns) = state_by size (step size state client command).0 turns
state_by size state (Drawn client slot tag sheet reply log ∷ turns) = state_by size state turns

carried_append : (setting : Setting) (state : State) (stamp : ℕ) (table : Table) (a b : List ClosedTurn) → AreCarried setting state stamp table a
    → AreCarried setting (state_by setting.size state a) (stamp_after stamp a) (table_after table a) b → AreCarried setting state stamp table (a ++ b)
carried_append setting state stamp table [] b x y = y
carried_append setting state stamp table (Served c d r t l ∷ a) b x y = (x.0, carried_append setting (step setting.size state c d).0 (stamp + 1) t a b x.1 y)
carried_append setting state stamp table (Drawn c s g h r l ∷ a) b x y = (x.0, x.1, carried_append setting state stamp table a b x.2 y)

state_append : (size : Sides) (state : State) (a b : List ClosedTurn) → state_by size state (a ++ b) ≡ state_by size (state_by size state a) b
state_append size state [] b = refl
state_append size state (Served c d r t l ∷ a) b = state_append size (step size state c d).0 a b
state_append size state (Drawn c s g h r l ∷ a) b = state_append size state a b

stamp_append : (stamp : ℕ) (a b : List ClosedTurn) → stamp_after stamp (a ++ b) ≡ stamp_after (stamp_after stamp a) b
stamp_append stamp [] b = refl
stamp_append stamp (Served c d r t l ∷ a) b = stamp_append (stamp + 1) a b
stamp_append stamp (Drawn c s g h r l ∷ a) b = stamp_append stamp a b

table_append : (table : Table) (a b : List ClosedTurn) → table_after table (a ++ b) ≡ table_after (table_after table a) b
table_append table [] b = refl
table_append table (Served c d r t l ∷ a) b = table_append t a b
table_append table (Drawn c s g h r l ∷ a) b = table_append table a b

-- ---- paints alone

-- only paints, each carried under the table
AllDrawn : Setting → Table → List ClosedTurn → Type 0
AllDrawn setting table [] = Unit {0}
AllDrawn setting table (Served c d r t l ∷ turns) = ⊥
AllDrawn setting table (Drawn c s g h r l ∷ turns) = CarriesPaintUnder setting table s h r l × RepliesUnder setting table c s h r × AllDrawn setting table turns

module _ (setting : Setting) (table : Table) where
  drawn_append : (a b : List ClosedTurn) → AllDrawn setting table a → AllDrawn setting table b → AllDrawn setting table (a ++ b)
  unfolding AllDrawn
  drawn_append [] b x y = y
  drawn_append (Served c d r t l ∷ a) b x y = absurd x
  drawn_append (Drawn c s g h r l ∷ a) b x y = (x.0, x.1, drawn_append a b x.2 y)

  drawn_carried : (state : State) (stamp : ℕ) (a : List ClosedTurn) → AllDrawn setting table a → AreCarried setting state stamp table a
  unfolding AllDrawn
  drawn_carried state stamp [] x = tt
  drawn_carried state stamp (Served c d r t l ∷ a) x = absurd x
  drawn_carried state stamp (Drawn c s g h r l ∷ a) x = (x.0, x.1, drawn_carried state stamp a x.2)

  drawn_state : (state : State) (a : List ClosedTurn) → AllDrawn setting table a → state_by setting.size state a ≡ state
  unfolding AllDrawn
  drawn_state state [] x = refl
  drawn_state state (Served c d r t l ∷ a) x = absurd x
  drawn_state state (Drawn c s g h r l ∷ a) x = drawn_state state a x.2

  drawn_stamp : (stamp : ℕ) (a : List ClosedTurn) → AllDrawn setting table a → stamp_after stamp a ≡ stamp
  unfolding AllDrawn
  drawn_stamp stamp [] x = refl
  drawn_stamp stamp (Served c d r t l ∷ a) x = absurd x
  drawn_stamp stamp (Drawn c s g h r l ∷ a) x = drawn_stamp stamp a x.2

  drawn_table : (before : Table) (a : List ClosedTurn) → AllDrawn setting table a → table_after before a ≡ before
  unfolding AllDrawn
  drawn_table before [] x = refl
  drawn_table before (Served c d r t l ∷ a) x = absurd x
  drawn_table before (Drawn c s g h r l ∷ a) x = drawn_table before a x.2

-- the paints of a client with a stamp are carried under the table of that stamp
own_drawn : (setting : Setting) (tables : List (List ℕ)) (c e : ℕ) (t : List ℕ) (own : List Call) → get_elem? tables e ≡ some t
    → ((k : ℕ) (a : Call) → get_elem? own k ≡ some a → CallOk setting tables c a) → AllDrawn setting (table_of t) (flat_map (drawn_of c e) own)
unfolding AllDrawn
own_drawn setting tables c e t [] at ok = tt
own_drawn setting tables c e t (OwnStep s ∷ own) at ok = own_drawn setting tables c e t own at (λ k a b. ok (suc k) a b)
own_drawn setting tables c e t (OwnPaint p ∷ own) at ok = drawn_append setting (table_of t) (drawn_of c e (OwnPaint p)) (flat_map (drawn_of c e) own) (go (p.stamp == e) refl) (own_drawn setting tables c e t own at (λ k a b. ok (suc k) a b))
  where
    go : (b : Bool) → (p.stamp == e) ≡ b → AllDrawn setting (table_of t) (if b then Drawn c p.slot p.tag p.sheet p.reply p.log ∷ [] else [])
    go true is = let same : p.stamp ≡ e = grind (arith, nat_tests) in
        let paint = ok 0 (OwnPaint p) refl t (ap (get_elem? tables) same ∙ at) in (paint.carried, paint.answered, tt)
    go false is = tt

all_drawn : (setting : Setting) (tables : List (List ℕ)) (e : ℕ) (t : List ℕ) (cs : List Client) → get_elem? tables e ≡ some t
    → ((c : ℕ) (p : Client) → get_elem? cs c ≡ some p → (k : ℕ) (a : Call) → get_elem? p.own k ≡ some a → CallOk setting tables p.number a) → AllDrawn setting (table_of t) (flat_map (drawn_at e) cs)
unfolding AllDrawn
all_drawn setting tables e t [] at ok = tt
all_drawn setting tables e t (p ∷ cs) at ok = drawn_append setting (table_of t) (drawn_at e p) (flat_map (drawn_at e) cs) (own_drawn setting tables p.number e t p.own at (ok 0 p refl)) (all_drawn setting tables e t cs at (λ c q b. ok (suc c) q b))

-- ---- the server's turns

pub served_is : (tables : List (List ℕ)) (n : ℕ) (ts : List Closed) (k : ℕ) (t : Closed) → get_elem? ts k ≡ some t
    → nth_served tables n ts k ≡ Served t.client t.command t.reply (table_of (slice_index_or tables n [])) t.log ∷ []
served_is tables n [] k t at = absurd (some-ne-none t (sym at))
served_is tables n (u ∷ ts) zero t at = ap (λ (x : Closed). let l : List ClosedTurn = Served x.client x.command x.reply (table_of (slice_index_or tables n [])) x.log ∷ [] in l) (some-injective u t at)
served_is tables n (u ∷ ts) (suc k) t at = served_is tables n ts k t at

-- ---- all turns

module _ (s : Server) (cs : List Client) where
  abbrev pub turns_upto : ℕ → List ClosedTurn
  turns_upto n = upto (λ e. served_at s e ++ flat_map (drawn_at e) cs) n

  -- the turns to number n are carried, and lead to its state and its table
  pub record CarriedTo (n : ℕ) : Type 0 where
    pub carried : AreCarried s.setting opening_state 0 first_table (turns_upto n)
    pub state : state_by s.setting.size opening_state (turns_upto n) ≡ state_upto s.setting.size opening_state s.closed n
    pub stamp : stamp_after 0 (turns_upto n) ≡ n
    pub table : (t : List ℕ) → get_elem? s.tables n ≡ some t → table_after first_table (turns_upto n) ≡ table_of t

  module _ (known : Knows s cs) (kept : AreKeptTurns s.setting.size s.closed s.tables)
      (own : (c : ℕ) (p : Client) → get_elem? cs c ≡ some p → (k : ℕ) (a : Call) → get_elem? p.own k ≡ some a → CallOk s.setting s.tables p.number a) where
    served_next : (k : ℕ) (turn : Closed) (v u : List ℕ) → get_elem? s.closed k ≡ some turn → get_elem? s.tables k ≡ some v → get_elem? s.tables (suc k) ≡ some u
        → IsServed s.setting (state_upto s.setting.size opening_state s.closed k) k (table_of v) turn.client turn.command turn.reply (table_of u) turn.log
    served_next k turn v u at at_v at_u =
        let next : get_elem? s.tables (k + 1) ≡ some u = ap (get_elem? s.tables) (let z : k + 1 ≡ suc k = omega arith in z) ∙ at_u in
        let is = kept.each k turn u at next in
        record { answered = is.answered; left = is.left; carried = known.0.steps k turn v u at at_v next }

    pub carried_to : (n : ℕ) → n ≤ length s.closed → CarriedTo n
    carried_to zero le =
        let drawn : AllDrawn s.setting first_table (flat_map (drawn_at 0) cs) = subst (λ t. AllDrawn s.setting t (flat_map (drawn_at 0) cs)) opening_read (all_drawn s.setting s.tables 0 opening_table cs known.0.first own) in
        record {
          carried = drawn_carried s.setting first_table opening_state 0 (flat_map (drawn_at 0) cs) drawn;
          state = drawn_state s.setting first_table opening_state (flat_map (drawn_at 0) cs) drawn ∙ sym (state_none s.setting.size opening_state s.closed);
          stamp = drawn_stamp s.setting first_table 0 (flat_map (drawn_at 0) cs) drawn;
          table = λ t at. drawn_table s.setting first_table first_table (flat_map (drawn_at 0) cs) drawn ∙ sym opening_read ∙ ap table_of (some-injective opening_table t (sym known.0.first ∙ at));
        }
    carried_to (suc k) le =
        let before = carried_to k (omega arith) in
        let long = known.0.long in
        let turn_at = there s.closed k (omega arith) in let turn : Closed = turn_at.0 in
        let v_at = there s.tables k (omega arith) in let v : List ℕ = v_at.0 in
        let u_at = there s.tables (suc k) (omega arith) in let u : List ℕ = u_at.0 in
        let a : List ClosedTurn = turns_upto k in
        let d : List ClosedTurn = flat_map (drawn_at (suc k)) cs in
        let one : List ClosedTurn = Served turn.client turn.command turn.reply (table_of u) turn.log ∷ d in
        let X : State = state_upto s.setting.size opening_state s.closed k in
        let Y : State = (step s.setting.size X turn.client turn.command).0 in
        let drawn : AllDrawn s.setting (table_of u) d = all_drawn s.setting s.tables (suc k) u cs u_at.1 own in
        let is : served_at s (suc k) ++ d ≡ one = ap (λ l. l ++ d) (served_is s.tables (suc k) s.closed k turn turn_at.1
        ∙ ap (λ w. let l : List ClosedTurn = Served turn.client turn.command turn.reply (table_of w) turn.log ∷ [] in l) (item_at s.tables (suc k) u [] u_at.1)) in
        let all : turns_upto (suc k) ≡ a ++ one = ap (λ l. a ++ l) is in
        let tail : AreCarried s.setting X k (table_of v) one = (served_next k turn v u turn_at.1 v_at.1 u_at.1, drawn_carried s.setting (table_of u) Y (k + 1) d drawn) in
        let tail_there : AreCarried s.setting (state_by s.setting.size opening_state a) (stamp_after 0 a) (table_after first_table a) one =
        subst (λ x. AreCarried s.setting x (stamp_after 0 a) (table_after first_table a) one) (sym before.state)
        (subst (λ n. AreCarried s.setting X n (table_after first_table a) one) (sym before.stamp)
        (subst (λ t. AreCarried s.setting X k t one) (sym (before.table v v_at.1)) tail)) in
        record {
          carried = subst (AreCarried s.setting opening_state 0 first_table) (sym all) (carried_append s.setting opening_state 0 first_table a one before.carried tail_there);
          state = ap (state_by s.setting.size opening_state) all ∙ state_append s.setting.size opening_state a one ∙ ap (λ x. state_by s.setting.size x one) before.state ∙ drawn_state s.setting (table_of u) Y d drawn ∙ sym (state_next s.setting.size opening_state s.closed k turn turn_at.1);
          stamp = ap (stamp_after 0) all ∙ stamp_append 0 a one ∙ ap (λ n. stamp_after n one) before.stamp ∙ drawn_stamp s.setting (table_of u) (k + 1) d drawn ∙ omega arith;
          table = λ t at. ap (table_after first_table) all ∙ table_append first_table a one ∙ drawn_table s.setting (table_of u) (table_of u) d drawn ∙ ap table_of (some-injective u t (sym u_at.1 ∙ at));
        }

-- ---- the merge

served_entries : (tables : List (List ℕ)) (n m : ℕ) (ts : List Closed) → map entry_of (served_from tables n ts) ≡ map step_entry (journal_from m ts)
served_entries tables n m [] = refl
served_entries tables n m (t ∷ ts) = ap (λ l. Step t.client t.command t.reply ∷ l) (served_entries tables (n + 1) (m + 1) ts)

paint_entries : (c : ℕ) (ps : List PaintCall) → map (changed_by entry_of) (map (drawn c) ps) ≡ map (stamped_paint c) ps
paint_entries c [] = refl
paint_entries c (p ∷ ps) = ap (λ l. stamped_paint c p ∷ l) (paint_entries c ps)

all_paints : (cs : List Client) → map (map (changed_by entry_of)) (map drawn_by cs) ≡ map paints_of cs
all_paints [] = refl
all_paints (p ∷ cs) = ap (λ l. l ∷ map (map (changed_by entry_of)) (map drawn_by cs)) (paint_entries p.number (paints_in p.own)) ∙ ap (λ l. paints_of p ∷ l) (all_paints cs)

merge_is : (s : Server) (cs : List Client) → history_of s cs ≡ merged (map step_entry (journal_of s.closed)) (map paints_of cs)
merge_is s cs =
    sym (merge_law ClosedTurn Entry entry_of (served_from s.tables 1 s.closed) (map drawn_by cs))
    ∙ ap (λ j. merged j (map (map (changed_by entry_of)) (map drawn_by cs))) (served_entries s.tables 1 1 s.closed)
    ∙ ap (merged (map step_entry (journal_of s.closed))) (all_paints cs)

-- ---- those who sit, by number

client_idle : (c : ℕ) (ps : List Client) → AllIdle ps → (client_of c ps).mode ≡ Idle
client_idle c [] idle = refl
client_idle c (p ∷ ps) idle = go (p.number == c) (client_idle c ps (λ k q at. idle (suc k) q at))
  where
    go : (b : Bool) → (client_of c ps).mode ≡ Idle → (let q : Client = if b then p else client_of c ps in q).mode ≡ Idle
    go true rest = idle 0 p refl
    go false rest = rest

pub arranged_idle : (n : ℕ) (ps : List Client) → AllIdle ps → AllIdle (arranged n ps)
arranged_idle n ps idle k p at = let from = from_map (λ c. client_of c ps) (range_with_len 0 n) k p at in ap (λ (q : Client). q.mode) (sym from.2) ∙ client_idle from.0 ps idle

pub arranged_numbers : (s : Server) (ps : List Client) → AllHere s ps → (c : ℕ) (p : Client) → get_elem? (arranged (length s.limits) ps) c ≡ some p → p.number ≡ c
arranged_numbers s ps here c p at =
    let n : ℕ = length s.limits in
    let from = from_map (λ k. client_of k ps) (range_with_len 0 n) c p at in
    let long = length-range_with_len 0 n in
    let low = place_within (range_with_len 0 n) c from.0 from.1 in
    let same : from.0 ≡ 0 + c = some-injective from.0 (0 + c) (sym from.1 ∙ in_order n 0 c (omega arith)) in
    let h = here c (omega arith) in
    let is : client_of c ps ≡ p = ap (λ k. client_of k ps) (let z : c ≡ from.0 = omega arith in z) ∙ from.2 in
    sym (ap (λ (q : Client). q.number) is) ∙ (client_of_here c ps (sits_as ps c h.0 h.1 h.2 h.3)).1

-- ---- the whole session

world_state : (setting : Setting) (world : World) (turns : List ClosedTurn) → (world_from setting world (map entry_of turns)).state ≡ state_by setting.size world.state turns
world_state setting world [] = refl
world_state setting world (Served c d r t l ∷ turns) = world_state setting (Rattle.qws_base.specs.Histories.next_world setting world (entry_of (Served c d r t l))) turns
world_state setting world (Drawn c s g h r l ∷ turns) = world_state setting (Rattle.qws_base.specs.Histories.next_world setting world (entry_of (Drawn c s g h r l))) turns

opening_pixel : (setting : Setting) (p : ℕ) → first_value setting (pixel_word p) ≡ setting.backdrop
opening_pixel setting p = let far : nat_lt (10632 + p) 10632 ≡ false = grind (arith, nat_tests) in ap (λ b. if b then 0 else setting.backdrop) far

pub whole_law : SessionLaw → PictureLaw → WholeLaw
whole_law session picture s ps none idle here known kept =
    let cs : List Client = arranged (length s.limits) ps in
    let numbers = arranged_numbers s ps here in
    let turns : List ClosedTurn = turns_by s cs in
    let long : length cs ≡ length s.limits = length-map (range_with_len 0 (length s.limits)) (λ c. client_of c ps) ∙ length-range_with_len 0 (length s.limits) in
    let named : (k : ℕ) (t : Closed) → get_elem? s.closed k ≡ some t → t.client < length cs = (λ k t at. let lt = known.0.named k t at in omega arith) in
    let first : ℕ → ℕ = first_value s.setting in
    let to = carried_to s cs known kept (λ c p at k a e. subst (λ n. CallOk s.setting s.tables n a) (sym (numbers c p at)) (known.0.paints c p at k a e)) (length s.closed) (omega arith) in
    let lines : (x : ℕ) → line x record s { log = [] } cs ≡ on x (logs_of turns) = (λ x. line_law record s { log = [] } cs x refl (λ c p at. (arranged_idle (length s.limits) ps idle c p at, known.0.order c p at))
    ∙ ap (λ l. on x (logs_of l)) (turns_are s cs)) in
    let law = session s.setting (opening_world s.setting) 0 first_table first turns
    (picture.opens s.setting first (λ p within. opening_pixel s.setting p))
    (λ x. subst (Shows (first x)) (lines x) (subst (λ l. Shows (first x) (line x record s { log = l } cs)) none (known.1 x))) to.carried in
    record {
      merge = merge_is s cs;
      legal = subst (λ l. IsLegal s.setting (map entry_of l)) (sym (turns_are s cs)) law.0;
      state = ap (λ l. (world_after s.setting (map entry_of l)).state) (turns_are s cs) ∙ world_state s.setting (opening_world s.setting) turns ∙ to.state;
      calls = calls_law s cs numbers known;
      no_others = none_else s cs numbers named;
      shows = λ words are.
          pixels_same s.setting.size (λ p. shown_colour s.setting.depth (words (pixel_word p))) (λ p. shown_colour s.setting.depth (words_after first (logs_of turns) (pixel_word p)))
          (λ p within. ap (shown_colour s.setting.depth) (are p within ∙ ap (written (first (pixel_word p))) (lines (pixel_word p))))
          ∙ picture.shows s.setting (world_after s.setting (map entry_of turns)) (stamp_after 0 turns) (table_after first_table turns) (words_after first (logs_of turns)) law.1
          ∙ ap (λ l. shown_picture s.setting (world_after s.setting (map entry_of l)).state.cursor (world_after s.setting (map entry_of l)).scene) (sym (turns_are s cs));
    }
