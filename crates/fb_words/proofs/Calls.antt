-- In the history of all closed turns, a client's entries are its calls in their order.
use Rattle.std.proofs.Common.{◌≡◌, ◌≢◌, ℕ, zero, suc, ◌+◌, ◌<◌, ◌≤◌, ◌==◌, cond, eq-eqb, ne_eqb, if◌then◌else◌, Bool, true, false, List, [], ◌∷◌, ◌++◌, map, length, append_assoc, append-nil, sym, refl, ap, ◌∙◌, arith}
use Rattle.std.specs.List.{flat_map, filter}
use Rattle.std.proofs.lemmas.Bool.Decides.{nat_tests}
use Rattle.std.proofs.lemmas.List.{map-append}
use Rattle.std.proofs.lemmas.List.Elements.{filter-append}
use mathlib.Core.Option.{some, some-injective, some-ne-none}
use mathlib.Core.Logic.{dite}
use native.Mathlib.Decide.{ℕ_discrete}
use lib.ListN.{get_elem?}
use Rattle.qws_base.specs.Histories.{Entry, Step, client_of_entry, calls_of}
use Rattle.fb_words.specs.declared.known.StepCall.{StepCall}
use Rattle.fb_words.specs.declared.known.Call.{Call}
use Rattle.fb_words.specs.declared.known.Call.TheVariants.{Step as OwnStep, Paint as OwnPaint}
use Rattle.fb_words.specs.declared.known.Client.{Client}
use Rattle.fb_words.specs.declared.known.Closed.{Closed}
use Rattle.fb_words.specs.declared.known.Server.{Server}
use Rattle.turn_logs.specs.Lists.{upto}
use Rattle.fb_words.specs.Views.{steps_in}
use Rattle.fb_words.specs.Rule.{mark, MayFollow, step_call, steps_of}
use Rattle.turn_logs.specs.Sessions.{ClosedTurn, Drawn, entry_of}
use Rattle.fb_words.proofs.ByNumber.{drawn_of, drawn_at, nth_served, served_at, turns_are}
use Rattle.fb_words.specs.Steps.{Knows}
use Rattle.fb_words.specs.Desks.{paint_entry, history_of, call_entry}
use Rattle.turn_logs.proofs.Joining.{upto_same}
use Rattle.turn_logs.proofs.Joining.{place_within}

-- ---- the calls with one mark

abbrev marked : ℕ → Call → List Call
marked e a = if mark a == e then a ∷ [] else []

-- put in front of each list, an item stands before all
insert : {B : Type 0} (a : B) (m : ℕ) (g : ℕ → List B) (n : ℕ) → m ≤ n → ((e : ℕ) → e < m → g e ≡ []) → upto (λ e. (if m == e then a ∷ [] else []) ++ g e) n ≡ a ∷ upto g n
insert a m g zero le early = ap (λ b. (if b then a ∷ [] else []) ++ g 0) (eq-eqb m 0 (omega arith))
insert {B} a m g (suc n) le early = dite (ℕ_discrete m (suc n))
    (λ (eq : m ≡ suc n).
    let none : upto (λ e. (if m == e then a ∷ [] else []) ++ g e) n ≡ [] = all_none (λ e. (if m == e then a ∷ [] else []) ++ g e) n (λ e low. ap (λ b. (if b then a ∷ [] else []) ++ g e) (ne_eqb m e (λ same. absurd (omega arith))) ∙ early e (omega arith)) in
    let bare : upto g n ≡ [] = all_none g n (λ e low. early e (omega arith)) in
    ap (λ l. l ++ ((if m == suc n then a ∷ [] else []) ++ g (suc n))) none ∙ ap (λ b. (if b then a ∷ [] else []) ++ g (suc n)) (eq-eqb m (suc n) eq)
    ∙ ap (λ l. a ∷ (l ++ g (suc n))) (sym bare))
    (λ (ne : m ≢ suc n).
    ap (λ l. l ++ ((if m == suc n then a ∷ [] else []) ++ g (suc n))) (insert a m g n (omega arith) early)
    ∙ ap (λ b. (a ∷ upto g n) ++ ((if b then a ∷ [] else []) ++ g (suc n))) (ne_eqb m (suc n) ne))
  where
    all_none : (f : ℕ → List B) (n : ℕ) → ((e : ℕ) → e ≤ n → f e ≡ []) → upto f n ≡ []
    all_none f zero each = each 0 (omega arith)
    all_none f (suc n) each = ap (λ l. l ++ f (suc n)) (all_none f n (λ e low. each e (omega arith))) ∙ each (suc n) (omega arith)

-- calls in the order of their marks
Ordered : List Call → Type 0
Ordered [] = Unit {0}
Ordered (a ∷ own) = ((k : ℕ) (b : Call) → get_elem? own k ≡ some b → MayFollow a b) × Ordered own

ordered : (own : List Call) → ((j k : ℕ) (a b : Call) → j < k → get_elem? own j ≡ some a → get_elem? own k ≡ some b → MayFollow a b) → Ordered own
unfolding Ordered
ordered [] rises = tt
ordered (a ∷ own) rises = (λ k b at. rises 0 (suc k) a b (omega arith) refl at, ordered own (λ j k b c lt at_b at_c. rises (suc j) (suc k) b c (omega arith) at_b at_c))

follows : (a b : Call) → MayFollow a b → mark a ≤ mark b
follows a (OwnStep s) lt = let z : mark a < s.number = lt in omega arith
follows a (OwnPaint p) le = le

early_none : (m e : ℕ) (own : List Call) → ((k : ℕ) (b : Call) → get_elem? own k ≡ some b → m ≤ mark b) → e < m → flat_map (marked e) own ≡ []
early_none m e [] later lt = refl
early_none m e (b ∷ own) later lt = ap (λ t. (if t then b ∷ [] else []) ++ flat_map (marked e) own) (ne_eqb (mark b) e (λ same. absurd (let le = later 0 b refl in omega arith))) ∙ early_none m e own (λ k c at. later (suc k) c at) lt

-- taken mark by mark, they are in their order
by_marks : (n : ℕ) (own : List Call) → Ordered own → ((k : ℕ) (a : Call) → get_elem? own k ≡ some a → mark a ≤ n) → upto (λ e. flat_map (marked e) own) n ≡ own
unfolding Ordered
by_marks n [] order within = none_at n
  where
    none_at : (n : ℕ) → upto (λ e. flat_map (marked e) []) n ≡ []
    none_at zero = refl
    none_at (suc n) = ap (λ l. l ++ []) (none_at n)
by_marks n (a ∷ own) order within =
    insert a (mark a) (λ e. flat_map (marked e) own) n (within 0 a refl) (λ e lt. early_none (mark a) e own (λ k b at. follows a b (order.0 k b at)) lt)
    ∙ ap (λ l. a ∷ l) (by_marks n own order.1 (λ k b at. within (suc k) b at))

-- ---- a step stands before the paints with its number

module _ (c : ℕ) where
  step_at : ℕ → StepCall → List Entry
  step_at e s = if s.number == e then Step c s.command s.reply ∷ [] else []

  paint_at : ℕ → Call → List Entry
  paint_at e (OwnStep s) = []
  paint_at e (OwnPaint p) = if p.stamp == e then paint_entry c p ∷ [] else []

  -- after a paint no step has its stamp
  no_steps : (a : Call) (e : ℕ) (own : List Call) → mark a ≡ e → ((k : ℕ) (b : Call) → get_elem? own k ≡ some b → MayFollow a b) → flat_map (step_at e) (steps_in own) ≡ []
  unfolding step_at
  no_steps a e [] is later = refl
  no_steps a e (OwnStep s ∷ own) is later = let lt = later 0 (OwnStep s) refl in
      ap (λ b. (if b then Step c s.command s.reply ∷ [] else []) ++ flat_map (step_at e) (steps_in own)) (ne_eqb s.number e (λ same. absurd (omega arith))) ∙ no_steps a e own is (λ k b at. later (suc k) b at)
  no_steps a e (OwnPaint p ∷ own) is later = no_steps a e own is (λ k b at. later (suc k) b at)

  parted : (e : ℕ) (own : List Call) → Ordered own → map (call_entry c) (flat_map (marked e) own) ≡ flat_map (step_at e) (steps_in own) ++ flat_map (paint_at e) own
  unfolding step_at paint_at Ordered
  parted e [] order = refl
  parted e (OwnStep s ∷ own) order =
      map-append (call_entry c) (marked e (OwnStep s)) (flat_map (marked e) own) ∙ ap (λ l. map (call_entry c) (marked e (OwnStep s)) ++ l) (parted e own order.1)
      ∙ ap (λ l. l ++ (flat_map (step_at e) (steps_in own) ++ flat_map (paint_at e) own)) (one (s.number == e))
      ∙ sym (append_assoc (step_at e s) (flat_map (step_at e) (steps_in own)) (flat_map (paint_at e) own))
    where
      one : (b : Bool) → map (call_entry c) (if b then OwnStep s ∷ [] else []) ≡ (if b then Step c s.command s.reply ∷ [] else [])
      one true = refl
      one false = refl
  parted e (OwnPaint p ∷ own) order =
      map-append (call_entry c) (marked e (OwnPaint p)) (flat_map (marked e) own) ∙ ap (λ l. map (call_entry c) (marked e (OwnPaint p)) ++ l) (parted e own order.1) ∙ go (p.stamp == e) refl
    where
      go : (b : Bool) → (p.stamp == e) ≡ b → map (call_entry c) (if b then OwnPaint p ∷ [] else []) ++ (flat_map (step_at e) (steps_in own) ++ flat_map (paint_at e) own)
          ≡ flat_map (step_at e) (steps_in own) ++ ((if b then paint_entry c p ∷ [] else []) ++ flat_map (paint_at e) own)
      go true is = let same : p.stamp ≡ e = grind (arith, nat_tests) in let none = no_steps (OwnPaint p) e own same order.0 in
          ap (λ l. paint_entry c p ∷ (l ++ flat_map (paint_at e) own)) none ∙ ap (λ l. l ++ (paint_entry c p ∷ flat_map (paint_at e) own)) (sym none)
      go false is = refl

  -- ---- the history's entries of the client

  abbrev mine : Entry → Bool
  mine x = client_of_entry x == c

  late : (e n : ℕ) (ts : List Closed) → e ≤ n → flat_map (step_at e) (steps_of c n ts) ≡ []
  unfolding step_at
  late e n [] le = refl
  late e n (u ∷ us) le = pick (u.client == c) (late e (n + 1) us (omega arith))
    where
      pick : (b : Bool) → flat_map (step_at e) (steps_of c (n + 1) us) ≡ [] → flat_map (step_at e) (if b then step_call (n + 1) u ∷ steps_of c (n + 1) us else steps_of c (n + 1) us) ≡ []
      pick true rest = ap (λ b. (if b then Step c u.command u.reply ∷ [] else []) ++ flat_map (step_at e) (steps_of c (n + 1) us)) (ne_eqb (n + 1) e (λ same. absurd (omega arith))) ∙ rest
      pick false rest = rest

  served_mine : (tables : List (List ℕ)) (m n : ℕ) (ts : List Closed) (k : ℕ) → flat_map (step_at (n + suc k)) (steps_of c n ts) ≡ filter mine (map entry_of (nth_served tables m ts k))
  unfolding step_at
  served_mine tables m n [] k = refl
  served_mine tables m n (t ∷ ts) zero = go (t.client == c) refl
    where
      go : (b : Bool) → (t.client == c) ≡ b → flat_map (step_at (n + 1)) (if b then step_call (n + 1) t ∷ steps_of c (n + 1) ts else steps_of c (n + 1) ts) ≡ cond b (Step t.client t.command t.reply ∷ []) []
      go true is = let same : t.client ≡ c = grind (arith, nat_tests) in
          ap (λ b. (if b then Step c t.command t.reply ∷ [] else []) ++ flat_map (step_at (n + 1)) (steps_of c (n + 1) ts)) (eq-eqb (n + 1) (n + 1) refl)
          ∙ ap (λ l. Step c t.command t.reply ∷ l) (late (n + 1) (n + 1) ts (omega arith)) ∙ ap (λ d. let l : List Entry = Step d t.command t.reply ∷ [] in l) (sym same)
      go false is = late (n + 1) (n + 1) ts (omega arith)
  served_mine tables m n (t ∷ ts) (suc k) = go (t.client == c) (served_mine tables m (n + 1) ts k)
    where
      go : (b : Bool) → flat_map (step_at (n + 1 + suc k)) (steps_of c (n + 1) ts) ≡ filter mine (map entry_of (nth_served tables m ts k)) → flat_map (step_at (n + suc (suc k))) (if b then step_call (n + 1) t ∷ steps_of c (n + 1) ts else steps_of c (n + 1) ts) ≡ filter mine (map entry_of (nth_served tables m ts k))
      go true rest = ap (λ b. (if b then Step c t.command t.reply ∷ [] else []) ++ flat_map (step_at (n + suc (suc k))) (steps_of c (n + 1) ts)) (ne_eqb (n + 1) (n + suc (suc k)) (λ same. absurd (omega arith)))
          ∙ ap (λ e. flat_map (step_at e) (steps_of c (n + 1) ts)) (let z : n + suc (suc k) ≡ n + 1 + suc k = omega arith in z) ∙ rest
      go false rest = ap (λ e. flat_map (step_at e) (steps_of c (n + 1) ts)) (let z : n + suc (suc k) ≡ n + 1 + suc k = omega arith in z) ∙ rest

  served_none : (tables : List (List ℕ)) (m : ℕ) (ts : List Closed) (k : ℕ) → ((j : ℕ) (t : Closed) → get_elem? ts j ≡ some t → t.client ≢ c) → filter mine (map entry_of (nth_served tables m ts k)) ≡ []
  served_none tables m [] k away = refl
  served_none tables m (t ∷ ts) zero away = ap (λ b. cond b (Step t.client t.command t.reply ∷ []) []) (ne_eqb t.client c (away 0 t refl))
  served_none tables m (t ∷ ts) (suc k) away = served_none tables m ts k (λ j u at. away (suc j) u at)

  own_mine : (d e : ℕ) (own : List Call) → d ≡ c → filter mine (map entry_of (flat_map (drawn_of d e) own)) ≡ flat_map (paint_at e) own
  unfolding paint_at
  own_mine d e [] is = refl
  own_mine d e (OwnStep s ∷ own) is = own_mine d e own is
  own_mine d e (OwnPaint p ∷ own) is = go (p.stamp == e) (own_mine d e own is)
    where
      go : (b : Bool) → filter mine (map entry_of (flat_map (drawn_of d e) own)) ≡ flat_map (paint_at e) own
          → filter mine (map entry_of ((if b then Drawn d p.slot p.tag p.sheet p.reply p.log ∷ [] else []) ++ flat_map (drawn_of d e) own)) ≡ (if b then paint_entry c p ∷ [] else []) ++ flat_map (paint_at e) own
      go true rest = ap (λ b. cond b (paint_entry d p ∷ filter mine (map entry_of (flat_map (drawn_of d e) own))) (filter mine (map entry_of (flat_map (drawn_of d e) own)))) (eq-eqb d c is)
          ∙ ap (λ l. paint_entry d p ∷ l) rest ∙ ap (λ k. paint_entry k p ∷ flat_map (paint_at e) own) is
      go false rest = rest

  own_other : (d e : ℕ) (own : List Call) → d ≢ c → filter mine (map entry_of (flat_map (drawn_of d e) own)) ≡ []
  own_other d e [] not = refl
  own_other d e (OwnStep s ∷ own) not = own_other d e own not
  own_other d e (OwnPaint p ∷ own) not = go (p.stamp == e) (own_other d e own not)
    where
      go : (b : Bool) → filter mine (map entry_of (flat_map (drawn_of d e) own)) ≡ []
          → filter mine (map entry_of ((if b then Drawn d p.slot p.tag p.sheet p.reply p.log ∷ [] else []) ++ flat_map (drawn_of d e) own)) ≡ []
      go true rest = ap (λ b. cond b (paint_entry d p ∷ filter mine (map entry_of (flat_map (drawn_of d e) own))) (filter mine (map entry_of (flat_map (drawn_of d e) own)))) (ne_eqb d c not) ∙ rest
      go false rest = rest

  two_parts : (a b : List ClosedTurn) → filter mine (map entry_of (a ++ b)) ≡ filter mine (map entry_of a) ++ filter mine (map entry_of b)
  two_parts a b = ap (filter mine) (map-append entry_of a b) ∙ filter-append mine (map entry_of a) (map entry_of b)

  others : (e : ℕ) (cs : List Client) → ((k : ℕ) (q : Client) → get_elem? cs k ≡ some q → q.number ≢ c) → filter mine (map entry_of (flat_map (drawn_at e) cs)) ≡ []
  others e [] away = refl
  others e (q ∷ cs) away = two_parts (drawn_at e q) (flat_map (drawn_at e) cs) ∙ ap (λ l. l ++ filter mine (map entry_of (flat_map (drawn_at e) cs))) (own_other q.number e q.own (away 0 q refl)) ∙ others e cs (λ k r at. away (suc k) r at)

  drawn_mine : (e b k : ℕ) (p : Client) (cs : List Client) → ((j : ℕ) (q : Client) → get_elem? cs j ≡ some q → q.number ≡ b + j) → c ≡ b + k → get_elem? cs k ≡ some p
      → filter mine (map entry_of (flat_map (drawn_at e) cs)) ≡ flat_map (paint_at e) p.own
  drawn_mine e b k p [] numbers is at = absurd (some-ne-none p (sym at))
  drawn_mine e b zero p (q ∷ cs) numbers is at =
      two_parts (drawn_at e q) (flat_map (drawn_at e) cs)
      ∙ ap (λ l. filter mine (map entry_of (drawn_at e q)) ++ l) (others e cs (λ j r at_r same. let n = numbers (suc j) r at_r in absurd (omega arith)))
      ∙ append-nil (filter mine (map entry_of (drawn_at e q)))
      ∙ own_mine q.number e q.own (numbers 0 q refl ∙ sym is)
      ∙ ap (λ (r : Client). flat_map (paint_at e) r.own) (some-injective q p at)
  drawn_mine e b (suc k) p (q ∷ cs) numbers is at =
      two_parts (drawn_at e q) (flat_map (drawn_at e) cs)
      ∙ ap (λ l. l ++ filter mine (map entry_of (flat_map (drawn_at e) cs))) (own_other q.number e q.own (λ same. let n = numbers 0 q refl in absurd (omega arith)))
      ∙ drawn_mine e (b + 1) k p cs (λ j r at_r. numbers (suc j) r at_r ∙ omega arith) (is ∙ omega arith) at

  mine_upto : (f : ℕ → List ClosedTurn) (n : ℕ) → filter mine (map entry_of (upto f n)) ≡ upto (λ e. filter mine (map entry_of (f e))) n
  mine_upto f zero = refl
  mine_upto f (suc n) = two_parts (upto f n) (f (suc n)) ∙ ap (λ l. l ++ filter mine (map entry_of (f (suc n)))) (mine_upto f n)

pub map_upto : {A B : Type 0} (g : A → B) (f : ℕ → List A) (n : ℕ) → map g (upto f n) ≡ upto (λ e. map g (f e)) n
map_upto g f zero = refl
map_upto g f (suc n) = map-append g (upto f n) (f (suc n)) ∙ ap (λ l. l ++ map g (f (suc n))) (map_upto g f n)

pub calls_law : (s : Server) (cs : List Client) → ((c : ℕ) (p : Client) → get_elem? cs c ≡ some p → p.number ≡ c) → Knows s cs
    → (c : ℕ) (p : Client) → get_elem? cs c ≡ some p → calls_of (history_of s cs) c ≡ map (call_entry c) p.own
calls_law s cs numbers known c p at =
    let n : ℕ = length s.closed in
    let order = known.0.order c p at in
    let sorted : Ordered p.own = ordered p.own order.rises in
    ap (λ h. filter (mine c) (map entry_of h)) (turns_are s cs)
    ∙ mine_upto c (λ e. served_at s e ++ flat_map (drawn_at e) cs) n
    ∙ upto_same (λ e. filter (mine c) (map entry_of (served_at s e ++ flat_map (drawn_at e) cs))) (λ e. map (call_entry c) (flat_map (marked e) p.own)) n
    (λ e le. two_parts c (served_at s e) (flat_map (drawn_at e) cs)
    ∙ ap (λ l. l ++ filter (mine c) (map entry_of (flat_map (drawn_at e) cs))) (sym (served e) ∙ ap (flat_map (step_at c e)) (sym (known.0.own_steps c p at)))
    ∙ ap (λ l. flat_map (step_at c e) (steps_in p.own) ++ l) (drawn_mine c e 0 c p cs (λ j q at_q. numbers j q at_q ∙ omega arith) (omega arith) at)
    ∙ sym (parted c e p.own sorted))
    ∙ sym (map_upto (call_entry c) (λ e. flat_map (marked e) p.own) n)
    ∙ ap (map (call_entry c)) (by_marks n p.own sorted (λ k a at_a. let le = order.seen_own k a at_a in let most = order.seen_within in omega arith))
  where
    served : (e : ℕ) → flat_map (step_at c e) (steps_of c 0 s.closed) ≡ filter (mine c) (map entry_of (served_at s e))
    served zero = late c 0 0 s.closed (omega arith)
    served (suc k) = ap (λ e. flat_map (step_at c e) (steps_of c 0 s.closed)) (let z : suc k ≡ 0 + suc k = omega arith in z) ∙ served_mine c s.tables (suc k) 0 s.closed k

pub none_else : (s : Server) (cs : List Client) → ((c : ℕ) (p : Client) → get_elem? cs c ≡ some p → p.number ≡ c) → ((k : ℕ) (t : Closed) → get_elem? s.closed k ≡ some t → t.client < length cs)
    → (c : ℕ) → length cs ≤ c → calls_of (history_of s cs) c ≡ []
none_else s cs numbers named c high =
    ap (λ h. filter (mine c) (map entry_of h)) (turns_are s cs)
    ∙ mine_upto c (λ e. served_at s e ++ flat_map (drawn_at e) cs) (length s.closed)
    ∙ upto_same (λ e. filter (mine c) (map entry_of (served_at s e ++ flat_map (drawn_at e) cs))) (λ e. []) (length s.closed)
    (λ e le. two_parts c (served_at s e) (flat_map (drawn_at e) cs) ∙ ap (λ l. l ++ filter (mine c) (map entry_of (flat_map (drawn_at e) cs))) (served e)
    ∙ others c e cs (λ k q at same. let n = numbers k q at in let low = place_within cs k q at in absurd (omega arith)))
    ∙ none_at (length s.closed)
  where
    none_at : (n : ℕ) → upto (λ e. let l : List Entry = [] in l) n ≡ []
    none_at zero = refl
    none_at (suc n) = ap (λ l. l ++ []) (none_at n)

    served : (e : ℕ) → filter (mine c) (map entry_of (served_at s e)) ≡ []
    served zero = refl
    served (suc k) = served_none c s.tables (suc k) s.closed k (λ j t at same. let lt = named j t at in absurd (omega arith))
