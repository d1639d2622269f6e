-- How the rule begins, how callers leave and come back, and how it ends.
use Rattle.std.proofs.Common.{◌≡◌, ℕ, zero, suc, ◌+◌, ◌<◌, ◌≤◌, ◌≢◌, nat_lt, if◌then◌else◌, eq-eqb, List, [], ◌∷◌, ◌++◌, set, refl, sym, ap, subst, ◌∙◌, ⊎_elim, inl, inr, ◌⊎◌, arith, Option, Some}
use Rattle.std.proofs.lemmas.Bool.Decides.{nat_tests}
use mathlib.Core.Option.{some, none, some-injective, some-ne-none}
use mathlib.Core.Logic.{dite}
use native.Mathlib.Decide.{ℕ_discrete}
use lib.ListN.{get_elem?}
use Rattle.atomic_table.specs.Table.{step, opening, Final, Seen, Splits, Joins, Enters}
use Rattle.atomic_table.proofs.Lists.{at_snoc}
use Rattle.server_desk.specs.DeskViews.{DeskView}
use Rattle.shared_desk.specs.Desks.{SameDesk}
use Rattle.shared_desk.specs.declared.known.Part.{Part}
use Rattle.shared_desk.specs.declared.known.Known.{Known}
use Rattle.shared_desk.specs.declared.known.DeskKey.{DeskKey}
use Rattle.shared_desk.specs.declared.callers.Caller.{Caller}
use Rattle.shared_desk.specs.Leases.{SharedView}
use Rattle.shared_desk.specs.Together.{has_number, AreThere, rested}
use Rattle.turn_logs.specs.Lists.{total}
use Rattle.shared_desk.specs.Rule.{is_number, has, holding, held, part, parts, knows, AtHome, Kept, opening_view}
use Rattle.shared_desk.specs.Steps.{Seated, arrived, first_off, first_of, without_first, with_first, both}
use Rattle.turn_logs.proofs.Totals.{total_set, total_snoc, total_one, total_two, total_append}
use Rattle.shared_desk.proofs.Keeping.{States, OfDesk, of_desk_set}

-- callers at rest hold nothing
parts_free : (desk : DeskView) (k n : ℕ) → total holding (parts desk k n) ≡ 0
parts_free desk k zero = refl
parts_free desk k (suc n) = let r = parts_free desk (suc k) n in omega arith

parts_out : (c : ℕ) (desk : DeskView) (k n : ℕ) → (c < k) ⊎ (k + n ≤ c) → total (is_number c) (parts desk k n) ≡ 0
parts_out c desk k zero out = refl
parts_out c desk k (suc n) out =
    let r = parts_out c desk (suc k) n (⊎_elim (λ h. inl (omega arith)) (λ h. inr (omega arith)) out) in
    let t : is_number c (part desk k) ≡ 0 = grind (arith, nat_tests) in omega arith

parts_in : (c : ℕ) (desk : DeskView) (k n : ℕ) → k ≤ c → c < k + n → total (is_number c) (parts desk k n) ≡ 1
parts_in c desk k zero low high = absurd (omega arith)
parts_in c desk k (suc n) low high = dite (ℕ_discrete k c)
    (λ eq. let r = parts_out c desk (suc k) n (inl (omega arith)) in let t : is_number c (part desk k) ≡ 1 = grind (arith, nat_tests) in omega arith)
    (λ ne. let r = parts_in c desk (suc k) n (omega arith) (omega arith) in let t : is_number c (part desk k) ≡ 0 = grind (arith, nat_tests) in omega arith)

parts_desk : (desk : DeskView) (k n : ℕ) → OfDesk desk (knows (parts desk k n))
parts_desk desk k zero j p e = absurd (some-ne-none p (sym e))
parts_desk desk k (suc n) zero p e = ap (λ (x : Part). x.desk) (sym (some-injective (part desk k) p e))
parts_desk desk k (suc n) (suc j) p e = parts_desk desk (suc k) n j p e

all_once : (c n : ℕ) (desk : DeskView) → total (is_number c) (parts desk 0 n) ≡ (if nat_lt c n then 1 else 0)
all_once c n desk = dite (native.Mathlib.Decide.dec_lt c n)
    (λ lt. let p = parts_in c desk 0 n (omega arith) (omega arith) in grind (arith, nat_tests))
    (λ ge. let p = parts_out c desk 0 n (inr (omega arith)) in grind (arith, nat_tests))

-- the desk is at home, and all callers stand in the first view
pub opens : (key : DeskKey) (d : DeskView) → key.desk.value ≡ d → Kept key (opening (0 ∷ []) (Some d ∷ []) (opening_view key))
opens key d is = record {
  one_word = refl;
  at_most = omega arith;
  word_is = let f = parts_free key.desk.value 0 key.callers in omega arith;
  once = λ c. let a = all_once c key.callers key.desk.value in omega arith;
  of_desk = at_first;
  home = λ _. (d, refl, subst (λ x. SameDesk d x) (sym is) (refl, refl));
}
  where
    at_first : (id : ℕ) (v : Known) → get_elem? (opening_view key ∷ []) id ≡ some v → OfDesk key.desk.value v
    at_first zero v e = subst (OfDesk key.desk.value) (some-injective (opening_view key) v e) (parts_desk key.desk.value 0 key.callers)
    at_first (suc id) v e = absurd (some-ne-none v (sym e))

cut : (g : Part → ℕ) (ps : List Part) → total g (first_off ps) + total g (first_of ps) ≡ total g ps
cut g [] = refl
cut g (p ∷ ps) = omega arith

off_desk : (desk : DeskView) (v : Known) → OfDesk desk v → OfDesk desk (without_first v)
off_desk desk v of = go v.callers of
  where
    go : (ps : List Part) → OfDesk desk (knows ps) → OfDesk desk (knows (first_off ps))
    go [] h k p e = absurd (some-ne-none p (sym e))
    go (q ∷ ps) h k p e = h (suc k) p e

of_first : (desk : DeskView) (v : Known) → OfDesk desk v → OfDesk desk (with_first v)
of_first desk v of = go v.callers of
  where
    go : (ps : List Part) → OfDesk desk (knows ps) → OfDesk desk (knows (first_of ps))
    go [] h k p e = absurd (some-ne-none p (sym e))
    go (q ∷ ps) h zero p e = h zero p e
    go (q ∷ ps) h (suc k) p e = absurd (some-ne-none p (sym e))

-- the first caller of a seat goes to a seat of its own
pub splits : (key : DeskKey) (id : ℕ) (v : Known) → Splits (Kept key) id v (without_first v) (with_first v)
splits key id v s kept at =
    let of = kept.of_desk id v at in
    let views = set s.views id (without_first v) in
    let sums : (f : Known → ℕ) → f (without_first v) + f (with_first v) ≡ f v → total f (views ++ with_first v ∷ []) ≡ total f s.views =
    λ f e. (let a = total_snoc f views (with_first v) in let b = total_set f s.views id v (without_first v) at in omega arith) in record {
      one_word = kept.one_word;
      at_most = kept.at_most;
      word_is = kept.word_is ∙ sym (sums held (cut holding v.callers));
      once = λ c. sums (has c) (cut (is_number c) v.callers) ∙ kept.once c;
      of_desk = λ j u e. ⊎_elim (λ (h : get_elem? views j ≡ some u). of_desk_set key.desk.value s.views id (without_first v) kept.of_desk (off_desk _ v of) j u h)
          (λ (h : with_first v ≡ u). subst (OfDesk key.desk.value) h (of_first _ v of)) (at_snoc views (with_first v) u j e);
      home = kept.home;
    }

both_desk : (desk : DeskView) (ps qs : List Part) → OfDesk desk (knows ps) → OfDesk desk (knows qs) → OfDesk desk (knows (ps ++ qs))
both_desk desk [] qs a b k p e = b k p e
both_desk desk (x ∷ ps) qs a b zero p e = a zero p e
both_desk desk (x ∷ ps) qs a b (suc k) p e = both_desk desk ps qs (λ j. a (suc j)) b k p e

-- a caller comes back
pub joins : (key : DeskKey) (id : ℕ) (v : Known) (other : ℕ) (w : Known) → Joins (Kept key) id v other w (both v w) (knows [])
joins key id v other w s kept at apart there =
    let views = set s.views id (both v w) in
    let was : get_elem? s.views other ≡ some w = sym (Rattle.atomic_table.proofs.Lists.set_else s.views id other (both v w) apart) ∙ there in
    let sums : (g : Part → ℕ) → total (λ (u : Known). total g u.callers) (set views other (knows [])) ≡ total (λ (u : Known). total g u.callers) s.views =
    λ g. (let f : Known → ℕ = λ u. total g u.callers in let a = total_set f s.views id v (both v w) at in let b = total_set f views other w (knows []) there in let c = total_append g v.callers w.callers in omega arith) in record {
      one_word = kept.one_word;
      at_most = kept.at_most;
      word_is = kept.word_is ∙ sym (sums holding);
      once = λ c. sums (is_number c) ∙ kept.once c;
      of_desk = of_desk_set key.desk.value views other (knows [])
          (of_desk_set key.desk.value s.views id (both v w) kept.of_desk (both_desk key.desk.value v.callers w.callers (kept.of_desk id v at) (kept.of_desk other w was)))
          (λ k p e. absurd (some-ne-none p (sym e)));
      home = kept.home;
    }

-- a seat with no caller arrives
pub enters : (key : DeskKey) (slots : ℕ) (me : Seated) → Enters (Kept key) slots 0 (λ n w. arrived (step slots 0 0 0 none) me n (w, []))
enters key slots me s kept long small = (
  knows [],
  record {
    one_word = kept.one_word;
    at_most = kept.at_most;
    word_is = let t = total_snoc held s.views (knows []) in let k = kept.word_is in omega arith;
    once = λ c. (let t = total_snoc (has c) s.views (knows []) in let e : total (has c) (s.views ++ knows [] ∷ []) ≡ total (has c) s.views = omega arith in e) ∙ kept.once c;
    of_desk = λ j u e. ⊎_elim (λ (h : get_elem? s.views j ≡ some u). kept.of_desk j u h)
        (λ (h : knows [] ≡ u). subst (OfDesk key.desk.value) h (λ k p at. absurd (some-ne-none p (sym at)))) (at_snoc s.views (knows []) u j e);
    home = kept.home;
  },
  refl,
)

total_none : (l : List Known) → ((k : ℕ) (a : Known) → get_elem? l k ≡ some a → held a ≡ 0) → total held l ≡ 0
total_none [] each = refl
total_none (x ∷ xs) each = let r = total_none xs (λ k a e. each (suc k) a e) in let h = each 0 x refl in omega arith

below : (c n t : ℕ) → t ≡ (if nat_lt c n then 1 else 0) → 1 ≤ t → (c < n) × (t ≡ 1)
below c n t e some_there = grind (arith, nat_tests)

-- where all callers stand in one view, at rest, the desk is at home
pub at_home : (key : DeskKey) (s : States) (id : ℕ) (ps : List Part) → Kept key s → get_elem? s.views id ≡ some (knows ps) → total holding ps ≡ 0 → ((c : ℕ) → c < key.callers → 1 ≤ total (is_number c) ps) → AtHome key.desk.value s.homes
at_home key s id ps kept at free there = kept.home (kept.word_is ∙ total_none s.views each)
  where
    other : (j : ℕ) → j ≢ id → (qs : List Part) → get_elem? s.views j ≡ some (knows qs) → held (knows qs) ≡ 0
    other j ne [] e = refl
    other j ne (p ∷ qs) e =
        let mine : 1 ≤ has p.number (knows (p ∷ qs)) = let here : is_number p.number p ≡ 1 = ap (λ b. if b then 1 else 0) (eq-eqb p.number p.number refl) in omega arith in
        let one = total_one (has p.number) s.views j (knows (p ∷ qs)) e in
        let b = below p.number key.callers (total (has p.number) s.views) (kept.once p.number) (omega arith) in
        let is_one = b.1 in
        let two = total_two (has p.number) s.views id j (knows ps) (knows (p ∷ qs)) ne at e in
        let also = there p.number b.0 in absurd (omega arith)

    each : (j : ℕ) (v : Known) → get_elem? s.views j ≡ some v → held v ≡ 0
    each j v e = dite (ℕ_discrete j id) (λ eq. ap held (some-injective v (knows ps) (sym e ∙ ap (get_elem? s.views) eq ∙ at)) ∙ free) (λ ne. other j ne v.callers e)

-- then the closed table has it in its slot
pub ends : (key : DeskKey) (id : ℕ) (words : List ℕ) (slots : List (Option DeskView)) (ps : List Part) → Final (Seen (Kept key) id (knows ps)) words slots
    → total holding ps ≡ 0 → ((c : ℕ) → c < key.callers → 1 ≤ total (is_number c) ps) → (d : DeskView) × (get_elem? slots 0 ≡ some (Some d)) × SameDesk d key.desk.value
ends key id words slots ps last free there = let home = at_home key last.0 id ps last.1.0 last.1.1 free there in (home.0, last.4 0 (Some home.0) home.1, home.2)

rested_free : (desk : DeskView) (callers : List Caller) → total holding (rested desk callers) ≡ 0
rested_free desk [] = refl
rested_free desk (c ∷ cs) = let r = rested_free desk cs in omega arith

rested_there : (desk : DeskView) (number : ℕ) (callers : List Caller) → total (is_number number) (rested desk callers) ≡ total (has_number number) callers
rested_there desk number [] = refl
rested_there desk number (c ∷ cs) = let r = rested_there desk number cs in omega arith

pub ends_with : (key : DeskKey) (id : ℕ) (words : List ℕ) (slots : List (Option DeskView)) (me : Seated) (s : SharedView) (callers : List Caller)
    → me ≡ (knows (rested s.desk callers), []) → AreThere s callers → key.desk.value ≡ s.desk → key.callers ≡ s.callers → Final (Seen (Kept key) id me.0) words slots
    → (d : DeskView) × (get_elem? slots 0 ≡ some (Some d)) × SameDesk d s.desk
ends_with key id words slots me s callers all are desk_is callers_is last =
    let ps = rested s.desk callers in
    let there : (c : ℕ) → c < key.callers → 1 ≤ total (is_number c) ps = λ c lt. (let e = are.each c (subst (λ n. c < n) callers_is lt) in let r = rested_there s.desk c callers in omega arith) in
    let e = ends key id words slots ps (subst (λ u. Final (Seen (Kept key) id u) words slots) (ap (λ (m : Seated). m.0) all) last) (rested_free s.desk callers) there in (e.0, e.1, subst (λ d. SameDesk e.0 d) desk_is e.2)
