-- Where as many clients sit as were admitted, all sit; and stubs stay stubs over a give.
use Rattle.std.proofs.Common.{◌≡◌, ◌≢◌, ℕ, zero, suc, ◌+◌, ◌<◌, ◌≤◌, ◌==◌, nat_lt, if◌then◌else◌, eq-eqb, Bool, true, false, List, [], ◌∷◌, ◌++◌, map, length, sym, refl, ap, ◌∙◌, subst, arith, lt_of_not-le}
use Rattle.std.proofs.lemmas.Bool.Decides.{nat_tests}
use Rattle.std.proofs.lemmas.Bool.{lt-ltb}
use mathlib.Core.Option.{some}
use mathlib.Core.Logic.{dite}
use native.Mathlib.Decide.{ℕ_discrete, dec_le}
use lib.ListN.{get_elem?}
use Rattle.qws_base.specs.Books.{BookView}
use Rattle.qws_base.specs.declared.journals.JournalEntry.{JournalEntry}
use Rattle.fb_words.specs.declared.known.Call.TheVariants.{Step}
use Rattle.fb_words.specs.declared.known.Client.{Client}
use Rattle.fb_words.specs.declared.known.Server.{Server}
use Rattle.turn_logs.specs.Lists.{total}
use Rattle.fb_words.specs.Views.{is_client, client_of, without, books_in}
use Rattle.fb_words.specs.Steps.{AllSit, SitOnce, AllHere, SitsAs, StubLaw, own_step, stepped, with_step}
use Rattle.turn_logs.proofs.Totals.{total_map, total_snoc}
use Rattle.turn_logs.proofs.Joining.{place_within}
use Rattle.fb_words.proofs.Sitting.{client_of_here}
use Rattle.fb_words.proofs.Serving.{books_more, same_number}

abbrev below : ℕ → Client → ℕ
below n p = if nat_lt p.number n then 1 else 0

one_more : (n : ℕ) (p : Client) → below (suc n) p ≡ below n p + is_client n p
one_more n p = grind (arith, nat_tests)

all_more : (n : ℕ) (ps : List Client) → total (below (suc n)) ps ≡ total (below n) ps + total (is_client n) ps
all_more n [] = refl
all_more n (p ∷ ps) = let a = one_more n p in let b = all_more n ps in omega arith

none_below : (ps : List Client) → total (below 0) ps ≡ 0
none_below [] = refl
none_below (p ∷ ps) = let a : below 0 p ≡ 0 = grind (arith, nat_tests) in let b = none_below ps in omega arith

module _ (ps : List Client) (once : SitOnce ps) where
  few_below : (n : ℕ) → total (below n) ps ≤ n
  few_below zero = let z = none_below ps in omega arith
  few_below (suc n) = let a = all_more n ps in let b = few_below n in let c = once n in omega arith

  one_away : (c n : ℕ) → total (is_client c) ps ≡ 0 → c < n → total (below n) ps + 1 ≤ n
  one_away c zero none lt = absurd (omega arith)
  one_away c (suc n) none lt = let a = all_more n ps in let most = once n in dite (ℕ_discrete c n)
      (λ (eq : c ≡ n). let here : total (is_client n) ps ≡ 0 = subst (λ k. total (is_client k) ps ≡ 0) eq none in let b = few_below n in omega arith)
      (λ (ne : c ≢ n). let b = one_away c n none (omega arith) in omega arith)

each_below : (n : ℕ) (ps : List Client) → ((k : ℕ) (p : Client) → get_elem? ps k ≡ some p → p.number < n) → total (below n) ps ≡ length ps
each_below n [] within = refl
each_below n (p ∷ ps) within = let a : below n p ≡ 1 = ap (λ b. if b then 1 else 0) (lt-ltb p.number n (within 0 p refl)) in let b = each_below n ps (λ k q e. within (suc k) q e) in omega arith

-- where as many sit as were admitted, and none twice, all sit
pub all_here : (s : Server) (ps : List Client) → AllSit s ps → SitOnce ps → length ps ≡ length s.limits → AllHere s ps
all_here s ps sit once long c low =
    let whole = each_below (length s.limits) ps (λ k p e. place_within s.limits p.number p.step_limit (sit k p e).limit) in
    dite (dec_le 1 (total (is_client c) ps))
    (λ (here : 1 ≤ total (is_client c) ps). let at = client_of_here c ps here in (at.0.0, client_of c ps, at.0.1, at.1))
    (λ none. let z = lt_of_not-le none in let away = one_away ps once c (length s.limits) (omega arith) low in absurd (omega arith))

-- ---- a give

books_given : (e : JournalEntry) (c : ℕ) (ps : List Client) → books_in (client_of c (map (with_step e) ps)).own ≡ books_in (client_of c ps).own
books_given e c [] = refl
books_given e c (p ∷ ps) =
    ap (λ n. books_in (if n == c then with_step e p else client_of c (map (with_step e) ps)).own) (same_number e p) ∙ go (p.number == c) (books_given e c ps)
  where
    book : (b : Bool) → books_in (let q : Client = if b then stepped e p else p in q).own ≡ books_in p.own
    book true = books_more p.own (Step (own_step e)) ∙ plus_none (books_in p.own)
      where
        plus_none : {A : Type 0} (l : List A) → l ++ [] ≡ l
        plus_none [] = refl
        plus_none (x ∷ l) = ap (λ m. x ∷ m) (plus_none l)
    book false = refl

    go : (b : Bool) → books_in (client_of c (map (with_step e) ps)).own ≡ books_in (client_of c ps).own
        → books_in (if b then with_step e p else client_of c (map (with_step e) ps)).own ≡ books_in (if b then p else client_of c ps).own
    go true rest = book (p.number == e.client)
    go false rest = rest

pub stubs_given : (e : JournalEntry) (ps : List Client) (stub : BookView) → SitsAs stub ps → SitsAs stub (map (with_step e) ps)
stubs_given e ps stub sits = record {
  here = subst (λ n. 1 ≤ n) (sym (total_map (is_client stub.client) (is_client stub.client) (with_step e) ps (λ p. ap (λ n. if n == stub.client then 1 else 0) (same_number e p)))) sits.here;
  book = sits.book ∙ sym (books_given e stub.client ps);
}

-- ---- who sits down, and who rises

-- client c among those that sit, and whether it does
abbrev same_place : ℕ → List Client → List Client → Type 0
same_place c ps qs = (total (is_client c) qs ≡ total (is_client c) ps) × (client_of c qs ≡ client_of c ps)

one_client : (c : ℕ) (p : Client) (b : Bool) → (p.number == c) ≡ b → is_client c p ≡ (if b then 1 else 0)
one_client c p b is = ap (λ t. if t then 1 else 0) is

stays_first : (c : ℕ) (ps : List Client) (p : Client) → 1 ≤ total (is_client c) ps → client_of c (ps ++ p ∷ []) ≡ client_of c ps
stays_first c [] p here = absurd (omega arith)
stays_first c (q ∷ ps) p here = go (q.number == c) refl (stays_first c ps p)
  where
    go : (b : Bool) → (q.number == c) ≡ b → (1 ≤ total (is_client c) ps → client_of c (ps ++ p ∷ []) ≡ client_of c ps) → (let x : Client = if b then q else client_of c (ps ++ p ∷ []) in x) ≡ (if b then q else client_of c ps)
    go true is rest = refl
    go false is rest = rest (let one = one_client c q false is in omega arith)

sits_last : (c : ℕ) (ps : List Client) (p : Client) → p.number ≡ c → total (is_client c) ps ≡ 0 → client_of c (ps ++ p ∷ []) ≡ p
sits_last c [] p is none = ap (λ b. let x : Client = if b then p else Rattle.fb_words.specs.Views.no_client in x) (eq-eqb p.number c is)
sits_last c (q ∷ ps) p is none = go (q.number == c) refl (sits_last c ps p is)
  where
    go : (b : Bool) → (q.number == c) ≡ b → (total (is_client c) ps ≡ 0 → client_of c (ps ++ p ∷ []) ≡ p) → (let x : Client = if b then q else client_of c (ps ++ p ∷ []) in x) ≡ p
    go true at rest = absurd (let one = one_client c q true at in omega arith)
    go false at rest = rest (let one = one_client c q false at in omega arith)

rises_other : (d c : ℕ) (ps : List Client) → (c ≡ d → ⊥) → same_place c ps (without d ps)
rises_other d c [] ne = (refl, refl)
rises_other d c (q ∷ ps) ne = go (q.number == d) refl (rises_other d c ps ne)
  where
    other : (b : Bool) → (q.number == c) ≡ b → q.number ≡ d → b ≡ false
    other true is at = absurd (ne (let z : q.number ≡ c = grind (arith, nat_tests) in sym z ∙ at))
    other false is at = refl

    go : (b : Bool) → (q.number == d) ≡ b → same_place c ps (without d ps) → same_place c (q ∷ ps) (if b then ps else q ∷ without d ps)
    go true is rest = let at : q.number ≡ d = grind (arith, nat_tests) in
        let away : (q.number == c) ≡ false = other (q.number == c) refl at in
        let one = one_client c q false away in (omega arith, sym (ap (λ t. let x : Client = if t then q else client_of c ps in x) away))
    go false is rest = let r = rest.0 in (omega arith, ap (λ x. let y : Client = if q.number == c then q else x in y) rest.1)

pub stub_law : StubLaw
stub_law = record {
  sits = λ ps p stub once number book.
      let sum = total_snoc (is_client stub.client) ps p in
      let one : is_client stub.client p ≡ 1 = ap (λ b. if b then 1 else 0) (eq-eqb p.number stub.client (sym number)) in
      let most = once stub.client in
      let last = sits_last stub.client ps p (sym number) (omega arith) in
      (record { here = omega arith; book = book ∙ ap (λ (x : Client). books_in x.own) (sym last) }, last);
  stays = λ ps p stub sits.
      let sum = total_snoc (is_client stub.client) ps p in
      let here = sits.here in
      let same = stays_first stub.client ps p here in
      (record { here = omega arith; book = sits.book ∙ ap (λ (x : Client). books_in x.own) (sym same) }, same);
  rises = λ ps c stub ne sits.
      let same = rises_other c stub.client ps ne in let sum = same.0 in let here = sits.here in
      (record { here = omega arith; book = sits.book ∙ ap (λ (x : Client). books_in x.own) (sym same.1) }, same.1);
}
