-- What a head keeps, and what the clients that sit with it have seen.
use Rattle.std.proofs.Common.{◌≡◌, ◌≢◌, ℕ, ◌<◌, ◌≤◌, ◌==◌, if◌then◌else◌, Bool, true, false, List, [], ◌∷◌, ◌++◌, map, length, get_or, set, sym, refl, ap, ◌∙◌, subst, arith, ⊎_elim}
use Rattle.std.specs.List.{flat_map}
use Rattle.std.proofs.lemmas.List.{get_or-set_other, get_or-set_same}
use mathlib.Core.Option.{some, some-ne-none}
use lib.ListN.{get_elem?}
use Rattle.atomic_table.specs.Table.{Me}
use Rattle.atomic_table.proofs.Lists.{at_last, at_longer}
use Rattle.qws_base.specs.declared.journals.JournalEntry.{JournalEntry}
use Rattle.fb_words.specs.declared.known.Mode.TheVariants.{Idle}
use Rattle.fb_words.specs.declared.known.ServerMode.TheVariants.{Writing}
use Rattle.fb_words.specs.declared.known.Client.{Client}
use Rattle.fb_words.specs.declared.known.View.{View}
use Rattle.turn_logs.specs.Lists.{total}
use Rattle.fb_words.specs.Views.{is_client, busy, busy_mode, is_closing, alone, only, head_view, the_server, both_views, client_of, without, HasSeen}
use Rattle.fb_words.specs.Steps.{after_give, with_step, AllSit, SitOnce, AllHere, Knows, arranged}
use Rattle.fb_words.proofs.Found.{idle_mode}
use Rattle.fb_words.proofs.Places.{at_end}
use Rattle.turn_logs.proofs.Totals.{total_snoc, total_one, total_two, total_map, from_map}
use Rattle.fb_words.proofs.Spreads.{is_itself}
use Rattle.turn_logs.proofs.Joining.{place_within}
use Rattle.fb_words.proofs.Sitting.{client_of_here, still_there}
use Rattle.fb_words.proofs.Serving.{by_number, same_mode, IsHead}

-- ---- what the clients that sit have seen, at the places of their numbers

pub none_sits : (seen : List ℕ) → HasSeen seen []
none_sits seen = record { each = λ k p e. absurd (some-ne-none p (sym e)) }

-- one who sits has one of the sixteen numbers, and what it has seen at the place of it
pub seen_of : (seen : List ℕ) (ps : List Client) (c : ℕ) → HasSeen seen ps → 1 ≤ total (is_client c) ps → (c < 16) × (get_or seen c 0 ≡ (client_of c ps).seen)
seen_of seen ps c has here = let there = client_of_here c ps here in
    subst (λ n. (n < 16) × (get_or seen n 0 ≡ (client_of c ps).seen)) there.1 (has.each there.0.0 (client_of c ps) there.0.1)

-- one who sits is in no turn
pub idle_there : (c : ℕ) (ps : List Client) → total busy ps ≡ 0 → 1 ≤ total (is_client c) ps → (client_of c ps).mode ≡ Idle
idle_there c ps idle here = let there = client_of_here c ps here in let one = total_one busy ps there.0.0 (client_of c ps) there.0.1 in idle_mode (client_of c ps).mode (omega arith)

pub seen_risen : (seen : List ℕ) (c : ℕ) (ps : List Client) → HasSeen seen ps → HasSeen seen (without c ps)
seen_risen seen c ps has = record { each = λ k p e. let r = still_there c ps k p e in has.each r.0 p r.1 }

pub seen_given : (seen : List ℕ) (e : JournalEntry) (ps : List Client) → length seen ≡ 16 → HasSeen seen ps → HasSeen (set seen e.client e.number) (map (with_step e) ps)
seen_given seen e ps long has = record {
  each = λ k q at. let r = from_map (with_step e) ps k q at in subst (λ x. (x.number < 16) × (get_or (set seen e.client e.number) x.number 0 ≡ x.seen)) r.2 (now r.0 (has.each k r.0 r.1));
}
  where
    now : (p : Client) → (p.number < 16) × (get_or seen p.number 0 ≡ p.seen) → ((with_step e p).number < 16) × (get_or (set seen e.client e.number) (with_step e p).number 0 ≡ (with_step e p).seen)
    now p old = by_number e p (λ x. (x.number < 16) × (get_or (set seen e.client e.number) x.number 0 ≡ x.seen))
        (λ is. let few = old.0 in (few, ap (λ n. get_or (set seen e.client e.number) n 0) is ∙ get_or-set_same seen e.client e.number 0 (omega arith)))
        (λ not. (old.0, get_or-set_other seen e.client p.number e.number 0 not ∙ old.1))

-- the client q comes to sit, which no other has the number of
pub seen_sat : (seen : List ℕ) (ps : List Client) (q : Client) → length seen ≡ 16 → HasSeen seen ps → SitOnce (ps ++ q ∷ []) → q.number < 16 → HasSeen (set seen q.number q.seen) (ps ++ q ∷ [])
seen_sat seen ps q long has once few = record {
  each = λ k p at. ⊎_elim
      (λ (t : get_elem? ps k ≡ some p). let old = has.each k p t in (old.0, get_or-set_other seen q.number p.number q.seen 0 (other k p t) ∙ old.1))
      (λ (t : (k ≡ length ps) × (q ≡ p)). subst (λ x. (x.number < 16) × (get_or (set seen q.number q.seen) x.number 0 ≡ x.seen)) t.1 (few, get_or-set_same seen q.number q.seen 0 (omega arith)))
      (at_end ps k q p at);
}
  where
    other : (k : ℕ) (p : Client) → get_elem? ps k ≡ some p → p.number ≢ q.number
    other k p t eq = let before = place_within ps k p t in let one = once q.number in
        let two = total_two (is_client q.number) (ps ++ q ∷ []) k (length ps) p q (λ e. absurd (omega arith)) (at_longer ps (q ∷ []) k p t) (at_last ps q (length ps) refl) in
        let a = is_itself q in let b : is_client q.number p ≡ 1 = ap (λ n. is_client n p) (sym eq) ∙ is_itself p in absurd (omega arith)

-- ---- what a head keeps

abbrev Mine : Type 0
Mine = Me (Unit {0}) View

pub joined_is_head : (m me : Mine) (u : View) → m ≡ (both_views me.0 u, me.1) → IsHead me → IsHead m
joined_is_head m me u flat_map is = let P : Mine → Type 0 = IsHead in subst P (sym flat_map)
    (ap (λ (x : Mine). let y : Mine = (record { server = x.0.server; clients = me.0.clients ++ u.clients }, x.1) in y) is)

pub same_seat_sits : (m me : Mine) → m ≡ me → AllSit (the_server me.0) me.0.clients → AllSit (the_server m.0) m.0.clients
same_seat_sits m me same sit = let P : Mine → Type 0 = λ x. AllSit (the_server x.0) x.0.clients in subst P (sym same) sit

pub same_seat_knows : (m me : Mine) → m ≡ me → (AllHere (the_server me.0) me.0.clients → Knows (the_server me.0) (arranged (length (the_server me.0).limits) me.0.clients))
    → AllHere (the_server m.0) m.0.clients → Knows (the_server m.0) (arranged (length (the_server m.0).limits) m.0.clients)
same_seat_knows m me same known = let P : Mine → Type 0 = λ x. AllHere (the_server x.0) x.0.clients → Knows (the_server x.0) (arranged (length (the_server x.0).limits) x.0.clients) in subst P (sym same) known

pub given_idle : (e : JournalEntry) (ps : List Client) → total busy ps ≡ 0 → total busy (map (with_step e) ps) ≡ 0
given_idle e ps idle = total_map busy busy (with_step e) ps (λ p. ap busy_mode (same_mode e p)) ∙ idle

pub risen_idle : (c : ℕ) (ps : List Client) → total busy ps ≡ 0 → total busy (without c ps) ≡ 0
risen_idle c [] idle = refl
risen_idle c (p ∷ ps) idle = go (p.number == c) (risen_idle c ps (omega arith))
  where
    go : (b : Bool) → total busy (without c ps) ≡ 0 → total busy (if b then ps else p ∷ without c ps) ≡ 0
    go true r = omega arith
    go false r = omega arith

-- what the head's type keeps, of a seat, the number of clients admitted, and what those that sit have seen
abbrev pub HeadKeeps : Mine → ℕ → Bool → List ℕ → Type 0
HeadKeeps me n b seen = IsHead me × (length (the_server me.0).limits ≡ n) × (total busy me.0.clients ≡ 0) × (b ≡ is_closing (the_server me.0).mode) × HasSeen seen me.0.clients

pub risen_head : (m me : Mine) (c n : ℕ) (b : Bool) (seen : List ℕ) → m ≡ (record me.0 { clients = without c me.0.clients }, me.1) → HeadKeeps me n b seen → HeadKeeps m n b seen
risen_head m me c n b seen is kept = let P : Mine → Type 0 = λ x. HeadKeeps x n b seen in subst P (sym is)
    (ap (λ (x : Mine). let y : Mine = (record { server = x.0.server; clients = without c me.0.clients }, x.1) in y) kept.0, kept.1, risen_idle c me.0.clients kept.2, kept.3, seen_risen seen c me.0.clients kept.4)

-- the client q has come to sit, with what it has seen at the place of its number
pub joined_head : (m x me : Mine) (u : View) (n c v : ℕ) (b : Bool) (seen : List ℕ) → m ≡ x → x ≡ (both_views me.0 u, me.1) → HeadKeeps me n b seen → length seen ≡ 16 → u ≡ alone (only u.clients) → busy (only u.clients) ≡ 0
    → c ≡ (only u.clients).number → v ≡ (only u.clients).seen → c < 16 → SitOnce x.0.clients → HeadKeeps m n b (set seen c v)
joined_head m x me u n c v b seen same flat_map kept long is idle number saw few once = let q = only u.clients in let P : Mine → Type 0 = λ y. HeadKeeps y n b (set seen c v) in
    let here : x.0.clients ≡ me.0.clients ++ q ∷ [] = ap (λ (y : Mine). y.0.clients) flat_map ∙ ap (λ w. me.0.clients ++ w.clients) is in
    subst P (sym same) (
      joined_is_head x me u flat_map kept.0,
      subst (λ (y : Mine). length (the_server y.0).limits ≡ n) (sym flat_map) kept.1,
      ap (total busy) here ∙ (let sum = total_snoc busy me.0.clients q in let a = kept.2 in omega arith),
      subst (λ (y : Mine). b ≡ is_closing (the_server y.0).mode) (sym flat_map) kept.3,
      subst (HasSeen (set seen c v)) (sym here) (subst (λ k. HasSeen (set seen k v) (me.0.clients ++ q ∷ [])) (sym number) (subst (λ k. HasSeen (set seen q.number k) (me.0.clients ++ q ∷ [])) (sym saw)
          (seen_sat seen me.0.clients q long kept.4 (subst SitOnce here once) (subst (λ k. k < 16) number few)))),
    )

-- one who sits has one of the sixteen numbers
pub joined_within : (x me : Mine) (u : View) → x ≡ (both_views me.0 u, me.1) → u ≡ alone (only u.clients) → AllSit (the_server x.0) x.0.clients → length (the_server x.0).limits ≤ 16 → (only u.clients).number < 16
joined_within x me u flat_map is sits few = let q = only u.clients in
    let here : x.0.clients ≡ me.0.clients ++ q ∷ [] = ap (λ (y : Mine). y.0.clients) flat_map ∙ ap (λ w. me.0.clients ++ w.clients) is in
    let at : get_elem? x.0.clients (length me.0.clients) ≡ some q = ap (λ l. get_elem? l (length me.0.clients)) here ∙ at_last me.0.clients q (length me.0.clients) refl in
    let lt = place_within (the_server x.0).limits q.number q.step_limit (sits (length me.0.clients) q at).limit in omega arith

pub given_head : (m me : Mine) (e : JournalEntry) (n : ℕ) (b : Bool) (seen : List ℕ) → length seen ≡ 16 → (the_server me.0).mode ≡ Writing
    → m ≡ (head_view (after_give (the_server me.0) e) (map (with_step e) me.0.clients), []) → HeadKeeps me n b seen → HeadKeeps m n b (set seen e.client e.number)
given_head m me e n b seen long writing is kept = let P : Mine → Type 0 = λ x. HeadKeeps x n b (set seen e.client e.number) in
    subst P (sym is) (refl, kept.1, given_idle e me.0.clients kept.2, kept.3 ∙ ap is_closing writing, seen_given seen e me.0.clients long kept.4)
