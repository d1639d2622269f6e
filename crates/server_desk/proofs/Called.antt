-- What a desk keeps through a command of the client that sits.
use Rattle.std.proofs.Common.{◌≡◌, ◌≢◌, ℕ, zero, suc, ◌+◌, ◌-◌, ◌^◌, ◌<◌, ◌≤◌, ◌==◌, if◌then◌else◌, Bool, true, false, List, [], ◌∷◌, ◌++◌, length, set, sym, refl, ap, ◌∙◌, arith, length-append, length-set, get_or-set_same, get_or-set_other, eq-eqb, ne_eqb}
use Rattle.std.specs.Prelude.{slice_index, slice_set}
use mathlib.Core.Option.{some, some-injective, some-ne-none}
use mathlib.Core.Logic.{dite}
use native.Mathlib.Decide.{ℕ_discrete}
use lib.ListN.{get_elem?}
use Rattle.qws_base.specs.declared.journals.JournalEntry.{JournalEntry}
use Rattle.turn_logs.specs.declared.items.Item.{Item}
use Rattle.turn_logs.proofs.Joining.{place_within}
use Rattle.fb_words.specs.declared.known.StepCall.{StepCall}
use Rattle.fb_words.specs.declared.known.Client.{Client}
use Rattle.fb_words.specs.declared.known.Closed.{Closed}
use Rattle.fb_words.specs.declared.known.Server.{Server}
use Rattle.fb_words.specs.Rule.{step_call, steps_of}
use Rattle.fb_words.specs.Views.{HeadView, only}
use Rattle.fb_words.specs.Steps.{Sits, AllSit}
use Rattle.fb_words.specs.Desks.{journal_from, journal_of}
use Rattle.fb_words.proofs.Serving.{steps_of_more}
use Rattle.window_core.specs.CoreViews.{CoreView, CanRise}
use Rattle.server_desk.specs.Answers.{steps_made}
use Rattle.server_desk.specs.Keeping.{IsCurrent, AreCounted, IsListed}
use Rattle.server_desk.specs.Serving.{turn_with, after_turn}
use Rattle.server_desk.proofs.Counting.{sum_set}

-- ---- journals

pub journal_count : (n : ℕ) (ts : List Closed) → length (journal_from n ts) ≡ length ts
journal_count n [] = refl
journal_count n (t ∷ ts) = let r = journal_count (n + 1) ts in omega arith

pub journal_more : (n m : ℕ) (ts : List Closed) (t : Closed) → m ≡ n + length ts → journal_from n (ts ++ t ∷ []) ≡ journal_from n ts ++ record { number = m; client = t.client; command = t.command; reply = t.reply } ∷ []
journal_more n m [] t is = ap (λ k. let e : JournalEntry = record { number = k; client = t.client; command = t.command; reply = t.reply } in e ∷ []) (let z : n ≡ m = omega arith in z)
journal_more n m (u ∷ ts) t is = ap (λ l. let e : JournalEntry = record { number = n; client = u.client; command = u.command; reply = u.reply } in e ∷ l) (journal_more (n + 1) m ts t (omega arith))

-- ---- the client that sits

pub sitting_sits : (s : Server) (ps : List Client) → ps ≡ only ps ∷ [] → AllSit s ps → Sits s (only ps)
sitting_sits s ps one sit = sit 0 (only ps) (ap (λ (l : List Client). get_elem? l 0) one)

pub number_within : (s : Server) (p : Client) → Sits s p → p.number < length s.limits
number_within s p sits = place_within s.limits p.number p.step_limit sits.limit

at_index : (l : List ℕ) (i x : ℕ) → get_elem? l i ≡ some x → slice_index l i ≡ x
at_index [] i x at = absurd (some-ne-none x (sym at))
at_index (y ∷ l) zero x at = some-injective y x at
at_index (y ∷ l) (suc i) x at = at_index l i x at

pub own_count : (s : Server) (p : Client) (made left : List ℕ) → AreCounted s made left → length s.limits ≤ 16 → Sits s p → slice_index made p.number ≡ steps_made p
own_count s p made left are few sits =
    let low = number_within s p sits in are.count p.number (omega arith) ∙ ap (λ (l : List StepCall). length l) (sym sits.own_steps)

pub own_limit : (s : Server) (p : Client) (made left : List ℕ) → AreCounted s made left → Sits s p → slice_index made p.number + slice_index left p.number ≡ p.step_limit
own_limit s p made left are sits = are.limit p.number (number_within s p sits) ∙ at_index s.limits p.number p.step_limit sits.limit

steps_few : (c n : ℕ) (ts : List Closed) → length (steps_of c n ts) ≤ length ts
steps_few c n [] = omega arith
steps_few c n (t ∷ ts) = go (t.client == c) (steps_few c (n + 1) ts)
  where
    go : (b : Bool) → length (steps_of c (n + 1) ts) ≤ length ts → length (if b then step_call (n + 1) t ∷ steps_of c (n + 1) ts else steps_of c (n + 1) ts) ≤ length (t ∷ ts)
    go true rest = omega arith
    go false rest = omega arith

pub made_few : (s : Server) (journal : List JournalEntry) (connected : ℕ) (made left : List ℕ) (room capacity c : ℕ) → IsListed s journal connected made left room capacity → c < 16 → slice_index made c ≤ 2 ^ 62
made_few s journal connected made left room capacity c listed low =
    let a = listed.counts.count c low in
    let b = steps_few c 0 s.closed in
    let d = journal_count 1 s.closed in
    let e : length journal ≡ length (journal_of s.closed) = ap (λ (l : List JournalEntry). length l) listed.journal_is in
    let f = listed.bounded in
    omega arith

pub can_rise : (head : HeadView) (core : CoreView) (journal : List JournalEntry) (connected : ℕ) (made left : List ℕ) (room capacity : ℕ) → IsCurrent head core → IsListed head.server journal connected made left room capacity → CanRise core.state
can_rise head core journal connected made left room capacity current listed slot low =
    let a = current.revisions slot low in
    let d = journal_count 1 head.server.closed in
    let e : length journal ≡ length (journal_of head.server.closed) = ap (λ (l : List JournalEntry). length l) listed.journal_is in
    let f = listed.bounded in
    omega arith

pub next_number : (s : Server) (journal : List JournalEntry) (connected : ℕ) (made left : List ℕ) (room capacity : ℕ) → IsListed s journal connected made left room capacity → length journal ≡ length s.closed
next_number s journal connected made left room capacity listed = ap (λ (l : List JournalEntry). length l) listed.journal_is ∙ journal_count 1 s.closed

-- ---- a closed turn of its command

one_step : (c k n : ℕ) (t : Closed) (b : Bool) → (t.client == k) ≡ b → length (steps_of k n (t ∷ [])) ≡ (if b then 1 else 0)
one_step c k n t true is = ap (λ b. length (if b then step_call (n + 1) t ∷ [] else [])) is
one_step c k n t false is = ap (λ b. length (if b then step_call (n + 1) t ∷ [] else [])) is

pub counted_step : (s : Server) (made left : List ℕ) (e : JournalEntry) (log : List Item) (words : List ℕ) → AreCounted s made left → length s.limits ≤ 16 → e.client < length s.limits → 1 ≤ slice_index left e.client
    → AreCounted (after_turn s e log words) (slice_set made e.client (slice_index made e.client + 1)) (slice_set left e.client (slice_index left e.client - 1))
counted_step s made left e log words are few low some_left =
    let c : ℕ = e.client in
    let t : Closed = turn_with e log in
    let wide_made = are.sixteen_made in
    let wide_left = are.sixteen_left in
    let more : ℕ = slice_index made c + 1 in
    let less : ℕ = slice_index left c - 1 in
    let other_made : (k : ℕ) → k ≢ c → slice_index (set made c more) k ≡ slice_index made k = λ k ne. get_or-set_other made c k more 0 ne in
    let other_left : (k : ℕ) → k ≢ c → slice_index (set left c less) k ≡ slice_index left k = λ k ne. get_or-set_other left c k less 0 ne in
    let count_now : (k : ℕ) → length (steps_of k 0 (s.closed ++ t ∷ [])) ≡ length (steps_of k 0 s.closed) + length (steps_of k (0 + length s.closed) (t ∷ [])) =
    λ k. ap (λ (l : List StepCall). length l) (steps_of_more k 0 s.closed t) ∙ length-append (steps_of k 0 s.closed) (steps_of k (0 + length s.closed) (t ∷ [])) in
    record {
      sixteen_made = length-set made c more ∙ are.sixteen_made;
      sixteen_left = length-set left c less ∙ are.sixteen_left;
      count = λ k within. dite (ℕ_discrete k c)
          (λ (eq : k ≡ c).
          let same = get_or-set_same made c more 0 (omega arith) in
          let at_k : slice_index (set made c more) k ≡ slice_index (set made c more) c = ap (slice_index (set made c more)) eq in
          let old = are.count k within in
          let made_same : slice_index made k ≡ slice_index made c = ap (slice_index made) eq in
          let one = one_step c k (0 + length s.closed) t true (eq-eqb c k (sym eq)) in
          let now = count_now k in omega arith)
          (λ (ne : k ≢ c).
          let same = other_made k ne in
          let old = are.count k within in
          let one = one_step c k (0 + length s.closed) t false (ne_eqb c k (λ x. ne (sym x))) in
          let now = count_now k in omega arith);
      limit = λ k within. dite (ℕ_discrete k c)
          (λ (eq : k ≡ c).
          let a = get_or-set_same made c more 0 (omega arith) in
          let b = get_or-set_same left c less 0 (omega arith) in
          let at_m : slice_index (set made c more) k ≡ slice_index (set made c more) c = ap (slice_index (set made c more)) eq in
          let at_l : slice_index (set left c less) k ≡ slice_index (set left c less) c = ap (slice_index (set left c less)) eq in
          let old = are.limit c low in
          let limits_same : slice_index s.limits k ≡ slice_index s.limits c = ap (slice_index s.limits) eq in
          omega arith)
          (λ (ne : k ≢ c). let a = other_made k ne in let b = other_left k ne in let old = are.limit k within in omega arith);
      none_made = λ k within past. let ne : k ≢ c = omega arith in other_made k ne ∙ are.none_made k within past;
      none_left = λ k within past. let ne : k ≢ c = omega arith in other_left k ne ∙ are.none_left k within past;
    }

pub listed_step : (s : Server) (journal : List JournalEntry) (connected : ℕ) (made left : List ℕ) (room capacity capacity' : ℕ) (e : JournalEntry) (log : List Item) (words : List ℕ)
    → IsListed s journal connected made left room capacity → e.client < length s.limits → 1 ≤ slice_index left e.client → e.number ≡ length s.closed + 1 → capacity' ≡ capacity
    → IsListed (after_turn s e log words) (journal ++ e ∷ []) connected (slice_set made e.client (slice_index made e.client + 1)) (slice_set left e.client (slice_index left e.client - 1)) (room - 1) capacity'
listed_step s journal connected made left room capacity capacity' e log words listed low some_left number same =
    let is = listed.connected_is in
    let few = listed.few in
    let wide = listed.counts.sixteen_left in
    let sums = sum_set left e.client (slice_index left e.client - 1) (omega arith) in
    let room_is = listed.room_is in
    let long : length (journal ++ e ∷ []) ≡ length journal + 1 = length-append journal (e ∷ []) in
    let fits = listed.fits in
    let bounded = listed.bounded in
    record {
      journal_is = ap (λ (l : List JournalEntry). l ++ e ∷ []) listed.journal_is ∙ sym (journal_more 1 e.number s.closed (turn_with e log) (omega arith));
      connected_is = listed.connected_is;
      few = listed.few;
      counts = counted_step s made left e log words listed.counts (omega arith) low some_left;
      room_is = omega arith;
      fits = omega arith;
      bounded = omega arith;
    }
