-- How many slots have a window.
use Rattle.std.proofs.Common.{◌≡◌, ℕ, ◌+◌, ◌<◌, ◌≤◌, zero, suc, Bool, true, false, not, ◌||◌, ◌==◌, cond, Some, List, [], ◌∷◌, length, refl, sym, ap, ◌∙◌, ⊎_elim, arith}
use Rattle.std.specs.Prelude.{◌≢◌, nat_le, is_none, All, AllPairs}
use Rattle.std.specs.List.{filter, find, range_with_len}
use Rattle.std.proofs.lemmas.Bool.{false≢true, eqb-true, ne_eqb, cases_eq}
use Rattle.std.proofs.lemmas.List.Elements.{All-head, All-tail, All-weaker}
use Rattle.std.proofs.lemmas.List.FromFn.{length-range_with_len}
use Rattle.qws_base.specs.Windows.{is_live}
use Rattle.qws_base.specs.Stacking.{slots, free_slot}
use Rattle.qws_base.specs.Arranged.{IsWindow}
use Rattle.qws_base.specs.StepLaws.{NoSlotLaw}
use Rattle.qws_base.specs.declared.windows.WindowView.{WindowView}
use Rattle.qws_base.proofs.ListLemmas.{pairs_head, pairs_tail, none_passes}

abbrev count : (ℕ → Bool) → List ℕ → ℕ
count test ks = length (filter test ks)

-- ---- a test that one of two makes, never both

either_more : (a b : Bool) (m n t : ℕ) → (a ≡ true → b ≡ false) → t ≡ m + n → let at : Bool → ℕ → ℕ = λ c k. cond c (suc k) k in at (a || b) t ≡ at a m + at b n
either_more true true m n t apart e = absurd (false≢true (sym (apart refl)))
either_more true false m n t apart e = omega (arith, e)
either_more false true m n t apart e = omega (arith, e)
either_more false false m n t apart e = e

length_cond : (c : Bool) (k : ℕ) (ks : List ℕ) → length (cond c (k ∷ ks) ks) ≡ cond c (suc (length ks)) (length ks)
length_cond true k ks = refl
length_cond false k ks = refl

count_either : (p q : ℕ → Bool) → ((k : ℕ) → p k ≡ true → q k ≡ false) → (ks : List ℕ) → count (λ k. p k || q k) ks ≡ count p ks + count q ks
count_either p q apart [] = omega arith
count_either p q apart (k ∷ ks) =
    length_cond (p k || q k) k (filter (λ j. p j || q j) ks)
    ∙ either_more (p k) (q k) (count p ks) (count q ks) (count (λ j. p j || q j) ks) (apart k) (count_either p q apart ks)
    ∙ sym (ap (λ n. n + length (cond (q k) (k ∷ filter q ks) (filter q ks))) (length_cond (p k) k (filter p ks))
    ∙ ap (λ n. cond (p k) (suc (count p ks)) (count p ks) + n) (length_cond (q k) k (filter q ks)))

-- ---- one number of a range

none_before : (s a n : ℕ) → s < a → count (λ k. s == k) (range_with_len a n) ≡ 0
none_before s a zero l = refl
none_before s a (suc n) l =
    ap (λ b. length (cond b (a ∷ filter (λ k. s == k) (range_with_len (a + 1) n)) (filter (λ k. s == k) (range_with_len (a + 1) n)))) (ne_eqb s a (λ e. omega (arith, e)))
    ∙ none_before s (a + 1) n (omega arith)

itself : (s : ℕ) → (s == s) ≡ true
itself s = grind arith

count_one : (s a n : ℕ) → a ≤ s → s < a + n → count (λ k. s == k) (range_with_len a n) ≡ 1
count_one s a zero low high = absurd (omega arith)
count_one s a (suc n) low high = ⊎_elim
    (λ (e : s ≡ a).
    ap (λ b. length (cond b (a ∷ filter (λ k. s == k) (range_with_len (a + 1) n)) (filter (λ k. s == k) (range_with_len (a + 1) n)))) (ap (λ k. s == k) (sym e) ∙ itself s)
    ∙ ap suc (none_before s (a + 1) n (omega (arith, e))))
    (λ (ne : s ≡ a → ⊥).
    ap (λ b. length (cond b (a ∷ filter (λ k. s == k) (range_with_len (a + 1) n)) (filter (λ k. s == k) (range_with_len (a + 1) n)))) (ne_eqb s a ne)
    ∙ count_one s (a + 1) n (omega (arith, ne)) (omega arith))
    (cases_eq s a)

-- ---- as many slots are live as there are windows

not_live : (slot : ℕ) (ws : List WindowView) → All (λ w. slot ≢ w.slot) ws → is_live ws slot ≡ false
not_live slot [] h = refl
not_live slot (w ∷ ws) h =
    ap (λ b. b || is_live ws slot) (ne_eqb w.slot slot (λ e. All-head (λ v. slot ≢ v.slot) w ws h (sym e)))
    ∙ not_live slot ws (All-tail (λ v. slot ≢ v.slot) w ws h)

live_count : (ws : List WindowView) (n : ℕ) → All (λ w. w.slot < n) ws → AllPairs (λ v w. v.slot ≢ w.slot) ws → count (is_live ws) (range_with_len 0 n) ≡ length ws
live_count [] n few once = ap length (none_passes (λ k. false) (range_with_len 0 n) (λ k d l. refl))
live_count (w ∷ ws) n few once =
    let below : w.slot < n = All-head (λ v. v.slot < n) w ws few in
    count_either (λ k. w.slot == k) (is_live ws) (λ k e. ap (is_live ws) (sym (eqb-true w.slot k e)) ∙ not_live w.slot ws (pairs_head (λ v u. v.slot ≢ u.slot) w ws once)) (range_with_len 0 n)
    ∙ ap (λ m. m + count (is_live ws) (range_with_len 0 n)) (count_one w.slot 0 n (omega arith) (omega arith))
    ∙ ap (λ m. 1 + m) (live_count ws n (All-tail (λ v. v.slot < n) w ws few) (pairs_tail (λ v u. v.slot ≢ u.slot) w ws once))
    ∙ plus_one (length ws)
  where
    plus_one : (m : ℕ) → 1 + m ≡ suc m
    plus_one m = omega arith

-- ---- none is free where all are live

at_most : (test : ℕ → Bool) (ks : List ℕ) → count test ks ≤ length ks
at_most test [] = omega arith
at_most test (k ∷ ks) = by (test k) (at_most test ks)
  where
    by : (c : Bool) → count test ks ≤ length ks → length (cond c (k ∷ filter test ks) (filter test ks)) ≤ suc (length ks)
    by true h = omega arith
    by false h = omega arith

none_free : (test : ℕ → Bool) (ks : List ℕ) → is_none (find (λ k. not (test k)) ks) ≡ nat_le (length ks) (count test ks)
none_free test [] = refl
none_free test (k ∷ ks) = by (test k) (none_free test ks) (at_most test ks)
  where
    up : (m n : ℕ) → nat_le m n ≡ nat_le (suc m) (suc n)
    up m n = grind arith

    over : (m n : ℕ) → n ≤ m → false ≡ nat_le (suc m) n
    over m n l = grind arith

    by : (c : Bool) → is_none (find (λ j. not (test j)) ks) ≡ nat_le (length ks) (count test ks) → count test ks ≤ length ks
        → is_none (cond (not c) (Some k) (find (λ j. not (test j)) ks)) ≡ nat_le (suc (length ks)) (length (cond c (k ∷ filter test ks) (filter test ks)))
    by true e l = e ∙ up (length ks) (count test ks)
    by false e l = over (length ks) (count test ks) l

-- no slot is free exactly where 32 windows are there
pub none_free_at : (windows : List WindowView) → All (λ w. w.slot < 32) windows → AllPairs (λ v w. v.slot ≢ w.slot) windows → is_none (free_slot windows) ≡ nat_le 32 (length windows)
unfolding slots
none_free_at windows few once =
    none_free (is_live windows) (range_with_len 0 32)
    ∙ ap (λ n. nat_le n (count (is_live windows) (range_with_len 0 32))) (length-range_with_len 0 32)
    ∙ ap (nat_le 32) (live_count windows 32 few once)

-- and more there can't be
pub at_most_32 : (windows : List WindowView) → All (λ w. w.slot < 32) windows → AllPairs (λ v w. v.slot ≢ w.slot) windows → length windows ≤ 32
at_most_32 windows few once = omega (arith, at_most (is_live windows) (range_with_len 0 32), live_count windows 32 few once, length-range_with_len 0 32)

pub no_slot_law : NoSlotLaw
no_slot_law size windows a = none_free_at windows (All-weaker IsWindow (λ w. w.slot < 32) (λ w fits. fits.slot) windows a.each) a.once
