-- A book whose stamps never fall: the paints with a stamp stand together, behind those with a lower one.
use Rattle.std.proofs.Common.{◌≡◌, ℕ, zero, suc, ◌+◌, ◌-◌, ◌<◌, ◌≤◌, ◌++◌, [], ◌∷◌, List, Bool, true, false, cond, ◌==◌, nat_lt, map, filter, take, drop, length, get_or, refl, sym, ap, ◌∙◌, arith}
use Rattle.std.specs.List.Sorted.{IsNonDecreasingBy}
use Rattle.std.proofs.lemmas.Bool.Decides.{nat_tests}
use Rattle.std.proofs.lemmas.List.{map_more, length-drop, get_or-drop}
use Rattle.qws_base.specs.Merges.{Stamped, stamped}
use Rattle.qws_base.specs.declared.journals.BookEntry.{BookEntry}
use Rattle.session_journal.specs.declared.histories.Entry.{Entry}
use Rattle.session_journal.specs.Merging.{paint_of, entries_below}

abbrev pub Rises : List BookEntry → Type 0
Rises xs = IsNonDecreasingBy (λ e. e.stamp) xs

-- every stamp is at least that
abbrev AllFrom : ℕ → List BookEntry → Type 0
AllFrom s xs = (j : ℕ) (d : BookEntry) → j < length xs → s ≤ (get_or xs j d).stamp

rises_rest : (x : BookEntry) (xs : List BookEntry) → Rises (x ∷ xs) → Rises xs
rises_rest x xs h i j d le below = h (suc i) (suc j) d (omega arith) (omega arith)

first_least : (x : BookEntry) (xs : List BookEntry) → Rises (x ∷ xs) → AllFrom x.stamp xs
first_least x xs h j d below = h 0 (suc j) d (omega arith) (omega arith)

higher : (s t : ℕ) (xs : List BookEntry) → s ≤ t → AllFrom t xs → AllFrom s xs
higher s t xs le h j d below = let far = h j d below in omega arith

below_low : (s : ℕ) (x : BookEntry) (xs : List BookEntry) → x.stamp < s → entries_below s (x ∷ xs) ≡ suc (entries_below s xs)
below_low s x xs low = let is : nat_lt x.stamp s ≡ true = grind (arith, nat_tests) in ap (λ (b : Bool). length (cond b (x ∷ filter (λ e. nat_lt e.stamp s) xs) (filter (λ e. nat_lt e.stamp s) xs))) is

below_high : (s : ℕ) (x : BookEntry) (xs : List BookEntry) → s ≤ x.stamp → entries_below s (x ∷ xs) ≡ entries_below s xs
below_high s x xs high = let is : nat_lt x.stamp s ≡ false = grind (arith, nat_tests) in ap (λ (b : Bool). length (cond b (x ∷ filter (λ e. nat_lt e.stamp s) xs) (filter (λ e. nat_lt e.stamp s) xs))) is

none_below : (s : ℕ) (xs : List BookEntry) → AllFrom s xs → entries_below s xs ≡ 0
none_below s [] h = refl
none_below s (x ∷ xs) h = below_high s x xs (h 0 x (omega arith)) ∙ none_below s xs (λ j d below. h (suc j) d (omega arith))

pub below_within : (s : ℕ) (xs : List BookEntry) → entries_below s xs ≤ length xs
below_within s [] = omega arith
below_within s (x ∷ xs) = step (nat_lt x.stamp s) (filter (λ e. nat_lt e.stamp s) xs) (below_within s xs)
  where
    step : (b : Bool) (kept : List BookEntry) → length kept ≤ length xs → length (cond b (x ∷ kept) kept) ≤ length (x ∷ xs)
    step true kept h = omega arith
    step false kept h = omega arith

-- no fewer are below a higher stamp
pub below_rises : (s : ℕ) (xs : List BookEntry) → entries_below s xs ≤ entries_below (s + 1) xs
below_rises s [] = omega arith
below_rises s (x ∷ xs) = by_first (nat_lt x.stamp s) refl (below_rises s xs)
  where
    more : (b : Bool) (kept : List BookEntry) → length kept ≤ length (cond b (x ∷ kept) kept)
    more true kept = omega arith
    more false kept = omega arith

    by_first : (b : Bool) → nat_lt x.stamp s ≡ b → entries_below s xs ≤ entries_below (s + 1) xs → entries_below s (x ∷ xs) ≤ entries_below (s + 1) (x ∷ xs)
    by_first true is h = let low : x.stamp < s = grind (arith, nat_tests) in omega (arith, below_low s x xs low, below_low (s + 1) x xs (omega arith))
    by_first false is h = let high : s ≤ x.stamp = grind (arith, nat_tests) in omega (arith, below_high s x xs high, more (nat_lt x.stamp (s + 1)) (filter (λ e. nat_lt e.stamp (s + 1)) xs))

-- nothing is below 0
pub none_below_zero : (xs : List BookEntry) → entries_below 0 xs ≡ 0
none_below_zero xs = none_below 0 xs (λ j d below. omega arith)

-- a place is below the stamp exactly where its entry is
pub place_below : (s : ℕ) (xs : List BookEntry) (i : ℕ) (d : BookEntry) → Rises xs → i < length xs → (get_or xs i d).stamp < s → i < entries_below s xs
place_below s [] i d rises within low = absurd (omega arith)
place_below s (x ∷ xs) zero d rises within low = omega (arith, below_low s x xs low)
place_below s (x ∷ xs) (suc i) d rises within low =
    let least = first_least x xs rises i d (omega arith) in
    omega (arith, below_low s x xs (omega arith), place_below s xs i d (rises_rest x xs rises) (omega arith) low)

pub place_not_below : (s : ℕ) (xs : List BookEntry) (i : ℕ) (d : BookEntry) → Rises xs → i < length xs → s ≤ (get_or xs i d).stamp → entries_below s xs ≤ i
place_not_below s [] i d rises within high = absurd (omega arith)
place_not_below s (x ∷ xs) zero d rises within high =
    omega (arith, below_high s x xs high, none_below s xs (higher s x.stamp xs high (first_least x xs rises)))
place_not_below s (x ∷ xs) (suc i) d rises within high = by_first (nat_lt x.stamp s) refl (place_not_below s xs i d (rises_rest x xs rises) (omega arith) high)
  where
    by_first : (b : Bool) → nat_lt x.stamp s ≡ b → entries_below s xs ≤ i → entries_below s (x ∷ xs) ≤ suc i
    by_first true is h = let low : x.stamp < s = grind (arith, nat_tests) in omega (arith, below_low s x xs low)
    by_first false is h = let far : s ≤ x.stamp = grind (arith, nat_tests) in omega (arith, below_high s x xs far)

-- the entries with a stamp stand from the number of those below it on
pub run_of_stamp : (s : ℕ) (xs : List BookEntry) → Rises xs → filter (λ e. e.stamp == s) xs ≡ take (entries_below (s + 1) xs - entries_below s xs) (drop (entries_below s xs) xs)
run_of_stamp s [] rises = refl
run_of_stamp s (x ∷ xs) rises = by_order (nat_lt x.stamp s) refl (x.stamp == s) refl (run_of_stamp s xs (rises_rest x xs rises))
  where
    others : List BookEntry
    others = filter (λ e. e.stamp == s) xs

    cut_at : (b c n m : ℕ) → b ≡ n → c ≡ m → take (c - b) (drop b (x ∷ xs)) ≡ take (m - n) (drop n (x ∷ xs))
    cut_at b c n m h k = ap (λ (c : ℕ). take (c - b) (drop b (x ∷ xs))) k ∙ ap (λ (b : ℕ). take (m - b) (drop b (x ∷ xs))) h

    by_order : (low : Bool) → nat_lt x.stamp s ≡ low → (same : Bool) → (x.stamp == s) ≡ same
        → others ≡ take (entries_below (s + 1) xs - entries_below s xs) (drop (entries_below s xs) xs)
        → cond (x.stamp == s) (x ∷ others) others ≡ take (entries_below (s + 1) (x ∷ xs) - entries_below s (x ∷ xs)) (drop (entries_below s (x ∷ xs)) (x ∷ xs))
    by_order true is same was rest =
        let below : x.stamp < s = grind (arith, nat_tests) in
        let other : (x.stamp == s) ≡ false = grind (arith, nat_tests) in
        let b = entries_below s xs in
        let c = entries_below (s + 1) xs in
        let less : suc c - suc b ≡ c - b = omega arith in
        ap (λ (t : Bool). cond t (x ∷ others) others) other ∙ rest
        ∙ ap (λ (n : ℕ). take n (drop b xs)) (sym less)
        ∙ sym (cut_at (entries_below s (x ∷ xs)) (entries_below (s + 1) (x ∷ xs)) (suc b) (suc c) (below_low s x xs below) (below_low (s + 1) x xs (omega arith)))
    by_order false is true was rest =
        let whole : (n : ℕ) → n - 0 ≡ n = λ n. omega arith in
        let equal : x.stamp ≡ s = grind (arith, nat_tests) in
        let b : entries_below s xs ≡ 0 = none_below s xs (higher s x.stamp xs (omega arith) (first_least x xs rises)) in
        let c = entries_below (s + 1) xs in
        ap (λ (t : Bool). cond t (x ∷ others) others) was
        ∙ ap (λ (l : List BookEntry). x ∷ l) (rest ∙ ap (λ (n : ℕ). take (c - n) (drop n xs)) b ∙ ap (λ (n : ℕ). take n xs) (whole c))
        ∙ ap (λ (n : ℕ). take n (x ∷ xs)) (sym (whole (suc c)))
        ∙ sym (cut_at (entries_below s (x ∷ xs)) (entries_below (s + 1) (x ∷ xs)) 0 (suc c) (below_high s x xs (omega arith) ∙ b) (below_low (s + 1) x xs (omega arith)))
    by_order false is false was rest =
        let above : s + 1 ≤ x.stamp = grind (arith, nat_tests) in
        let b : entries_below s xs ≡ 0 = none_below s xs (higher s x.stamp xs (omega arith) (first_least x xs rises)) in
        let c : entries_below (s + 1) xs ≡ 0 = none_below (s + 1) xs (higher (s + 1) x.stamp xs above (first_least x xs rises)) in
        ap (λ (t : Bool). cond t (x ∷ others) others) was
        ∙ rest ∙ ap (λ (n : ℕ). take (n - entries_below s xs) (drop (entries_below s xs) xs)) c ∙ ap (λ (n : ℕ). take (0 - n) (drop n xs)) b
        ∙ sym (cut_at (entries_below s (x ∷ xs)) (entries_below (s + 1) (x ∷ xs)) 0 0 (below_high s x xs (omega arith) ∙ b) (below_high (s + 1) x xs above ∙ c))

-- the paints with a stamp, as they stand in the book
pub stamped_run : (client s : ℕ) (xs : List BookEntry) → Rises xs
    → stamped s (map (paint_of client) xs) ≡ map (λ e. (paint_of client e).entry) (take (entries_below (s + 1) xs - entries_below s xs) (drop (entries_below s xs) xs))
stamped_run client s xs rises = as_paints xs ∙ ap (map (λ e. (paint_of client e).entry)) (run_of_stamp s xs rises)
  where
    paint : BookEntry → Entry
    paint e = (paint_of client e).entry

    kept : (b : Bool) (x : BookEntry) (some : List (Stamped Entry)) (more : List BookEntry) → map (λ s. s.entry) some ≡ map paint more → map (λ s. s.entry) (cond b (paint_of client x ∷ some) some) ≡ map paint (cond b (x ∷ more) more)
    kept true x some more h = ap (λ (l : List Entry). paint x ∷ l) h
    kept false x some more h = h

    as_paints : (xs : List BookEntry) → stamped s (map (paint_of client) xs) ≡ map (λ e. (paint_of client e).entry) (filter (λ e. e.stamp == s) xs)
    as_paints [] = refl
    as_paints (x ∷ xs) = kept (x.stamp == s) x _ _ (as_paints xs)

-- one more entry of a run
pub run_more : {X Y : Type 0} (f : X → Y) (xs : List X) (from at : ℕ) (d : X) → from ≤ at → at < length xs
    → map f (take (at + 1 - from) (drop from xs)) ≡ map f (take (at - from) (drop from xs)) ++ f (get_or xs at d) ∷ []
run_more {X} {Y} f xs from at d le within =
    let some = length-drop from xs in
    let next : at + 1 - from ≡ (at - from) + 1 = omega arith in
    let place : from + (at - from) ≡ at = omega arith in
    ap (λ (n : ℕ). map f (take n (drop from xs))) next
    ∙ map_more f (drop from xs) (at - from) d (omega arith)
    ∙ ap (λ (x : X). map f (take (at - from) (drop from xs)) ++ f x ∷ []) (get_or-drop from xs (at - from) d ∙ ap (λ (n : ℕ). get_or xs n d) place)
