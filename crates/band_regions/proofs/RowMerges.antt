-- Rows that are merged span by span: the band so far, and what is left of both.
use Rattle.band_regions.proofs.Words.{◌≡◌, ℕ, ◌+◌, ◌<◌, false, ◌||◌, ◌&&◌, List, [], ◌∷◌, ◌++◌, length, get_or, drop, refl, sym, ap, ◌∙◌, subst, arith, Bool, zero, suc, map, append_assoc, not, ℤ, pos, ◌<ℤ◌, ◌≤ℤ◌, negsuc, ◌+ℤ◌, ◌-ℤ◌, int_lt, nat_abs, All, ints, by_lt_z, clamps, append-nil, All-head, All-nil, All-tail, All-push, All-weaker, all_map, list_any-append, list_any_none, spans, right, Rect, IsSpan, IsBandRow, IsLeftOf, has_column, IsBand, IsLevel, IsAdded, IsTaken, StartsFrom, EndsLeftOf, is_between, columns_of, start_of_row, or_false, or_assoc, both_are, spans_not_before, spans_not_after, not_lt_told, lt_told, or_from, int_min, int_max, all_pairs_push, pairs_tail, pairs_nil, all_pairs_map, and_comm, All-cons, cond_both}
use Rattle.band_regions.proofs.ListLemmas.{any_map}

-- ---- rows

pub rest_row : (row : List Rect) → IsBandRow row → IsBandRow (drop 1 row)
rest_row [] h = h
rest_row (r ∷ rs) h = record { each = All-tail IsSpan r rs h.each; gapped = pairs_tail IsLeftOf r rs h.gapped }

first_span : {r : Rect} {rs : List Rect} → IsBandRow (r ∷ rs) → IsSpan r
first_span {r} h = h.each 0 r (omega arith)

-- what follows the first span starts past it, with a gap
all_past : {r : Rect} {rs : List Rect} → IsBandRow (r ∷ rs) → All (StartsFrom (right r +ℤ pos 1)) rs
all_past h k d l = let a = h.gapped 0 (suc k) d (omega arith) (omega arith) in omega (arith, ints)

-- all spans start where the row does, or to the right
all_start : (row : List Rect) (x : ℤ) → IsBandRow row → x ≤ℤ start_of_row row → All (StartsFrom x) row
all_start [] x h l k d m = absurd (omega arith)
all_start (r ∷ rs) x h l zero d m = l
all_start (r ∷ rs) x h l (suc k) d m = let a = all_past h k d (omega arith) in omega (arith, ints)

none_ahead : (row : List Rect) (c x : ℤ) → c <ℤ x → All (StartsFrom x) row → has_column row c ≡ false
none_ahead row c x l h = list_any_none (λ r. spans r.x r.w c) row (λ k d m. let s = h k d m in spans_not_before (get_or row k d).x c (get_or row k d).w (omega (arith, ints)))

-- no column out of range
none_outside : (row : List Rect) (c : ℤ) → IsBandRow row → is_between (negsuc 32767) (pos 32768) c ≡ false → has_column row c ≡ false
none_outside row c h out = list_any_none (λ r. spans r.x r.w c) row (λ k d m. let s = h.each k d m in grind (arith, ints))

pub start_place : (row : List Rect) → IsBandRow row → (negsuc 32767 ≤ℤ start_of_row row) × (start_of_row row ≤ℤ pos 32768)
start_place [] h = (omega (arith, ints), omega (arith, ints))
start_place (r ∷ rs) h = let s = first_span h in (s.low, omega (arith, ints))

next_start : (r : Rect) (rs : List Rect) → right r ≤ℤ pos 32768 → All (StartsFrom (right r +ℤ pos 1)) rs → (right r ≤ℤ start_of_row rs) × (0 < length rs → right r <ℤ start_of_row rs)
next_start r [] l h = (l, λ m. absurd (omega arith))
next_start r (s ∷ ss) l h = let a = h 0 s (omega arith) in (omega (arith, ints), λ m. omega (arith, ints))

-- ---- the span that comes first of two rows

pub taken_first : (first second : List Rect) (d : Rect) → IsBandRow first → IsBandRow second → (length first + length second ≡ 0 → ⊥) → start_of_row first ≤ℤ start_of_row second → IsTaken (get_or first 0 d) first second (drop 1 first) second
taken_first [] [] d h k some l = absurd (some refl)
taken_first [] (s ∷ ss) d h k some l = let it = first_span k in absurd (omega (arith, ints))
taken_first (r ∷ rs) second d h k some l = record {
  is_span = first_span h;
  first_row = rest_row (r ∷ rs) h;
  second_row = k;
  first_ahead = All-tail (StartsFrom r.x) r rs (all_start (r ∷ rs) r.x h (omega (arith, ints)));
  second_ahead = all_start second r.x k l;
  columns = λ c. or_assoc (spans r.x r.w c) (has_column rs c) (has_column second c);
  is_ahead = λ x a b. All-head (StartsFrom x) r rs a;
  fewer = omega arith;
}

pub taken_second : (first second : List Rect) (d : Rect) → IsBandRow first → IsBandRow second → (length first + length second ≡ 0 → ⊥) → start_of_row second ≤ℤ start_of_row first → IsTaken (get_or second 0 d) first second first (drop 1 second)
taken_second first second d h k some l = let t = taken_first second first d k h (λ e. some (omega (arith, e))) l in record {
  is_span = t.is_span;
  first_row = t.second_row;
  second_row = t.first_row;
  first_ahead = t.second_ahead;
  second_ahead = t.first_ahead;
  columns = λ c. let e = t.columns c in grind arith;
  is_ahead = λ x a b. t.is_ahead x b a;
  fewer = omega arith;
}

-- an end in range lies left of all spans where it does of the first, if there is one
pub ends_before : (row : List Rect) (d : Rect) (end : ℤ) → end ≤ℤ pos 32768 → (0 < length row → end ≤ℤ (get_or row 0 d).x) → end ≤ℤ start_of_row row
ends_before [] d end l h = l
ends_before (r ∷ rs) d end l h = h (omega arith)

-- a row's first span, and what follows past it
pub record IsParted (row : List Rect) (r : Rect) (rs : List Rect) : Type 0 where
  pub is : row ≡ r ∷ rs
  pub high : right r ≤ℤ pos 32768
  pub past : All (StartsFrom (right r +ℤ pos 1)) rs

pub parted : {row : List Rect} (d : Rect) → IsBandRow row → 0 < length row → IsParted row (get_or row 0 d) (drop 1 row)
parted {row = []} d h l = absurd (omega arith)
parted {row = r ∷ rs} d h l = record { is = refl; high = (first_span h).high; past = all_past h }

-- up to the first span's end there is no other
has_front : {row rs : List Rect} {r : Rect} → IsParted row r rs → (c : ℤ) → c ≤ℤ right r → has_column row c ≡ spans r.x r.w c
has_front {row} {rs} {r} p c l = ap (λ xs. has_column xs c) p.is ∙ ap (λ b. spans r.x r.w c || b) (none_ahead rs c (right r +ℤ pos 1) (omega (arith, ints)) p.past) ∙ or_false (spans r.x r.w c)

-- ---- a row's gaps

-- from a column up to where a row starts
abbrev pub gap : ℤ → List Rect → Rect
gap free row = record { x = free; y = pos 0; w = nat_abs (start_of_row row -ℤ free); h = 0 }

pub gap_end : (free : ℤ) (row : List Rect) → free ≤ℤ start_of_row row → right (gap free row) ≡ start_of_row row
gap_end free row l = omega (arith, ints)

abbrev pub gaps_past : List Rect → List Rect
gaps_past [] = []
gaps_past (r ∷ rs) = gap (right r) rs ∷ gaps_past rs

abbrev pub gaps : ℤ → List Rect → List Rect
gaps free row = gap free row ∷ gaps_past row

pub gaps_next : (row : List Rect) (d : Rect) → 0 < length row → gaps_past row ≡ gaps (right (get_or row 0 d)) (drop 1 row)
gaps_next [] d l = absurd (omega arith)
gaps_next (r ∷ rs) d l = refl

pub next_place : {row : List Rect} (d : Rect) → IsBandRow row → 0 < length row → right (get_or row 0 d) ≤ℤ start_of_row (drop 1 row)
next_place {row = []} d h l = absurd (omega arith)
next_place {row = r ∷ rs} d h l = (next_start r rs (first_span h).high (all_past h)).0

all_gaps_past : (row : List Rect) (x : ℤ) → IsBandRow row → x ≤ℤ start_of_row row → All (StartsFrom (x +ℤ pos 1)) (gaps_past row)
all_gaps_past [] x h l = All-nil (StartsFrom (x +ℤ pos 1))
all_gaps_past (r ∷ rs) x h l = let s = first_span h in let next = next_place r h (omega arith) in
    All-cons (StartsFrom (x +ℤ pos 1)) (gap (right r) rs) (gaps_past rs) (omega (arith, ints)) (all_gaps_past rs x (rest_row (r ∷ rs) h) (omega (arith, ints)))

pub gaps_parted : (free : ℤ) {row : List Rect} → IsBandRow row → free ≤ℤ start_of_row row → IsParted (gaps free row) (gap free row) (gaps_past row)
gaps_parted free {row} h l = let place = (start_place row h).1 in let end = gap_end free row l in record {
  is = refl;
  high = omega (arith, ints);
  past = all_gaps_past row (right (gap free row)) h (omega (arith, ints));
}

-- from the column on the gaps have those that the row hasn't
gaps_have : (free : ℤ) (row : List Rect) (c : ℤ) → IsBandRow row → free ≤ℤ start_of_row row → free ≤ℤ c → c <ℤ pos 32768 → has_column (gaps free row) c ≡ not (has_column row c)
gaps_have free [] c h l m n = grind (arith, ints)
gaps_have free (r ∷ rs) c h l m n = let s = first_span h in let next = next_place r h (omega arith) in by_lt_z c (right r)
    (λ o. let none = none_ahead rs c (right r) o (all_start rs (right r) (rest_row (r ∷ rs) h) next) in let past = none_ahead (gaps_past rs) c (right r +ℤ pos 1) (omega (arith, ints)) (all_gaps_past rs (right r) (rest_row (r ∷ rs) h) next) in grind (arith, ints))
    (λ o. let have = gaps_have (right r) rs c (rest_row (r ∷ rs) h) next o n in grind (arith, ints))

pub gaps_same : {first second : List Rect} → IsBandRow first → IsBandRow second → (c : ℤ) → (has_column first c && not (has_column second c)) ≡ (has_column first c && has_column (gaps (negsuc 32767) second) c)
gaps_same {first} {second} h k c = let outside = none_outside first c h in by_lt_z c (negsuc 32767) (λ l. let none = outside (grind (arith, ints)) in grind arith) (λ l. by_lt_z c (pos 32768)
    (λ m. ap (λ b. has_column first c && b) (sym (gaps_have (negsuc 32767) second c k (start_place second k).0 l m))) (λ m. let none = outside (grind (arith, ints)) in grind arith))

module _ (top : ℤ) (height : ℕ) (old : List Rect) (set : ℤ → Bool) where
  -- ---- the band so far: it has the columns of the set that lie left of x, and ends there with a gap

  pub record IsRowSoFar (x : ℤ) (rects : List Rect) : Type 0 where
    pub band : List Rect
    pub appended : rects ≡ old ++ band
    pub is_band : IsBand top height band
    pub apart : All (EndsLeftOf x) band
    pub has : (c : ℤ) → has_column band c ≡ (set c && int_lt c x)

  none_so_far : (x : ℤ) → ((c : ℤ) → c <ℤ x → set c ≡ false) → IsRowSoFar x old
  none_so_far x none = record {
    band = [];
    appended = sym (append-nil old);
    is_band = record { is_row = record { each = All-nil IsSpan; gapped = pairs_nil IsLeftOf }; level = All-nil (IsLevel top height) };
    apart = All-nil (EndsLeftOf x);
    has = λ c. let n = none c in grind (arith, ints);
  }

  so_far_all : {x : ℤ} {rects : List Rect} → IsRowSoFar x rects → ((c : ℤ) → x ≤ℤ c → set c ≡ false) → IsAdded top height old rects set
  so_far_all h none = record { band = h.band; appended = h.appended; is_band = h.is_band; has = λ c. let e = h.has c in let n = none c in grind (arith, ints) }

  -- the columns from one up to another more, where there are any, which are those of the set up to y
  more : {x : ℤ} {rects : List Rect} (y from to : ℤ) → IsRowSoFar x rects → x ≤ℤ y → negsuc 32767 ≤ℤ from → to ≤ℤ pos 32768 → x ≤ℤ from → to <ℤ y
      → ((c : ℤ) → x ≤ℤ c → c <ℤ y → set c ≡ is_between from to c) → IsRowSoFar y (rects ++ columns_of from to top height)
  more {x} {rects} y from to h l low high f t same = let span : Rect = record { x = from; y = top; w = nat_abs (to -ℤ from); h = height } in cond_both (int_lt from to) (span ∷ []) [] (λ ys. IsRowSoFar y (rects ++ ys))
      (λ e. let some = lt_told from to e in let it : IsSpan span = record { wide = omega (arith, ints); low = low; high = omega (arith, ints) } in record {
        band = h.band ++ span ∷ [];
        appended = ap (λ ys. ys ++ span ∷ []) h.appended ∙ append_assoc old h.band (span ∷ []);
        is_band = record {
          is_row = record { each = All-push IsSpan h.band span h.is_band.is_row.each it; gapped = all_pairs_push IsLeftOf h.band span h.is_band.is_row.gapped (λ k d i. let a = h.apart k d i in omega (arith, ints)) };
          level = All-push (IsLevel top height) h.band span h.is_band.level (refl, refl);
        };
        apart = All-push (EndsLeftOf y) h.band span (λ k d i. let a = h.apart k d i in omega (arith, ints)) (omega (arith, ints));
        has = λ c. list_any-append (λ r. spans r.x r.w c) h.band (span ∷ []) ∙ has_more c (spans from (nat_abs (to -ℤ from)) c || false) (grind (arith, ints));
      })
      (λ e. let none = not_lt_told from to e in record {
        band = h.band;
        appended = append-nil rects ∙ h.appended;
        is_band = h.is_band;
        apart = λ k d i. let a = h.apart k d i in omega (arith, ints);
        has = λ c. sym (or_false (has_column h.band c)) ∙ has_more c false (grind (arith, ints));
      })
    where
      has_more : (c : ℤ) (b : Bool) → b ≡ is_between from to c → (has_column h.band c || b) ≡ (set c && int_lt c y)
      has_more c b e = let had = h.has c in let s = same c in grind (arith, ints)

  -- ---- the columns of either row: those so far, the open span, and what is left

  pub record IsUniting (from to : ℤ) (first second rects : List Rect) : Type 0 where
    pub so_far : IsRowSoFar from rects
    pub ordered : from ≤ℤ to
    pub low : negsuc 32767 ≤ℤ from
    pub high : to ≤ℤ pos 32768
    pub rows : IsBandRow first × IsBandRow second
    pub x : ℤ
    pub ahead : from ≤ℤ x
    pub first_ahead : All (StartsFrom x) first
    pub second_ahead : All (StartsFrom x) second
    pub rest : (c : ℤ) → from ≤ℤ c → set c ≡ (is_between from to c || (has_column first c || has_column second c))

  pub uniting_none : {first second : List Rect} (from : ℤ) → IsBandRow first → IsBandRow second → from ≡ int_min (start_of_row first) (start_of_row second)
      → ((c : ℤ) → set c ≡ (has_column first c || has_column second c)) → IsUniting from from first second old
  uniting_none {first} {second} from h k e same = let a = start_place first h in let b = start_place second k in
      let first_ahead = all_start first from h (omega (arith, ints, clamps)) in let second_ahead = all_start second from k (omega (arith, ints, clamps)) in record {
        so_far = none_so_far from (λ c l. same c ∙ or_from (has_column first c) (has_column second c) (none_ahead first c from l first_ahead) (none_ahead second c from l second_ahead));
        ordered = omega (arith, ints);
        low = omega (arith, ints, clamps);
        high = omega (arith, ints, clamps);
        rows = (h, k);
        x = from;
        ahead = omega (arith, ints);
        first_ahead = first_ahead;
        second_ahead = second_ahead;
        rest = λ c l. let s = same c in grind (arith, ints);
      }

  module _ {from to : ℤ} {first second rects first_rest second_rest : List Rect} {span : Rect} (end : ℤ) (h : IsUniting from to first second rects) (t : IsTaken span first second first_rest second_rest) where
    -- a span that touches what is open
    pub uniting_on : span.x ≤ℤ to → end ≡ int_max to (right span) → IsUniting from end first_rest second_rest rects
    uniting_on l e = let ahead = t.is_ahead h.x h.first_ahead h.second_ahead in record {
      so_far = h.so_far;
      ordered = omega (arith, ints, clamps);
      low = h.low;
      high = omega (arith, ints, clamps);
      rows = (t.first_row, t.second_row);
      x = span.x;
      ahead = omega (arith, ints);
      first_ahead = t.first_ahead;
      second_ahead = t.second_ahead;
      rest = λ c m. let r = h.rest c m in let s = t.columns c in grind (arith, ints, clamps);
    }

    -- a span past what is open
    pub uniting_gap : (start : ℤ) → to <ℤ span.x → start ≡ span.x → end ≡ int_max to (right span) → IsUniting start end first_rest second_rest (rects ++ columns_of from to top height)
    uniting_gap start l is e = record {
      so_far = more start from to h.so_far (omega (arith, ints)) h.low h.high (omega (arith, ints)) (omega (arith, ints)) (λ c m n. let r = h.rest c m in let columns = t.columns c in
          let first_none = none_ahead first_rest c span.x (omega (arith, ints)) t.first_ahead in let second_none = none_ahead second_rest c span.x (omega (arith, ints)) t.second_ahead in grind (arith, ints));
      ordered = omega (arith, ints, clamps);
      low = omega (arith, ints);
      high = omega (arith, ints, clamps);
      rows = (t.first_row, t.second_row);
      x = span.x;
      ahead = omega (arith, ints);
      first_ahead = t.first_ahead;
      second_ahead = t.second_ahead;
      rest = λ c m. let r = h.rest c (omega (arith, ints)) in let columns = t.columns c in grind (arith, ints, clamps);
    }

  pub uniting_all : {from to : ℤ} {rects : List Rect} → IsUniting from to [] [] rects → IsAdded top height old (rects ++ columns_of from to top height) set
  uniting_all {from} {to} h = so_far_all
      (more (to +ℤ pos 1) from to h.so_far (omega (arith, ints)) h.low h.high (omega (arith, ints)) (omega (arith, ints)) (λ c m n. let r = h.rest c m in grind (arith, ints)))
      (λ c m. let r = h.rest c (omega (arith, ints)) in grind (arith, ints))

  -- ---- the columns of both rows: those so far, up to some x, and what is left

  pub record IsMeeting (first second rects : List Rect) : Type 0 where
    pub x : ℤ
    pub low : negsuc 32767 ≤ℤ x
    pub so_far : IsRowSoFar x rects
    pub gap : 0 < length first → 0 < length second → x ≤ℤ int_max (start_of_row first) (start_of_row second)
    pub rest : (c : ℤ) → x ≤ℤ c → set c ≡ (has_column first c && has_column second c)

  pub meeting_none : {first : List Rect} (second : List Rect) → IsBandRow first → ((c : ℤ) → set c ≡ (has_column first c && has_column second c)) → IsMeeting first second old
  meeting_none {first} second h same = record {
    x = negsuc 32767;
    low = omega (arith, ints);
    so_far = none_so_far (negsuc 32767) (λ c l. same c ∙ ap (λ b. b && has_column second c) (none_outside first c h (grind (arith, ints))));
    gap = λ m n. let s = start_place first h in omega (arith, ints, clamps);
    rest = λ c l. same c;
  }

  pub turned : {first second rects : List Rect} → IsMeeting first second rects → IsMeeting second first rects
  turned {first} {second} h = record {
    x = h.x;
    low = h.low;
    so_far = h.so_far;
    gap = λ m n. let gap = h.gap n m in omega (arith, ints, clamps);
    rest = λ c l. h.rest c l ∙ and_comm (has_column first c) (has_column second c);
  }

  -- the first span of one row is done
  pub meet_on : {first second rects rs ts : List Rect} {r t : Rect} (from to : ℤ) → IsMeeting first second rects → IsParted first r rs → IsParted second t ts
      → right r ≤ℤ right t → from ≡ int_max (start_of_row first) (start_of_row second) → to ≡ right r → IsMeeting rs second (rects ++ columns_of from to top height)
  meet_on {first} {second} {rects} {rs} {ts} {r} {t} from to h p q l f e =
      let first_start = ap start_of_row p.is in let second_start = ap start_of_row q.is in let gap = h.gap (omega (arith, ap length p.is)) (omega (arith, ap length q.is)) in let next = next_start r rs p.high p.past in record {
        x = int_max h.x (to +ℤ pos 1);
        low = omega (arith, ints, clamps);
        so_far = more (int_max h.x (to +ℤ pos 1)) from to h.so_far (omega (arith, ints, clamps)) (omega (arith, ints, clamps)) (omega (arith, ints)) (omega (arith, ints, clamps)) (omega (arith, ints, clamps))
            (λ c i j. h.rest c i ∙ both_are (has_column first c) (has_column second c) (spans r.x r.w c) (spans t.x t.w c) (has_front p c (omega (arith, ints, clamps))) (has_front q c (omega (arith, ints, clamps))) ∙ grind (arith, ints, clamps));
        gap = λ m n. let past = next.1 m in omega (arith, ints, clamps);
        rest = λ c i. h.rest c (omega (arith, ints, clamps)) ∙ ap (λ xs. has_column xs c && has_column second c) p.is ∙ ap (λ b. (b || has_column rs c) && has_column second c) (spans_not_after r.x c r.w (omega (arith, ints, clamps)));
      }

  pub meet_all : {first second rects : List Rect} → IsMeeting first second rects → ((c : ℤ) → (has_column first c && has_column second c) ≡ false) → IsAdded top height old rects set
  meet_all h none = so_far_all h.so_far (λ c l. h.rest c l ∙ none c)

-- ---- a row that is copied

abbrev pub leveled : ℤ → ℕ → Rect → Rect
leveled top height r = record { x = r.x; y = top; w = r.w; h = height }

pub copied : (top : ℤ) (height : ℕ) (old row : List Rect) → IsBandRow row → IsAdded top height old (old ++ map (leveled top height) row) (has_column row)
copied top height old row h = record {
  band = map (leveled top height) row;
  appended = refl;
  is_band = record {
    is_row = record { each = all_map IsSpan IsSpan (leveled top height) (λ r s. record { wide = s.wide; low = s.low; high = s.high }) row h.each; gapped = all_pairs_map IsLeftOf IsLeftOf (leveled top height) (λ r s l. l) row h.gapped };
    level = all_map IsSpan (IsLevel top height) (leveled top height) (λ r s. (refl, refl)) row h.each;
  };
  has = λ c. any_map (λ r. spans r.x r.w c) (λ r. spans r.x r.w c) (leveled top height) row (λ r. refl);
}
