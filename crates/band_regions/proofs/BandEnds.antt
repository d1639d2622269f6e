-- A list of bands that grows at its end: by a new band, or by rows of the last one.
use Rattle.band_regions.proofs.Words.{◌≡◌, ℕ, ◌+◌, ◌<◌, ◌≤◌, false, ◌||◌, List, [], ◌∷◌, ◌++◌, length, get_or, take, drop, refl, sym, ap, ◌∙◌, subst, inl, inr, arith, Bool, nat_eq, map, append_assoc, set, ℤ, pos, ◌<ℤ◌, ◌≤ℤ◌, negsuc, ◌+ℤ◌, Each, All, filter, ints, by_lt_z, take-append-drop, take_all, drop_more, take_at, drop_at, append-nil, length-take-le, length-map, length-drop, take_more, set_at, get_or_at, map_more, get_or-map, map-append, length-append, get_or_default, All-from_recursion, recursion_from_All, filter-append, list_any-append, holds, any_holds, bottom, Precedes, right, span_of, starts_at, ends_at, Point, Rect, IsInRange, IsSpan, IsLeftOf, has_column, IsBand, IsLevel, IsBanded, IsRestOfBands, IsSweptTo, IsUnmerged, taller, or_false, or_assoc, eq_test, not_eq_test, Operation, keeps, take-append-add, IsNext, IsBandRun}
use Rattle.band_regions.proofs.BandLemmas.{IsStacked, stacked, banded, stacked_parts, none_hold, columns_hold, any_parts, no_rect}
use Rattle.band_regions.proofs.ListLemmas.{Pairs, all_pairs_of, each_append, each_weaker, each_both, pairs_append, pairs_across, filter_none, filter_all, each_map, pairs_map, filter-map, nil_of_map, some_more}

-- ---- equal spans, place by place

pub same_at : (xs ys : List Rect) (i : ℕ) (d : Rect) → i < length xs → i < length ys → map span_of xs ≡ map span_of ys → span_of (get_or xs i d) ≡ span_of (get_or ys i d)
same_at xs ys i d l m e = cc (get_or-map span_of xs i d (span_of d) l, get_or-map span_of ys i d (span_of d) m)

-- ---- a part that is changed element by element

pub extended : (t : Rect → Rect) (before part : List Rect) (k i : ℕ) (now : List Rect) (r : Rect) → length before + k ≡ i → k < length part → now ≡ (before ++ map t (take k part)) ++ drop k part → r ≡ get_or now i r
    → set now i (t r) ≡ (before ++ map t (take (k + 1) part)) ++ drop (k + 1) part
extended t before part k i now r n m is it = let done : List Rect = before ++ map t (take k part) in let rest : List Rect = drop (k + 1) part in
    let count : length done ≡ i = simp (length-append, length-map) (omega (arith, length-take-le k part (omega arith))) in
    let next : done ++ t (get_or part k r) ∷ rest ≡ (before ++ map t (take (k + 1) part)) ++ rest = simp (map_more t part k r m, append_assoc) in
    cc (drop_more part k r m, get_or_at done (get_or part k r) rest r i count, set_at done (get_or part k r) rest (t r) i count)

-- ---- what is swept, by recursion

record IsGrown (y : ℤ) (before end : List Rect) : Type 0 where
  pub stack : IsStacked (before ++ end)
  pub unmerged : IsUnmerged (before ++ end)
  pub ended : Each (λ r. bottom r <ℤ y) before
  pub ending : Each (λ r. bottom r ≡ y) end

swept : {y : ℤ} (last : ℕ) {before end : List Rect} → length before ≡ last → IsGrown y before end → IsSweptTo y last (before ++ end)
swept last {before} {end} n h = record {
  is_banded = banded h.stack;
  unmerged = h.unmerged;
  within = omega (arith, length-append before end);
  ended = rw (take_at before end last n) (All-from_recursion _ _ h.ended);
  ending = rw (drop_at before end last n) (All-from_recursion _ _ h.ending);
}

stacked_append : {xs ys : List Rect} → IsStacked xs → IsStacked ys → Each (λ r. Each (Precedes r) ys) xs → IsStacked (xs ++ ys)
stacked_append h k across = record { range = each_append _ _ _ h.range k.range; pixels = each_append _ _ _ h.pixels k.pixels; sorted = pairs_append _ _ _ h.sorted k.sorted across }

new_band : {y : ℤ} {height : ℕ} {band : List Rect} → 0 < height → negsuc 32767 ≤ℤ y → (y +ℤ pos height) ≤ℤ pos 32768 → IsBand y height band → IsBanded band
new_band some low high b = record {
  in_range = λ k d l. omega (arith, ints, b.is_row.each k d l, b.level k d l);
  some_pixels = λ k d l. omega (arith, ints, b.is_row.each k d l, b.level k d l);
  sorted = λ i j d l m. inl (omega (arith, ints, b.is_row.gapped i j d l m, b.level i d (omega arith), b.level j d m));
}

-- what a test keeps of two lists, where it keeps nothing of one
kept_first : (test : Rect → Bool) (xs ys : List Rect) → Each (λ r. test r ≡ false) ys → filter test (xs ++ ys) ≡ filter test xs
kept_first test xs ys h = cc (filter-append test xs ys, filter_none test ys h, append-nil (filter test xs))

kept_second : (test : Rect → Bool) (xs ys : List Rect) → Each (λ r. test r ≡ false) xs → filter test (xs ++ ys) ≡ filter test ys
kept_second test xs ys h = cc (filter-append test xs ys, filter_none test xs h)

spans_taller : (height : ℕ) (xs : List Rect) → map span_of (map (taller height) xs) ≡ map span_of xs
spans_taller height [] = refl
spans_taller height (x ∷ xs) = ap (λ ys. span_of x ∷ ys) (spans_taller height xs)

-- which spans start at a row is as before
starts_taller : (z : ℤ) (height : ℕ) (before end : List Rect) → map span_of (filter (starts_at z) (before ++ map (taller height) end)) ≡ map span_of (filter (starts_at z) (before ++ end))
starts_taller z height before end = simp (filter-append, filter-map (starts_at z) (starts_at z) (taller height) end (λ r. refl), map-append, spans_taller)

each_pair : (P Q : Rect → Type 0) (xs : List Rect) → Each P xs → Each Q xs → Each (λ r. P r × Q r) xs
each_pair P Q = each_both P Q (λ r. P r × Q r) (λ r p q. (p, q))

module _ {y : ℤ} {before end : List Rect} (h : IsGrown y before end) where
  -- all that is there ends at the row or above
  all_ended : Each (λ r. bottom r ≤ℤ y) (before ++ end)
  all_ended = each_append _ _ _ (each_weaker _ _ (λ r k. omega (arith, ints)) _ h.ended) (each_weaker _ _ (λ r k. omega (arith, ints)) _ h.ending)

  -- and so starts above it
  none_starts : (z : ℤ) → y ≤ℤ z → Each (λ r. starts_at z r ≡ false) (before ++ end)
  none_starts z l = each_both _ _ _ (λ r p k. not_eq_test r.y z (inl (omega (arith, ints)))) _ h.stack.pixels all_ended

  -- a band is added
  unmerged_more : {height : ℕ} (band : List Rect) → 0 < height → Each (IsLevel y height) band → (map span_of end ≡ map span_of band → ⊥) → IsUnmerged ((before ++ end) ++ band)
  unmerged_more {height} band some level differs z same = by_lt_z y z
      (λ below. filter_none _ _ (each_append _ _ _ (none_starts z (omega (arith, ints))) (each_weaker _ _ (λ r l. not_eq_test r.y z (inl (omega (arith, ints)))) _ level)))
      (λ upto. let ends : filter (ends_at z) ((before ++ end) ++ band) ≡ filter (ends_at z) (before ++ end) = kept_first (ends_at z) (before ++ end) band (each_weaker _ _ (λ r l. not_eq_test (bottom r) z (inr (omega (arith, ints)))) _ level) in
      by_lt_z z y (λ above. let starts = kept_first (starts_at z) (before ++ end) band (each_weaker _ _ (λ r l. not_eq_test r.y z (inr (omega (arith, ints)))) _ level) in
      starts ∙ h.unmerged z (cc))
      (λ at. let ends_there = ends ∙ kept_second (ends_at z) before end (each_weaker _ _ (λ r l. not_eq_test (bottom r) z (inl (omega (arith, ints)))) _ h.ended) ∙ filter_all (ends_at z) end (each_weaker _ _ (λ r l. eq_test (bottom r) z (omega (arith, ints))) _ h.ending) in
      let starts_there = kept_second (starts_at z) (before ++ end) band (none_starts z at) ∙ filter_all (starts_at z) band (each_weaker _ _ (λ r l. eq_test r.y z (omega (arith, ints))) _ level) in
      absurd (differs (cc))))

  -- the last band grows
  stacked_taller : (height : ℕ) → (y +ℤ pos height) ≤ℤ pos 32768 → IsStacked (before ++ map (taller height) end)
  stacked_taller height high = let parts = stacked_parts _ _ h.stack in let known = each_pair _ _ _ parts.1.range (each_pair _ _ _ parts.1.pixels h.ending) in
      stacked_append parts.0 (record {
        range = each_map _ _ _ (λ r k. omega (arith, ints)) _ known;
        pixels = each_map _ _ _ (λ r k. omega (arith, ints)) _ known;
        sorted = pairs_map _ _ _ (λ r s k m p. inl (omega (arith, ints))) _ known parts.1.sorted;
      }) (each_both _ _ _ (λ r l m. each_map _ _ _ (λ s k. inr (omega (arith, ints))) _ (each_pair _ _ _ h.ending m)) _ h.ended (pairs_across _ _ _ h.stack.sorted))

  unmerged_taller : (height : ℕ) → 0 < height → IsUnmerged (before ++ map (taller height) end)
  unmerged_taller height some z same = let starts = starts_taller z height before end in nil_of_map span_of _ (starts ∙ ap (map span_of) (by_lt_z z y
      (λ above. let now = kept_first (ends_at z) before (map (taller height) end) (each_map _ _ _ (λ r e. not_eq_test (bottom (taller height r)) z (inr (omega (arith, ints)))) _ h.ending) in
      let was = kept_first (ends_at z) before end (each_weaker _ _ (λ r e. not_eq_test (bottom r) z (inr (omega (arith, ints)))) _ h.ending) in h.unmerged z (cc))
      (λ at. filter_none _ _ (none_starts z at))))

-- ---- what the last band holds when it has grown

or_or : (a b c d : Bool) → ((a || b) || (c || d)) ≡ ((a || c) || (b || d))
or_or a b c d = grind arith

holds_taller : (y : ℤ) (height : ℕ) (r s : Rect) (p : Point) → bottom r ≡ y → IsLevel y height s → r.x ≡ s.x → r.w ≡ s.w → holds (taller height r) p ≡ (holds r p || holds s p)
holds_taller y height r s p e l f g = grind (arith, ints)

any_taller : (y : ℤ) (height : ℕ) (end band : List Rect) (p : Point) → map span_of end ≡ map span_of band → Each (λ r. bottom r ≡ y) end → Each (IsLevel y height) band → any_holds (map (taller height) end) p ≡ (any_holds end p || any_holds band p)
any_taller y height [] [] p e h k = refl
any_taller y height [] (s ∷ ss) p e h k = cc
any_taller y height (r ∷ rs) [] p e h k = cc
any_taller y height (r ∷ rs) (s ∷ ss) p e h k = let first : span_of r ≡ span_of s = cc in
    cc (holds_taller y height r s p h.0 k.0 (ap (λ t. t.0) first) (ap (λ t. t.1) first), any_taller y height rs ss p (cc) h.1 k.1, or_or (holds r p) (holds s p) (any_holds rs p) (any_holds ss p))

-- ---- how a list that is swept goes on

module _ {y : ℤ} {last : ℕ} {rects : List Rect} (h : IsSweptTo y last rects) where
  grown : IsGrown y (take last rects) (drop last rects)
  grown = record {
    stack = rw take-append-drop (stacked h.is_banded);
    unmerged = subst IsUnmerged (sym (take-append-drop last rects)) h.unmerged;
    ended = recursion_from_All _ _ h.ended;
    ending = recursion_from_All _ _ h.ending;
  }

  swept_ended : All (λ r. bottom r ≤ℤ y) rects
  swept_ended = All-from_recursion _ _ (rw take-append-drop at (all_ended grown))

  none_under : (p : Point) → y ≤ℤ p.y → any_holds rects p ≡ false
  none_under p l = none_hold _ p (λ k d m. inr (omega (arith, ints, swept_ended k d m)))

  -- nothing is added
  pub swept_on : {next : ℤ} → y <ℤ next → IsSweptTo next (length rects) rects
  swept_on l = record {
    is_banded = h.is_banded;
    unmerged = h.unmerged;
    within = omega arith;
    ended = rw (take_all (length rects) rects (omega arith)) (λ k d m. omega (arith, ints, swept_ended k d m));
    ending = λ k d m. absurd (omega (arith, length-drop (length rects) rects));
  }

  -- a band is added
  pub swept_more : {height : ℕ} {band : List Rect} → 0 < height → negsuc 32767 ≤ℤ y → (y +ℤ pos height) ≤ℤ pos 32768 → IsBand y height band → (map span_of (drop last rects) ≡ map span_of band → ⊥) → IsSweptTo (y +ℤ pos height) (length rects) (rects ++ band)
  swept_more {height} {band} some low high b differs = let level : Each (IsLevel y height) band = recursion_from_All _ _ b.level in let all : Each (λ r. bottom r ≤ℤ y) rects = recursion_from_All _ _ swept_ended in
      swept _ refl (record {
        stack = stacked_append (stacked h.is_banded) (stacked (new_band some low high b)) (each_weaker _ _ (λ r l. each_weaker _ _ (λ s m. inr (omega (arith, ints))) _ level) _ all);
        unmerged = subst (λ xs. IsUnmerged (xs ++ band)) (take-append-drop last rects) (unmerged_more grown _ some level differs);
        ended = each_weaker _ _ (λ r l. omega (arith, ints)) _ all;
        ending = each_weaker _ _ (λ r l. omega (arith, ints)) _ level;
      })

  -- the last band grows
  pub swept_taller : {height : ℕ} → 0 < height → (y +ℤ pos height) ≤ℤ pos 32768 → IsSweptTo (y +ℤ pos height) last (take last rects ++ map (taller height) (drop last rects))
  swept_taller some high = swept last (length-take-le last rects h.within) (record {
    stack = stacked_taller grown _ high;
    unmerged = unmerged_taller grown _ some;
    ended = each_weaker _ _ (λ r l. omega (arith, ints)) _ (grown.ended);
    ending = each_map _ _ _ (λ r e. omega (arith, ints)) _ (grown.ending);
  })

  pub points_taller : {height : ℕ} {band : List Rect} (p : Point) → IsBand y height band → map span_of (drop last rects) ≡ map span_of band → any_holds (take last rects ++ map (taller height) (drop last rects)) p ≡ (any_holds rects p || any_holds band p)
  points_taller {height} {band} p b e = cc (
    list_any-append (λ r. holds r p) (take last rects) (map (taller height) (drop last rects)),
    any_taller y height (drop last rects) band p e (grown.ending) (recursion_from_All _ _ b.level),
    or_assoc (any_holds (take last rects) p) (any_holds (drop last rects) p) (any_holds band p),
    any_parts last rects p,
  )

-- ---- the sweep over two lists of bands

both_false : (operation : Operation) (a b : Bool) → a ≡ false → b ≡ false → keeps operation a b ≡ false
both_false operation a b e f = grind arith

-- the rows above y are done: what is left of both lists, and the list so far
pub record IsSwept (operation : Operation) (first second : List Rect) (y : ℤ) (last : ℕ) (first_rest second_rest rects : List Rect) : Type 0 where
  pub from_start : negsuc 32767 ≤ℤ y
  pub up_to_end : y ≤ℤ pos 32768
  pub first_left : IsRestOfBands y first first_rest
  pub second_left : IsRestOfBands y second second_rest
  pub swept : IsSweptTo y last rects
  pub points : (p : Point) → p.y <ℤ y → any_holds rects p ≡ keeps operation (any_holds first p) (any_holds second p)

none_high : {rects : List Rect} (p : Point) → IsBanded rects → p.y <ℤ negsuc 32767 → any_holds rects p ≡ false
none_high p h l = none_hold _ p (λ k d m. inl (omega (arith, ints, h.in_range k d m)))

all_bands : {rects : List Rect} → IsBanded rects → IsRestOfBands (negsuc 32767) rects rects
all_bands h = record { is_banded = h; ahead = λ k d m. omega (arith, ints, h.in_range k d m, h.some_pixels k d m); same = λ p l. refl }

pub swept_none : {operation : Operation} {first second : List Rect} → IsBanded first → IsBanded second → IsSwept operation first second (negsuc 32767) 0 first second []
swept_none {operation} h k = record {
  from_start = omega (arith, ints);
  up_to_end = omega (arith, ints);
  first_left = all_bands h;
  second_left = all_bands k;
  swept = swept 0 {before = []} {end = []} refl (record { stack = record { range = tt; pixels = tt; sorted = tt }; unmerged = λ y e. refl; ended = tt; ending = tt });
  points = λ p l. sym (both_false operation _ _ (none_high p h l) (none_high p k l));
}

rest_on : {y next : ℤ} {rects rest left : List Rect} → y ≤ℤ next → IsRestOfBands y rects rest → IsRestOfBands next rest left → IsRestOfBands next rects left
rest_on l h k = record { is_banded = k.is_banded; ahead = k.ahead; same = λ p m. k.same p m ∙ h.same p (omega (arith, ints)) }

module _ {operation : Operation} {first second : List Rect} {y : ℤ} {last : ℕ} {f s rects : List Rect} (h : IsSwept operation first second y last f s rects) where
  pub swept_step : {next : ℤ} {height last' : ℕ} {band more : List Rect} (row row' : List Rect) {f' s' : List Rect} → y <ℤ next → next ≤ℤ pos 32768 → (y +ℤ pos height) ≡ next
      → ((p : Point) → y ≤ℤ p.y → p.y <ℤ next → has_column row p.x ≡ any_holds f p) → ((p : Point) → y ≤ℤ p.y → p.y <ℤ next → has_column row' p.x ≡ any_holds s p)
      → IsBand y height band → ((c : ℤ) → has_column band c ≡ keeps operation (has_column row c) (has_column row' c))
      → IsSweptTo (y +ℤ pos height) last' more → ((p : Point) → any_holds more p ≡ (any_holds rects p || any_holds band p)) → IsRestOfBands next f f' → IsRestOfBands next s s' → IsSwept operation first second next last' f' s' more
  swept_step {band = band} row row' l m e u v b columns swept points k j = record {
    from_start = omega (arith, ints);
    up_to_end = m;
    first_left = rest_on (omega (arith, ints)) h.first_left k;
    second_left = rest_on (omega (arith, ints)) h.second_left j;
    swept = rw e at swept;
    points = λ p below. by_lt_z p.y y (λ before. cc (points p, none_hold band p (λ k d i. inl (omega (arith, ints, b.level k d i))), or_false (any_holds rects p), h.points p before))
        (λ at. cc (points p, none_under h.swept p at, columns_hold band p (λ k d i. omega (arith, ints, b.level k d i)), columns p.x, u p at below, h.first_left.same p at, v p at below, h.second_left.same p at));
  }

  pub swept_all : f ≡ [] → s ≡ [] → (p : Point) → any_holds rects p ≡ keeps operation (any_holds first p) (any_holds second p)
  swept_all e g p = by_lt_z p.y y (λ before. h.points p before) (λ at. none_under h.swept p at ∙ sym (both_false operation _ _ (rw e at (sym (h.first_left.same p at))) (rw g at (sym (h.second_left.same p at)))))

-- where something is left of a list, the sweep is not at its end
pub more_left : {y : ℤ} {rects : List Rect} (rest : List Rect) → IsRestOfBands y rects rest → false ≡ nat_eq (length rest) 0 → y <ℤ pos 32768
more_left rest h e = let l = some_more rest e in omega (arith, ints, h.ahead 0 no_rect l, h.is_banded.in_range 0 no_rect l)

-- ---- the front of a list that is canonical as it stands

-- the first rectangles are a band that ends at a column or before
pub record IsRunTo (n : ℕ) (end : ℤ) (rects : List Rect) : Type 0 where
  pub each : Each IsSpan (take n rects)
  pub gaps : Pairs IsLeftOf (take n rects)
  pub level : (d : Rect) → Each (IsLevel (get_or rects 0 d).y (get_or rects 0 d).h) (take n rects)
  pub high : (d : Rect) → 0 < n → 0 < (get_or rects 0 d).h
  pub ends : Each (λ r. right r ≤ℤ end) (take n rects)

pub span_of_next : (first r : Rect) (column : ℤ) → IsInRange r → IsNext first column r → IsSpan r
span_of_next first r column h k = record { wide = k.wide; low = h.low_x; high = h.high_right }

pub run_more : (n : ℕ) (end next : ℤ) (rects : List Rect) (d : Rect) → n < length rects → IsRunTo n end rects → IsInRange (get_or rects n d) → IsNext (get_or rects 0 d) end (get_or rects n d) → next ≡ right (get_or rects n d) → IsRunTo (n + 1) next rects
run_more n end next rects d l h range k e = let more = take_more rects n d l in record {
  each = rw more (each_append _ _ _ h.each (omega (arith, ints), tt));
  gaps = rw more (pairs_append _ _ _ h.gaps (tt, tt) (each_weaker _ _ (λ s m. (omega (arith, ints), tt)) _ h.ends));
  level = λ a. rw more (each_append _ _ _ (h.level a) (subst (λ f. IsLevel f.y f.h (get_or rects n d)) (get_or_default rects 0 d a (omega arith)) k.level, tt));
  high = λ a m. omega (arith, k.high, k.level.1, ap (λ f. f.h) (get_or_default rects 0 d a (omega arith)));
  ends = rw more (each_append _ _ _ (each_weaker _ _ (λ s m. omega (arith, ints)) _ h.ends) (omega (arith, ints), tt));
}

pub run_of : (n : ℕ) (end : ℤ) (rects : List Rect) → n ≤ length rects → IsRunTo n end rects → IsBandRun n rects
run_of n end rects l h = record {
  within = l;
  high = h.high;
  is_band = λ d. record { is_row = record { each = All-from_recursion _ _ h.each; gapped = all_pairs_of _ _ h.gaps }; level = All-from_recursion _ _ (h.level d) };
}

-- ---- bands

take_on : (n m : ℕ) (rects : List Rect) → n ≤ length rects → take (n + m) rects ≡ take n rects ++ take m (drop n rects)
take_on n m rects l = rw (length-take-le n rects l, take-append-drop n rects) at (take-append-add (take n rects) (drop n rects) m)

-- a band that goes on with what is canonical so far: it starts below, or where that ends with other spans
swept_next : {y top : ℤ} {height last : ℕ} {rects band : List Rect} → IsSweptTo y last rects → 0 < height → negsuc 32767 ≤ℤ top → (top +ℤ pos height) ≤ℤ pos 32768 → IsBand top height band → 0 < length band
    → y ≤ℤ top → (top ≡ y → map span_of (drop last rects) ≡ map span_of band → ⊥) → IsSweptTo (top +ℤ pos height) (length rects) (rects ++ band)
swept_next {y} {top} h some low high b l below differs = by_lt_z y top
    (λ m. swept_more (swept_on h m) some low high b (λ e. omega (arith, simp (length-map, length-drop) at (ap length e))))
    (λ m. let same : top ≡ y = omega (arith, ints) in swept_more (rw (← same) at h) some low high b (differs same))

pub swept_run : (y : ℤ) (last end n : ℕ) (rects : List Rect) (d : Rect) → end ≤ length rects → 0 < n → IsSweptTo y last (take end rects) → IsInRange (get_or (drop end rects) 0 d) → IsBandRun n (drop end rects)
    → y ≤ℤ (get_or (drop end rects) 0 d).y → ((get_or (drop end rects) 0 d).y ≡ y → map span_of (drop last (take end rects)) ≡ map span_of (take n (drop end rects)) → ⊥) → IsSweptTo (bottom (get_or (drop end rects) 0 d)) end (take (end + n) rects)
swept_run y last end n rects d l some h range k below differs = rw (take_on end n rects l)
    (rw (length-take-le end rects l) at (swept_next h (k.high d some) range.low_y range.high_bottom (k.is_band d) (omega (arith, length-take-le n (drop end rects) k.within)) below differs))
