-- Bits of glyphs side by side, and the loop that writes them.
use Rattle.std.proofs.Common.{ℕ, ◌≡◌, ◌+◌, ◌-◌, ◌<◌, ◌≤◌, ℤ, pos, negsuc, ◌<ℤ◌, min, ltb, List, [], ◌∷◌, length, drop, get_or, slice_index, Bool, true, false, cond, ◌⊎◌, inl, inr, refl, sym, ap, ◌∙◌, arith, drop-cons, add-one, suc}
use Rattle.std.proofs.lemmas.Bool.{cases_lt}
use Rattle.std.proofs.lemmas.Bool.Decides.{nat_tests}
use Rattle.std.proofs.lemmas.List.FromFn.{fill_by_all, length-map-range_with_len, get_or-map-range_with_len}
use Rattle.std.proofs.lemmas.Int.{ints}
use borrow.Rule.Slice.PartMut.{put_mid}
use Rattle.qws_base.specs.declared.inks.Ink.{Ink}
use Rattle.qws_base.specs.declared.inks.Ink.TheVariants.{Skip}
use Rattle.picture_rows.specs.Runs.{in_run, IsInked}
use Rattle.picture_rows.proofs.RunLemmas.{run_before, run_inside}
use Rattle.picture_rows.proofs.RowLemmas.{length_put, put_at}
use Rattle.glyph_masks.specs.Glyphs.{GlyphView}
use Rattle.glyph_masks.specs.Texts.{column_bit}
use Rattle.glyph_masks.specs.Columns.{text_bit, bit_ink, glyph_inks, text_inks, bit_at}

by_test : (g : GlyphView) (gs : List GlyphView) (v column : ℕ) (t : Bool) → ltb column g.width ≡ t
    → text_bit (g ∷ gs) v column ≡ (cond t (column_bit g.width (slice_index g.rows v) column) (text_bit gs v (column - g.width)))
by_test g gs v column t h = ap (λ b. cond b (column_bit g.width (slice_index g.rows v) column) (text_bit gs v (column - g.width))) h

pub bit_within : (g : GlyphView) (gs : List GlyphView) (v column : ℕ) → column < g.width → text_bit (g ∷ gs) v column ≡ column_bit g.width (slice_index g.rows v) column
bit_within g gs v column h = by_test g gs v column true (grind (arith, nat_tests))

pub bit_past : (g : GlyphView) (gs : List GlyphView) (v column : ℕ) → g.width ≤ column → text_bit (g ∷ gs) v column ≡ text_bit gs v (column - g.width)
bit_past g gs v column h = by_test g gs v column false (grind (arith, nat_tests))

-- ---- the loop: the first `at` inks are written, and what is left is the text of the rest from a column on

pub record Front (ink : Ink) (all rest : List GlyphView) (v first column at : ℕ) (out : List Ink) : Type 0 where
  pub within : at ≤ length out
  pub written : (k : ℕ) → k < at → get_or out k Skip ≡ bit_ink ink (text_bit all v (first + k))
  pub left : (k : ℕ) → at ≤ k → k < length out → text_bit all v (first + k) ≡ text_bit rest v (column + (k - at))

pub front_none : (ink : Ink) (all : List GlyphView) (v first : ℕ) (out : List Ink) → Front ink all all v first first 0 out
front_none ink all v first out = record {
  within = omega arith;
  written = λ k h. absurd (omega arith);
  left = λ k h g. ap (text_bit all v) (omega arith);
}

pub front_past : (ink : Ink) (all : List GlyphView) (g : GlyphView) (gs : List GlyphView) (v first column at : ℕ) (out : List Ink) → Front ink all (g ∷ gs) v first column at out → g.width ≤ column
    → Front ink all gs v first (column - g.width) at out
front_past ink all g gs v first column at out f h = record {
  within = f.within;
  written = f.written;
  left = λ k a b. f.left k a b ∙ bit_past g gs v (column + (k - at)) (omega arith) ∙ ap (text_bit gs v) (omega arith);
}

pub front_more : (ink : Ink) (all : List GlyphView) (g : GlyphView) (gs : List GlyphView) (v first column at end : ℕ) (out made : List Ink) → Front ink all (g ∷ gs) v first column at out → column < g.width
    → end ≡ min (length out) (at + (g.width - column)) → made ≡ glyph_inks ink g.width (slice_index g.rows v) column (end - at)
    → Front ink all gs v first 0 end (put_mid at (end - at) out made)
front_more ink all g gs v first column at end out made f h e d =
    let len : length made ≡ end - at = ap length d ∙ length-map-range_with_len (λ j. bit_ink ink (column_bit g.width (slice_index g.rows v) (column + j))) 0 (end - at) in
    let low : at ≤ end = omega (arith, f.within) in
    let same : length (put_mid at (end - at) out made) ≡ length out = length_put at end out made low (omega arith) len in
    record {
      within = omega (arith, same);
      written = λ k a. by k a (cases_lt k at);
      left = λ k a b.
          f.left k (omega arith) (omega (arith, same)) ∙ bit_past g gs v (column + (k - at)) (omega (arith, same)) ∙ ap (text_bit gs v) (omega (arith, same));
    } where
      put_read : (k : ℕ) → k < end → get_or (put_mid at (end - at) out made) k Skip ≡ cond (in_run at end k) (get_or made (k - at) Skip) (get_or out k Skip)
      put_read k a =
          put_at at end k out made Skip (omega (arith, f.within)) (omega arith)
          (ap length d ∙ length-map-range_with_len (λ j. bit_ink ink (column_bit g.width (slice_index g.rows v) (column + j))) 0 (end - at))

      by : (k : ℕ) → k < end → (k < at) ⊎ (at ≤ k) → get_or (put_mid at (end - at) out made) k Skip ≡ bit_ink ink (text_bit all v (first + k))
      by k a (inl b) = put_read k a ∙ ap (λ t. cond t (get_or made (k - at) Skip) (get_or out k Skip)) (run_before at end k b) ∙ f.written k b
      by k a (inr b) =
          put_read k a
          ∙ ap (λ t. cond t (get_or made (k - at) Skip) (get_or out k Skip)) (run_inside at end k b a)
          ∙ ap (λ l. get_or l (k - at) Skip) d
          ∙ get_or-map-range_with_len (λ j. bit_ink ink (column_bit g.width (slice_index g.rows v) (column + j))) 0 (end - at) (k - at) (k - at) Skip (omega arith) (omega arith)
          ∙ ap (bit_ink ink) (sym (bit_within g gs v (column + (k - at)) (omega arith)) ∙ sym (f.left k b (omega arith)))

pub front_full : (ink : Ink) (all rest : List GlyphView) (v first column at n : ℕ) (out : List Ink) → Front ink all rest v first column at out → at ≡ length out → length out ≡ n → out ≡ text_inks ink all v first n
front_full ink all rest v first column at n out f e l = fill_by_all (λ k. bit_ink ink (text_bit all v (first + k))) out n Skip l (λ k h. f.written k (omega arith))

-- Skip after the last glyph
pub front_end : (ink : Ink) (all : List GlyphView) (v first column at n : ℕ) (out made : List Ink) → Front ink all [] v first column at out → length out ≡ n
    → IsInked (length out) (λ k. cond (in_run at (length out) k) Skip (get_or out k Skip)) made → made ≡ text_inks ink all v first n
front_end ink all v first column at n out made f l d = fill_by_all (λ k. bit_ink ink (text_bit all v (first + k))) made n Skip (d.same_length ∙ l) (λ k h. d.at k (omega arith) ∙ by k h (cases_lt k at)) where
  by : (k : ℕ) → k < n → (k < at) ⊎ (at ≤ k) → cond (in_run at (length out) k) Skip (get_or out k Skip) ≡ bit_ink ink (text_bit all v (first + k))
  by k h (inl b) = ap (λ t. cond t Skip (get_or out k Skip)) (run_before at (length out) k b) ∙ f.written k b
  by k h (inr b) = ap (λ t. cond t Skip (get_or out k Skip)) (run_inside at (length out) k b (omega arith)) ∙ ap (bit_ink ink) (sym (f.left k b (omega arith)))

-- the first of the items that are left
pub next_rest : {X : Type 0} (xs : List X) (i : ℕ) (x : X) → i < length xs → x ≡ get_or xs i x → drop i xs ≡ x ∷ drop (i + 1) xs
next_rest xs i x h e = drop-cons xs i x h ∙ ap (λ v. v ∷ drop (suc i) xs) (sym e) ∙ ap (λ j. x ∷ drop j xs) (sym (add-one i))

-- ---- columns before the first

pub no_bit : (gs : List GlyphView) (v : ℕ) (z : ℤ) → z <ℤ pos 0 → bit_at gs v z ≡ false
no_bit gs v (pos n) h = absurd (omega (arith, ints, h))
no_bit gs v (negsuc n) h = refl

pub bit_from : (gs : List GlyphView) (v n : ℕ) (z : ℤ) → z ≡ pos n → bit_at gs v z ≡ text_bit gs v n
bit_from gs v n z e = ap (bit_at gs v) e
