-- The opening table with one row written.
use Rattle.std.proofs.Common.{◌≡◌, ◌≢◌, ℕ, zero, suc, ◌+◌, ◌*◌, ◌<◌, ◌≤◌, ⊎_elim, inl, inr, List, length, set, refl, sym, ap, ◌∙◌, subst, arith}
use Rattle.std.specs.Prelude.{slice_index}
use Rattle.std.proofs.lemmas.Int.{ints}
use Rattle.std.proofs.lemmas.List.{length-set, get_or-set_same, get_or-set_other}
use Rattle.qws_base.specs.Sides.{Sides}
use Rattle.qws_base.specs.Points.{IsPlaced}
use Rattle.region_table.specs.Packing.{unpacked}
use Rattle.region_table.specs.Tables.{origin_from}
use Rattle.region_table.specs.Opening.{opening_row_word}
use Rattle.turn_logs.specs.declared.items.Item.{Item}
use Rattle.turn_logs.specs.Tables.{opening_table, owner_in, revision_in, origin_in, count_in, rect_in, IsOnScreen, IsTable, SameRow, Follows}
use Rattle.fb_words.specs.Views.{ScreenView, HeadView}
use Rattle.fb_words.specs.Steps.{after_write}
use Rattle.turn_logs.proofs.FirstTable.{length-opening, at_row}
use Rattle.qws_rows_threads.specs.Tokens.{IsReadyIn, IsHead, with_row}
use Rattle.turn_logs.proofs.Stamping.{same_cursor, cursor_like}

-- ---- the words

module _ (t : List ℕ) where
  abbrev t1 : List ℕ
  t1 = set t 2052 1

  abbrev t2 : List ℕ
  t2 = set t1 2053 2

  abbrev t3 : List ℕ
  t3 = set t2 2054 2147713022

  abbrev t4 : List ℕ
  t4 = set t3 2055 1

  other : (i : ℕ) → i ≢ 2052 → i ≢ 2053 → i ≢ 2054 → i ≢ 2055 → i ≢ 2056 → slice_index t i ≡ slice_index (with_row t) i
  other i a b c d e = sym (get_or-set_other t4 2056 i 281483566645249 0 e ∙ get_or-set_other t3 2055 i 1 0 d ∙ get_or-set_other t2 2054 i 2147713022 0 c ∙ get_or-set_other t1 2053 i 2 0 b ∙ get_or-set_other t 2052 i 1 0 a)

  low : (i : ℕ) → i < 2052 → slice_index t i ≡ slice_index (with_row t) i
  low i lt = other i (λ e. absurd (omega arith)) (λ e. absurd (omega arith)) (λ e. absurd (omega arith)) (λ e. absurd (omega arith)) (λ e. absurd (omega arith))

  high : (i : ℕ) → 2057 ≤ i → slice_index t i ≡ slice_index (with_row t) i
  high i lt = other i (λ e. absurd (omega arith)) (λ e. absurd (omega arith)) (λ e. absurd (omega arith)) (λ e. absurd (omega arith)) (λ e. absurd (omega arith))

  as_long : length (with_row t) ≡ length t
  as_long = length-set t4 2056 281483566645249 ∙ length-set t3 2055 1 ∙ length-set t2 2054 2147713022 ∙ length-set t1 2053 2 ∙ length-set t 2052 1

  owner_at : 2057 ≤ length t → slice_index (with_row t) 2052 ≡ 1
  owner_at wide = get_or-set_other t4 2056 2052 281483566645249 0 (λ e. absurd (omega arith)) ∙ get_or-set_other t3 2055 2052 1 0 (λ e. absurd (omega arith))
      ∙ get_or-set_other t2 2054 2052 2147713022 0 (λ e. absurd (omega arith)) ∙ get_or-set_other t1 2053 2052 2 0 (λ e. absurd (omega arith)) ∙ get_or-set_same t 2052 1 0 (omega arith)

  revision_at : 2057 ≤ length t → slice_index (with_row t) 2053 ≡ 2
  revision_at wide = let long = length-set t 2052 1 in get_or-set_other t4 2056 2053 281483566645249 0 (λ e. absurd (omega arith)) ∙ get_or-set_other t3 2055 2053 1 0 (λ e. absurd (omega arith))
      ∙ get_or-set_other t2 2054 2053 2147713022 0 (λ e. absurd (omega arith)) ∙ get_or-set_same t1 2053 2 0 (omega arith)

  origin_at : 2057 ≤ length t → slice_index (with_row t) 2054 ≡ 2147713022
  origin_at wide = let long = length-set t1 2053 2 ∙ length-set t 2052 1 in get_or-set_other t4 2056 2054 281483566645249 0 (λ e. absurd (omega arith)) ∙ get_or-set_other t3 2055 2054 1 0 (λ e. absurd (omega arith))
      ∙ get_or-set_same t2 2054 2147713022 0 (omega arith)

  count_at : 2057 ≤ length t → slice_index (with_row t) 2055 ≡ 1
  count_at wide = let long = length-set t2 2054 2147713022 ∙ length-set t1 2053 2 ∙ length-set t 2052 1 in get_or-set_other t4 2056 2055 281483566645249 0 (λ e. absurd (omega arith)) ∙ get_or-set_same t3 2055 1 0 (omega arith)

  rect_at : 2057 ≤ length t → slice_index (with_row t) 2056 ≡ 281483566645249
  rect_at wide = let long = length-set t3 2055 1 ∙ length-set t2 2054 2147713022 ∙ length-set t1 2053 2 ∙ length-set t 2052 1 in get_or-set_same t4 2056 281483566645249 0 (omega arith)

-- ---- the table

-- long enough
wide : 2057 ≤ length opening_table
wide = let long : length opening_table ≡ 10632 = length-opening in omega arith

-- the row of another slot
far_row : (s k : ℕ) → 1 ≤ s → s < 33 → k < 260 → slice_index (with_row opening_table) (2052 + 260 * s + k) ≡ opening_row_word k
far_row s k some lt few = sym (high opening_table (2052 + 260 * s + k) (omega arith)) ∙ at_row s k lt few

far_owner : (s : ℕ) → 1 ≤ s → s < 33 → owner_in (with_row opening_table) s ≡ 0
far_owner s some lt = let same : 2052 + 260 * s + 0 ≡ 2052 + 260 * s = omega arith in ap (slice_index (with_row opening_table)) (sym same) ∙ far_row s 0 some lt (omega arith)

on_screen : IsOnScreen record { w = 4; h = 2 } (unpacked 281483566645249)
on_screen = record { some_pixels = (omega arith, omega arith); from_left = omega (arith, ints); from_top = omega (arith, ints); to_right = omega (arith, ints); to_bottom = omega (arith, ints) }

placed : IsPlaced (origin_from 2147713022)
placed = record { low_x = omega (arith, ints); high_x = omega (arith, ints); low_y = omega (arith, ints); high_y = omega (arith, ints) }

revisions : (s : ℕ) → s < 33 → 1 ≤ revision_in (with_row opening_table) s
revisions zero lt = let r = revision_at opening_table wide in omega arith
revisions (suc s) lt = let r = far_row (suc s) 1 (omega arith) lt (omega arith) in omega arith

few : (s : ℕ) → s < 33 → count_in (with_row opening_table) s ≤ 256
few zero lt = let r = count_at opening_table wide in omega arith
few (suc s) lt = let r = far_row (suc s) 3 (omega arith) lt (omega arith) in omega arith

-- the one rectangle
only_one : (s j : ℕ) → s < 33 → j < count_in (with_row opening_table) s → (s ≡ 0) × (j ≡ 0)
only_one zero j lt at = let r = count_at opening_table wide in (refl, omega arith)
only_one (suc s) j lt at = let r = far_row (suc s) 3 (omega arith) lt (omega arith) in absurd (omega arith)

inside : (s j : ℕ) → s < 33 → j < count_in (with_row opening_table) s → IsOnScreen record { w = 4; h = 2 } (unpacked (rect_in (with_row opening_table) s j))
inside s j lt at = let one = only_one s j lt at in
    subst (λ x. IsOnScreen record { w = 4; h = 2 } (unpacked (rect_in (with_row opening_table) x j))) (sym one.0)
    (subst (λ k. IsOnScreen record { w = 4; h = 2 } (unpacked (slice_index (with_row opening_table) (2056 + k)))) (sym one.1)
    (subst (λ v. IsOnScreen record { w = 4; h = 2 } (unpacked v)) (sym (rect_at opening_table wide)) on_screen))

owners : (s : ℕ) → s < 33 → owner_in (with_row opening_table) s ≤ 1
owners zero lt = let r = owner_at opening_table wide in omega arith
owners (suc s) lt = let r = far_owner (suc s) (omega arith) lt in omega arith

unowned : (s : ℕ) → s < 33 → owner_in (with_row opening_table) s ≡ 0 → count_in (with_row opening_table) s ≡ 0
unowned zero lt none = let r = owner_at opening_table wide in absurd (omega arith)
unowned (suc s) lt none = far_row (suc s) 3 (omega arith) lt (omega arith)

origins : (is : (s : ℕ) → s < 33 → IsPlaced (origin_from (origin_in opening_table s))) → (s : ℕ) → s < 33 → IsPlaced (origin_from (origin_in (with_row opening_table) s))
origins is zero lt = subst (λ v. IsPlaced (origin_from v)) (sym (origin_at opening_table wide)) placed
origins is (suc s) lt = subst (λ v. IsPlaced (origin_from v)) (high opening_table (2052 + 260 * suc s + 2) (omega arith)) (is (suc s) lt)

row_table : (admitted n : ℕ) → 1 ≤ admitted → IsTable record { w = 4; h = 2 } admitted n opening_table → IsTable record { w = 4; h = 2 } admitted n (with_row opening_table)
row_table admitted n some is = record {
  stamp_is = sym (low opening_table 1 (omega arith)) ∙ is.stamp_is;
  revisions = revisions;
  few = few;
  inside = inside;
  apart = λ s r j k p low_s low_r within a b. let x = only_one s j low_s a.0 in let y = only_one r k low_r b.0 in (x.0 ∙ sym y.0, x.1 ∙ sym y.1);
  owners = λ s lt. let o = owners s lt in omega arith;
  unowned = unowned;
  origins = origins is.origins;
  cursor = cursor_like record { w = 4; h = 2 } opening_table (with_row opening_table) (λ i two lt. low opening_table i (omega arith)) is.cursor;
}

row_follows : (before : List ℕ) → Follows before opening_table → Follows before (with_row opening_table)
row_follows before follows zero lt = let r = revision_at opening_table wide in let o = at_row 0 1 lt (omega arith) in
    ⊎_elim (λ (a : revision_in before 0 < revision_in opening_table 0). inl (omega arith)) (λ (b : SameRow before opening_table 0). let e = b.revision in inl (omega arith)) (follows 0 lt)
row_follows before follows (suc s) lt = ⊎_elim
    (λ (a : revision_in before (suc s) < revision_in opening_table (suc s)). let e = at 1 in inl (omega arith))
    (λ (b : SameRow before opening_table (suc s)). inr record {
      owner = b.owner ∙ high opening_table (2052 + 260 * suc s) (omega arith);
      revision = b.revision ∙ at 1;
      origin = b.origin ∙ at 2;
      count = b.count ∙ at 3;
      rects = λ j more. b.rects j more ∙ high opening_table (2052 + 260 * suc s + 4 + j) (omega arith);
    })
    (follows (suc s) lt)
  where
    at : (k : ℕ) → slice_index opening_table (2052 + 260 * suc s + k) ≡ slice_index (with_row opening_table) (2052 + 260 * suc s + k)
    at k = high opening_table (2052 + 260 * suc s + k) (omega arith)

pub row_ready : (size : Sides) (admitted n : ℕ) (tables : List (List ℕ)) (t : List ℕ) (log : List Item) → size ≡ record { w = 4; h = 2 } → t ≡ opening_table → 1 ≤ admitted
    → IsReadyIn size admitted n tables t log → IsReadyIn size admitted n tables (with_row t) log
row_ready size admitted n tables t log sides first some ready =
    subst (λ z. IsReadyIn z admitted n tables (with_row t) log) (sym sides) (subst (λ u. IsReadyIn record { w = 4; h = 2 } admitted n tables (with_row u) log) (sym first)
    (written (subst (λ u. IsReadyIn record { w = 4; h = 2 } admitted n tables u log) first (subst (λ z. IsReadyIn z admitted n tables t log) sides ready))))
  where
    written : IsReadyIn record { w = 4; h = 2 } admitted n tables opening_table log → IsReadyIn record { w = 4; h = 2 } admitted n tables (with_row opening_table) log
    written ok = record {
      long = ok.long;
      wide = as_long opening_table ∙ ok.wide;
      before = ok.before;
      last = ok.last;
      is_table = row_table admitted n some ok.is_table;
      follows = row_follows ok.before ok.follows;
      cursor = ok.cursor ∙ same_cursor record { w = 4; h = 2 } opening_table (with_row opening_table) (λ i two lt. low opening_table i (omega arith)) ok.is_table.cursor;
      unput = ok.unput;
    }

-- ---- its writes

module _ (screen : ScreenView) (h h1 h2 h3 h4 h5 : HeadView) where
  wrote : h1 ≡ record h { server = after_write h.server 2052 1 } → h2 ≡ record h1 { server = after_write h1.server 2053 2 } → h3 ≡ record h2 { server = after_write h2.server 2054 2147713022 }
      → h4 ≡ record h3 { server = after_write h3.server 2055 1 } → h5 ≡ record h4 { server = after_write h4.server 2056 281483566645249 } → h5 ≡ record h { server = record h.server { present = with_row h.server.present } }
  wrote a b c d e =
      let write : ℕ → ℕ → HeadView → HeadView = λ x v k. record k { server = after_write k.server x v } in
      e ∙ ap (write 2056 281483566645249) (d ∙ ap (write 2055 1) (c ∙ ap (write 2054 2147713022) (b ∙ ap (write 2053 2) a)))

  pub row_written : (row : ℕ) → row ≡ 2052 → h1 ≡ record h { server = after_write h.server row 1 } → h2 ≡ record h1 { server = after_write h1.server (row + 1) 2 }
      → h3 ≡ record h2 { server = after_write h2.server (row + 2) 2147713022 } → h4 ≡ record h3 { server = after_write h3.server (row + 3) 1 }
      → h5 ≡ record h4 { server = after_write h4.server (row + 4) 281483566645249 }
      → IsHead screen 1 h → h.server.present ≡ opening_table → 1 ≤ length h.server.limits → h.server.setting.size ≡ record { w = 4; h = 2 } → IsHead screen 1 h5
  row_written row is a b c d e ok first some sides =
      let at : (k v : ℕ) (x y : HeadView) → y ≡ record x { server = after_write x.server (row + k) v } → y ≡ record x { server = after_write x.server (2052 + k) v } = λ k v x y q. q ∙ ap (λ r. record x { server = after_write x.server (r + k) v }) is in
      let all = wrote (a ∙ ap (λ r. record h { server = after_write h.server r 1 }) is) (at 1 2 h1 h2 b) (at 2 2147713022 h2 h3 c) (at 3 1 h3 h4 d) (at 4 281483566645249 h4 h5 e) in
      subst (IsHead screen 1) (sym all) (ok.0, ok.1, ok.2, row_ready h.server.setting.size (length h.server.limits) (length h.server.closed) h.server.tables h.server.present h.server.log sides first some ok.3)
