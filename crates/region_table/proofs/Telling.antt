-- The table of a state tells the same as the state's windows.
use Rattle.std.proofs.Common.{◌≡◌, ◌≢◌, ℕ, zero, suc, ◌*◌, ◌/◌, ◌%◌, ◌<◌, ◌≤◌, ◌==◌, nat_lt, ◌&&◌, ◌||◌, cond, Bool, true, false, List, [], ◌∷◌, length, get_or, Option, Some, None, ⊎_elim, refl, sym, ap, ◌∙◌, arith, eq-eqb, ne_eqb}
use Rattle.std.specs.Prelude.{pos, position}
use Rattle.std.specs.List.{find, position_or_len}
use Rattle.std.specs.Option.{option_map, option_map_or}
use Rattle.std.proofs.Math.Nat.{div-lt_iff_lt-mul, mod-lt}
use Rattle.std.proofs.lemmas.Int.{ints}
use Rattle.std.proofs.lemmas.Bool.{lt-ltb, cases_lt, and_parts, eqb-true}
use Rattle.std.proofs.lemmas.Bool.Decides.{nat_tests}
use Rattle.std.proofs.lemmas.List.{get_or_past}
use Rattle.std.proofs.lemmas.List.Sums.{position_or_len_is}
use mathlib.Core.Logic.{dite}
use native.Mathlib.Decide.{ℕ_discrete}
use Rattle.qws_base.specs.Sides.{Sides}
use Rattle.qws_base.specs.Points.{spans, pixel_count, point_of, is_on_screen, origin_zero}
use Rattle.qws_base.specs.Windows.{client_of_slot, layout_of, has_slot, is_own, covers, owner_at, is_slot}
use Rattle.qws_base.specs.States.{State}
use Rattle.qws_base.specs.declared.points.Point.{Point}
use Rattle.qws_base.specs.declared.windows.WindowView.{WindowView}
use Rattle.region_table.specs.Tables.{no_row, row_of}
use Rattle.region_table.specs.Layouts.{row_holds, is_owner, layout_of_table, AreApart}
use Rattle.region_table.specs.Published.{IsTableOf, TellSame, AreSlotted, PublishedLaw}
use Rattle.region_table.specs.declared.tables.Row.{Row}
use Rattle.region_table.specs.declared.tables.Table.{Table}

-- ---- windows, one after the other

-- each window that comes later has another slot
pub record Tidy (window : WindowView) (windows : List WindowView) : Type 0 where
  pub apart : (k : ℕ) (d : WindowView) → k < length windows → window.slot ≢ (get_or windows k d).slot
  pub low : window.slot < 32
  pub rest : AreSlotted windows

tidy : (window : WindowView) (windows : List WindowView) → AreSlotted (window ∷ windows) → Tidy window windows
tidy window windows ok = record {
  apart = λ k d within. ok.once 0 (suc k) d (omega arith) (omega arith);
  low = ok.few 0 window (omega arith);
  rest = record { few = λ k d within. ok.few (suc k) d (omega arith); once = λ i j d lt within. ok.once (suc i) (suc j) d (omega arith) (omega arith) };
}

-- a window that is found has a slot below 32
found_low : (test : WindowView → Bool) (windows : List WindowView) (slot : ℕ) → AreSlotted windows → option_map (λ w. w.slot) (find test windows) ≡ Some slot → slot < 32
found_low test [] slot ok is = cc
found_low test (w ∷ ws) slot ok is = go (test w) is (λ e. found_low test ws slot (tidy w ws ok).rest e)
  where
    go : (b : Bool) → option_map (λ v. v.slot) (cond b (Some w) (find test ws)) ≡ Some slot → (option_map (λ v. v.slot) (find test ws) ≡ Some slot → slot < 32) → slot < 32
    go true e later = let same : w.slot ≡ slot = cc in let low : w.slot < 32 = (tidy w ws ok).low in omega arith
    go false e later = later e

-- no window has a slot of 32 or more
find_high : (windows : List WindowView) (slot : ℕ) → AreSlotted windows → 32 ≤ slot → find (has_slot slot) windows ≡ None
find_high [] slot ok high = refl
find_high (w ∷ ws) slot ok high =
    let low : w.slot < 32 = (tidy w ws ok).low in
    ap (λ b. cond b (Some w) (find (has_slot slot) ws)) (ne_eqb w.slot slot (λ eq. absurd (omega arith))) ∙ find_high ws slot (tidy w ws ok).rest high

none_own : (windows : List WindowView) (client slot : ℕ) → ((k : ℕ) (d : WindowView) → k < length windows → slot ≢ (get_or windows k d).slot) → is_own windows client slot ≡ false
none_own [] client slot apart = refl
none_own (w ∷ ws) client slot apart =
    ap (λ b. (b && w.owner == client) || is_own ws client slot) (ne_eqb w.slot slot (λ eq. apart 0 w (omega arith) (sym eq)))
    ∙ none_own ws client slot (λ k d within. apart (suc k) d (omega arith))

-- the first window of a slot is the only one
own_is : (windows : List WindowView) (client slot : ℕ) → AreSlotted windows → is_owner client (client_of_slot windows slot) ≡ is_own windows client slot
own_is [] client slot ok = refl
own_is (w ∷ ws) client slot ok = dite (ℕ_discrete w.slot slot)
    (λ (eq : w.slot ≡ slot).
    let here : (w.slot == slot) ≡ true = eq-eqb w.slot slot eq in
    let apart = (tidy w ws ok).apart in
    ap (λ b. is_owner client (option_map (λ v. v.owner) (cond b (Some w) (find (has_slot slot) ws)))) here
    ∙ sym (ap (λ b. (b && w.owner == client) || is_own ws client slot) here
    ∙ ap (λ b. (w.owner == client) || b) (none_own ws client slot (λ k d within e. apart k d within (eq ∙ e)))
    ∙ or_false (w.owner == client)))
    (λ (ne : w.slot ≢ slot).
    let there : (w.slot == slot) ≡ false = ne_eqb w.slot slot ne in
    ap (λ b. is_owner client (option_map (λ v. v.owner) (cond b (Some w) (find (has_slot slot) ws)))) there
    ∙ own_is ws client slot (tidy w ws ok).rest
    ∙ sym (ap (λ b. (b && w.owner == client) || is_own ws client slot) there))
  where
    or_false : (b : Bool) → (b || false) ≡ b
    or_false true = refl
    or_false false = refl

-- ---- pixels

on_screen : (size : Sides) (p : ℕ) → p < pixel_count size → is_on_screen size (point_of size.w p) ≡ true
on_screen size p within =
    let some : 0 < size.w = pos_left size.w size.h p within in
    let x : p % size.w < size.w = mod-lt p some in
    let y : p / size.w < size.h = (div-lt_iff_lt-mul some).1 (omega arith) in
    ap (λ b. b && spans (pos 0) size.h (pos (p / size.w))) (spanned size.w (p % size.w) x) ∙ spanned size.h (p / size.w) y
  where
    pos_left : (w h k : ℕ) → k < w * h → 0 < w
    pos_left zero h k below = absurd (omega arith)
    pos_left (suc w) h k below = omega arith

    spanned : (n at : ℕ) → at < n → spans (pos 0) n (pos at) ≡ true
    spanned n at below = grind (arith, ints)

-- ---- rows

-- one row at most passes, and it is the one that is found
position_at : (test : Row → Bool) (rows : List Row) (found : Option ℕ) → length rows ≡ 33 → ((s : ℕ) → found ≡ Some s → s < 33)
    → ((k : ℕ) → k < 33 → test (get_or rows k no_row) ≡ is_slot k found) → position test rows ≡ found
position_at test rows None whole low each =
    let at : position_or_len test rows ≡ 33 = position_or_len_is test rows 33 no_row (omega arith) (λ k below. each k below) (λ more. absurd (omega arith)) in
    let past : nat_lt (position_or_len test rows) (length rows) ≡ false = grind (arith, nat_tests) in
    ap (λ b. cond b (Some (position_or_len test rows)) None) past
position_at test rows (Some s) whole low each =
    let few : s < 33 = low s refl in
    let at : position_or_len test rows ≡ s = position_or_len_is test rows s no_row (omega arith)
    (λ k below. each k (omega arith) ∙ ne_eqb s k (λ eq. absurd (omega arith)))
    (λ more. each s few ∙ eq-eqb s s refl) in
    let within : nat_lt (position_or_len test rows) (length rows) ≡ true = lt-ltb (position_or_len test rows) (length rows) (omega arith) in
    ap (λ b. cond b (Some (position_or_len test rows)) None) within ∙ ap Some at

row_past : (table : Table) (slot : ℕ) → length table.rows ≡ 33 → row_of table 32 ≡ no_row → 32 ≤ slot → row_of table slot ≡ no_row
row_past table slot whole last high = dite (ℕ_discrete slot 32)
    (λ (eq : slot ≡ 32). ap (row_of table) eq ∙ last)
    (λ (ne : slot ≢ 32). get_or_past table.rows slot no_row (omega arith))

module _ (size : Sides) (state : State) (stamp : ℕ) (table : Table) where
  row_holds_is : (k p : ℕ) → p < pixel_count size → k < 33 → IsTableOf size state stamp table → AreSlotted state.windows
      → row_holds (point_of size.w p) (row_of table k) ≡ is_slot k (owner_at state.windows (point_of size.w p))
  row_holds_is k p within low is ok = dite (ℕ_discrete k 32)
      (λ (eq : k ≡ 32).
      ap (row_holds (point_of size.w p)) (row_past table k is.whole is.last (omega arith))
      ∙ sym (not_last eq (owner_at state.windows (point_of size.w p)) (λ s e. found_low (covers (point_of size.w p)) state.windows s ok e)))
      (λ (ne : k ≢ 32).
      (is.rows k (omega arith)).region.points (point_of size.w p)
      ∙ ap (λ b. b && is_slot k (owner_at state.windows (point_of size.w p))) (on_screen size p within))
    where
      not_last : k ≡ 32 → (found : Option ℕ) → ((s : ℕ) → found ≡ Some s → s < 32) → is_slot k found ≡ false
      not_last eq None few = refl
      not_last eq (Some s) few = let lt : s < 32 = few s refl in ne_eqb s k (λ same. absurd (omega arith))

  published : IsTableOf size state stamp table → AreSlotted state.windows → TellSame size (layout_of_table size table) (layout_of size state.windows)
  published is ok = record {
    owner = λ p within. position_at (row_holds (point_of size.w p)) table.rows (owner_at state.windows (point_of size.w p)) is.whole
        (λ s e. let low : s < 32 = found_low (covers (point_of size.w p)) state.windows s ok e in omega arith)
        (λ k low. row_holds_is k p within low is ok);
    origin = λ slot. ⊎_elim
        (λ (low : slot < 32). (is.rows slot low).origin)
        (λ (high : 32 ≤ slot). ap (λ r. r.origin) (row_past table slot is.whole is.last high)
        ∙ sym (ap (λ w. option_map_or (λ v. v.origin) w origin_zero) (find_high state.windows slot ok high)))
        (cases_lt slot 32);
    is_own = λ client slot. ⊎_elim
        (λ (low : slot < 32). ap (is_owner client) (is.rows slot low).owner)
        (λ (high : 32 ≤ slot). ap (λ r. is_owner client r.owner) (row_past table slot is.whole is.last high)
        ∙ sym (ap (λ w. is_owner client (option_map (λ v. v.owner) w)) (find_high state.windows slot ok high)))
        (cases_lt slot 32)
        ∙ own_is state.windows client slot ok;
  }

pub published_law : PublishedLaw
published_law size state stamp table is ok = published size state stamp table is ok

-- no point is in two rows of the table of a state
both_slots : (i j : ℕ) (found : Option ℕ) → is_slot i found ≡ true → is_slot j found ≡ true → i ≡ j
both_slots i j None a b = cc
both_slots i j (Some k) a b = sym (eqb-true k i a) ∙ eqb-true k j b

pub published_apart : (size : Sides) (state : State) (stamp : ℕ) (table : Table) → IsTableOf size state stamp table → AreApart size table
published_apart size state stamp table is = record {
  apart = λ i j p within a b.
      both_slots i j (owner_at state.windows (point_of size.w p)) (slot_of i (point_of size.w p) a) (slot_of j (point_of size.w p) b);
}
  where
    slot_of : (k : ℕ) (p : Point) → row_holds p (row_of table k) ≡ true → is_slot k (owner_at state.windows p) ≡ true
    slot_of k p has = ⊎_elim
        (λ (low : k < 32). (and_parts (is_on_screen size p) (is_slot k (owner_at state.windows p)) (sym ((is.rows k low).region.points p) ∙ has)).1)
        (λ (high : 32 ≤ k). absurd (let none : row_holds p (row_of table k) ≡ false = ap (row_holds p) (row_past table k is.whole is.last high) in cc))
        (cases_lt k 32)
