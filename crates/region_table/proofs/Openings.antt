-- The opening table and its words.
use Rattle.std.proofs.Common.{◌≡◌, ℕ, ◌-◌, ◌/◌, ◌%◌, ◌<◌, ◌≤◌, ◌==◌, nat_lt, ◌&&◌, Bool, true, false, if◌then◌else◌, [], map, length, inr, ⊎_elim, refl, sym, ap, ◌∙◌, subst, arith, ne_eqb}
use Rattle.std.specs.Prelude.{All}
use Rattle.std.specs.List.{range_with_len}
use Rattle.std.proofs.lemmas.Int.{ints}
use Rattle.std.proofs.lemmas.Bool.{cases_lt, cases_eq}
use Rattle.std.proofs.lemmas.List.{get_or_past}
use Rattle.std.proofs.lemmas.List.FromFn.{get_or-map-range_with_len, length-map-range_with_len}
use Rattle.qws_base.specs.Sides.{Sides}
use Rattle.qws_base.specs.Points.{is_on_screen, IsPlaced}
use Rattle.qws_base.specs.Windows.{allocated_points}
use Rattle.qws_base.specs.States.{opening_revisions, opening_state, revision_of}
use Rattle.qws_base.specs.declared.points.Point.{Point}
use Rattle.region_table.specs.Tables.{no_row, row_of, head_word_of, row_word_of, word_of_table, IsSpellableRow, IsSpellable}
use Rattle.region_table.specs.Published.{IsRowOf}
use Rattle.region_table.specs.Opening.{opening_rows, opening_table, opening_row_word, opening_word, OpeningLaw}
use Rattle.region_table.proofs.Reading.{spelling_law}

pub opening_row : (slot : ℕ) → row_of opening_table slot ≡ no_row
unfolding opening_rows
opening_row slot = ⊎_elim
    (λ (low : slot < 33). get_or-map-range_with_len (λ (s : ℕ). no_row) 0 33 slot slot no_row low (omega arith))
    (λ (high : 33 ≤ slot). get_or_past (map (λ (s : ℕ). no_row) (range_with_len 0 33)) slot no_row (let whole = length-map-range_with_len (λ (s : ℕ). no_row) 0 33 in omega arith))
    (cases_lt slot 33)

pub opening_length : length opening_rows ≡ 33
unfolding opening_rows
opening_length = length-map-range_with_len (λ (s : ℕ). no_row) 0 33

-- whatever the test, it is 0
zero_either : (b : Bool) → let zero_of : Bool → ℕ = λ a. if a then 0 else 0 in zero_of b ≡ 0
zero_either true = refl
zero_either false = refl

row_words : (k : ℕ) → row_word_of no_row k ≡ opening_row_word k
row_words k = ⊎_elim
    (λ (eq : k ≡ 0). ap (row_word_of no_row) eq ∙ sym (ap opening_row_word eq))
    (λ (ne : k ≡ 0 → ⊥). ap (λ b. if b then 0 else if k == 1 then 1 else if k == 2 then 2147516416 else if k == 3 then 0 else 0) (ne_eqb k 0 ne)
    ∙ ap (λ n. if k == 1 then 1 else if k == 2 then 2147516416 else n) (zero_either (k == 3)))
    (cases_eq k 0)

head_words : (index : ℕ) → head_word_of opening_table index ≡ 0
head_words index = go (index == 1) (index == 2) (index == 3) (nat_lt ((index - 4) % 32) 0 && nat_lt ((index - 4) / 32) 0)
  where
    go : (a b c d : Bool) → let zero_of : ℕ = if a then 0 else if b then 0 else if c then 0 else if d then 0 else 0 in zero_of ≡ 0
    go true b c d = refl
    go false true c d = refl
    go false false true d = refl
    go false false false d = zero_either d

pub opening_words : (index : ℕ) → word_of_table opening_table index ≡ opening_word index
opening_words index =
    ap (λ n. if nat_lt index 2052 then n else row_word_of (row_of opening_table ((index - 2052) / 260)) ((index - 2052) % 260)) (head_words index)
    ∙ ap (λ r. if nat_lt index 2052 then 0 else row_word_of r ((index - 2052) % 260)) (opening_row ((index - 2052) / 260))
    ∙ ap (λ n. if nat_lt index 2052 then 0 else n) (row_words ((index - 2052) % 260))

origin_placed : IsPlaced no_row.origin
origin_placed = record { low_x = omega (arith, ints); high_x = omega (arith, ints); low_y = omega (arith, ints); high_y = omega (arith, ints) }

row_fits : IsSpellableRow no_row
row_fits = record { placed = origin_placed; few = omega arith; packable = λ k d below. absurd (omega arith) }

rows_fit : All IsSpellableRow opening_rows
unfolding opening_rows
rows_fit k d below =
    let whole = length-map-range_with_len (λ (s : ℕ). no_row) 0 33 in
    subst IsSpellableRow (sym (get_or-map-range_with_len (λ (s : ℕ). no_row) 0 33 k k d (omega arith) (omega arith))) row_fits

pub opening_spellable : IsSpellable opening_table
opening_spellable = record {
  cursor = record { shape = record { sides = inr (refl, refl); cells = refl }; in_columns = omega arith; in_rows = omega arith };
  whole = opening_length;
  rows = rows_fit;
}

no_points : (size : Sides) (slot : ℕ) (p : Point) → false ≡ allocated_points size [] slot p
no_points size slot p = go (is_on_screen size p)
  where
    go : (b : Bool) → false ≡ (b && false)
    go true = refl
    go false = refl

revision_one : (slot : ℕ) → slot < 32 → 1 ≡ revision_of opening_state slot
unfolding opening_revisions
revision_one slot low = sym (get_or-map-range_with_len (λ (s : ℕ). 1) 0 32 slot slot 1 low (omega arith))

row_published : (size : Sides) (slot : ℕ) → slot < 32 → IsRowOf size opening_state slot no_row
row_published size slot low = record {
  owner = refl;
  revision = revision_one slot low;
  origin = refl;
  region = record {
    canonical = record { some_pixels = λ k d below. absurd (omega arith); sorted = λ i j d lt below. absurd (omega arith); unmerged = λ y e. refl };
    points = no_points size slot;
  };
}

pub opening_law : OpeningLaw
opening_law = record {
  words = λ words opens. spelling_law words opening_table opening_spellable (record { said = λ index at said. opens index at ∙ sym (opening_words index) });
  published = λ size. record {
    stamp_is = refl;
    cursor_is = refl;
    whole = opening_length;
    rows = λ slot low. subst (IsRowOf size opening_state slot) (sym (opening_row slot)) (row_published size slot low);
    last = opening_row 32;
  };
}
