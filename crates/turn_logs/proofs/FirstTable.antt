-- The opening table's words.
use Rattle.std.proofs.Common.{◌≡◌, ℕ, nat_lt, ◌%◌, true, false, inr, if◌then◌else◌, ◌+◌, ◌-◌, ◌*◌, ◌<◌, get_or, length, ap, ◌∙◌, sym, subst, arith}
use Rattle.std.proofs.lemmas.Int.{ints}
use Rattle.std.proofs.lemmas.Bool.Decides.{nat_tests}
use Rattle.std.proofs.lemmas.List.FromFn.{length-map-range_with_len, get_or-map-range_with_len}
use Rattle.qws_base.specs.Sides.{Sides, IsScreen}
use Rattle.qws_base.specs.Points.{IsPlaced}
use Rattle.region_table.specs.Tables.{origin_from}
use Rattle.region_table.specs.Opening.{opening_row_word, opening_word}
use Rattle.turn_logs.specs.Tables.{opening_words, opening_table, IsTable}
use Rattle.region_table.specs.Numbers.{first_pixel}

-- the first words are n; n is kept a variable, since so long a list must not be computed
pub table_at : (n i : ℕ) → i < n → get_or (opening_words n) i 0 ≡ opening_word i
table_at n i lt = get_or-map-range_with_len opening_word 0 n i i 0 lt (omega arith)

pub long_table : (n : ℕ) → length (opening_words n) ≡ n
long_table n = length-map-range_with_len opening_word 0 n

-- the opening table, of which only its length and its words are used

pub length-opening : length opening_table ≡ first_pixel
unfolding opening_table
length-opening = long_table first_pixel

pub at_opening : (i : ℕ) → i < first_pixel → get_or opening_table i 0 ≡ opening_word i
unfolding opening_table
at_opening i lt = table_at first_pixel i lt

pub at_row : (s k : ℕ) → s < 33 → k < 260 → get_or opening_table (2052 + 260 * s + k) 0 ≡ opening_row_word k
at_row s k few low = let i : ℕ = 2052 + 260 * s + k in let far : nat_lt i 2052 ≡ false = grind (arith, nat_tests) in let place : (i - 2052) % 260 ≡ k = omega arith in
    at_opening i (omega arith) ∙ ap (λ b. if b then 0 else opening_row_word ((i - 2052) % 260)) far ∙ ap opening_row_word place

pub first_table : (size : Sides) → IsScreen size → IsTable size 0 0 opening_table
first_table size screen = record {
  stamp_is = at_opening 1 (omega arith);
  revisions = λ s lt. let r = at_row s 1 lt (omega arith) in omega arith;
  few = λ s lt. let r = at_row s 3 lt (omega arith) in omega arith;
  inside = λ s j lt at. let r = at_row s 3 lt (omega arith) in absurd (omega arith);
  apart = λ s r j k p lt _ _ h _. let e = at_row s 3 lt (omega arith) in let z = h.0 in absurd (omega arith);
  owners = λ s lt. let r = at_row s 0 lt (omega arith) in let q : 2052 + 260 * s + 0 ≡ 2052 + 260 * s = omega arith in (let z = ap (λ i. get_or opening_table i 0) (sym q) ∙ r in omega arith);
  unowned = λ s lt _. at_row s 3 lt (omega arith);
  origins = λ s lt. subst (λ w. IsPlaced (origin_from w)) (sym (at_row s 2 lt (omega arith))) placed;
  cursor = let two = at_opening 2 (omega arith) in let three = at_opening 3 (omega arith) in let w = screen.some_w in let h = screen.some_h in record {
    in_columns = omega arith;
    in_rows = omega arith;
    shown = omega arith;
    sides = inr ((omega arith), (omega arith));
    few_columns = omega arith;
    few_rows = omega arith;
    cells = λ i lo hi. let far : nat_lt i 2052 ≡ true = grind (arith, nat_tests) in let v = at_opening i (omega arith) ∙ ap (λ b. if b then 0 else opening_row_word ((i - 2052) % 260)) far in omega arith;
  };
}
  where
    placed : IsPlaced (origin_from 2147516416)
    placed = record { low_x = omega (arith, ints); high_x = omega (arith, ints); low_y = omega (arith, ints); high_y = omega (arith, ints) }
