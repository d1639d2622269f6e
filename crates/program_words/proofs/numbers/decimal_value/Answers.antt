use Rattle.std.proofs.Common.{◌≡◌, ℕ, ◌+◌, ◌*◌, ◌-◌, ◌<◌, ◌≤◌, ◌^◌, true, false, List, length, take, get_or, ap, sym, ◌∙◌, arith, pow-suc, add-one}
use Rattle.std.specs.List.{list_all}
use Rattle.std.specs.Char.{digit_value}
use Rattle.std.specs.Str.Parse.{digits_value}
use Rattle.std.proofs.lemmas.Bool.{true_from_ne_false, false≢true}
use Rattle.std.proofs.lemmas.Int.Digits.{digits_value_more}
use Rattle.std.proofs.lemmas.List.Folds.{list_all_at}
use Rattle.program_words.specs.Forms.{is_digit}
use Rattle.program_words.proofs.numbers.decimal_value.Goals as goal

small_more : (n d i : ℕ) → n < 10 ^ i → d < 10 → n * 10 + d < 10 ^ (i + 1)
small_more n d i h k = rw (add-one, pow-suc) (omega arith)

digit_at : (text : List ℕ) (i : ℕ) → list_all is_digit text ≡ true → i < length text → is_digit (get_or text i 0) ≡ true
digit_at text i each below = true_from_ne_false (is_digit (get_or text i 0)) (λ not. false≢true (sym (list_all_at is_digit text i 0 below not) ∙ each))

digit_is : (c : ℕ) → is_digit c ≡ true → digit_value c ≡ c - 48
digit_is c h = grind arith

digit_small : (c : ℕ) → is_digit c ≡ true → c - 48 < 10
digit_small c h = grind arith

pub loop-c-preserved : goal.loop-c-preserved
loop-c-preserved c =
    let i : ℕ = c.loop-c.c-index in
    let digit = digit_at c.args.text.now i c.requires.digits c.loop-c-test.true in
    let is : c.from.result ≡ digit_value (get_or c.args.text.now i 0) = c.from.ensures ∙ sym (digit_is (get_or c.args.text.now i 0) digit) in
    let small : get_or c.args.text.now i 0 - 48 < 10 = digit_small (get_or c.args.text.now i 0) digit in
    record {
      value = ap (λ n. n * 10 + c.from.result) c.loop-c.invariant.value ∙ ap (λ d. digits_value 10 (take i c.args.text.now) * 10 + d) is ∙ sym (digits_value_more 10 c.args.text.now i c.loop-c-test.true);
      small = small_more c.loop-c.n c.from.result i c.loop-c.invariant.small (omega (arith, small, c.from.ensures));
    }
