use Rattle.std.proofs.Common.{◌≡◌, ℕ, ◌+◌, ◌*◌, ◌-◌, ◌<◌, min, true, List, length, take, get_or, ap, sym, ◌∙◌, arith}
use Rattle.std.specs.List.{list_all}
use Rattle.std.specs.Char.{digit_value}
use Rattle.std.specs.Str.Parse.{digits_value}
use Rattle.std.proofs.lemmas.Bool.{true_from_ne_false, false≢true}
use Rattle.std.proofs.lemmas.Int.Digits.{digits_value_more}
use Rattle.std.proofs.lemmas.List.Folds.{list_all_at}
use Rattle.session_journal.specs.Places.{is_digit}
use Rattle.session_journal.proofs.FrontLemmas.{bounded_more}
use Rattle.session_journal.proofs.naming.value_up_to.Goals as goal

digit_at : (text : List ℕ) (i : ℕ) → list_all is_digit text ≡ true → i < length text → is_digit (get_or text i 0) ≡ true
digit_at text i each below = true_from_ne_false (is_digit (get_or text i 0)) (λ not. false≢true (sym (list_all_at is_digit text i 0 below not) ∙ each))

digit_is : (c : ℕ) → is_digit c ≡ true → digit_value c ≡ c - 48
digit_is c h = grind arith

pub loop-c-preserved : goal.loop-c-preserved
loop-c-preserved c =
    let i : ℕ = c.loop-c.c-index in
    let digits : List ℕ = c.args.digits.now in
    let is : c.from.result ≡ digit_value (get_or digits i 0) = c.from.ensures ∙ sym (digit_is (get_or digits i 0) (digit_at digits i c.requires c.loop-c-test.true)) in
    c.min-n.ensures
    ∙ ap (λ (m : ℕ). min (c.loop-c.n * 10 + c.from.result) m) c.from-in-loop-c.ensures
    ∙ ap (λ (n : ℕ). min (n * 10 + c.from.result) c.args.most) c.loop-c.invariant
    ∙ bounded_more (digits_value 10 (take i digits)) c.from.result c.args.most
    ∙ ap (λ (d : ℕ). min (digits_value 10 (take i digits) * 10 + d) c.args.most) is
    ∙ ap (λ (n : ℕ). min n c.args.most) (sym (digits_value_more 10 digits i c.loop-c-test.true))
