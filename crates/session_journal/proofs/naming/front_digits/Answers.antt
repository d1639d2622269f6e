use Rattle.std.proofs.Common.{◌≡◌, ℕ, List, true, sym, subst}
use Rattle.std.specs.List.{list_all}
use Rattle.session_journal.specs.Places.{is_digit}
use Rattle.session_journal.proofs.FrontLemmas.{front_some, front_none, front_all}
use Rattle.session_journal.proofs.naming.front_digits.Goals as goal

pub returns-in-Some-clause-value : goal.returns-in-Some-clause-value
returns-in-Some-clause-value c = front_some c.args.text.now c.in-Some.len (sym c.in-Some.ensures.value)

pub returns-in-None-clause-value : goal.returns-in-None-clause-value
returns-in-None-clause-value c = front_none c.args.text.now (sym c.in-None.ensures.value)

pub returns-in-Some-clause-digits : goal.returns-in-Some-clause-digits
returns-in-Some-clause-digits c = subst (λ (l : List ℕ). list_all is_digit l ≡ true) (sym (front_some c.args.text.now c.in-Some.len (sym c.in-Some.ensures.value))) (front_all c.args.text.now)

pub returns-in-None-clause-digits : goal.returns-in-None-clause-digits
returns-in-None-clause-digits c = subst (λ (l : List ℕ). list_all is_digit l ≡ true) (sym (front_none c.args.text.now (sym c.in-None.ensures.value))) (front_all c.args.text.now)
