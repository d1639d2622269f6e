-- The load of the words is within its ranges.
use Rattle.std.proofs.Common.{◌≡◌, ◌≤◌, ℕ, Bool, true, false, cond, List, [], ◌∷◌, length, nat_le, Option, None, Some, refl, arith, subst}
use Rattle.std.specs.Prelude.{◌&&◌, ◌==◌, ⊤, IfSome, codes, map}
use Rattle.std.specs.List.{list_all, find}
use Rattle.std.specs.Option.{option_map, option_and_then}
use Rattle.std.specs.Str.{bytes_eq}
use Rattle.std.specs.Str.Parse.{digits_value}
use Rattle.session_maker.specs.Laws.{IsLoad}
use Rattle.program_words.specs.declared.forms.Load.{Load}
use Rattle.program_words.specs.declared.forms.Form.{Form}
use Rattle.program_words.specs.declared.forms.Form.TheVariants.{Run, Check, Make, Trial}
use Rattle.program_words.specs.Forms.{GivenOption, is_digit, number_within, value_within, load_by, three_given, load_of, alone, form_by, form_of}
use borrow.Author.Tests.{leb-true}

-- within both ends
pub record IsBetween (low high n : ℕ) : Type 0 where
  pub low_is : low ≤ n
  pub high_is : n ≤ high

both_true : (a b : Bool) → (a && b) ≡ true → (a ≡ true) × (b ≡ true)
both_true true b h = (refl, h)
both_true false b h = absurd (cc)

ends_told : (a b c : Bool) (low high n : ℕ) → (a && ((nat_le low n) && (nat_le n high))) ≡ c → IfSome (cond c (Some n) None) (IsBetween low high)
ends_told a b false low high n is = tt
ends_told a b true low high n is =
    let ends = both_true (nat_le low n) (nat_le n high) (both_true a (nat_le low n && nat_le n high) is).1 in
    record { low_is = leb-true low n ends.0; high_is = leb-true n high ends.1 }

number_told : (low high : ℕ) (text : List ℕ) → IfSome (number_within low high text) (IsBetween low high)
number_told low high text = ends_told ((nat_le 1 (length text) && nat_le (length text) 10) && list_all is_digit text) true _ low high (digits_value 10 text) refl

value_at : (low high : ℕ) (o : Option GivenOption) → IfSome (option_and_then (λ g. number_within low high g.value) o) (IsBetween low high)
value_at low high None = tt
value_at low high (Some g) = number_told low high g.value

value_told : (options : List GivenOption) (name : List ℕ) (low high : ℕ) → IfSome (value_within options name low high) (IsBetween low high)
value_told options name low high = value_at low high (find (λ g. bytes_eq g.name name) options)

abbrev IsGood : Load → Type 0
IsGood load = IsLoad load.clients load.calls

parts_told : (seed clients calls : Option ℕ) → IfSome clients (IsBetween 1 16) → IfSome calls (IsBetween 1 4096)
    → IfSome (option_and_then (λ s. option_and_then (λ n. option_map (λ k. record { seed = s; clients = n; calls = k }) calls) clients) seed) IsGood
parts_told None clients calls few most = tt
parts_told (Some s) None calls few most = tt
parts_told (Some s) (Some n) None few most = tt
parts_told (Some s) (Some n) (Some k) few most = record { some_clients = few.low_is; most_clients = few.high_is; some_calls = most.low_is; most_calls = most.high_is }

by_told : (options : List GivenOption) → IfSome (load_by options) IsGood
by_told options =
    parts_told (value_within options (codes "--seed") 0 4294967295) (value_within options (codes "--clients") 1 16) (value_within options (codes "--calls") 1 4096)
    (value_told options (codes "--clients") 1 16) (value_told options (codes "--calls") 1 4096)

three_told : (o : Option (List GivenOption)) → IfSome (option_and_then load_by o) IsGood
three_told None = tt
three_told (Some options) = by_told options

-- the load of a form
abbrev pub IsLoaded : Option Form → Type 0
IsLoaded None = ⊤
IsLoaded (Some Run) = ⊤
IsLoaded (Some Check) = ⊤
IsLoaded (Some (Make load)) = IsGood load
IsLoaded (Some (Trial load)) = IsGood load

either : (b : Bool) (one two : Option Form) → IsLoaded one → IsLoaded two → IsLoaded (cond b one two)
either true one two is other = is
either false one two is other = other

made : (o : Option Load) → IfSome o IsGood → IsLoaded (option_map (λ load. Make load) o)
made None good = tt
made (Some load) good = good

tried : (o : Option Load) → IfSome o IsGood → IsLoaded (option_map (λ load. Trial load) o)
tried None good = tt
tried (Some load) good = good

pub form_loaded : (words : List (List ℕ)) → IsLoaded (form_of words)
form_loaded [] = tt
form_loaded (word ∷ words) =
    either (bytes_eq word (codes "run")) _ _ (either (length words == 0) _ _ tt tt)
    (either (bytes_eq word (codes "check")) _ _ (either (length words == 0) _ _ tt tt)
    (either (bytes_eq word (codes "make")) _ _ (made (load_of words) (three_told (three_given words)))
    (either (bytes_eq word (codes "trial")) _ _ (tried (load_of words) (three_told (three_given words))) tt)))
