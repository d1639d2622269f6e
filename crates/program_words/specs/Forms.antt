-- The forms of the words behind the program's name. A word is the list of its bytes.
use Rattle.std.specs.Prelude.{ℕ, ◌+◌, nat_le, Bool, ◌&&◌, ◌==◌, List, [], ◌∷◌, length, take, drop, Option, None, Some, if◌then◌else◌}
use lib.Chars.{codes}
use Rattle.std.specs.List.{list_all, find, position}
use Rattle.std.specs.Option.{option_map, option_and_then}
use Rattle.std.specs.Str.{bytes_eq}
use Rattle.std.specs.Str.Parse.{digits_value}
use Rattle.program_words.specs.declared.forms.Load.{Load}
use Rattle.program_words.specs.declared.forms.Form.{Form}
use Rattle.program_words.specs.declared.forms.Form.TheVariants.{Run, Check, Make, Trial}

-- ---- options

-- an option as it was given, and the words behind it
pub record GivenOption : Type 0 where
  pub name : List ℕ
  pub value : List ℕ
  pub rest : List (List ℕ)

-- name and value in one word are parted by its first `=`; else the value is the next word
abbrev pub given_by : Option ℕ → List ℕ → List (List ℕ) → Option GivenOption
given_by (Some k) word words = Some (record { name = take k word; value = drop (k + 1) word; rest = words })
given_by None word [] = None
given_by None word (value ∷ words) = Some (record { name = word; value = value; rest = words })

-- the first option of some words
abbrev pub first_given : List (List ℕ) → Option GivenOption
first_given [] = None
first_given (word ∷ words) = given_by (position (λ c. c == 61) word) word words

-- words that are just three options
abbrev pub three_given : List (List ℕ) → Option (List GivenOption)
three_given words =
    option_and_then (λ a. option_and_then (λ b. option_and_then (λ c. if length c.rest == 0 then Some (a ∷ b ∷ c ∷ []) else None)
    (first_given b.rest)) (first_given a.rest)) (first_given words)

-- ---- values

abbrev pub is_digit : ℕ → Bool
is_digit c = nat_le 48 c && nat_le c 57

-- 1 to 10 digits of a number in a range; leading zeros are allowed
abbrev pub number_within : ℕ → ℕ → List ℕ → Option ℕ
number_within low high text =
    if ((nat_le 1 (length text) && nat_le (length text) 10) && list_all is_digit text) && (nat_le low (digits_value 10 text) && nat_le (digits_value 10 text) high)
    then Some (digits_value 10 text) else None

-- the value of the option of that name, in its range
abbrev pub value_within : List GivenOption → List ℕ → ℕ → ℕ → Option ℕ
value_within options name low high = option_and_then (λ g. number_within low high g.value) (find (λ g. bytes_eq g.name name) options)

-- three options, one of each name
abbrev pub load_by : List GivenOption → Option Load
load_by options =
    option_and_then (λ seed. option_and_then (λ clients. option_map (λ calls. record { seed = seed; clients = clients; calls = calls })
    (value_within options (codes "--calls") 1 4096)) (value_within options (codes "--clients") 1 16)) (value_within options (codes "--seed") 0 4294967295)

abbrev pub load_of : List (List ℕ) → Option Load
load_of words = option_and_then load_by (three_given words)

-- ---- forms

-- a word alone
abbrev pub alone : Form → List (List ℕ) → Option Form
alone form words = if length words == 0 then Some form else None

abbrev pub form_by : List ℕ → List (List ℕ) → Option Form
form_by word words =
    if bytes_eq word (codes "run") then alone Run words
    else (if bytes_eq word (codes "check") then alone Check words
    else (if bytes_eq word (codes "make") then option_map (λ load. Make load) (load_of words)
    else (if bytes_eq word (codes "trial") then option_map (λ load. Trial load) (load_of words) else None)))

-- the form that the words have; none where they have no form
abbrev pub form_of : List (List ℕ) → Option Form
form_of [] = None
form_of (word ∷ words) = form_by word words
