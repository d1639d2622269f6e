-- What was read and written on one word, in order.
use Rattle.std.specs.Prelude.{◌≡◌, ℕ, ◌==◌, if◌then◌else◌, List, [], ◌∷◌, ⊤}
use Rattle.turn_logs.specs.declared.items.Item.{Item}
use Rattle.turn_logs.specs.declared.items.Item.TheVariants.{Pick, Put}

abbrev pub item_word : Item → ℕ
item_word (Pick word value) = word
item_word (Put word value) = word

-- the items on the word x
abbrev pub on : ℕ → List Item → List Item
on x [] = []
on x (i ∷ l) = if item_word i == x then i ∷ on x l else on x l

abbrev pub written : ℕ → List Item → ℕ
written v [] = v
written v (Pick word u ∷ l) = written v l
written v (Put word u ∷ l) = written u l

-- each Pick shows the last Put before it, else v
abbrev pub Shows : ℕ → List Item → Type 0
Shows v [] = Unit {0}
Shows v (Pick word u ∷ l) = (u ≡ v) × Shows v l
Shows v (Put word u ∷ l) = Shows u l

-- a log without a Put
abbrev pub OnlyPicks : List Item → Type 0
OnlyPicks [] = ⊤
OnlyPicks (Pick word value ∷ l) = OnlyPicks l
OnlyPicks (Put word value ∷ l) = ⊥
