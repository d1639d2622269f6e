-- Looks, reads and writes one after another, as clauses tell them.
use Rattle.std.proofs.Common.{◌≡◌, ℕ, ◌+◌, ◌<◌, ◌≤◌, [], ◌∷◌, ◌++◌, refl, arith}
use Rattle.turn_logs.specs.declared.items.Item.{Item}
use Rattle.fb_words.specs.declared.known.Mode.{Mode}
use Rattle.fb_words.specs.declared.known.Mode.TheVariants.{Idle, Refused, Reading}
use Rattle.fb_words.specs.declared.known.Client.{Client}
use Rattle.fb_words.specs.Clips.{log_in, kept, IsOutsideRow, KeepsClips}
use Rattle.fb_words.specs.Rights.{Owns}
use Rattle.fb_words.specs.Views.{reading_mode}
use Rattle.fb_words.specs.Steps.{after_look, item_mode, after_item}
use Rattle.fb_words.specs.Looks.{OnlyLooks, GoesOn}
use Rattle.fb_words.proofs.Looks.{looks_law, going_law}

pub none_looked : (first past : ℕ) (p : Client) → OnlyLooks first past p p
none_looked first past p = looks_law.none first past p

-- one look more, at one of those words
pub more_looked : (first past : ℕ) (p q r : Client) (i n : ℕ) → OnlyLooks first past p q → (first ≤ i) × (i < past) → r ≡ after_look q i n → ((x : ℕ) → Owns q x → Owns r x) → ((s : ℕ) → IsOutsideRow s i → kept r s ≡ kept q s) → OnlyLooks first past p r
more_looked first past p q r i n a is_one is owns away = let low = is_one.0 in let high = is_one.1 in
    looks_law.both first past p q r a (looks_law.wider i (i + 1) first past q r low (omega arith) (looks_law.one q r i n is owns away))

pub wider_looks : (a b first past : ℕ) (p q : Client) → first ≤ a → b ≤ past → OnlyLooks a b p q → OnlyLooks first past p q
wider_looks a b first past p q low high l = looks_law.wider a b first past p q low high l

pub both_looked : (first past : ℕ) (p q r : Client) → OnlyLooks first past p q → OnlyLooks first past q r → OnlyLooks first past p r
both_looked first past p q r a b = looks_law.both first past p q r a b

pub none_done : (first past : ℕ) (p : Client) → GoesOn first past p p
none_done first past p = going_law.none first past p

pub looks_done : (first past : ℕ) (p q : Client) → OnlyLooks first past p q → GoesOn first past p q
looks_done first past p q a = going_law.looks first past p q a

pub both_done : (first past : ℕ) (p q r : Client) → GoesOn first past p q → GoesOn first past q r → GoesOn first past p r
both_done first past p q r a b = going_law.both first past p q r a b

pub item_done : (first past : ℕ) (p q : Client) (i : Item) → q ≡ after_item p i → KeepsClips p q → GoesOn first past p q
item_done first past p q i is keeps = going_law.item first past p q i is keeps

-- the log of a client in its turn grows by each item
pub item_logged : (m : Mode) (i : Item) → reading_mode m ≡ 1 → log_in (item_mode i m) ≡ log_in m ++ i ∷ []
item_logged Idle i reads = absurd (omega arith)
item_logged Refused i reads = absurd (omega arith)
item_logged (Reading stamp slot looked log) i reads = refl
