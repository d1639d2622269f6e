-- What looks at table words, and reads and writes of pixels between them, leave a client in its turn.
use Rattle.std.specs.Prelude.{◌≡◌, ℕ, ◌+◌, ◌<◌, ◌≤◌, ◌⊎◌, List, Some}
use Rattle.region_table.specs.Numbers.{row_size, row_word}
use Rattle.turn_logs.specs.declared.items.Item.{Item}
use Rattle.fb_words.specs.declared.known.Client.{Client}
use Rattle.fb_words.specs.declared.known.Looked.{Looked}
use Rattle.fb_words.specs.Clips.{look_of, looked_in, slot_in, log_in, kept, IsOutsideRow, KeepsClips}
use Rattle.fb_words.specs.Rights.{Owns}
use Rattle.fb_words.specs.Steps.{after_look, after_item}

-- the words from the first on, before the one past them, aren't of the slot's row
abbrev pub AreOutsideRow : ℕ → ℕ → ℕ → Type 0
AreOutsideRow slot first past = (past ≤ row_word slot) ⊎ (row_word slot + row_size ≤ first)

-- q is p after looks at words from the first on, before the one past them
pub record OnlyLooks (first past : ℕ) (p q : Client) : Type 0 where
  pub rest : q ≡ record p { mode = q.mode }
  pub log : log_in q.mode ≡ log_in p.mode
  pub slot : (s : ℕ) → slot_in p.mode ≡ Some s → slot_in q.mode ≡ Some s
  pub stays : (x v : ℕ) → look_of (looked_in p.mode) x ≡ Some v → look_of (looked_in q.mode) x ≡ Some v
  pub only : (x v : ℕ) → look_of (looked_in q.mode) x ≡ Some v → (look_of (looked_in p.mode) x ≡ Some v) ⊎ ((first ≤ x) × (x < past))
  pub owns : (x : ℕ) → Owns p x → Owns q x
  pub kept_is : (s : ℕ) → AreOutsideRow s first past → kept q s ≡ kept p s

-- q is p after looks at such words, and after reads and writes of pixels
pub record GoesOn (first past : ℕ) (p q : Client) : Type 0 where
  pub rest : q ≡ record p { mode = q.mode }
  pub slot : (s : ℕ) → slot_in p.mode ≡ Some s → slot_in q.mode ≡ Some s
  pub stays : (x v : ℕ) → look_of (looked_in p.mode) x ≡ Some v → look_of (looked_in q.mode) x ≡ Some v
  pub only : (x v : ℕ) → look_of (looked_in q.mode) x ≡ Some v → (look_of (looked_in p.mode) x ≡ Some v) ⊎ ((first ≤ x) × (x < past))
  pub owns : (x : ℕ) → Owns p x → Owns q x
  pub kept_is : (s : ℕ) → AreOutsideRow s first past → kept q s ≡ kept p s

-- words of which the looked ones are true
pub record LookedIn (looked : List Looked) (words : ℕ → ℕ) : Type 0 where
  pub found : (x v : ℕ) → look_of looked x ≡ Some v → words x ≡ v

-- ---- one after another

-- no look, one look, as the clauses of a look tell it, looks at more words, and looks after looks
pub record LooksLaw : Type 0 where
  pub none : (first past : ℕ) (p : Client) → OnlyLooks first past p p
  pub one : (p q : Client) (i n : ℕ) → q ≡ after_look p i n → ((x : ℕ) → Owns p x → Owns q x) → ((s : ℕ) → IsOutsideRow s i → kept q s ≡ kept p s) → OnlyLooks i (i + 1) p q
  pub wider : (a b first past : ℕ) (p q : Client) → first ≤ a → b ≤ past → OnlyLooks a b p q → OnlyLooks first past p q
  pub both : (first past : ℕ) (p q r : Client) → OnlyLooks first past p q → OnlyLooks first past q r → OnlyLooks first past p r

-- nothing done, looks alone, one read or write, as the clauses of a pick and a put tell it, and one after the other
pub record GoingLaw : Type 0 where
  pub none : (first past : ℕ) (p : Client) → GoesOn first past p p
  pub looks : (first past : ℕ) (p q : Client) → OnlyLooks first past p q → GoesOn first past p q
  pub item : (first past : ℕ) (p q : Client) (i : Item) → q ≡ after_item p i → KeepsClips p q → GoesOn first past p q
  pub wider : (a b first past : ℕ) (p q : Client) → first ≤ a → b ≤ past → GoesOn a b p q → GoesOn first past p q
  pub both : (first past : ℕ) (p q r : Client) → GoesOn first past p q → GoesOn first past q r → GoesOn first past p r
