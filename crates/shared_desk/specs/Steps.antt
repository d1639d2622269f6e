-- What each step tells, and how views are cut and joined.
use Rattle.std.specs.Prelude.{◌≡◌, ℕ, List, [], ◌∷◌, ◌++◌, Option, Some}
use Rattle.atomic_table.specs.Table.{Me, Step}
use Rattle.server_desk.specs.DeskViews.{DeskView}
use Rattle.shared_desk.specs.Desks.{SameDesk}
use Rattle.shared_desk.specs.declared.known.Part.{Part}
use Rattle.shared_desk.specs.declared.known.Known.{Known}
use Rattle.shared_desk.specs.Rule.{part, holder, knows, alone, only}

abbrev pub Seated : Type 0
Seated = Me (Option DeskView) Known

-- a caller at rest holds nothing
abbrev pub resting : List Part → Seated
resting ps = (alone (part (only ps).desk (only ps).number), [])

-- a caller whose desk is out holds the empty slot
abbrev pub holds_slot : List Part → Option DeskView → Seated
holds_slot ps slot = (alone (holder (only ps).desk (only ps).number), (0, slot) ∷ [])

-- the desk was found at home, and was taken
pub record Took (me me' : Seated) : Type 0 where
  pub desk : DeskView
  pub now : me' ≡ holds_slot me.0.callers (Some desk)
  pub same : SameDesk desk (only me.0.callers).desk

abbrev pub taken : Step (Option DeskView) → Seated → ℕ → Seated → Type 0
taken st me n me' = (n ≡ 0 → Took me me') × ((n ≡ 0 → ⊥) → me' ≡ me)

abbrev pub given : Step (Option DeskView) → Seated → ℕ → Seated → Type 0
given st me n me' = me' ≡ resting me.0.callers

-- a new seat with no caller
abbrev pub arrived : Step (Option DeskView) → Seated → ℕ → Seated → Type 0
arrived st me n me' = me' ≡ (knows [], [])

abbrev pub first_off : List Part → List Part
first_off [] = []
first_off (p ∷ ps) = ps

abbrev pub first_of : List Part → List Part
first_of [] = []
first_of (p ∷ ps) = p ∷ []

abbrev pub without_first : Known → Known
without_first v = knows (first_off v.callers)

abbrev pub with_first : Known → Known
with_first v = knows (first_of v.callers)

abbrev pub both : Known → Known → Known
both v w = knows (v.callers ++ w.callers)
