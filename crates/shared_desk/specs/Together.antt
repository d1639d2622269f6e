-- All callers of a shared desk.
use Rattle.std.specs.Prelude.{◌≡◌, ℕ, ◌<◌, ◌≤◌, ◌==◌, if◌then◌else◌, List, length, map}
use mathlib.Core.Option.{some}
use lib.ListN.{get_elem?}
use Rattle.server_desk.specs.DeskViews.{DeskView}
use Rattle.turn_logs.specs.Lists.{total}
use Rattle.fb_words.specs.Views.{PassView}
use Rattle.shared_desk.specs.declared.callers.Caller.{Caller}
use Rattle.shared_desk.specs.declared.known.Part.{Part}
use Rattle.shared_desk.specs.Leases.{SharedView, IsOf, lease_of}
use Rattle.shared_desk.specs.Rule.{part}

-- all callers of a shared desk, by number
pub record AreAll (s : SharedView) (callers : List Caller) : Type 0 where
  pub many : length callers ≡ s.callers
  pub each : (k : ℕ) (c : Caller) → get_elem? callers k ≡ some c → c.lease ≡ lease_of s k

-- their passes
abbrev pub passes_of : List Caller → List PassView
passes_of callers = map (λ c. c.pass) callers

abbrev pub has_number : ℕ → Caller → ℕ
has_number number c = if c.lease.number == number then 1 else 0

-- callers of a shared desk, each number among them, in any order
pub record AreThere (s : SharedView) (callers : List Caller) : Type 0 where
  pub of : (k : ℕ) (c : Caller) → get_elem? callers k ≡ some c → IsOf s c.lease
  pub each : (number : ℕ) → number < s.callers → 1 ≤ total (has_number number) callers

-- what a seat knows that has taken them in
abbrev pub rested : DeskView → List Caller → List Part
rested desk callers = map (λ c. part desk c.lease.number) callers
