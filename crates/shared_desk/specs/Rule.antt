-- The rule of the desk's table.
use Rattle.std.specs.Prelude.{◌≡◌, ℕ, zero, suc, ◌≤◌, ◌==◌, nat_lt, if◌then◌else◌, true, false, List, [], ◌∷◌, length, slice_index, Option, Some}
use mathlib.Core.Option.{some}
use lib.ListN.{get_elem?}
use Rattle.atomic_table.specs.Table.{State}
use Rattle.turn_logs.specs.Lists.{total}
use Rattle.fb_words.specs.Views.{no_setting, opening_server}
use Rattle.server_desk.specs.DeskViews.{DeskView}
use Rattle.shared_desk.specs.Desks.{SameDesk}
use Rattle.shared_desk.specs.declared.known.Part.{Part}
use Rattle.shared_desk.specs.declared.known.Known.{Known}
use Rattle.shared_desk.specs.declared.known.DeskKey.{DeskKey}

abbrev pub is_number : ℕ → Part → ℕ
is_number c p = if p.number == c then 1 else 0

-- how often the caller c stands in a view
abbrev pub has : ℕ → Known → ℕ
has c v = total (is_number c) v.callers

abbrev pub holding : Part → ℕ
holding p = if p.holds then 1 else 0

-- how often a view holds the desk
abbrev pub held : Known → ℕ
held v = total holding v.callers

abbrev pub part : DeskView → ℕ → Part
part desk number = record { number = number; holds = false; desk = desk }

abbrev pub holder : DeskView → ℕ → Part
holder desk number = record { number = number; holds = true; desk = desk }

-- n callers, from the number k on
abbrev pub parts : DeskView → ℕ → ℕ → List Part
parts desk k zero = []
parts desk k (suc n) = part desk k ∷ parts desk (suc k) n

abbrev pub knows : List Part → Known
knows ps = record { callers = ps }

abbrev pub alone : Part → Known
alone p = knows (p ∷ [])

abbrev pub no_desk : DeskView
no_desk = record { screen = record { table = record { words = 0; slots = 0; views_name = 0; atom = 0; block = 0; offset = 0; slot_names = [] }; setting = no_setting }; server = opening_server no_setting }

-- the one caller of a view
abbrev pub only : List Part → Part
only [] = part no_desk 0
only (p ∷ ps) = p

abbrev pub opening_view : DeskKey → Known
opening_view key = knows (parts key.desk.value 0 key.callers)

-- the desk at home has the screen and the clients of the one that was shared
abbrev pub AtHome : DeskView → List (mathlib.Core.Option.Option (Option DeskView)) → Type 0
AtHome desk homes = (d : DeskView) × (get_elem? homes 0 ≡ some (some (Some d))) × SameDesk d desk

-- The word counts the views that hold the desk, and is at most 1; each caller that was made stands in one view; where the word is 0, the desk is at home
pub record Kept (key : DeskKey) (s : State (Option DeskView) Known) : Type 0 where
  pub one_word : length s.words ≡ 1
  pub at_most : slice_index s.words 0 ≤ 1
  pub word_is : slice_index s.words 0 ≡ total held s.views
  pub once : (c : ℕ) → total (has c) s.views ≡ (if nat_lt c key.callers then 1 else 0)
  pub of_desk : (id : ℕ) (v : Known) → get_elem? s.views id ≡ some v → (k : ℕ) (p : Part) → get_elem? v.callers k ≡ some p → p.desk ≡ key.desk.value
  pub home : slice_index s.words 0 ≡ 0 → AtHome key.desk.value s.homes
