-- A picture that was read at the begin of a server turn.
use Rattle.std.specs.Prelude.{◌≡◌, ℕ, ◌+◌, List, [], ◌∷◌, ◌++◌, map, length}
use mathlib.Core.Option.{some}
use lib.ListN.{get_elem?}
use Rattle.qws_base.specs.Colours.{shown_colour}
use Rattle.qws_base.specs.Points.{pixel_count}
use Rattle.qws_base.specs.Scenes.{Setting}
use Rattle.qws_base.specs.Shown.{shown_picture}
use Rattle.qws_base.specs.Histories.{Entry, Step, Paint, world_after}
use Rattle.qws_base.specs.declared.colours.Depth.{Depth}
use Rattle.region_table.specs.Numbers.{pixel_word}
use Rattle.turn_logs.specs.declared.items.Item.{Item}
use Rattle.turn_logs.specs.declared.items.Item.TheVariants.{Pick}
use Rattle.fb_words.specs.declared.known.Closed.{Closed}
use Rattle.fb_words.specs.Views.{HeadView}

-- one Pick of each framebuffer word from pixel p on, in order
abbrev pub picks_from : ℕ → List ℕ → List Item
picks_from p [] = []
picks_from p (v ∷ vs) = Pick (pixel_word p) v ∷ picks_from (p + 1) vs

-- the log begins with a Pick of each of so many framebuffer words, in order, of these values
pub record Begins (count : ℕ) (values : List ℕ) (log : List Item) : Type 0 where
  pub many : length values ≡ count
  pub rest : List Item
  pub log_is : log ≡ picks_from 0 values ++ rest

-- the closed turn with that number begins so, and the colours are those that the values show
pub record IsGrabOf (closed : List Closed) (depth : Depth) (count number : ℕ) (shown : List ℕ) : Type 0 where
  pub place : ℕ
  pub number_is : number ≡ place + 1
  pub turn : Closed
  pub there : get_elem? closed place ≡ some turn
  pub values : List ℕ
  pub begins : Begins count values turn.log
  pub colours : shown ≡ map (shown_colour depth) values

-- a head has closed such a turn
pub record HasGrabbed (head : HeadView) (depth : Depth) (count number : ℕ) (shown : List ℕ) : Type 0 where
  pub grab : IsGrabOf head.server.closed depth count number shown

-- ---- what a grab shows

-- how many commands are in a history
abbrev pub step_count : List Entry → ℕ
step_count [] = 0
step_count (Step client command reply ∷ h) = step_count h + 1
step_count (Paint client slot tag sheet reply ∷ h) = step_count h

-- The entry of that command stands in the history after so many others, and the picture is that of the entries before it, with the
-- cursor above.
pub record IsShownBefore (setting : Setting) (h : List Entry) (place : ℕ) (turn : Closed) (shown : List ℕ) : Type 0 where
  pub before : List Entry
  pub after : List Entry
  pub split : h ≡ before ++ Step turn.client turn.command turn.reply ∷ after
  pub steps : step_count before ≡ place
  pub picture : shown ≡ shown_picture setting (world_after setting before).state.cursor (world_after setting before).scene

-- the values that were read at the begin of a closed turn are those of the picture before its command
abbrev pub GrabsAreShown : Setting → List Closed → List Entry → Type 0
GrabsAreShown setting closed h = (place : ℕ) (turn : Closed) (values : List ℕ) → get_elem? closed place ≡ some turn → Begins (pixel_count setting.size) values turn.log
    → IsShownBefore setting h place turn (map (shown_colour setting.depth) values)
