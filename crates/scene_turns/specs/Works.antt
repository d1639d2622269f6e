-- What is done on pixels, one after another, and what that adds to the log of a server turn.
use Rattle.std.specs.Prelude.{◌≡◌, ℕ, ◌+◌, ◌-◌, ◌<◌, Bool, true, false, List, [], ◌∷◌, ◌++◌, map}
use Rattle.std.specs.List.{flat_map, range_with_len}
use Rattle.qws_base.specs.Colours.{IsSceneColour}
use Rattle.qws_base.specs.Points.{pixel_count}
use Rattle.qws_base.specs.Scenes.{Setting}
use Rattle.step_regions.specs.Carried.{source, HasSource}
use Rattle.region_table.specs.Numbers.{pixel_word}
use Rattle.turn_logs.specs.declared.items.Item.{Item}
use Rattle.turn_logs.specs.declared.items.Item.TheVariants.{Pick, Put}
use Rattle.scene_turns.specs.declared.works.Work.{Work}
use Rattle.scene_turns.specs.declared.works.Work.TheVariants.{Fill, Carry}

-- ---- directions

abbrev pub is_falling : Work → Bool
is_falling (Fill colour) = false
is_falling (Carry falling by) = falling

-- place j of n, from the first on, or from the last
abbrev pub place : Bool → ℕ → ℕ → ℕ
place false n j = j
place true n j = n - 1 - j

-- ---- pixels

-- the work can be done on pixel p
abbrev pub CanWork : Setting → Work → ℕ → Type 0
CanWork setting (Fill colour) p = (p < pixel_count setting.size) × IsSceneColour setting.depth colour
CanWork setting (Carry falling by) p = (p < pixel_count setting.size) × HasSource setting falling by p

-- the items of the work on pixel p; what was read, where it reads, is v
abbrev pub work_items : Work → ℕ → ℕ → List Item
work_items (Fill colour) p v = Put (pixel_word p) colour ∷ []
work_items (Carry falling by) p v = Pick (pixel_word (source falling by p)) v ∷ Put (pixel_word p) v ∷ []

-- the log of the work on pixels, each with what was read
abbrev pub work_log : Work → List (ℕ × ℕ) → List Item
work_log work done = flat_map (λ d. work_items work d.0 d.1) done

-- the log has grown by the items of the work on the pixels, in their order
pub record Works (work : Work) (pixels : List ℕ) (before after : List Item) : Type 0 where
  pub done : List (ℕ × ℕ)
  pub pixels_are : map (λ d. d.0) done ≡ pixels
  pub log : after ≡ before ++ work_log work done

-- n pixels side by side
abbrev pub stretch_pixels : Bool → ℕ → ℕ → List ℕ
stretch_pixels falling first n = map (λ j. first + place falling n j) (range_with_len 0 n)
