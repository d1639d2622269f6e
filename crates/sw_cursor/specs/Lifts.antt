-- What lifting the cursor off the framebuffer, and putting it down there, add to the log of a server turn.
use Rattle.std.specs.Prelude.{◌≡◌, ℕ, ◌++◌, List}
use Rattle.std.specs.List.{range_with_len}
use Rattle.qws_base.specs.Sides.{Sides}
use Rattle.qws_base.specs.declared.colours.Depth.{Depth}
use Rattle.qws_base.specs.declared.windows.Cursor.{Cursor}
use Rattle.turn_logs.specs.declared.items.Item.{Item}
use Rattle.std.specs.List.{flat_map}
use Rattle.fb_words.specs.Views.{HeadView}
use Rattle.turn_logs.specs.Phases.{lift_nth, lift_items, drop_nth, drop_items}

-- nothing but the log has changed
abbrev pub OnlyLogs : HeadView → HeadView → Type 0
OnlyLogs h h' = h' ≡ record h { server = record h.server { log = h'.server.log } }

-- for each cell of the shown cursor on a pixel its saved word was read, and what was found, by pixel, put on the framebuffer word
pub record Lifts (size : Sides) (cursor : Cursor) (before after : List Item) : Type 0 where
  pub found : ℕ → ℕ
  pub log : after ≡ before ++ lift_items size cursor found

-- for each cell of the shown cursor on a pixel the framebuffer word was read, what was found, by pixel, put on the saved word,
-- and the cell's blend over it on the framebuffer word
pub record Drops (depth : Depth) (size : Sides) (cursor : Cursor) (before after : List Item) : Type 0 where
  pub found : ℕ → ℕ
  pub log : after ≡ before ++ drop_items depth size cursor found

-- the items of so many cells, with what was found, by cell
pub record AddsCells (items : ℕ → ℕ → List Item) (from count : ℕ) (before after : List Item) : Type 0 where
  pub found : ℕ → ℕ
  pub log : after ≡ before ++ flat_map (λ k. items k (found k)) (range_with_len from count)

abbrev pub lift_one : Sides → Cursor → ℕ → ℕ → List Item
lift_one size cursor k n = lift_nth size cursor (λ p. n) k

abbrev pub drop_one : Depth → Sides → Cursor → ℕ → ℕ → List Item
drop_one depth size cursor k n = drop_nth depth size cursor (λ p. n) k
