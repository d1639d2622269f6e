-- What the tests keep of a painter's pass and of the head, in a turn and between turns.
use Rattle.std.specs.Prelude.{◌≡◌, ℕ, ◌+◌, ◌<◌, ◌≤◌, List, [], length, slice_set}
use mathlib.Core.Option.{some}
use lib.ListN.{get_elem?}
use Rattle.qws_base.specs.Sides.{Sides}
use Rattle.turn_logs.specs.declared.items.Item.{Item}
use Rattle.turn_logs.specs.Lines.{OnlyPicks}
use Rattle.fb_words.specs.declared.known.Mode.TheVariants.{Idle}
use Rattle.fb_words.specs.declared.known.Server.{Server}
use Rattle.turn_logs.specs.Tables.{table_of, IsTable, Follows}
use Rattle.region_table.specs.Numbers.{first_pixel}
use Rattle.fb_words.specs.Clips.{log_in}
use Rattle.fb_words.specs.Views.{ScreenView, PassView, HeadView, is_client, books_in}
use Rattle.turn_logs.specs.Lists.{total}
use Rattle.display_lock.specs.declared.turns.PaintTurn.{PaintTurn}
use Rattle.display_lock.specs.Turns.{IsOpen, client_in}

-- ---- a painter

-- how many paints the client has made
abbrev pub paints : PassView → ℕ
paints p = length (books_in p.client.own)

-- in no turn, with room in its book for so many paints
abbrev pub IsPainter : ScreenView → ℕ → PassView → Type 0
IsPainter screen room p = (p.screen ≡ screen) × (p.client.mode ≡ Idle) × (paints p + room ≤ p.book_limit)

-- back from its turn with so many paints more
abbrev pub HasPainted : ℕ → PassView → PassView → Type 0
HasPainted more before after = (after.screen ≡ before.screen) × (after.client.mode ≡ Idle) × (after.book_limit ≡ before.book_limit) × (paints after ≡ paints before + more)

-- in a turn that has read and written no pixel, with room in its book
abbrev pub IsUnpainted : PaintTurn → Type 0
IsUnpainted t = IsOpen t × (log_in (client_in t).mode ≡ []) × (paints t.pass.now < t.pass.now.book_limit)

-- ---- the head

-- The present table can be closed with the next stamp: it follows the last closed one, and has its cursor. No pixel was put.
pub record IsReadyIn (size : Sides) (admitted closed : ℕ) (tables : List (List ℕ)) (present : List ℕ) (log : List Item) : Type 0 where
  pub long : length tables ≡ closed + 1
  pub wide : length present ≡ first_pixel
  pub before : List ℕ
  pub last : get_elem? tables closed ≡ some before
  pub is_table : IsTable size admitted closed present
  pub follows : Follows before present
  pub cursor : (table_of before).cursor ≡ (table_of present).cursor
  pub unput : OnlyPicks log

abbrev pub IsReady : Server → Type 0
IsReady s = IsReadyIn s.setting.size (length s.limits) (length s.closed) s.tables s.present s.log

-- The next entry of this head has that number. Client 2 sits with it.
abbrev pub IsHead : ScreenView → ℕ → HeadView → Type 0
IsHead screen number h = (h.screen ≡ screen) × (length h.server.closed + 1 ≡ number) × (1 ≤ total (is_client 2) h.sitting) × IsReady h.server

-- the server with a stamp written
abbrev pub with_stamp : Server → ℕ → Server
with_stamp s number = record s { present = slice_set s.present 1 number }

-- the same head, which has written the stamp
pub record IsStamped (screen : ScreenView) (number : ℕ) (h : HeadView) : Type 0 where
  pub before : HeadView
  pub is_head : IsHead screen number before
  pub stamp : h ≡ record before { server = with_stamp before.server number }

-- The table with a row for slot 0: owner 0, revision 2, origin (-2, 3), and the rectangle of 2 by 1 pixels at (1, 0).
abbrev pub with_row : List ℕ → List ℕ
with_row t = slice_set (slice_set (slice_set (slice_set (slice_set t 2052 1) 2053 2) 2054 2147713022) 2055 1) 2056 281483566645249
