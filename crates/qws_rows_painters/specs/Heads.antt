-- The head between two server turns of a test.
use Rattle.std.specs.Prelude.{◌≡◌, ℕ, ◌+◌, ◌<◌, ◌≤◌, ◌⊎◌, List, length, slice_index}
use Rattle.turn_logs.specs.Tables.{table_of}
use Rattle.turn_logs.specs.Phases.{IsTrueLog}
use Rattle.fb_words.specs.Steps.{IsBetweenTurns}
use Rattle.sw_cursor.specs.Lifts.{OnlyLogs, Lifts, Drops}
use Rattle.region_table.specs.Numbers.{IsTableWord}
use Rattle.fb_words.specs.Views.{ScreenView, HeadView, is_client}
use Rattle.turn_logs.specs.Lists.{total}

-- two lists tell the same of each table word
abbrev pub SameWords : List ℕ → List ℕ → Type 0
SameWords t u = (i : ℕ) → IsTableWord i → slice_index t i ≡ slice_index u i

-- The next entry of this head has that number, the last table is that of the words, and client 2 of 3 sits with it.
pub record IsHead (screen : ScreenView) (number : ℕ) (words : List ℕ) (h : HeadView) : Type 0 where
  pub screen_is : h.screen ≡ screen
  pub number_is : length h.server.closed + 1 ≡ number
  pub clients : length h.server.limits ≡ 3
  pub sits : 1 ≤ total (is_client 2) h.sitting
  pub words_are : SameWords h.server.present words

-- The head at the beginning of a turn: its log is empty, and its present table the last closed one.
pub record IsFresh (screen : ScreenView) (number : ℕ) (words : List ℕ) (h : HeadView) : Type 0 where
  pub is_head : IsHead screen number words h
  pub setting_is : h.server.setting ≡ screen.setting
  pub between : IsBetweenTurns h.server

-- the head with another present table, whose words from one on, before another, are those of the list; all others are as before
pub record Writes (from past : ℕ) (words : List ℕ) (h h' : HeadView) : Type 0 where
  pub present : List ℕ
  pub is : h' ≡ record h { server = record h.server { present = present } }
  pub long : length present ≡ length h.server.present
  pub written : (i : ℕ) → from ≤ i → i < past → slice_index present i ≡ slice_index words i
  pub others : (i : ℕ) → (i < from) ⊎ (past ≤ i) → slice_index present i ≡ slice_index h.server.present i

-- the head with a present table that is that of the words
pub record HasWritten (words : List ℕ) (h h' : HeadView) : Type 0 where
  pub present : List ℕ
  pub is : h' ≡ record h { server = record h.server { present = present } }
  pub long : length present ≡ length h.server.present
  pub same : SameWords present words

-- From a fresh head on, the cursor of the last table was lifted, the words written, and their cursor put down.
pub record IsServed (screen : ScreenView) (number : ℕ) (before words : List ℕ) (h : HeadView) : Type 0 where
  pub first : HeadView
  pub lifted : HeadView
  pub written : HeadView
  pub fresh : IsFresh screen number before first
  pub lifts : OnlyLogs first lifted
  pub lift_log : Lifts screen.setting.size (table_of first.server.present).cursor first.server.log lifted.server.log
  pub writes : HasWritten words lifted written
  pub drops : OnlyLogs written h
  pub drop_log : Drops screen.setting.depth screen.setting.size (table_of words).cursor written.server.log h.server.log
  pub true_log : IsTrueLog h.server.log
