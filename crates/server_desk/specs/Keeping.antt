-- What a desk keeps of its screen's server part.
use Rattle.std.specs.Prelude.{◌≡◌, ℕ, ◌+◌, ◌^◌, ◌<◌, ◌≤◌, false, List, [], length, sum, slice_index}
use Rattle.qws_base.specs.Scenes.{setting_of}
use Rattle.qws_base.specs.Sides.{IsScreen}
use Rattle.qws_base.specs.States.{revision_of}
use Rattle.qws_base.specs.declared.journals.JournalEntry.{JournalEntry}
use Rattle.fb_words.specs.declared.known.Server.{Server}
use Rattle.fb_words.specs.Views.{HeadView, is_writing}
use Rattle.fb_words.specs.Rule.{steps_of}
use Rattle.fb_words.specs.Desks.{AreKeptTurns, journal_of, state_after}
use Rattle.window_core.specs.CoreViews.{CoreView}
use Rattle.step_turns.specs.Publishes.{Publishes}

-- The core is in the state after all closed turns, which the present words publish; and each closed turn has the reply of its
-- command and left the table of the state after it.
pub record IsCurrent (head : HeadView) (core : CoreView) : Type 0 where
  pub own_setting : head.screen.setting ≡ head.server.setting
  pub setting : head.server.setting ≡ setting_of core.size head.server.setting.depth core.backdrop
  pub screen : IsScreen core.size
  pub not_writing : is_writing head.server.mode ≡ false
  pub quiet : head.server.log ≡ []
  pub state : core.state ≡ state_after core.size head.server.closed
  pub turns : AreKeptTurns core.size head.server.closed head.server.tables
  pub published : Publishes core.size (length head.server.limits) (length head.server.closed) core.state head.server.present
  pub revisions : (slot : ℕ) → slot < 32 → revision_of core.state slot ≤ length head.server.closed + 1

-- The steps that each client has made, and how many it may still make, which together are its limit; none without a client.
pub record AreCounted (server : Server) (made left : List ℕ) : Type 0 where
  pub sixteen_made : length made ≡ 16
  pub sixteen_left : length left ≡ 16
  pub count : (c : ℕ) → c < 16 → slice_index made c ≡ length (steps_of c 0 server.closed)
  pub limit : (c : ℕ) → c < length server.limits → slice_index made c + slice_index left c ≡ slice_index server.limits c
  pub none_made : (c : ℕ) → c < 16 → length server.limits ≤ c → slice_index made c ≡ 0
  pub none_left : (c : ℕ) → c < 16 → length server.limits ≤ c → slice_index left c ≡ 0

-- The journal lists the closed turns, and has room for all steps that clients may still make.
pub record IsListed (server : Server) (journal : List JournalEntry) (connected : ℕ) (made left : List ℕ) (room capacity : ℕ) : Type 0 where
  pub journal_is : journal ≡ journal_of server.closed
  pub connected_is : connected ≡ length server.limits
  pub few : connected ≤ 16
  pub counts : AreCounted server made left
  pub room_is : room ≡ sum left
  pub fits : length journal + room ≤ capacity
  pub bounded : length journal + room ≤ 2 ^ 62
