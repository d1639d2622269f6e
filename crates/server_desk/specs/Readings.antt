-- A server turn that has read the first framebuffer words, and done nothing else.
use Rattle.std.specs.Prelude.{◌≡◌, ℕ, List, map, length}
use Rattle.qws_base.specs.Colours.{shown_colour}
use Rattle.qws_base.specs.declared.colours.Depth.{Depth}
use Rattle.turn_logs.specs.Lines.{OnlyPicks}
use Rattle.turn_logs.specs.Phases.{IsTrueLog}
use Rattle.fb_words.specs.Views.{HeadView}
use Rattle.server_desk.specs.Grabs.{picks_from}

-- its log has the Picks of these values, which are true; and the colours are those that they show
pub record HasRead (first now : HeadView) (depth : Depth) (shown : List ℕ) (count : ℕ) : Type 0 where
  pub values : List ℕ
  pub many : length values ≡ count
  pub head : now ≡ record first { server = record first.server { log = picks_from 0 values } }
  pub only : OnlyPicks now.server.log
  pub true_log : IsTrueLog now.server.log
  pub colours : shown ≡ map (shown_colour depth) values
