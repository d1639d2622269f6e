-- The picture that the server reads in a turn of its own.
use Rattle.std.specs.Prelude.{◌≡◌, ℕ, List, length}
use Rattle.qws_base.specs.Colours.{shown_colour}
use Rattle.qws_base.specs.Scenes.{by_pixels}
use Rattle.region_table.specs.Numbers.{pixel_word}
use Rattle.fb_words.specs.Views.{HeadView}
use Rattle.fb_words.specs.Steps.{arranged}
use Rattle.fb_words.specs.declared.known.Client.{Client}
use Rattle.fb_words.specs.declared.known.Server.{Server}
use Rattle.fb_words.specs.Desks.{AreWritten, history_of}
use Rattle.qws_base.specs.Histories.{World, world_after}
use Rattle.qws_base.specs.Shown.{shown_picture}

-- the colours are those of words that all closed turns have written in the framebuffer
pub record IsPicture (head : HeadView) (shown : List ℕ) : Type 0 where
  pub words : ℕ → ℕ
  pub written : AreWritten head.server (arranged (length head.server.limits) head.sitting) words
  pub colours : shown ≡ by_pixels head.server.setting.size (λ p. shown_colour head.server.setting.depth (words (pixel_word p)))

-- the colours are those of the picture after all closed turns of a server and its clients, with the cursor above
abbrev pub ShowsWhole : Server → List Client → List ℕ → Type 0
ShowsWhole s cs shown = let world : World = world_after s.setting (history_of s cs) in shown ≡ shown_picture s.setting world.state.cursor world.scene
