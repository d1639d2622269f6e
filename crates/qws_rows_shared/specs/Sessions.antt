-- What the tests keep of a client's pass.
use Rattle.std.specs.Prelude.{◌≡◌}
use Rattle.fb_words.specs.declared.known.Mode.TheVariants.{Idle}
use Rattle.fb_words.specs.Views.{ScreenView, PassView}

-- the pass is of the screen, and in no turn
abbrev pub IsAtRest : ScreenView → PassView → Type 0
IsAtRest screen p = (p.screen ≡ screen) × (p.client.mode ≡ Idle)
