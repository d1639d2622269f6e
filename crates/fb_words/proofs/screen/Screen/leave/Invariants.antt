use Rattle.fb_words.specs.Steps.{paint_call}
use Rattle.fb_words.proofs.screen.Screen.leave.Given as goal

abbrev pub ghosts-leave_as : goal.ghosts-leave_as
ghosts-leave_as g a = record { turn = paint_call a.pass.now.client a.entry (g.P.Picture.sheet a.picture.now) }
