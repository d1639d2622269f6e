use Rattle.std.proofs.Common.{sym, subst}
use Rattle.fb_words.specs.Clips.{EachKeepsClips}
use Rattle.fb_words.specs.Views.{HeadView}
use Rattle.qws_base.specs.Books.{BookView}
use Rattle.fb_words.specs.Steps.{SitsAs}
use Rattle.fb_words.proofs.Here.{stubs_given}
use Rattle.fb_words.proofs.Keeping.{gives_keep}
use Rattle.fb_words.proofs.screen.Screen.give.Goals as goal

pub returns-clause-kept : goal.returns-clause-kept
returns-clause-kept c = let P : HeadView → Type 0 = λ h. EachKeepsClips c.args.head.now.sitting h.sitting in subst P (sym c.give_as.ensures) (gives_keep c.args.entry.now c.args.head.now.sitting)

pub returns-clause-stubs : goal.returns-clause-stubs
returns-clause-stubs c = let P : HeadView → Type 0 = λ h. (stub : BookView) → SitsAs stub c.args.head.now.sitting → SitsAs stub h.sitting in subst P (sym c.give_as.ensures) (stubs_given c.args.entry.now c.args.head.now.sitting)
