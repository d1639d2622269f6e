use Rattle.std.proofs.Common.{rules, ◌∙◌}
use Rattle.fb_words.proofs.Opening.{filled}
use Rattle.fb_words.proofs.seats.opening_screen.Goals as goal

pub returns : goal.returns
returns c = c.in_ok-resize.ensures.items ∙ filled c.args.count c.args.pixels c.args.backdrop _ c.in_ok-words.words.items c.in_ok-words.ensures (search rules)
