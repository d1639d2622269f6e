use Rattle.std.proofs.Common.{◌∙◌}
use Rattle.fb_words.proofs.Opening.{one_more}
use Rattle.fb_words.proofs.seats.opening_table.Goals as goal

pub loop-index-preserved : goal.loop-index-preserved
loop-index-preserved c = c.in_ok-push.ensures.items ∙ one_more c.loop-index.index c.opening_word.result c.loop-index.words.items c.loop-index.invariant c.opening_word.ensures
