use Rattle.std.proofs.Common.{arith}
use Rattle.session_journal.specs.Texts.{paint_words}
use Rattle.session_journal.proofs.CommentLemmas.{comment_is, paint_fits}
use Rattle.session_journal.proofs.writing.push_paint_comment.Goals as goal

pub returns-in_err-words-clause-line : goal.returns-in_err-words-clause-line
returns-in_err-words-clause-line c = λ few. comment_is c.args.client c.args.number (paint_words c.args.reply) (omega arith) few (paint_fits c.args.reply c.paint_text.ensures.prints)

pub returns-clause-line : goal.returns-clause-line
returns-clause-line c = λ few. comment_is c.args.client c.args.number (paint_words c.args.reply) (omega arith) few (paint_fits c.args.reply c.paint_text.ensures.prints)
