use Rattle.std.proofs.Common.{arith}
use Rattle.session_journal.specs.Texts.{reply_words}
use Rattle.session_journal.proofs.CommentLemmas.{comment_is, reply_fits}
use Rattle.session_journal.proofs.writing.push_step_comment.Goals as goal

pub returns-in_err-words-clause-line : goal.returns-in_err-words-clause-line
returns-in_err-words-clause-line c = λ few. comment_is c.args.client c.args.number (reply_words c.args.reply.now) (omega arith) few (reply_fits c.args.reply.now c.reply_text.ensures.prints)

pub returns-clause-line : goal.returns-clause-line
returns-clause-line c = λ few. comment_is c.args.client c.args.number (reply_words c.args.reply.now) (omega arith) few (reply_fits c.args.reply.now c.reply_text.ensures.prints)
