use Rattle.fb_words.proofs.ServerLogs.{log_law}
use Rattle.fb_words.proofs.laws.logs_stay_true.Goals as goal

pub returns : goal.returns
returns c = log_law
