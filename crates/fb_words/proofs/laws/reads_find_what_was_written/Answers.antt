use Rattle.fb_words.proofs.ServerLogs.{reading_law}
use Rattle.fb_words.proofs.laws.reads_find_what_was_written.Goals as goal

pub returns : goal.returns
returns c = reading_law
