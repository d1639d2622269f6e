use Rattle.clip_refetch.proofs.Refreshing.{fresh_law}
use Rattle.clip_refetch.proofs.laws.kept_clips_are_fresh.Goals as goal

pub returns : goal.returns
returns c = fresh_law
