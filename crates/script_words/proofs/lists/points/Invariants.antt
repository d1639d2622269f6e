use Rattle.std.proofs.Common.{◌≡◌, length, map}
use Rattle.script_grammar.specs.Words.{points_read}
use Rattle.script_words.specs.Judged.{fronted, seen}
use Rattle.script_words.proofs.lists.points.Given as goal

abbrev pub invariant-loop-rest : goal.invariant-loop-rest
invariant-loop-rest l = points_read (map (λ w. w.now) l.words) ≡ fronted (seen (λ v. v.items) l.all) (points_read (map (λ w. w.now) l.rest))

abbrev pub decreases-loop-rest : goal.decreases-loop-rest
decreases-loop-rest l = length l.rest
