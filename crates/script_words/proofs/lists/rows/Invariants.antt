use Rattle.std.proofs.Common.{◌≡◌, length, map}
use Rattle.script_grammar.specs.Judging.{each_of}
use Rattle.script_grammar.specs.Words.{row_read}
use Rattle.script_words.specs.Judged.{fronted, seen}
use Rattle.script_words.proofs.lists.rows.Given as goal

abbrev pub invariant-loop-rest : goal.invariant-loop-rest
invariant-loop-rest l = each_of (row_read l.width) (map (λ w. w.now) l.words) ≡ fronted (seen (λ v. v.items) l.all) (each_of (row_read l.width) (map (λ w. w.now) l.rest))

abbrev pub decreases-loop-rest : goal.decreases-loop-rest
decreases-loop-rest l = length l.rest
