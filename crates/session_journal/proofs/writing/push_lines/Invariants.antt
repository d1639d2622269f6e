use Rattle.std.proofs.Common.{◌≡◌, ◌++◌, ◌<◌, ◌^◌, ℕ, length, map, take, unwrap_or, nat_eq}
use Rattle.std.specs.Prelude.{All}
use Rattle.std.specs.List.{flat_map}
use Rattle.session_journal.specs.Grammar.{IsComment}
use Rattle.std.specs.HashMap.{get}
use Rattle.session_journal.specs.Texts.{told, entries_of, comments, line_text}
use Rattle.session_journal.proofs.writing.push_lines.Given as goal

abbrev pub invariant-loop-entry : goal.invariant-loop-entry
invariant-loop-entry l = record {
  counts : (q : ℕ) → unwrap_or (get nat_eq l.counts q) 0 ≡ entries_of q (map told (take l.entry-index l.entries));
  lines : length l.entries < 2 ^ 32 → All IsComment (comments (map told (take l.entry-index l.entries)));
  out : l.out.items ≡ l.fn.out.items ++ flat_map line_text (comments (map told (take l.entry-index l.entries)));
}
