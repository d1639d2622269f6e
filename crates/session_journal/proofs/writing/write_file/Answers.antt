use Rattle.std.proofs.Common.{◌*◌, length, map, arith, rules, ap, ◌∙◌, ℕ, List, subst}
use Rattle.std.specs.Prelude.{All}
use Rattle.session_journal.specs.Grammar.{IsComment}
use Rattle.session_journal.specs.declared.histories.Entry.{Entry}
use Rattle.session_journal.specs.Texts.{told, comments}
use Rattle.session_journal.proofs.LineLemmas.{raster_length}
use Rattle.session_journal.proofs.writing.write_file.Goals as goal

pub returns-clause-file : goal.returns-clause-file
returns-clause-file c = λ few many. record {
  text = search rules;
  comments = subst (λ (h : List Entry). All IsComment (comments (map told h))) c.as_slice.ensures (c.in_ok-push_lines.ensures.lines (omega (arith, few, ap length c.as_slice.ensures)));
  size = c.w-width.ensures.is_screen;
  raster = raster_length c.args.shown.now ∙ ap (λ (n : ℕ). 3 * n) many;
}
