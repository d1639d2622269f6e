use Rattle.std.proofs.Common.{◌-◌, arith}
use Rattle.script_lines.proofs.Adding.{set_last}
use Rattle.script_lines.proofs.additions.add_glyph.Goals as goal

pub returns : goal.returns
returns c = set_last c.args.fonts.now.items (c.len-last.result - 1) c.args.glyph.now _ c.index_mut.result.now c.add_to.new.font (omega arith) c.index_mut.ensures.value c.in_ok-add_to.ensures
