use Rattle.std.proofs.Common.{◌==◌, ◌∷◌, ◌+◌, ap, ◌∙◌, sym, arith, length, take, length-take}
use Rattle.std.specs.List.{slice_split}
use Rattle.std.proofs.lemmas.List.{length-drop}
use Rattle.script_reader.proofs.Seams.{cut_none, cut_some, cut_within, rest_of}
use Rattle.script_reader.proofs.cuts.cut_at.Goals as goal

pub returns-in-None : goal.returns-in-None
returns-in-None c = cut_none (λ b. b == c.args.byte) c.args.bytes.now (sym c.in-None.ensures)

pub returns-in-Some : goal.returns-in-Some
returns-in-Some c =
    let found = cut_some (λ b. b == c.args.byte) c.args.bytes.now c.in-Some.i (sym c.in-Some.ensures) in
    let within = cut_within (λ b. b == c.args.byte) c.args.bytes.now c.in-Some.i (sym c.in-Some.ensures) in
    let rest = rest_of c.args.bytes.now (c.in-Some.i + 1) in
    (found ∙ ap (λ r. take c.in-Some.i c.args.bytes.now ∷ slice_split (λ b. b == c.args.byte) r) (sym rest), omega (arith, ap length rest ∙ length-drop (c.in-Some.i + 1) c.args.bytes.now, length-take c.in-Some.i c.args.bytes.now, within))
