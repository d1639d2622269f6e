use Rattle.std.proofs.Common.{◌≡◌, ◌-◌, ℕ, List, length, take, drop, length-take, length-drop, sym, ap, subst, ◌∙◌, arith, rules}
use Rattle.std.proofs.lemmas.List.{take_all}
use Rattle.qws_base.specs.Sides.{Sides}
use Rattle.session_journal.specs.declared.files.File.{File}
use Rattle.session_journal.specs.Grammar.{IsFile}
use Rattle.session_journal.proofs.LeaveLemmas.{with_rows, raster_fits, raster_only, raster_short, raster_long}
use Rattle.session_journal.proofs.reading.with_raster.Goals as goal
use Rattle.session_journal.proofs.reading.with_raster.Goals.{After-of-2}

pub returns-then-raster-wanted-clause-stop : goal.returns-then-raster-wanted-clause-stop
returns-then-raster-wanted-clause-stop c =
    let bytes = c.args.bytes.now in
    let within = c.requires.within in
    let few = c.if-raster-wanted.true in
    raster_short bytes c.args.at c.args.w c.args.h c.args.lines.items within c.requires.leads
    (omega (arith, length-take (length bytes - c.args.at) (drop c.args.at bytes), length-drop c.args.at bytes))

pub returns-then-raster-wanted-2-clause-stop : goal.returns-then-raster-wanted-2-clause-stop
returns-then-raster-wanted-2-clause-stop c =
    let bytes = c.args.bytes.now in
    let within = c.requires.within in
    let many = c.if-raster-wanted-2.true in
    raster_long bytes c.args.at c.args.w c.args.h c.args.lines.items within c.requires.leads
    (omega (arith, length-take (length bytes - c.args.at) (drop c.args.at bytes), length-drop c.args.at bytes))

-- the file that is made
file_made : (c : After-of-2) → ◌≡◌ {A = File} (with_rows c.args.bytes.now c.args.at c.args.w c.args.h c.args.lines.items c.requires.within c.requires.leads (drop c.args.at c.args.bytes.now)) (record { size = c.in-Some.size; lines = c.of.result; raster = c.of-2.result })
file_made c =
    let bytes = c.args.bytes.now in
    let within = c.requires.within in
    let not_few = c.if-raster-wanted.false in
    let not_many = c.if-raster-wanted-2.false in
    let left = length-drop c.args.at bytes in
    let copied : c.in_ok-to_vec.field-0.items ≡ take (length bytes - c.args.at) (drop c.args.at bytes) = search rules in
    let rows : c.of-2.result ≡ drop c.args.at bytes = c.of-2.ensures ∙ copied ∙ take_all (length bytes - c.args.at) (drop c.args.at bytes) (omega arith) in
    ap (λ (s : Sides). record { size = s; lines = c.args.lines.items; raster = drop c.args.at bytes }) (sym c.in-Some.ensures.1)
    ∙ ap (λ (l : List (List ℕ)). record { size = c.in-Some.size; lines = l; raster = drop c.args.at bytes }) (sym c.of.ensures)
    ∙ ap (λ (r : List ℕ). record { size = c.in-Some.size; lines = c.of.result; raster = r }) (sym rows)

pub returns-clause-ok : goal.returns-clause-ok
returns-clause-ok c =
    let bytes = c.args.bytes.now in
    let within = c.requires.within in
    let not_few = c.if-raster-wanted.false in
    let not_many = c.if-raster-wanted-2.false in
    let left = length-drop c.args.at bytes in
    let fits = raster_fits bytes c.args.at c.args.w c.args.h c.args.lines.items within c.requires.leads
    (omega (arith, length-take (length bytes - c.args.at) (drop c.args.at bytes))) in
    subst (λ (f : File). IsFile bytes f) (file_made c) fits

pub returns-clause-one : goal.returns-clause-one
returns-clause-one c = λ other is. raster_only c.args.bytes.now c.args.at c.args.w c.args.h c.args.lines.items c.requires.within c.requires.leads other is ∙ file_made c
