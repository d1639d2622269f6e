use Rattle.std.proofs.Common.{◌≡◌, ◌∙◌, sym, ap, subst, rules, Ok, List, ℕ}
use Rattle.std.proofs.lemmas.Result.{MatchResult-at_ok}
use Rattle.script_grammar.specs.Reading.{script_of}
use Rattle.script_grammar.proofs.Sound.{read_is_printed}
use Rattle.session_script.specs.Stored.{said_by, IsFoundIn}
use Rattle.session_script.proofs.Found.{found_in}
use Rattle.session_script.proofs.script.Script.read.Goals as goal

pub made-requires : goal.made-requires
made-requires c =
    let found = MatchResult-at_ok _ _ (c.in-Ok.head, c.in-Ok.body) c.in-Ok.is c.in_ok-head.ensures in
    let same : c.in_ok-kept-in-Ok.kept.items ≡ c.args.bytes.now = c.in_ok-kept-in-Ok.ensures.items_if_clones_equal (search rules) in
    subst (λ (b : List ℕ). IsFoundIn b c.in-Ok.head c.in-Ok.body.fonts.items c.in-Ok.body.images.items c.in-Ok.body.places.items) (sym same) (found_in found)

pub returns-in_ok-made-in-Ok-clause-reads : goal.returns-in_ok-made-in-Ok-clause-reads
returns-in_ok-made-in-Ok-clause-reads c =
    let found = MatchResult-at_ok _ _ (c.in-Ok.head, c.in-Ok.body) c.in-Ok.is c.in_ok-head.ensures in
    let same : c.in_ok-kept-in-Ok.kept.items ≡ c.args.bytes.now = c.in_ok-kept-in-Ok.ensures.items_if_clones_equal (search rules) in
    let said : script_of c.args.bytes.now ≡ Ok c.in_ok-made-in-Ok.field-0 = (found_in found).script ∙ ap (λ (b : List ℕ). Ok (said_by b)) (sym same) ∙ ap Ok (sym c.in_ok-made-in-Ok.ensures) in
    said

pub returns-in_ok-made-in-Ok-clause-session : goal.returns-in_ok-made-in-Ok-clause-session
returns-in_ok-made-in-Ok-clause-session c =
    let found = MatchResult-at_ok _ _ (c.in-Ok.head, c.in-Ok.body) c.in-Ok.is c.in_ok-head.ensures in
    let same : c.in_ok-kept-in-Ok.kept.items ≡ c.args.bytes.now = c.in_ok-kept-in-Ok.ensures.items_if_clones_equal (search rules) in
    let said : script_of c.args.bytes.now ≡ Ok c.in_ok-made-in-Ok.field-0 = (found_in found).script ∙ ap (λ (b : List ℕ). Ok (said_by b)) (sym same) ∙ ap Ok (sym c.in_ok-made-in-Ok.ensures) in
    (read_is_printed c.args.bytes.now c.in_ok-made-in-Ok.field-0 said).1

pub returns-in_ok-made-in-Ok-clause-printed : goal.returns-in_ok-made-in-Ok-clause-printed
returns-in_ok-made-in-Ok-clause-printed c =
    let found = MatchResult-at_ok _ _ (c.in-Ok.head, c.in-Ok.body) c.in-Ok.is c.in_ok-head.ensures in
    let same : c.in_ok-kept-in-Ok.kept.items ≡ c.args.bytes.now = c.in_ok-kept-in-Ok.ensures.items_if_clones_equal (search rules) in
    let said : script_of c.args.bytes.now ≡ Ok c.in_ok-made-in-Ok.field-0 = (found_in found).script ∙ ap (λ (b : List ℕ). Ok (said_by b)) (sym same) ∙ ap Ok (sym c.in_ok-made-in-Ok.ensures) in
    (read_is_printed c.args.bytes.now c.in_ok-made-in-Ok.field-0 said).0
