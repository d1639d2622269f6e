use Rattle.std.proofs.Common.{◌∙◌, ap, rules, ℕ, List}
use Rattle.script_names.specs.Naming.{naming, with_name}
use Rattle.script_names.proofs.Tables.{named_is}
use Rattle.script_names.proofs.slots.Slots.put.Goals as goal

pub returns-clause-ok : goal.returns-clause-ok
returns-clause-ok c =
    let updates = c.in_ok-insert.ensures.updates in
    named_is (λ k. k.items) c.self.inside.by_name.entries c.insert.new.self.entries c.in_ok-name.name c.args.slot updates.1 updates.3
    ∙ ap (λ (t : List (List ℕ × ℕ)). with_name (naming t) c.in_ok-name.name.items c.args.slot) c.self.view_is
    ∙ ap (λ (n : List ℕ). with_name (naming c.args.self.now) n c.args.slot) (c.in_ok-name.ensures.items_if_clones_equal (search rules))
