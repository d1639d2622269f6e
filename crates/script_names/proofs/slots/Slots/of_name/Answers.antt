use Rattle.std.proofs.Common.{◌∙◌, sym, ap, unwrap_or, Option, ℕ, List}
use Rattle.script_names.specs.Naming.{naming}
use Rattle.script_names.proofs.Tables.{naming_found}
use Rattle.script_names.proofs.slots.Slots.of_name.Goals as goal

pub returns : goal.returns
returns c =
    c.unwrap_or.ensures ∙ ap (λ (o : Option ℕ). unwrap_or o 32) (c.copied.ensures ∙ c.get.ensures.value)
    ∙ sym (naming_found (λ k. k.items) c.self.inside.by_name.entries c.args.name.now)
    ∙ ap (λ (t : List (List ℕ × ℕ)). naming t c.args.name.now) c.self.view_is
