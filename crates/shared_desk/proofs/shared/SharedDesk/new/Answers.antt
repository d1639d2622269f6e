use Rattle.std.proofs.Common.{[], ◌∷◌, ◌++◌, sym, ap, subst, ◌∙◌, Some}
use Rattle.atomic_table.specs.Table.{opening}
use Rattle.shared_desk.specs.declared.known.DeskKey.{DeskKey}
use Rattle.shared_desk.specs.Rule.{Kept, opening_view}
use Rattle.shared_desk.proofs.Dealing.{opens}
use Rattle.shared_desk.proofs.shared.SharedDesk.new.Goals as goal

pub new-requires : goal.new-requires
new-requires c =
    let key : DeskKey = record { desk = c.of.result; callers = c.len.result } in
    subst (λ l. Kept key (opening (0 ∷ []) l (opening_view key))) (sym (c.push_reserved.ensures.items ∙ ap (λ l. l ++ Some c.args.desk ∷ []) c.in-Ok-with_capacity.ensures.items)) (opens key c.args.desk c.of.ensures)
