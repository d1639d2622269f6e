use Rattle.std.proofs.Common.{◌<◌, length, ap, sym, subst, ◌∙◌, arith}
use Rattle.std.proofs.lemmas.List.{length-map, get_or-map}
use Rattle.window_stack.specs.Kept.{view_of}
use Rattle.window_stack.proofs.stacks.Stack.at.Goals as goal

pub returns-clause-slot : goal.returns-clause-slot
returns-clause-slot c =
    let w = c.index-window.result.now in
    let items = c.self.inside.windows.items in
    let low : c.args.k < length items = omega (arith, c.requires, ap length c.self.view_is, length-map items view_of) in
    let fits = c.self.invariant.0.each c.args.k (view_of w) (omega (arith, length-map items view_of, low)) in
    subst (λ v. v.slot < 32) (get_or-map view_of items c.args.k w (view_of w) low ∙ sym (ap view_of c.index-window.ensures)) fits.slot
