use Rattle.std.proofs.Common.{refl, is_some, ◌==◌, ap, sym, subst, ◌∙◌, arith}
use Rattle.std.specs.List.{find, position}
use Rattle.std.specs.Option.{option_map}
use Rattle.qws_base.specs.Windows.{is_live, has_slot}
use Rattle.qws_base.specs.Stacking.{windows_without}
use Rattle.window_stack.specs.Kept.{view_of, views_of, CanStand}
use Rattle.window_stack.specs.Stacks.{IsStack}
use Rattle.window_stack.proofs.StackLemmas.{without_twice, find_live, IsTaken, not_there, not_found, without_none, low_place, taken, stack_without}
use Rattle.window_stack.proofs.stacks.Stack.take_out.Goals as goal

pub returns-in_err-k-clause-window : goal.returns-in_err-k-clause-window
returns-in_err-k-clause-window c =
    let place = sym c.place_of.ensures ∙ c.in_err-k.was in
    let gone = ap (λ vs. is_live vs c.args.slot) (sym (ap views_of c.deref.ensures.value ∙ c.self.view_is)) ∙ not_there c.args.slot c.deref.result.now place in
    ap (option_map view_of) c.from_residual.ensures ∙ sym (not_found (has_slot c.args.slot) c.args.self.now gone)

pub returns-in_err-k-clause-without : goal.returns-in_err-k-clause-without
returns-in_err-k-clause-without c =
    let place = sym c.place_of.ensures ∙ c.in_err-k.was in
    let gone = ap (λ vs. is_live vs c.args.slot) (sym (ap views_of c.deref.ensures.value ∙ c.self.view_is)) ∙ not_there c.args.slot c.deref.result.now place in
    sym (without_none c.args.slot c.args.self.now gone)

pub remove-requires : goal.remove-requires
remove-requires c = omega (arith, low_place c.args.slot c.deref.result.now c.in_ok-k.k (sym c.place_of.ensures ∙ c.in_ok-k.was), c.deref.ensures.len)

it : (c : goal.After-remove) → IsTaken c.args.slot c.self.inside.windows.items c.in_ok-k.k c.remove.result
it c =
    taken c.args.slot c.self.inside.windows.items c.in_ok-k.k c.remove.result
    (ap (position (λ w. w.slot == c.args.slot)) (sym c.deref.ensures.value) ∙ sym c.place_of.ensures ∙ c.in_ok-k.was)
    c.remove.ensures.value c.self.invariant.0

pub invariant_of-self : goal.invariant_of-self
invariant_of-self c =
    (subst IsStack (sym (ap views_of c.remove.ensures.items ∙ (it c).left)) (stack_without c.args.slot (views_of c.self.inside.windows.items) c.self.invariant.0), omega (arith, c.remove.ensures.capacity, c.self.invariant.1))

pub returns-clause-window : goal.returns-clause-window
returns-clause-window c = sym (ap (find (has_slot c.args.slot)) (sym c.self.view_is) ∙ (it c).found)

pub returns-in_err-k-clause-live : goal.returns-in_err-k-clause-live
returns-in_err-k-clause-live c =
    let place = sym c.place_of.ensures ∙ c.in_err-k.was in
    ap is_some c.from_residual.ensures ∙ sym (ap (λ vs. is_live vs c.args.slot) (sym (ap views_of c.deref.ensures.value ∙ c.self.view_is)) ∙ not_there c.args.slot c.deref.result.now place)

pub returns-clause-live : goal.returns-clause-live
returns-clause-live c = sym (ap is_some (ap (find (has_slot c.args.slot)) (sym c.self.view_is) ∙ (it c).found)) ∙ find_live (has_slot c.args.slot) c.args.self.now

pub returns-clause-without : goal.returns-clause-without
returns-clause-without c = ap views_of c.remove.ensures.items ∙ (it c).left ∙ ap (windows_without c.args.slot) c.self.view_is

pub returns-clause-slot : goal.returns-clause-slot
returns-clause-slot c = (it c).same

pub returns-clause-stands : goal.returns-clause-stands
returns-clause-stands c = subst (λ ws. CanStand (view_of c.remove.result) (views_of ws)) (sym c.remove.ensures.items) (it c).stands

pub returns-in_err-k-clause-others : goal.returns-in_err-k-clause-others
returns-in_err-k-clause-others c = refl

pub returns-clause-others : goal.returns-clause-others
returns-clause-others c =
    ap (λ ws. windows_without c.args.slot (views_of ws)) c.remove.ensures.items
    ∙ ap (windows_without c.args.slot) ((it c).left)
    ∙ without_twice c.args.slot (views_of c.self.inside.windows.items)
    ∙ ap (windows_without c.args.slot) c.self.view_is
