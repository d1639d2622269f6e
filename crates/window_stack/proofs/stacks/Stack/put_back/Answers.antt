use Rattle.std.proofs.Common.{◌<◌, length, nat_le, ap, sym, subst, ◌∙◌, arith}
use Rattle.std.specs.Prelude.{◌≢◌, All}
use Rattle.std.specs.List.{filter}
use Rattle.std.proofs.lemmas.List.{length-map}
use Rattle.qws_base.specs.Stacking.{with_back, windows_without}
use Rattle.window_stack.specs.Kept.{view_of, views_of}
use Rattle.window_stack.specs.Stacks.{IsStack}
use Rattle.window_stack.proofs.StackLemmas.{back_views, stack_back, few_pass, others_back}
use Rattle.window_stack.proofs.stacks.Stack.put_back.Goals as goal

pub put_at-requires-clause-place : goal.put_at-requires-clause-place
put_at-requires-clause-place c =
    let few = few_pass (λ w. nat_le c.args.window.layer w.layer) c.deref.result.now in
    omega (arith, few, c.back_of-k.ensures, ap length c.deref.ensures.value)

pub put_at-requires-clause-room : goal.put_at-requires-clause-room
put_at-requires-clause-room c =
    let room : length c.args.self.now < 32 = c.requires.room in
    omega (arith, ap length c.self.view_is, length-map c.self.inside.windows.items view_of, c.self.invariant.1, room)

pub invariant_of-self : goal.invariant_of-self
invariant_of-self c =
    let items = c.self.inside.windows.items in
    let place = c.back_of-k.ensures ∙ ap (λ ws. length (filter (λ w. nat_le c.args.window.layer w.layer) ws)) c.deref.ensures.value in
    let free : All (λ w. w.slot ≢ c.args.window.slot) (views_of items) = subst (All (λ w. w.slot ≢ c.args.window.slot)) (sym c.self.view_is) c.requires.free in (
      subst IsStack (sym (ap views_of c.put_at.ensures.items ∙ back_views items c.back_of-k.result c.args.window place c.self.invariant.0))
          (stack_back (views_of items) (view_of c.args.window) c.requires.window free c.self.invariant.0),
      omega (arith, c.put_at.ensures.capacity, c.self.invariant.1),
    )

pub returns-clause-window : goal.returns-clause-window
returns-clause-window c =
    let items = c.self.inside.windows.items in
    let place = c.back_of-k.ensures ∙ ap (λ ws. length (filter (λ w. nat_le c.args.window.layer w.layer) ws)) c.deref.ensures.value in
    ap views_of c.put_at.ensures.items
    ∙ back_views items c.back_of-k.result c.args.window place c.self.invariant.0
    ∙ ap (with_back (view_of c.args.window)) c.self.view_is

pub returns-clause-others : goal.returns-clause-others
returns-clause-others c =
    let items = c.self.inside.windows.items in
    let place = c.back_of-k.ensures ∙ ap (λ ws. length (filter (λ w. nat_le c.args.window.layer w.layer) ws)) c.deref.ensures.value in
    let free : All (λ w. w.slot ≢ c.args.window.slot) (views_of items) = subst (All (λ w. w.slot ≢ c.args.window.slot)) (sym c.self.view_is) c.requires.free in
    ap (λ ws. windows_without c.args.window.slot (views_of ws)) c.put_at.ensures.items
    ∙ ap (windows_without c.args.window.slot) (back_views items c.back_of-k.result c.args.window place c.self.invariant.0)
    ∙ others_back (views_of items) (view_of c.args.window) c.self.invariant.0 free
    ∙ c.self.view_is
