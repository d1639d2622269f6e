use Rattle.std.proofs.Common.{◌≡◌, ℕ, ◌==◌, not, Option, Some, None, List, length, ap, sym, subst, ◌∙◌}
use Rattle.std.specs.Prelude.{is_none}
use Rattle.std.specs.List.{find, list_any, range_with_len}
use Rattle.std.specs.Option.{option_map_or}
use Rattle.qws_base.specs.Stacking.{free_slot, new_window, with_front}
use Rattle.qws_base.specs.declared.windows.WindowView.{WindowView}
use Rattle.window_stack.specs.declared.stacked.StackedWindow.{StackedWindow}
use Rattle.window_stack.specs.Kept.{views_of}
use Rattle.window_stack.specs.Stacks.{IsStack}
use Rattle.window_stack.proofs.StackLemmas.{free_is, full_is, can_create, none_stops, full_stops, free_without}
use Rattle.window_stack.proofs.stacks.Stack.create.Goals as goal

full_told : (vs ws : List WindowView) → vs ≡ ws → IsStack vs → is_none (free_slot ws) ≡ (length ws == 32)
full_told vs ws e s = subst (λ us. is_none (free_slot us) ≡ (length us == 32)) e (full_is vs s)

pub returns-then-layer-gt1-clause-full : goal.returns-then-layer-gt1-clause-full
returns-then-layer-gt1-clause-full c = full_told (views_of c.self.inside.windows.items) c.args.self.now c.self.view_is c.self.invariant.0

least : (ws items : List StackedWindow) (vs : List WindowView) (slot : Option ℕ) → ws ≡ items → views_of items ≡ vs → find (λ k. not (list_any (λ w. w.slot == k) ws)) (range_with_len 0 32) ≡ slot → free_slot vs ≡ slot
least ws items vs slot e f h = sym (free_is ws ∙ ap (λ us. free_slot (views_of us)) e ∙ ap free_slot f) ∙ h

pub returns-in_default-clause-refusal : goal.returns-in_default-clause-refusal
returns-in_default-clause-refusal c =
    full_stops c.args.self.now c.args.layer (subst IsStack c.self.view_is c.self.invariant.0)
    (least c.deref.result.now c.self.inside.windows.items c.args.self.now None c.deref.ensures.value c.self.view_is (sym c.least_free.ensures ∙ c.in_default.is)) c.if-layer-gt1.false

pub returns-in_default-clause-full : goal.returns-in_default-clause-full
returns-in_default-clause-full c = full_told (views_of c.self.inside.windows.items) c.args.self.now c.self.view_is c.self.invariant.0

pub returns-clause-full : goal.returns-clause-full
returns-clause-full c = full_told (views_of c.self.inside.windows.items) c.args.self.now c.self.view_is c.self.invariant.0

pub put_front-requires : goal.put_front-requires
put_front-requires c =
    can_create c.args.self.now c.in-Some.slot c.args.owner c.args.layer (subst IsStack c.self.view_is c.self.invariant.0)
    (least c.deref.result.now c.self.inside.windows.items c.args.self.now (Some c.in-Some.slot) c.deref.ensures.value c.self.view_is (sym c.least_free.ensures ∙ c.in-Some.is)) c.if-layer-gt1.false

free : (c : goal.After-put_front) → free_slot c.args.self.now ≡ Some c.in-Some.slot
free c = least c.deref.result.now c.self.inside.windows.items c.args.self.now (Some c.in-Some.slot) c.deref.ensures.value c.self.view_is (sym c.least_free.ensures ∙ c.in-Some.is)

pub returns-clause-refusal : goal.returns-clause-refusal
returns-clause-refusal c = none_stops c.args.self.now c.in-Some.slot c.args.layer (subst IsStack c.self.view_is c.self.invariant.0) (free c) c.if-layer-gt1.false

pub returns-clause-slot : goal.returns-clause-slot
returns-clause-slot c = free c

pub returns-clause-created : goal.returns-clause-created
returns-clause-created c =
    c.put_front.ensures.window
    ∙ sym (ap (λ slot. option_map_or (λ k. with_front (new_window k c.args.owner c.args.layer) c.args.self.now) slot c.args.self.now) (free c))

pub returns-clause-others : goal.returns-clause-others
returns-clause-others c = c.put_front.ensures.others ∙ sym (free_without c.args.self.now c.in-Some.slot (free c))

pub returns-clause-in_range : goal.returns-clause-in_range
returns-clause-in_range c =
    (can_create c.args.self.now c.in-Some.slot c.args.owner c.args.layer (subst IsStack c.self.view_is c.self.invariant.0) (free c) c.if-layer-gt1.false).window.slot
