use Rattle.std.proofs.Common.{◌≡◌, ◌∙◌, sym, ap, arith}
use Rattle.std.specs.List.{filter, range_with_len}
use Rattle.qws_base.specs.Stacking.{slots}
use Rattle.qws_base.specs.Steps.{is_modified}
use Rattle.window_arrangements.proofs.CheckLemmas.{filter_takes, filter_skips}
use Rattle.window_arrangements.proofs.checks.modified_slots.Goals as goal
use Rattle.window_arrangements.proofs.checks.modified_slots.Goals.{then-is_modified+in_ok-push, else-is_modified}

pub loop-slot-preserved : goal.loop-slot-preserved
loop-slot-preserved c =
    let p = is_modified c.args.before.now.size c.args.before.now.windows c.args.after.now.windows in
    elim c.if-is_modified.branch [
      | then-is_modified+in_ok-push w ↦ filter_takes p c.loop-slot.slot c.loop-slot.modified.items c.if-is_modified.modified.items c.loop-slot.invariant (sym c.is_modified.ensures ∙ w.if-is_modified.true) (let a = w.modified-is in let b = w.in_ok-push.ensures.items in cc)
      | else-is_modified w ↦ (let a = w.modified-is in let b = filter_skips p c.loop-slot.slot c.loop-slot.modified.items c.loop-slot.invariant (sym c.is_modified.ensures ∙ w.if-is_modified.false) in cc)
    ]

pub returns : goal.returns
unfolding slots
returns c =
    let end : c.loop-slot.slot ≡ 32 = omega arith in
    c.loop-slot.invariant ∙ ap (λ n. filter (is_modified c.args.before.now.size c.args.before.now.windows c.args.after.now.windows) (range_with_len 0 n)) end
