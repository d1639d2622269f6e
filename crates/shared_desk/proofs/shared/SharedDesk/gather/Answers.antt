use Rattle.std.proofs.Common.{rules, ◌≡◌, [], ◌∷◌, ◌++◌, length, sym, ap, ◌∙◌, append_assoc, arith}
use Rattle.std.specs.Vec.Iter.{into_iter_items}
use Rattle.shared_desk.specs.Rule.{knows}
use Rattle.shared_desk.proofs.Dealing.{enters, joins}
use Rattle.shared_desk.proofs.Looping.{placed, longer, passes_more, back, lease_me}
use Rattle.shared_desk.proofs.shared.SharedDesk.gather.Goals as goal

pub load_new_seat-seat-requires : goal.load_new_seat-seat-requires
load_new_seat-seat-requires c = (search rules, enters _ _ (knows [], []))

pub join_seat-requires : goal.join_seat-requires
join_seat-requires c =
    let at = c.loop-caller in
    let x = c.in-Some.caller in
    let of = c.requires.all.of (length at.yielded) x (placed at.yielded _ _ _ _ x at.invariant.whole c.into_iter-caller-iterator.ensures.into_iter_gives.0 c.in-Some.ensures.steps.0) in
    let here = sym (ap (λ s. s.table) c.self.view_is) in (
      at.invariant.table ∙ here,
      ap (λ l. l.table) c.lease.view_is ∙ of.0 ∙ here,
      ap (λ m. m.1) c.lease.invariant,
      search rules,
      joins _ _ _ _ _,
    )

pub loop-caller-preserved : goal.loop-caller-preserved
loop-caller-preserved c =
    let at = c.loop-caller in
    let inv = at.invariant in
    let x = c.in-Some.caller in
    let s = c.args.self.now in
    let steps : into_iter_items at.caller-iterator ≡ x ∷ into_iter_items c.next.new.self = c.in-Some.ensures.steps.0 in
    let short = ap length steps in
    let more = longer at.yielded x in
    let of = c.requires.all.of (length at.yielded) x (placed at.yielded _ _ _ _ x inv.whole c.into_iter-caller-iterator.ensures.into_iter_gives.0 steps) in
    let own = lease_me s x.lease c.lease.inside.seat.me c.lease.invariant (ap (λ l. l.desk) c.lease.view_is) (ap (λ l. l.number) c.lease.view_is) of in record {
      whole = append_assoc at.yielded (x ∷ []) _ ∙ rw (← steps) inv.whole;
      left = let gone = c.in-Some.ensures.steps.1 in let was = inv.left in omega arith;
      table = c.join_seat.ensures.0 ∙ inv.table;
      me = back s.desk at.yielded x at.seat.me c.lease.inside.seat.me c.join_seat.new.seat.me inv.me own c.join_seat.ensures.2;
      room = let l = c.push_reserved.ensures.len in let k = c.push_reserved.ensures.capacity in let r = inv.room in omega arith;
      passes = c.push_reserved.ensures.items ∙ ap (λ l. l ++ x.pass ∷ []) inv.passes ∙ sym (passes_more at.yielded x);
    }
