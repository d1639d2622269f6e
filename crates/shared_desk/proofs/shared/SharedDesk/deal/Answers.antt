use Rattle.std.proofs.Common.{rules, ◌≡◌, ℕ, suc, [], ◌∷◌, ◌++◌, length, sym, ap, subst, ◌∙◌, ⊎_elim, append_assoc, arith}
use Rattle.std.specs.Vec.Iter.{into_iter_items}
use mathlib.Core.Option.{some}
use lib.ListN.{get_elem?}
use Rattle.shared_desk.specs.declared.callers.Caller.{Caller}
use Rattle.shared_desk.specs.Leases.{lease_of}
use Rattle.shared_desk.specs.Rule.{parts, knows, only}
use Rattle.shared_desk.proofs.Dealing.{splits}
use Rattle.shared_desk.proofs.Looping.{at_end, longer, passes_more, still, dealt, lease_is}
use Rattle.shared_desk.proofs.shared.SharedDesk.deal.Goals as goal

pub split_seat-own-requires : goal.split_seat-own-requires
split_seat-own-requires c = (c.loop-pass.invariant.table ∙ sym (ap (λ s. s.table) c.self.view_is), search rules, splits _ _ _)

pub loop-pass-preserved : goal.loop-pass-preserved
loop-pass-preserved c =
    let at = c.loop-pass in
    let inv = at.invariant in
    let x = c.in-Some.pass in
    let s = c.args.self.now in
    let steps : into_iter_items at.pass-iterator ≡ x ∷ into_iter_items c.next.new.self = c.in-Some.ensures.steps.0 in
    let short : length (into_iter_items at.pass-iterator) ≡ suc (length (into_iter_items c.next.new.self)) = ap length steps in
    let more = longer at.yielded x in
    let items = c.push_reserved.ensures.items in
    let own = dealt s.desk (length at.yielded) _ _ at.seat.me c.split_seat-own.result.me short inv.me c.split_seat-own.ensures.4 in
    let lease = lease_is s c.split_seat-own.result.table_id c.split_seat-own.result.me (length at.yielded) (c.split_seat-own.ensures.3 ∙ inv.table) own in
    let caller : Caller = record { pass = x; lease = record { table = c.split_seat-own.result.table_id; desk = (only c.split_seat-own.result.me.0.callers).desk; number = (only c.split_seat-own.result.me.0.callers).number } } in
    record {
      whole = append_assoc at.yielded (x ∷ []) _ ∙ rw (← steps) inv.whole;
      left = let gone = c.in-Some.ensures.steps.1 in let was = inv.left in omega arith;
      table = c.split_seat-own.ensures.0 ∙ inv.table;
      me = subst (λ (k : ℕ). c.split_seat-own.new.seat.me ≡ (knows (parts s.desk k (length (into_iter_items c.next.new.self))), [])) (sym more)
          (still s.desk (length at.yielded) _ _ at.seat.me c.split_seat-own.new.seat.me short inv.me c.split_seat-own.ensures.2);
      many = ap length items ∙ longer at.callers.items caller ∙ ap suc inv.many ∙ sym more;
      room = let l = c.push_reserved.ensures.len in let k = c.push_reserved.ensures.capacity in let r = inv.room in omega arith;
      each = λ k d e. ⊎_elim (λ (h : get_elem? at.callers.items k ≡ some d). inv.each k d h)
          (λ (h : (k ≡ length at.callers.items) × (caller ≡ d)). sym (ap (λ (y : Caller). y.lease) h.1) ∙ lease ∙ ap (lease_of s) (sym inv.many ∙ sym h.0))
          (at_end at.callers.items caller d k (sym (ap (λ l. get_elem? l k) items) ∙ e));
      passes = ap (λ l. Rattle.shared_desk.specs.Together.passes_of l) items ∙ passes_more at.callers.items caller ∙ ap (λ l. l ++ x ∷ []) inv.passes;
    }
