use Rattle.std.proofs.Common.{◌≡◌, ◌<◌, ◌≤◌, ◌+◌, length, ap, ◌∙◌, arith, subst, sym}
use Rattle.fb_words.specs.Views.{HeadView}
use Rattle.server_desk.proofs.Opening.{current_more, listed_more}
use Rattle.server_desk.proofs.kept.Kept.connect.Goals as goal

pub invariant_of-self-2 : goal.invariant_of-self-2
invariant_of-self-2 c =
    let k = c.self.inside in
    let listed = c.self.invariant.1 in
    let test = c.if-self-eq-MOST_CLIENTS.false in
    let few = listed.few in
    let is = listed.connected_is in (
      current_more c.words_publish_states.ensures k.head c.admit.new.head k.core c.args.step_limit c.in_ok-pass.ensures.head c.self.invariant.0,
      subst (λ (h : HeadView). Rattle.server_desk.specs.Keeping.IsListed h.server c.reserve.new.journal.items (k.connected + 1) k.made (Rattle.std.specs.Prelude.slice_set k.left k.connected c.args.step_limit) (k.room + c.args.step_limit) (Rattle.std.proofs.Common.vec_capacity c.reserve.new.journal)) (sym c.in_ok-pass.ensures.head)
          (listed_more k.head.server k.journal.items c.reserve.new.journal.items k.connected k.made k.left k.room _ _ c.args.step_limit listed (omega arith) c.in_ok-reserve.ensures.items c.in_ok-reserve.ensures.fits c.in_ok-reserve.ensures.bounded),
    )
