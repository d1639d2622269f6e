use Rattle.std.proofs.Common.{ap}
use Rattle.fb_words.specs.Views.{HeadView}
use Rattle.server_desk.proofs.Opening.{current_opens, listed_opens}
use Rattle.server_desk.proofs.kept.Kept.new.Goals as goal

pub invariant_of-result : goal.invariant_of-result
invariant_of-result c = (
  current_opens c.closed_turns_are_kept.ensures c.words_publish_states.ensures c.args.size c.args.depth c.args.backdrop c.in_ok-screen.screen c.in_ok-screen.head c.in_ok-core.core c.w.ensures.is_screen c.in_ok-screen.ensures.setting
      c.in_ok-screen.ensures.head c.in_ok-core.ensures,
  listed_opens c.in_ok-screen.head.server c.new-3.result.items _ (ap (λ (h : HeadView). h.server.limits) c.in_ok-screen.ensures.head) (ap (λ (h : HeadView). h.server.closed) c.in_ok-screen.ensures.head) c.new-3.ensures.items,
)
