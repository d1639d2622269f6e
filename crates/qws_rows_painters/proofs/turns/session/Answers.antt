use Rattle.std.proofs.Common.{ap}
use Rattle.fb_words.specs.Views.{PassView}
use Rattle.qws_rows_painters.proofs.Served.{first_head}
use Rattle.qws_rows_painters.proofs.turns.session.Goals as goal

pub returns-clause-head : goal.returns-clause-head
returns-clause-head c = first_head _ _ _ _ _ _ _ _ _ _ _ _ c.in_ok-screen.ensures.head c.in_ok-first.ensures.head c.in_ok-second.ensures.head c.in_ok-third.ensures.head c.sit.ensures.head (ap (λ (p : PassView). p.client.number) c.in_ok-third.ensures.pass) c.in_ok-words.ensures.value
