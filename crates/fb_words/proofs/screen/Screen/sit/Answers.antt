use Rattle.std.proofs.Common.{rules, ◌<◌, sym, ap, ◌∙◌, subst}
use Rattle.fb_words.specs.Views.{busy_mode}
use Rattle.fb_words.proofs.Sitting.{sits_seat}
use Rattle.fb_words.proofs.Serving.{tells_seat}
use Rattle.atomic_table.specs.Table.{Me}
use Rattle.fb_words.specs.declared.known.View.{View}
use Rattle.fb_words.specs.Steps.{SitOnce}
use Rattle.fb_words.proofs.Here.{all_here}
use Rattle.fb_words.proofs.Found.{joined_idle}
use Rattle.fb_words.proofs.Heads.{joined_is_head, same_seat_sits, same_seat_knows, joined_head, joined_within}
use Rattle.fb_words.proofs.screen.Screen.sit.Goals as goal

pub join_seat-requires : goal.join_seat-requires
join_seat-requires c = (
  ap (λ h. h.screen.table) c.head.view_is ∙ ap (λ s. s.table) (c.requires.screens.0 ∙ sym c.self.view_is),
  ap (λ h. h.screen.table) c.pass.view_is ∙ ap (λ s. s.table) (c.requires.screens.1 ∙ sym c.self.view_is),
  ap (λ m. m.1) c.pass.invariant.0,
  search rules,
  sits_seat _ _ _ _ _ (ap (λ m. m.0) c.pass.invariant.0),
)

pub load-requires : goal.load-requires
load-requires c = (
  c.join_seat.ensures.0 ∙ ap (λ h. h.screen.table) c.head.view_is ∙ ap (λ s. s.table) (c.requires.screens.0 ∙ sym c.self.view_is),
  search rules,
  tells_seat _ _ _ _ (joined_is_head _ c.head.inside.seat.me c.pass.inside.seat.me.0 c.join_seat.ensures.2 c.head.invariant.0),
)

pub returns-clause-known : goal.returns-clause-known
returns-clause-known c = same_seat_sits _ _ c.load.ensures.2.0 c.load.ensures.2.1

pub returns-clause-all : goal.returns-clause-all
returns-clause-all c = same_seat_knows _ _ c.load.ensures.2.0 c.load.ensures.2.4

pub bounds-head-inside-client : goal.bounds-head-inside-client
bounds-head-inside-client c = subst (λ n. n < 16) (sym (c.client.ensures ∙ c.pass.invariant.1))
    (joined_within _ c.head.inside.seat.me c.pass.inside.seat.me.0 c.join_seat.ensures.2 (ap (λ m. m.0) c.pass.invariant.0) c.load.ensures.2.1 c.load.ensures.2.3)

pub invariant_of-head : goal.invariant_of-head
invariant_of-head c = let alone_is = ap (λ m. m.0) c.pass.invariant.0 in let number = c.client.ensures ∙ c.pass.invariant.1 in
    joined_head _ _ c.head.inside.seat.me c.pass.inside.seat.me.0 _ _ _ _ _ c.load.ensures.2.0 c.join_seat.ensures.2 c.head.invariant (search rules) alone_is
    (ap (λ m. busy_mode m) (ap (λ h. h.client.mode) c.pass.view_is ∙ c.requires.idle)) number c.pass.invariant.3
    (subst (λ n. n < 16) (sym number) (joined_within _ c.head.inside.seat.me c.pass.inside.seat.me.0 c.join_seat.ensures.2 alone_is c.load.ensures.2.1 c.load.ensures.2.3)) c.load.ensures.2.2

pub returns-clause-whole : goal.returns-clause-whole
returns-clause-whole c = all_here _ _ (same_seat_sits _ _ c.load.ensures.2.0 c.load.ensures.2.1) (subst (λ (m : Me (Unit {0}) View). SitOnce m.0.clients) (sym c.load.ensures.2.0) c.load.ensures.2.2)

pub returns-clause-all_idle : goal.returns-clause-all_idle
returns-clause-all_idle c = joined_idle _ _ c.head.inside.seat.me c.pass.inside.seat.me.0 c.load.ensures.2.0 c.join_seat.ensures.2 c.head.invariant.2 (ap (λ m. m.0) c.pass.invariant.0)
    (ap (λ m. busy_mode m) (ap (λ h. h.client.mode) c.pass.view_is ∙ c.requires.idle))
