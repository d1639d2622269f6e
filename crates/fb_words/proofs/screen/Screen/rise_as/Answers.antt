use Rattle.std.proofs.Common.{rules, ℕ, ◌≡◌, ◌≤◌, ◌<◌, sym, ap, ◌∙◌, subst}
use Rattle.atomic_table.specs.Table.{Me}
use Rattle.fb_words.specs.declared.known.View.{View}
use Rattle.fb_words.specs.Views.{HeadView, is_client, client_of, books_in, only}
use Rattle.turn_logs.specs.Lists.{total}
use Rattle.fb_words.proofs.Sitting.{rises_seat, risen_ok}
use Rattle.fb_words.proofs.Heads.{risen_head, seen_of, idle_there}
use Rattle.fb_words.proofs.screen.Screen.rise_as.Goals as goal

pub split_seat-seat-requires : goal.split_seat-seat-requires
split_seat-seat-requires g c = let P : ℕ → HeadView → Type 0 = λ n h. 1 ≤ total (is_client n) h.sitting in (
  ap (λ h. h.screen.table) c.head.view_is ∙ ap (λ s. s.table) (c.requires.screen ∙ sym c.self.view_is),
  search rules,
  rises_seat _ _ _ _ (ap (λ m. m.0) c.head.invariant.0) (subst (P g.N.Number.number) (sym c.head.view_is) (subst (λ n. P n c.args.head.now) c.requires.number c.requires.sits.here)),
)

pub bounds-head-inside-client : goal.bounds-head-inside-client
bounds-head-inside-client g c = let P : HeadView → Type 0 = λ h. 1 ≤ total (is_client c.args.stub.client) h.sitting in
    let few = (seen_of _ _ c.args.stub.client c.head.invariant.4 (subst P (sym c.head.view_is) c.requires.sits.here)).0 in
    subst (λ n. n < 16) (sym (c.client.ensures ∙ ap (λ b. b.client) c.stub.view_is)) few

pub invariant_of-head : goal.invariant_of-head
invariant_of-head g c = risen_head _ c.head.inside.seat.me _ _ _ _ c.split_seat-seat.ensures.2 c.head.invariant

pub invariant_of-result : goal.invariant_of-result
invariant_of-result g c =
    let P : ℕ → HeadView → Type 0 = λ n h. (1 ≤ total (is_client n) h.sitting) × (c.args.stub.entries ≡ books_in (client_of n h.sitting).own) in
    let asked = subst (P g.N.Number.number) (sym c.head.view_is) (subst (λ n. P n c.args.head.now) c.requires.number (c.requires.sits.here, c.requires.sits.book)) in
    let number = ap (λ b. b.client) c.stub.view_is ∙ c.requires.number in
    let saw = seen_of _ _ g.N.Number.number c.head.invariant.4 asked.0 in
    risen_ok _ c.head.inside.seat.me _ _ _ _ c.split_seat-seat.ensures.4 asked.0 number (ap (λ b. b.entries) c.stub.view_is ∙ asked.1)
    (rw (c.client.ensures ∙ number) saw.1)

pub returns-clause-idle : goal.returns-clause-idle
returns-clause-idle g c = let P : ℕ → HeadView → Type 0 = λ n h. 1 ≤ total (is_client n) h.sitting in
    let here = subst (P g.N.Number.number) (sym c.head.view_is) (subst (λ n. P n c.args.head.now) c.requires.number c.requires.sits.here) in
    ap (λ (m : Me (Unit {0}) View). (only m.0.clients).mode) c.split_seat-seat.ensures.4 ∙ idle_there _ _ c.head.invariant.2 here
