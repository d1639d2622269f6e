use Rattle.std.proofs.Common.{rules, ◌≡◌, ◌+◌, ◌≤◌, length, sym, ap, ◌∙◌, subst}
use Rattle.qws_base.specs.declared.journals.JournalEntry.{JournalEntry}
use Rattle.fb_words.specs.declared.known.ServerMode.TheVariants.{Writing}
use Rattle.fb_words.specs.Views.{HeadView, is_client}
use Rattle.turn_logs.specs.Lists.{total}
use Rattle.fb_words.specs.Steps.{IsNextTable, CarriesAtGive}
use Rattle.fb_words.proofs.Serving.{gives_seat}
use Rattle.fb_words.proofs.Heads.{given_head, seen_of}
use Rattle.fb_words.proofs.screen.Screen.give_as.Goals as goal

pub fetch_sub-requires : goal.fetch_sub-requires
fetch_sub-requires g c =
    let P : JournalEntry → HeadView → Type 0 = λ e h. (h.server.mode ≡ Writing) × (e.number ≡ length h.server.closed + 1) × (1 ≤ total (is_client e.client) h.sitting) × IsNextTable h.server × CarriesAtGive h.server e in
    let asked = subst (P g.E.Entry.entry) (sym c.head.view_is) (subst (λ e. P e c.args.head.now) c.requires.entry (c.requires.writing, c.requires.next, c.requires.sits, c.requires.table, c.requires.carries)) in (
      ap (λ h. h.screen.table) c.head.view_is ∙ ap (λ s. s.table) (c.requires.screen ∙ sym c.self.view_is),
      search rules,
      gives_seat _ _ _ _ g.E.Entry.entry c.head.invariant.0 asked.0 asked.1 asked.2 asked.3 asked.4,
    )

pub bounds-head-inside-entry : goal.bounds-head-inside-entry
bounds-head-inside-entry g c = let P : HeadView → Type 0 = λ h. 1 ≤ total (is_client c.args.entry.now.client) h.sitting in
    (seen_of _ _ c.args.entry.now.client c.head.invariant.4 (subst P (sym c.head.view_is) c.requires.sits)).0

pub invariant_of-head : goal.invariant_of-head
invariant_of-head g c = given_head _ c.head.inside.seat.me c.args.entry.now _ _ _ (search rules) (ap (λ h. h.server.mode) c.head.view_is ∙ c.requires.writing)
    (rw c.requires.entry c.fetch_sub.ensures.2) c.head.invariant
