use Rattle.std.proofs.Common.{◌≡◌, ◌+◌, ◌<◌, ℕ, List, [], length, get_or, map, sym, ap, ◌∙◌, arith}
use Rattle.std.proofs.lemmas.List.{ext_get_or, length-map, get_or-map}
use Rattle.qws_base.specs.Books.{BookView}
use Rattle.session_journal.specs.Merging.{entries_below}
use Rattle.session_journal.proofs.merging.push_stamp.Goals as goal

-- the places of all books
all_places : (s : ℕ) (books : List BookView) (places : List ℕ) → length places ≡ length books → ((j : ℕ) (d : BookView) → j < length books → get_or places j 0 ≡ entries_below s (get_or books j d).entries)
    → places ≡ map (λ book. entries_below s book.entries) books
all_places s books places same each =
    let none : BookView = record { client = 0; limit = 0; entries = [] } in
    let long = length-map books (λ (book : BookView). entries_below s book.entries) in
    ext_get_or 0 places (map (λ book. entries_below s book.entries) books) (omega arith)
    (λ j below. each j none (omega arith) ∙ sym (get_or-map (λ (book : BookView). entries_below s book.entries) books j none 0 (omega arith)))

pub returns-clause-places : goal.returns-clause-places
returns-clause-places c =
    let long = length-map c.args.books.now (λ (book : BookView). entries_below c.args.stamp book.entries) in
    all_places (c.args.stamp + 1) c.args.books.now c.loop-k.places (omega (arith, ap length c.requires.places)) (λ j d below. c.loop-k.invariant.done j d (omega arith))
