-- Which journals and books are merged, and their entries.
use Rattle.std.specs.Prelude.{ℕ, ◌≤◌, nat_lt, List, map, filter, length, All}
use Rattle.std.specs.List.Sorted.{IsNonDecreasingBy}
use Rattle.qws_base.specs.Books.{BookView}
use Rattle.qws_base.specs.Merges.{Stamped}
use Rattle.qws_base.specs.declared.journals.JournalEntry.{JournalEntry}
use Rattle.qws_base.specs.declared.journals.BookEntry.{BookEntry}
use Rattle.session_journal.specs.declared.histories.Entry.{Entry}
use Rattle.session_journal.specs.declared.histories.Entry.TheVariants.{Step, Paint}

-- a closed server turn as an entry
abbrev pub step_of : JournalEntry → Entry
step_of e = Step e.client e.command e.reply

-- a closed paint turn of a client as an entry, with its stamp
abbrev pub paint_of : ℕ → BookEntry → Stamped Entry
paint_of client e = record { stamp = e.stamp; entry = Paint client e.slot e.tag e.reply }

abbrev pub paints_of : BookView → List (Stamped Entry)
paints_of book = map (paint_of book.client) book.entries

-- the stamps of a book never fall, and none is above the last number of the journal
pub record AreStamps (last : ℕ) (entries : List BookEntry) : Type 0 where
  pub rising : IsNonDecreasingBy (λ e. e.stamp) entries
  pub within : All (λ e. e.stamp ≤ last) entries

-- how many entries of a book have a stamp below that
abbrev pub entries_below : ℕ → List BookEntry → ℕ
entries_below stamp entries = length (filter (λ e. nat_lt e.stamp stamp) entries)
