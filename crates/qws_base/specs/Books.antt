-- What a book shows: its client, how many entries it may hold, and those that it holds.
use Rattle.std.specs.Prelude.{ℕ, List}
use Rattle.qws_base.specs.declared.journals.BookEntry.{BookEntry}

pub record BookView : Type 0 where
  pub client : ℕ
  pub limit : ℕ
  pub entries : List BookEntry
