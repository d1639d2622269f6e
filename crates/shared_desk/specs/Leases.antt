-- What a shared desk and the private part of a caller show.
use Rattle.std.specs.Prelude.{◌≡◌, ℕ}
use Rattle.atomic_table.specs.Seated.{TableId}
use Rattle.server_desk.specs.DeskViews.{DeskView}

-- which table it is, the desk as it was when it was shared, and how many callers were made
pub record SharedView : Type 0 where
  pub table : TableId
  pub desk : DeskView
  pub callers : ℕ

-- the table, the desk as it was when it was shared, and the caller's number
pub record LeaseView : Type 0 where
  pub table : TableId
  pub desk : DeskView
  pub number : ℕ

-- the private part is of this shared desk
abbrev pub IsOf : SharedView → LeaseView → Type 0
IsOf s lease = (lease.table ≡ s.table) × (lease.desk ≡ s.desk)

abbrev pub lease_of : SharedView → ℕ → LeaseView
lease_of s number = record { table = s.table; desk = s.desk; number = number }
