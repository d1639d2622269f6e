-- The merge of a journal with the clients' books. It looks at numbers, stamps and order alone, whatever the entries are.
use Rattle.std.specs.Prelude.{◌≡◌, ℕ, zero, suc, ◌==◌, List, [], ◌++◌, map, length, take, drop}
use Rattle.std.specs.List.{filter, flat_map, range_with_len}

-- an entry of a book, with the number of journal entries that were closed when it began
pub record Stamped (X : Type 0) : Type 0 where
  pub stamp : ℕ
  pub entry : X

-- the journal's entry with that number, counted from 1; there is none with 0
abbrev pub numbered : {X : Type 0} → List X → ℕ → List X
numbered journal zero = []
numbered journal (suc k) = take 1 (drop k journal)

-- the entries of a book with that stamp, in the book's order
abbrev pub stamped : {X : Type 0} → ℕ → List (Stamped X) → List X
stamped e book = map (λ s. s.entry) (filter (λ s. s.stamp == e) book)

-- the journal's entry with that number, then the entries with that stamp of each book, the books by client number
abbrev pub merged_at : {X : Type 0} → List X → List (List (Stamped X)) → ℕ → List X
merged_at journal books e = numbered journal e ++ flat_map (stamped e) books

-- that of each number from 0 to the last of the journal
abbrev pub merged : {X : Type 0} → List X → List (List (Stamped X)) → List X
merged journal books = flat_map (merged_at journal books) (range_with_len 0 (suc (length journal)))

-- ---- other entries in the same places

-- an entry changed, with its stamp
abbrev pub changed_by : {X Y : Type 0} → (X → Y) → Stamped X → Stamped Y
changed_by change s = record { stamp = s.stamp; entry = change s.entry }

-- the merge of changed entries is the merge of the entries, changed
abbrev pub MergeLaw : (X Y : Type 0) → Type 0
MergeLaw X Y = (change : X → Y) (journal : List X) (books : List (List (Stamped X)))
    → merged (map change journal) (map (map (changed_by change)) books) ≡ map change (merged journal books)
