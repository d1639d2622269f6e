-- What a row of inks is at first, and what it is once lent inks have come back.
use Rattle.std.specs.Prelude.{ℕ, List, ◌++◌, length, take, drop, replicate}
use Rattle.std.specs.Borrow.{Lends, MutBor, Fml, Array}
use Rattle.qws_base.specs.declared.inks.Ink.{Ink}
use Rattle.qws_base.specs.declared.inks.Ink.TheVariants.{Skip}
use Rattle.qws_base.specs.contracts.pictures.RowBuf.{the_row}
use Rattle.qws_base.specs.contracts.inks.Ink as ink

-- Skip in n places
unfoldable pub skips : ℕ → List Ink
skips n = replicate n Skip

-- the inks that were written, of which there are as many as were lent
abbrev pub rewritten : List Ink → List Ink → List Ink
rewritten lent written = take (length lent) (written ++ drop (length written) lent)

-- the row ends with what the last write through the loan left
abbrev pub LendsInks : MutBor (List Ink) → MutBor (List Ink) → Fml
LendsInks row inks = Lends the_row (Array ink.the_row 0) row inks (rewritten row.now)
