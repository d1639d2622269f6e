use Rattle.std.proofs.Common.{◌≡◌}
use Rattle.server_desk.specs.Sessions.{books_among}
use Rattle.server_desk.proofs.seating.books_of.Given as goal

abbrev pub invariant-loop-client : goal.invariant-loop-client
invariant-loop-client l = l.books.items ≡ books_among l.passes l.client
