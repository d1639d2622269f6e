use Rattle.std.proofs.Common.{◌≡◌, length, take}
use Rattle.server_desk.proofs.seating.book_of.Given as goal

abbrev pub invariant-loop-entry : goal.invariant-loop-entry
invariant-loop-entry l = l.book ≡ record { client = l.client; limit = length l.entries; entries = take l.entry-index l.entries }
