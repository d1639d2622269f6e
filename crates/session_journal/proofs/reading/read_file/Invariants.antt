use Rattle.session_journal.specs.Places.{IsPlace, Leads}
use Rattle.session_journal.proofs.reading.read_file.Given as goal

abbrev pub invariant-loop-at : goal.invariant-loop-at
invariant-loop-at l = record { ok : IsPlace l.place l.line.items; leads : Leads l.bytes l.at l.place l.lines.items l.line.items }
