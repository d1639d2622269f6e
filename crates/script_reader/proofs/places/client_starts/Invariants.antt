use Rattle.std.proofs.Common.{◌≡◌, map}
use Rattle.std.specs.List.{range_with_len}
use Rattle.script_reader.specs.Places.{starts_by}
use Rattle.script_reader.proofs.places.client_starts.Given as goal

abbrev pub invariant-loop-client : goal.invariant-loop-client
invariant-loop-client l = l.all.items ≡ map (starts_by l.places) (range_with_len 0 l.client)
