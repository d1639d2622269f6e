use Rattle.std.proofs.Common.{◌≡◌, take}
use Rattle.script_reader.specs.Places.{starts_by}
use Rattle.script_reader.proofs.places.starts_of_client.Given as goal

abbrev pub invariant-loop-place : goal.invariant-loop-place
invariant-loop-place l = l.items.items ≡ starts_by (take l.place-index l.places) l.client
