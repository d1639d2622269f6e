use Rattle.std.proofs.Common.{◌≡◌, ◌≤◌, ◌+◌, take}
use Rattle.indexmap.specs.IndexMap.{index_map_len, spare}
use Rattle.qcop_channels.specs.Views.{channels_of}
use Rattle.qcop_channels.proofs.subscriptions.copy.Given as goal

abbrev pub invariant-loop-place : goal.invariant-loop-place
invariant-loop-place l = record { same : channels_of l.copy.entries ≡ take l.place (channels_of l.known.entries); room : 64 ≤ index_map_len l.copy + spare l.copy }
