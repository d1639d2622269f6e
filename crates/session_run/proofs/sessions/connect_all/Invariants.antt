use Rattle.std.proofs.Common.{◌≡◌, ◌≤◌, length, vec_capacity}
use Rattle.server_desk.specs.DeskViews.{connected}
use Rattle.session_run.specs.Clients.{AreFresh}
use Rattle.session_run.proofs.sessions.connect_all.Given as goal

-- a fresh pass for each client so far
abbrev pub invariant-loop-client : goal.invariant-loop-client
invariant-loop-client l = record {
  screen : l.desk.screen ≡ l.fn.desk.screen;
  setting : l.desk.server.setting ≡ l.fn.desk.server.setting;
  connected : connected l.desk ≡ l.client;
  many : length l.passes.items ≡ l.client;
  room : l.script.clients ≤ vec_capacity l.passes;
  fresh : AreFresh l.screen l.fn.desk.server.setting l.script l.passes.items;
}
