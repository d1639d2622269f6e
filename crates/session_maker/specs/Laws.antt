-- Laws of the sessions that are made.
use Rattle.std.specs.Prelude.{ℕ, ◌≡◌, ◌*◌, ◌≤◌, length}
use Rattle.script_grammar.specs.Limits.{IsSession}
use Rattle.session_maker.specs.Made.{made_session}

-- 1 to 16 clients, and 1 to 4,096 calls of each
pub record IsLoad (clients calls : ℕ) : Type 0 where
  pub some_clients : 1 ≤ clients
  pub most_clients : clients ≤ 16
  pub some_calls : 1 ≤ calls
  pub most_calls : calls ≤ 4096

-- each is within the limits of sessions
abbrev pub MakesSessions : Type 0
MakesSessions = (seed clients calls : ℕ) → IsLoad clients calls → IsSession (made_session seed clients calls)

-- it has as many calls as are asked for
abbrev pub MakesCalls : Type 0
MakesCalls = (seed clients calls : ℕ) → length (made_session seed clients calls).calls ≡ clients * calls
