-- The client that a comment names.
use Rattle.std.specs.Prelude.{ℕ, nat_lt, List, [], ◌∷◌, drop, Option, None, Some, if◌then◌else◌}
use Rattle.std.specs.Str.Parse.{digits_value}
use Rattle.session_journal.specs.Places.{is_digit}

-- the digits at the front of a text
abbrev pub front_digits : List ℕ → List ℕ
front_digits [] = []
front_digits (c ∷ cs) = if is_digit c then c ∷ front_digits cs else []

-- the client that a comment names, behind its first blank; 0 where no digit stands there
unfoldable pub commented_client : List ℕ → ℕ
commented_client line = digits_value 10 (front_digits (drop 1 line))

-- that client, where it is below a number of clients
abbrev pub client_below : ℕ → List ℕ → Option ℕ
client_below clients line = if nat_lt (commented_client line) clients then Some (commented_client line) else None
