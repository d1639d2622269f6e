-- What a client's run keeps and leaves.
use Rattle.std.specs.Prelude.{◌≡◌, ℕ, ◌<◌, ◌≤◌, ◌+◌, List, [], ◌∷◌, ◌++◌, map, length, Option, Some}
use Rattle.std.specs.Option.{option_map}
use Rattle.qws_base.specs.Histories.{Entry}
use Rattle.fb_words.specs.declared.known.Call.{Call as OwnCall}
use Rattle.fb_words.specs.declared.known.Client.{Client}
use Rattle.fb_words.specs.declared.known.Mode.TheVariants.{Idle}
use Rattle.fb_words.specs.Desks.{call_entry}
use Rattle.fb_words.specs.Views.{PassView, paints_in}
use Rattle.script_grammar.specs.Session.{Session, call_line, step_count, paint_count}
use Rattle.script_names.specs.Naming.{naming}
use Rattle.script_names.specs.Meaning.{meaning}
use Rattle.script_names.specs.declared.calls.Call.{Call}
use Rattle.session_script.specs.Named.{NamesView}
use Rattle.session_script.specs.Calls.{IsCallOf, IsFront, names_by}
use Rattle.client_session.specs.declared.spaces.Workspace.{Workspace}
use Rattle.client_session.specs.Looking.{FetchesOnce}
use Rattle.client_session.specs.Keeping.{AreKept}

-- a client's calls as entries, without their logs and the words that they looked at
abbrev pub own_entries : Client → List Entry
own_entries p = map (call_entry p.number) p.own

-- the first `k` calls of the client in the script are made; the names are those that it has given by then, each for a slot
pub record IsAt (said : Session) (p : Client) (k : ℕ) (names : NamesView) : Type 0 where
  pub client : names.client ≡ p.number
  pub many : length p.own ≡ k
  pub front : IsFront said (own_entries p) p.number
  pub learned : naming names.slots ≡ names_by said (own_entries p) p.number
  pub slots : (name : List ℕ) → naming names.slots name < 33

-- the client's call `k` means that, with these names
abbrev pub MeansNow : Session → NamesView → ℕ → Call → Type 0
MeansNow said names k call = option_map (λ line. meaning said (naming names.slots) line.call) (call_line said names.client k) ≡ Some call

-- the pass has made the client's call `k`, and no other
pub record HasMade (before after : PassView) (k : ℕ) (call : Call) : Type 0 where
  pub made : OwnCall
  pub own : after.client.own ≡ before.client.own ++ made ∷ []
  pub is : IsCallOf before.client.number k call (call_entry before.client.number made)

-- each of a client's calls in the script is within the pass's limits
pub record IsWithinLimits (said : Session) (pass : PassView) : Type 0 where
  pub steps : step_count said pass.client.number ≤ pass.client.step_limit
  pub paints : paint_count said pass.client.number ≤ pass.book_limit

-- a clip for each slot is kept, and nothing was fetched twice while its revision stood
pub record IsFrugal (p : Client) (space : Workspace) : Type 0 where
  pub kept : AreKept p space.clips.list.items
  pub once : FetchesOnce (paints_in p.own)

-- between two calls: the client has made the first `k`
pub record IsRunning (said : Session) (pass : PassView) (k : ℕ) (space : Workspace) : Type 0 where
  pub idle : pass.client.mode ≡ Idle
  pub limits : IsWithinLimits said pass
  pub at : IsAt said pass.client k space.names
  pub frugal : IsFrugal pass.client space
