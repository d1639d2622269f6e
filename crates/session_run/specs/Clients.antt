-- The callers of a session, before and after their runs.
use Rattle.std.specs.Prelude.{◌≡◌, ℕ, List, [], length}
use mathlib.Core.Option.{some}
use lib.ListN.{get_elem?}
use Rattle.qws_base.specs.Scenes.{Setting}
use Rattle.fb_words.specs.declared.known.Mode.TheVariants.{Idle}
use Rattle.fb_words.specs.Views.{ScreenView, PassView}
use Rattle.fb_words.specs.Steps.{fresh}
use Rattle.script_grammar.specs.Session.{Session, step_count, paint_count}
use Rattle.session_script.specs.Calls.{IsWhole}
use Rattle.shared_desk.specs.Leases.{SharedView, IsOf}
use Rattle.shared_desk.specs.declared.callers.Caller.{Caller}
use Rattle.shared_painter.specs.Answers.{IsBack}
use Rattle.client_session.specs.Runs.{own_entries, IsWithinLimits}

-- the pass of a client that has made no call, with room for all of its calls
abbrev pub fresh_pass : ScreenView → Setting → Session → ℕ → PassView
fresh_pass screen setting said client = record { screen = screen; client = fresh setting client (step_count said client); book_limit = paint_count said client }

-- such a pass for each client, by number
abbrev pub AreFresh : ScreenView → Setting → Session → List PassView → Type 0
AreFresh screen setting said passes = (k : ℕ) (p : PassView) → get_elem? passes k ≡ some p → p ≡ fresh_pass screen setting said k

-- the caller may run its client
pub record IsReady (screen : ScreenView) (desk : SharedView) (said : Session) (c : Caller) : Type 0 where
  pub of : IsOf desk c.lease
  pub on_screen : c.pass.screen ≡ screen
  pub idle : c.pass.client.mode ≡ Idle
  pub fresh : c.pass.client.own ≡ []
  pub limits : IsWithinLimits said c.pass

-- it has run it: the whole list of its calls is made
pub record HasRun (said : Session) (before after : Caller) : Type 0 where
  pub lease : after.lease ≡ before.lease
  pub back : IsBack before.pass after.pass
  pub whole : IsWhole said (own_entries after.pass.client) before.pass.client.number

-- as many callers, each of which has run the client of the one at its place
abbrev pub AllRan : Session → List Caller → List Caller → Type 0
AllRan said callers back = (length back ≡ length callers) × ((k : ℕ) (c d : Caller) → get_elem? callers k ≡ some c → get_elem? back k ≡ some d → HasRun said c d)
