-- The history in which the clients of a session make their next calls in a given order.
use Rattle.std.specs.Prelude.{ℕ, ◌<◌, List, [], ◌∷◌, ◌++◌, map, length, Option, All}
use Rattle.std.specs.Option.{option_map, option_to_list}
use Rattle.qws_base.specs.Windows.{layout_of}
use Rattle.qws_base.specs.Steps.{step}
use Rattle.qws_base.specs.Scenes.{Setting, paint_reply}
use Rattle.qws_base.specs.Histories.{Entry, World, client_of_entry, calls_of, world_after, IsLegal}
use Rattle.qws_base.specs.Histories.Entry.{Step as StepEntry, Paint as PaintEntry}
use Rattle.gfx_painters.specs.Paints.{paint_sheet}
use Rattle.script_grammar.specs.Session.{Session, session_setting, call_line}
use Rattle.script_grammar.specs.declared.lines.CallLine.{CallLine}
use Rattle.script_names.specs.Meaning.{meaning}
use Rattle.script_names.specs.Naming.{Naming}
use Rattle.script_names.specs.declared.calls.Call.{Call}
use Rattle.script_names.specs.declared.calls.Call.TheVariants.{Step, Paint}
use Rattle.session_script.specs.Calls.{names_by, IsWhole}

-- the entry of a client's call `k`, with the reply that the world gives; a paint has its call number as tag
abbrev pub entry_in : Setting → World → ℕ → ℕ → Call → Entry
entry_in setting world client k (Step command) = StepEntry client command (step setting.size world.state client command).1
entry_in setting world client k (Paint slot paint) =
    PaintEntry client slot k (paint_sheet paint) (paint_reply setting.size (layout_of setting.size world.state.windows) client slot (paint_sheet paint))

-- the names that a client has given in a history
abbrev pub names_in : Session → List Entry → ℕ → Naming
names_in session h client = names_by session (calls_of h client) client

-- the entry of a line behind a history, as the client's next call
abbrev pub entry_behind : Session → List Entry → ℕ → CallLine → Entry
entry_behind session h client line =
    entry_in (session_setting session) (world_after (session_setting session) h) client (length (calls_of h client)) (meaning session (names_in session h client) line.call)

-- the entry of a client's next call; none where it has no call left
abbrev pub next_entry : Session → List Entry → ℕ → Option Entry
next_entry session h client = option_map (entry_behind session h client) (call_line session client (length (calls_of h client)))

abbrev pub named_from : Session → List Entry → List ℕ → List Entry
named_from session h [] = h
named_from session h (client ∷ clients) = named_from session (h ++ option_to_list (next_entry session h client)) clients

-- the history in which these clients, one after another, make their next calls
abbrev pub named : Session → List ℕ → List Entry
named session clients = named_from session [] clients

-- the history in which the calls stand in the order of their lines
abbrev pub in_order : Session → List Entry
in_order session = named session (map (λ line. line.client) session.calls)

-- a legal history with each client's calls, once and in order, and no other entries
pub record IsRunOf (session : Session) (h : List Entry) : Type 0 where
  pub legal : IsLegal (session_setting session) h
  pub whole : (client : ℕ) → client < session.clients → IsWhole session (calls_of h client) client
  pub no_other : All (λ e. client_of_entry e < session.clients) h
