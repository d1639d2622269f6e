-- The answers to a command of the client that sits.
use Rattle.std.proofs.Common.{◌≡◌, ℕ, ◌+◌, ◌-◌, ◌<◌, ◌≤◌, List, [], ◌∷◌, ◌++◌, length, sym, ap, ◌∙◌, subst, arith}
use Rattle.std.specs.Prelude.{slice_index, slice_set}
use Rattle.qws_base.specs.Sides.{Sides}
use Rattle.qws_base.specs.Scenes.{Setting}
use Rattle.qws_base.specs.States.{State}
use Rattle.qws_base.specs.Steps.{step}
use Rattle.qws_base.specs.declared.commands.Command.{Command}
use Rattle.qws_base.specs.declared.replies.Reply.{Reply}
use Rattle.qws_base.specs.declared.journals.JournalEntry.{JournalEntry}
use Rattle.fb_words.specs.declared.known.Client.{Client}
use Rattle.fb_words.specs.declared.known.Server.{Server}
use Rattle.fb_words.specs.Views.{HeadView, only}
use Rattle.fb_words.specs.Steps.{Sits, AllSit}
use Rattle.fb_words.specs.Desks.{state_after}
use Rattle.display_lock.specs.Turns.{withdrawn}
use Rattle.window_core.specs.CoreViews.{CoreView, PlanView}
use Rattle.server_desk.specs.declared.answers.Answer.{Answer}
use Rattle.server_desk.specs.declared.answers.CallStop.{CallStop}
use Rattle.server_desk.specs.declared.answers.CallStop.TheVariants.{Busy, JournalFull, OutOfMemory}
use Rattle.server_desk.specs.Answers.{steps_made, entry_of_answer}
use Rattle.server_desk.specs.Keeping.{IsCurrent, IsListed}
use Rattle.server_desk.specs.Serving.{HasServed, after_turn}
use Rattle.server_desk.specs.Stepping.{HasStepped, HaltsWith}
use Rattle.server_desk.specs.Drafts.{HasNoDraft}
use Rattle.server_desk.proofs.Counting.{sum_set}
use Rattle.server_desk.proofs.Called.{sitting_sits, number_within, own_count, own_limit, listed_step}

pub sits_there : (h a : HeadView) → h ≡ a → a.sitting ≡ only a.sitting ∷ [] → AllSit a.server a.sitting → Sits h.server (only a.sitting)
sits_there h a is one sit = subst (λ (x : HeadView). Sits x.server (only a.sitting)) (sym is) (sitting_sits a.server a.sitting one sit)

-- what is known of the client that sits: its number is an admitted one, and its steps are counted
pub record IsSitter (s : Server) (made left : List ℕ) (client : ℕ) (p : Client) : Type 0 where
  pub number : client ≡ p.number
  pub admitted : client < length s.limits
  pub few : client < 16
  pub count : slice_index made client ≡ steps_made p
  pub limit : slice_index made client + slice_index left client ≡ p.step_limit

pub sitter : (h a : HeadView) (journal : List JournalEntry) (connected : ℕ) (made left : List ℕ) (room capacity client : ℕ) → h ≡ a → a.sitting ≡ only a.sitting ∷ [] → AllSit a.server a.sitting
    → IsListed h.server journal connected made left room capacity → client ≡ (only a.sitting).number → IsSitter h.server made left client (only a.sitting)
sitter h a journal connected made left room capacity client is one sit listed number =
    let p : Client = only a.sitting in
    let sits = sits_there h a is one sit in
    let within = number_within h.server p sits in
    let few = listed.few in
    let connected_is = listed.connected_is in
    record {
      number = number;
      admitted = omega arith;
      few = omega arith;
      count = ap (slice_index made) number ∙ own_count h.server p made left listed.counts (omega arith) sits;
      limit = ap (λ c. slice_index made c + slice_index left c) number ∙ own_limit h.server p made left listed.counts sits;
    }

-- a command that has no draft stops
pub halts : (h a after : HeadView) (s : Server) (made left : List ℕ) (client : ℕ) (stop : CallStop) → h ≡ a → IsSitter s made left client (only a.sitting) → HasNoDraft (slice_index made client) (slice_index left client) stop
    → after ≡ withdrawn h → HaltsWith a after (only a.sitting) stop
halts h a after s made left client OutOfMemory is p none left_so = left_so ∙ ap withdrawn is
halts h a after s made left client (JournalFull held) is p none left_so =
    let count = p.count in let limit = p.limit in let no_left = none.0 in let some = none.1 in
    (omega arith, omega arith, left_so ∙ ap withdrawn is)
halts h a after s made left client (Busy found) is p none left_so = absurd none

-- a step is left where fewer were made than may be, and else isn't
pub some_left : (s : Server) (made left : List ℕ) (client : ℕ) (p : Client) → IsSitter s made left client p → steps_made p < p.step_limit → 1 ≤ slice_index left client
some_left s made left client p is few = let count = is.count in let limit = is.limit in omega arith

pub few_made : (s : Server) (made left : List ℕ) (client : ℕ) (p : Client) → IsSitter s made left client p → 1 ≤ slice_index left client → steps_made p < p.step_limit
few_made s made left client p is some = let count = is.count in let limit = is.limit in omega arith

-- the journal has room where a step is left
pub some_room : (s : Server) (journal : List JournalEntry) (connected : ℕ) (made left : List ℕ) (room capacity client : ℕ) → IsListed s journal connected made left room capacity → client < 16 → 1 ≤ slice_index left client
    → (1 ≤ room) × (length journal < capacity)
some_room s journal connected made left room capacity client listed low some =
    let wide = listed.counts.sixteen_left in
    let sums = sum_set left client 0 (omega arith) in
    let room_is = listed.room_is in
    let fits = listed.fits in
    (omega arith, omega arith)

pub listed_served : (h after : HeadView) (e : JournalEntry) (served : HasServed h after e) (journal journal' : List JournalEntry) (connected : ℕ) (made left : List ℕ) (room capacity capacity' client : ℕ)
    → IsListed h.server journal connected made left room capacity → e.client ≡ client → client < length h.server.limits → 1 ≤ slice_index left client → e.number ≡ length h.server.closed + 1
    → journal' ≡ journal ++ e ∷ [] → capacity' ≡ capacity
    → IsListed after.server journal' connected (slice_set made client (slice_index made client + 1)) (slice_set left client (slice_index left client - 1)) (room - 1) capacity'
listed_served h after e served journal journal' connected made left room capacity capacity' client listed is low some_left number more same =
    let then : IsListed (after_turn h.server e served.log served.words) (journal ++ e ∷ []) connected (slice_set made e.client (slice_index made e.client + 1)) (slice_set left e.client (slice_index left e.client - 1)) (room - 1) capacity' =
    listed_step h.server journal connected made left room capacity capacity' e served.log served.words listed (subst (λ c. c < length h.server.limits) (sym is) low) (subst (λ c. 1 ≤ slice_index left c) (sym is) some_left) number same in
    let by_client : IsListed (after_turn h.server e served.log served.words) (journal ++ e ∷ []) connected (slice_set made client (slice_index made client + 1)) (slice_set left client (slice_index left client - 1)) (room - 1) capacity' =
    subst (λ c. IsListed (after_turn h.server e served.log served.words) (journal ++ e ∷ []) connected (slice_set made c (slice_index made c + 1)) (slice_set left c (slice_index left c - 1)) (room - 1) capacity') is then in
    subst (λ l. IsListed after.server l connected (slice_set made client (slice_index made client + 1)) (slice_set left client (slice_index left client - 1)) (room - 1) capacity') (sym more)
    (subst (λ (x : HeadView). IsListed x.server (journal ++ e ∷ []) connected (slice_set made client (slice_index made client + 1)) (slice_set left client (slice_index left client - 1)) (room - 1) capacity') (sym served.head) by_client)

-- the sides of the screen are the core's
pub same_size : (h : HeadView) (core : CoreView) → IsCurrent h core → core.size ≡ h.screen.setting.size
same_size h core current = sym (ap (λ (s : Setting). s.size) (current.own_setting ∙ current.setting))

pub stepped_so : (h a after : HeadView) (core : CoreView) (plan : PlanView) (s : Server) (made left : List ℕ) (client len : ℕ) (command : Command) (reply : Reply) (e : JournalEntry) → h ≡ a → IsCurrent h core
    → IsSitter s made left client (only a.sitting) → 1 ≤ slice_index left client → len ≡ length h.server.closed
    → plan.client ≡ client → plan.command ≡ command → reply ≡ plan.reply → plan.reply ≡ (step core.size core.state plan.client plan.command).1
    → e ≡ record { number = len + 1; client = plan.client; command = plan.command; reply = (step core.size core.state plan.client plan.command).1 } → HasServed h after e
    → HasStepped a after (only a.sitting) command (record { number = len + 1; reply = reply })
stepped_so h a after core plan s made left client len command reply e is current p some_left numbers plan_client plan_command copied belongs entry served =
    let sitting : Client = only a.sitting in
    let size = same_size h core current in
    let here : (step core.size core.state plan.client plan.command).1 ≡ (step h.screen.setting.size (state_after h.screen.setting.size h.server.closed) sitting.number command).1 =
    ap (λ n. (step core.size core.state n plan.command).1) (plan_client ∙ p.number) ∙ ap (λ (x : Command). (step core.size core.state sitting.number x).1) plan_command
    ∙ ap (λ (x : State). (step core.size x sitting.number command).1) current.state ∙ ap (λ (z : Sides). (step z (state_after z h.server.closed) sitting.number command).1) size in
    let answer : Answer = record { number = len + 1; reply = reply } in
    let same : e ≡ entry_of_answer sitting.number command answer = entry
    ∙ ap (λ n. let x : JournalEntry = record { number = len + 1; client = n; command = plan.command; reply = (step core.size core.state plan.client plan.command).1 } in x) (plan_client ∙ p.number)
    ∙ ap (λ (y : Command). let x : JournalEntry = record { number = len + 1; client = sitting.number; command = y; reply = (step core.size core.state plan.client plan.command).1 } in x) plan_command
    ∙ ap (λ (y : Reply). let x : JournalEntry = record { number = len + 1; client = sitting.number; command = command; reply = y } in x) (sym (copied ∙ belongs)) in
    let count = p.count in let limit = p.limit in
    record {
      number = ap (λ n. n + 1) (numbers ∙ ap (λ (x : HeadView). length x.server.closed) is);
      reply = copied ∙ belongs ∙ here ∙ ap (λ (x : HeadView). (step x.screen.setting.size (state_after x.screen.setting.size x.server.closed) sitting.number command).1) is;
      few = omega arith;
      served = subst (λ (x : HeadView). HasServed x after (entry_of_answer sitting.number command answer)) is (subst (λ (x : JournalEntry). HasServed h after x) same served);
    }
