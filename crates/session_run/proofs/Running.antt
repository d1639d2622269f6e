-- From the threads' answers to the callers, and from these to the passes that are closed.
use Rattle.std.proofs.Common.{◌≡◌, ℕ, zero, suc, ◌<◌, ◌≤◌, List, [], ◌∷◌, length, map, get_or, refl, sym, ap, subst, ◌∙◌, arith, Ok, Err, Result, IfOk}
use mathlib.Core.Option.{some, some-injective, some-ne-none}
use lib.ListN.{get_elem?}
use Rattle.qws_base.specs.Scenes.{Setting}
use Rattle.qws_base.specs.declared.lists.OutOfMemory.{OutOfMemory}
use Rattle.fb_words.specs.declared.known.Mode.TheVariants.{Idle}
use Rattle.fb_words.specs.Views.{ScreenView, PassView}
use Rattle.script_grammar.specs.Session.{Session}
use Rattle.session_script.specs.Calls.{IsWhole}
use Rattle.shared_desk.specs.Leases.{SharedView}
use Rattle.shared_desk.specs.Together.{AreAll, passes_of}
use Rattle.shared_desk.specs.declared.callers.Caller.{Caller}
use Rattle.client_session.specs.Runs.{own_entries}
use Rattle.session_run.specs.Clients.{fresh_pass, AreFresh, IsReady, HasRun, AllRan}

module _ {A : Type 0} where
  pub at_or : (l : List A) (k : ℕ) (a d : A) → get_elem? l k ≡ some a → get_or l k d ≡ a
  at_or [] k a d e = absurd (some-ne-none a (sym e))
  at_or (x ∷ xs) zero a d e = some-injective x a e
  at_or (x ∷ xs) (suc k) a d e = at_or xs k a d e

  pub below_len : (l : List A) (k : ℕ) (a : A) → get_elem? l k ≡ some a → k < length l
  below_len [] k a e = absurd (some-ne-none a (sym e))
  below_len (x ∷ xs) zero a e = omega arith
  below_len (x ∷ xs) (suc k) a e = let r = below_len xs k a e in omega arith

  pub item_there : (l : List A) (k : ℕ) → k < length l → (a : A) × (get_elem? l k ≡ some a)
  item_there [] k h = absurd (omega arith)
  item_there (x ∷ xs) zero h = (x, refl)
  item_there (x ∷ xs) (suc k) h = item_there xs k (omega arith)

pub as_long : {A B : Type 0} (f : A → B) (l : List A) → length (map f l) ≡ length l
as_long f [] = refl
as_long f (x ∷ xs) = ap suc (as_long f xs)

pub from_map : {A B : Type 0} (f : A → B) (l : List A) (k : ℕ) (b : B) → get_elem? (map f l) k ≡ some b → (a : A) × (get_elem? l k ≡ some a) × (f a ≡ b)
from_map f [] k b e = absurd (some-ne-none b (sym e))
from_map f (x ∷ xs) zero b e = (x, refl, some-injective (f x) b e)
from_map f (x ∷ xs) (suc k) b e = from_map f xs k b e

pub to_map : {A B : Type 0} (f : A → B) (l : List A) (k : ℕ) (a : A) → get_elem? l k ≡ some a → get_elem? (map f l) k ≡ some (f a)
to_map f [] k a e = absurd (some-ne-none a (sym e))
to_map f (x ∷ xs) zero a e = ap (λ y. some (f y)) (some-injective x a e)
to_map f (x ∷ xs) (suc k) a e = to_map f xs k a e

abbrev pub Answer : Type 0
Answer = Result Caller OutOfMemory

pub all_ran : (said : Session) (callers back : List Caller) (answers : List Answer) → length answers ≡ length callers → answers ≡ map (λ c. Ok c) back
    → ((k : ℕ) (c : Answer) → k < length callers → IfOk (get_or answers k c) (λ b. (d : Caller) → HasRun said (get_or callers k d) b))
    → AllRan said callers back
all_ran said callers back answers long are each = (
  sym (as_long (λ (c : Caller). let r : Answer = Ok c in r) back) ∙ ap length (sym are) ∙ long,
  λ k c d at_c at_d.
      let answer : get_or answers k (Ok d) ≡ Ok d = ap (λ l. get_or l k (Ok d)) are ∙ at_or _ k (Ok d) (Ok d) (to_map (λ (x : Caller). let r : Answer = Ok x in r) back k d at_d) in
      let run : (e : Caller) → HasRun said (get_or callers k e) d = subst (λ (r : Answer). IfOk r (λ b. (e : Caller) → HasRun said (get_or callers k e) b)) answer (each k (Ok d) (below_len callers k c at_c)) in
      subst (λ x. HasRun said x d) (at_or callers k c c at_c) (run c),
)

pub all_back : (s : SharedView) (said : Session) (callers back : List Caller) → AreAll s callers → AllRan said callers back → AreAll s back
all_back s said callers back all ran = record {
  many = ran.0 ∙ all.many;
  each = λ k d at_d.
      let long = ran.0 in
      let below = below_len back k d at_d in
      let c = item_there callers k (omega arith) in
      (ran.1 k c.0 d c.1 at_d).lease ∙ all.each k c.0 c.1;
}

pub if_ok : {A E : Type 0} (P Q : A → Type 0) (r : Result A E) → ((a : A) → P a → Q a) → IfOk r P → IfOk r Q
if_ok P Q (Ok a) f h = f a h
if_ok P Q (Err e) f h = h

-- what is known of each pass that comes back
pub record IsDone (screen : ScreenView) (said : Session) (client : ℕ) (p : PassView) : Type 0 where
  pub on_screen : p.screen ≡ screen
  pub idle : p.client.mode ≡ Idle
  pub number : p.client.number ≡ client
  pub whole : IsWhole said (own_entries p.client) client

module _ (screen : ScreenView) (setting : Setting) (said : Session) (callers : List Caller) (passes : List PassView) (are : passes_of callers ≡ passes) (fresh : AreFresh screen setting said passes) where
  pass_is : (k : ℕ) (c : Caller) → get_elem? callers k ≡ some c → c.pass ≡ fresh_pass screen setting said k
  pass_is k c at = fresh k c.pass (sym (ap (λ l. get_elem? l k) are) ∙ to_map (λ (x : Caller). x.pass) callers k c at)

  pub ready : (s : SharedView) → AreAll s callers → (k : ℕ) (d : Caller) → k < length callers → IsReady screen s said (get_or callers k d)
  ready s all k d below =
      let c = item_there callers k below in
      let lease = all.each k c.0 c.1 in
      let pass = pass_is k c.0 c.1 in
      subst (λ x. IsReady screen s said x) (sym (at_or callers k c.0 d c.1)) record {
        of = (ap (λ l. l.table) lease, ap (λ l. l.desk) lease);
        on_screen = ap (λ p. p.screen) pass;
        idle = ap (λ p. p.client.mode) pass;
        fresh = ap (λ p. p.client.own) pass;
        limits = subst (Rattle.client_session.specs.Runs.IsWithinLimits said) (sym pass) (record { steps = omega arith; paints = omega arith });
      }

  pub done : (back : List Caller) → AllRan said callers back → (k : ℕ) (p : PassView) → get_elem? (passes_of back) k ≡ some p → IsDone screen said k p
  done back ran k p at =
      let d = from_map (λ (x : Caller). x.pass) back k p at in
      let many = ran.0 in
      let below = below_len back k d.0 d.1 in
      let c = item_there callers k (omega arith) in
      let run = ran.1 k c.0 d.0 c.1 d.1 in
      let was = pass_is k c.0 c.1 in
      let number = ap (λ (p : PassView). p.client.number) was in
      subst (IsDone screen said k) d.2 (record {
        on_screen = run.back.screen ∙ ap (λ (p : PassView). p.screen) was;
        idle = run.back.idle;
        number = run.back.number ∙ number;
        whole = subst (IsWhole said (own_entries d.0.pass.client)) number run.whole;
      })

  pub as_many : (back : List Caller) → AllRan said callers back → length (passes_of back) ≡ length passes
  as_many back ran = as_long (λ (x : Caller). x.pass) back ∙ ran.0 ∙ sym (as_long (λ (x : Caller). x.pass) callers) ∙ ap length are

  -- each pass that is closed is of the screen, and in no turn
  pub closable : (back : List Caller) (closing : List PassView) → closing ≡ passes_of back → AllRan said callers back → (k : ℕ) (d : PassView) → k < length closing → ((get_or closing k d).screen ≡ screen) × ((get_or closing k d).client.mode ≡ Idle)
  closable back closing same ran k d below =
      let p = item_there closing k below in
      let is = done back ran k p.0 (ap (λ l. get_elem? l k) (sym same) ∙ p.1) in
      let at = at_or closing k p.0 d p.1 in (ap (λ (x : PassView). x.screen) at ∙ is.on_screen, ap (λ (x : PassView). x.client.mode) at ∙ is.idle)
