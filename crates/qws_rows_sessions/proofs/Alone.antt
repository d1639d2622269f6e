-- The one caller of a shared desk, popped off the list of all.
use Rattle.std.proofs.Common.{◌≡◌, ℕ, zero, suc, ◌+◌, List, [], ◌∷◌, ◌++◌, length, length-append, get_or, refl, sym, ap, subst, ◌∙◌, arith}
use mathlib.Core.Option.{some, some-injective, some-ne-none}
use lib.ListN.{get_elem?}
use Rattle.qws_base.specs.Scenes.{Setting}
use Rattle.fb_words.specs.Views.{ScreenView, PassView}
use Rattle.script_grammar.specs.Session.{Session}
use Rattle.shared_desk.specs.Leases.{SharedView}
use Rattle.shared_desk.specs.Together.{AreAll, passes_of}
use Rattle.shared_desk.specs.declared.callers.Caller.{Caller}
use Rattle.session_run.specs.Clients.{fresh_pass, IsReady}
use Rattle.session_run.proofs.Running.{as_long, ready}

empty : {X : Type 0} (l : List X) → length l ≡ 0 → l ≡ []
empty [] e = refl
empty (x ∷ l) e = absurd (omega arith)

one_fresh : (screen : ScreenView) (setting : Setting) (said : Session) (p : PassView) → p ≡ fresh_pass screen setting said 0 → (k : ℕ) (q : PassView) → get_elem? (p ∷ []) k ≡ some q → q ≡ fresh_pass screen setting said k
one_fresh screen setting said p is zero q at = sym (some-injective p q at) ∙ is
one_fresh screen setting said p is (suc k) q at = absurd (some-ne-none q (sym at))

pub alone_ready : (s : SharedView) (screen : ScreenView) (setting : Setting) (said : Session) (callers rest : List Caller) (c : Caller) (p : PassView)
    → AreAll s callers → passes_of callers ≡ p ∷ [] → callers ≡ rest ++ c ∷ [] → p ≡ fresh_pass screen setting said 0 → IsReady screen s said c
alone_ready s screen setting said callers rest c p all passes last is =
    let one : length callers ≡ 1 = sym (as_long (λ (x : Caller). x.pass) callers) ∙ ap length passes in
    let cut : length callers ≡ length rest + 1 = ap length last ∙ length-append rest (c ∷ []) in
    let them : callers ≡ c ∷ [] = last ∙ ap (λ (l : List Caller). l ++ c ∷ []) (empty rest (omega arith)) in
    subst (λ (l : List Caller). IsReady screen s said (get_or l 0 c)) them (ready screen setting said callers (p ∷ []) passes (one_fresh screen setting said p is) s all 0 c (omega arith))
