-- Three callers, popped off the list of all.
use Rattle.std.proofs.Common.{◌≡◌, ℕ, ◌+◌, List, [], ◌∷◌, ◌++◌, map, length, length-append, refl, sym, ap, subst, ◌∙◌, arith}
use Rattle.std.specs.Prelude.{slice_index_or}
use Rattle.std.proofs.lemmas.List.{length-map}
use Rattle.fb_words.specs.Views.{ScreenView, PassView}
use Rattle.shared_desk.specs.declared.callers.Caller.{Caller}
use Rattle.shared_desk.specs.Leases.{SharedView, LeaseView, lease_of}
use Rattle.shared_desk.specs.Together.{AreAll, passes_of}
use Rattle.qws_rows_shared.specs.Sessions.{IsAtRest}
use Rattle.qws_rows_shared.specs.Callers.{IsCaller}

empty : {X : Type 0} (l : List X) → length l ≡ 0 → l ≡ []
empty [] e = refl
empty (x ∷ l) e = absurd (omega arith)

-- a caller with a lease of the desk, whose pass is at rest
is_caller : (s : SharedView) (screen : ScreenView) (number : ℕ) (a : Caller) (p : PassView) → a.lease ≡ lease_of s number → a.pass ≡ p → IsAtRest screen p → (a.lease ≡ lease_of s number) × IsCaller s screen a
is_caller s screen number a p lease pass rest = (lease, ((ap (λ (l : LeaseView). l.table) lease, ap (λ (l : LeaseView). l.desk) lease), subst (IsAtRest screen) (sym pass) rest))

-- all callers of a desk, of three passes, and what is left as each is popped
pub record ArePopped (s : SharedView) (cs : List Caller) (a b c : Caller) (p q r : PassView) : Type 0 where
  pub front : List Caller
  pub middle : List Caller
  pub rest : List Caller
  pub all : AreAll s cs
  pub passes : passes_of cs ≡ p ∷ q ∷ r ∷ []
  pub last : cs ≡ front ++ c ∷ []
  pub next : front ≡ middle ++ b ∷ []
  pub first : middle ≡ rest ++ a ∷ []

module _ (s : SharedView) (cs : List Caller) (a b c : Caller) (p q r : PassView) (h : ArePopped s cs a b c p q r) where
  many : length cs ≡ 3
  many = sym (length-map cs (λ (x : Caller). x.pass)) ∙ ap length h.passes

  none : h.rest ≡ []
  none = empty h.rest (
      let m = many in
      let l = ap length h.last ∙ length-append h.front (c ∷ []) in
      let n = ap length h.next ∙ length-append h.middle (b ∷ []) in
      let f = ap length h.first ∙ length-append h.rest (a ∷ []) in omega arith)

  whole : cs ≡ a ∷ b ∷ c ∷ []
  whole = h.last ∙ ap (λ (l : List Caller). l ++ c ∷ []) (h.next ∙ ap (λ (l : List Caller). l ++ b ∷ []) (h.first ∙ ap (λ (l : List Caller). l ++ a ∷ []) none))

  them : AreAll s (a ∷ b ∷ c ∷ [])
  them = subst (AreAll s) whole h.all

  theirs : a.pass ∷ b.pass ∷ c.pass ∷ [] ≡ p ∷ q ∷ r ∷ []
  theirs = ap (λ (l : List Caller). passes_of l) (sym whole) ∙ h.passes

  pub first_is : (screen : ScreenView) → IsAtRest screen p → (a.lease ≡ lease_of s 0) × IsCaller s screen a
  first_is screen at = is_caller s screen 0 a p (them.each 0 a refl) (ap (λ (l : List PassView). slice_index_or l 0 p) theirs) at

  pub second_is : (screen : ScreenView) → IsAtRest screen q → (b.lease ≡ lease_of s 1) × IsCaller s screen b
  second_is screen at = is_caller s screen 1 b q (them.each 1 b refl) (ap (λ (l : List PassView). slice_index_or l 1 q) theirs) at

  pub third_is : (screen : ScreenView) → IsAtRest screen r → (c.lease ≡ lease_of s 2) × IsCaller s screen c
  third_is screen at = is_caller s screen 2 c r (them.each 2 c refl) (ap (λ (l : List PassView). slice_index_or l 2 r) theirs) at
