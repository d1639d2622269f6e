-- One caller more leaves, or is back.
use Rattle.std.proofs.Common.{◌≡◌, ℕ, zero, suc, ◌<◌, if◌then◌else◌, eq-eqb, List, [], ◌∷◌, ◌++◌, length, refl, sym, ap, ◌∙◌, ⊎_elim, inl, inr, ◌⊎◌, arith, Option, Some, None}
use mathlib.Core.Option.{some, some-injective, some-ne-none}
use lib.ListN.{get_elem?}
use Rattle.atomic_table.specs.Seated.{TableId}
use Rattle.server_desk.specs.DeskViews.{DeskView}
use Rattle.fb_words.specs.Views.{PassView}
use Rattle.shared_desk.specs.declared.known.Part.{Part}
use Rattle.shared_desk.specs.declared.callers.Caller.{Caller}
use Rattle.shared_desk.specs.Leases.{SharedView, LeaseView, IsOf, lease_of}
use Rattle.shared_desk.specs.Rule.{part, parts, knows, alone, only}
use Rattle.shared_desk.specs.Steps.{Seated, resting, without_first, with_first, both}
use Rattle.turn_logs.proofs.Totals.{total_one}
use Rattle.shared_desk.specs.Together.{AreAll, AreThere, has_number, rested, passes_of}

pub nothing_left : {A : Type 0} (l : List A) → length l ≡ 0 → l ≡ []
nothing_left [] h = refl
nothing_left (x ∷ xs) h = absurd (omega arith)

-- an item of a list with one more is one of the list, or the new one
pub at_end : {A : Type 0} (l : List A) (a b : A) (k : ℕ) → get_elem? (l ++ a ∷ []) k ≡ some b → (get_elem? l k ≡ some b) ⊎ ((k ≡ length l) × (a ≡ b))
at_end [] a b zero e = inr (refl, some-injective a b e)
at_end [] a b (suc k) e = absurd (some-ne-none b (sym e))
at_end (x ∷ xs) a b zero e = inl e
at_end (x ∷ xs) a b (suc k) e = ⊎_elim (λ h. inl h) (λ (h : (k ≡ length xs) × (a ≡ b)). inr (ap suc h.0, h.1)) (at_end xs a b k e)

pub middle : {A : Type 0} (l r : List A) (a : A) → get_elem? (l ++ a ∷ r) (length l) ≡ some a
middle [] r a = refl
middle (x ∷ xs) r a = middle xs r a

pub longer : {A : Type 0} (l : List A) (a : A) → length (l ++ a ∷ []) ≡ suc (length l)
longer [] a = refl
longer (x ∷ xs) a = ap suc (longer xs a)

pub passes_more : (l : List Caller) (c : Caller) → passes_of (l ++ c ∷ []) ≡ passes_of l ++ c.pass ∷ []
passes_more [] c = refl
passes_more (x ∷ xs) c = ap (λ (l : List PassView). x.pass ∷ l) (passes_more xs c)

module _ (desk : DeskView) where
  pub still : (k n left : ℕ) (me me' : Seated) → left ≡ suc n → me ≡ (knows (parts desk k left), []) → me' ≡ (without_first me.0, me.1) → me' ≡ (knows (parts desk (suc k) n), [])
  still k n left me me' len h h' =
      h' ∙ ap (λ (m : Seated). let r : Seated = (without_first m.0, m.1) in r) (h ∙ ap (λ (j : ℕ). let r : Seated = (knows (parts desk k j), []) in r) len)

  pub dealt : (k n left : ℕ) (me own : Seated) → left ≡ suc n → me ≡ (knows (parts desk k left), []) → own ≡ (with_first me.0, []) → own ≡ (alone (part desk k), [])
  dealt k n left me own len h h' =
      h' ∙ ap (λ (m : Seated). let r : Seated = (with_first m.0, []) in r) (h ∙ ap (λ (j : ℕ). let r : Seated = (knows (parts desk k j), []) in r) len)

  rested_more : (l : List Caller) (c : Caller) → rested desk (l ++ c ∷ []) ≡ rested desk l ++ part desk c.lease.number ∷ []
  rested_more [] c = refl
  rested_more (x ∷ xs) c = ap (λ (l : List Part). part desk x.lease.number ∷ l) (rested_more xs c)

  pub back : (callers : List Caller) (c : Caller) (me own me' : Seated) → me ≡ (knows (rested desk callers), []) → own ≡ (alone (part desk c.lease.number), []) → me' ≡ (both me.0 own.0, me.1)
      → me' ≡ (knows (rested desk (callers ++ c ∷ [])), [])
  back callers c me own me' h o h' = h' ∙ ap (λ (m : Seated). let r : Seated = (both m.0 own.0, m.1) in r) h ∙ ap (λ (w : Seated). let r : Seated = (both (knows (rested desk callers)) w.0, []) in r) o
      ∙ ap (λ (l : List Part). let r : Seated = (knows l, []) in r) (sym (rested_more callers c))

-- what the private part shows
pub lease_is : (s : SharedView) (t : TableId) (own : Seated) (k : ℕ) → t ≡ s.table → own ≡ (alone (part s.desk k), [])
    → ◌≡◌ {A = LeaseView} record { table = t; desk = (only own.0.callers).desk; number = (only own.0.callers).number } (lease_of s k)
lease_is s t own k h o i = record { table = h i; desk = (only (o i).0.callers).desk; number = (only (o i).0.callers).number }

-- what the private part owns
pub lease_me : (s : SharedView) (lease : LeaseView) (me : Seated) → me ≡ resting me.0.callers → (only me.0.callers).desk ≡ lease.desk → (only me.0.callers).number ≡ lease.number → IsOf s lease
    → me ≡ (alone (part s.desk lease.number), [])
lease_me s lease me h d n of = h ∙ (λ i. (alone (part ((d ∙ of.1) i) (n i)), []))

-- callers in order are there
pub all_there : (s : SharedView) (callers : List Caller) → AreAll s callers → AreThere s callers
all_there s callers all = record {
  of = λ k c at. let lease = all.each k c at in (ap (λ l. l.table) lease, ap (λ l. l.desk) lease);
  each = λ number lt.
      let many = all.many in
      let c = item number callers (omega arith) in
      let is = ap (λ l. l.number) (all.each number c.0 c.1) in
      let one = total_one (has_number number) callers number c.0 c.1 in
      let me : has_number number c.0 ≡ 1 = ap (λ b. if b then 1 else 0) (eq-eqb c.0.lease.number number is) in omega arith;
}
  where
    item : (k : ℕ) (l : List Caller) → k < length l → (c : Caller) × (get_elem? l k ≡ some c)
    item k [] h = absurd (omega arith)
    item zero (x ∷ xs) h = (x, refl)
    item (suc k) (x ∷ xs) h = item k xs (omega arith)

-- the item of a turn stands at its place
pub placed : {A : Type 0} (yielded it it' initial all : List A) (x : A) → yielded ++ it ≡ initial → initial ≡ all → it ≡ x ∷ it' → get_elem? all (length yielded) ≡ some x
placed yielded it it' initial all x whole gives steps =
    ap (λ l. get_elem? l (length yielded)) (sym (ap (λ l. yielded ++ l) (sym steps) ∙ whole ∙ gives)) ∙ middle yielded it' x

abbrev or_else : DeskView → Option DeskView → DeskView
or_else d None = d
or_else d (Some e) = e

pub some_same : (o : Option DeskView) (d e : DeskView) → o ≡ Some d → o ≡ Some e → d ≡ e
some_same o d e h h' = ap (or_else d) (sym h ∙ h')
