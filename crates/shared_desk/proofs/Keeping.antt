-- Each step keeps the rule.
use Rattle.std.proofs.Common.{◌≡◌, ℕ, zero, suc, ◌+◌, ◌≤◌, ◌≢◌, ◌==◌, List, [], ◌∷◌, get_or, set, length-set, refl, sym, ap, subst, ◌∙◌, ⊎_elim, arith, Option, Some}
use Rattle.std.proofs.lemmas.List.{get_or-set_same}
use mathlib.Core.Option.{some, none, some-injective}
use lib.ListN.{get_elem?}
use prog.Atomic.{either}
use Rattle.atomic_table.specs.Table.{State, step, keeps, takes, gives, rest, Allows}
use Rattle.atomic_table.proofs.Lists.{at_set, set_here, exchanged}
use Rattle.server_desk.specs.DeskViews.{DeskView}
use Rattle.shared_desk.specs.Desks.{SameDesk}
use Rattle.shared_desk.specs.declared.known.Part.{Part}
use Rattle.shared_desk.specs.declared.known.Known.{Known}
use Rattle.shared_desk.specs.declared.known.DeskKey.{DeskKey}
use Rattle.turn_logs.specs.Lists.{total}
use Rattle.shared_desk.specs.Rule.{has, held, part, holder, alone, only, AtHome, Kept}
use Rattle.shared_desk.specs.Steps.{Seated, resting, holds_slot, taken, given}
use Rattle.turn_logs.proofs.Totals.{total_set, total_one}

abbrev pub States : Type 0
States = State (Option DeskView) Known

-- the parts of a view are of the desk
abbrev pub OfDesk : DeskView → Known → Type 0
OfDesk desk v = (k : ℕ) (p : Part) → get_elem? v.callers k ≡ some p → p.desk ≡ desk

pub of_desk_set : (desk : DeskView) (views : List Known) (id : ℕ) (w : Known) → ((j : ℕ) (v : Known) → get_elem? views j ≡ some v → OfDesk desk v) → OfDesk desk w
    → (j : ℕ) (v : Known) → get_elem? (set views id w) j ≡ some v → OfDesk desk v
of_desk_set desk views id w each new j v e = ⊎_elim (λ (t : (j ≡ id) × (w ≡ v)). subst (OfDesk desk) t.1 new) (λ (t : (j ≢ id) × (get_elem? views j ≡ some v)). each j v t.1) (at_set views id j w v e)

-- a view changes, and the word and the slot with it
pub changes : (key : DeskKey) (s : States) (id m : ℕ) (homes : List (mathlib.Core.Option.Option (Option DeskView))) (v w : Known)
    → Kept key s → get_elem? s.views id ≡ some v → m ≤ 1 → m + held v ≡ get_or s.words 0 0 + held w → ((c : ℕ) → has c w ≡ has c v) → OfDesk key.desk.value w → (m ≡ 0 → AtHome key.desk.value homes)
    → Kept key record { words = set s.words 0 m; homes = homes; views = set s.views id w }
changes key s id m homes v w kept at small counts same of home =
    let word : get_or (set s.words 0 m) 0 0 ≡ m = get_or-set_same s.words 0 m 0 (let one = kept.one_word in omega arith) in record {
      one_word = length-set s.words 0 m ∙ kept.one_word;
      at_most = subst (λ n. n ≤ 1) (sym word) small;
      word_is = word ∙ (let t = total_set held s.views id v w at in let is = kept.word_is in omega arith);
      once = λ c. (let t = total_set (has c) s.views id v w at in let h = same c in let e : total (has c) (set s.views id w) ≡ total (has c) s.views = omega arith in e) ∙ kept.once c;
      of_desk = of_desk_set key.desk.value s.views id w kept.of_desk of;
      home = λ zero_now. home (sym word ∙ zero_now);
    }

single : (desk : DeskView) (p : Part) → p.desk ≡ desk → OfDesk desk (alone p)
single desk p e zero q at = subst (λ x. x.desk ≡ desk) (some-injective p q at) e
single desk p e (suc k) q at = absurd (mathlib.Core.Option.some-ne-none q (sym at))

-- a caller takes the desk, where it is at home
takes_at : (key : DeskKey) (slots id : ℕ) (desk : DeskView) (number : ℕ)
    → Allows (Kept key) slots id (alone (part desk number), []) 0 (λ n. either (n == 0) 1 n) (taken (step slots 0 0 1 none) (alone (part desk number), []))
takes_at key slots id desk number s kept long at small =
    let n : ℕ = get_or s.words 0 0 in
    let mine : desk ≡ key.desk.value = kept.of_desk id _ at 0 (part desk number) refl in
    exchanged n 0 1 (λ m. (w : Known) × (a : Rattle.atomic_table.specs.Table.Act (Option DeskView)) × Rattle.atomic_table.specs.Table.Valid s.homes [] a × Kept key (Rattle.atomic_table.specs.Table.stepped s 0 m id [] w a)
    × taken (step slots 0 0 1 none) (alone (part desk number), []) n (w, Rattle.atomic_table.specs.Table.carried_after [] a))
    (λ hit. let h = kept.home hit in (
      alone (holder desk number),
      takes 0 (Some h.0),
      h.1,
      changes key s id 1 _ (alone (part desk number)) (alone (holder desk number)) kept at (omega arith) (let e : n ≡ 0 = hit in omega arith) (λ c. refl) (single _ (holder desk number) mine) (λ never. absurd (omega arith)),
      ((λ _. record { desk = h.0; now = refl; same = subst (λ d. SameDesk h.0 d) (sym mine) h.2 }), λ miss. absurd (miss hit)),
    ))
    (λ miss. (
      alone (part desk number),
      keeps,
      tt,
      changes key s id n _ (alone (part desk number)) (alone (part desk number)) kept at kept.at_most refl (λ c. refl) (single _ (part desk number) mine) kept.home,
      ((λ hit. absurd (miss hit)), λ _. refl),
    ))

pub takes_desk : (key : DeskKey) (slots id : ℕ) (me : Seated) → me ≡ resting me.0.callers
    → Allows (Kept key) slots id me 0 (λ n. either (n == 0) 1 n) (taken (step slots 0 0 1 none) me)
takes_desk key slots id me at_rest = subst (λ (m : Seated). Allows (Kept key) slots id m 0 (λ n. either (n == 0) 1 n) (taken (step slots 0 0 1 none) m)) (sym at_rest) (takes_at key slots id _ _)

-- a caller that holds the desk gives it back
gives_at : (key : DeskKey) (slots id : ℕ) (desk : DeskView) (number : ℕ) (d : DeskView) → slots ≡ 1 → SameDesk d desk
    → Allows (Kept key) slots id (alone (holder desk number), (0, Some d) ∷ []) 0 (λ _. 0) (λ _. given (step slots 0 0 0 none) (alone (holder desk number), (0, Some d) ∷ []) 0)
gives_at key slots id desk number d one_slot same s kept long at small =
    let mine : desk ≡ key.desk.value = kept.of_desk id _ at 0 (holder desk number) refl in
    let some_held = total_one held s.views id _ at in
    let word = kept.word_is in
    let most = kept.at_most in (
      alone (part desk number),
      gives,
      tt,
      changes key s id 0 _ (alone (holder desk number)) (alone (part desk number)) kept at (omega arith) (omega arith) (λ c. refl) (single _ (part desk number) mine)
          (λ _. (d, set_here s.homes 0 (some (Some d)) (omega arith), subst (λ x. SameDesk d x) mine same)),
      refl,
    )

pub gives_desk : (key : DeskKey) (slots id : ℕ) (me : Seated) (d : DeskView) → slots ≡ 1 → me ≡ holds_slot me.0.callers (Some d) → SameDesk d (only me.0.callers).desk
    → Allows (Kept key) slots id me 0 (λ _. 0) (λ _. given (step slots 0 0 0 none) me 0)
gives_desk key slots id me d one_slot has_it same =
    subst (λ (m : Seated). Allows (Kept key) slots id m 0 (λ _. 0) (λ _. given (step slots 0 0 0 none) m 0)) (sym has_it) (gives_at key slots id _ _ d one_slot same)

-- the slot of one who holds the desk is the last that was taken
pub slot_first : (m : Seated) (ps : List Part) (y : Option DeskView) → m ≡ holds_slot ps y → m.1 ≡ (0, y) ∷ rest m.1
slot_first m ps y h = subst (λ (k : Seated). k.1 ≡ (0, y) ∷ rest k.1) (sym h) refl

-- after a value is put into the slot
pub filled : (m m' : Seated) (x y : Option DeskView) → m ≡ holds_slot m.0.callers x → m' ≡ (m.0, (0, y) ∷ rest m.1)
    → (m' ≡ holds_slot m'.0.callers y) × (only m'.0.callers ≡ only m.0.callers)
filled m m' x y h h' =
    let e : m' ≡ holds_slot m.0.callers y = h' ∙ ap (λ (k : Seated). let r : Seated = (k.0, (0, y) ∷ rest k.1) in r) h in (
      subst (λ (k : Seated). k ≡ holds_slot k.0.callers y) (sym e) refl,
      ap (λ (k : Seated). only k.0.callers) e ∙ sym (ap (λ (k : Seated). only k.0.callers) h),
    )
