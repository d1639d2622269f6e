-- What looked words say of a table, and rows that are kept.
use Rattle.std.proofs.Common.{◌≡◌, ℕ, zero, suc, ◌+◌, ◌<◌, ◌≤◌, ◌==◌, ⊎_elim, if◌then◌else◌, Bool, true, false, List, [], ◌∷◌, length, get_or, sym, refl, ap, ◌∙◌, subst, arith, Option, Some, None}
use Rattle.std.proofs.lemmas.Bool.{false≢true}
use Rattle.std.proofs.lemmas.Bool.Decides.{nat_tests}
use mathlib.Core.Option.{some, some-injective, some-ne-none}
use lib.ListN.{get_elem?}
use Rattle.qws_base.specs.Sides.{Sides}
use Rattle.region_table.specs.Numbers.{row_word, IsTableWord}
use Rattle.region_table.specs.Packing.{unpacked}
use Rattle.fb_words.specs.declared.known.Looked.{Looked}
use Rattle.fb_words.specs.declared.known.KeptClip.{KeptClip}
use Rattle.fb_words.specs.declared.known.Mode.{Mode}
use Rattle.fb_words.specs.declared.known.Mode.TheVariants.{Idle, Refused, Reading}
use Rattle.fb_words.specs.declared.known.Client.{Client}
use Rattle.turn_logs.specs.Tables.{revision_in, count_in, rect_in, RectHas, IsOnScreen, IsTable, SameRow, Follows}
use Rattle.fb_words.specs.Clips.{look_of, with_first, looks_of, rects_of, clip_of, is_value, spelled, IsLookedRow, row_seen, stored, if_slot, kept, IsClip, LooksTrue}
use Rattle.fb_words.specs.Rule.{LooksOk}
use Rattle.turn_logs.proofs.Joining.{place_within}
use Rattle.turn_logs.proofs.Options.{none_some, some_is}

-- ---- looked words

pub look_true : (t : List ℕ) (looked : List Looked) (i v : ℕ) → LooksTrue t looked → look_of looked i ≡ Some v → IsTableWord i × (get_or t i 0 ≡ v)
look_true t [] i v ok e = none_some v e
look_true t (l ∷ looked) i v ok e = go (l.word == i) refl e (look_true t looked i v (λ k m d. ok (suc k) m d))
  where
    go : (b : Bool) → (l.word == i) ≡ b → (if b then Some l.value else look_of looked i) ≡ Some v → (look_of looked i ≡ Some v → IsTableWord i × (get_or t i 0 ≡ v)) → IsTableWord i × (get_or t i 0 ≡ v)
    go true is e r = let same : l.word ≡ i = grind (arith, nat_tests) in let here = ok 0 l refl in
        (subst IsTableWord same here.0, ap (λ n. get_or t n 0) (sym same) ∙ here.1 ∙ some_is l.value v e)
    go false is e r = r e

looks_are : (looked : List Looked) (i n : ℕ) (vs : List ℕ) → looks_of looked i n ≡ Some vs → (n ≡ length vs) × ((j v : ℕ) → get_elem? vs j ≡ some v → look_of looked (i + j) ≡ Some v)
looks_are looked i zero vs e = let is = some_is [] vs e in (ap length is, λ j v at. absurd (some-ne-none v (sym (subst (λ l. get_elem? l j ≡ some v) (sym is) at))))
looks_are looked i (suc n) vs e = go (look_of looked i) refl (looks_of looked (i + 1) n) refl (looks_are looked (i + 1) n) e
  where
    go : (o : Option ℕ) → look_of looked i ≡ o → (r : Option (List ℕ)) → looks_of looked (i + 1) n ≡ r → ((us : List ℕ) → looks_of looked (i + 1) n ≡ Some us → (n ≡ length us) × ((j v : ℕ) → get_elem? us j ≡ some v → look_of looked (i + 1 + j) ≡ Some v)) → with_first o r ≡ Some vs
        → (suc n ≡ length vs) × ((j v : ℕ) → get_elem? vs j ≡ some v → look_of looked (i + j) ≡ Some v)
    go None first r rest more e = none_some vs e
    go (Some u) first None rest more e = none_some vs e
    go (Some u) first (Some us) rest more e = let is = some_is (u ∷ us) vs e in let r = more us rest in
        (ap suc r.0 ∙ ap length is, λ j v at. place j v (subst (λ l. get_elem? l j ≡ some v) (sym is) at) r.1)
      where
        place : (j v : ℕ) → get_elem? (u ∷ us) j ≡ some v → ((j v : ℕ) → get_elem? us j ≡ some v → look_of looked (i + 1 + j) ≡ Some v) → look_of looked (i + j) ≡ Some v
        place zero v at r = ap (look_of looked) (let z : i + 0 ≡ i = omega arith in z) ∙ first ∙ ap (λ x. Some x) (some-injective u v at)
        place (suc j) v at r = ap (look_of looked) (let z : i + suc j ≡ i + 1 + j = omega arith in z) ∙ r j v at

-- ---- a row that is spelled

value_is : (v : ℕ) (o : Option ℕ) → is_value v o ≡ true → o ≡ Some v
value_is v None e = absurd (false≢true e)
value_is v (Some n) e = ap (λ x. Some x) (let z : n ≡ v = grind (arith, nat_tests) in z)

pub spelt_from : (number s : ℕ) (looked : List Looked) (clip : KeptClip) → spelled number s looked ≡ Some clip → (clip.slot ≡ s) × IsLookedRow number looked clip
spelt_from number s looked clip e = owned (is_value (number + 1) (look_of looked (row_word s))) refl e
  where
    rows : (r : Option ℕ) → look_of looked (row_word s + 1) ≡ r → (g : Option ℕ) → look_of looked (row_word s + 2) ≡ g → (n : Option ℕ) → look_of looked (row_word s + 3) ≡ n
        → (vs : Option (List ℕ)) → rects_of looked s n ≡ vs → clip_of s r g vs ≡ Some clip → look_of looked (row_word s) ≡ Some (number + 1) → (clip.slot ≡ s) × IsLookedRow number looked clip
    rows None r1 g g1 n n1 vs v1 e o = none_some clip e
    rows (Some r) r1 None g1 n n1 vs v1 e o = none_some clip e
    rows (Some r) r1 (Some g) g1 n n1 None v1 e o = none_some clip e
    rows (Some r) r1 (Some g) g1 None n1 (Some vs) v1 e o = none_some vs v1
    rows (Some r) r1 (Some g) g1 (Some n) n1 (Some vs) v1 e o = let made : KeptClip = record { slot = s; revision = r; origin = g; rects = vs } in let is : made ≡ clip = some_is made clip e in
        let l = looks_are looked (row_word s + 4) n vs v1 in
        subst (λ c. (c.slot ≡ s) × IsLookedRow number looked c) is (refl, record { owner = o; revision = r1; origin = g1; count = n1 ∙ ap (λ x. Some x) l.0; rects = l.1 })

    owned : (b : Bool) → is_value (number + 1) (look_of looked (row_word s)) ≡ b
        → (if b then clip_of s (look_of looked (row_word s + 1)) (look_of looked (row_word s + 2)) (rects_of looked s (look_of looked (row_word s + 3))) else None) ≡ Some clip
        → (clip.slot ≡ s) × IsLookedRow number looked clip
    owned true is e = rows (look_of looked (row_word s + 1)) refl (look_of looked (row_word s + 2)) refl (look_of looked (row_word s + 3)) refl (rects_of looked s (look_of looked (row_word s + 3))) refl e (value_is (number + 1) (look_of looked (row_word s)) is)
    owned false is e = none_some clip e

-- a row that the table's words spell is a row of the table
pub spelt_row : (size : Sides) (admitted stamp number : ℕ) (t : List ℕ) (looked : List Looked) (clip : KeptClip) → IsTable size admitted stamp t → LooksTrue t looked → clip.slot < 33 → IsLookedRow number looked clip
    → IsClip size t number clip × (clip.revision ≡ revision_in t clip.slot)
spelt_row size admitted stamp number t looked clip table ok in_range sp =
    let s = clip.slot in
    let revision : revision_in t s ≡ clip.revision = (look_true t looked _ _ ok sp.revision).1 in
    let count : count_in t s ≡ length clip.rects = (look_true t looked _ _ ok sp.count).1 in
    let rects : (j word : ℕ) → get_elem? clip.rects j ≡ some word → rect_in t s j ≡ word = (λ j word e. (look_true t looked _ _ ok (sp.rects j word e)).1) in
    let within : (j word : ℕ) → get_elem? clip.rects j ≡ some word → j < count_in t s = (λ j word e. subst (λ n. j < n) (sym count) (place_within clip.rects j word e)) in (
      record {
        slot_in = in_range;
        revision = subst (λ n. 1 ≤ n) revision (table.revisions s in_range);
        at_most = omega arith;
        same = λ _. record { owner = (look_true t looked _ _ ok sp.owner).1; origin = (look_true t looked _ _ ok sp.origin).1; count = count; rects = rects };
        sound = record {
          few = subst (λ n. n ≤ 256) count (table.few s in_range);
          inside = λ j word e. subst (λ w. IsOnScreen size (unpacked w)) (rects j word e) (table.inside s j in_range (within j word e));
          apart = λ j k v w p on_screen e d hv hw. (table.apart s s j k p in_range in_range on_screen
              (within j v e, subst (λ x. RectHas size x p) (sym (rects j v e)) hv) (within k w d, subst (λ x. RectHas size x p) (sym (rects k w d)) hw)).1;
        };
      },
      sym revision,
    )

-- ---- what a client keeps

-- a row that an open turn has seen
pub seen_row : (size : Sides) (admitted stamp number : ℕ) (t : List ℕ) (m : Mode) (clip : KeptClip) → IsTable size admitted stamp t → LooksOk t stamp m → row_seen number m ≡ Some clip
    → IsClip size t number clip × (clip.revision ≡ revision_in t clip.slot)
seen_row size admitted stamp number t Idle clip table ok e = none_some clip e
seen_row size admitted stamp number t Refused clip table ok e = none_some clip e
seen_row size admitted stamp number t (Reading st None looked log) clip table ok e = none_some clip e
seen_row size admitted stamp number t (Reading st (Some s) looked log) clip table ok e = let f = spelt_from number s looked clip e in
    spelt_row size admitted stamp number t looked clip table ok.0 (subst (λ n. n < 33) (sym f.0) ok.2) f.1

stored_at : (clips : List KeptClip) (s : ℕ) (clip : KeptClip) → stored clips s ≡ Some clip → (k : ℕ) × (get_elem? clips k ≡ some clip) × (clip.slot ≡ s)
stored_at [] s clip e = none_some clip e
stored_at (c ∷ clips) s clip e = go (c.slot == s) refl e (stored_at clips s clip)
  where
    go : (b : Bool) → (c.slot == s) ≡ b → (if b then Some c else stored clips s) ≡ Some clip → (stored clips s ≡ Some clip → (k : ℕ) × (get_elem? clips k ≡ some clip) × (clip.slot ≡ s))
        → (k : ℕ) × (get_elem? (c ∷ clips) k ≡ some clip) × (clip.slot ≡ s)
    go true is e r = let same = some_is c clip e in (0, ap some same, ap (λ x. x.slot) (sym same) ∙ (let z : c.slot ≡ s = grind (arith, nat_tests) in z))
    go false is e r = let t = r e in (suc t.0, t.1, t.2)

-- what is kept for a slot is a clip of it
pub kept_is : (p : Client) (s : ℕ) (clip : KeptClip) (P : KeptClip → Type 0) → ((c : KeptClip) → row_seen p.number p.mode ≡ Some c → P c) → ((k : ℕ) (c : KeptClip) → get_elem? p.clips k ≡ some c → P c)
    → kept p s ≡ Some clip → P clip × (clip.slot ≡ s)
kept_is p s clip P seen old e = go (row_seen p.number p.mode) refl e
  where
    old_one : stored p.clips s ≡ Some clip → P clip × (clip.slot ≡ s)
    old_one e = let t = stored_at p.clips s clip e in (old t.0 clip t.1, t.2)

    go : (o : Option KeptClip) → row_seen p.number p.mode ≡ o → if_slot s o (stored p.clips s) ≡ Some clip → P clip × (clip.slot ≡ s)
    go None is e = old_one e
    go (Some c) is e = by_slot (c.slot == s) refl e
      where
        by_slot : (b : Bool) → (c.slot == s) ≡ b → (if b then Some c else stored p.clips s) ≡ Some clip → P clip × (clip.slot ≡ s)
        by_slot true at e = let same = some_is c clip e in (subst P same (seen c is), ap (λ x. x.slot) (sym same) ∙ (let z : c.slot ≡ s = grind (arith, nat_tests) in z))
        by_slot false at e = old_one e

-- a kept clip under the next table
pub clip_follows : (size : Sides) (c : ℕ) (t u : List ℕ) (clip : KeptClip) → Follows t u → IsClip size t c clip → IsClip size u c clip
clip_follows size c t u clip follows ok = let most = ok.at_most in ⊎_elim
    (λ (up : revision_in t clip.slot < revision_in u clip.slot). let z = up in record { slot_in = ok.slot_in; revision = ok.revision; at_most = omega arith; same = λ e. absurd (omega arith); sound = ok.sound })
    (λ (s : SameRow t u clip.slot). let same = s.revision in record {
      slot_in = ok.slot_in;
      revision = ok.revision;
      at_most = omega arith;
      same = λ e. let row = ok.same (e ∙ sym same) in record {
        owner = sym s.owner ∙ row.owner;
        origin = sym s.origin ∙ row.origin;
        count = sym s.count ∙ row.count;
        rects = λ j word d. sym (s.rects j (subst (λ n. j < n) (sym row.count) (place_within clip.rects j word d))) ∙ row.rects j word d;
      };
      sound = ok.sound;
    })
    (follows clip.slot ok.slot_in)
