-- What a look leaves a client: the words that it owns, and the clip that it has found current.
use Rattle.std.proofs.Common.{◌≡◌, ◌≢◌, ℕ, zero, suc, ◌+◌, ◌-◌, ◌/◌, ◌%◌, ◌<◌, ◌≤◌, ◌==◌, nat_lt, ne_eqb, eq-eqb, ⊎_elim, inl, inr, if◌then◌else◌, Bool, true, false, List, [], ◌∷◌, ◌++◌, length, sym, refl, ap, ◌∙◌, subst, arith, Option, Some, None, ◌⊎◌}
use mathlib.Core.Logic.{dite}
use native.Mathlib.Decide.{ℕ_discrete}
use Rattle.std.proofs.lemmas.Bool.Decides.{nat_tests}
use mathlib.Core.Option.{some}
use lib.ListN.{get_elem?}
use Rattle.region_table.specs.Numbers.{row_word, pixel_word, IsTableWord, revision_of_slot}
use Rattle.turn_logs.specs.declared.items.Item.{Item}
use Rattle.fb_words.specs.declared.known.Looked.{Looked}
use Rattle.fb_words.specs.declared.known.KeptClip.{KeptClip}
use Rattle.fb_words.specs.declared.known.Mode.{Mode}
use Rattle.fb_words.specs.declared.known.Mode.TheVariants.{Idle, Refused, Reading}
use Rattle.fb_words.specs.declared.known.Client.{Client}
use Rattle.turn_logs.specs.Tables.{revision_in}
use Rattle.fb_words.specs.Clips.{IsLookedRow, look_of, looks_of, with_first, rects_of, clip_of, is_value, looked_in, slot_in, spelled, row_seen, stored, if_slot, kept, IsOutsideRow, IsClip, IsRowIn, LooksTrue, Sees}
use Rattle.fb_words.specs.Rights.{IsSavedOver, Owns}
use Rattle.fb_words.specs.Steps.{or_first, looked_mode, after_look}
use Rattle.turn_logs.proofs.Options.{none_some, same_some}
use Rattle.fb_words.proofs.Found.{looks_together}
use Rattle.fb_words.proofs.Rows.{look_true, spelt_from, spelt_row, kept_is}
use Rattle.fb_words.proofs.Looking.{stamp_stays, earlier}
use Rattle.fb_words.proofs.Keeping.{seen_judged, looks_keep}

-- ---- one look more

look_more : (looked : List Looked) (l : Looked) (i v : ℕ) → look_of looked i ≡ Some v → look_of (looked ++ l ∷ []) i ≡ Some v
look_more [] l i v e = none_some v e
look_more (m ∷ looked) l i v e = go (m.word == i) e (look_more looked l i v)
  where
    go : (b : Bool) → (if b then Some m.value else look_of looked i) ≡ Some v → (look_of looked i ≡ Some v → look_of (looked ++ l ∷ []) i ≡ Some v) → (if b then Some m.value else look_of (looked ++ l ∷ []) i) ≡ Some v
    go true e more = e
    go false e more = more e

pub looked_stays : (m : Mode) (i n j v : ℕ) → look_of (looked_in m) j ≡ Some v → look_of (looked_in (looked_mode i n m)) j ≡ Some v
looked_stays Idle i n j v e = e
looked_stays Refused i n j v e = e
looked_stays (Reading stamp slot looked log) i n j v e = look_more looked record { word = i; value = n } j v e

pub slot_stays : (m : Mode) (i n s : ℕ) → slot_in m ≡ Some s → slot_in (looked_mode i n m) ≡ Some s
slot_stays Idle i n s e = none_some s e
slot_stays Refused i n s e = none_some s e
slot_stays (Reading stamp None looked log) i n s e = none_some s e
slot_stays (Reading stamp (Some t) looked log) i n s e = e

-- ---- a row is spelled where its words were looked at

pub spelled_is : (number : ℕ) (looked : List Looked) (clip : KeptClip) → IsLookedRow number looked clip → spelled number clip.slot looked ≡ Some clip
spelled_is number looked clip sp = let s = clip.slot in
    let clip_with : Option ℕ → Option ℕ → Option ℕ → Option KeptClip = λ r g n. clip_of s r g (rects_of looked s n) in
    ap (λ o. if is_value (number + 1) o then clip_with (look_of looked (row_word s + 1)) (look_of looked (row_word s + 2)) (look_of looked (row_word s + 3)) else None) sp.owner
    ∙ ap (λ b. if b then clip_with (look_of looked (row_word s + 1)) (look_of looked (row_word s + 2)) (look_of looked (row_word s + 3)) else None) (eq-eqb (number + 1) (number + 1) refl)
    ∙ ap (λ r. clip_with r (look_of looked (row_word s + 2)) (look_of looked (row_word s + 3))) sp.revision
    ∙ ap (λ g. clip_with (Some clip.revision) g (look_of looked (row_word s + 3))) sp.origin
    ∙ ap (λ n. clip_with (Some clip.revision) (Some clip.origin) n) sp.count
    ∙ ap (λ l. clip_of s (Some clip.revision) (Some clip.origin) l) (looks_together looked (row_word s + 4) clip.rects sp.rects)

spelt_more : (number : ℕ) (looked : List Looked) (l : Looked) (clip : KeptClip) → IsLookedRow number looked clip → IsLookedRow number (looked ++ l ∷ []) clip
spelt_more number looked l clip sp = record {
  owner = look_more looked l _ _ sp.owner;
  revision = look_more looked l _ _ sp.revision;
  origin = look_more looked l _ _ sp.origin;
  count = look_more looked l _ _ sp.count;
  rects = λ j word e. look_more looked l _ _ (sp.rects j word e);
}

-- ---- two clips of one row are equal

same_items : (l m : List ℕ) → length l ≡ length m → ((j a b : ℕ) → get_elem? l j ≡ some a → get_elem? m j ≡ some b → a ≡ b) → l ≡ m
same_items [] [] e at = refl
same_items [] (b ∷ m) e at = absurd (omega arith)
same_items (a ∷ l) [] e at = absurd (omega arith)
same_items (a ∷ l) (b ∷ m) e at = ap (λ x. x ∷ l) (at 0 a b refl refl) ∙ ap (λ x. b ∷ x) (same_items l m (omega arith) (λ j x y d f. at (suc j) x y d f))

same_clip : (t : List ℕ) (c : ℕ) (a b : KeptClip) → a.slot ≡ b.slot → a.revision ≡ b.revision → IsRowIn t c a → IsRowIn t c b → a ≡ b
same_clip t c a b slot revision ra rb0 = let rb : IsRowIn t c record b { slot = a.slot } = subst (λ s. IsRowIn t c record b { slot = s }) (sym slot) rb0 in
    ap (λ g. record a { origin = g }) (sym ra.origin ∙ rb.origin)
    ∙ ap (λ l. record a { origin = b.origin; rects = l }) (same_items a.rects b.rects (sym ra.count ∙ rb.count) (λ j x y d e. sym (ra.rects j x d) ∙ rb.rects j y e))
    ∙ ap (λ n. record a { origin = b.origin; rects = b.rects; revision = n }) revision
    ∙ ap (λ s. record b { slot = s }) slot

-- ---- what a client has found current stays

-- a clip that is kept for the turn's slot, and has the looked revision, is kept after any look
pub kept_stays : (p : Client) (i n slot : ℕ) (clip : KeptClip) → (v : Sees (after_look p i n)) → slot_in (looked_mode i n p.mode) ≡ Some slot → kept p slot ≡ Some clip
    → look_of (looked_in (looked_mode i n p.mode)) (row_word slot + 1) ≡ Some clip.revision → kept (after_look p i n) slot ≡ Some clip
kept_stays p i n slot clip v at is now = go p.mode at v.looks is now
  where
    old : Option KeptClip
    old = stored p.clips slot

    -- the row that is spelled now is the clip
    new_row : (looked : List Looked) (c : KeptClip) → spelled p.number slot looked ≡ Some c → LooksTrue v.table looked → look_of looked (row_word slot + 1) ≡ Some clip.revision
        → IsClip p.setting.size v.table p.number clip → clip.slot ≡ slot → c ≡ clip
    new_row looked c e true_in current ok there =
        let sp = spelt_from p.number slot looked c e in
        let revision : c.revision ≡ clip.revision = same_some c.revision clip.revision (sym sp.1.revision ∙ ap (λ x. look_of looked (row_word x + 1)) sp.0 ∙ current) in
        let row = spelt_row p.setting.size v.admitted _ p.number v.table looked c v.is_table true_in (subst (λ x. x < 33) (there ∙ sym sp.0) ok.slot_in) sp.1 in
        same_clip v.table p.number c clip (sp.0 ∙ sym there) revision (row.0.same row.1) (ok.same (sym revision ∙ row.1 ∙ ap (revision_in v.table) (sp.0 ∙ sym there)))

    -- what is kept after it
    found : (o : Option ℕ) (looked : List Looked) (stamp : Option ℕ) (log : List Item) → o ≡ Some slot → LooksTrue v.table looked → look_of looked (row_word slot + 1) ≡ Some clip.revision
        → IsClip p.setting.size v.table p.number clip → clip.slot ≡ slot → (spelled p.number slot looked ≡ Some clip) ⊎ (old ≡ Some clip)
        → if_slot slot (row_seen p.number (Reading stamp o looked log)) old ≡ Some clip
    found None looked stamp log at true_in current ok there was = none_some slot at
    found (Some s) looked stamp log at true_in current ok there was =
        ap (λ x. if_slot slot (spelled p.number x looked) old) (same_some s slot at) ∙ by_row (spelled p.number slot looked) refl
      where
        by_row : (r : Option KeptClip) → spelled p.number slot looked ≡ r → if_slot slot r old ≡ Some clip
        by_row None e = ⊎_elim (λ (a : spelled p.number slot looked ≡ Some clip). none_some clip (sym e ∙ a)) (λ (b : old ≡ Some clip). b) was
        by_row (Some c) e = let same = new_row looked c e true_in current ok there in
            ap (λ x. if_slot slot (Some x) old) same ∙ ap (λ b. if b then Some clip else old) (eq-eqb clip.slot slot there)

    judged : IsClip p.setting.size v.table p.number clip × (clip.slot ≡ slot)
    judged = kept_is p slot clip (IsClip p.setting.size v.table p.number)
        (λ c e. seen_judged (after_look p i n) v p.mode c (earlier v.table p.mode i n v.looks) e) v.clips is

    go : (m : Mode) → slot_in (looked_mode i n m) ≡ Some slot → LooksTrue v.table (looked_in (looked_mode i n m)) → if_slot slot (row_seen p.number m) old ≡ Some clip
        → look_of (looked_in (looked_mode i n m)) (row_word slot + 1) ≡ Some clip.revision → if_slot slot (row_seen p.number (looked_mode i n m)) old ≡ Some clip
    go Idle at true_in was current = none_some slot at
    go Refused at true_in was current = none_some slot at
    go (Reading stamp None looked log) at true_in was current = found (revision_of_slot i) (looked ++ record { word = i; value = n } ∷ []) (or_first stamp (if i == 1 then Some n else None)) log at true_in current judged.0 judged.1 (inr was)
    go (Reading stamp (Some s) looked log) at true_in was current =
        found (Some s) (looked ++ record { word = i; value = n } ∷ []) (or_first stamp (if i == 1 then Some n else None)) log at true_in current judged.0 judged.1 (before (spelled p.number slot looked) refl (ap (λ x. if_slot slot (spelled p.number x looked) old) (sym (same_some s slot at)) ∙ was))
      where
        before : (r : Option KeptClip) → spelled p.number slot looked ≡ r → if_slot slot r old ≡ Some clip → (spelled p.number slot (looked ++ record { word = i; value = n } ∷ []) ≡ Some clip) ⊎ (old ≡ Some clip)
        before None e w = inr w
        before (Some c) e w = let sp = spelt_from p.number slot looked c e in
            let same : c ≡ clip = same_some c clip (ap (λ b. if b then Some c else old) (sym (eq-eqb c.slot slot sp.0)) ∙ w) in
            inl (ap (λ x. spelled p.number x (looked ++ record { word = i; value = n } ∷ [])) (sym sp.0) ∙ spelled_is p.number (looked ++ record { word = i; value = n } ∷ []) c (spelt_more p.number looked record { word = i; value = n } c sp.1) ∙ ap (λ x. Some x) same)

-- what it owns, it owns after any look
pub owns_look : (p : Client) (i n : ℕ) → (v : Sees (after_look p i n)) → (x : ℕ) → Owns p x → Owns (after_look p i n) x
owns_look p i n v x o = record {
  stamp = o.stamp;
  stamped = stamp_stays p.mode i n o.stamp o.stamped;
  clip = o.clip;
  turn_slot = slot_stays p.mode i n o.clip.slot o.turn_slot;
  kept_clip = kept_stays p i n o.clip.slot o.clip v (slot_stays p.mode i n o.clip.slot o.turn_slot) o.kept_clip (looked_stays p.mode i n _ _ o.current);
  current = looked_stays p.mode i n _ _ o.current;
  rect = o.rect;
  rect_word = o.rect_word;
  rect_at = o.rect_at;
  pixel = o.pixel;
  on_screen = o.on_screen;
  holds = o.holds;
  word = ⊎_elim (λ (e : x ≡ pixel_word o.pixel). inl e)
      (λ (d : (place : ℕ) × (shape : ℕ) × (look_of (looked_in p.mode) 2 ≡ Some place) × (look_of (looked_in p.mode) 3 ≡ Some shape) × IsSavedOver p.setting.size place shape o.pixel x).
      inr (d.0, d.1, looked_stays p.mode i n 2 d.0 d.2, looked_stays p.mode i n 3 d.1 d.3, d.4))
      o.word;
}

-- ---- a look outside of a slot's row

look_else : (looked : List Looked) (l : Looked) (j : ℕ) → l.word ≢ j → look_of (looked ++ l ∷ []) j ≡ look_of looked j
look_else [] l j ne = ap (λ b. if b then Some l.value else None) (ne_eqb l.word j ne)
look_else (m ∷ looked) l j ne = ap (λ o. if m.word == j then Some m.value else o) (look_else looked l j ne)

looks_else : (looked : List Looked) (l : Looked) (i n : ℕ) → ((k : ℕ) → k < n → l.word ≢ i + k) → looks_of (looked ++ l ∷ []) i n ≡ looks_of looked i n
looks_else looked l i zero ne = refl
looks_else looked l i (suc n) ne =
    ap (λ o. with_first o (looks_of (looked ++ l ∷ []) (i + 1) n)) (look_else looked l i (λ e. ne 0 (omega arith) (omega arith)))
    ∙ ap (with_first (look_of looked i)) (looks_else looked l (i + 1) n (λ k lt e. ne (suc k) (omega arith) (omega arith)))

rects_else : (looked : List Looked) (l : Looked) (slot : ℕ) (o : Option ℕ) → IsOutsideRow slot l.word → ((n : ℕ) → o ≡ Some n → n ≤ 256) → rects_of (looked ++ l ∷ []) slot o ≡ rects_of looked slot o
rects_else looked l slot None out few = refl
rects_else looked l slot (Some n) out few = looks_else looked l (row_word slot + 4) n (λ k lt e. let le = few n refl in outside slot l.word (4 + k) out (omega arith) (omega arith))
  where
    outside : (slot word k : ℕ) → (word < row_word slot) ⊎ (row_word slot + 260 ≤ word) → k < 260 → word ≡ row_word slot + k → ⊥
    outside slot word k out lt e = ⊎_elim (λ (a : word < row_word slot). omega arith) (λ (b : row_word slot + 260 ≤ word). omega arith) out

spelled_else : (number slot : ℕ) (looked : List Looked) (l : Looked) → IsOutsideRow slot l.word → ((n : ℕ) → look_of looked (row_word slot + 3) ≡ Some n → n ≤ 256)
    → spelled number slot (looked ++ l ∷ []) ≡ spelled number slot looked
spelled_else number slot looked l out few =
    let first : (k : ℕ) → k < 4 → look_of (looked ++ l ∷ []) (row_word slot + k) ≡ look_of looked (row_word slot + k) = λ k lt. look_else looked l (row_word slot + k)
    (λ e. ⊎_elim (λ (a : l.word < row_word slot). let z : ⊥ = omega arith in z) (λ (b : row_word slot + 260 ≤ l.word). let z : ⊥ = omega arith in z) out) in
    let zeroth : look_of (looked ++ l ∷ []) (row_word slot) ≡ look_of looked (row_word slot) = let same : row_word slot + 0 ≡ row_word slot = omega arith in subst (λ i. look_of (looked ++ l ∷ []) i ≡ look_of looked i) same (first 0 (omega arith)) in
    let all = looked ++ l ∷ [] in
    ap (λ o. if is_value (number + 1) o then clip_of slot (look_of all (row_word slot + 1)) (look_of all (row_word slot + 2)) (rects_of all slot (look_of all (row_word slot + 3))) else None) zeroth
    ∙ ap (λ r. if is_value (number + 1) (look_of looked (row_word slot)) then clip_of slot r (look_of all (row_word slot + 2)) (rects_of all slot (look_of all (row_word slot + 3))) else None) (first 1 (omega arith))
    ∙ ap (λ g. if is_value (number + 1) (look_of looked (row_word slot)) then clip_of slot (look_of looked (row_word slot + 1)) g (rects_of all slot (look_of all (row_word slot + 3))) else None) (first 2 (omega arith))
    ∙ ap (λ n. if is_value (number + 1) (look_of looked (row_word slot)) then clip_of slot (look_of looked (row_word slot + 1)) (look_of looked (row_word slot + 2)) (rects_of all slot n) else None) (first 3 (omega arith))
    ∙ ap (λ vs. if is_value (number + 1) (look_of looked (row_word slot)) then clip_of slot (look_of looked (row_word slot + 1)) (look_of looked (row_word slot + 2)) vs else None) (rects_else looked l slot (look_of looked (row_word slot + 3)) out few)

not_its_revision : (i slot : ℕ) → IsOutsideRow slot i → revision_of_slot i ≡ Some slot → ⊥
not_its_revision i slot out = go (nat_lt i 2052) refl ((i - 2052) % 260 == 1) refl
  where
    go : (b : Bool) → nat_lt i 2052 ≡ b → (c : Bool) → ((i - 2052) % 260 == 1) ≡ c → (if b then None else if c then Some ((i - 2052) / 260) else None) ≡ Some slot → ⊥
    go true low c is e = none_some slot e
    go false low false is e = none_some slot e
    go false low true is e =
        let past : 2052 ≤ i = grind (arith, nat_tests) in
        let first : (i - 2052) % 260 ≡ 1 = grind (arith, nat_tests) in
        let at : (i - 2052) / 260 ≡ slot = same_some ((i - 2052) / 260) slot e in
        ⊎_elim (λ (a : i < row_word slot). let z : ⊥ = omega arith in z) (λ (b : row_word slot + 260 ≤ i). let z : ⊥ = omega arith in z) out

count_word_in : (s : ℕ) → IsTableWord (row_word s + 3) → s < 33
count_word_in s t = ⊎_elim (λ (a : (1 ≤ row_word s + 3) × (row_word s + 3 ≤ 1027)). let z = a.1 in let y : s < 33 = omega arith in y) (λ (b : (2052 ≤ row_word s + 3) × (row_word s + 3 ≤ 10631)). let z = b.1 in let y : s < 33 = omega arith in y) t

-- what is kept for the slot stays
pub kept_else : (p : Client) (i n : ℕ) → (v : Sees (after_look p i n)) → (slot : ℕ) → IsOutsideRow slot i → kept (after_look p i n) slot ≡ kept p slot
kept_else p i n v slot out = go p.mode refl
  where
    other : Option KeptClip
    other = stored p.clips slot

    away : (slot_in (looked_mode i n p.mode) ≡ Some slot → ⊥) → kept (after_look p i n) slot ≡ kept p slot
    away ne = looks_keep p i n slot ne

    go : (m : Mode) → p.mode ≡ m → kept (after_look p i n) slot ≡ kept p slot
    go Idle is = away (λ e. none_some slot (ap (λ x. slot_in (looked_mode i n x)) (sym is) ∙ e))
    go Refused is = away (λ e. none_some slot (ap (λ x. slot_in (looked_mode i n x)) (sym is) ∙ e))
    go (Reading stamp None looked log) is = away (λ e. not_its_revision i slot out (ap (λ x. slot_in (looked_mode i n x)) (sym is) ∙ e))
    go (Reading stamp (Some s) looked log) is = dite (ℕ_discrete s slot) same (λ ne. away (λ e. ne (same_some s slot (ap (λ x. slot_in (looked_mode i n x)) (sym is) ∙ e))))
      where
        true_in : LooksTrue v.table looked
        true_in = subst (λ x. LooksTrue v.table (looked_in x)) is (earlier v.table p.mode i n v.looks)

        few : (k : ℕ) → look_of looked (row_word s + 3) ≡ Some k → k ≤ 256
        few k at = let t = look_true v.table looked (row_word s + 3) k true_in at in
            subst (λ x. x ≤ 256) t.1 (v.is_table.few s (count_word_in s t.0))

        same : s ≡ slot → kept (after_look p i n) slot ≡ kept p slot
        same e =
            ap (λ x. if_slot slot (row_seen p.number (looked_mode i n x)) other) is
            ∙ ap (λ o. if_slot slot o other) (spelled_else p.number s looked record { word = i; value = n } (subst (λ x. IsOutsideRow x i) (sym e) out) few)
            ∙ sym (ap (λ x. if_slot slot (row_seen p.number x) other) is)
