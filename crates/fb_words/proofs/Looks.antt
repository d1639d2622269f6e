-- Looks of one word after another.
use Rattle.std.proofs.Common.{◌≡◌, ℕ, ◌+◌, ◌<◌, ◌≤◌, ◌==◌, ⊎_elim, inl, inr, if◌then◌else◌, Bool, true, false, List, [], ◌∷◌, ◌++◌, sym, refl, ap, ◌∙◌, subst, arith, Option, Some, None, ◌⊎◌}
use Rattle.std.proofs.lemmas.Bool.Decides.{nat_tests}
use Rattle.qws_base.specs.Points.{pixel_count}
use Rattle.qws_base.specs.Scenes.{Setting}
use Rattle.region_table.specs.Numbers.{row_word, pixel_word}
use Rattle.turn_logs.specs.declared.items.Item.{Item}
use Rattle.turn_logs.specs.Tables.{RectHas}
use Rattle.turn_logs.proofs.Options.{none_some}
use Rattle.fb_words.specs.declared.known.Looked.{Looked}
use Rattle.fb_words.specs.declared.known.Mode.{Mode}
use Rattle.fb_words.specs.declared.known.Mode.TheVariants.{Idle, Refused, Reading}
use Rattle.fb_words.specs.declared.known.Client.{Client}
use Rattle.fb_words.specs.Clips.{look_of, looked_in, stamp_in, slot_in, log_in, kept, IsOutsideRow}
use Rattle.fb_words.specs.Rights.{IsSavedOver, Owns}
use Rattle.fb_words.specs.Steps.{looked_mode, item_mode}
use Rattle.fb_words.specs.Looks.{AreOutsideRow, LooksLaw, GoingLaw}
use Rattle.fb_words.proofs.Owned.{looked_stays, slot_stays}

-- a word looked up behind one more look is that look's, or was looked at before
pub look_last : (looked : List Looked) (l : Looked) (x v : ℕ) → look_of (looked ++ l ∷ []) x ≡ Some v → (look_of looked x ≡ Some v) ⊎ (x ≡ l.word)
look_last [] l x v e = go (l.word == x) refl e
  where
    go : (b : Bool) → (l.word == x) ≡ b → (if b then Some l.value else None) ≡ Some v → (let n : Option ℕ = None in n ≡ Some v) ⊎ (x ≡ l.word)
    go true is e = inr (grind (arith, nat_tests))
    go false is e = none_some v e
look_last (m ∷ looked) l x v e = go (m.word == x) e (look_last looked l x v)
  where
    go : (b : Bool) → (if b then Some m.value else look_of (looked ++ l ∷ []) x) ≡ Some v → (look_of (looked ++ l ∷ []) x ≡ Some v → (look_of looked x ≡ Some v) ⊎ (x ≡ l.word))
        → ((if b then Some m.value else look_of looked x) ≡ Some v) ⊎ (x ≡ l.word)
    go true e r = inl e
    go false e r = r e

pub found_at : (m : Mode) (i n x v : ℕ) → look_of (looked_in (looked_mode i n m)) x ≡ Some v → (look_of (looked_in m) x ≡ Some v) ⊎ (x ≡ i)
found_at Idle i n x v e = inl e
found_at Refused i n x v e = inl e
found_at (Reading stamp slot looked log) i n x v e = look_last looked record { word = i; value = n } x v e

same_log : (m : Mode) (i n : ℕ) → log_in (looked_mode i n m) ≡ log_in m
same_log Idle i n = refl
same_log Refused i n = refl
same_log (Reading stamp slot looked log) i n = refl

-- words that are fewer leave more rows
fewer_rows : (slot a b first past : ℕ) → first ≤ a → b ≤ past → AreOutsideRow slot first past → AreOutsideRow slot a b
fewer_rows slot a b first past low high out = ⊎_elim (λ (x : past ≤ row_word slot). inl (omega arith)) (λ (y : row_word slot + 260 ≤ first). inr (omega arith)) out

-- one word outside the row
one_outside : (slot i : ℕ) → AreOutsideRow slot i (i + 1) → IsOutsideRow slot i
one_outside slot i out = ⊎_elim (λ (x : i + 1 ≤ row_word slot). inl (omega arith)) (λ (y : row_word slot + 260 ≤ i). inr y) out

pub looks_law : LooksLaw
looks_law = record {
  none = λ first past p. record { rest = refl; log = refl; slot = λ s e. e; stays = λ x v e. e; only = λ x v e. inl e; owns = λ x o. o; kept_is = λ s out. refl };
  one = λ p q i n is owns away. record {
    rest = is ∙ ap (λ m. record p { mode = m }) (sym (ap (λ (x : Client). x.mode) is));
    log = ap (λ (x : Client). log_in x.mode) is ∙ same_log p.mode i n;
    slot = λ s e. ap (λ (x : Client). slot_in x.mode) is ∙ slot_stays p.mode i n s e;
    stays = λ x v e. ap (λ (y : Client). look_of (looked_in y.mode) x) is ∙ looked_stays p.mode i n x v e;
    only = λ x v e. ⊎_elim (λ (a : look_of (looked_in p.mode) x ≡ Some v). inl a) (λ (b : x ≡ i). inr (omega arith, omega arith))
        (found_at p.mode i n x v (sym (ap (λ (y : Client). look_of (looked_in y.mode) x) is) ∙ e));
    owns = owns;
    kept_is = λ s out. away s (one_outside s i out);
  };
  wider = λ a b first past p q low high l. record {
    rest = l.rest;
    log = l.log;
    slot = l.slot;
    stays = l.stays;
    only = λ x v e. ⊎_elim (λ (c : look_of (looked_in p.mode) x ≡ Some v). inl c) (λ (d : (a ≤ x) × (x < b)). inr (let y = d.0 in let z = d.1 in (omega arith, omega arith))) (l.only x v e);
    owns = l.owns;
    kept_is = λ s out. l.kept_is s (fewer_rows s a b first past low high out);
  };
  both = λ first past p q r a b. record {
    rest = b.rest ∙ ap (λ (x : Client). record x { mode = r.mode }) a.rest;
    log = b.log ∙ a.log;
    slot = λ s e. b.slot s (a.slot s e);
    stays = λ x v e. b.stays x v (a.stays x v e);
    only = λ x v e. ⊎_elim (λ (c : look_of (looked_in q.mode) x ≡ Some v). a.only x v c) (λ (d : (first ≤ x) × (x < past)). inr d) (b.only x v e);
    owns = λ x o. b.owns x (a.owns x o);
    kept_is = λ s out. b.kept_is s out ∙ a.kept_is s out;
  };
}

-- ---- reads and writes between looks

-- an item changes the log alone
record SameButLog (m n : Mode) : Type 0 where
  stamp : stamp_in n ≡ stamp_in m
  slot : slot_in n ≡ slot_in m
  looked : looked_in n ≡ looked_in m

item_same : (m : Mode) (i : Item) → SameButLog m (item_mode i m)
item_same Idle i = record { stamp = refl; slot = refl; looked = refl }
item_same Refused i = record { stamp = refl; slot = refl; looked = refl }
item_same (Reading stamp slot looked log) i = record { stamp = refl; slot = refl; looked = refl }

owns_same : (p q : Client) → q.setting ≡ p.setting → SameButLog p.mode q.mode → ((s : ℕ) → kept q s ≡ kept p s) → (x : ℕ) → Owns p x → Owns q x
owns_same p q setting same keeps x o = record {
  stamp = o.stamp;
  stamped = same.stamp ∙ o.stamped;
  clip = o.clip;
  turn_slot = same.slot ∙ o.turn_slot;
  kept_clip = keeps o.clip.slot ∙ o.kept_clip;
  current = ap (λ l. look_of l (row_word o.clip.slot + 1)) same.looked ∙ o.current;
  rect = o.rect;
  rect_word = o.rect_word;
  rect_at = o.rect_at;
  pixel = o.pixel;
  on_screen = subst (λ (s : Setting). o.pixel < pixel_count s.size) (sym setting) o.on_screen;
  holds = subst (λ (s : Setting). RectHas s.size o.rect_word o.pixel) (sym setting) o.holds;
  word = ⊎_elim (λ (e : x ≡ pixel_word o.pixel). inl e)
      (λ (d : (place : ℕ) × (shape : ℕ) × (look_of (looked_in p.mode) 2 ≡ Some place) × (look_of (looked_in p.mode) 3 ≡ Some shape) × IsSavedOver p.setting.size place shape o.pixel x).
      inr (d.0, d.1, ap (λ l. look_of l 2) same.looked ∙ d.2, ap (λ l. look_of l 3) same.looked ∙ d.3, subst (λ (s : Setting). IsSavedOver s.size d.0 d.1 o.pixel x) (sym setting) d.4))
      o.word;
}

pub going_law : GoingLaw
going_law = record {
  none = λ first past p. record { rest = refl; slot = λ s e. e; stays = λ x v e. e; only = λ x v e. inl e; owns = λ x o. o; kept_is = λ s out. refl };
  looks = λ first past p q a. record { rest = a.rest; slot = a.slot; stays = a.stays; only = a.only; owns = a.owns; kept_is = a.kept_is };
  item = λ first past p q i is keeps.
      let mode : q.mode ≡ item_mode i p.mode = ap (λ (x : Client). x.mode) is in
      let same : SameButLog p.mode q.mode = subst (SameButLog p.mode) (sym mode) (item_same p.mode i) in
      record {
        rest = is ∙ ap (λ m. record p { mode = m }) (sym mode);
        slot = λ s e. same.slot ∙ e;
        stays = λ x v e. ap (λ l. look_of l x) same.looked ∙ e;
        only = λ x v e. inl (ap (λ l. look_of l x) (sym same.looked) ∙ e);
        owns = owns_same p q (ap (λ (x : Client). x.setting) is) same keeps;
        kept_is = λ s out. keeps s;
      };
  wider = λ a b first past p q low high l. record {
    rest = l.rest;
    slot = l.slot;
    stays = l.stays;
    only = λ x v e. ⊎_elim (λ (c : look_of (looked_in p.mode) x ≡ Some v). inl c) (λ (d : (a ≤ x) × (x < b)). inr (let y = d.0 in let z = d.1 in (omega arith, omega arith))) (l.only x v e);
    owns = l.owns;
    kept_is = λ s out. l.kept_is s (fewer_rows s a b first past low high out);
  };
  both = λ first past p q r a b. record {
    rest = b.rest ∙ ap (λ (x : Client). record x { mode = r.mode }) a.rest;
    slot = λ s e. b.slot s (a.slot s e);
    stays = λ x v e. b.stays x v (a.stays x v e);
    only = λ x v e. ⊎_elim (λ (c : look_of (looked_in q.mode) x ≡ Some v). a.only x v c) (λ (d : (first ≤ x) × (x < past)). inr d) (b.only x v e);
    owns = λ x o. b.owns x (a.owns x o);
    kept_is = λ s out. b.kept_is s out ∙ a.kept_is s out;
  };
}
