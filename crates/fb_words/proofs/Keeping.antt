-- What a client keeps for each slot, over its steps.
use Rattle.std.proofs.Common.{◌≡◌, ◌≢◌, ℕ, ◌+◌, ◌<◌, ◌≤◌, ◌==◌, nat_lt, ⊎_elim, inl, inr, eq-eqb, ne_eqb, if◌then◌else◌, Bool, true, false, List, [], ◌∷◌, ◌++◌, map, get_or, sym, refl, ap, ◌∙◌, subst, arith, Option, Some, None}
use mathlib.Core.Option.{some-injective}
use Rattle.qws_base.specs.declared.journals.JournalEntry.{JournalEntry}
use Rattle.region_table.specs.Numbers.{row_word, pixel_word, IsTableWord, revision_of_slot}
use Rattle.turn_logs.specs.declared.items.Item.{Item}
use Rattle.fb_words.specs.declared.known.Looked.{Looked}
use Rattle.fb_words.specs.declared.known.KeptClip.{KeptClip}
use Rattle.fb_words.specs.declared.known.PaintCall.{PaintCall}
use Rattle.fb_words.specs.declared.known.Mode.{Mode}
use Rattle.fb_words.specs.declared.known.Mode.TheVariants.{Idle, Refused, Reading}
use Rattle.fb_words.specs.declared.known.Client.{Client}
use Rattle.qws_base.specs.Sides.{Sides}
use Rattle.qws_base.specs.Points.{pixel_count}
use Rattle.turn_logs.specs.Tables.{RectHas}
use Rattle.fb_words.specs.Clips.{look_of, looked_in, slot_in, spelled, row_seen, stored, if_slot, kept, with_row, KeepsClips, EachKeepsClips, IsClip, LooksTrue, Sees, KeptLaw}
use Rattle.fb_words.specs.Steps.{or_first, looked_mode, after_enter, after_retreat, after_look, item_mode, after_item, after_leave, with_step}
use Rattle.turn_logs.proofs.Options.{none_some, same_some}
use Rattle.fb_words.proofs.Rows.{look_true, spelt_from, spelt_row, kept_is}
use Rattle.fb_words.specs.Rights.{IsSavedOver, IsGiven, Owns, OwnedLaw}
use Rattle.turn_logs.proofs.Joining.{place_within}
use Rattle.fb_words.proofs.Serving.{by_number}
use Rattle.turn_logs.proofs.Totals.{from_map}

-- ---- steps that leave it

-- outside a turn that has its slot, what is kept is what was stored
stored_then : (p : Client) (m : Mode) (slot : ℕ) → p.mode ≡ m → if_slot slot (row_seen p.number p.mode) (stored p.clips slot) ≡ if_slot slot (row_seen p.number m) (stored p.clips slot)
stored_then p m slot is = ap (λ x. if_slot slot (row_seen p.number x) (stored p.clips slot)) is

pub enters_keep : (p : Client) (n : ℕ) → p.mode ≡ Idle → KeepsClips p (after_enter p n)
enters_keep p n idle slot = go (nat_lt n 4294967296) ∙ sym (stored_then p Idle slot idle)
  where
    go : (b : Bool) → if_slot slot (row_seen p.number (if b then Reading None None [] [] else Refused)) (stored p.clips slot) ≡ stored p.clips slot
    go true = refl
    go false = refl

pub retreats_keep : (p : Client) → p.mode ≡ Refused → KeepsClips p (after_retreat p)
retreats_keep p refused slot = sym (stored_then p Refused slot refused)

pub items_keep : (p : Client) (i : Item) → KeepsClips p (after_item p i)
items_keep p i slot = ap (λ o. if_slot slot o (stored p.clips slot)) (go p.mode)
  where
    go : (m : Mode) → row_seen p.number (item_mode i m) ≡ row_seen p.number m
    go Idle = refl
    go Refused = refl
    go (Reading stamp None looked log) = refl
    go (Reading stamp (Some s) looked log) = refl

pub leaves_keep : (p : Client) (t : PaintCall) → KeepsClips p (after_leave p t)
leaves_keep p t slot = go (row_seen p.number p.mode)
  where
    go : (o : Option KeptClip) → stored (with_row o p.clips) slot ≡ if_slot slot o (stored p.clips slot)
    go None = refl
    go (Some clip) = refl

pub gives_keep : (e : JournalEntry) (ps : List Client) → EachKeepsClips ps (map (with_step e) ps)
gives_keep e ps k p q at_p at_q = let r = from_map (with_step e) ps k q at_q in
    subst (λ x. KeepsClips p x) (ap (with_step e) (some-injective p r.0 (sym at_p ∙ r.1)) ∙ r.2) (by_number e p (KeepsClips p) (λ _ slot. refl) (λ _ slot. refl))

-- ---- a look

-- the row of another slot
row_away : (number s slot : ℕ) (looked : List Looked) (other : Option KeptClip) → s ≢ slot → if_slot slot (spelled number s looked) other ≡ other
row_away number s slot looked other apart = go (spelled number s looked) refl
  where
    go : (o : Option KeptClip) → spelled number s looked ≡ o → if_slot slot o other ≡ other
    go None is = refl
    go (Some clip) is = ap (λ b. if b then Some clip else other) (ne_eqb clip.slot slot (λ eq. apart (sym (spelt_from number s looked clip is).0 ∙ eq)))

-- what is kept for another slot than the turn's
pub looks_keep : (p : Client) (i n slot : ℕ) → (slot_in (after_look p i n).mode ≡ Some slot → ⊥) → kept (after_look p i n) slot ≡ kept p slot
looks_keep p i n slot away = go p.mode away
  where
    other : Option KeptClip
    other = stored p.clips slot

    go : (m : Mode) → (slot_in (looked_mode i n m) ≡ Some slot → ⊥) → if_slot slot (row_seen p.number (looked_mode i n m)) other ≡ if_slot slot (row_seen p.number m) other
    go Idle away = refl
    go Refused away = refl
    go (Reading stamp (Some s) looked log) away = row_away p.number s slot _ other (λ eq. away (ap (λ x. Some x) eq)) ∙ sym (row_away p.number s slot looked other (λ eq. away (ap (λ x. Some x) eq)))
    go (Reading stamp None looked log) away = first (revision_of_slot i) away
      where
        first : (o : Option ℕ) → (o ≡ Some slot → ⊥) → if_slot slot (row_seen p.number (Reading (or_first stamp (if i == 1 then Some n else None)) o (looked ++ record { word = i; value = n } ∷ []) log)) other ≡ other
        first None away = refl
        first (Some s) away = row_away p.number s slot _ other (λ eq. away (ap (λ x. Some x) eq))

-- the whole row of the turn's slot
pub row_kept : (p : Client) (slot : ℕ) (clip : KeptClip) → slot_in p.mode ≡ Some slot → spelled p.number slot (looked_in p.mode) ≡ Some clip → kept p slot ≡ Some clip
row_kept p slot clip at is = go p.mode at is
  where
    go : (m : Mode) → slot_in m ≡ Some slot → spelled p.number slot (looked_in m) ≡ Some clip → if_slot slot (row_seen p.number m) (stored p.clips slot) ≡ Some clip
    go Idle at is = none_some slot at
    go Refused at is = none_some slot at
    go (Reading stamp None looked log) at is = none_some slot at
    go (Reading stamp (Some s) looked log) at is =
        ap (λ o. if_slot slot o (stored p.clips slot)) (ap (λ x. spelled p.number x looked) (same_some s slot at) ∙ is)
        ∙ ap (λ b. if b then Some clip else stored p.clips slot) (eq-eqb clip.slot slot (spelt_from p.number slot looked clip is).0)

-- ---- how it is judged

row_in : (slot : ℕ) → IsTableWord (row_word slot + 1) → slot < 33
row_in slot t = ⊎_elim (λ (a : (1 ≤ row_word slot + 1) × (row_word slot + 1 ≤ 1027)). let z = a.1 in omega arith) (λ (b : (2052 ≤ row_word slot + 1) × (row_word slot + 1 ≤ 10631)). let z = b.1 in omega arith) t

pub seen_judged : (p : Client) (v : Sees p) (m : Mode) (clip : KeptClip) → LooksTrue v.table (looked_in m) → row_seen p.number m ≡ Some clip → IsClip p.setting.size v.table p.number clip
seen_judged p v Idle clip ok e = none_some clip e
seen_judged p v Refused clip ok e = none_some clip e
seen_judged p v (Reading stamp None looked log) clip ok e = none_some clip e
seen_judged p v (Reading stamp (Some s) looked log) clip ok e = let f = spelt_from p.number s looked clip e in
    (spelt_row p.setting.size v.admitted _ p.number v.table looked clip v.is_table ok (row_in clip.slot (look_true v.table looked _ _ ok f.1.revision).0) f.1).0

pub kept_law : KeptLaw
kept_law p v slot clip e = let r = kept_is p slot clip (IsClip p.setting.size v.table p.number) (λ c is. seen_judged p v p.mode c v.looks is) v.clips e in (r.1, r.0)

-- ---- what it owns

pub owned_in : (size : Sides) (t : List ℕ) (p : Client) (x : ℕ) (o : Owns p x) → p.setting.size ≡ size → LooksTrue t (looked_in p.mode) → IsClip size t p.number o.clip → IsGiven size t p.number o.clip.slot x
owned_in size t p x o same true_in clip_ok =
    let row = clip_ok.same (sym (look_true t (looked_in p.mode) _ _ true_in o.current).1) in
    let rect = row.rects o.rect o.rect_word o.rect_at in record {
      slot_in = clip_ok.slot_in;
      owner = row.owner;
      rect = o.rect;
      pixel = o.pixel;
      on_screen = subst (λ k. o.pixel < pixel_count k) same o.on_screen;
      holds = (subst (λ n. o.rect < n) (sym row.count) (place_within o.clip.rects o.rect o.rect_word o.rect_at), subst (λ v. RectHas size v o.pixel) (sym rect) (subst (λ k. RectHas k o.rect_word o.pixel) same o.holds));
      word = ⊎_elim (λ (e : x ≡ pixel_word o.pixel). inl e)
          (λ (d : (place : ℕ) × (shape : ℕ) × (look_of (looked_in p.mode) 2 ≡ Some place) × (look_of (looked_in p.mode) 3 ≡ Some shape) × IsSavedOver p.setting.size place shape o.pixel x).
          inr (subst (λ a. IsSavedOver size a (get_or t 3 0) o.pixel x) (sym (look_true t (looked_in p.mode) 2 d.0 true_in d.2).1)
          (subst (λ b. IsSavedOver size d.0 b o.pixel x) (sym (look_true t (looked_in p.mode) 3 d.1 true_in d.3).1) (subst (λ k. IsSavedOver k d.0 d.1 o.pixel x) same d.4))))
          o.word;
    }

pub owned_law : OwnedLaw
owned_law p v x o = owned_in p.setting.size v.table p x o refl v.looks (kept_law p v o.clip.slot o.clip o.kept_clip).1
