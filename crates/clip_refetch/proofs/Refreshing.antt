-- A fetched row, and a current one, are the published row.
use Rattle.std.proofs.Common.{◌≡◌, ◌≢◌, ℕ, suc, ◌+◌, ◌<◌, ◌≤◌, ⊎_elim, inl, inr, ne_eqb, if◌then◌else◌, Bool, true, false, ◌||◌, List, [], ◌∷◌, length, map, sym, refl, ap, ◌∙◌, subst, arith, Option, Some, None, ◌⊎◌}
use Rattle.std.specs.List.{range_with_len}
use Rattle.std.specs.Prelude.{slice_index}
use Rattle.std.proofs.lemmas.Bool.{false≢true}
use mathlib.Core.Option.{some}
use mathlib.Core.Logic.{dite}
use native.Mathlib.Decide.{ℕ_discrete}
use lib.ListN.{get_elem?}
use Rattle.qws_base.specs.Points.{holds, any_holds, point_of, IsPlaced}
use Rattle.qws_base.specs.declared.points.Point.{Point}
use Rattle.qws_base.specs.declared.points.Rect.{Rect}
use Rattle.region_table.specs.Numbers.{row_word}
use Rattle.region_table.specs.Packing.{unpacked}
use Rattle.region_table.specs.Tables.{origin_from, row_of, row_from}
use Rattle.fb_words.proofs.Clipped.{row_law}
use Rattle.turn_logs.proofs.Totals.{from_map}
use Rattle.std.specs.Prelude.{All}
use Rattle.std.proofs.lemmas.List.Elements.{All-nil, All-cons}
use Rattle.std.proofs.lemmas.List.{length-map}
use Rattle.fb_words.specs.declared.known.KeptClip.{KeptClip}
use Rattle.fb_words.specs.declared.known.Looked.{Looked}
use Rattle.fb_words.specs.declared.known.Mode.{Mode}
use Rattle.fb_words.specs.declared.known.Mode.TheVariants.{Idle, Refused, Reading}
use Rattle.fb_words.specs.declared.known.Client.{Client}
use Rattle.turn_logs.specs.Tables.{table_of, revision_in, IsOnScreen}
use Rattle.fb_words.specs.Clips.{look_of, looked_in, slot_in, stamp_in, kept, stored, if_slot, row_seen, IsRowIn, IsClip, IsLookedRow, Sees}
use Rattle.fb_words.specs.Looks.{OnlyLooks, AreOutsideRow}
use Rattle.fb_words.proofs.Rows.{spelt_row, spelt_from, look_true}
use Rattle.turn_logs.proofs.Options.{none_some, same_some}
use Rattle.fb_words.proofs.Keeping.{row_kept, kept_law}
use Rattle.fb_words.proofs.Owned.{spelled_is}
use Rattle.clip_refetch.specs.Clips.{ClipView, clip_seen, AreFetched, IsStored, IsKnown, IsPublishedIn, OwnsPixels, IsFresh, FreshLaw}

-- ---- the row that words spell

any_place : (ws : List ℕ) (p : Point) → any_holds (map unpacked ws) p ≡ true → (j : ℕ) × (w : ℕ) × (get_elem? ws j ≡ some w) × (holds (unpacked w) p ≡ true)
any_place [] p e = absurd (false≢true e)
any_place (w ∷ ws) p e = go (holds (unpacked w) p) refl e (any_place ws p)
  where
    go : (b : Bool) → holds (unpacked w) p ≡ b → (b || any_holds (map unpacked ws) p) ≡ true → (any_holds (map unpacked ws) p ≡ true → (j : ℕ) × (v : ℕ) × (get_elem? ws j ≡ some v) × (holds (unpacked v) p ≡ true))
        → (j : ℕ) × (v : ℕ) × (get_elem? (w ∷ ws) j ≡ some v) × (holds (unpacked v) p ≡ true)
    go true is e r = (0, w, refl, is)
    go false is e r = let m = r e in (suc m.0, m.1, m.2, m.3)

all_unpacked : (P : Rect → Type 0) (ws : List ℕ) → ((j w : ℕ) → get_elem? ws j ≡ some w → P (unpacked w)) → All P (map unpacked ws)
all_unpacked P [] each = All-nil P
all_unpacked P (w ∷ ws) each = All-cons P (unpacked w) (map unpacked ws) (each 0 w refl) (all_unpacked P ws (λ j v e. each (suc j) v e))

-- a clip of the row's revision, in a table that the client sees
published_in : (p : Client) (v : Sees p) (k : KeptClip) → IsClip p.setting.size v.table p.number k → revision_in v.table k.slot ≡ k.revision → IsPublishedIn p v.table (clip_seen k)
published_in p v k is now =
    let same : IsRowIn v.table p.number k = is.same (sym now) in record {
      row = row_law.row p.setting.size v.table p.number k is (sym now);
      placed = subst (λ n. IsPlaced (origin_from n)) same.origin (v.is_table.origins k.slot is.slot_in);
      few = subst (λ n. n ≤ 256) (sym (length-map k.rects unpacked)) is.sound.few;
      inside = all_unpacked (IsOnScreen p.setting.size) k.rects is.sound.inside;
      apart = λ j h r s x at_r at_s within has_r has_s.
          let a = from_map unpacked k.rects j r at_r in let b = from_map unpacked k.rects h s at_s in
          is.sound.apart j h a.0 b.0 x within a.1 b.1 (ap (λ (z : Rect). holds z (point_of p.setting.size.w x)) a.2 ∙ has_r) (ap (λ (z : Rect). holds z (point_of p.setting.size.w x)) b.2 ∙ has_s);
      pixels = row_law.pixels p.setting.size v.admitted _ v.table p.number k v.is_table is (sym now);
    }

-- ---- fresh clips

pixels_owned : (q : Client) (k : KeptClip) (stamp : ℕ) → stamp_in q.mode ≡ Some stamp → slot_in q.mode ≡ Some k.slot → kept q k.slot ≡ Some k → look_of (looked_in q.mode) (row_word k.slot + 1) ≡ Some k.revision → OwnsPixels q (clip_seen k)
pixels_owned q k stamp stamped at is current x within has = let a = any_place k.rects _ has in record {
  stamp = stamp;
  stamped = stamped;
  clip = k;
  turn_slot = at;
  kept_clip = is;
  current = current;
  rect = a.0;
  rect_word = a.1;
  rect_at = a.2;
  pixel = x;
  on_screen = within;
  holds = a.3;
  word = inl refl;
}

-- a clip that is kept, and whose revision was found
pub kept_fresh : (q : Client) (k : KeptClip) (stamp : ℕ) → stamp_in q.mode ≡ Some stamp → kept q k.slot ≡ Some k → look_of (looked_in q.mode) (row_word k.slot + 1) ≡ Some k.revision → IsFresh q (clip_seen k)
kept_fresh q k stamp stamped is current = record {
  revision = current;
  published = λ sees. let now : revision_in sees.table k.slot ≡ k.revision = (look_true sees.table (looked_in q.mode) _ _ sees.looks current).1 in
      published_in q sees k (kept_law q sees k.slot k is).1 now;
  kept_then = λ at. record { row = k; is_kept = is; same = refl };
  owns = λ at. pixels_owned q k stamp stamped at is current;
}

-- a row that was looked at whole
pub spelt_fresh : (q : Client) (k : KeptClip) (stamp : ℕ) → stamp_in q.mode ≡ Some stamp → k.slot < 33 → IsLookedRow q.number (looked_in q.mode) k → IsFresh q (clip_seen k)
spelt_fresh q k stamp stamped low sp =
    let is : slot_in q.mode ≡ Some k.slot → kept q k.slot ≡ Some k = λ at. row_kept q k.slot k at (spelled_is q.number (looked_in q.mode) k sp) in record {
      revision = sp.revision;
      published = λ sees. let row = spelt_row q.setting.size sees.admitted _ q.number sees.table (looked_in q.mode) k sees.is_table sees.looks low sp in
          published_in q sees k row.0 (sym row.1);
      kept_then = λ at. record { row = k; is_kept = is at; same = refl };
      owns = λ at. pixels_owned q k stamp stamped at (is at) sp.revision;
    }

-- ---- what is kept

has_slot : (o : Option ℕ) (s : ℕ) → (o ≡ Some s) ⊎ (o ≡ Some s → ⊥)
has_slot None s = inr (λ e. none_some s e)
has_slot (Some t) s = dite (ℕ_discrete t s) (λ eq. inl (ap (λ x. Some x) eq)) (λ ne. inr (λ e. ne (same_some t s e)))

-- what was kept is kept, in the turn's slot and outside
pub still_kept : (q : Client) (s : ℕ) (k : KeptClip) (was : Option KeptClip) → was ≡ Some k → (slot_in q.mode ≡ Some s → kept q s ≡ Some k) → ((slot_in q.mode ≡ Some s → ⊥) → kept q s ≡ was) → kept q s ≡ Some k
still_kept q s k was is inside outside = ⊎_elim (λ (a : slot_in q.mode ≡ Some s). inside a) (λ (b : slot_in q.mode ≡ Some s → ⊥). outside b ∙ is) (has_slot (slot_in q.mode) s)

-- a row that the client owns by its looked words
owner_seen : (number : ℕ) (m : Mode) (k : KeptClip) → row_seen number m ≡ Some k → look_of (looked_in m) (row_word k.slot) ≡ Some (number + 1)
owner_seen number Idle k e = none_some k e
owner_seen number Refused k e = none_some k e
owner_seen number (Reading stamp None looked log) k e = none_some k e
owner_seen number (Reading stamp (Some s) looked log) k e = (spelt_from number s looked k e).1.owner

-- where no such row is the slot's, what is kept was stored
only_stored : (p : Client) (s : ℕ) → (look_of (looked_in p.mode) (row_word s) ≡ Some (p.number + 1) → ⊥) → kept p s ≡ stored p.clips s
only_stored p s another = go (row_seen p.number p.mode) refl
  where
    go : (o : Option KeptClip) → row_seen p.number p.mode ≡ o → if_slot s o (stored p.clips s) ≡ stored p.clips s
    go None e = refl
    go (Some k) e = ap (λ b. if b then Some k else stored p.clips s) (ne_eqb k.slot s (λ same. another (ap (λ x. look_of (looked_in p.mode) (row_word x)) (sym same) ∙ owner_seen p.number p.mode k e)))

-- where the owner is another, what is kept for the slot stays
pub gone_kept : (first past : ℕ) (p q : Client) (s w : ℕ) → OnlyLooks first past p q → look_of (looked_in q.mode) (row_word s) ≡ Some w → (w ≡ p.number + 1 → ⊥) → kept q s ≡ kept p s
gone_kept first past p q s w a found another =
    let number : q.number ≡ p.number = ap (λ (x : Client). x.number) a.rest in
    let no : (n : ℕ) → n ≡ p.number → look_of (looked_in q.mode) (row_word s) ≡ Some (n + 1) → ⊥ = λ n is e. another (same_some w (p.number + 1) (sym found ∙ e ∙ ap (λ x. Some (x + 1)) is)) in
    only_stored q s (no q.number number) ∙ ap (λ (x : Client). stored x.clips s) a.rest ∙ sym (only_stored p s (λ e. no p.number refl (a.stays (row_word s) (p.number + 1) e)))

pub known_stays : (p q : Client) (clip : ClipView) → kept q clip.slot ≡ kept p clip.slot → IsKnown p clip → IsKnown q clip
known_stays p q clip same known = ⊎_elim (λ (zero_is : clip.revision ≡ 0). inl zero_is) (λ (k : IsStored p clip). inr (record { row = k.row; is_kept = same ∙ k.is_kept; same = k.same })) known

pub outside_row : (s slot : ℕ) → s ≢ slot → AreOutsideRow s (row_word slot) (row_word slot + 260)
outside_row s slot ne = ⊎_elim (λ (low : s < slot). inr (omega arith)) (λ (high : slot ≤ s). inl (let z : slot < s = grind arith in omega arith)) (Rattle.std.proofs.lemmas.Bool.cases_lt s slot)

-- ---- a fetched row

pub fetched_fresh : (number : ℕ) (q : Client) (slot revision origin count stamp row : ℕ) (point : Point) (rects : List Rect) → slot < 33 → row ≡ row_word slot → q.number ≡ number → stamp_in q.mode ≡ Some stamp
    → look_of (looked_in q.mode) (row_word slot) ≡ Some (number + 1) → look_of (looked_in q.mode) (row_word slot + 1) ≡ Some revision → look_of (looked_in q.mode) (row + 2) ≡ Some origin → look_of (looked_in q.mode) (row + 3) ≡ Some count
    → AreFetched (looked_in q.mode) (row + 4) count rects → point ≡ origin_from origin → IsFresh q (record { slot = slot; revision = revision; origin = point; rects = rects })
fetched_fresh number q slot revision origin count stamp row point rects low first same stamped at_owner at_revision at_origin at_count are is_point =
    let L : List Looked = looked_in q.mode in
    let k : KeptClip = record { slot = slot; revision = revision; origin = origin; rects = are.words } in
    let from : (n : ℕ) (o : Option ℕ) → look_of L (row + n) ≡ o → look_of L (row_word slot + n) ≡ o = λ n o e. ap (λ x. look_of L (x + n)) (sym first) ∙ e in
    let sp : IsLookedRow q.number L k = record {
      owner = at_owner ∙ ap (λ n. Some (n + 1)) (sym same);
      revision = at_revision;
      origin = from 2 (Some origin) at_origin;
      count = from 3 (Some count) at_count ∙ ap (λ n. Some n) (sym are.long);
      rects = λ j w e. ap (λ x. look_of L (x + 4 + j)) (sym first) ∙ are.found j w e;
    } in
    subst (λ (o : Point). IsFresh q (record { slot = slot; revision = revision; origin = o; rects = rects })) (sym is_point)
    (subst (λ (l : List Rect). IsFresh q (record { slot = slot; revision = revision; origin = origin_from origin; rects = l })) (sym are.are) (spelt_fresh q k stamp stamped low sp))

pub origin_placed : (q : Client) (slot word n : ℕ) → Sees q → slot < 33 → word ≡ row_word slot + 2 → look_of (looked_in q.mode) word ≡ Some n → IsPlaced (origin_from n)
origin_placed q slot word n sees low is found =
    subst (λ x. IsPlaced (origin_from x)) (ap (slice_index sees.table) (sym is) ∙ (look_true sees.table (looked_in q.mode) word n sees.looks found).1) (sees.is_table.origins slot low)

-- ---- a kept clip whose revision was looked at

pub fresh_law : FreshLaw
fresh_law q clip stamp stamped k current =
    let row : KeptClip = k.row in
    let slot : clip.slot ≡ row.slot = ap (λ (x : ClipView). x.slot) k.same in
    let now : look_of (looked_in q.mode) (row_word row.slot + 1) ≡ Some row.revision = ap (λ s. look_of (looked_in q.mode) (row_word s + 1)) (sym slot) ∙ current ∙ ap (λ (x : ClipView). Some x.revision) k.same in
    subst (λ (x : ClipView). IsFresh q x) (sym k.same) (kept_fresh q row stamp stamped (ap (kept q) (sym slot) ∙ k.is_kept) now)

-- ---- a current clip

pub current_fresh : (p q : Client) (clip : ClipView) (stamp n word : ℕ) → word ≡ row_word clip.slot + 1 → n ≡ clip.revision → 1 ≤ n → IsKnown p clip → stamp_in q.mode ≡ Some stamp → look_of (looked_in q.mode) word ≡ Some n
    → ((s : ℕ) (k : KeptClip) → slot_in q.mode ≡ Some s → kept p s ≡ Some k → look_of (looked_in q.mode) (row_word s + 1) ≡ Some k.revision → kept q s ≡ Some k)
    → ((s : ℕ) → (slot_in q.mode ≡ Some s → ⊥) → kept q s ≡ kept p s) → IsFresh q clip × IsStored q clip
current_fresh p q clip stamp n word at same from_one known stamped found current away = ⊎_elim
    (λ (new : clip.revision ≡ 0). absurd (omega arith))
    (λ (k : IsStored p clip).
    let row : KeptClip = k.row in
    let now : look_of (looked_in q.mode) (row_word clip.slot + 1) ≡ Some clip.revision = ap (look_of (looked_in q.mode)) (sym at) ∙ found ∙ ap (λ x. Some x) same in
    let here : look_of (looked_in q.mode) (row_word clip.slot + 1) ≡ Some row.revision = now ∙ ap (λ (x : ClipView). Some x.revision) k.same in
    let is : IsStored q clip = record { row = row; is_kept = still_kept q clip.slot row (kept p clip.slot) k.is_kept (λ inside. current clip.slot row inside k.is_kept here) (away clip.slot); same = k.same } in
    (fresh_law q clip stamp stamped is now, is))
    known
