-- A looked word is found among the looked words; and those who sit are idle.
use Rattle.std.proofs.Common.{◌≡◌, ℕ, ◌+◌, ◌<◌, ◌≤◌, ◌==◌, eq-eqb, if◌then◌else◌, Bool, true, false, List, [], ◌∷◌, ◌++◌, length, suc, sym, refl, ap, ◌∙◌, subst, arith, Some, None}
use Rattle.std.specs.List.{flat_map}
use mathlib.Core.Option.{some}
use lib.ListN.{get_elem?}
use Rattle.atomic_table.specs.Table.{Me}
use Rattle.region_table.specs.Numbers.{row_word}
use Rattle.fb_words.specs.declared.known.Looked.{Looked}
use Rattle.fb_words.specs.declared.known.Mode.{Mode}
use Rattle.fb_words.specs.declared.known.Mode.TheVariants.{Idle, Refused, Reading}
use Rattle.fb_words.specs.declared.known.Client.{Client}
use Rattle.fb_words.specs.declared.known.View.{View}
use Rattle.turn_logs.specs.Tables.{revision_in}
use Rattle.fb_words.specs.Clips.{look_of, with_first, looks_of, is_value, clip_of, rects_of, LookedLaw, looked_in, Sees}
use Rattle.turn_logs.specs.Lists.{total}
use Rattle.fb_words.specs.Views.{busy, busy_mode, reading, reading_mode, alone, only, both_views}
use Rattle.fb_words.specs.Steps.{looked_mode, after_look, AllIdle}
use Rattle.turn_logs.proofs.Totals.{total_one, total_snoc}
use Rattle.fb_words.proofs.Rows.{look_true, spelt_from}
use Rattle.fb_words.proofs.Looking.{value_seen}

has_look : (looked : List Looked) (i n : ℕ) → (v : ℕ) × (look_of (looked ++ record { word = i; value = n } ∷ []) i ≡ Some v)
has_look [] i n = (n, ap (λ b. if b then Some n else None) (eq-eqb i i refl))
has_look (l ∷ looked) i n = go (l.word == i) (has_look looked i n)
  where
    go : (b : Bool) → ((v : ℕ) × (look_of (looked ++ record { word = i; value = n } ∷ []) i ≡ Some v))
        → (v : ℕ) × ((if b then Some l.value else look_of (looked ++ record { word = i; value = n } ∷ []) i) ≡ Some v)
    go true r = (l.value, refl)
    go false r = r

look_in : (m : Mode) (i n : ℕ) → reading_mode m ≡ 1 → (v : ℕ) × (look_of (looked_in (looked_mode i n m)) i ≡ Some v)
look_in Idle i n reads = absurd (omega arith)
look_in Refused i n reads = absurd (omega arith)
look_in (Reading stamp slot looked log) i n reads = has_look looked i n

pub look_found : (p : Client) (i n : ℕ) → reading p ≡ 1 → Sees (after_look p i n) → look_of (looked_in (after_look p i n).mode) i ≡ Some n
look_found p i n reads v = let l = look_in p.mode i n reads in
    l.1 ∙ ap (λ x. Some x) (sym (look_true v.table (looked_in (looked_mode i n p.mode)) i l.0 v.looks l.1).1 ∙ value_seen p i n reads v)

pub revision_from_one : (p : Client) (i n : ℕ) → reading p ≡ 1 → Sees (after_look p i n) → (s : ℕ) → s < 33 → i ≡ row_word s + 1 → 1 ≤ n
revision_from_one p i n reads v s low at = let now : revision_in v.table s ≡ n = ap (λ x. Rattle.std.specs.Prelude.slice_index v.table x) (sym at) ∙ value_seen p i n reads v in subst (λ x. 1 ≤ x) now (v.is_table.revisions s low)

-- looks of one word after another are those of all
pub looks_together : (looked : List Looked) (i : ℕ) (values : List ℕ) → ((j value : ℕ) → get_elem? values j ≡ some value → look_of looked (i + j) ≡ Some value) → looks_of looked i (length values) ≡ Some values
looks_together looked i [] each = refl
looks_together looked i (v ∷ values) each =
    ap (λ o. with_first o (looks_of looked (i + 1) (length values))) (ap (look_of looked) (let z : i ≡ i + 0 = omega arith in z) ∙ each 0 v refl)
    ∙ ap (with_first (Some v)) (looks_together looked (i + 1) values (λ j value at. ap (look_of looked) (let z : i + 1 + j ≡ i + suc j = omega arith in z) ∙ each (suc j) value at))

pub looked_law : LookedLaw
looked_law = record {
  together = looks_together;
  row = λ number looked clip is.
      let s : ℕ = clip.slot in
      ap (λ o. if is_value (number + 1) o then clip_of s (look_of looked (row_word s + 1)) (look_of looked (row_word s + 2)) (rects_of looked s (look_of looked (row_word s + 3))) else None) is.owner
      ∙ ap (λ b. if b then clip_of s (look_of looked (row_word s + 1)) (look_of looked (row_word s + 2)) (rects_of looked s (look_of looked (row_word s + 3))) else None) (eq-eqb (number + 1) (number + 1) refl)
      ∙ ap (λ o. clip_of s o (look_of looked (row_word s + 2)) (rects_of looked s (look_of looked (row_word s + 3)))) is.revision
      ∙ ap (λ o. clip_of s (Some clip.revision) o (rects_of looked s (look_of looked (row_word s + 3)))) is.origin
      ∙ ap (λ o. clip_of s (Some clip.revision) (Some clip.origin) (rects_of looked s o)) is.count
      ∙ ap (clip_of s (Some clip.revision) (Some clip.origin)) (looks_together looked (row_word s + 4) clip.rects is.rects);
  back = λ number slot looked clip e. spelt_from number slot looked clip e;
}

-- ---- who sits is idle

pub idle_mode : (m : Mode) → busy_mode m ≡ 0 → m ≡ Idle
idle_mode Idle e = refl
idle_mode Refused e = absurd (omega arith)
idle_mode (Reading stamp slot looked log) e = absurd (omega arith)

pub all_idle : (ps : List Client) → total busy ps ≡ 0 → AllIdle ps
all_idle ps none k p at = let le = total_one busy ps k p at in idle_mode p.mode (omega arith)

-- also with the one who came to sit
pub joined_idle : (m x me : Me (Unit {0}) View) (u : View) → m ≡ x → x ≡ (both_views me.0 u, me.1) → total busy me.0.clients ≡ 0 → u ≡ alone (only u.clients) → busy (only u.clients) ≡ 0 → AllIdle m.0.clients
joined_idle m x me u same flat_map none is idle = let q = only u.clients in
    let here : m.0.clients ≡ me.0.clients ++ q ∷ [] = ap (λ (y : Me (Unit {0}) View). y.0.clients) (same ∙ flat_map) ∙ ap (λ w. me.0.clients ++ w.clients) is in
    all_idle m.0.clients (ap (total busy) here ∙ (let sum = total_snoc busy me.0.clients q in omega arith))
