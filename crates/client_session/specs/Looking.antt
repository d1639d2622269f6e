-- Which words of a slot's row a client's paints looked at.
use Rattle.std.specs.Prelude.{◌≡◌, ℕ, ◌+◌, ◌<◌, ◌⊎◌, Bool, true, false, List, length, Option, Some}
use mathlib.Core.Option.{some}
use lib.ListN.{get_elem?}
use Rattle.qws_base.specs.declared.replies.PaintReply.{PaintReply}
use Rattle.qws_base.specs.declared.replies.PaintReply.TheVariants.{Painted, Gone}
use Rattle.region_table.specs.Numbers.{row_word}
use Rattle.fb_words.specs.declared.known.PaintCall.{PaintCall}
use Rattle.fb_words.specs.Clips.{look_of, IsOutsideRow}

abbrev pub is_painted : PaintReply → Bool
is_painted (Painted pixels) = true
is_painted Gone = false

-- the revision of its slot that a paint looked at
abbrev pub looked_revision : PaintCall → Option ℕ
looked_revision p = look_of p.looked (row_word p.slot + 1)

-- of the paints before place `k`, the latest of that slot that was answered Painted is `p`, at place `j`
pub record IsLatest (paints : List PaintCall) (slot k j : ℕ) (p : PaintCall) : Type 0 where
  pub earlier : j < k
  pub there : get_elem? paints j ≡ some p
  pub of_slot : p.slot ≡ slot
  pub painted : is_painted p.reply ≡ true
  pub last : (i : ℕ) (q : PaintCall) → j < i → i < k → get_elem? paints i ≡ some q → q.slot ≡ slot → is_painted q.reply ≡ false

-- of its slot's row, the paint looked at the revision alone
abbrev pub LooksAtRevisionAlone : PaintCall → Type 0
LooksAtRevisionAlone p = (x value : ℕ) → look_of p.looked x ≡ Some value → IsOutsideRow p.slot x ⊎ (x ≡ row_word p.slot + 1)

-- A paint that has looked at the same revision as the latest earlier one of its slot that was answered Painted has looked at no
-- other word of the slot's row: what was fetched once isn't fetched again while its revision stands.
abbrev pub FetchesOnce : List PaintCall → Type 0
FetchesOnce paints = (k j : ℕ) (p q : PaintCall) → get_elem? paints k ≡ some p → IsLatest paints p.slot k j q → looked_revision p ≡ looked_revision q → LooksAtRevisionAlone p
