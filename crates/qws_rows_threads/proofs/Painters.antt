-- A paint of a slot past the last.
use Rattle.std.proofs.Common.{◌≡◌, ℕ, ◌+◌, ◌≤◌, List, [], ◌∷◌, ◌++◌, map, length, length-append, refl, sym, ap, ◌∙◌, subst, arith, if◌then◌else◌}
use Rattle.std.specs.Prelude.{slice_index}
use Rattle.std.specs.List.{range_with_len}
use Rattle.std.proofs.lemmas.List.{get_or_past}
use Rattle.std.proofs.lemmas.List.FromFn.{length-map-range_with_len}
use Rattle.qws_base.specs.Windows.{owns}
use Rattle.qws_base.specs.Sheets.{Sheet}
use Rattle.qws_base.specs.Scenes.{Setting, inked}
use Rattle.qws_base.specs.declared.replies.PaintReply.TheVariants.{Painted, Gone}
use Rattle.region_table.specs.Tables.{no_row, row_of, rows_from, row_from}
use Rattle.region_table.specs.Layouts.{is_owner, layout_of_table}
use Rattle.turn_logs.specs.declared.items.Item.{Item}
use Rattle.fb_words.specs.declared.known.Call.{Call}
use Rattle.fb_words.specs.declared.known.Mode.{Mode}
use Rattle.fb_words.specs.declared.known.Mode.TheVariants.{Idle, Refused, Reading}
use Rattle.fb_words.specs.declared.known.PaintCall.{PaintCall}
use Rattle.fb_words.specs.declared.known.Call.TheVariants.{Paint}
use Rattle.turn_logs.specs.Tables.{table_of}
use Rattle.fb_words.specs.Clips.{log_in}
use Rattle.fb_words.specs.Views.{PassView, books_in, book_entry}
use Rattle.fb_words.specs.Steps.{looked_mode, after_leave}
use Rattle.turn_logs.specs.Carries.{CarriesPaintUnder, RepliesUnder}
use Rattle.fb_words.proofs.Serving.{books_more}
use Rattle.turn_logs.proofs.Standing.{gone_carried}
use Rattle.qws_rows_threads.specs.Tokens.{HasPainted}

no_window : (t : List ℕ) (slot : ℕ) → 33 ≤ slot → row_of (table_of t) slot ≡ no_row
unfolding rows_from
no_window t slot high = get_or_past (map (row_from (slice_index t)) (range_with_len 0 33)) slot no_row (let whole = length-map-range_with_len (row_from (slice_index t)) 0 33 in omega arith)

-- it is gone, whatever the table and the picture
pub gone : (setting : Setting) (t : List ℕ) (client slot : ℕ) (sheet : Sheet) (log : List Item) → 33 ≤ slot → log ≡ []
    → CarriesPaintUnder setting (table_of t) slot sheet Gone log × RepliesUnder setting (table_of t) client slot sheet Gone
gone setting t client slot sheet log high none =
    let layout = layout_of_table setting.size (table_of t) in (
      subst (λ l. CarriesPaintUnder setting (table_of t) slot sheet Gone l) (sym none)
          (gone_carried setting (table_of t).cursor (owns layout slot) (row_of (table_of t) slot).origin sheet Gone refl),
      sym (ap (λ r. if is_owner client r.owner then Painted (length (inked setting.size layout slot sheet)) else Gone) (no_window t slot high)),
    )

-- one paint more
one_more : (own : List Call) (t : PaintCall) → length (books_in (own ++ Paint t ∷ [])) ≡ length (books_in own) + 1
one_more own t = ap length (books_more own (Paint t)) ∙ length-append (books_in own) (book_entry t ∷ [])

pub left : (p q : PassView) (t : PaintCall) → q ≡ record p { client = after_leave p.client t } → HasPainted 1 p q
left p q t is = subst (HasPainted 1 p) (sym is) (refl, refl, refl, one_more p.client.own t)

-- a look leaves the log
pub log_stays : (m : Mode) (i n : ℕ) → log_in (looked_mode i n m) ≡ log_in m
log_stays Idle i n = refl
log_stays Refused i n = refl
log_stays (Reading stamp slot looked log) i n = refl
