-- A server turn that lifts the cursor, writes a table and puts its cursor down can be ended with a refused entry.
use Rattle.std.proofs.Math.Nat.{div-lt_iff_lt-mul, mod-lt}
use Rattle.std.proofs.Common.{◌≡◌, ◌≢◌, ℕ, zero, suc, ◌+◌, ◌*◌, ◌/◌, ◌%◌, ◌^◌, ◌<◌, ◌≤◌, ◌==◌, ◌⊎◌, ⊎_elim, inl, inr, if◌then◌else◌, Bool, true, false, not, ◌&&◌, List, [], ◌∷◌, ◌++◌, map, length, length-append, set, sym, refl, ap, ◌∙◌, subst, arith, Option, None}
use Rattle.std.specs.Prelude.{slice_index}
use Rattle.std.specs.List.{range_with_len}
use Rattle.std.proofs.lemmas.Bool.{cases_lt}
use Rattle.std.proofs.lemmas.List.{length-set, get_or-set_same, get_or-set_other}
use Rattle.std.proofs.lemmas.List.FromFn.{length-map-range_with_len, map-range_with_len_more}
use mathlib.Core.Option.{some, some-injective}
use lib.ListN.{get_elem?}
use Rattle.qws_base.specs.Sides.{Sides}
use Rattle.qws_base.specs.Points.{pixel_count}
use Rattle.qws_base.specs.Scenes.{Setting}
use Rattle.qws_base.specs.Shown.{IsShape}
use Rattle.qws_base.specs.States.{is_refused}
use Rattle.qws_base.specs.declared.commands.Command.{Command}
use Rattle.qws_base.specs.declared.replies.Reply.{Reply}
use Rattle.qws_base.specs.declared.journals.JournalEntry.{JournalEntry}
use Rattle.qws_base.specs.declared.windows.Cursor.{Cursor}
use Rattle.region_table.specs.Numbers.{IsTableWord, first_pixel, cell_word, is_table_word}
use Rattle.region_table.specs.Tables.{cells_from}
use Rattle.region_table.specs.declared.tables.Table.{Table}
use Rattle.region_table.proofs.Words.{table_is}
use Rattle.turn_logs.specs.declared.items.Item.{Item}
use Rattle.turn_logs.specs.declared.items.Item.TheVariants.{Put}
use Rattle.turn_logs.specs.Lists.{total}
use Rattle.turn_logs.specs.Tables.{opening_table, opening_words, table_of, revision_in, count_in, IsTable, IsCursorIn, Follows, SameRow}
use Rattle.turn_logs.specs.Carries.{SceneCarried, CarriesStep}
use Rattle.turn_logs.specs.Phases.{uncovered, ChangesScene, IsTrueLog, PhaseLaw, CellsLaw, lift_items, drop_items}
use Rattle.turn_logs.specs.Publishing.{SameButStamp, StampLaw}
use Rattle.turn_logs.proofs.Totals.{total_map}
use Rattle.fb_words.specs.declared.known.Client.{Client}
use Rattle.fb_words.specs.declared.known.Server.{Server}
use Rattle.fb_words.specs.Views.{ScreenView, HeadView, is_client, opening_server}
use Rattle.fb_words.specs.Steps.{IsBetweenTurns, IsNextTable, CarriesAtGive, after_give, after_write, closed_turn, stepped, with_limit, with_step}
use Rattle.sw_cursor.specs.Lifts.{OnlyLogs, Lifts, Drops}
use Rattle.qws_rows_painters.specs.Heads.{SameWords, IsHead, IsFresh, Writes, HasWritten, IsServed}

-- ---- a new screen

pub opened : (l : List ℕ) → l ≡ opening_words first_pixel → l ≡ opening_table
unfolding opening_table
opened l is = is

module _ (screen : ScreenView) (setting : Setting) (h h1 h2 h3 h4 : HeadView) (a b c : ℕ) (p : Client) (words : List ℕ) where
  pub first_head : h ≡ record { screen = screen; server = opening_server setting; sitting = [] }
      → h1 ≡ record h { server = with_limit h.server a } → h2 ≡ record h1 { server = with_limit h1.server b } → h3 ≡ record h2 { server = with_limit h2.server c }
      → h4 ≡ record h3 { sitting = h3.sitting ++ p ∷ [] } → p.number ≡ length h2.server.limits → words ≡ opening_table → IsHead screen 1 words h4
  first_head e e1 e2 e3 e4 number opens =
      let admit : ℕ → HeadView → HeadView = λ limit x. record x { server = with_limit x.server limit } in
      let two : h2 ≡ admit b (admit a record { screen = screen; server = opening_server setting; sitting = [] }) = e2 ∙ ap (admit b) (e1 ∙ ap (admit a) e) in
      let all = e4 ∙ ap (λ (x : HeadView). record x { sitting = x.sitting ++ p ∷ [] }) (e3 ∙ ap (admit c) two) in
      let here : p.number ≡ 2 = number ∙ ap (λ (x : HeadView). length x.server.limits) two in
      let sits : is_client 2 p ≡ 1 = ap (λ n. if n == 2 then 1 else 0) here in
      subst (IsHead screen 1 words) (sym all) (record { screen_is = refl; number_is = refl; clients = refl; sits = omega arith; words_are = λ i is. ap (λ l. slice_index l i) (sym opens) })

-- ---- the cursor of words

abbrev pub cells_so_far : List ℕ → ℕ → ℕ → List ℕ
cells_so_far words w n = map (λ k. slice_index words (cell_word (k % w) (k / w))) (range_with_len 0 n)

pub no_cells_yet : (words : List ℕ) (w : ℕ) → [] ≡ cells_so_far words w 0
no_cells_yet words w = refl

pub one_cell_more : (words : List ℕ) (w n v : ℕ) (l : List ℕ) → l ≡ cells_so_far words w n → v ≡ slice_index words (cell_word (n % w) (n / w)) → l ++ v ∷ [] ≡ cells_so_far words w (n + 1)
one_cell_more words w n v l so_far now = ap (λ k. k ++ v ∷ []) so_far ∙ ap (λ k. cells_so_far words w n ++ k ∷ []) now
    ∙ sym (map-range_with_len_more (λ k. slice_index words (cell_word (k % w) (k / w))) 0 n n (omega arith))

pub all_cells : (words : List ℕ) (w h : ℕ) (l : List ℕ) → l ≡ cells_so_far words w (w * h) → l ≡ cells_from (slice_index words) w h
unfolding cells_from
all_cells words w h l is = is

pos_left : (w h k : ℕ) → k < w * h → 0 < w
pos_left zero h k below = absurd (omega arith)
pos_left (suc w) h k below = omega arith

-- the cells are below 2^32
pub cell_low : (size : Sides) (words : List ℕ) (k n : ℕ) → IsCursorIn size words → k < slice_index words 3 % 65536 * (slice_index words 3 / 65536)
    → n ≡ cell_word (k % (slice_index words 3 % 65536)) (k / (slice_index words 3 % 65536)) → slice_index words n < 2 ^ 32
cell_low size words k n is below at =
    let w : ℕ = slice_index words 3 % 65536 in let h : ℕ = slice_index words 3 / 65536 in
    let few_w = is.few_columns in let few_h = is.few_rows in
    let some : 0 < w = pos_left w h k below in
    let a : ℕ = k % w in let b : ℕ = k / w in
    let in_w : a < w = mod-lt k some in
    let in_h : b < h = (div-lt_iff_lt-mul some).1 (omega arith) in
    is.cells n (omega arith) (omega arith)

pub shape_in : (size : Sides) (words : List ℕ) → IsCursorIn size words → IsShape (table_of words).cursor
unfolding cells_from
shape_in size words is =
    let w : ℕ = slice_index words 3 % 65536 in let h : ℕ = slice_index words 3 / 65536 in
    let few_w = is.few_columns in let few_h = is.few_rows in
    record {
      sides = ⊎_elim (λ (some : (1 ≤ w) × (1 ≤ h)). inl (some.0, few_w, some.1, few_h)) (λ (none : (w ≡ 0) × (h ≡ 0)). inr none) is.sides;
      cells = length-map-range_with_len (λ k. slice_index words (cell_word (k % w) (k / w))) 0 (w * h);
    }

-- ---- words that are written

last : (k n : ℕ) → k < n + 1 → (k < n) ⊎ (k ≡ n)
last k n lt = ⊎_elim (λ (low : k < n). inl low) (λ (high : n ≤ k). inr (omega arith)) (cases_lt k n)

pub none_written : (from : ℕ) (words : List ℕ) (h : HeadView) → Writes from from words h h
none_written from words h = record { present = h.server.present; is = refl; long = refl; written = λ i low high. absurd (omega arith); others = λ i out. refl }

pub more_written : (from i v : ℕ) (words : List ℕ) (h h1 h2 : HeadView) → Writes from i words h h1 → from ≤ i → IsTableWord i → i < length h.server.present → v ≡ slice_index words i
    → h2 ≡ record h1 { server = after_write h1.server i v } → Writes from (i + 1) words h h2
more_written from i v words h h1 h2 w low table within value is =
    let old : List ℕ = w.present in
    let long = w.long in
    let new : List ℕ = set old i v in
    let wrote : Bool → HeadView → HeadView = λ b k. record k { server = record k.server { present = (if b then set k.server.present i v else k.server.present); log = (if b then k.server.log else k.server.log ++ Put i v ∷ []) } } in
    record {
      present = new;
      is = is ∙ ap (λ b. wrote b h1) (table_is i table) ∙ ap (wrote true) w.is;
      long = length-set old i v ∙ w.long;
      written = λ j a b. ⊎_elim
          (λ (lt : j < i). get_or-set_other old i j v 0 (λ e. absurd (omega arith)) ∙ w.written j a lt)
          (λ (eq : j ≡ i). subst (λ k. slice_index new k ≡ slice_index words k) (sym eq) (get_or-set_same old i v 0 (omega arith) ∙ value))
          (last j i b);
      others = λ j out. get_or-set_other old i j v 0 (λ e. ⊎_elim (λ (a : j < from). absurd (omega arith)) (λ (b : i + 1 ≤ j). absurd (omega arith)) out)
          ∙ w.others j (⊎_elim (λ (a : j < from). inl a) (λ (b : i + 1 ≤ j). inr (omega arith)) out);
    }

pub still_wide : (from past : ℕ) (words : List ℕ) (h h1 : HeadView) → Writes from past words h h1 → length h.server.present ≡ 10632 → length h1.server.present ≡ 10632
still_wide from past words h h1 w wide = ap (λ (k : HeadView). length k.server.present) w.is ∙ w.long ∙ wide

pub all_written : (words : List ℕ) (h h1 h2 : HeadView) → Writes 1 1028 words h h1 → Writes 2052 10632 words h1 h2 → HasWritten words h h2
all_written words h h1 h2 a b =
    let present_is : h1.server.present ≡ a.present = ap (λ (k : HeadView). k.server.present) a.is in record {
      present = b.present;
      is = b.is ∙ ap (λ (k : HeadView). record k { server = record k.server { present = b.present } }) a.is;
      long = b.long ∙ ap length present_is ∙ a.long;
      same = λ i table. ⊎_elim
          (λ (head : (1 ≤ i) × (i ≤ 1027)). let low = head.0 in let high = head.1 in b.others i (inl (omega arith)) ∙ ap (λ l. slice_index l i) present_is ∙ a.written i low (omega arith))
          (λ (row : (2052 ≤ i) × (i ≤ 10631)). let high = row.1 in b.written i row.0 (omega arith))
          table;
    }

-- ---- the end of the turn

same_rows : (t u t' u' : List ℕ) → SameWords t t' → SameWords u' u → ((s : ℕ) → s < 33 → count_in t s ≤ 256) → Follows t' u → Follows t u'
same_rows t u t' u' left right few follows = λ s lt.
    let at : (k : ℕ) → k < 260 → IsTableWord (2052 + 260 * s + k) = λ k low. inr (omega arith, omega arith) in
    let count = few s lt in
    let zero_at : IsTableWord (2052 + 260 * s) = inr (omega arith, omega arith) in
    ⊎_elim
    (λ (rises : revision_in t' s < revision_in u s). inl (let a = left (2052 + 260 * s + 1) (at 1 (omega arith)) in let b = right (2052 + 260 * s + 1) (at 1 (omega arith)) in omega arith))
    (λ (same : SameRow t' u s). inr record {
      owner = left (2052 + 260 * s) zero_at ∙ same.owner ∙ sym (right (2052 + 260 * s) zero_at);
      revision = left (2052 + 260 * s + 1) (at 1 (omega arith)) ∙ same.revision ∙ sym (right (2052 + 260 * s + 1) (at 1 (omega arith)));
      origin = left (2052 + 260 * s + 2) (at 2 (omega arith)) ∙ same.origin ∙ sym (right (2052 + 260 * s + 2) (at 2 (omega arith)));
      count = left (2052 + 260 * s + 3) (at 3 (omega arith)) ∙ same.count ∙ sym (right (2052 + 260 * s + 3) (at 3 (omega arith)));
      rects = λ j more. let c = left (2052 + 260 * s + 3) (at 3 (omega arith)) in let here : IsTableWord (2052 + 260 * s + 4 + j) = inr (omega arith, omega arith) in
          left (2052 + 260 * s + 4 + j) here ∙ same.rects j (omega arith) ∙ sym (right (2052 + 260 * s + 4 + j) here);
    })
    (follows s lt)

-- a refused command changes no pixel
nothing_changes : (setting : Setting) (before after : Table) (command : Command) (reply : Reply) → is_refused reply ≡ true → ChangesScene setting before after command reply []
nothing_changes setting before after command reply refused = λ p lt. go p (is_refused reply) refused _ _
  where
    go : (p : ℕ) (b : Bool) → b ≡ true → (source : Option ℕ) → (bare : Bool) → SceneCarried setting (uncovered before) (uncovered after) [] p (if b then None else source) (not b && bare)
    go p true e source bare = inr (refl, refl)
    go p false e source bare = cc

module _ (screen : ScreenView) (number : ℕ) (before words : List ℕ) (h : HeadView) (is : IsServed screen number before words h) where
  abbrev first : HeadView
  first = is.first

  abbrev now : List ℕ
  now = is.writes.present

  abbrev log : List Item
  log = h.server.log

  -- the head but for its present table and its log
  abbrev end : HeadView
  end = record first { server = record first.server { present = now; log = log } }

  is_end : h ≡ end
  is_end = is.drops ∙ ap (λ (k : HeadView). record k { server = record k.server { log = log } }) (is.writes.is ∙ ap (λ (k : HeadView). record k { server = record k.server { present = now } }) is.lifts)

  pub next_number : number ≡ length h.server.closed + 1
  next_number = sym is.fresh.is_head.number_is ∙ sym (ap (λ (k : HeadView). length k.server.closed + 1) is_end)

  pub client_sits : (c : ℕ) → c ≡ 2 → 1 ≤ total (is_client c) h.sitting
  client_sits c two = subst (λ n. 1 ≤ total (is_client n) h.sitting) (sym two) (subst (λ (k : HeadView). 1 ≤ total (is_client 2) k.sitting) (sym is_end) is.fresh.is_head.sits)

  same_as_words : SameButStamp words now
  same_as_words = λ i table ne. is.writes.same i table

  module _ (stamps : StampLaw) (table : IsTable screen.setting.size 3 number words) (follows : Follows before words) where
    now_table : IsTable screen.setting.size 3 number now
    now_table = stamps.table screen.setting.size 3 number number words now table (is.writes.same 1 (inl (omega arith, omega arith)) ∙ table.stamp_is) same_as_words

    now_follows : Follows first.server.present now
    now_follows = same_rows first.server.present words before now is.fresh.is_head.words_are is.writes.same is.fresh.between.is_table.few follows

    pub may_end : IsNextTable h.server
    may_end = subst (λ (k : HeadView). IsNextTable k.server) (sym is_end) (record {
      is_table = subst (λ n. IsTable first.server.setting.size n (length first.server.closed + 1) now) (sym is.fresh.is_head.clients)
          (subst (λ n. IsTable first.server.setting.size 3 n now) (sym is.fresh.is_head.number_is)
          (subst (λ (s : Setting). IsTable s.size 3 number now) (sym is.fresh.setting_is) now_table));
      follows = λ t at. subst (λ l. Follows l now) (some-injective first.server.present t (sym is.fresh.between.last ∙ at)) now_follows;
    })

    pub may_carry : (e : JournalEntry) → PhaseLaw → CellsLaw → is_refused e.reply ≡ true → CarriesAtGive h.server e
    may_carry e phases cells refused = subst (λ (k : HeadView). CarriesAtGive k.server e) (sym is_end)
        (λ t at. subst (λ l. CarriesStep first.server.setting (table_of l) (table_of now) e.command e.reply log) (some-injective first.server.present t (sym is.fresh.between.last ∙ at))
        (subst (λ (s : Setting). CarriesStep s (table_of first.server.present) (table_of now) e.command e.reply log) (sym is.fresh.setting_is) carried))
      where
        under : Cursor
        under = (table_of first.server.present).cursor

        above : Cursor
        above = (table_of words).cursor

        same_cursor : above ≡ (table_of now).cursor
        same_cursor = stamps.cursor screen.setting.size 3 number words now table same_as_words

        shape_under : IsShape under
        shape_under = shape_in first.server.setting.size first.server.present is.fresh.between.is_table.cursor

        lifts : List Item
        lifts = lift_items screen.setting.size under is.lift_log.found

        drops : List Item
        drops = drop_items screen.setting.depth screen.setting.size above is.drop_log.found

        log_is : log ≡ lifts ++ drops
        log_is = is.drop_log.log ∙ ap (λ l. l ++ drops) (ap (λ (k : HeadView). k.server.log) is.writes.is ∙ is.lift_log.log ∙ ap (λ l. l ++ lifts) is.fresh.between.empty)

        carried : CarriesStep screen.setting (table_of first.server.present) (table_of now) e.command e.reply log
        carried = subst (λ l. CarriesStep screen.setting (table_of first.server.present) (table_of now) e.command e.reply l) (sym log_is)
            (phases screen.setting (table_of first.server.present) (table_of now) e.command e.reply lifts [] drops is.lift_log.found is.drop_log.found
            (cells.lifts screen.setting.size under is.lift_log.found shape_under)
            (nothing_changes screen.setting (table_of first.server.present) (table_of now) e.command e.reply refused)
            (subst (λ c. Rattle.turn_logs.specs.Phases.PutsDown screen.setting.depth screen.setting.size c is.drop_log.found drops) same_cursor
            (cells.drops screen.setting.depth screen.setting.size above is.drop_log.found (shape_in screen.setting.size words table.cursor)))
            (subst IsTrueLog log_is is.true_log))

  -- ---- after the turn

  still_sits : (e : JournalEntry) (ps : List Client) → total (is_client 2) (map (with_step e) ps) ≡ total (is_client 2) ps
  still_sits e ps = total_map (is_client 2) (is_client 2) (with_step e) ps (λ p. number_stays p (p.number == e.client))
    where
      number_stays : (p : Client) (b : Bool) → is_client 2 (if b then stepped e p else p) ≡ is_client 2 p
      number_stays p true = refl
      number_stays p false = refl

  pub served : (e : JournalEntry) (after : HeadView) → after ≡ record h { server = after_give h.server e; sitting = map (with_step e) h.sitting } → IsHead screen (number + 1) words after
  served e after given =
      let step : HeadView → HeadView = λ k. record k { server = after_give k.server e; sitting = map (with_step e) k.sitting } in
      let old = is.fresh.is_head in let count = length-append first.server.closed (closed_turn end.server e ∷ []) in
      let number_is = old.number_is in let sits = old.sits in let same = still_sits e first.sitting in
      subst (IsHead screen (number + 1) words) (sym (given ∙ ap step is_end)) (record {
        screen_is = old.screen_is;
        number_is = omega arith;
        clients = old.clients;
        sits = omega arith;
        words_are = is.writes.same;
      })
