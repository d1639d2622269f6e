-- A log that lifts the cursor off, changes the scene and puts the cursor down carries a step.
use Rattle.std.proofs.Common.{◌≡◌, ◌≢◌, ℕ, ◌<◌, Bool, true, false, List, [], ◌∷◌, ◌++◌, inl, inr, ⊎_elim, sym, refl, ap, ◌∙◌, subst, arith, Option, Some, None, append-nil, if◌then◌else◌}
use mathlib.Core.Logic.{dite}
use native.Mathlib.Decide.{ℕ_discrete}
use Rattle.qws_base.specs.Points.{pixel_count}
use Rattle.qws_base.specs.States.{is_refused, moved_slot}
use Rattle.qws_base.specs.Scenes.{carried_from}
use Rattle.qws_base.specs.declared.colours.Depth.{Depth}
use Rattle.region_table.specs.Numbers.{pixel_word, saved_word}
use Rattle.region_table.specs.Layouts.{layout_of_table}
use Rattle.turn_logs.specs.declared.items.Item.{Item}
use Rattle.turn_logs.specs.declared.items.Item.TheVariants.{Pick, Put}
use Rattle.turn_logs.specs.Lines.{item_word, on, written, Shows}
use Rattle.turn_logs.specs.Carries.{FirstPicks, or_later, last_put, Brings, ShownCell, shown_cell, scene_word, under_cell, SceneCarried, CellCarried, source_of, is_bared}
use Rattle.turn_logs.specs.Phases.{lifted, put_down, uncovered, IsTrueLog, PhaseLaw, AwayLaw}
use Rattle.turn_logs.proofs.Options.{none_some}
use Rattle.turn_logs.proofs.Joining.{on-append, on_here, on_there, shows-append, shows_split}
use Rattle.turn_logs.proofs.Carrying.{picks_true, first_picks-append, last_later, last_earlier, written_is, written_stays}
use Rattle.turn_logs.proofs.Law.{carried_within}

-- Picks of one value, before a Pick
first_of : (w x y : ℕ) (l rest : List Item) → last_put l ≡ None → Shows w (l ++ Pick y x ∷ rest) → FirstPicks x (l ++ Pick y x ∷ rest)
first_of w x y [] rest none shows = refl
first_of w x y (Pick z a ∷ l) rest none shows =
    let after = shows_split w l (Pick y x ∷ rest) shows.1 in shows.0 ∙ sym (written_stays w l none) ∙ sym after.0
first_of w x y (Put z a ∷ l) rest none shows = not_none (last_put l) none
  where
    not_none : (o : Option ℕ) → or_later o a ≡ None → FirstPicks x (Put z a ∷ (l ++ Pick y x ∷ rest))
    not_none (Some b) e = none_some b (sym e)
    not_none None e = none_some a (sym e)

module _ (depth : Depth) (first middle last : List Item) (v u : ℕ → ℕ) (under above : ℕ → Option ShownCell) (n : ℕ)
    (lift_saved : (p : ℕ) (cell : ShownCell) → p < n → under p ≡ Some cell → on (saved_word cell.column cell.row) first ≡ Pick (saved_word cell.column cell.row) (v p) ∷ [])
    (lift_pixel : (p : ℕ) → p < n → on (pixel_word p) first ≡ lifted p (under p) (v p))
    (drop_saved : (p : ℕ) (cell : ShownCell) → p < n → above p ≡ Some cell → on (saved_word cell.column cell.row) last ≡ Put (saved_word cell.column cell.row) (u p) ∷ [])
    (drop_pixel : (p : ℕ) → p < n → on (pixel_word p) last ≡ put_down depth p (above p) (u p))
    (holds : IsTrueLog (first ++ (middle ++ last))) where
  abbrev log : List Item
  log = first ++ (middle ++ last)

  parts : (x : ℕ) → on x log ≡ on x first ++ (on x middle ++ on x last)
  parts x = on-append x first (middle ++ last) ∙ ap (λ l. on x first ++ l) (on-append x middle last)

  shows : (x : ℕ) → (w : ℕ) × Shows w (on x first ++ (on x middle ++ on x last))
  shows x = let h = holds x in (h.0, subst (Shows h.0) (parts x) h.1)

  -- the saved word under a cell that is lifted is read first, that above which a cell is put is put last
  first_saved : (p : ℕ) (cell : ShownCell) → p < n → under p ≡ Some cell → FirstPicks (v p) (on (saved_word cell.column cell.row) log)
  first_saved p cell lt is = let x : ℕ = saved_word cell.column cell.row in
      subst (FirstPicks (v p)) (sym (parts x ∙ ap (λ l. l ++ (on x middle ++ on x last)) (lift_saved p cell lt is))) refl

  last_saved : (p : ℕ) (cell : ShownCell) → p < n → above p ≡ Some cell → last_put (on (saved_word cell.column cell.row) log) ≡ Some (u p)
  last_saved p cell lt is = let x : ℕ = saved_word cell.column cell.row in
      ap last_put (parts x) ∙ last_later (on x first) (on x middle ++ on x last) (u p) (last_later (on x middle) (on x last) (u p) (ap last_put (drop_saved p cell lt is)))

  -- the value that is read where a cell is put down
  read_last : (p : ℕ) (cell : ShownCell) → p < n → above p ≡ Some cell → u p ≡ written (written (shows (pixel_word p)).0 (on (pixel_word p) first)) (on (pixel_word p) middle)
  read_last p cell lt is = let x : ℕ = pixel_word p in let h = shows x in
      let down : on x last ≡ put_down depth p (Some cell) (u p) = drop_pixel p lt ∙ ap (λ c. put_down depth p c (u p)) is in
      let rest = shows_split (written h.0 (on x first)) (on x middle) (on x last) (shows_split h.0 (on x first) (on x middle ++ on x last) h.1) in
      (subst (Shows (written (written h.0 (on x first)) (on x middle))) down rest).0

  -- what the middle reads first on a pixel's word is what the pixel's scene word had
  from_source : (q x : ℕ) → q < n → FirstPicks x (on (pixel_word q) middle) → FirstPicks x (on (scene_word q (under q)) log)
  from_source q x lt picks = go (under q) refl
    where
      go : (cell : Option ShownCell) → under q ≡ cell → FirstPicks x (on (scene_word q cell) log)
      go None is = let w : ℕ = pixel_word q in
          subst (FirstPicks x) (sym (parts w ∙ ap (λ l. l ++ (on w middle ++ on w last)) (lift_pixel q lt ∙ ap (λ c. lifted q c (v q)) is))) (first_picks-append x (on w middle) (on w last) picks)
      go (Some cell) is = let w : ℕ = pixel_word q in let h = shows w in
          let up : on w first ≡ Put w (v q) ∷ [] = lift_pixel q lt ∙ ap (λ c. lifted q c (v q)) is in
          let rest : Shows (v q) (on w middle ++ on w last) = subst (λ l. Shows h.0 (l ++ (on w middle ++ on w last))) up h.1 in
          let same : x ≡ v q = picks_true x (v q) (on w middle ++ on w last) (first_picks-append x (on w middle) (on w last) picks) rest in
          subst (λ k. FirstPicks k (on (saved_word cell.column cell.row) log)) (sym same) (first_saved q cell lt is)

  -- what the middle puts last on a pixel's word comes into the pixel's scene word
  to_scene : (p x : ℕ) → p < n → last_put (on (pixel_word p) middle) ≡ Some x → last_put (on (scene_word p (above p)) log) ≡ Some x
  to_scene p x lt puts = go (above p) refl
    where
      go : (cell : Option ShownCell) → above p ≡ cell → last_put (on (scene_word p cell) log) ≡ Some x
      go None is = let w : ℕ = pixel_word p in
          ap last_put (parts w) ∙ last_later (on w first) (on w middle ++ on w last) x
          (ap (λ l. last_put (on w middle ++ l)) (drop_pixel p lt ∙ ap (λ c. put_down depth p c (u p)) is) ∙ last_earlier (on w middle) [] refl ∙ puts)
      go (Some cell) is = last_saved p cell lt is ∙ ap (λ k. Some k) (read_last p cell lt is ∙ written_is (written (shows (pixel_word p)).0 (on (pixel_word p) first)) x (on (pixel_word p) middle) puts)

  -- a pixel whose word the middle doesn't put is kept
  kept_there : (p : ℕ) → p < n → last_put (on (pixel_word p) middle) ≡ None → Brings log (scene_word p (under p)) (scene_word p (above p))
  kept_there p lt none = go (under p) (above p) refl refl
    where
      go : (old new : Option ShownCell) → under p ≡ old → above p ≡ new → Brings log (scene_word p old) (scene_word p new)
      go (Some cell) None was is = let w : ℕ = pixel_word p in inl (
        v p,
        first_saved p cell lt was,
        ap last_put (parts w ∙ ap (λ l. l ++ (on w middle ++ on w last)) (lift_pixel p lt ∙ ap (λ c. lifted p c (v p)) was))
            ∙ last_earlier (Put w (v p) ∷ []) (on w middle ++ on w last) (ap (λ l. last_put (on w middle ++ l)) (drop_pixel p lt ∙ ap (λ c. put_down depth p c (u p)) is) ∙ last_earlier (on w middle) [] refl ∙ none),
      )
      go (Some cell) (Some other) was is = let w : ℕ = pixel_word p in inl (
        v p,
        first_saved p cell lt was,
        last_saved p other lt is ∙ ap (λ k. Some k) (read_last p other lt is ∙ written_stays (written (shows w).0 (on w first)) (on w middle) none
            ∙ ap (written (shows w).0) (lift_pixel p lt ∙ ap (λ c. lifted p c (v p)) was)),
      )
      go None None was is = let w : ℕ = pixel_word p in inr (
        refl,
        ap last_put (parts w ∙ ap (λ l. l ++ (on w middle ++ on w last)) (lift_pixel p lt ∙ ap (λ c. lifted p c (v p)) was))
            ∙ ap (λ l. last_put (on w middle ++ l)) (drop_pixel p lt ∙ ap (λ c. put_down depth p c (u p)) is) ∙ last_earlier (on w middle) [] refl ∙ none,
      )
      go None (Some other) was is = let w : ℕ = pixel_word p in let h = shows w in
          let all : on w first ++ (on w middle ++ on w last) ≡ on w middle ++ put_down depth p (Some other) (u p) =
          ap (λ l. l ++ (on w middle ++ on w last)) (lift_pixel p lt ∙ ap (λ c. lifted p c (v p)) was) ∙ ap (λ l. on w middle ++ l) (drop_pixel p lt ∙ ap (λ c. put_down depth p c (u p)) is) in
          inl (u p, subst (FirstPicks (u p)) (sym (parts w ∙ all)) (first_of h.0 (u p) w (on w middle) (Put w (under_cell depth (Some other) (u p)) ∷ []) none (subst (Shows h.0) all h.1)), last_saved p other lt is)

  comes : (q p : ℕ) → q < n → p < n → Brings middle (pixel_word q) (pixel_word p) → Brings log (scene_word q (under q)) (scene_word p (above p))
  comes q p lt_q lt how = ⊎_elim
      (λ (h : (x : ℕ) × FirstPicks x (on (pixel_word q) middle) × (last_put (on (pixel_word p) middle) ≡ Some x)). inl (h.0, from_source q h.0 lt_q h.1, to_scene p h.0 lt h.2))
      (λ (h : (pixel_word q ≡ pixel_word p) × (last_put (on (pixel_word p) middle) ≡ None)).
      let same : p ≡ q = (let e = h.0 in omega arith) in subst (λ k. Brings log (scene_word k (under k)) (scene_word p (above p))) same (kept_there p lt h.1))
      how

  cell_put : (p : ℕ) (before new : Option ShownCell) → p < n → above p ≡ new → CellCarried depth log p before new
  cell_put p before None lt is = tt
  cell_put p before (Some cell) lt is = let w : ℕ = pixel_word p in inl (
    u p,
    last_saved p cell lt is,
    ap last_put (parts w) ∙ last_later (on w first) (on w middle ++ on w last) (under_cell depth (Some cell) (u p))
        (last_later (on w middle) (on w last) (under_cell depth (Some cell) (u p)) (ap last_put (drop_pixel p lt ∙ ap (λ c. put_down depth p c (u p)) is))),
  )

pub phase_law : PhaseLaw
phase_law setting before after command reply first middle last v u up changes down holds = record {
  scene = λ p within. scene p within (source_of setting.size before after command reply p) refl (is_bared setting.size after reply p) (changes p within);
  cells = λ p within. cell_put setting.depth first middle last v u (shown_cell setting.size before.cursor) (shown_cell setting.size after.cursor) (pixel_count setting.size) up.saved up.pixels down.saved down.pixels holds
      p (shown_cell setting.size before.cursor p) (shown_cell setting.size after.cursor p) within refl;
}
  where
    source_in : (p q : ℕ) (refused : Bool) → (if refused then None else carried_from setting.size (layout_of_table setting.size before) (layout_of_table setting.size after) (moved_slot command) p) ≡ Some q → q < pixel_count setting.size
    source_in p q true e = none_some q e
    source_in p q false e = carried_within setting.size (layout_of_table setting.size before) (layout_of_table setting.size after) (moved_slot command) p q e

    brings_it : (q p : ℕ) → q < pixel_count setting.size → p < pixel_count setting.size → Brings middle (pixel_word q) (pixel_word p)
        → Brings (first ++ (middle ++ last)) (scene_word q (shown_cell setting.size before.cursor q)) (scene_word p (shown_cell setting.size after.cursor p))
    brings_it = comes setting.depth first middle last v u (shown_cell setting.size before.cursor) (shown_cell setting.size after.cursor) (pixel_count setting.size) up.saved up.pixels down.saved down.pixels holds

    puts_it : (p x : ℕ) → p < pixel_count setting.size → last_put (on (pixel_word p) middle) ≡ Some x → last_put (on (scene_word p (shown_cell setting.size after.cursor p)) (first ++ (middle ++ last))) ≡ Some x
    puts_it = to_scene setting.depth first middle last v u (shown_cell setting.size before.cursor) (shown_cell setting.size after.cursor) (pixel_count setting.size) up.saved up.pixels down.saved down.pixels holds

    scene : (p : ℕ) → p < pixel_count setting.size → (source : Option ℕ) → source_of setting.size before after command reply p ≡ source → (bare : Bool) → SceneCarried setting (uncovered before) (uncovered after) middle p source bare
        → SceneCarried setting before after (first ++ (middle ++ last)) p source bare
    scene p within (Some q) is bare how = brings_it q p (source_in p q (is_refused reply) is) within how
    scene p within None is true how = ⊎_elim (λ puts. inl (puts_it p setting.backdrop within puts)) (λ kept. inr (kept.0, brings_it p p within within kept.1)) how
    scene p within None is false how = brings_it p p within within how

-- ---- the cursor stays

module _ (log : List Item) (cell : ℕ → Option ShownCell) (n : ℕ) (away : (p : ℕ) (c : ShownCell) → p < n → cell p ≡ Some c → (on (pixel_word p) log ≡ []) × (on (saved_word c.column c.row) log ≡ [])) where
  -- a pixel whose word the log has an item on has no cell
  bare_read : (p v : ℕ) → p < n → FirstPicks v (on (pixel_word p) log) → scene_word p (cell p) ≡ pixel_word p
  bare_read p v lt picks = go (cell p) refl
    where
      go : (c : Option ShownCell) → cell p ≡ c → scene_word p c ≡ pixel_word p
      go None is = refl
      go (Some c) is = absurd (subst (FirstPicks v) (away p c lt is).0 picks)

  bare_put : (p v : ℕ) → p < n → last_put (on (pixel_word p) log) ≡ Some v → scene_word p (cell p) ≡ pixel_word p
  bare_put p v lt puts = go (cell p) refl
    where
      go : (c : Option ShownCell) → cell p ≡ c → scene_word p c ≡ pixel_word p
      go None is = refl
      go (Some c) is = none_some v (sym (ap last_put (away p c lt is).0) ∙ puts)

  unput : (p : ℕ) → p < n → last_put (on (pixel_word p) log) ≡ None → last_put (on (scene_word p (cell p)) log) ≡ None
  unput p lt none = go (cell p) refl
    where
      go : (c : Option ShownCell) → cell p ≡ c → last_put (on (scene_word p c) log) ≡ None
      go None is = none
      go (Some c) is = ap last_put (away p c lt is).1

  stays : (q p : ℕ) → q < n → p < n → Brings log (pixel_word q) (pixel_word p) → Brings log (scene_word q (cell q)) (scene_word p (cell p))
  stays q p lt_q lt how = ⊎_elim
      (λ (h : (v : ℕ) × FirstPicks v (on (pixel_word q) log) × (last_put (on (pixel_word p) log) ≡ Some v)).
      inl (h.0, subst (λ x. FirstPicks h.0 (on x log)) (sym (bare_read q h.0 lt_q h.1)) h.1, ap (λ x. last_put (on x log)) (bare_put p h.0 lt h.2) ∙ h.2))
      (λ (h : (pixel_word q ≡ pixel_word p) × (last_put (on (pixel_word p) log) ≡ None)).
      let same : q ≡ p = (let e = h.0 in omega arith) in inr (ap (λ k. scene_word k (cell k)) same, unput p lt h.1))
      how

  cell_stays : (depth : Depth) (p : ℕ) (c : Option ShownCell) → p < n → cell p ≡ c → CellCarried depth log p (cell p) c
  cell_stays depth p None lt is = tt
  cell_stays depth p (Some c) lt is = let none = away p c lt is in inr (ap last_put none.1, ap last_put none.0, is)

pub away_law : AwayLaw
away_law setting before after command reply log same away changes = record {
  scene = λ p within. scene p within (source_of setting.size before after command reply p) refl (is_bared setting.size after reply p) (changes p within);
  cells = λ p within. cell_stays log here n away setting.depth p (shown_cell setting.size after.cursor p) within (there p);
}
  where
    n : ℕ
    n = pixel_count setting.size

    here : ℕ → Option ShownCell
    here = shown_cell setting.size before.cursor

    there : (p : ℕ) → shown_cell setting.size before.cursor p ≡ shown_cell setting.size after.cursor p
    there p = ap (λ c. shown_cell setting.size c p) same

    source_in : (p q : ℕ) (refused : Bool) → (if refused then None else carried_from setting.size (layout_of_table setting.size before) (layout_of_table setting.size after) (moved_slot command) p) ≡ Some q → q < pixel_count setting.size
    source_in p q true e = none_some q e
    source_in p q false e = carried_within setting.size (layout_of_table setting.size before) (layout_of_table setting.size after) (moved_slot command) p q e

    keeps : (q p : ℕ) → q < pixel_count setting.size → p < pixel_count setting.size → Brings log (pixel_word q) (pixel_word p)
        → Brings log (scene_word q (shown_cell setting.size before.cursor q)) (scene_word p (shown_cell setting.size after.cursor p))
    keeps q p lt_q lt how = subst (λ c. Brings log (scene_word q (shown_cell setting.size before.cursor q)) (scene_word p c)) (there p) (stays log here n away q p lt_q lt how)

    scene : (p : ℕ) → p < pixel_count setting.size → (source : Option ℕ) → source_of setting.size before after command reply p ≡ source → (bare : Bool) → SceneCarried setting (uncovered before) (uncovered after) log p source bare
        → SceneCarried setting before after log p source bare
    scene p within (Some q) is bare how = keeps q p (source_in p q (is_refused reply) is) within how
    scene p within None is true how = ⊎_elim
        (λ puts. inl (ap (λ c. last_put (on (scene_word p c) log)) (sym (there p)) ∙ ap (λ x. last_put (on x log)) (bare_put log here n away p setting.backdrop within puts) ∙ puts))
        (λ kept. inr (kept.0, keeps p p within within kept.1))
        how
    scene p within None is false how = keeps p p within within how

-- ---- a true log

pub open_log : IsTrueLog []
open_log = λ x. (0, tt)

one_more : (log : List Item) (i : Item) → IsTrueLog log → ((w : ℕ) × Shows w (on (item_word i) (log ++ i ∷ []))) → IsTrueLog (log ++ i ∷ [])
one_more log i holds here y = dite (ℕ_discrete (item_word i) y)
    (λ (eq : item_word i ≡ y). subst (λ x. (w : ℕ) × Shows w (on x (log ++ i ∷ []))) eq here)
    (λ (ne : item_word i ≢ y). let h = holds y in (h.0, subst (Shows h.0) (sym (on-append y log (i ∷ []) ∙ ap (λ l. on y log ++ l) (on_there y i ne) ∙ append-nil (on y log))) h.1))

pub put_more : (log : List Item) (x n : ℕ) → IsTrueLog log → IsTrueLog (log ++ Put x n ∷ [])
put_more log x n holds = let h = holds x in one_more log (Put x n) holds
    (h.0, subst (Shows h.0) (sym (on-append x log (Put x n ∷ []) ∙ ap (λ l. on x log ++ l) (on_here x (Put x n) refl))) (shows-append h.0 (on x log) (Put x n ∷ []) h.1 tt))

pub pick_more : (log : List Item) (x n v : ℕ) → IsTrueLog log → Shows v (on x log) → n ≡ written v (on x log) → IsTrueLog (log ++ Pick x n ∷ [])
pick_more log x n v holds shown is = one_more log (Pick x n) holds
    (v, subst (Shows v) (sym (on-append x log (Pick x n ∷ []) ∙ ap (λ l. on x log ++ l) (on_here x (Pick x n) refl))) (shows-append v (on x log) (Pick x n ∷ []) shown (is, tt)))
