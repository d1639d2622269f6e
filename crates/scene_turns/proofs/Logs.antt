-- What the log of work on pixels in order has on single words.
use Rattle.std.proofs.Common.{◌≡◌, ◌≢◌, ℕ, ◌≤◌, ◌⊎◌, ◌==◌, inl, inr, ⊎_elim, Bool, true, false, if◌then◌else◌, List, [], ◌∷◌, map, Some, None, sym, refl, ap, ◌∙◌, subst, arith}
use Rattle.region_table.specs.Numbers.{pixel_word}
use Rattle.turn_logs.specs.declared.items.Item.{Item}
use Rattle.turn_logs.specs.declared.items.Item.TheVariants.{Pick, Put}
use Rattle.turn_logs.specs.Lines.{on}
use Rattle.turn_logs.specs.Carries.{FirstPicks, last_put, or_later}
use Rattle.turn_logs.proofs.Lifting.{on_yes, on_no}
use Rattle.scene_turns.specs.declared.works.Work.{Work}
use Rattle.scene_turns.specs.declared.works.Work.TheVariants.{Fill, Carry}
use Rattle.scene_turns.specs.Works.{is_falling, work_log}
use Rattle.step_regions.specs.Carried.{source}
use Rattle.scene_turns.specs.Sweeps.{IsDone, IsTouched}
use Rattle.scene_turns.proofs.Order.{Has, InOrder, Before}

-- ---- pixels with what was read

pub first_has : (done : List (ℕ × ℕ)) (d : ℕ × ℕ) → Has done d → Has (map (λ (e : ℕ × ℕ). e.0) done) d.0
first_has [] d has = absurd has
first_has (e ∷ es) d has = ⊎_elim (λ (h : e ≡ d). inl (ap (λ (x : ℕ × ℕ). x.0) h)) (λ (h : Has es d). inr (first_has es d h)) has

pub has_first : (done : List (ℕ × ℕ)) (p : ℕ) → Has (map (λ (e : ℕ × ℕ). e.0) done) p → (d : ℕ × ℕ) × Has done d × (d.0 ≡ p)
has_first [] p has = absurd has
has_first (e ∷ es) p has = ⊎_elim
    (λ (h : e.0 ≡ p). (e, inl refl, h))
    (λ (h : Has (map (λ (e : ℕ × ℕ). e.0) es) p). let r = has_first es p h in (r.0, inr r.1, r.2))
    has

pub firsts_in_order : (R : ℕ → ℕ → Type 0) (done : List (ℕ × ℕ)) → InOrder R (map (λ (e : ℕ × ℕ). e.0) done) → InOrder (λ (a b : ℕ × ℕ). R a.0 b.0) done
firsts_in_order R [] order = tt
firsts_in_order R (e ∷ es) order = (λ d has. order.0 d.0 (first_has es d has), firsts_in_order R es order.1)

-- ---- single items

pick_skipped : (x y v : ℕ) (l : List Item) → last_put (on x (Pick y v ∷ l)) ≡ last_put (on x l)
pick_skipped x y v l = go (y == x)
  where
    go : (b : Bool) → last_put (if b then Pick y v ∷ on x l else on x l) ≡ last_put (on x l)
    go true = refl
    go false = refl

put_kept : (x y v u : ℕ) (l : List Item) → last_put (on x l) ≡ Some u → last_put (on x (Put y v ∷ l)) ≡ Some u
put_kept x y v u l is = go (y == x)
  where
    go : (b : Bool) → last_put (if b then Put y v ∷ on x l else on x l) ≡ Some u
    go true = ap (λ o. or_later o v) is
    go false = is

put_only : (x v : ℕ) (l : List Item) → last_put (on x l) ≡ None → last_put (on x (Put x v ∷ l)) ≡ Some v
put_only x v l none = ap last_put (on_yes x (Put x v) l refl) ∙ ap (λ o. or_later o v) none

put_away : (x y v : ℕ) (l : List Item) → y ≢ x → last_put (on x (Put y v ∷ l)) ≡ last_put (on x l)
put_away x y v l other = ap last_put (on_no x (Put y v) l other)

-- ---- a fill

fill_values : (colour x : ℕ) (done : List (ℕ × ℕ)) → (last_put (on x (work_log (Fill colour) done)) ≡ None) ⊎ (last_put (on x (work_log (Fill colour) done)) ≡ Some colour)
fill_values colour x [] = inl refl
fill_values colour x (e ∷ es) = ⊎_elim
    (λ (none : last_put (on x (work_log (Fill colour) es)) ≡ None). go (pixel_word e.0 == x) none)
    (λ (some : last_put (on x (work_log (Fill colour) es)) ≡ Some colour). inr (put_kept x (pixel_word e.0) colour colour (work_log (Fill colour) es) some))
    (fill_values colour x es)
  where
    go : (b : Bool) → last_put (on x (work_log (Fill colour) es)) ≡ None
        → (last_put (if b then Put (pixel_word e.0) colour ∷ on x (work_log (Fill colour) es) else on x (work_log (Fill colour) es)) ≡ None)
        ⊎ (last_put (if b then Put (pixel_word e.0) colour ∷ on x (work_log (Fill colour) es) else on x (work_log (Fill colour) es)) ≡ Some colour)
    go true none = inr (ap (λ o. or_later o colour) none)
    go false none = inl none

filled : (colour : ℕ) (done : List (ℕ × ℕ)) (d : ℕ × ℕ) → Has done d → last_put (on (pixel_word d.0) (work_log (Fill colour) done)) ≡ Some colour
filled colour [] d has = absurd has
filled colour (e ∷ es) d has = ⊎_elim
    (λ (same : e ≡ d). subst (λ (c : ℕ × ℕ). last_put (on (pixel_word c.0) (work_log (Fill colour) (e ∷ es))) ≡ Some colour) same here)
    (λ (h : Has es d). put_kept (pixel_word d.0) (pixel_word e.0) colour colour (work_log (Fill colour) es) (filled colour es d h))
    has
  where
    here : last_put (on (pixel_word e.0) (work_log (Fill colour) (e ∷ es))) ≡ Some colour
    here = ⊎_elim
        (λ (none : last_put (on (pixel_word e.0) (work_log (Fill colour) es)) ≡ None). put_only (pixel_word e.0) colour (work_log (Fill colour) es) none)
        (λ (some : last_put (on (pixel_word e.0) (work_log (Fill colour) es)) ≡ Some colour). put_kept (pixel_word e.0) (pixel_word e.0) colour colour (work_log (Fill colour) es) some)
        (fill_values colour (pixel_word e.0) es)

-- ---- what isn't worked on

pub none_put : (work : Work) (p : ℕ) (done : List (ℕ × ℕ)) → ((d : ℕ × ℕ) → Has done d → d.0 ≢ p) → last_put (on (pixel_word p) (work_log work done)) ≡ None
none_put work p [] away = refl
none_put (Fill colour) p (e ∷ es) away =
    put_away (pixel_word p) (pixel_word e.0) colour (work_log (Fill colour) es) (λ h. away e (inl refl) (omega arith)) ∙ none_put (Fill colour) p es (λ d has. away d (inr has))
none_put (Carry falling by) p (e ∷ es) away =
    pick_skipped (pixel_word p) (pixel_word (source falling by e.0)) e.1 (Put (pixel_word e.0) e.1 ∷ work_log (Carry falling by) es)
    ∙ put_away (pixel_word p) (pixel_word e.0) e.1 (work_log (Carry falling by) es) (λ h. away e (inl refl) (omega arith)) ∙ none_put (Carry falling by) p es (λ d has. away d (inr has))

pub none_touched : (work : Work) (x : ℕ) (done : List (ℕ × ℕ)) → ((d : ℕ × ℕ) → Has done d → IsTouched work d.0 x → ⊥) → on x (work_log work done) ≡ []
none_touched work x [] away = refl
none_touched (Fill colour) x (e ∷ es) away =
    on_no x (Put (pixel_word e.0) colour) (work_log (Fill colour) es) (λ h. away e (inl refl) (sym h)) ∙ none_touched (Fill colour) x es (λ d has. away d (inr has))
none_touched (Carry falling by) x (e ∷ es) away =
    on_no x (Pick (pixel_word (source falling by e.0)) e.1) (Put (pixel_word e.0) e.1 ∷ work_log (Carry falling by) es) (λ h. away e (inl refl) (inr (sym h)))
    ∙ on_no x (Put (pixel_word e.0) e.1) (work_log (Carry falling by) es) (λ h. away e (inl refl) (inl (sym h))) ∙ none_touched (Carry falling by) x es (λ d has. away d (inr has))

-- ---- a carry

-- the source of p isn't before the screen
abbrev pub IsAhead : Bool → ℕ → ℕ → Type 0
IsAhead false by p = Unit {0}
IsAhead true by p = by ≤ p

-- q comes after p: it is another pixel, and its source is neither p nor the source of p
abbrev Apart : Bool → ℕ → ℕ → ℕ → Type 0
Apart falling by p q = (q ≢ p) × (source falling by q ≢ p) × (source falling by q ≢ source falling by p)

apart : (falling : Bool) (by p q : ℕ) → Before falling p q → IsAhead falling by q → Apart falling by p q
apart false by p q before ahead = (λ e. absurd (omega arith), λ e. absurd (omega arith), λ e. absurd (omega arith))
apart true by p q before ahead = (λ e. absurd (omega arith), λ e. absurd (omega arith), λ e. absurd (omega arith))

carried : (falling : Bool) (by : ℕ) (done : List (ℕ × ℕ)) → InOrder (λ (a b : ℕ × ℕ). Before falling a.0 b.0) done → ((d : ℕ × ℕ) → Has done d → IsAhead falling by d.0)
    → (d : ℕ × ℕ) → Has done d → FirstPicks d.1 (on (pixel_word (source falling by d.0)) (work_log (Carry falling by) done)) × (last_put (on (pixel_word d.0) (work_log (Carry falling by) done)) ≡ Some d.1)
carried falling by [] order ahead d has = absurd has
carried falling by (e ∷ es) order ahead d has = ⊎_elim
    (λ (same : e ≡ d). subst (λ (c : ℕ × ℕ). FirstPicks c.1 (on (pixel_word (source falling by c.0)) (work_log (Carry falling by) (e ∷ es))) × (last_put (on (pixel_word c.0) (work_log (Carry falling by) (e ∷ es))) ≡ Some c.1)) same here)
    (λ (h : Has es d). there h (carried falling by es order.1 (λ c x. ahead c (inr x)) d h))
    has
  where
    here : FirstPicks e.1 (on (pixel_word (source falling by e.0)) (work_log (Carry falling by) (e ∷ es))) × (last_put (on (pixel_word e.0) (work_log (Carry falling by) (e ∷ es))) ≡ Some e.1)
    here = (
      subst (FirstPicks e.1) (sym (on_yes (pixel_word (source falling by e.0)) (Pick (pixel_word (source falling by e.0)) e.1) (Put (pixel_word e.0) e.1 ∷ work_log (Carry falling by) es) refl)) refl,
      pick_skipped (pixel_word e.0) (pixel_word (source falling by e.0)) e.1 (Put (pixel_word e.0) e.1 ∷ work_log (Carry falling by) es)
          ∙ put_only (pixel_word e.0) e.1 (work_log (Carry falling by) es) (none_put (Carry falling by) e.0 es (λ c h. (apart falling by e.0 c.0 (order.0 c h) (ahead c (inr h))).0)),
    )

    there : Has es d → FirstPicks d.1 (on (pixel_word (source falling by d.0)) (work_log (Carry falling by) es)) × (last_put (on (pixel_word d.0) (work_log (Carry falling by) es)) ≡ Some d.1)
        → FirstPicks d.1 (on (pixel_word (source falling by d.0)) (work_log (Carry falling by) (e ∷ es))) × (last_put (on (pixel_word d.0) (work_log (Carry falling by) (e ∷ es))) ≡ Some d.1)
    there h later = let off = apart falling by e.0 d.0 (order.0 d h) (ahead d (inr h)) in (
      subst (FirstPicks d.1)
          (sym (on_no (pixel_word (source falling by d.0)) (Pick (pixel_word (source falling by e.0)) e.1) (Put (pixel_word e.0) e.1 ∷ work_log (Carry falling by) es) (λ x. off.2 (omega arith))
          ∙ on_no (pixel_word (source falling by d.0)) (Put (pixel_word e.0) e.1) (work_log (Carry falling by) es) (λ x. off.1 (omega arith))))
          later.0,
      pick_skipped (pixel_word d.0) (pixel_word (source falling by e.0)) e.1 (Put (pixel_word e.0) e.1 ∷ work_log (Carry falling by) es) ∙ put_away (pixel_word d.0) (pixel_word e.0) e.1 (work_log (Carry falling by) es) (λ x. off.0 (omega arith)) ∙ later.1,
    )

-- the work is done on each pixel
abbrev pub Ahead : Work → ℕ → Type 0
Ahead (Fill colour) p = Unit {0}
Ahead (Carry falling by) p = IsAhead falling by p

pub all_done : (work : Work) (done : List (ℕ × ℕ)) → InOrder (Before (is_falling work)) (map (λ (e : ℕ × ℕ). e.0) done) → ((p : ℕ) → Has (map (λ (e : ℕ × ℕ). e.0) done) p → Ahead work p)
    → (p : ℕ) → Has (map (λ (e : ℕ × ℕ). e.0) done) p → IsDone work p (work_log work done)
all_done (Fill colour) done order ahead p has = let d = has_first done p has in
    subst (λ q. last_put (on (pixel_word q) (work_log (Fill colour) done)) ≡ Some colour) d.2 (filled colour done d.0 d.1)
all_done (Carry falling by) done order ahead p has = let d = has_first done p has in
    let both = carried falling by done (firsts_in_order (Before falling) done order) (λ c h. ahead c.0 (first_has done c h)) d.0 d.1 in
    subst (λ q. IsDone (Carry falling by) q (work_log (Carry falling by) done)) d.2 (d.0.1, both.0, both.1)
