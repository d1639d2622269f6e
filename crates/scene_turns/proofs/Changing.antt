-- A sweep that carries pixels and one that fills with the backdrop change the scene.
use Rattle.std.proofs.Common.{◌≡◌, ℕ, inl, inr, ⊎_elim, Bool, true, false, if◌then◌else◌, List, [], ◌++◌, append-nil, Some, None, is_none, sym, refl, ap, ◌∙◌, subst, arith}
use Rattle.std.proofs.lemmas.Bool.{true≢false, cases_Bool}
use Rattle.qws_base.specs.Scenes.{Setting}
use Rattle.qws_base.specs.declared.points.Rect.{Rect}
use Rattle.region_table.specs.Numbers.{pixel_word}
use Rattle.region_table.specs.Layouts.{layout_of_table}
use Rattle.turn_logs.specs.declared.items.Item.{Item}
use Rattle.turn_logs.specs.Lines.{on}
use Rattle.turn_logs.specs.Carries.{FirstPicks, last_put, Brings, SceneCarried, source_of, is_bared}
use Rattle.turn_logs.specs.Phases.{uncovered}
use Rattle.turn_logs.proofs.Joining.{on-append}
use Rattle.turn_logs.proofs.Carrying.{first_picks-append, last_later, last_earlier}
use Rattle.scene_turns.specs.declared.works.Work.TheVariants.{Fill}
use Rattle.step_regions.specs.Carried.{source}
use Rattle.scene_turns.specs.Sweeps.{Sweeps}
use Rattle.scene_turns.specs.Changes.{is_in, IsAsked, ChangeLaw}

-- a word that a fill doesn't touch
unfilled : (setting : Setting) (rects : List Rect) (colour p : ℕ) (log : List Item) → Sweeps setting.size rects (Fill colour) log → is_in setting rects p ≡ false → on (pixel_word p) log ≡ []
unfilled setting rects colour p log sweeps out = sweeps.away (pixel_word p)
    (λ q within holds same. let e : p ≡ q = omega arith in true≢false (sym (subst (λ k. is_in setting rects k ≡ true) (sym e) holds) ∙ out))

pub change_law : ChangeLaw
change_law setting before after command reply falling by carried bared first second carries fills asks p within =
    go (is_in setting carried p) (is_bared setting.size after reply p) refl refl
  where
    ask : IsAsked setting before after command reply falling by carried bared p
    ask = asks p within

    parts : (x : ℕ) → on x (first ++ second) ≡ on x first ++ on x second
    parts x = on-append x first second

    first_only : (x : ℕ) → on x second ≡ [] → on x (first ++ second) ≡ on x first
    first_only x none = parts x ∙ ap (λ l. on x first ++ l) none ∙ append-nil (on x first)

    last_of_first : (x : ℕ) → last_put (on x second) ≡ None → last_put (on x (first ++ second)) ≡ last_put (on x first)
    last_of_first x none = ap last_put (parts x) ∙ last_earlier (on x first) (on x second) none

    -- nothing is put on a pixel outside both regions
    kept : is_in setting carried p ≡ false → is_in setting bared p ≡ false → Brings (first ++ second) (pixel_word p) (pixel_word p)
    kept out off = inr (refl, last_of_first (pixel_word p) (ap last_put (unfilled setting bared setting.backdrop p second fills off)) ∙ carries.outside p within out)

    filled : is_in setting bared p ≡ true → last_put (on (pixel_word p) (first ++ second)) ≡ Some setting.backdrop
    filled holds = ap last_put (parts (pixel_word p)) ∙ last_later (on (pixel_word p) first) (on (pixel_word p) second) setting.backdrop (fills.inside p within holds)

    not_bare : is_bared setting.size after reply p ≡ false → is_in setting bared p ≡ false
    not_bare off = ⊎_elim (λ (holds : is_in setting bared p ≡ true). absurd (true≢false (sym (ask.bare holds).0 ∙ off))) (λ (out : is_in setting bared p ≡ false). out) (cases_Bool (is_in setting bared p))

    from : is_in setting carried p ≡ true → Brings (first ++ second) (pixel_word (source falling by p)) (pixel_word p)
    from holds =
        let d = carries.inside p within holds in
        let out : is_in setting bared p ≡ false = ⊎_elim (λ (h : is_in setting bared p ≡ true). absurd (true≢false (sym holds ∙ (ask.bare h).1))) (λ (o : is_in setting bared p ≡ false). o) (cases_Bool (is_in setting bared p)) in
        inl (
          d.0,
          subst (FirstPicks d.0) (sym (parts (pixel_word (source falling by p)))) (first_picks-append d.0 (on (pixel_word (source falling by p)) first) (on (pixel_word (source falling by p)) second) d.1),
          ap last_put (first_only (pixel_word p) (unfilled setting bared setting.backdrop p second fills out)) ∙ d.2,
        )

    go : (b bare : Bool) → is_in setting carried p ≡ b → is_bared setting.size after reply p ≡ bare
        → SceneCarried setting (uncovered before) (uncovered after) (first ++ second) p (source_of setting.size before after command reply p) (is_bared setting.size after reply p)
    go true bare is off = subst (λ o. SceneCarried setting (uncovered before) (uncovered after) (first ++ second) p o (is_bared setting.size after reply p))
        (sym (ask.carried_is ∙ ap (λ b. if b then Some (source falling by p) else None) is)) (from is)
    go false true is off = subst (λ o. SceneCarried setting (uncovered before) (uncovered after) (first ++ second) p o (is_bared setting.size after reply p))
        (sym (ask.carried_is ∙ ap (λ b. if b then Some (source falling by p) else None) is))
        (subst (λ b. SceneCarried setting (uncovered before) (uncovered after) (first ++ second) p None b) (sym off)
        (⊎_elim
        (λ (h : is_in setting bared p ≡ true). inl (filled h))
        (λ (none : is_none ((layout_of_table setting.size before).owner p) ≡ true). ⊎_elim
        (λ (h : is_in setting bared p ≡ true). inl (filled h))
        (λ (o : is_in setting bared p ≡ false). inr (none, kept is o))
        (cases_Bool (is_in setting bared p)))
        (ask.lost off)))
    go false false is off = subst (λ o. SceneCarried setting (uncovered before) (uncovered after) (first ++ second) p o (is_bared setting.size after reply p))
        (sym (ask.carried_is ∙ ap (λ b. if b then Some (source falling by p) else None) is))
        (subst (λ b. SceneCarried setting (uncovered before) (uncovered after) (first ++ second) p None b) (sym off) (kept is (not_bare off)))
