-- A log that only reads first, and then carries a step.
use Rattle.std.proofs.Common.{◌≡◌, ℕ, ◌==◌, if◌then◌else◌, Bool, true, false, inl, inr, List, [], ◌∷◌, ◌++◌, Option, Some, None, refl, sym, ap, ◌∙◌, subst, ⊎_elim}
use Rattle.qws_base.specs.Scenes.{Setting}
use Rattle.qws_base.specs.declared.commands.Command.{Command}
use Rattle.qws_base.specs.declared.replies.Reply.{Reply}
use Rattle.qws_base.specs.declared.colours.Depth.{Depth}
use Rattle.region_table.specs.declared.tables.Table.{Table}
use Rattle.turn_logs.specs.declared.items.Item.{Item}
use Rattle.turn_logs.specs.declared.items.Item.TheVariants.{Pick, Put}
use Rattle.turn_logs.specs.Lines.{on, Shows, OnlyPicks}
use Rattle.turn_logs.specs.Phases.{IsTrueLog}
use Rattle.turn_logs.proofs.Joining.{on-append}
use Rattle.turn_logs.specs.Carries.{FirstPicks, last_put, Brings, ShownCell, shown_cell, scene_word, SceneCarried, CellCarried, source_of, is_bared, CarriesStep}

picks_on : (x : ℕ) (a : List Item) → OnlyPicks a → OnlyPicks (on x a)
picks_on x [] only = tt
picks_on x (Pick word v ∷ a) only = go (word == x) (picks_on x a only)
  where
    go : (t : Bool) → OnlyPicks (on x a) → OnlyPicks (if t then Pick word v ∷ on x a else on x a)
    go true rest = rest
    go false rest = rest
picks_on x (Put word v ∷ a) only = absurd only

last_put_after : (a b : List Item) → OnlyPicks a → last_put (a ++ b) ≡ last_put b
last_put_after [] b only = refl
last_put_after (Pick word v ∷ a) b only = last_put_after a b only
last_put_after (Put word v ∷ a) b only = absurd only

shows_after : (w : ℕ) (a b : List Item) → OnlyPicks a → Shows w (a ++ b) → Shows w b
shows_after w [] b only shows = shows
shows_after w (Pick word v ∷ a) b only shows = shows_after w a b only shows.1
shows_after w (Put word v ∷ a) b only shows = absurd only

first_is : (v w : ℕ) (b : List Item) → FirstPicks v b → Shows w b → v ≡ w
first_is v w [] first shows = absurd first
first_is v w (Pick word u ∷ b) first shows = sym first ∙ shows.0
first_is v w (Put word u ∷ b) first shows = absurd first

first_after : (v w : ℕ) (a b : List Item) → OnlyPicks a → Shows w (a ++ b) → FirstPicks v b → FirstPicks v (a ++ b)
first_after v w [] b only shows first = first
first_after v w (Pick word u ∷ a) b only shows first = shows.0 ∙ sym (first_is v w b first (shows_after w a b only shows.1))
first_after v w (Put word u ∷ a) b only shows first = absurd only

-- what a log shows that reads first is true without these reads
pub true_after : (a b : List Item) → OnlyPicks a → IsTrueLog (a ++ b) → IsTrueLog b
true_after a b only is x = let at = is x in (at.0, shows_after at.0 (on x a) (on x b) (picks_on x a only) (subst (Shows at.0) (on-append x a b) at.1))

module _ (picks own : List Item) (only : OnlyPicks picks) (is : IsTrueLog (picks ++ own)) where
  put_same : (x : ℕ) → last_put (on x (picks ++ own)) ≡ last_put (on x own)
  put_same x = ap last_put (on-append x picks own) ∙ last_put_after (on x picks) (on x own) (picks_on x picks only)

  brings : (a b : ℕ) → Brings own a b → Brings (picks ++ own) a b
  brings a b how = ⊎_elim
      (λ (t : (v : ℕ) × FirstPicks v (on a own) × (last_put (on b own) ≡ Some v)). let at = is a in
      let first : FirstPicks t.0 (on a picks ++ on a own) = first_after t.0 at.0 (on a picks) (on a own) (picks_on a picks only) (subst (Shows at.0) (on-append a picks own) at.1) t.1 in
      let r : Brings (picks ++ own) a b = inl (t.0, subst (FirstPicks t.0) (sym (on-append a picks own)) first, put_same b ∙ t.2) in r)
      (λ (t : (a ≡ b) × (last_put (on b own) ≡ None)). let r : Brings (picks ++ own) a b = inr (t.0, put_same b ∙ t.1) in r)
      how

  scene : (setting : Setting) (before after : Table) (p : ℕ) (source : Option ℕ) (bare : Bool) → SceneCarried setting before after own p source bare → SceneCarried setting before after (picks ++ own) p source bare
  scene setting before after p (Some q) bare how = brings _ _ how
  scene setting before after p None true how = ⊎_elim
      (λ (t : last_put (on (scene_word p (shown_cell setting.size after.cursor p)) own) ≡ Some setting.backdrop).
      let r : SceneCarried setting before after (picks ++ own) p None true = inl (put_same (scene_word p (shown_cell setting.size after.cursor p)) ∙ t) in r)
      (λ t. let r : SceneCarried setting before after (picks ++ own) p None true = inr (t.0, brings _ _ t.1) in r)
      how
  scene setting before after p None false how = brings _ _ how

  cell : (depth : Depth) (p : ℕ) (before after : Option ShownCell) → CellCarried depth own p before after → CellCarried depth (picks ++ own) p before after
  cell depth p before None how = tt
  cell depth p before (Some c) how = ⊎_elim
      (λ t. let r : CellCarried depth (picks ++ own) p before (Some c) = inl (t.0, put_same _ ∙ t.1, put_same _ ∙ t.2) in r)
      (λ t. let r : CellCarried depth (picks ++ own) p before (Some c) = inr (put_same _ ∙ t.0, put_same _ ∙ t.1, t.2) in r)
      how

-- it carries the step that is carried without these reads
pub picks_carry : (setting : Setting) (before after : Table) (command : Command) (reply : Reply) (picks own : List Item) → OnlyPicks picks → IsTrueLog (picks ++ own)
    → CarriesStep setting before after command reply own → CarriesStep setting before after command reply (picks ++ own)
picks_carry setting before after command reply picks own only is how = record {
  scene = λ p within. scene picks own only is setting before after p (source_of setting.size before after command reply p) (is_bared setting.size after reply p) (how.scene p within);
  cells = λ p within. cell picks own only is setting.depth p (shown_cell setting.size before.cursor p) (shown_cell setting.size after.cursor p) (how.cells p within);
}
