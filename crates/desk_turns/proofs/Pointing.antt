-- Tables with another cursor.
use Rattle.std.proofs.Common.{◌≡◌, ℕ, ◌≤◌, ⊎_elim, Bool, List, sym, refl, ap, ◌∙◌, subst, arith}
use Rattle.std.specs.Prelude.{slice_index}
use Rattle.qws_base.specs.declared.windows.Cursor.{Cursor}
use Rattle.region_table.specs.Tables.{IsCursor, place_word}
use Rattle.region_table.specs.Spelling.{Spell}
use Rattle.region_table.specs.declared.tables.Table.{Table}
use Rattle.table_turns.specs.Writes.{Sets, SetsShape, WrittenLaw}
use Rattle.desk_turns.specs.Cursors.{SamePlace, SameShape, Respells, at_place_of}

pub few_rows : (cursor : Cursor) → IsCursor cursor → cursor.h ≤ 32
few_rows cursor ok = ⊎_elim
    (λ (some : (1 ≤ cursor.w) × (cursor.w ≤ 32) × (1 ≤ cursor.h) × (cursor.h ≤ 32)). some.3)
    (λ (none : (cursor.w ≡ 0) × (cursor.h ≡ 0)). omega (arith, none.1))
    ok.shape.sides

-- a table whose cursor is that one is itself with it
same_table : (table : Table) (old new : Cursor) (words : List ℕ) → table.cursor ≡ old → old ≡ new → Spell (slice_index words) table → Spell (slice_index words) (record table { cursor = new })
same_table table old new words is e spell = subst (λ (c : Cursor). Spell (slice_index words) (record table { cursor = c })) (is ∙ e) spell

made : ℕ → ℕ → ℕ → ℕ → List ℕ → Bool → Cursor
made x y w h cells shown = record { x = x; y = y; w = w; h = h; cells = cells; shown = shown }

place_same : (a b : Cursor) → SamePlace a b → a ≡ at_place_of a b
unfolding made
place_same a b is = ap (λ n. made n a.y a.w a.h a.cells a.shown) is.x ∙ ap (λ n. made b.x n a.w a.h a.cells a.shown) is.y ∙ ap (λ s. made b.x b.y a.w a.h a.cells s) is.shown

shape_same : (a b : Cursor) → SameShape a b → at_place_of a b ≡ b
unfolding made
shape_same a b is = ap (λ n. made b.x b.y n a.h a.cells b.shown) is.w ∙ ap (λ n. made b.x b.y b.w n a.cells b.shown) is.h ∙ ap (λ l. made b.x b.y b.w b.h l b.shown) is.cells

pub kept_place : (a b : Cursor) (words : List ℕ) → SamePlace a b → Respells a (at_place_of a b) words words
kept_place a b words is = record { long = refl; spells = λ table old spell. same_table table a (at_place_of a b) words old (place_same a b is) spell }

pub kept_shape : (a b : Cursor) (words : List ℕ) → SameShape a b → Respells (at_place_of a b) b words words
kept_shape a b words is = record { long = refl; spells = λ table old spell. same_table table (at_place_of a b) b words old (shape_same a b is) spell }

pub new_place : WrittenLaw → (a b : Cursor) (t u : List ℕ) → Sets 2 1 (λ k. place_word b) t u → Respells a (at_place_of a b) t u
new_place law a b t u sets = record {
  long = sets.long;
  spells = λ table old spell. law.place table (at_place_of a b) t u (sym (ap (λ (c : Cursor). c.w) old)) (sym (ap (λ (c : Cursor). c.h) old)) (sym (ap (λ (c : Cursor). c.cells) old)) spell sets;
}

pub new_shape : WrittenLaw → (a b : Cursor) (t u : List ℕ) → SetsShape b a.h t u → Respells (at_place_of a b) b t u
new_shape law a b t u sets = record {
  long = sets.cells.long ∙ sets.sides.long;
  spells = λ table old spell. law.shape table b t u (sym (ap place_word old)) spell (subst (λ n. SetsShape b n t u) (sym (ap (λ (c : Cursor). c.h) old)) sets);
}

pub both_parts : (a b d : Cursor) (t u w : List ℕ) → Respells a b t u → Respells b d u w → Respells a d t w
both_parts a b d t u w first second = record {
  long = second.long ∙ first.long;
  spells = λ table old spell. second.spells (record table { cursor = b }) refl (first.spells table old spell);
}
