use Rattle.std.proofs.Common.{◌≡◌, ◌+◌, ◌-◌, ◌*◌, ℕ, List, take, drop, get_or, true, false, sym, ◌∙◌, below_more}
use Rattle.std.specs.Str.{bytes_eq}
use Rattle.std.proofs.lemmas.Slice.Eq.{bytes_eq-Decides}
use Rattle.std.proofs.lemmas.Bool.Decides.{not_from_Decides}
use Rattle.session_journal.specs.Texts.{colour_bytes}
use Rattle.session_replay.proofs.Pixels.{three_bytes}
use Rattle.session_replay.proofs.checks.first_other.Goals as goal

pub returns-then-not-is_colour : goal.returns-then-not-is_colour
returns-then-not-is_colour c =
    let shown : List ℕ = c.args.shown.now in
    let raster : List ℕ = c.args.raster.now in
    let p : ℕ = c.loop-p.p in
    let bytes : List ℕ = take ((3 * p + 3) - 3 * p) (drop (3 * p) raster) in
    let other : bytes_eq bytes (colour_bytes (get_or shown p 0)) ≡ false = sym c.is_colour.ensures ∙ c.if-not-is_colour.true in
    record {
      within = c.loop-p-test.true;
      before = c.loop-p.invariant;
      other = λ is. not_from_Decides _ (bytes_eq-Decides bytes (colour_bytes (get_or shown p 0))) other (three_bytes raster p ∙ is);
    }

pub loop-p-preserved : goal.loop-p-preserved
loop-p-preserved c =
    let shown : List ℕ = c.args.shown.now in
    let raster : List ℕ = c.args.raster.now in
    let p : ℕ = c.loop-p.p in
    let bytes : List ℕ = take ((3 * p + 3) - 3 * p) (drop (3 * p) raster) in
    let same : bytes_eq bytes (colour_bytes (get_or shown p 0)) ≡ true = sym c.is_colour.ensures ∙ c.if-not-is_colour.false in
    below_more _ _ c.loop-p.invariant (sym (three_bytes raster p) ∙ (bytes_eq-Decides bytes (colour_bytes (get_or shown p 0))).0 same)
