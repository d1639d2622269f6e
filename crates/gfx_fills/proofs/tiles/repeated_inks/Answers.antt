use Rattle.std.proofs.Common.{◌≡◌, ◌+◌, ◌%◌, ◌<◌, ℕ, length, get_or, slice_index, sym, subst, ap, ◌∙◌, arith}
use Rattle.std.proofs.Math.ListN.{set}
use Rattle.std.proofs.lemmas.List.FromFn.{fill_by_all}
use Rattle.std.proofs.lemmas.List.Edits.{fill_by_more}
use Rattle.qws_base.specs.declared.inks.Ink.{Ink}
use Rattle.qws_base.specs.declared.inks.Ink.TheVariants.{Skip}
use Rattle.gfx_fills.specs.Images.{pixel_ink}
use Rattle.gfx_fills.proofs.TileLemmas.{next_column, first_column}
use Rattle.gfx_fills.proofs.tiles.repeated_inks.Goals as goal
use Rattle.gfx_fills.proofs.tiles.repeated_inks.Goals.{then-column-pixels, else-column-pixels}

pub loop-j-preserved : goal.loop-j-preserved
loop-j-preserved c =
    let n : ℕ = length c.args.pixels.now in
    let f : ℕ → Ink = λ k. pixel_ink (slice_index c.args.pixels.now ((c.args.first + k) % length c.args.pixels.now)) in
    let is : c.pixel_ink.result ≡ f c.loop-j.j = c.pixel_ink.ensures ∙ ap (λ i. pixel_ink (slice_index c.args.pixels.now i)) c.loop-j.invariant.column in
    let done : (k : ℕ) → k < c.loop-j.j + 1 → get_or (set c.loop-j.out c.loop-j.j c.pixel_ink.result) k Skip ≡ f k =
    subst (λ ink. (k : ℕ) → k < c.loop-j.j + 1 → get_or (set c.loop-j.out c.loop-j.j ink) k Skip ≡ f k) (sym is) (fill_by_more f c.loop-j.out c.loop-j.j Skip (omega arith) c.loop-j.invariant.done) in
    let sum : (c.args.first + c.loop-j.j) + 1 ≡ c.args.first + (c.loop-j.j + 1) = omega arith in
    elim c.if-column-pixels.branch [
      | then-column-pixels w ↦ record {
        column = w.column-is ∙ sym (first_column (c.args.first + c.loop-j.j) n c.loop-j.column c.loop-j.invariant.column (omega arith)) ∙ ap (λ m. m % n) sum;
        below = omega arith;
        done = done;
      }
      | else-column-pixels w ↦ record {
        column = w.column-is ∙ sym (next_column (c.args.first + c.loop-j.j) n c.loop-j.column c.loop-j.invariant.column (omega arith)) ∙ ap (λ m. m % n) sum;
        below = omega arith;
        done = done;
      }
    ]

pub returns : goal.returns
returns c =
    fill_by_all (λ k. pixel_ink (slice_index c.args.pixels.now ((c.args.first + k) % length c.args.pixels.now))) c.loop-j.out (length c.args.out.now) Skip (omega arith) (λ k h. c.loop-j.invariant.done k (omega arith))
