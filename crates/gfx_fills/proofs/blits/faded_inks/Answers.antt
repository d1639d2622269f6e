use Rattle.std.proofs.Common.{◌≡◌, ◌+◌, ◌<◌, ℕ, length, get_or, slice_index, sym, subst, arith}
use Rattle.std.proofs.Math.ListN.{set}
use Rattle.std.proofs.lemmas.List.FromFn.{fill_by_all}
use Rattle.std.proofs.lemmas.List.Edits.{fill_by_more}
use Rattle.qws_base.specs.declared.inks.Ink.{Ink}
use Rattle.qws_base.specs.declared.inks.Ink.TheVariants.{Skip}
use Rattle.gfx_fills.specs.Images.{faded_ink}
use Rattle.gfx_fills.proofs.blits.faded_inks.Goals as goal

pub loop-j-preserved : goal.loop-j-preserved
loop-j-preserved c =
    let f : ℕ → Ink = λ k. faded_ink c.args.alpha (slice_index c.args.pixels.now (c.args.first + k)) in
    subst (λ ink. (k : ℕ) → k < c.loop-j.j + 1 → get_or (set c.loop-j.out c.loop-j.j ink) k Skip ≡ f k) (sym c.faded_ink.ensures) (fill_by_more f c.loop-j.out c.loop-j.j Skip (omega arith) c.loop-j.invariant)

pub returns : goal.returns
returns c = fill_by_all (λ k. faded_ink c.args.alpha (slice_index c.args.pixels.now (c.args.first + k))) c.loop-j.out (length c.args.out.now) Skip (omega arith) (λ k h. c.loop-j.invariant k (omega arith))
