use Rattle.std.proofs.Common.{◌≡◌, ℕ, ◌+◌, ◌-◌, ◌<◌, ◌≤◌, subst, ap, arith, List, length}
use Rattle.std.specs.Prelude.{slice_index_or, All}
use Rattle.std.proofs.lemmas.List.{take_all, get_or_default}
use Rattle.std.proofs.lemmas.List.Elements.{All-more}
use Rattle.std.proofs.lemmas.List.Sorted.{all_adjacent_more, IsNonDecreasingBy-from_all_adjacent}
use Rattle.std.specs.List.{AllAdjacentBelow}
use Rattle.qws_base.specs.declared.journals.BookEntry.{BookEntry}
use Rattle.qws_base.specs.declared.replies.PaintReply.TheVariants.{Painted}
use Rattle.qws_rows_shared.proofs.replays.are_stamps.Goals as goal
use Rattle.qws_rows_shared.proofs.replays.are_stamps.Goals.{then-k-gt0+else-stamp-entries, else-k-gt0}

abbrev no_entry : BookEntry
no_entry = record { stamp = 0; slot = 0; tag = 0; reply = Painted 0 }

-- at any default
next : (xs : List BookEntry) (k : ℕ) → 0 < k → k < length xs → (slice_index_or xs (k - 1) no_entry).stamp ≤ (slice_index_or xs k no_entry).stamp → (d : BookEntry) → (slice_index_or xs (k - 1) d).stamp ≤ (slice_index_or xs k d).stamp
next xs k some low le d =
    let before = ap (λ (e : BookEntry). e.stamp) (get_or_default xs (k - 1) d no_entry (omega arith)) in
    let here = ap (λ (e : BookEntry). e.stamp) (get_or_default xs k d no_entry low) in omega arith

pub loop-k-preserved : goal.loop-k-preserved
loop-k-preserved c =
    let xs : List BookEntry = c.args.entries.now in record {
      within = All-more (λ e. e.stamp ≤ c.args.last) xs c.loop-k.k no_entry c.loop-k-test.true c.loop-k.invariant.within c.if-stamp-last.false;
      rising = elim c.if-k-gt0.branch [
        | then-k-gt0+else-stamp-entries w ↦ all_adjacent_more xs (λ x y. x.stamp ≤ y.stamp) c.loop-k.k w.if-k-gt0.true c.loop-k.invariant.rising (next xs c.loop-k.k w.if-k-gt0.true c.loop-k-test.true w.if-stamp-entries.false)
        | else-k-gt0 w ↦ λ j d low. let none = w.if-k-gt0.false in absurd (omega arith)
      ];
    }

pub returns : goal.returns
returns c _ =
    let xs : List BookEntry = c.args.entries.now in
    let last : ℕ = c.args.last in
    let end : c.loop-k.k ≡ length xs = omega arith in record {
      rising = IsNonDecreasingBy-from_all_adjacent (λ e. e.stamp) xs (subst (AllAdjacentBelow (λ (x y : BookEntry). x.stamp ≤ y.stamp) xs) end c.loop-k.invariant.rising);
      within = subst (All (λ (e : BookEntry). e.stamp ≤ last)) (take_all c.loop-k.k xs (omega arith)) c.loop-k.invariant.within;
    }
