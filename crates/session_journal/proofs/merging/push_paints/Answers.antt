use Rattle.std.proofs.Common.{◌≡◌, ◌+◌, ◌-◌, ◌++◌, ◌<◌, ◌≤◌, ◌∷◌, [], ℕ, List, get_or, map, take, drop, refl, sym, ap, ◌∙◌, append-nil, append_assoc, nat_lt, Bool, true, false, arith}
use Rattle.std.specs.List.Sorted.{IsNonDecreasingBy}
use Rattle.std.proofs.lemmas.Bool.Decides.{nat_tests}
use Rattle.qws_base.specs.Merges.{stamped}
use Rattle.qws_base.specs.declared.journals.BookEntry.{BookEntry}
use Rattle.qws_base.specs.declared.replies.PaintReply.TheVariants.{Painted}
use Rattle.session_journal.specs.declared.histories.Entry.{Entry}
use Rattle.session_journal.specs.Merging.{paint_of, entries_below}
use Rattle.session_journal.proofs.MergeLemmas.{below_within, below_rises, place_below, place_not_below, stamped_run, run_more}
use Rattle.session_journal.proofs.merging.push_paints.Goals as goal

-- all entries of the run are there
run_done : (old now : List Entry) (client s from at : ℕ) (book : List BookEntry) → IsNonDecreasingBy (λ e. e.stamp) book → from ≡ entries_below s book → at ≡ entries_below (s + 1) book
    → now ≡ old ++ map (λ e. (paint_of client e).entry) (take (at - from) (drop from book)) → now ≡ old ++ stamped s (map (paint_of client) book)
run_done old now client s from at book rises start end entries =
    entries
    ∙ ap (λ (n : ℕ). old ++ map (λ e. (paint_of client e).entry) (take (n - from) (drop from book))) end
    ∙ ap (λ (n : ℕ). old ++ map (λ e. (paint_of client e).entry) (take (entries_below (s + 1) book - n) (drop n book))) start
    ∙ ap (λ (run : List Entry). old ++ run) (sym (stamped_run client s book rises))

pub loop-at-init : goal.loop-at-init
loop-at-init c =
    let none : c.args.from - c.args.from ≡ 0 = omega arith in
    record {
      from = omega arith;
      to = omega (arith, c.requires.from, below_rises c.args.stamp c.args.book.now);
      entries = sym (ap (λ (n : ℕ). c.args.entries.now.items ++ map (λ e. (paint_of c.args.client e).entry) (take n (drop c.args.from c.args.book.now))) none ∙ append-nil c.args.entries.now.items);
    }

not_low : {a b : ℕ} → (a < b → ⊥) → b ≤ a
not_low {a} {b} h = by_test (nat_lt a b) refl
  where
    by_test : (t : Bool) → nat_lt a b ≡ t → b ≤ a
    by_test true is = absurd (h (grind (arith, nat_tests)))
    by_test false is = grind (arith, nat_tests)

pub loop-at-preserved : goal.loop-at-preserved
loop-at-preserved c =
    let book = c.args.book.now in
    let at = c.loop-at.at in
    let d : BookEntry = record { stamp = 0; slot = 0; tag = 0; reply = Painted 0 } in
    let is = c.if-book-at.true in
    let from = c.loop-at.invariant.from in
    record {
      from = omega arith;
      to = omega (arith, place_below (c.args.stamp + 1) book at d c.requires.rising c.loop-at-test.true (omega arith));
      entries = c.in_ok-push.ensures.items
          ∙ ap (λ (l : List Entry). l ++ (paint_of c.args.client (get_or book at d)).entry ∷ []) c.loop-at.invariant.entries
          ∙ append_assoc c.args.entries.now.items _ _
          ∙ ap (λ (run : List Entry). c.args.entries.now.items ++ run) (sym (run_more (λ e. (paint_of c.args.client e).entry) book c.args.from at d from c.loop-at-test.true));
    }

pub returns-else-book-at-clause-past : goal.returns-else-book-at-clause-past
returns-else-book-at-clause-past c =
    let book = c.args.book.now in
    let at = c.loop-at.at in
    let d : BookEntry = record { stamp = 0; slot = 0; tag = 0; reply = Painted 0 } in
    let other = c.if-book-at.false in
    let to = c.loop-at.invariant.to in
    let from = c.loop-at.invariant.from in
    let start = c.requires.from in
    let high : c.args.stamp ≤ (get_or book at d).stamp = not_low (λ low. omega (arith, place_below c.args.stamp book at d c.requires.rising c.loop-at-test.true low)) in
    omega (arith, place_not_below (c.args.stamp + 1) book at d c.requires.rising c.loop-at-test.true (omega arith))

pub returns-else-book-at-clause-paints : goal.returns-else-book-at-clause-paints
returns-else-book-at-clause-paints c =
    run_done _ _ c.args.client c.args.stamp c.args.from c.loop-at.at c.args.book.now c.requires.rising c.requires.from (returns-else-book-at-clause-past c) c.loop-at.invariant.entries

pub returns-after-loop-at-clause-past : goal.returns-after-loop-at-clause-past
returns-after-loop-at-clause-past c =
    let to = c.loop-at.invariant.to in
    omega (arith, below_within (c.args.stamp + 1) c.args.book.now)

pub returns-after-loop-at-clause-paints : goal.returns-after-loop-at-clause-paints
returns-after-loop-at-clause-paints c =
    run_done _ _ c.args.client c.args.stamp c.args.from c.loop-at.at c.args.book.now c.requires.rising c.requires.from (returns-after-loop-at-clause-past c) c.loop-at.invariant.entries
