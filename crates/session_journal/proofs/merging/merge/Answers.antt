use Rattle.std.proofs.Common.{◌≡◌, ◌+◌, ◌++◌, ◌≤◌, ℕ, List, [], ◌∷◌, zero, suc, length, map, take, drop, replicate, refl, sym, ap, ◌∙◌, append_assoc, append-nil, arith, rules}
use Rattle.std.specs.List.{flat_map, range_with_len}
use Rattle.std.proofs.lemmas.List.{length-map, take-append-le, take_all}
use Rattle.qws_base.specs.Books.{BookView}
use Rattle.qws_base.specs.Merges.{merged_at, numbered, stamped}
use Rattle.session_journal.specs.declared.histories.Entry.{Entry}
use Rattle.session_journal.specs.Merging.{step_of, paints_of, entries_below}
use Rattle.session_journal.proofs.MergeLemmas.{none_below_zero}
use Rattle.session_journal.proofs.merging.merge.Goals as goal

first_places : (books : List BookView) → replicate (length books) 0 ≡ map (λ book. entries_below 0 book.entries) books
first_places [] = refl
first_places (book ∷ books) = let here = none_below_zero book.entries in let rest = first_places books in cc

written : (len : ℕ) (new old : List ℕ) → length new ≡ len → take len (new ++ drop (length new) old) ≡ new
written len new old same = let fits : len ≤ length new = omega arith in rw take-append-le (take_all len new (omega arith))

one_number : {X : Type 0} (f : ℕ → List X) (a n : ℕ) → flat_map f (range_with_len a n) ++ f (a + n) ≡ flat_map f (range_with_len a (n + 1))
one_number f a zero = let same : a + 0 ≡ a = omega arith in ap f same ∙ sym (append-nil (f a))
one_number f a (suc n) =
    let next : a + suc n ≡ (a + 1) + n = omega arith in
    append_assoc (f a) (flat_map f (range_with_len (a + 1) n)) (f (a + suc n))
    ∙ ap (λ (k : ℕ). f a ++ (flat_map f (range_with_len (a + 1) n) ++ f k)) next
    ∙ ap (λ (l : List _). f a ++ l) (one_number f (a + 1) n)
    ∙ ap (λ (k : ℕ). flat_map f (range_with_len a k)) (let whole : suc (n + 1) ≡ suc n + 1 = omega arith in whole)

from_zero : {X : Type 0} (f : ℕ → List X) (n : ℕ) → flat_map f (range_with_len 0 n) ++ f n ≡ flat_map f (range_with_len 0 (n + 1))
from_zero f n = let same : n ≡ 0 + n = omega arith in ap (λ (k : ℕ). flat_map f (range_with_len 0 n) ++ f k) same ∙ one_number f 0 n

all_zero : (c : goal.In_ok-places) → c.in_ok-places.places.items ≡ replicate (length c.args.books.now) 0
all_zero c = search rules

pub loop-number-init : goal.loop-number-init
loop-number-init c = record {
  places = all_zero c ∙ first_places c.args.books.now;
  entries = c.new-entries.ensures.items;
}

pub push_stamp-requires-clause-rising : goal.push_stamp-requires-clause-rising
push_stamp-requires-clause-rising c = λ k d below. (c.requires k d below).rising

pub loop-number-preserved : goal.loop-number-preserved
loop-number-preserved c =
    let journal = map step_of c.args.journal.now in
    let books = map paints_of c.args.books.now in
    let number = c.loop-number.number in
    record {
      places = written c.loop-number.places.len c.push_stamp.new.places c.loop-number.places.items (let whole = c.loop-number.places.ok.0 in let same = c.push_stamp.auto.places in omega (arith, ap length c.deref_mut.ensures.value)) ∙ c.in_ok-push_stamp.ensures.places;
      entries = c.in_ok-push_stamp.ensures.paints
          ∙ ap (λ (l : List Entry). l ++ flat_map (stamped number) books) c.in_ok-push_step.ensures
          ∙ append_assoc c.loop-number.entries.items (numbered journal number) (flat_map (stamped number) books)
          ∙ ap (λ (l : List Entry). l ++ merged_at journal books number) c.loop-number.invariant.entries
          ∙ from_zero (merged_at journal books) number;
    }

pub returns : goal.returns
returns c =
    let books = map paints_of c.args.books.now in
    let long = length-map c.args.journal.now step_of in
    let end : c.loop-number.number ≡ suc (length (map step_of c.args.journal.now)) = omega arith in
    c.of.ensures ∙ c.loop-number.invariant.entries ∙ ap (λ (n : ℕ). flat_map (merged_at (map step_of c.args.journal.now) books) (range_with_len 0 n)) end
