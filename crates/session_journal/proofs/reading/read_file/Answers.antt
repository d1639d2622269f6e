use Rattle.std.proofs.Common.{◌≡◌, ◌↔◌, ◌+◌, ◌++◌, ◌∷◌, [], ℕ, List, length, take, get_or, None, Some, Option, sym, ap, subst, ◌∙◌, append_assoc, arith}
use Rattle.std.proofs.lemmas.List.{take_more}
use Rattle.session_journal.specs.declared.places.Stage.{Stage}
use Rattle.session_journal.specs.declared.places.Stage.TheVariants.{Magic}
use Rattle.session_journal.specs.Grammar.{IsFile, LeavesAt}
use Rattle.session_journal.specs.Places.{Follows, IsPlace, place_after, lines_after, line_after}
use Rattle.session_journal.proofs.StepLemmas.{GoesOn, goes_on, both_ways}
use Rattle.session_journal.proofs.LeaveLemmas.{file_start, leaves}
use Rattle.session_journal.proofs.reading.read_file.Goals as goal

pub loop-at-init : goal.loop-at-init
loop-at-init c = record {
  ok = (omega arith, c.new-line.ensures.items);
  leads = λ tail file. subst (λ (l : List (List ℕ)). IsFile tail file ↔ Follows (Magic 0) l [] tail file) (sym c.new-lines.ensures.items) (file_start tail file);
}

pub with_raster-requires-clause-leads : goal.with_raster-requires-clause-leads
with_raster-requires-clause-leads c =
    λ tail file. subst (λ (p : Stage). IsFile (take c.loop-at.at c.args.bytes.now ++ tail) file ↔ Follows p c.loop-at.lines.items c.loop-at.line.items tail file) c.in-Raster.is (c.loop-at.invariant.leads tail file)

pub returns-in_default-place_after : goal.returns-in_default-place_after
returns-in_default-place_after c =
    let bytes = c.args.bytes.now in
    let at = c.loop-at.at in
    let place = c.loop-at.place in
    let lines = c.loop-at.lines.items in
    let line = c.loop-at.line.items in
    let byte = get_or bytes at 0 in
    let len : length line ≡ c.len.result = sym c.loop-at.line.ok.0 ∙ sym c.len.ensures in
    let none : place_after place (length line) byte ≡ None = ap (λ (n : ℕ). place_after place n byte) len ∙ sym c.place_after.ensures ∙ c.in_default-place_after.is in
    let goes : GoesOn place byte lines line None = subst (λ (o : Option Stage). GoesOn place byte lines line o) none (goes_on place byte lines line c.loop-at.invariant.ok c.in_default.not-Raster) in
    record { ok = tt; one = tt; stop = leaves bytes at place lines line (let below = c.loop-at-test.true in omega arith) c.loop-at.invariant.ok c.loop-at.invariant.leads (λ below. goes) }

pub loop-at-preserved : goal.loop-at-preserved
loop-at-preserved c =
    let bytes = c.args.bytes.now in
    let at = c.loop-at.at in
    let place = c.loop-at.place in
    let next = c.in-Some.next in
    let lines = c.loop-at.lines.items in
    let line = c.loop-at.line.items in
    let byte = get_or bytes at 0 in
    let len : length line ≡ c.len.result = sym c.loop-at.line.ok.0 ∙ sym c.len.ensures in
    let some : place_after place (length line) byte ≡ Some next = ap (λ (n : ℕ). place_after place n byte) len ∙ sym c.place_after.ensures ∙ c.in-Some.is in
    let goes : GoesOn place byte lines line (Some next) = subst (λ (o : Option Stage). GoesOn place byte lines line o) some (goes_on place byte lines line c.loop-at.invariant.ok c.in_default.not-Raster) in
    let kept_lines : c.keep.new.lines.items ≡ lines_after place byte lines line = c.in_ok-keep.ensures.lines in
    let kept_line : c.keep.new.line.items ≡ line_after place byte line = c.in_ok-keep.ensures.line in
    record {
      ok = subst (λ (l : List ℕ). IsPlace next l) (sym kept_line) goes.0;
      leads = λ tail file.
          let text : take at bytes ++ byte ∷ tail ≡ take (at + 1) bytes ++ tail = sym (ap (λ (l : List ℕ). l ++ tail) (take_more bytes at 0 c.loop-at-test.true) ∙ append_assoc (take at bytes) (byte ∷ []) tail) in
          let here : IsFile (take at bytes ++ byte ∷ tail) file ↔ Follows next (lines_after place byte lines line) (line_after place byte line) tail file = both_ways (c.loop-at.invariant.leads (byte ∷ tail) file) (goes.1 tail file) in
          subst (λ (l : List ℕ). IsFile l file ↔ Follows next c.keep.new.lines.items c.keep.new.line.items tail file) text
          (subst (λ (ls : List (List ℕ)). IsFile (take at bytes ++ byte ∷ tail) file ↔ Follows next ls c.keep.new.line.items tail file) (sym kept_lines)
          (subst (λ (l : List ℕ). IsFile (take at bytes ++ byte ∷ tail) file ↔ Follows next (lines_after place byte lines line) l tail file) (sym kept_line) here));
    }

pub returns-clause-stop : goal.returns-clause-stop
returns-clause-stop c =
    let bytes = c.args.bytes.now in
    let at = c.loop-at.at in
    let ended = c.loop-at-test.false in
    let within = c.loop-at.auto.at-end in
    let end : at ≡ length bytes = omega arith in
    subst (λ (n : ℕ). LeavesAt bytes n) end (leaves bytes at c.loop-at.place c.loop-at.lines.items c.loop-at.line.items (omega arith) c.loop-at.invariant.ok c.loop-at.invariant.leads (λ below. absurd (omega arith)))
