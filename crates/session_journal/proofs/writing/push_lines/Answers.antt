use Rattle.std.proofs.Common.{◌≡◌, ◌+◌, ◌++◌, ◌∷◌, [], ℕ, List, map, take, unwrap_or, nat_eq, Option, subst, ap, sym, ◌∙◌, length-take, arith}
use Rattle.std.specs.Prelude.{All}
use Rattle.std.specs.HashMap.{get}
use Rattle.std.specs.List.{flat_map}
use Rattle.std.proofs.lemmas.List.{map_more, length-map}
use Rattle.session_journal.specs.declared.histories.Entry.{Entry}
use Rattle.session_journal.specs.Texts.{Told, told, entries_of, comment, comments, line_text}
use Rattle.session_journal.specs.Grammar.{IsComment}
use Rattle.session_journal.proofs.LineLemmas.{entries_of-within, counted_more, lines_more, all_more}
use Rattle.session_journal.proofs.writing.push_lines.Goals as goal

pub overflow_add-number : goal.overflow_add-number
overflow_add-number c =
    let some = take c.loop-entry.entry-index c.args.entries.now in
    let client = c.client_of-client.result in
    let number : c.unwrap_or-number.result ≡ entries_of client (map told some) =
    c.unwrap_or-number.ensures ∙ ap (λ (o : Option ℕ). unwrap_or o 0) (c.copied.ensures ∙ c.get.ensures.value) ∙ c.loop-entry.invariant.counts client in
    omega (arith, entries_of-within client (map told some), length-map some told, length-take c.loop-entry.entry-index c.args.entries.now)

pub loop-entry-preserved : goal.loop-entry-preserved
loop-entry-preserved c =
    let at = c.loop-entry.entry-index in
    let entries = c.args.entries.now in
    let entry : Entry = c.entry-item.result in
    let some : List Told = map told (take at entries) in
    let client = c.client_of-client.result in
    let number : c.unwrap_or-number.result ≡ entries_of client some =
    c.unwrap_or-number.ensures ∙ ap (λ (o : Option ℕ). unwrap_or o 0) (c.copied.ensures ∙ c.get.ensures.value) ∙ c.loop-entry.invariant.counts client in
    let more : map told (take (at + 1) entries) ≡ some ++ told entry ∷ [] = map_more told entries at entry c.loop-entry-test.true ∙ ap (λ (e : Entry). some ++ told e ∷ []) (sym c.entry-item.is) in
    record {
      counts = λ q. counted_more (get nat_eq c.loop-entry.counts) (get nat_eq c.insert.new.self) client c.unwrap_or-number.result some (told entry) c.client_of-client.ensures number c.loop-entry.invariant.counts c.in_ok-insert.ensures.updates.0 q
          ∙ ap (entries_of q) (sym more);
      lines = λ few.
          let line : IsComment (comment (told entry).client c.unwrap_or-number.result (told entry).words) = c.in_ok-push_line.ensures.line (omega (arith, number, entries_of-within client some, length-map (take at entries) told, length-take at entries)) in
          subst (λ (l : List Told). All IsComment (comments l)) (sym more)
          (all_more some (told entry) client c.unwrap_or-number.result c.client_of-client.ensures number (c.loop-entry.invariant.lines few) line);
      out = lines_more c.args.out.now.items c.push_line.new.out.items some (told entry) client c.unwrap_or-number.result c.client_of-client.ensures number
          (c.in_ok-push_line.ensures.text ∙ ap (λ (l : List ℕ). l ++ line_text (comment (told entry).client c.unwrap_or-number.result (told entry).words)) c.loop-entry.invariant.out)
          ∙ ap (λ (l : List Told). c.args.out.now.items ++ flat_map line_text (comments l)) (sym more);
    }
