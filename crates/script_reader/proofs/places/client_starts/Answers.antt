use Rattle.std.proofs.Common.{List, ℕ, map, [], ◌∷◌, ◌++◌, ap, sym, ◌∙◌, arith}
use Rattle.std.specs.List.{range_with_len}
use Rattle.std.proofs.lemmas.List.FromFn.{map-range_with_len_more}
use Rattle.script_reader.specs.Places.{starts_by}
use Rattle.script_reader.proofs.places.client_starts.Goals as goal

pub loop-client-preserved : goal.loop-client-preserved
loop-client-preserved c =
    let places = c.args.places.now in
    let n = c.loop-client.client in
    c.in_ok-push.ensures.items ∙ ap (λ (all : List (List ℕ)). all ++ c.in_ok-starts_of_client.field-0 ∷ []) c.loop-client.invariant
    ∙ ap (λ (starts : List ℕ). map (starts_by places) (range_with_len 0 n) ++ starts ∷ []) c.in_ok-starts_of_client.ensures
    ∙ sym (map-range_with_len_more (starts_by places) 0 n n (omega arith))
