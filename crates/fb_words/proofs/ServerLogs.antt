-- The log of a server turn is true, and a turn that only reads finds what all closed turns have written.
use Rattle.std.proofs.Common.{◌≡◌, ℕ, ◌==◌, if◌then◌else◌, Bool, true, false, List, [], ◌∷◌, ◌++◌, refl, ◌∙◌}
use Rattle.turn_logs.specs.declared.items.Item.{Item}
use Rattle.turn_logs.specs.declared.items.Item.TheVariants.{Pick, Put}
use Rattle.region_table.specs.Numbers.{is_table_word}
use Rattle.turn_logs.specs.Lines.{on, written, OnlyPicks}
use Rattle.turn_logs.specs.Phases.{IsTrueLog}
use Rattle.turn_logs.proofs.Joining.{one_pick}
use Rattle.fb_words.specs.ServerLogs.{LogLaw, ReadingLaw}
use Rattle.region_table.proofs.Words.{line_word}
use Rattle.turn_logs.proofs.Phases.{open_log, put_more, pick_more}

pub log_law : LogLaw
log_law = record {
  opens = open_log;
  reads = λ s ps x n one tells holds. go s.log x n (is_table_word x) holds (λ not. let o = tells.own_log (line_word x one not) in pick_more s.log x n o.0 holds o.1 o.2) refl;
  writes = λ s x n holds. wrote s.log x n (is_table_word x) holds;
}
  where
    go : (items : List Item) (x n : ℕ) (b : Bool) → IsTrueLog items → (is_table_word x ≡ false → IsTrueLog (items ++ Pick x n ∷ [])) → is_table_word x ≡ b → IsTrueLog (if b then items else items ++ Pick x n ∷ [])
    go items x n true holds more is = holds
    go items x n false holds more is = more is

    wrote : (items : List Item) (x n : ℕ) (b : Bool) → IsTrueLog items → IsTrueLog (if b then items else items ++ Put x n ∷ [])
    wrote items x n true holds = holds
    wrote items x n false holds = put_more items x n holds

picks_write : (v x : ℕ) (log : List Item) → OnlyPicks log → written v (on x log) ≡ v
picks_write v x [] only = refl
picks_write v x (Pick w u ∷ log) only = go (w == x) (picks_write v x log only)
  where
    go : (b : Bool) → written v (on x log) ≡ v → written v (if b then Pick w u ∷ on x log else on x log) ≡ v
    go true e = e
    go false e = e
picks_write v x (Put w u ∷ log) only = absurd only

pub reading_law : ReadingLaw
reading_law s ps x n tells only is here = let o = tells.own_log is in
    (o.2 ∙ picks_write o.0 x s.log only ∙ o.3 here, go (is_table_word x))
  where
    go : (b : Bool) → OnlyPicks (if b then s.log else s.log ++ Pick x n ∷ [])
    go true = only
    go false = one_pick s.log x n only
