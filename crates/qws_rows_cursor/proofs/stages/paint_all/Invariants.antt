use Rattle.std.proofs.Common.{◌≡◌}
use Rattle.fb_words.specs.declared.known.Mode.TheVariants.{Idle}
use Rattle.clip_refetch.specs.Clips.{IsKnown}
use Rattle.qws_rows_cursor.proofs.stages.paint_all.Given as goal

abbrev pub invariant-loop-picture : goal.invariant-loop-picture
invariant-loop-picture l = record { screen : l.pass.screen ≡ l.screen; idle : l.pass.client.mode ≡ Idle; known : IsKnown l.pass.client l.clip }
