use Rattle.std.proofs.Common.{◌≡◌, ◌≤◌}
use Rattle.fb_words.specs.declared.known.Mode.TheVariants.{Idle}
use Rattle.clip_refetch.specs.Clips.{IsKnown}
use Rattle.qws_rows_cursor.proofs.thread_rows.paint_often.Given as goal

abbrev pub invariant-loop : goal.invariant-loop
invariant-loop g l = record { few : l.tag ≤ 40000; screen : l.pass.screen ≡ l.screen; idle : l.pass.client.mode ≡ Idle; known : IsKnown l.pass.client l.clip }
