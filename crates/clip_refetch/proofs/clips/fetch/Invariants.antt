use Rattle.std.proofs.Common.{◌≡◌, ◌+◌, ◌<◌, ◌≤◌, vec_capacity, vec_len}
use Rattle.fb_words.specs.Clips.{looked_in, Sees}
use Rattle.fb_words.specs.Looks.{OnlyLooks}
use Rattle.display_lock.specs.Turns.{IsOpen, SameTurn, client_in}
use Rattle.clip_refetch.specs.Clips.{AreFetched}
use Rattle.clip_refetch.proofs.clips.fetch.Given as goal

abbrev pub invariant-loop-place : goal.invariant-loop-place
invariant-loop-place l = record {
  same : SameTurn l.fn.turn l.turn;
  is_open : IsOpen l.turn;
  looks : OnlyLooks l.first (l.first + l.count) (client_in l.fn.turn) (client_in l.turn);
  sees : Sees (client_in l.turn);
  fetched : AreFetched (looked_in (client_in l.turn).mode) l.first l.place l.rects.items;
  len : vec_len l.rects ≡ l.place;
  capacity : vec_capacity l.fn.rects ≤ vec_capacity l.rects;
}
