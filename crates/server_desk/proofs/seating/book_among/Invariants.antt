use Rattle.std.proofs.Common.{◌≡◌, map, drop}
use Rattle.fb_words.specs.Views.{PassView, client_of}
use Rattle.server_desk.proofs.seating.book_among.Given as goal

abbrev pub invariant-loop-pass : goal.invariant-loop-pass
invariant-loop-pass l = client_of l.client (map (λ (p : PassView). p.client) l.passes) ≡ client_of l.client (map (λ (p : PassView). p.client) (drop l.pass-index l.passes))
