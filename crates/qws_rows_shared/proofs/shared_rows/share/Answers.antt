use Rattle.std.proofs.Common.{◌∙◌}
use Rattle.qws_rows_shared.proofs.Three.{ArePopped, first_is, second_is, third_is}
use Rattle.qws_rows_shared.proofs.shared_rows.share.Goals as goal

popped : (c : goal.After-drop-callers-2) → ArePopped c.in-Ok.shared c.in-Ok.callers.items c.in-Some-pop-2.first c.in-Some-pop.second c.in-Some.third c.args.first c.args.second c.args.third
popped c = record {
  front = c.pop.new.self.items;
  middle = c.pop-2.new.self.items;
  rest = c.pop-3.new.self.items;
  all = c.in-Ok.ensures.callers;
  passes = c.in-Ok.ensures.passes ∙ c.in_ok-passes.ensures.items;
  last = c.in-Some.ensures.items;
  next = c.in-Some-pop.ensures.items;
  first = c.in-Some-pop-2.ensures.items;
}

pub returns-clause-first : goal.returns-clause-first
returns-clause-first c = first_is _ _ _ _ _ _ _ _ (popped c) c.args.screen.now c.requires.first

pub returns-clause-second : goal.returns-clause-second
returns-clause-second c = second_is _ _ _ _ _ _ _ _ (popped c) c.args.screen.now c.requires.second

pub returns-clause-third : goal.returns-clause-third
returns-clause-third c = third_is _ _ _ _ _ _ _ _ (popped c) c.args.screen.now c.requires.third
