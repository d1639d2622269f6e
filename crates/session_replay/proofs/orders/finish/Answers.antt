use Rattle.std.proofs.Common.{◌≡◌, ◌∙◌}
use Rattle.session_replay.specs.Runs.{in_order}
use Rattle.session_replay.specs.Files.{shown_after}
use Rattle.session_replay.proofs.Finishing.{replay_shows, finished, is_file}
use Rattle.session_replay.proofs.orders.finish.Goals as goal

pub returns-clause-text : goal.returns-clause-text
returns-clause-text c =
    let shown : c.as_slice.result.now ≡ shown_after c.args.script.now (in_order c.args.script.now) =
    c.as_slice.ensures ∙ c.in_ok-picture.ensures ∙ replay_shows c.args.script.now (in_order c.args.script.now) c.args.run.replay c.requires.replay in
    finished c.args.script.now (in_order c.args.script.now) c.args.run.text.items c.size.result c.as_slice.result.now c.push_picture.new.out.items c.requires.text c.size.ensures shown c.in_ok-push_picture.ensures

pub returns-clause-file : goal.returns-clause-file
returns-clause-file c =
    let shown : c.as_slice.result.now ≡ shown_after c.args.script.now (in_order c.args.script.now) =
    c.as_slice.ensures ∙ c.in_ok-picture.ensures ∙ replay_shows c.args.script.now (in_order c.args.script.now) c.args.run.replay c.requires.replay in
    is_file c.args.script.now c.args.run.text.items c.push_picture.new.out.items c.requires.session c.requires.text
    (finished c.args.script.now (in_order c.args.script.now) c.args.run.text.items c.size.result c.as_slice.result.now c.push_picture.new.out.items c.requires.text c.size.ensures shown c.in_ok-push_picture.ensures)
