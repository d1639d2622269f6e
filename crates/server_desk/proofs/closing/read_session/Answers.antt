use Rattle.std.proofs.Common.{List, map, subst}
use Rattle.fb_words.specs.declared.known.Client.{Client}
use Rattle.fb_words.specs.Views.{PassView, HeadView}
use Rattle.fb_words.specs.Steps.{AllSit, AllIdle}
use Rattle.server_desk.proofs.Wholes.{is_closing_head, sat_here, announced_here, settled_here, whole_so, shows_so, grabs_so}
use Rattle.server_desk.proofs.closing.read_session.Goals as goal

pub picture_of-requires-clause-here : goal.picture_of-requires-clause-here
picture_of-requires-clause-here c =
    let h = c.args.head in
    let ps : List Client = map (λ (p : PassView). p.client) c.args.passes.items in
    let here = sat_here h c.seat_all.new.head ps c.seat_all.ensures.head (c.seat_all.ensures.here c.requires.all) in
    let is = is_closing_head h c.seat_all.new.head c.withdraw.new.head c.announce.new.head ps c.seat_all.ensures.head c.withdraw.ensures c.announce.ensures.head in
    settled_here h c.announce.new.head c.settle.new.head ps is c.in-Ok.ensures.head here

pub unreachable-requires : goal.unreachable-requires
unreachable-requires c =
    let h = c.args.head in
    let ps : List Client = map (λ (p : PassView). p.client) c.args.passes.items in
    let here = sat_here h c.seat_all.new.head ps c.seat_all.ensures.head (c.seat_all.ensures.here c.requires.all) in
    let is = is_closing_head h c.seat_all.new.head c.withdraw.new.head c.announce.new.head ps c.seat_all.ensures.head c.withdraw.ensures c.announce.ensures.head in
    c.in-Err.ensures.free (announced_here h c.announce.new.head ps is here)

pub returns-clause-sits : goal.returns-clause-sits
returns-clause-sits c = subst (λ (x : HeadView). AllSit x.server x.sitting) c.seat_all.ensures.head c.seat_all.ensures.sits

pub returns-clause-here : goal.returns-clause-here
returns-clause-here c =
    sat_here c.args.head c.seat_all.new.head (map (λ (p : PassView). p.client) c.args.passes.items) c.seat_all.ensures.head (c.seat_all.ensures.here c.requires.all)

pub returns-clause-whole : goal.returns-clause-whole
returns-clause-whole c =
    let h = c.args.head in
    let ps : List Client = map (λ (p : PassView). p.client) c.args.passes.items in
    let here = sat_here h c.seat_all.new.head ps c.seat_all.ensures.head (c.seat_all.ensures.here c.requires.all) in
    let is = is_closing_head h c.seat_all.new.head c.withdraw.new.head c.announce.new.head ps c.seat_all.ensures.head c.withdraw.ensures c.announce.ensures.head in
    let idle : AllIdle ps = subst (λ (x : HeadView). AllIdle x.sitting) c.seat_all.ensures.head c.seat_all.ensures.idle in
    whole_so c.sessions_are_whole.ensures h c.announce.new.head ps is c.requires.quiet idle here c.settle.ensures.known c.requires.kept

pub returns-clause-shown : goal.returns-clause-shown
returns-clause-shown c =
    let h = c.args.head in
    let ps : List Client = map (λ (p : PassView). p.client) c.args.passes.items in
    let is = is_closing_head h c.seat_all.new.head c.withdraw.new.head c.announce.new.head ps c.seat_all.ensures.head c.withdraw.ensures c.announce.ensures.head in
    shows_so h c.announce.new.head c.settle.new.head ps c.picture_of.result.items is c.in-Ok.ensures.head (returns-clause-whole c) c.picture_of.ensures

pub returns-clause-grabs : goal.returns-clause-grabs
returns-clause-grabs c =
    let h = c.args.head in
    let ps : List Client = map (λ (p : PassView). p.client) c.args.passes.items in
    let here = sat_here h c.seat_all.new.head ps c.seat_all.ensures.head (c.seat_all.ensures.here c.requires.all) in
    let is = is_closing_head h c.seat_all.new.head c.withdraw.new.head c.announce.new.head ps c.seat_all.ensures.head c.withdraw.ensures c.announce.ensures.head in
    let idle : AllIdle ps = subst (λ (x : HeadView). AllIdle x.sitting) c.seat_all.ensures.head c.seat_all.ensures.idle in
    grabs_so c.sessions_are_carried.ensures c.pictures_are_shown.ensures h c.announce.new.head ps is c.requires.quiet idle here c.settle.ensures.known c.requires.kept
