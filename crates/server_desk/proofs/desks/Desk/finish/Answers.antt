use Rattle.std.proofs.Common.{◌≡◌, length, ap, ◌∙◌, sym}
use Rattle.fb_words.specs.Views.{ScreenView, HeadView}
use Rattle.server_desk.specs.DeskViews.{DeskView, ClosedView, connected}
use Rattle.server_desk.specs.Sessions.{clients_of, IsSessionOf}
use Rattle.server_desk.proofs.Wholes.{session_so, calls_so, grabs_there}
use Rattle.server_desk.proofs.desks.Desk.finish.Goals as goal

pub returns-clause-session : goal.returns-clause-session
returns-clause-session c =
    let h = c.kept.inside.head in
    let n = connected c.args.self in
    let setting : h.server.setting ≡ c.args.screen.setting = sym c.kept.invariant.0.own_setting ∙ ap (λ (x : HeadView). x.screen.setting) c.kept.view_is ∙ ap (λ (d : DeskView). d.screen.setting) c.self.view_is ∙ ap (λ (s : ScreenView). s.setting) c.requires.screen in
    let many : n ≡ length h.server.limits = sym (ap (λ (x : HeadView). length x.server.limits) c.kept.view_is ∙ ap connected c.self.view_is) in
    let closed : ClosedView = record { size = c.size.result; shown = c.read_session-shown.result.items; journal = c.kept.inside.journal.items; books = c.args.books.items } in
    let session : IsSessionOf c.args.screen.setting (clients_of n c.args.passes.items) closed = session_so h.server c.args.screen.setting c.args.passes.items n closed setting many c.size.ensures c.kept.invariant.1.journal_is c.requires.books
    c.read_session-shown.ensures.here c.read_session-shown.ensures.sits c.read_session-shown.ensures.whole c.read_session-shown.ensures.shown in
    session

pub invariant_of-result : goal.invariant_of-result
invariant_of-result c =
    let h = c.kept.inside.head in
    let n = connected c.args.self in
    let setting : h.server.setting ≡ c.args.screen.setting = sym c.kept.invariant.0.own_setting ∙ ap (λ (x : HeadView). x.screen.setting) c.kept.view_is ∙ ap (λ (d : DeskView). d.screen.setting) c.self.view_is ∙ ap (λ (s : ScreenView). s.setting) c.requires.screen in
    let many : n ≡ length h.server.limits = sym (ap (λ (x : HeadView). length x.server.limits) c.kept.view_is ∙ ap connected c.self.view_is) in
    let closed : ClosedView = record { size = c.size.result; shown = c.read_session-shown.result.items; journal = c.kept.inside.journal.items; books = c.args.books.items } in
    let session : IsSessionOf c.args.screen.setting (clients_of n c.args.passes.items) closed = session_so h.server c.args.screen.setting c.args.passes.items n closed setting many c.size.ensures c.kept.invariant.1.journal_is c.requires.books
    c.read_session-shown.ensures.here c.read_session-shown.ensures.sits c.read_session-shown.ensures.whole c.read_session-shown.ensures.shown in
    record { setting = c.args.screen.setting; clients = clients_of n c.args.passes.items; of_them = session }

pub returns-clause-calls : goal.returns-clause-calls
returns-clause-calls c =
    let h = c.kept.inside.head in
    let n = connected c.args.self in
    let setting : h.server.setting ≡ c.args.screen.setting = sym c.kept.invariant.0.own_setting ∙ ap (λ (x : HeadView). x.screen.setting) c.kept.view_is ∙ ap (λ (d : DeskView). d.screen.setting) c.self.view_is ∙ ap (λ (s : ScreenView). s.setting) c.requires.screen in
    let many : n ≡ length h.server.limits = sym (ap (λ (x : HeadView). length x.server.limits) c.kept.view_is ∙ ap connected c.self.view_is) in
    let closed : ClosedView = record { size = c.size.result; shown = c.read_session-shown.result.items; journal = c.kept.inside.journal.items; books = c.args.books.items } in
    let session : IsSessionOf c.args.screen.setting (clients_of n c.args.passes.items) closed = session_so h.server c.args.screen.setting c.args.passes.items n closed setting many c.size.ensures c.kept.invariant.1.journal_is c.requires.books
    c.read_session-shown.ensures.here c.read_session-shown.ensures.sits c.read_session-shown.ensures.whole c.read_session-shown.ensures.shown in
    calls_so h.server c.args.screen.setting c.args.passes.items n closed many c.read_session-shown.ensures.sits c.read_session-shown.ensures.once session

pub returns-clause-grabs : goal.returns-clause-grabs
returns-clause-grabs c =
    let h = c.kept.inside.head in
    let n = connected c.args.self in
    let setting : h.server.setting ≡ c.args.screen.setting = sym c.kept.invariant.0.own_setting ∙ ap (λ (x : HeadView). x.screen.setting) c.kept.view_is ∙ ap (λ (d : DeskView). d.screen.setting) c.self.view_is ∙ ap (λ (s : ScreenView). s.setting) c.requires.screen in
    let many : n ≡ length h.server.limits = sym (ap (λ (x : HeadView). length x.server.limits) c.kept.view_is ∙ ap connected c.self.view_is) in
    let closed : ClosedView = record { size = c.size.result; shown = c.read_session-shown.result.items; journal = c.kept.inside.journal.items; books = c.args.books.items } in
    let closes : h.server.closed ≡ c.args.self.server.closed = ap (λ (x : HeadView). x.server.closed) c.kept.view_is ∙ ap (λ (d : DeskView). d.server.closed) c.self.view_is in
    grabs_there h.server c.args.screen.setting c.args.passes.items n c.kept.inside.journal.items c.args.self.server.closed setting many c.kept.invariant.1.journal_is closes
    c.read_session-shown.ensures.whole c.read_session-shown.ensures.grabs
