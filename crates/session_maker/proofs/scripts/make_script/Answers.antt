use Rattle.std.proofs.Common.{◌≡◌, ℕ, subst, arith, rules}
use Rattle.session_maker.specs.Made.{first_clients}
use Rattle.session_maker.specs.Added.{head_text, AreAdded}
use Rattle.session_maker.proofs.Adding.{added_none, added_clients, added_whole}
use Rattle.session_maker.proofs.scripts.make_script.Goals as goal

pub loop-client-init : goal.loop-client-init
loop-client-init c = added_none (head_text c.args.clients) c.in_ok-out.out.items c.args.seed c.in_ok-out.ensures

pub loop-client-preserved : goal.loop-client-preserved
loop-client-preserved c =
    added_clients (head_text c.args.clients) c.push_client.new.out.items c.push_client.new.draws.state c.args.seed c.args.calls c.loop-client.client
    (c.in_ok-push_client.ensures (head_text c.args.clients) (first_clients c.args.seed c.args.calls c.loop-client.client) c.loop-client.invariant)

pub returns : goal.returns
returns c =
    let all : c.loop-client.client ≡ c.args.clients = omega arith in
    added_whole c.args.seed c.args.clients c.args.calls c.loop-client.draws.state c.loop-client.out.items c.extend_from_slice.new.self.items
    (subst (λ (n : ℕ). AreAdded (head_text c.args.clients) (first_clients c.args.seed c.args.calls n) c.loop-client.out.items c.loop-client.draws.state) all c.loop-client.invariant) (search rules)
