use Rattle.std.proofs.Common.{◌≡◌, Err, rules}
use Rattle.pcap_replay.specs.Routing.{plan_view}
use Rattle.pcap_replay.specs.declared.routing.ReadingRule.{ReadingRule}
use Rattle.pcap_replay.proofs.CaseLemmas.{err_all, ok_both}
use Rattle.pcap_replay.proofs.CauseLemmas.{close_cause}
use Rattle.pcap_replay.proofs.ReplayLemmas.{close_reason, closing_same, come_to_close, stops_at_close}
use Rattle.pcap_replay.proofs.state.ReplayState.go_to_close.Goals as goal

pub returns-in_err-ended-clause-fault : goal.returns-in_err-ended-clause-fault
returns-in_err-ended-clause-fault g c =
    let is : c.from_residual.result ≡ Err c.in_err-ended.field-0.0 = search rules in
    rw is (λ studio first written begun r. c.in_err-ended.ensures.fault studio first written begun r)

pub returns-clause-ok : goal.returns-clause-ok
returns-clause-ok g c =
    ok_both c.read.result _ _ _ (λ reads step studio first written begun r.
    come_to_close studio (plan_view c.args.plan.now) c.in_ok-ended.ended.0 c.closing.result c.in_ok-ended.ended.1 c.opening.result c.longest_step.result first written _ _ _ _ c.run_events.new.self c.read.new.self c.opening.ensures c.longest_step.ensures c.closing.ensures step
    (c.in_ok-ended.ensures.ok studio first written begun r) (λ changed events replayed. reads changed events written begun replayed)) c.read.ensures.ok c.read.ensures.steady

pub returns-clause-fault : goal.returns-clause-fault
returns-clause-fault g c =
    let plan = plan_view c.args.plan.now in
    let rule : ReadingRule = record { from = c.opening.result; longest = c.longest_step.result; place = c.in_ok-ended.ended.1 } in
    err_all c.read.result _ _ _ _ (λ fault kind jump stops studio first written begun r.
    let gone = c.in_ok-ended.ensures.ok studio first written begun r in
    stops_at_close studio plan c.in_ok-ended.ended.0 c.closing.result c.in_ok-ended.ended.1 c.opening.result first written _ _ _ _ c.run_events.new.self c.read.new.self fault c.opening.ensures c.closing.ensures gone
    (close_reason plan first gone.entries c.in_ok-ended.ended.0 c.closing.result rule c.run_events.new.self.clock fault kind c.closing.ensures gone.placed jump)
    (close_cause plan gone.entries rule c.closing.result c.run_events.new.self.clock c.read.new.self.engine.mixer fault c.longest_step.ensures gone.taken.clock
    (closing_same plan gone.entries c.in_ok-ended.ended.0 c.closing.result c.closing.ensures gone.closes) jump)
    (λ changed events replayed. stops changed events written begun replayed)) c.read.ensures.kind c.read.ensures.jump c.read.ensures.fault
