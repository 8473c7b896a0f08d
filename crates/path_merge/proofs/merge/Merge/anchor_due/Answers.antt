use Rattle.std.proofs.Common.{◌≡◌, ◌≤ℤ◌, ◌<ℤ◌, Some, arith, ap, sym, ◌∙◌}
use Rattle.std.proofs.lemmas.Int.{ints}
use Rattle.rtp_stream.specs.Anchor.{deadline_of}
use Rattle.path_merge.specs.MergeState.{MergeState}
use Rattle.path_merge.proofs.SoundLemmas.{due_times}
use Rattle.path_merge.proofs.AdvanceLemmas.{IsAtReading}
use Rattle.path_merge.proofs.NextMarkLemmas.{due_is, not_due_is, reading}
use Rattle.path_merge.proofs.merge.Merge.anchor_due.Goals as goal

pub overflow_add-self-inside : goal.overflow_add-self-inside
overflow_add-self-inside g c =
    let r : IsAtReading c.args.self.now c.self.inside.next_media c.args.now = reading _ c.args.self.now c.self.inside.next_media c.args.now c.self.view_is c.self.invariant c.requires in
    let is_a : c.args.self.now.anchor ≡ Some c.in_ok-anchor.anchor = ap (λ (m : MergeState). m.anchor) (sym c.self.view_is) ∙ c.in_ok-anchor.was in
    let t = due_times c.args.self.now c.self.inside.next_media c.in_ok-anchor.anchor r.sound is_a r.open_yet in
    let lat : c.latency.result ≡ c.args.self.now.spec.latency = c.latency.ensures.value ∙ ap (λ (m : MergeState). m.spec.latency) c.self.view_is in
    omega (arith, ints, t.media_low, t.media_high, t.deadline, t.small_latency, lat, c.from.ensures)

pub returns-then-self-from : goal.returns-then-self-from
returns-then-self-from g c =
    let r : IsAtReading c.args.self.now c.self.inside.next_media c.args.now = reading _ c.args.self.now c.self.inside.next_media c.args.now c.self.view_is c.self.invariant c.requires in
    let is_a : c.args.self.now.anchor ≡ Some c.in_ok-anchor.anchor = ap (λ (m : MergeState). m.anchor) (sym c.self.view_is) ∙ c.in_ok-anchor.was in
    let t = due_times c.args.self.now c.self.inside.next_media c.in_ok-anchor.anchor r.sound is_a r.open_yet in
    let lat : c.latency.result ≡ c.args.self.now.spec.latency = c.latency.ensures.value ∙ ap (λ (m : MergeState). m.spec.latency) c.self.view_is in
    let come : deadline_of c.args.self.now.spec c.in_ok-anchor.anchor c.args.self.now.base ≤ℤ c.args.now = omega (arith, ints, t.media_low, t.media_high, t.deadline, t.small_latency, lat, c.from.ensures, c.if-self-from.true) in
    due_is c.args.self.now c.args.now c.in_ok-anchor.anchor is_a come

pub returns-else-self-from : goal.returns-else-self-from
returns-else-self-from g c =
    let r : IsAtReading c.args.self.now c.self.inside.next_media c.args.now = reading _ c.args.self.now c.self.inside.next_media c.args.now c.self.view_is c.self.invariant c.requires in
    let is_a : c.args.self.now.anchor ≡ Some c.in_ok-anchor.anchor = ap (λ (m : MergeState). m.anchor) (sym c.self.view_is) ∙ c.in_ok-anchor.was in
    let t = due_times c.args.self.now c.self.inside.next_media c.in_ok-anchor.anchor r.sound is_a r.open_yet in
    let lat : c.latency.result ≡ c.args.self.now.spec.latency = c.latency.ensures.value ∙ ap (λ (m : MergeState). m.spec.latency) c.self.view_is in
    let early : c.args.now <ℤ deadline_of c.args.self.now.spec c.in_ok-anchor.anchor c.args.self.now.base = omega (arith, ints, t.media_low, t.media_high, t.deadline, t.small_latency, lat, c.from.ensures, c.if-self-from.false) in
    not_due_is c.args.self.now c.args.now c.in_ok-anchor.anchor is_a early
