use Rattle.std.proofs.lemmas.Grind.{elements}
use Rattle.std.proofs.Common.{◌≡◌, ℕ, ◌-◌, ◌<◌, ◌≤◌, true, false, Some, IsSome, FitsSigned, to_z, of_z, w64, rules, arith, ap, refl, subst, sym, ◌∙◌}
use Rattle.std.specs.FinMap.{get}
use Rattle.std.specs.Prelude.{nat_le}
use Rattle.std.proofs.lemmas.Bool.Decides.{nat_tests}
use Rattle.std.proofs.lemmas.Int.{ints, to_z-of_z}
use Rattle.rtp_stream.specs.PacketRef.{packet_of}
use Rattle.rtp_stream.specs.Anchor.{is_restart_in_reach, media_time_of, restart_media_time}
use Rattle.path_merge.specs.MergeState.{IsSound, MergeState}
use Rattle.path_merge.proofs.OpeningLemmas.{epoch_media_is, epoch_media_none, nothing_is}
use Rattle.path_merge.proofs.SoundLemmas.{anchored_at}
use Rattle.path_merge.proofs.merge.Merge.media_of_epoch.Goals as goal

pub returns-then-base-end : goal.returns-then-base-end
returns-then-base-end g c = λ a is_a.
    let sound : IsSound c.args.self.now c.self.inside.next_media = subst (λ m. IsSound m c.self.inside.next_media) c.self.view_is c.self.invariant in
    let past_all : (n : ℕ) → c.args.self.now.base ≤ n → IsSome (get c.args.self.now.held n) → n < c.end.result = subst (λ (m : MergeState). (n : ℕ) → m.base ≤ n → IsSome (get m.held n) → n < c.end.result) c.self.view_is (λ n low. c.end.ensures.past_all n) in
    let reached : c.args.self.now.base < c.end.result → IsSome (get c.args.self.now.held (c.end.result - 1)) = subst (λ (m : MergeState). m.base < c.end.result → IsSome (get m.held (c.end.result - 1))) c.self.view_is c.end.ensures.reached in
    let some : nat_le c.end.result c.args.self.now.base ≡ false = subst (λ (m : MergeState). nat_le c.end.result m.base ≡ false) c.self.view_is (grind (arith, nat_tests, c.if-base-end.true, c.base.ensures)) in
    epoch_media_none c.args.self.now a (packet_of c.args.packet.now) (nothing_is c.args.self.now c.self.inside.next_media a sound is_a c.requires.open_yet c.end.result past_all reached ∙ some)

pub returns-then-not-continues_media_time : goal.returns-then-not-continues_media_time
returns-then-not-continues_media_time g c = λ a is_a.
    let sound : IsSound c.args.self.now c.self.inside.next_media = subst (λ m. IsSound m c.self.inside.next_media) c.self.view_is c.self.invariant in
    let an = anchored_at c.args.self.now c.self.inside.next_media c.args.self.now.anchor a is_a sound.anchored in
    let past_all : (n : ℕ) → c.args.self.now.base ≤ n → IsSome (get c.args.self.now.held n) → n < c.end.result = subst (λ (m : MergeState). (n : ℕ) → m.base ≤ n → IsSome (get m.held n) → n < c.end.result) c.self.view_is (λ n low. c.end.ensures.past_all n) in
    let reached : c.args.self.now.base < c.end.result → IsSome (get c.args.self.now.held (c.end.result - 1)) = subst (λ (m : MergeState). m.base < c.end.result → IsSome (get m.held (c.end.result - 1))) c.self.view_is c.end.ensures.reached in
    let none : nat_le c.end.result c.args.self.now.base ≡ true = subst (λ (m : MergeState). nat_le c.end.result m.base ≡ true) c.self.view_is (grind (arith, nat_tests, c.if-base-end.false, c.base.ensures)) in
    let time_fits : FitsSigned w64 c.self.inside.time = search rules in
    let time_is : to_z w64 (of_z w64 c.self.inside.time) ≡ c.args.self.now.time = to_z-of_z w64 c.self.inside.time time_fits ∙ ap (λ (m : MergeState). m.time) c.self.view_is in
    let due_fits : FitsSigned w64 c.self.inside.next_media = search rules in
    let due_is : to_z w64 (of_z w64 c.self.inside.next_media) ≡ media_time_of c.args.self.now.spec a c.args.self.now.base = to_z-of_z w64 c.self.inside.next_media due_fits ∙ an.media_is in
    let spec_is = ap (λ (m : MergeState). m.spec) c.self.view_is in
    let media_is : c.media_of_restart-media.result ≡ restart_media_time c.args.self.now.spec.clock (packet_of c.args.packet.now).ts c.args.self.now.time (media_time_of c.args.self.now.spec a c.args.self.now.base) = c.media_of_restart-media.ensures ∙ rw (time_is, due_is, c.clock.ensures, spec_is) refl in
    let there : to_z w64 (of_z w64 c.media_of_restart-media.result) ≡ restart_media_time c.args.self.now.spec.clock (packet_of c.args.packet.now).ts c.args.self.now.time (media_time_of c.args.self.now.spec a c.args.self.now.base) = omega (arith, ints, media_is) in
    let reach : is_restart_in_reach c.args.self.now.spec c.args.self.now.time (media_time_of c.args.self.now.spec a c.args.self.now.base) (restart_media_time c.args.self.now.spec.clock (packet_of c.args.packet.now).ts c.args.self.now.time (media_time_of c.args.self.now.spec a c.args.self.now.base)) ≡ false = sym (c.continues_media_time.ensures ∙ rw (time_is, due_is, there, spec_is) refl) ∙ c.if-not-continues_media_time.true in
    epoch_media_is c.args.self.now a (packet_of c.args.packet.now) true false (nothing_is c.args.self.now c.self.inside.next_media a sound is_a c.requires.open_yet c.end.result past_all reached ∙ none) reach

pub returns : goal.returns
returns g c = λ a is_a.
    let sound : IsSound c.args.self.now c.self.inside.next_media = subst (λ m. IsSound m c.self.inside.next_media) c.self.view_is c.self.invariant in
    let an = anchored_at c.args.self.now c.self.inside.next_media c.args.self.now.anchor a is_a sound.anchored in
    let past_all : (n : ℕ) → c.args.self.now.base ≤ n → IsSome (get c.args.self.now.held n) → n < c.end.result = subst (λ (m : MergeState). (n : ℕ) → m.base ≤ n → IsSome (get m.held n) → n < c.end.result) c.self.view_is (λ n low. c.end.ensures.past_all n) in
    let reached : c.args.self.now.base < c.end.result → IsSome (get c.args.self.now.held (c.end.result - 1)) = subst (λ (m : MergeState). m.base < c.end.result → IsSome (get m.held (c.end.result - 1))) c.self.view_is c.end.ensures.reached in
    let none : nat_le c.end.result c.args.self.now.base ≡ true = subst (λ (m : MergeState). nat_le c.end.result m.base ≡ true) c.self.view_is (grind (arith, nat_tests, c.if-base-end.false, c.base.ensures)) in
    let time_fits : FitsSigned w64 c.self.inside.time = search rules in
    let time_is : to_z w64 (of_z w64 c.self.inside.time) ≡ c.args.self.now.time = to_z-of_z w64 c.self.inside.time time_fits ∙ ap (λ (m : MergeState). m.time) c.self.view_is in
    let due_fits : FitsSigned w64 c.self.inside.next_media = search rules in
    let due_is : to_z w64 (of_z w64 c.self.inside.next_media) ≡ media_time_of c.args.self.now.spec a c.args.self.now.base = to_z-of_z w64 c.self.inside.next_media due_fits ∙ an.media_is in
    let spec_is = ap (λ (m : MergeState). m.spec) c.self.view_is in
    let media_is : c.media_of_restart-media.result ≡ restart_media_time c.args.self.now.spec.clock (packet_of c.args.packet.now).ts c.args.self.now.time (media_time_of c.args.self.now.spec a c.args.self.now.base) = c.media_of_restart-media.ensures ∙ rw (time_is, due_is, c.clock.ensures, spec_is) refl in
    let there : to_z w64 (of_z w64 c.media_of_restart-media.result) ≡ restart_media_time c.args.self.now.spec.clock (packet_of c.args.packet.now).ts c.args.self.now.time (media_time_of c.args.self.now.spec a c.args.self.now.base) = omega (arith, ints, media_is) in
    let reach : is_restart_in_reach c.args.self.now.spec c.args.self.now.time (media_time_of c.args.self.now.spec a c.args.self.now.base) (restart_media_time c.args.self.now.spec.clock (packet_of c.args.packet.now).ts c.args.self.now.time (media_time_of c.args.self.now.spec a c.args.self.now.base)) ≡ true = sym (c.continues_media_time.ensures ∙ rw (time_is, due_is, there, spec_is) refl) ∙ c.if-not-continues_media_time.false in
    ap (λ z. Some z) there ∙ epoch_media_is c.args.self.now a (packet_of c.args.packet.now) true true (nothing_is c.args.self.now c.self.inside.next_media a sound is_a c.requires.open_yet c.end.result past_all reached ∙ none) reach

pub media_of_restart-media-requires-clause-low : goal.media_of_restart-media-requires-clause-low
media_of_restart-media-requires-clause-low c = grind (arith, elements)

pub media_of_restart-media-requires-clause-high : goal.media_of_restart-media-requires-clause-high
media_of_restart-media-requires-clause-high c = grind (arith, elements)

pub continues_media_time-requires-clause-low : goal.continues_media_time-requires-clause-low
continues_media_time-requires-clause-low c = grind (arith, elements)

pub continues_media_time-requires-clause-high : goal.continues_media_time-requires-clause-high
continues_media_time-requires-clause-high c = grind (arith, elements)
