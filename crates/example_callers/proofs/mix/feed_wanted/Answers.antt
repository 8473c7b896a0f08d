use Rattle.std.proofs.Common.{◌≡◌, inl, inr, length, take, set, refl, subst, ◌∙◌, arith}
use Rattle.studio_mix.specs.Mixer.{HasFeeds}
use Rattle.example_callers.specs.Mix.{feed_with}
use Rattle.example_callers.proofs.MixLemmas.{one_more, all_covered, after_at, fed_none, fed_more, not_listed, wanted_more}
use Rattle.example_callers.proofs.mix.feed_wanted.Goals.{then-not-wants-via-then-not-wants, then-not-wants-via-else-not-wants+then-not-accepts_ref}
use Rattle.example_callers.proofs.mix.feed_wanted.Goals as goal

pub loop-taken-init : goal.loop-taken-init
loop-taken-init c = record {
  stands = λ studio feeds number feed fed at. fed_none studio feeds number c.args.stream feed at c.args.mixer.now fed;
  wanted = λ studio feeds number feed fed at fewer none. absurd (omega (arith, none));
  packer = refl;
  streams = refl;
}

pub returns-then-not-wants-clause-taken : goal.returns-then-not-wants-clause-taken
returns-then-not-wants-clause-taken c = λ studio feeds number feed fed at.
    let inv = c.loop-taken.invariant in
    let marks = c.args.marks.now in
    let i = c.loop-taken.taken in
    let before = inv.stands studio feeds number feed fed at in
    let here = after_at studio feeds number c.args.stream feed at (take i marks) in
    let more = one_more marks i c.index-marks-taken.result c.as_ref-mark.result c.loop-taken-test.true c.index-marks-taken.is c.as_ref-mark.ensures in
    record {
      wanted = inv.wanted studio feeds number feed fed at;
      stopped = λ some. elim c.then-not-wants.branch [
        | then-not-wants-via-then-not-wants w ↦ inl (all_covered c.wants.result _ w.if-not-wants.true (c.wants.ensures.stands studio _ number (feed_with feed (take i marks)) before here))
        | then-not-wants-via-else-not-wants+then-not-accepts_ref w ↦ inr (not_listed studio feeds number c.args.stream feed at marks i c.as_ref-mark.result more w.accepts_ref.result w.if-not-accepts_ref.true
            (w.accepts_ref.ensures.stands studio _ number (feed_with feed (take i marks)) before here))
      ];
    }

pub loop-taken-preserved : goal.loop-taken-preserved
loop-taken-preserved c =
    let inv = c.loop-taken.invariant in
    let marks = c.args.marks.now in
    let i = c.loop-taken.taken in
    let more = one_more marks i c.index-marks-taken.result c.as_ref-mark.result c.loop-taken-test.true c.index-marks-taken.is c.as_ref-mark.ensures in
    record {
      stands = λ studio feeds number feed fed at.
          fed_more studio feeds number c.args.stream feed at marks i c.as_ref-mark.result more c.feed_ref.new.self
          (c.feed_ref.ensures.stands studio _ number (feed_with feed (take i marks)) (inv.stands studio feeds number feed fed at) (after_at studio feeds number c.args.stream feed at (take i marks)));
      wanted = λ studio feeds number feed fed at.
          wanted_more studio feeds number c.args.stream feed at marks i c.wants.result c.if-not-wants.false
          (c.wants.ensures.stands studio _ number (feed_with feed (take i marks)) (inv.stands studio feeds number feed fed at) (after_at studio feeds number c.args.stream feed at (take i marks)))
          (inv.wanted studio feeds number feed fed at);
      packer = c.feed_ref.ensures.packer ∙ inv.packer;
      streams = c.feed_ref.ensures.streams ∙ inv.streams;
    }

pub returns-clause-stands : goal.returns-clause-stands
returns-clause-stands c = λ studio feeds number feed fed at.
    let end : c.loop-taken.taken ≡ length c.args.marks.now = omega (arith, c.loop-taken.auto.taken-end, c.loop-taken-test.false) in
    subst (λ n. HasFeeds studio c.loop-taken.mixer (set feeds c.args.stream (feed_with feed (take n c.args.marks.now))) number) end (c.loop-taken.invariant.stands studio feeds number feed fed at)
