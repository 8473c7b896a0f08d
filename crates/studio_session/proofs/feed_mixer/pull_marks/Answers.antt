use Rattle.std.proofs.lemmas.Grind.{elements}
use Rattle.std.specs.Prelude.{IfSome}
use Rattle.std.proofs.Common.{length, ◌∙◌, subst, arith}
use Rattle.studio_session.specs.Cursor.{next_of}
use Rattle.studio_session.specs.Play.{Plays, TakesMark}
use Rattle.studio_session.proofs.CursorLemmas.{none_due}
use Rattle.studio_session.proofs.PlayLemmas.{runnable_at, plays_given, plays_covered}
use Rattle.studio_session.proofs.feed_mixer.pull_marks.Goals as goal

pub marks-preserved : goal.marks-preserved
marks-preserved c =
    let inv = c.marks.invariant in
    let kept = c.pass.ensures.kept in
    record {
      stands = λ studio events feeds next run within plays.
          let p = inv.stands studio events feeds next run within plays in
          let here = runnable_at studio events feeds next c.args.stream c.marks.mixer c.marks.cursor run within p in
          let given = c.pass.ensures.stands p.feed.stream c.args.stream studio.open_at events (length p.feed.marks) here p.given.pulled in
          let shown = c.mark.ensures in
          plays_given studio events feeds next c.args.stream c.marks.mixer c.hand_on.new.mixer c.marks.cursor c.pass.new.self (next_of c.marks.cursor) run within p given
          (subst (λ o. IfSome o (TakesMark c.marks.mixer c.hand_on.new.mixer c.args.stream)) shown c.hand_on.ensures.stands) (λ none. c.hand_on.ensures.none (shown ∙ none));
      kept = record { spec = kept.spec ∙ inv.kept.spec; number = kept.number ∙ inv.kept.number; tallies = kept.tallies ∙ inv.kept.tallies; place = kept.place ∙ inv.kept.place };
      stays_idle = λ none. c.pass.ensures.stays_idle (inv.stays_idle none);
      packer = c.hand_on.ensures.packer ∙ inv.packer;
      streams = c.hand_on.ensures.streams ∙ inv.streams;
      capacities = c.hand_on.ensures.capacities ∙ inv.capacities;
    }

pub returns-then-not-pass-clause-out : goal.returns-then-not-pass-clause-out
returns-then-not-pass-clause-out c = λ yes studio events feeds next run within plays.
    let p = c.marks.invariant.stands studio events feeds next run within plays in
    let here = runnable_at studio events feeds next c.args.stream c.marks.mixer c.marks.cursor run within p in
    let given = c.pass.ensures.stands p.feed.stream c.args.stream studio.open_at events (length p.feed.marks) here p.given.pulled in
    let shown = c.mark.ensures in
    let last = c.if-not-pass.true in
    let q : Plays studio events feeds next c.args.stream c.hand_on.new.mixer c.pass.new.self = plays_given studio events feeds next c.args.stream c.marks.mixer c.hand_on.new.mixer c.marks.cursor c.pass.new.self (next_of c.marks.cursor) run within p given
    (subst (λ o. IfSome o (TakesMark c.marks.mixer c.hand_on.new.mixer c.args.stream)) shown c.hand_on.ensures.stands) (λ none. c.hand_on.ensures.none (shown ∙ none)) in
    record {
      plays = q;
      none = none_due q.feed.stream c.args.stream studio.open_at events c.pass.new.self (length q.feed.marks) (runnable_at studio events feeds next c.args.stream c.hand_on.new.mixer c.pass.new.self run within q) q.given.pulled (c.pass.ensures.settled last) (c.pass.ensures.all last);
    }

pub returns-then-not-wants-clause-covered : goal.returns-then-not-wants-clause-covered
returns-then-not-wants-clause-covered c = λ no studio events feeds next run within plays.
    plays_covered studio events feeds next c.args.stream c.marks.mixer c.marks.cursor c.wants.result within
    (c.marks.invariant.stands studio events feeds next run within plays) c.if-not-wants.true
    (λ fs f fed at. c.wants.ensures.stands studio fs next f fed at)

pub returns-then-not-pass-clause-covered : goal.returns-then-not-pass-clause-covered
returns-then-not-pass-clause-covered c = grind (arith, elements)
