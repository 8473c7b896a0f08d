use Rattle.std.specs.Prelude.{IfSome}
use Rattle.std.proofs.Common.{◌≡◌, ◌≤◌, true, length, ◌∙◌, sym, subst, arith}
use Rattle.studio_mix.specs.Mixer.{has_space_of}
use Rattle.studio_session.specs.Cursor.{next_of}
use Rattle.studio_session.specs.Play.{TakesMark}
use Rattle.studio_session.proofs.PlayLemmas.{runnable_at, plays_given}
use Rattle.studio_engine.proofs.KeepLemmas.{next_fits}
use Rattle.studio_engine.proofs.early_marks.keep_marks.Goals as goal

pub marks-preserved : goal.marks-preserved
marks-preserved c =
    let inv = c.marks.invariant in
    let kept = c.pass.ensures.kept in
    record {
      stands = λ studio events feeds next run within plays.
          let p = inv.stands studio events feeds next run within plays in
          let here = runnable_at studio events feeds next c.args.stream c.marks.mixer c.marks.cursor run within p in
          let given = c.pass.ensures.stands p.feed.stream c.args.stream studio.open_at events (length p.feed.marks) here p.given.pulled in
          let shown = c.mark.ensures in
          plays_given studio events feeds next c.args.stream c.marks.mixer c.keep_one.new.mixer c.marks.cursor c.pass.new.self (next_of c.marks.cursor) run within p given
          (subst (λ o. IfSome o (TakesMark c.marks.mixer c.keep_one.new.mixer c.args.stream)) shown (c.keep_one.ensures.stands c.if-not-keep_one.false)) (λ none. c.keep_one.ensures.none (shown ∙ none));
      kept = record { spec = kept.spec ∙ inv.kept.spec; number = kept.number ∙ inv.kept.number; tallies = kept.tallies ∙ inv.kept.tallies; place = kept.place ∙ inv.kept.place };
      stays_idle = λ none. c.pass.ensures.stays_idle (inv.stays_idle none);
      packer = c.keep_one.ensures.packer ∙ inv.packer;
      streams = c.keep_one.ensures.streams ∙ inv.streams;
      capacities = c.keep_one.ensures.capacities ∙ inv.capacities;
    }

pub returns-then-not-pass-clause-stands : goal.returns-then-not-pass-clause-stands
returns-then-not-pass-clause-stands c = λ studio events feeds next run within plays.
    let p = c.marks.invariant.stands studio events feeds next run within plays in
    let here = runnable_at studio events feeds next c.args.stream c.marks.mixer c.marks.cursor run within p in
    let given = c.pass.ensures.stands p.feed.stream c.args.stream studio.open_at events (length p.feed.marks) here p.given.pulled in
    let shown = c.mark.ensures in
    plays_given studio events feeds next c.args.stream c.marks.mixer c.keep_one.new.mixer c.marks.cursor c.pass.new.self (next_of c.marks.cursor) run within p given
    (subst (λ o. IfSome o (TakesMark c.marks.mixer c.keep_one.new.mixer c.args.stream)) shown (c.keep_one.ensures.stands c.if-not-keep_one.false)) (λ none. c.keep_one.ensures.none (shown ∙ none))

pub returns-then-not-keep_one-clause-all : goal.returns-then-not-keep_one-clause-all
returns-then-not-keep_one-clause-all c = λ studio events feeds next awaited sized within plays taken.
    let inv = c.marks.invariant in
    let place = inv.kept.place in
    let end : length events ≤ c.marks.cursor.place = omega (arith, place, taken) in
    let fits = next_fits studio events c.marks.mixer feeds next c.args.stream c.marks.cursor awaited (record { capacities = inv.capacities ∙ sized.capacities }) within
    (inv.stands studio events feeds next awaited.runs within plays) end in
    sym c.if-not-keep_one.true ∙ c.keep_one.ensures.space (subst (λ o. IfSome o (λ m. has_space_of c.marks.mixer c.args.stream m ≡ true)) (sym c.mark.ensures) fits)
