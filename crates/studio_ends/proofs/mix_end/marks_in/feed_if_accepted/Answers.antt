use Rattle.std.proofs.Common.{◌≡◌, ◌++◌, ◌∷◌, [], List, ℕ, Some, slice_get, sym, ◌∙◌, subst}
use Rattle.rtp_stream.specs.MarkFacts.{MarkView}
use Rattle.rtp_stream.specs.MarkList.{is_mark_list}
use Rattle.rtp_stream.specs.StreamSpecFacts.{format_of}
use Rattle.studio_mix.specs.Feed.{Feed}
use Rattle.studio_mix.specs.Mixer.{HasFeeds}
use Rattle.studio_config.specs.Studio.{Studio}
use Rattle.studio_ends.proofs.AcceptedLemmas.{keeps, drops}
use Rattle.studio_ends.proofs.mix_end.marks_in.feed_if_accepted.Goals as goal
use Rattle.studio_ends.proofs.mix_end.marks_in.feed_if_accepted.Goals.{After-accepts_ref}
use Rattle.studio_ends.proofs.mix_end.marks_in.feed_if_accepted.Given.{Over}

-- the test was made for the mark that is in the cell
asked : (g : Over) (c : After-accepts_ref g) (studio : Studio) (feeds : List Feed) (number : ℕ) (feed : Feed)
    → HasFeeds studio c.args.mixer.now feeds number → slice_get feeds c.args.stream ≡ Some feed
    → c.accepts_ref.result ≡ is_mark_list (format_of feed.stream) (feed.marks ++ c.args.cell.now ∷ [])
asked g c studio feeds number feed h is =
    subst (λ (m : MarkView). c.accepts_ref.result ≡ is_mark_list (format_of feed.stream) (feed.marks ++ m ∷ [])) c.as_ref-mark.ensures (c.accepts_ref.ensures.stands studio feeds number feed h is)

pub returns-then-accepts_ref-clause-value : goal.returns-then-accepts_ref-clause-value
returns-then-accepts_ref-clause-value g c = λ studio feeds number feed h is.
    let here = (goal.at.returns-then-accepts_ref-clause-value g c).After-accepts_ref in
    sym c.if-accepts_ref.true ∙ asked g here studio feeds number feed h is

pub returns-clause-value : goal.returns-clause-value
returns-clause-value g c = λ studio feeds number feed h is.
    let here = (goal.at.returns-clause-value g c).After-accepts_ref in
    sym c.if-accepts_ref.false ∙ asked g here studio feeds number feed h is

pub returns-then-accepts_ref-clause-stands : goal.returns-then-accepts_ref-clause-stands
returns-then-accepts_ref-clause-stands g c = λ studio feeds number feed h is.
    let here = (goal.at.returns-then-accepts_ref-clause-stands g c).After-accepts_ref in
    let fed = rw c.as_ref-mark.ensures at (c.feed_ref.ensures.stands studio feeds number feed h is) in
    keeps _ _ _ studio feeds number feed (sym (asked g here studio feeds number feed h is) ∙ c.if-accepts_ref.true) fed

pub returns-clause-stands : goal.returns-clause-stands
returns-clause-stands g c = λ studio feeds number feed h is.
    let here = (goal.at.returns-clause-stands g c).After-accepts_ref in
    drops _ _ _ studio feeds number feed (sym (asked g here studio feeds number feed h is) ∙ c.if-accepts_ref.false) is h
