use Rattle.std.proofs.Common.{◌≡◌, ◌++◌, ◌∷◌, [], subst}
use Rattle.rtp_stream.specs.StreamSpecFacts.{format_of}
use Rattle.rtp_stream.specs.MarkList.{is_mark_list}
use Rattle.studio_mix.proofs.mixer.Mixer.accepts.Goals as goal

pub returns-clause-stands : goal.returns-clause-stands
returns-clause-stands c = λ studio feeds number feed fed at.
    subst (λ m. c.accepts_ref.result ≡ is_mark_list (format_of feed.stream) (feed.marks ++ m ∷ [])) c.as_ref.ensures (c.accepts_ref.ensures.stands studio feeds number feed fed at)
