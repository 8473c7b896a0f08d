use Rattle.std.proofs.Common.{[], ◌∷◌, ◌++◌, subst, w64}
use Rattle.std.proofs.lemmas.Int.{to_z-of_z}
use Rattle.studio_session.specs.Event.{Tick}
use Rattle.wav_runs.specs.StreamEvents.{HasFollowed}
use Rattle.wav_runs.proofs.stream_observer.StreamWavReplayObserver.read.Goals as goal

pub returns : goal.returns
returns g c = record {
  heard = λ begun events datagrams followed.
      subst (λ time. HasFollowed begun c.push_tick.new.self (events ++ Tick time ∷ [])) (to_z-of_z w64 c.args.time c.ranges.time) (c.push_tick.ensures begun events followed);
}
