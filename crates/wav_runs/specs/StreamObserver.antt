-- A replay's events in the WAV file of one stream.
use Rattle.std.specs.Prelude.{ℕ, List, Option}
use Rattle.studio_session.specs.Event.{TraceEvent}
use Rattle.wav_runs.specs.StreamEvents.{HasFollowed, StreamWavState}
use Rattle.pcap_replay.specs.Observed.{HasHeardIf}

-- the file of a stream, if there is one, follows these events, whatever the datagrams
abbrev pub HasFollowedIf : Option StreamWavState → Option StreamWavState → List TraceEvent → List (List ℕ) → Type 0
HasFollowedIf first now events datagrams = HasHeardIf (λ first now events _. HasFollowed first now events) first now events datagrams
