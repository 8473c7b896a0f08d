-- The health of a studio's run, as its status shows it.
use Rattle.std.specs.Prelude.{◌≡◌, ◌<◌, ⊤, Bool, IfSome, is_some}
use Rattle.studio_config.specs.Networks.{path_address}
use Rattle.studio_config.specs.Studio.{Studio}
use Rattle.status_page.specs.declared.snapshot.SocketState.{SocketState}
use Rattle.live_status.specs.Health.{OfFailed, OfIncomplete, OfLeftOut, OfOutputs, OfSentLate, OfSocket, OfStale, Said}

-- a socket is that of one of a stream's four paths, and its datagrams from unexpected sources are known exactly if the
-- path has a source; nothing is known of the numbers, which other threads set
abbrev pub IsSaidOf : Studio → Said → Type 0
IsSaidOf studio (OfSocket stream path state) =
    IfSome state (λ (socket : SocketState). (path < 4) × (is_some socket.unexpected ≡ is_some (path_address studio.networks.sources stream path)))
IsSaidOf studio (OfFailed failed) = ⊤
IsSaidOf studio (OfStale stale) = ⊤
IsSaidOf studio (OfIncomplete incomplete) = ⊤
IsSaidOf studio (OfSentLate sent_late) = ⊤
IsSaidOf studio (OfLeftOut left_out) = ⊤
IsSaidOf studio (OfOutputs states) = ⊤
