-- The history of a stream whose datagrams arrived.
use Rattle.std.specs.Prelude.{◌≡◌, Bool, false, nat_lt, List, [], ◌∷◌, ◌++◌, flat_map, ℤ}
use Rattle.std.specs.List.{list_all}
use Rattle.rtp_stream.specs.declared.stream_spec.Stream.{Stream}
use Rattle.rtp_stream.specs.History.{is_well_timed}
use Rattle.rtp_stream.specs.declared.event.Event.{Event}
use Rattle.rtp_stream.specs.declared.event.Event.TheVariants.{Tick, Close}
use Rattle.rtp_stream.specs.Reception.{reception_of}
use Rattle.studio_session.specs.Session.{Datagram, event_in}
use Rattle.example_callers.specs.declared.arrival.Arrival.{Arrival}
use Rattle.example_callers.specs.declared.receive.ReceiveFault.{ReceiveFault}
use Rattle.example_callers.specs.declared.receive.ReceiveFault.TheVariants.{Path, Clock, Memory}

-- the clock reading at a datagram's arrival, and then its packet, if it is one of the stream
abbrev pub events_of : Stream → Arrival → List Event
events_of stream arrival = Tick arrival.time ∷ event_in (Datagram arrival.path (reception_of stream arrival.datagram.now))

abbrev pub events_of_all : Stream → List Arrival → List Event
events_of_all stream arrivals = flat_map (λ (arrival : Arrival). events_of stream arrival) arrivals

-- the events of all datagrams, and then the close
abbrev pub history_of : Stream → List Arrival → List Event
history_of stream arrivals = events_of_all stream arrivals ++ Close ∷ []

-- each datagram came on a path that the stream has
abbrev pub are_on_paths : Stream → List Arrival → Bool
are_on_paths stream arrivals = list_all (λ (arrival : Arrival). nat_lt arrival.path stream.paths) arrivals

-- the meaning of a fault of these datagrams
abbrev pub IsFaultOf : Stream → ℤ → List Arrival → ReceiveFault → Type 0
IsFaultOf stream open_at arrivals Path = are_on_paths stream arrivals ≡ false
IsFaultOf stream open_at arrivals (Clock fault) = is_well_timed open_at (history_of stream arrivals) ≡ false
IsFaultOf stream open_at arrivals Memory = Unit {0}
