-- The next datagram of the events so far.
use Rattle.std.specs.Prelude.{◌≡◌, ℕ, true, false, List, [], ◌∷◌, ◌++◌, length, drop}
use Rattle.mix_packets.specs.OutSpec.{datagram_length}
use Rattle.studio_config.specs.Studio.{Studio}
use Rattle.studio_mix.specs.Feed.{Feed}
use Rattle.studio_mix.specs.Ready.{have_ended, is_ready}
use Rattle.studio_session.specs.Event.{TraceEvent}
use Rattle.studio_session.specs.Fault.{closed_at}
use Rattle.studio_session.specs.Play.{SessionState, feeds_of}
use Rattle.studio_session.specs.Run.{HasGivenBlocks}

-- all streams have ended, and no block is left
pub record HasNoMore (studio : Studio) (feeds : List Feed) (next : ℕ) : Type 0 where
  pub ended : have_ended feeds ≡ true
  pub none : is_ready studio.output feeds next ≡ false

-- one more datagram was returned, at the start of the buffer
pub record GivesBlock (studio : Studio) (events : List TraceEvent) (session : SessionState) (datagrams : List (List ℕ)) (before after : List ℕ) (len : ℕ) : Type 0 where
  pub datagram : List ℕ
  pub len_is : len ≡ datagram_length studio.output
  pub written : after ≡ datagram ++ drop len before
  pub given : HasGivenBlocks studio events session (datagrams ++ datagram ∷ [])

-- no other block is ready by these events; after a close none is left
pub record HasNoBlock (studio : Studio) (events : List TraceEvent) (session : SessionState) (datagrams : List (List ℕ)) : Type 0 where
  pub given : HasGivenBlocks studio events session datagrams
  pub none : is_ready studio.output (feeds_of studio events) (length datagrams) ≡ false
  pub left : closed_at false events ≡ true → HasNoMore studio given.played.feeds (length datagrams)
