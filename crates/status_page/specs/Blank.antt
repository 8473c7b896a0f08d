-- The states of paths and streams on which nothing has arrived.
use Rattle.std.specs.Prelude.{◌≡◌, ℕ, false, Option, None, replicate}
use Rattle.arrayvec.specs.ArrayString.{ArrayString}
use Rattle.rtp_stream.specs.Counts.{tally_of}
use Rattle.rtp_stream.specs.CountsFacts.{empty_tally}
use Rattle.status_page.specs.declared.snapshot.Condition.TheVariants.{NoPacket}
use Rattle.status_page.specs.declared.snapshot.PathState.{PathState}
use Rattle.status_page.specs.declared.snapshot.StreamState.{StreamState}

-- a path on which nothing has arrived and about which nothing is known
abbrev pub blank_path : PathState
blank_path = record { condition = None; datagrams = 0; first = 0; counts = None; copies = None; spare = None; socket = None; drift = None; is_astray = false; is_repeating = false }

-- a stream with this name, latency and number of paths, on which nothing has arrived
pub record IsBlank (name : Option ArrayString) (latency paths : ℕ) (stream : StreamState) : Type 0 where
  pub name_is : stream.name ≡ name
  pub condition_is : stream.condition ≡ NoPacket
  pub latency_is : stream.latency ≡ latency
  pub left_is : stream.seconds_left ≡ None
  pub counts_are : tally_of stream.counts ≡ empty_tally
  pub paths_are : stream.paths.items ≡ replicate paths blank_path
