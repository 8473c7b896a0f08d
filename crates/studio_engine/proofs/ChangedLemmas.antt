-- An engine that took a change of gains.
use Rattle.std.proofs.Common.{◌≡◌, ℕ, ◌+◌, ◌*◌, ◌<◌, ◌≤◌, ◌≤ℤ◌, ℤ, List, [], length, All, refl, sym, ap, subst, ◌∙◌, arith}
use Rattle.std.proofs.Math.Nat.{mul-le-mul_right}
use Rattle.std.proofs.lemmas.Int.{ints}
use Rattle.std.proofs.lemmas.Option.{slice_get_within}
use Rattle.mix_packets.specs.declared.out_spec.Output.{Output}
use Rattle.mix_packets.specs.Block.{block_start}
use Rattle.studio_config.specs.Studio.{Studio}
use Rattle.studio_io.specs.Gains.{changes_in}
use Rattle.studio_io.specs.declared.gain_source.GainAnswer.{GainAnswer}
use Rattle.studio_io.specs.declared.gain_source.GainAnswer.TheVariants.{Taken, Refused, Shown}
use Rattle.studio_mix.specs.Changed.{with_changes, with_gains}
use Rattle.studio_mix.specs.Feed.{Feed}
use Rattle.studio_mix.specs.Mixer.{HasFeeds, MixerState, next_start_of}
use Rattle.studio_mix.specs.LaneCapacity.{capacities_of}
use Rattle.studio_mix.proofs.ChangedLemmas.{datagram_unchanged}
use Rattle.studio_session.specs.Event.{TraceEvent}
use Rattle.studio_session.specs.Play.{feeds_of}
use Rattle.studio_engine.specs.Engine.{EngineState}
use Rattle.studio_engine.specs.Session.{HasSession}

-- a block ends at the start of the next one, or before later ones
block_ends : (out : Output) (n count : ℕ) → n < count → block_start out (n + 1) ≤ℤ block_start out count
block_ends out n count h = let p : (n + 1) * out.frames ≤ count * out.frames = mul-le-mul_right out.frames (omega (arith, h)) in omega (arith, ints, p)

pub session_changed : (studio : Studio) (old : EngineState) (mixer : MixerState) (at : ℤ) (gains : List ℤ) (events : List TraceEvent) (datagrams : List (List ℕ))
    → ((feeds : List Feed) (number : ℕ) → HasFeeds studio old.mixer feeds number → HasFeeds (with_gains studio at gains) mixer feeds number)
    → mixer.lanes ≡ old.mixer.lanes → block_start old.mixer.packer.spec old.mixer.packer.number ≤ℤ at
    → HasSession studio old events datagrams
    → HasSession (with_gains studio at gains) (record { mixer = mixer; cursors = old.cursors; time = old.time; turning = old.turning; closed = old.closed; settled = old.settled; count = old.count }) events datagrams
session_changed studio old mixer at gains events datagrams fed lanes early s =
    let played = s.given.played in
    let first = s.given.first in
    let next : block_start old.mixer.packer.spec old.mixer.packer.number ≡ block_start studio.output (length datagrams) =
    ap (λ (o : Output). block_start o old.mixer.packer.number) played.fed.output ∙ ap (block_start studio.output) played.fed.number in
    record {
      lawful = s.lawful;
      runnable = record { some_frames = s.runnable.some_frames; each = s.runnable.each };
      time = s.time;
      closed = s.closed;
      count = s.count;
      capacities = record { capacities = ap capacities_of lanes ∙ s.capacities.capacities };
      given = record {
        played = record { feeds = played.feeds; fed = fed played.feeds (length datagrams) played.fed; count = played.count; given = played.given };
        first = record {
          ready = first.ready;
          each = λ n datagram is.
              let ends = block_ends studio.output n (length datagrams) (slice_get_within datagrams n datagram is) in
              let before : block_start studio.output (n + 1) ≤ℤ at = omega (arith, ints, early, next, ends) in
              first.each n datagram is ∙ sym (datagram_unchanged studio (feeds_of studio events) n at _ before);
        };
      };
      settled = λ e. let more = s.settled e in record { ended = more.ended; none = more.none };
    }

-- an engine that answered a request
pub session_answered : (studio : Studio) (old : EngineState) (mixer : MixerState) (answer : GainAnswer) (gains : List ℤ) (events : List TraceEvent) (datagrams : List (List ℕ))
    → ((feeds : List Feed) (number : ℕ) → HasFeeds studio old.mixer feeds number → HasFeeds (with_changes studio (changes_in answer gains)) mixer feeds number)
    → mixer.lanes ≡ old.mixer.lanes → All (λ (change : ℤ × List ℤ). next_start_of old.mixer ≤ℤ change.0) (changes_in answer gains)
    → (changes_in answer gains ≡ [] → mixer ≡ old.mixer)
    → HasSession studio old events datagrams
    → HasSession (with_changes studio (changes_in answer gains)) (record { mixer = mixer; cursors = old.cursors; time = old.time; turning = old.turning; closed = old.closed; settled = old.settled; count = old.count }) events datagrams
session_answered studio old mixer (Taken at) gains events datagrams fed lanes later kept s = session_changed studio old mixer at gains events datagrams fed lanes (later 0 (at, gains) (omega arith)) s
session_answered studio old mixer (Refused fault) gains events datagrams fed lanes later kept s =
    subst (λ (m : MixerState). HasSession studio (record { mixer = m; cursors = old.cursors; time = old.time; turning = old.turning; closed = old.closed; settled = old.settled; count = old.count }) events datagrams) (sym (kept refl)) s
session_answered studio old mixer (Shown at) gains events datagrams fed lanes later kept s =
    subst (λ (m : MixerState). HasSession studio (record { mixer = m; cursors = old.cursors; time = old.time; turning = old.turning; closed = old.closed; settled = old.settled; count = old.count }) events datagrams) (sym (kept refl)) s
