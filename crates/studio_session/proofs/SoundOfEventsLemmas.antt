-- The sounds that the packets of a studio's streams hold, and the values of the streams.
use Rattle.std.proofs.Common.{◌≡◌, ℕ, suc, ◌+◌, ◌<◌, ℤ, pos, ◌+ℤ◌, List, [], ◌∷◌, map, Some, slice_get, refl, sym, ap, subst, ◌∙◌, arith}
use Rattle.std.specs.Prelude.{All}
use Rattle.std.specs.Option.{option_map}
use Rattle.std.proofs.lemmas.Option.{get_or_from_slice_get, none-some, same_Some, slice_get-map, slice_get_within}
use Rattle.rtp_stream.specs.MarkFacts.{MarkView}
use Rattle.rtp_stream.specs.declared.mark.Body.{Body}
use Rattle.rtp_stream.specs.declared.mark.Body.TheVariants.{Got, Lost}
use Rattle.rtp_stream.specs.declared.mark.MarkKind.{MarkKind}
use Rattle.rtp_stream.specs.declared.mark.MarkKind.TheVariants.{Slot}
use Rattle.rtp_stream.specs.declared.stream_spec.Stream.{Stream}
use Rattle.rtp_stream.specs.StreamSpecFacts.{format_of}
use Rattle.path_merge.specs.MediaTime.{HoldsSound, IfGot}
use Rattle.path_merge.proofs.CarriedLemmas.{slots_hold, sound_by_timestamp}
use Rattle.lane_align.specs.Value.{sample_of}
use Rattle.studio_config.specs.Studio.{Studio}
use Rattle.studio_mix.specs.Feed.{Feed}
use Rattle.studio_mix.specs.Missing.{missing_in}
use Rattle.studio_mix.specs.Output.{datagram_of}
use Rattle.studio_mix.specs.Sound.{Sounds, AreOfSound, AreTwins, HasSound, sound_datagram}
use Rattle.studio_mix.proofs.WholeLemmas.{packets_sound, whole_datagram, whole_twins}
use Rattle.studio_session.specs.Event.{TraceEvent}
use Rattle.studio_session.specs.Session.{stream_history}
use Rattle.studio_session.specs.Play.{IsRunnableBy, feeds_from, feeds_of, stream_marks}
use Rattle.studio_session.specs.StreamSounds.{HasSounds, HasSoundsByTimestamp}
use Rattle.studio_session.proofs.SessionLemmas.{whole_at}

-- the feeds are those of the streams, in order
streams_from : (open_at : ℤ) (events : List TraceEvent) (number : ℕ) (streams : List Stream) → map (λ (feed : Feed). feed.stream) (feeds_from open_at events number streams) ≡ streams
streams_from open_at events number [] = refl
streams_from open_at events number (stream ∷ streams) = ap (λ l. stream ∷ l) (streams_from open_at events (suc number) streams)

pub streams_of_feeds : (studio : Studio) (events : List TraceEvent) → map (λ (feed : Feed). feed.stream) (feeds_of studio events) ≡ studio.streams
streams_of_feeds studio events = streams_from studio.open_at events 0 studio.streams

-- a feed has a stream of the studio, and all marks of it
feed_at : (studio : Studio) (events : List TraceEvent) (i : ℕ) (feed : Feed) → slice_get (feeds_of studio events) i ≡ Some feed
    → (slice_get studio.streams i ≡ Some feed.stream) × (stream_marks feed.stream i studio.open_at events ≡ feed.marks)
feed_at studio events i feed at =
    let here : slice_get studio.streams i ≡ Some feed.stream =
    ap (λ ss. slice_get ss i) (sym (streams_of_feeds studio events))
    ∙ slice_get-map (λ (feed : Feed). feed.stream) (feeds_of studio events) i
    ∙ ap (option_map (λ (feed : Feed). feed.stream)) at in
    let whole : Feed = record { stream = feed.stream; marks = stream_marks feed.stream (0 + i) studio.open_at events } in
    let same : whole ≡ feed = same_Some whole feed (sym (whole_at studio.open_at events 0 studio.streams i feed.stream here) ∙ at) in
    let plain : i ≡ 0 + i = omega arith in
    (here, ap (λ n. stream_marks feed.stream n studio.open_at events) plain ∙ ap (λ (feed : Feed). feed.marks) same)

-- the samples of a slot that holds a sound are the sound's
body_sound : (sound : ℤ → ℕ → ℤ) (stream : Stream) (epoch number : ℕ) (media : ℤ) (body : Body) (f k : ℕ) (sample : ℤ)
    → IfGot (λ epoch number media octets. HoldsSound stream sound media octets) (Slot epoch number media body)
    → f < stream.frames → k < stream.channels → sample_of (format_of stream) body f k ≡ Some sample → sample ≡ sound (media +ℤ pos f) k
body_sound sound stream epoch number media (Got payload) f k sample holds in_frames in_channels is =
    sym (same_Some _ sample is) ∙ holds f k in_frames in_channels
body_sound sound stream epoch number media Lost f k sample holds in_frames in_channels is = absurd (none-some sample is)

-- if the packets hold the sounds, each sample of each packet that came is the sound's at its time
pub packets_of_sound : (sound : Sounds) (studio : Studio) (events : List TraceEvent) → IsRunnableBy studio events → HasSounds sound studio events → AreOfSound sound (feeds_of studio events)
packets_of_sound sound studio events run has = record {
  each = λ i j feed mark epoch number media body f k sample at there slot in_frames in_channels is.
      let stream = feed.stream in
      let place = feed_at studio events i feed at in
      let runs = run.each i stream place.0 in
      let Holds : MarkKind → Type 0 = IfGot (λ epoch number media octets. HoldsSound stream (sound i) media octets) in
      let marks = stream_marks stream i studio.open_at events in
      let all : All (λ mark. Holds mark.kind) marks = slots_hold (sound i) stream studio.open_at (stream_history stream i events) runs.some_frames runs.well_timed (has.each i stream place.0) in
      let found : slice_get marks j ≡ Some mark = ap (λ ms. slice_get ms j) place.1 ∙ there in
      let one : Holds mark.kind = subst (λ (m : MarkView). Holds m.kind) (get_or_from_slice_get marks j mark mark found) (all j mark (slice_get_within marks j mark found)) in
      body_sound (sound i) stream epoch number media body f k sample (subst Holds slot one) in_frames in_channels is;
}

pub values_of_sound : (sound : Sounds) (studio : Studio) (events : List TraceEvent) → IsRunnableBy studio events → HasSounds sound studio events → HasSound sound (feeds_of studio events)
values_of_sound sound studio events run has = packets_sound (feeds_of studio events) sound (packets_of_sound sound studio events run has)

-- by the media clock the timestamps of the packets say from when on they hold the sounds
pub sounds_by_timestamp : (sound : Sounds) (studio : Studio) (events : List TraceEvent) → IsRunnableBy studio events → HasSoundsByTimestamp sound studio events → HasSounds sound studio events
sounds_by_timestamp sound studio events run has = record {
  each = λ i stream at.
      let one = has.each i stream at in
      sound_by_timestamp (sound i) stream studio.open_at (stream_history stream i events) one.offset one.is_stream one.clock (run.each i stream at).well_timed one.has_sound;
}

-- whole blocks of twins that received one sound are copies of one another
pub sound_copies : (sound : Sounds) (studio other : Studio) (events others : List TraceEvent) (n m : ℕ) → AreTwins studio other n m
    → IsRunnableBy studio events → IsRunnableBy other others → HasSounds sound studio events → HasSounds sound other others
    → (missing_in studio (feeds_of studio events) n).streams ≡ 0 → (missing_in other (feeds_of other others) m).streams ≡ 0
    → datagram_of other (feeds_of other others) m ≡ datagram_of studio (feeds_of studio events) n
sound_copies sound studio other events others n m twins run runs has have none neither =
    whole_twins studio other (feeds_of studio events) (feeds_of other others) sound n m twins
    (streams_of_feeds studio events) (streams_of_feeds other others)
    (values_of_sound sound studio events run has) (values_of_sound sound other others runs have) none neither

-- a whole block is the senders' mix
pub sound_mix : (sound : Sounds) (studio : Studio) (events : List TraceEvent) (n : ℕ) → IsRunnableBy studio events → HasSounds sound studio events
    → (missing_in studio (feeds_of studio events) n).streams ≡ 0 → datagram_of studio (feeds_of studio events) n ≡ sound_datagram studio sound n
sound_mix sound studio events n run has none =
    whole_datagram studio (feeds_of studio events) sound n (streams_of_feeds studio events) (values_of_sound sound studio events run has) none
