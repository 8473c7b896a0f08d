-- Events that come one by one: each is appended to the events so far.
use Rattle.std.proofs.Common.{◌≡◌, ◌<◌, ◌≤◌, ◌+◌, ℕ, min, nat_lt, true, List, [], ◌∷◌, ◌++◌, length, take, drop, get_or, slice_get, ℤ, Some, refl, sym, ap, subst, ◌∙◌, arith, append-nil, length-append, length-take}
use Rattle.std.proofs.lemmas.Bool.Decides.{nat_tests}
use Rattle.std.proofs.lemmas.Grind.{flat_map-append}
use Rattle.std.proofs.lemmas.List.{length_push, take-take, take-append-le, take-append-drop}
use Rattle.std.proofs.lemmas.Option.{slice_get_within, slice_get-get_or}
use Rattle.rtp_stream.specs.MarkFacts.{MarkView}
use Rattle.rtp_stream.specs.Marks.{marks_of}
use Rattle.rtp_stream.specs.History.{is_well_timed}
use Rattle.path_merge.proofs.LawLemmas.{marks_stay}
use Rattle.path_merge.proofs.MarkListLemmas.{listed}
use Rattle.studio_config.specs.Studio.{Studio}
use Rattle.studio_mix.specs.Blocks.{AreFirstBlocks}
use Rattle.studio_mix.specs.Feed.{Feed, AreLonger, IsLonger}
use Rattle.studio_mix.specs.Mixer.{MixerState}
use Rattle.studio_mix.proofs.LawLemmas.{ready_longer, ready_covered, datagram_longer}
use Rattle.studio_session.specs.PushedEvents.{AreHanded, HaveTaken, IsHanded}
use Rattle.studio_session.specs.Play.{HasPlayed, IsGiven, IsRunnableBy, feeds_of, stream_marks}
use Rattle.studio_session.proofs.PlayLemmas.{stream_at}
use Rattle.studio_session.proofs.SessionLemmas.{length_whole, whole_at}
use Rattle.rtp_stream.specs.declared.stream_spec.Stream.{Stream}
use Rattle.studio_session.specs.Event.{TraceEvent}
use Rattle.studio_session.specs.Session.{Other, event_in, step_of, stream_history}
use Rattle.studio_session.specs.Counts.{AreTallies, HasCounted}
use Rattle.studio_session.specs.ReadingSteps.{IsOnWay}
use Rattle.studio_session.specs.Cursor.{CursorState, HasPulled, IsRunnable, at_place}
use Rattle.studio_session.proofs.CountsLemmas.{uncounted}
use Rattle.studio_session.proofs.CursorLemmas.{pulled_more}

-- what a cursor took of a list of events, it took of a longer list that begins with these
pub pulled_longer : (stream : Stream) (number : ℕ) (open_at : ℤ) (events more : List TraceEvent) (cursor : CursorState) (k : ℕ)
    → HasPulled stream number open_at events cursor k → HasPulled stream number open_at (events ++ more) cursor k
pulled_longer stream number open_at events more cursor k p =
    let same = take-append-le cursor.place events more p.within in
    let len = length-append events more in
    let within = p.within in
    record {
      spec = p.spec;
      stream_number = p.stream_number;
      within = omega (arith, len, within);
      counted = subst (λ l. AreTallies stream number l cursor.tallies) (sym same) p.counted;
      stands = subst (λ l. IsOnWay stream open_at cursor.merge cursor.reading (stream_history stream number l) k) (sym same) p.stands;
    }

-- the event at the end of a list
pub last_here : (events : List TraceEvent) (event : TraceEvent) → slice_get (events ++ event ∷ []) (length events) ≡ Some event
last_here [] event = refl
last_here (e ∷ events) event = last_here events event

pub handed_at : (events : List TraceEvent) (event : TraceEvent) (place : ℕ) → place ≡ length events → slice_get (events ++ event ∷ []) place ≡ Some event
handed_at events event place end = subst (λ p. slice_get (events ++ event ∷ []) p ≡ Some event) (sym end) (last_here events event)

-- a cursor that passes over another stream's datagram at the end has taken all events
pub handed_other : (event : TraceEvent) (number : ℕ) (cursor : CursorState) → ((stream : Stream) → step_of stream number event ≡ Other) → IsHanded event number cursor (at_place (cursor.place + 1) cursor)
handed_other event number cursor other = record {
  spec = refl;
  place = refl;
  stands = λ stream open_at events k run end pulled.
      let all = events ++ event ∷ [] in
      let longer = pulled_longer stream number open_at events (event ∷ []) cursor k pulled in
      let before = stream_history stream number (take cursor.place all) in
      pulled_more stream number open_at all event k cursor (at_place (cursor.place + 1) cursor) longer (handed_at events event cursor.place end) refl refl refl
      (subst (λ s. HasCounted s cursor.tallies cursor.tallies) (sym (other stream)) (uncounted cursor.tallies Other (λ path tally. refl)))
      (subst (λ s. IsOnWay stream open_at cursor.merge cursor.reading (before ++ event_in s) k) (sym (other stream))
      (subst (λ l. IsOnWay stream open_at cursor.merge cursor.reading l k) (sym (append-nil before)) longer.stands));
}

-- the marks of some events are the first of the marks of these and further events
marks_longer : (stream : Stream) (number : ℕ) (open_at : ℤ) (events more : List TraceEvent) → IsRunnable stream number open_at (events ++ more)
    → take (length (stream_marks stream number open_at events)) (stream_marks stream number open_at (events ++ more)) ≡ stream_marks stream number open_at events
marks_longer stream number open_at events more run =
    let one = λ (e : TraceEvent). event_in (step_of stream number e) in
    let both = flat_map-append one events more in
    ap (λ h. take (length (stream_marks stream number open_at events)) (marks_of stream open_at h)) both
    ∙ marks_stay stream open_at run.some_frames (stream_history stream number events) (stream_history stream number more) (ap (is_well_timed open_at) (sym both) ∙ run.well_timed)

-- the first marks of a list are the first marks of a longer list that begins with it
first_longer : (marks some all : List MarkView) → marks ≡ take (length marks) some → take (length some) all ≡ some → marks ≡ take (length marks) all
first_longer marks some all is longer =
    let k = length marks in
    let n : k ≡ min k (length some) = ap length is ∙ length-take k some in
    let within : k ≤ length some = omega (arith, n) in
    is ∙ ap (take k) (sym longer) ∙ take-take k (length some) all within

-- the marks that a stream's cursor returned are the first of all its marks after one more event
pub given_handed : (studio : Studio) (events : List TraceEvent) (event : TraceEvent) (mixer : MixerState) (first cursors : List CursorState) (next : ℕ)
    → IsRunnableBy studio (events ++ event ∷ []) → HaveTaken events first → AreHanded event first cursors (length first)
    → (played : HasPlayed studio events (record { mixer = mixer; cursors = first }) next)
    → (i : ℕ) (cursor : CursorState) (feed : Feed) → slice_get cursors i ≡ Some cursor → slice_get played.feeds i ≡ Some feed → IsGiven i studio.open_at (events ++ event ∷ []) cursor feed
given_handed studio events event mixer first cursors next run taken handed played i cursor feed c_is f_is =
    let within : i < length cursors = slice_get_within cursors i cursor c_is in
    let long = handed.length_is in
    let here : i < length first = omega (arith, within, long) in
    let old = get_or first i cursor in
    let o_is : slice_get first i ≡ Some old = slice_get-get_or first i cursor here in
    let one = handed.each i old cursor here o_is c_is in
    let before = played.given i old feed o_is f_is in
    let runs : IsRunnable feed.stream i studio.open_at (events ++ event ∷ []) = run.each i feed.stream (stream_at studio mixer played.feeds next i feed played.fed f_is) in
    record {
      pulled = one.stands feed.stream studio.open_at events (length feed.marks) runs (taken i cursor here) before.pulled;
      first = first_longer feed.marks (stream_marks feed.stream i studio.open_at events) (stream_marks feed.stream i studio.open_at (events ++ event ∷ [])) before.first
          (marks_longer feed.stream i studio.open_at events (event ∷ []) runs);
    }

-- what was played of a list of events was played of the list with one more event
pub played_handed : (studio : Studio) (events : List TraceEvent) (event : TraceEvent) (mixer : MixerState) (first cursors : List CursorState) (next : ℕ)
    → IsRunnableBy studio (events ++ event ∷ []) → HaveTaken events first → AreHanded event first cursors (length first)
    → HasPlayed studio events (record { mixer = mixer; cursors = first }) next
    → HasPlayed studio (events ++ event ∷ []) (record { mixer = mixer; cursors = cursors }) next
played_handed studio events event mixer first cursors next run taken handed played = record {
  feeds = played.feeds;
  fed = played.fed;
  count = handed.length_is ∙ played.count;
  given = given_handed studio events event mixer first cursors next run taken handed played;
}

-- each cursor took all events, one more included
pub taken_handed : (events : List TraceEvent) (event : TraceEvent) (first cursors : List CursorState) → HaveTaken events first → AreHanded event first cursors (length first)
    → HaveTaken (events ++ event ∷ []) cursors
taken_handed events event first cursors taken handed = λ i d within.
    let long = handed.length_is in
    let here : i < length first = omega (arith, within, long) in
    let one = handed.each i (get_or first i d) (get_or cursors i d) here (slice_get-get_or first i d here) (slice_get-get_or cursors i d within) in
    one.place ∙ ap (λ n. n + 1) (taken i d here) ∙ sym (length_push events event)

-- all marks of a studio's streams after more events
pub feeds_longer : (studio : Studio) (events more : List TraceEvent) → IsRunnableBy studio (events ++ more) → AreLonger (feeds_of studio events) (feeds_of studio (events ++ more))
feeds_longer studio events more run = record {
  count = length_whole studio.open_at (events ++ more) 0 studio.streams ∙ sym (length_whole studio.open_at events 0 studio.streams);
  each = λ i feed long at there.
      let within : i < length (feeds_of studio events) = slice_get_within (feeds_of studio events) i feed at in
      let count = length_whole studio.open_at events 0 studio.streams in
      let here : i < length studio.streams = omega (arith, within, count) in
      let stream : Stream = get_or studio.streams i feed.stream in
      let s_is : slice_get studio.streams i ≡ Some stream = slice_get-get_or studio.streams i feed.stream here in
      let zero_more : 0 + i ≡ i = omega arith in
      let some = stream_marks stream i studio.open_at events in
      let all = stream_marks stream i studio.open_at (events ++ more) in
      let feed_is : record { stream = stream; marks = some } ≡ feed =
      some_same (ap (λ n. Some (record { stream = stream; marks = stream_marks stream n studio.open_at events })) (sym zero_more) ∙ sym (whole_at studio.open_at events 0 studio.streams i stream s_is) ∙ at) in
      let long_is : record { stream = stream; marks = all } ≡ long =
      some_same (ap (λ n. Some (record { stream = stream; marks = stream_marks stream n studio.open_at (events ++ more) })) (sym zero_more) ∙ sym (whole_at studio.open_at (events ++ more) 0 studio.streams i stream s_is) ∙ there) in
      let runs = run.each i stream s_is in
      let longer : IsLonger (record { stream = stream; marks = some }) (record { stream = stream; marks = all }) = record {
        more = drop (length some) all;
        stream = refl;
        marks = sym (take-append-drop (length some) all) ∙ ap (λ l. l ++ drop (length some) all) (marks_longer stream i studio.open_at events more runs);
        listed = listed stream studio.open_at (stream_history stream i (events ++ more)) runs.some_frames runs.well_timed;
      } in
      subst (λ f. IsLonger f long) feed_is (subst (IsLonger (record { stream = stream; marks = some })) long_is longer);
}
  where
    some_same : {f g : Feed} → Some f ≡ Some g → f ≡ g
    some_same e = cc

-- blocks that are ready stay ready after more events, with the same datagrams
pub blocks_handed : (studio : Studio) (events more : List TraceEvent) (datagrams : List (List ℕ)) → IsRunnableBy studio (events ++ more)
    → AreFirstBlocks studio (feeds_of studio events) datagrams → AreFirstBlocks studio (feeds_of studio (events ++ more)) datagrams
blocks_handed studio events more datagrams run blocks =
    let feeds = feeds_of studio events in
    let whole = feeds_of studio (events ++ more) in
    let longer = feeds_longer studio events more run in
    record {
      ready = λ n h.
          let ready = blocks.ready n h in
          ready_longer studio.output feeds whole n run.some_frames longer (ready_covered studio.output feeds n ready) ∙ ready;
      each = λ n datagram at.
          let within : n < length datagrams = slice_get_within datagrams n datagram at in
          let h : nat_lt n (length datagrams) ≡ true = grind (arith, nat_tests, within) in
          blocks.each n datagram at ∙ sym (datagram_longer studio feeds whole n longer (ready_covered studio.output feeds n (blocks.ready n h)));
    }
