-- A session stream by stream, and its blocks compared with those of all marks.
use Rattle.std.proofs.Common.{◌≡◌, ◌⊎◌, inl, inr, ◌<◌, ◌≤◌, ◌+◌, ℕ, zero, suc, true, false, not, ◌&&◌, ◌||◌, nat_lt, List, [], ◌∷◌, ◌++◌, length, drop, set, ℤ, Option, Some, None, is_some, IfSome, slice_get, refl, sym, ap, subst, ◌∙◌, arith}
use Rattle.std.proofs.lemmas.Bool.{cases_Bool, cases_eq, false≢true}
use Rattle.std.proofs.lemmas.List.{length-map, length-set, set-get_or, take-append-drop}
use Rattle.std.proofs.lemmas.Option.{slice_get_within, get_or_from_slice_get}
use Rattle.rtp_stream.specs.declared.stream_spec.Stream.{Stream}
use Rattle.rtp_stream.specs.StreamSpecFacts.{format_of}
use Rattle.rtp_stream.specs.MarkFacts.{MarkView}
use Rattle.rtp_stream.specs.MarkList.{is_mark_list}
use Rattle.path_merge.proofs.MarkListLemmas.{listed}
use Rattle.lane_align.specs.Cover.{covers, cover_of}
use Rattle.lane_align.proofs.MarkListLemmas.{both_left, both_right}
use Rattle.mix_packets.specs.OutSpec.{datagram_length}
use Rattle.mix_packets.specs.Block.{block_start}
use Rattle.studio_config.specs.Studio.{Studio}
use Rattle.studio_mix.specs.Feed.{Feed, IsLonger, AreLonger}
use Rattle.studio_mix.specs.Mixer.{MixerState, HasFeeds}
use Rattle.studio_mix.specs.Ready.{are_covered, have_ended, block_count, is_ready}
use Rattle.studio_mix.specs.Output.{datagram_of}
use Rattle.studio_mix.proofs.BlockLemmas.{feed_at}
use Rattle.studio_mix.proofs.MixerLemmas.{set_same_at, set_other_at}
use Rattle.studio_mix.proofs.LawLemmas.{ready_longer, ready_covered, datagram_longer}
use Rattle.studio_session.specs.Event.{TraceEvent}
use Rattle.studio_session.specs.Session.{stream_history}
use Rattle.studio_session.specs.Cursor.{CursorState}
use Rattle.studio_session.specs.Play.{SessionState, HasFilled, HasPlayed, IsFinal, IsGiven, IsRunnableBy, Plays, PlaysFinal, feeds_from, feeds_of, stream_marks}
use Rattle.studio_session.proofs.PlayLemmas.{stream_at}

-- a stream of a session before its cursor moves
pub plays_of : (studio : Studio) (events : List TraceEvent) (mixer : MixerState) (cursors : List CursorState) (next i : ℕ) (cursor : CursorState)
    → (played : HasPlayed studio events (record { mixer = mixer; cursors = cursors }) next) → slice_get cursors i ≡ Some cursor
    → Plays studio events played.feeds next i mixer cursor
plays_of studio events mixer cursors next i cursor played at =
    let within : i < length cursors = slice_get_within cursors i cursor at in
    let count = played.count in
    let found = feed_at played.feeds i (omega (arith, within, count)) in
    let same : set played.feeds i found.0 ≡ played.feeds =
    ap (set played.feeds i) (sym (get_or_from_slice_get played.feeds i found.0 found.0 found.1)) ∙ set-get_or played.feeds i found.0 in
    record {
      feed = found.0;
      fed = subst (λ fs. HasFeeds studio mixer fs next) (sym same) played.fed;
      given = played.given i cursor found.0 at found.1;
    }

-- the mixer has what the next block needs of one more stream
pub filled_more : (studio : Studio) (events : List TraceEvent) (mixer new : MixerState) (cursors : List CursorState) (next i : ℕ) (moved : CursorState)
    → (filled : HasFilled studio events (record { mixer = mixer; cursors = cursors }) next i) → i < length cursors
    → PlaysFinal studio events filled.played.feeds next i new moved
    → HasFilled studio events (record { mixer = new; cursors = set cursors i moved }) next (i + 1)
filled_more studio events mixer new cursors next i moved filled within last =
    let played = filled.played in
    let feeds = played.feeds in
    let f : Feed = last.plays.feed in
    let count = played.count in
    let in_feeds : i < length feeds = omega (arith, within, count) in
    record {
      played = record {
        feeds = set feeds i f;
        fed = last.plays.fed;
        count = length-set cursors i moved ∙ played.count ∙ sym (length-set feeds i f);
        given = λ j cursor feed c_is f_is. elim (cases_eq j i) [
          | inl e ↦
              let c' : cursor ≡ moved = set_same_at cursors i moved cursor within (subst (λ k. slice_get (set cursors i moved) k ≡ Some cursor) e c_is) in
              let f' : feed ≡ f = set_same_at feeds i f feed in_feeds (subst (λ k. slice_get (set feeds i f) k ≡ Some feed) e f_is) in
              subst (λ k. IsGiven k studio.open_at events cursor feed) (sym e)
              (subst (λ x. IsGiven i studio.open_at events x feed) (sym c')
              (subst (λ x. IsGiven i studio.open_at events moved x) (sym f') last.plays.given))
          | inr ne ↦ played.given j cursor feed (set_other_at cursors i j moved cursor ne c_is) (set_other_at feeds i j f feed ne f_is)
        ];
      };
      final = λ j feed h f_is. elim (cases_eq j i) [
        | inl e ↦
            let f' : feed ≡ f = set_same_at feeds i f feed in_feeds (subst (λ k. slice_get (set feeds i f) k ≡ Some feed) e f_is) in
            subst (λ k. IsFinal studio events next k feed) (sym e) (subst (IsFinal studio events next i) (sym f') last.final)
        | inr ne ↦ filled.final j feed (omega (arith, h, ne)) (set_other_at feeds i j f feed ne f_is)
      ];
    }

-- all marks of a stream, by its place
pub whole_at : (open_at : ℤ) (events : List TraceEvent) (number : ℕ) (streams : List Stream) (i : ℕ) (stream : Stream) → slice_get streams i ≡ Some stream
    → slice_get (feeds_from open_at events number streams) i ≡ Some (record { stream = stream; marks = stream_marks stream (number + i) open_at events })
whole_at open_at events number [] i stream at = absurd (let e : None ≡ Some stream = at in cc)
whole_at open_at events number (s ∷ streams) zero stream at =
    let same : s ≡ stream = get_or_from_slice_get (s ∷ streams) 0 stream stream at in
    ap (λ (x : Stream). Some (record { stream = x; marks = stream_marks x number open_at events })) same
    ∙ ap (λ n. Some (record { stream = stream; marks = stream_marks stream n open_at events })) (let e : number ≡ number + 0 = omega arith in e)
whole_at open_at events number (s ∷ streams) (suc i) stream at =
    whole_at open_at events (suc number) streams i stream at
    ∙ ap (λ n. Some (record { stream = stream; marks = stream_marks stream n open_at events })) (let e : suc number + i ≡ number + suc i = omega arith in e)

pub length_whole : (open_at : ℤ) (events : List TraceEvent) (number : ℕ) (streams : List Stream) → length (feeds_from open_at events number streams) ≡ length streams
length_whole open_at events number [] = refl
length_whole open_at events number (s ∷ streams) = ap suc (length_whole open_at events (suc number) streams)

abbrev said_or : Option Feed → Feed → Feed
said_or None d = d
said_or (Some feed) d = feed

-- all marks of a feed's stream
abbrev whole_of : Studio → List TraceEvent → ℕ → Feed → Feed
whole_of studio events i feed = record { stream = feed.stream; marks = stream_marks feed.stream i studio.open_at events }

whole_is : (studio : Studio) (events : List TraceEvent) (mixer : MixerState) (feeds : List Feed) (next i : ℕ) (feed long : Feed) → HasFeeds studio mixer feeds next
    → slice_get feeds i ≡ Some feed → slice_get (feeds_of studio events) i ≡ Some long → long ≡ whole_of studio events i feed
whole_is studio events mixer feeds next i feed long fed at there =
    let is = whole_at studio.open_at events 0 studio.streams i feed.stream (stream_at studio mixer feeds next i feed fed at) in
    ap (λ o. said_or o long) (sym there ∙ is)
    ∙ ap (λ n. record { stream = feed.stream; marks = stream_marks feed.stream n studio.open_at events }) (let e : 0 + i ≡ i = omega arith in e)

-- the marks that the cursors returned are the first part of all marks
pub are_longer : (studio : Studio) (events : List TraceEvent) (session : SessionState) (next : ℕ) → IsRunnableBy studio events → (played : HasPlayed studio events session next)
    → AreLonger played.feeds (feeds_of studio events)
are_longer studio events session next run played = record {
  count =
      length_whole studio.open_at events 0 studio.streams
      ∙ ap length (sym played.fed.streams)
      ∙ length-map played.feeds (λ (f : Feed). f.stream);
  each = λ i feed long at there.
      let within : i < length played.feeds = slice_get_within played.feeds i feed at in
      let count = played.count in
      let found = cursor_at session.cursors i (omega (arith, within, count)) in
      let given = played.given i found.0 feed found.1 at in
      let is = whole_is studio events session.mixer played.feeds next i feed long played.fed at there in
      let whole = stream_marks feed.stream i studio.open_at events in
      let here = run.each i feed.stream (stream_at studio session.mixer played.feeds next i feed played.fed at) in
      record {
        more = drop (length feed.marks) whole;
        stream = ap (λ (f : Feed). f.stream) is;
        marks = ap (λ (f : Feed). f.marks) is ∙ sym (take-append-drop (length feed.marks) whole) ∙ ap (λ l. l ++ drop (length feed.marks) whole) (sym given.first);
        listed = subst (λ (f : Feed). is_mark_list (format_of f.stream) f.marks ≡ true) (sym is) (listed feed.stream studio.open_at (stream_history feed.stream i events) here.some_frames here.well_timed);
      };
}
  where
    cursor_at : (cursors : List CursorState) (i : ℕ) → i < length cursors → (cursor : CursorState) × (slice_get cursors i ≡ Some cursor)
    cursor_at [] i h = absurd (omega (arith, h))
    cursor_at (cursor ∷ cursors) zero h = (cursor, refl)
    cursor_at (cursor ∷ cursors) (suc i) h = cursor_at cursors i (omega (arith, h))

-- if the marks that a stream returned are final to a time, or are all its marks, then they cover the time if all its
-- marks do
covers_same : (feed long : Feed) (t : ℤ) → IsLonger feed long → (covers (cover_of (format_of feed.stream) feed.marks) t ≡ true) ⊎ (long ≡ feed)
    → covers (cover_of (format_of long.stream) long.marks) t ≡ true → covers (cover_of (format_of feed.stream) feed.marks) t ≡ true
covers_same feed long t l (inl covered) h = covered
covers_same feed long t l (inr same) h = ap (λ (f : Feed). covers (cover_of (format_of f.stream) f.marks) t) (sym same) ∙ h

covered_same : (feeds longer : List Feed) (t : ℤ) → AreLonger feeds longer
    → ((i : ℕ) (feed long : Feed) → slice_get feeds i ≡ Some feed → slice_get longer i ≡ Some long → (covers (cover_of (format_of feed.stream) feed.marks) t ≡ true) ⊎ (long ≡ feed))
    → are_covered longer t ≡ true → are_covered feeds t ≡ true
covered_same [] longer t l final h = refl
covered_same (feed ∷ feeds) [] t l final h = absurd (let e = l.count in omega (arith, e))
covered_same (feed ∷ feeds) (long ∷ longer) t l final h =
    ap (λ b. b && are_covered feeds t) (covers_same feed long t (l.each 0 feed long refl refl) (final 0 feed long refl refl) (both_left (covers (cover_of (format_of long.stream) long.marks) t) (are_covered longer t) h))
    ∙ covered_same feeds longer t (record { count = let e = l.count in omega (arith, e); each = λ i f g at there. l.each (suc i) f g at there })
    (λ i f g at there. final (suc i) f g at there)
    (both_right (covers (cover_of (format_of long.stream) long.marks) t) (are_covered longer t) h)

-- the next block is ready by the marks that were returned exactly if it is ready by all marks
pub ready_same : (studio : Studio) (events : List TraceEvent) (session : SessionState) (next count : ℕ) → IsRunnableBy studio events
    → (filled : HasFilled studio events session next count) → length session.cursors ≤ count
    → is_ready studio.output filled.played.feeds next ≡ is_ready studio.output (feeds_of studio events) next
ready_same studio events session next count run filled all =
    let feeds = filled.played.feeds in
    let whole = feeds_of studio events in
    let longer = are_longer studio events session next run filled.played in
    let t = block_start studio.output (next + 1) in
    let some = run.some_frames in
    elim (cases_Bool (are_covered feeds t)) [
      | inl covered ↦ sym (ready_longer studio.output feeds whole next some longer covered)
      | inr not_covered ↦
          let not_ready : is_ready studio.output feeds next ≡ false = ap (λ b. b && (not (have_ended feeds) || nat_lt next (block_count studio.output feeds))) not_covered in
          let whole_not : is_ready studio.output whole next ≡ false = elim (cases_Bool (is_ready studio.output whole next)) [
            | inl ready ↦ absurd (false≢true (sym not_covered ∙ covered_same feeds whole t longer
                (λ i feed long at there.
                let within : i < length feeds = slice_get_within feeds i feed at in
                let n = filled.played.count in
                last feed long i (whole_is studio events session.mixer feeds next i feed long filled.played.fed at there) (filled.final i feed (omega (arith, within, n, all)) at))
                (ready_covered studio.output whole next ready)))
            | inr not_ready' ↦ not_ready'
          ] in
          not_ready ∙ sym whole_not
    ]
  where
    last : (feed long : Feed) → (i : ℕ) → long ≡ whole_of studio events i feed → IsFinal studio events next i feed
        → (covers (cover_of (format_of feed.stream) feed.marks) (block_start studio.output (next + 1)) ≡ true) ⊎ (long ≡ feed)
    last feed long i is (inl covered) = inl covered
    last feed long i is (inr all_given) = inr (is ∙ ap (λ (m : List MarkView). record { stream = feed.stream; marks = m }) (sym all_given))

pub datagram_same : (studio : Studio) (events : List TraceEvent) (session : SessionState) (next : ℕ) → IsRunnableBy studio events
    → (played : HasPlayed studio events session next) → is_ready studio.output played.feeds next ≡ true
    → datagram_of studio played.feeds next ≡ datagram_of studio (feeds_of studio events) next
datagram_same studio events session next run played ready =
    sym (datagram_longer studio played.feeds (feeds_of studio events) next (are_longer studio events session next run played) (ready_covered studio.output played.feeds next ready))

abbrev Gives : List TraceEvent → SessionState → SessionState → List ℕ → List ℕ → ℕ → Type 0
Gives events old new before out len = (studio : Studio) (next : ℕ) → IsRunnableBy studio events → HasPlayed studio events old next
    → (len ≡ datagram_length studio.output) × (out ≡ datagram_of studio (feeds_of studio events) next ++ drop len before) × HasPlayed studio events new (next + 1)

abbrev Writes : MixerState → MixerState → List ℕ → List ℕ → ℕ → Type 0
Writes old new before out len = (studio : Studio) (feeds : List Feed) (next : ℕ) → HasFeeds studio old feeds next
    → (len ≡ datagram_length studio.output) × (out ≡ datagram_of studio feeds next ++ drop len before) × HasFeeds studio new feeds (next + 1)

-- the datagram made from the marks that were returned is that of all marks
pub gives : (events : List TraceEvent) (old : SessionState) (mixer new : MixerState) (cursors kept : List CursorState) (count : ℕ) (before out : List ℕ) (o : Option ℕ)
    → kept ≡ cursors → length cursors ≤ count
    → ((studio : Studio) (next : ℕ) → IsRunnableBy studio events → HasPlayed studio events old next → HasFilled studio events (record { mixer = mixer; cursors = cursors }) next count)
    → ((studio : Studio) (feeds : List Feed) (next : ℕ) → HasFeeds studio mixer feeds next → is_some o ≡ is_ready studio.output feeds next)
    → IfSome o (Writes mixer new before out) → IfSome o (Gives events old (record { mixer = new; cursors = kept }) before out)
gives events old mixer new cursors kept count before out None same all fills ready writes = tt
gives events old mixer new cursors kept count before out (Some len) same all fills ready writes = λ studio next run played.
    let filled = fills studio next run played in
    let p = filled.played in
    let w = writes studio p.feeds next p.fed in
    let now : HasPlayed studio events (record { mixer = new; cursors = cursors }) (next + 1) = record { feeds = p.feeds; fed = w.2; count = p.count; given = p.given } in (
      w.0,
      w.1 ∙ ap (λ d. d ++ drop len before) (datagram_same studio events (record { mixer = mixer; cursors = cursors }) next run p (sym (ready studio p.feeds next p.fed))),
      subst (λ l. HasPlayed studio events (record { mixer = new; cursors = l }) (next + 1)) (sym same) now,
    )
