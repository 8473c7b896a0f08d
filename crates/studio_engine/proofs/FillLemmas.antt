-- The next datagram of the events so far.
use Rattle.std.proofs.Common.{◌≡◌, inl, inr, ◌<◌, ◌≤◌, ◌+◌, ℕ, suc, ◌^◌, pos, ◌≤ℤ◌, Bool, true, false, not, ◌&&◌, ◌||◌, nat_lt, nat_eq, if◌then◌else◌, List, [], ◌∷◌, ◌++◌, length, drop, ℤ, Option, Some, None, is_some, IfSome, slice_get, refl, sym, ap, subst, ◌∙◌, arith}
use Rattle.std.specs.List.{list_all}
use Rattle.std.proofs.lemmas.Bool.{false≢true}
use Rattle.std.proofs.lemmas.Option.{slice_get_within}
use Rattle.rtp_stream.specs.declared.stream_spec.Stream.{Stream}
use Rattle.rtp_stream.specs.StreamSpecFacts.{format_of}
use Rattle.rtp_stream.specs.declared.event.Event.{Event}
use Rattle.rtp_stream.specs.History.{is_closed}
use Rattle.rtp_stream.specs.MarkFacts.{MarkView}
use Rattle.rtp_stream.specs.MarkList.{has_end, is_end}
use Rattle.rtp_stream.specs.Marks.{end_mark, marks_of}
use Rattle.rtp_stream.specs.Epochs.{last_of}
use Rattle.rtp_stream.specs.Reception.{reception_of}
use Rattle.rtp_stream.specs.declared.reception.Reception.{Reception}
use Rattle.rtp_stream.specs.declared.reception.Reception.TheVariants.{Sent, Bad, WrongType, WrongLength}
use Rattle.lane_align.specs.Cover.{covers, cover_of, cover_to, last_quiet, last_slot, time_reached}
use Rattle.mix_packets.specs.OutSpec.{datagram_length}
use Rattle.mix_packets.specs.Block.{block_start}
use Rattle.mix_packets.specs.Packer.{PackerState}
use Rattle.studio_config.specs.Studio.{Studio}
use Rattle.studio_mix.specs.Feed.{Feed}
use Rattle.studio_mix.specs.Mixer.{MixerState, HasFeeds}
use Rattle.studio_mix.specs.Ready.{are_covered, block_count, have_ended, is_ready}
use Rattle.studio_mix.specs.Output.{datagram_of}
use Rattle.studio_mix.proofs.LawLemmas.{ready_longer, ready_covered}
use Rattle.path_merge.proofs.AfterCloseLemmas.{ends}
use Rattle.studio_session.specs.Event.{TraceEvent, Arrival, Tick, Closing}
use Rattle.studio_session.specs.Session.{Datagram, Other, event_in, stream_history}
use Rattle.studio_session.specs.Fault.{closed_at}
use Rattle.studio_session.specs.Cursor.{CursorState}
use Rattle.studio_session.specs.PushedEvents.{HaveTaken}
use Rattle.studio_session.specs.Play.{HasFilled, HasPlayed, IsFinal, IsRunnableBy, PlaysFinal, PlaysOut, SessionState, feeds_of, stream_marks}
use Rattle.studio_session.specs.Run.{HasGivenBlocks, blocks_left}
use Rattle.studio_session.proofs.PlayLemmas.{plays_all}
use Rattle.studio_session.proofs.RunLemmas.{blocks_more, fewer_left}
use Rattle.studio_session.proofs.SessionLemmas.{are_longer, datagram_same, ready_same}
use Rattle.studio_engine.specs.Give.{GivesBlock, HasNoBlock}

-- a stream is final if the mixer wants none of its marks for the next block, or if it returned all marks of the events
pub final_either : (studio : Studio) (events : List TraceEvent) (feeds : List Feed) (next number : ℕ) (mixer : MixerState) (cursor : CursorState) (all : Bool) → length events ≤ cursor.place
    → (all ≡ true → PlaysOut studio events feeds next number mixer cursor) → (all ≡ false → PlaysFinal studio events feeds next number mixer cursor)
    → PlaysFinal studio events feeds next number mixer cursor
final_either studio events feeds next number mixer cursor true end out final = plays_all studio events feeds next number mixer cursor cursor (out refl) end refl
final_either studio events feeds next number mixer cursor false end out final = final refl

abbrev Writes : MixerState → MixerState → List ℕ → List ℕ → ℕ → Type 0
Writes old new before out len = (studio : Studio) (feeds : List Feed) (next : ℕ) → HasFeeds studio old feeds next
    → (len ≡ datagram_length studio.output) × (out ≡ datagram_of studio feeds next ++ drop len before) × HasFeeds studio new feeds (next + 1)

abbrev Fills : List CursorState → SessionState → SessionState → ℕ → Type 0
Fills first old new count = (studio : Studio) (events : List TraceEvent) (next : ℕ) → IsRunnableBy studio events → HaveTaken events first → HasPlayed studio events old next
    → HasFilled studio events new next count

-- one more block was returned
pub gives_block : (first cursors : List CursorState) (old : SessionState) (mixer new : MixerState) (count : ℕ) (before out : List ℕ) (o : Option ℕ) → Fills first old (record { mixer = mixer; cursors = cursors }) count
    → ((studio : Studio) (feeds : List Feed) (next : ℕ) → HasFeeds studio mixer feeds next → is_some o ≡ is_ready studio.output feeds next)
    → IfSome o (Writes mixer new before out)
    → IfSome o (λ len. (studio : Studio) (events : List TraceEvent) (datagrams : List (List ℕ)) → IsRunnableBy studio events → HaveTaken events first → HasGivenBlocks studio events old datagrams
    → GivesBlock studio events (record { mixer = new; cursors = cursors }) datagrams before out len)
gives_block first cursors old mixer new count before out None fills ready writes = tt
gives_block first cursors old mixer new count before out (Some len) fills ready writes = λ studio events datagrams run taken given.
    let next = length datagrams in
    let filled = fills studio events next run taken given.played in
    let p = filled.played in
    let session : SessionState = record { mixer = mixer; cursors = cursors } in
    let is : is_ready studio.output p.feeds next ≡ true = sym (ready studio p.feeds next p.fed) in
    let whole : is_ready studio.output (feeds_of studio events) next ≡ true =
    ready_longer studio.output p.feeds (feeds_of studio events) next run.some_frames (are_longer studio events session next run p) (ready_covered studio.output p.feeds next is) ∙ is in
    let w = writes studio p.feeds next p.fed in
    let played : HasPlayed studio events (record { mixer = new; cursors = cursors }) (next + 1) = record { feeds = p.feeds; fed = w.2; count = p.count; given = p.given } in
    record {
      datagram = datagram_of studio (feeds_of studio events) next;
      len_is = w.0;
      written = w.1 ∙ ap (λ d. d ++ drop len before) (datagram_same studio events session next run p is);
      given = blocks_more studio events old (record { mixer = new; cursors = cursors }) datagrams (datagram_of studio (feeds_of studio events) next) given whole refl played;
    }

every : {X : Type 0} (test : X → Bool) (xs : List X) → ((i : ℕ) (x : X) → slice_get xs i ≡ Some x → test x ≡ true) → list_all test xs ≡ true
every test [] each = refl
every test (x ∷ xs) each = ap (λ b. b && list_all test xs) (each 0 x refl) ∙ every test xs (λ i y at. each (suc i) y at)

or_right : (a b : Bool) → b ≡ true → (a || b) ≡ true
or_right true b h = refl
or_right false b h = h

or_none : (b : Bool) → b ≡ (b || false)
or_none true = refl
or_none false = refl

-- an arrival closes nothing
still_closed : (path : ℕ) (reception : Reception) (events : List Event) → is_closed events ≡ is_closed (event_in (Datagram path reception) ++ events)
still_closed path (Sent packet) events = refl
still_closed path (Bad fault) events = refl
still_closed path WrongType events = refl
still_closed path WrongLength events = refl

-- if the studio is closed, so is each stream
pub closed_for : (stream : Stream) (number : ℕ) (closed : Bool) (events : List TraceEvent) → closed_at closed events ≡ (closed || is_closed (stream_history stream number events))
closed_for stream number closed [] = or_none closed
closed_for stream number closed (Tick u ∷ events) = closed_for stream number closed events
closed_for stream number closed (Closing ∷ events) = closed_for stream number true events ∙ sym (or_right closed true refl)
closed_for stream number closed (Arrival s path octets ∷ events) = closed_for stream number closed events ∙ by_test (nat_eq s number)
  where
    by_test : (b : Bool) → (closed || is_closed (stream_history stream number events))
        ≡ (closed || is_closed (event_in (if b then Datagram path (reception_of stream octets) else Other) ++ stream_history stream number events))
    by_test true = ap (λ b. closed || b) (still_closed path (reception_of stream octets) (stream_history stream number events))
    by_test false = refl

ends_with : (marks : List MarkView) (mark : MarkView) → last_of marks ≡ Some mark → is_end mark.kind ≡ true → has_end marks ≡ true
ends_with [] mark last e = absurd (let f : None ≡ Some mark = last in cc)
ends_with (x ∷ []) mark last e = let same : x ≡ mark = one x mark last in ap (λ (m : MarkView). is_end m.kind || false) same ∙ ap (λ b. b || false) e
  where
    one : (x y : MarkView) → Some x ≡ Some y → x ≡ y
    one x y e = cc
ends_with (x ∷ y ∷ marks) mark last e = or_right (is_end x.kind) (has_end (y ∷ marks)) (ends_with (y ∷ marks) mark last e)

-- all marks of a closed stream have an end
closed_ends : (studio : Studio) (events : List TraceEvent) (number : ℕ) (stream : Stream) → closed_at false events ≡ true → has_end (stream_marks stream number studio.open_at events) ≡ true
closed_ends studio events number stream shut =
    let h = stream_history stream number events in
    ends_with (marks_of stream studio.open_at h) (end_mark stream) (ends stream studio.open_at h (sym (closed_for stream number false events) ∙ shut)) refl

pub ended_covers : (reached : Option ℤ) (ended : Bool) (t : ℤ) → ended ≡ true → covers (cover_to ended reached) t ≡ true
ended_covers reached true t e = refl
ended_covers reached false t e = absurd (false≢true e)

-- after a close, every stream that is final covers the next block
final_covers : (studio : Studio) (events : List TraceEvent) (next number : ℕ) (feed : Feed) → closed_at false events ≡ true → IsFinal studio events next number feed
    → covers (cover_of (format_of feed.stream) feed.marks) (block_start studio.output (next + 1)) ≡ true
final_covers studio events next number feed shut (inl covered) = covered
final_covers studio events next number feed shut (inr all) =
    ended_covers (time_reached (format_of feed.stream).frames (last_slot feed.marks) (last_quiet feed.marks)) (has_end feed.marks) (block_start studio.output (next + 1))
    (ap has_end all ∙ closed_ends studio events number feed.stream shut)

-- if a covered block is not ready, all streams have ended
all_ended : (ended below : Bool) → (true && (not ended || below)) ≡ false → ended ≡ true
all_ended true below e = refl
all_ended false below e = absurd (false≢true (sym e))

-- no other block is ready
pub no_block : (studio : Studio) (events : List TraceEvent) (mixer : MixerState) (cursors : List CursorState) (old : SessionState) (count : ℕ) (datagrams : List (List ℕ)) (ready : Bool) → IsRunnableBy studio events
    → length cursors ≤ count → HasGivenBlocks studio events old datagrams
    → (filled : HasFilled studio events (record { mixer = mixer; cursors = cursors }) (length datagrams) count)
    → ready ≡ is_ready studio.output filled.played.feeds (length datagrams) → ready ≡ false
    → HasNoBlock studio events (record { mixer = mixer; cursors = cursors }) datagrams
no_block studio events mixer cursors old count datagrams ready run all given filled is none =
    let next = length datagrams in
    let feeds = filled.played.feeds in
    let t = block_start studio.output (next + 1) in
    let not_ready : is_ready studio.output feeds next ≡ false = sym is ∙ none in
    record {
      given = record { played = filled.played; first = given.first };
      none = sym (ready_same studio events (record { mixer = mixer; cursors = cursors }) next count run filled all) ∙ not_ready;
      left = λ shut.
          let covered : are_covered feeds t ≡ true = every (λ (feed : Feed). covers (cover_of (format_of feed.stream) feed.marks) t) feeds
          (λ i feed at.
          let within : i < length feeds = slice_get_within feeds i feed at in
          let n = filled.played.count in
          final_covers studio events next i feed shut (filled.final i feed (omega (arith, within, n, all)) at)) in
          record {
            ended = all_ended (have_ended feeds) (nat_lt next (block_count studio.output feeds)) (ap (λ b. b && (not (have_ended feeds) || nat_lt next (block_count studio.output feeds))) (sym covered) ∙ not_ready);
            none = not_ready;
          };
    }

-- fewer blocks are left after one that was returned
pub fewer_given : (old filled new : PackerState) (o : Option ℕ) → filled ≡ old → 0 < filled.spec.frames → new.spec ≡ filled.spec → IfSome o (λ (len : ℕ). new.number ≡ filled.number + 1)
    → IfSome o (λ (len : ℕ). block_start filled.spec filled.number ≤ℤ pos (2 ^ 61 + 192)) → IfSome o (λ (len : ℕ). blocks_left new < blocks_left old)
fewer_given old filled new None same some spec number early = tt
fewer_given old filled new (Some len) same some spec number early = subst (λ p. blocks_left new < blocks_left p) same (fewer_left filled new some spec number early)
