-- The marks of all streams, after one more stream.
use Rattle.std.proofs.Common.{◌≡◌, ℕ, zero, suc, ◌+◌, ◌≤◌, ◌<◌, List, [], ◌∷◌, ◌++◌, length, take, drop, get_or, set, ℤ, Some, slice_get, slice_set, refl, sym, ap, subst, ◌∙◌, arith, length-append}
use Rattle.std.proofs.Math.Seq.{take-length}
use Rattle.std.proofs.lemmas.List.{drop-drop, drop-set-lt, get_or-drop, length-set, take_more, take_more_set}
use Rattle.std.proofs.lemmas.List.Sums.{sum_by-set}
use Rattle.std.proofs.lemmas.Option.{get_or_from_slice_get, slice_get_within}
use Rattle.rtrb.specs.Ring.{received}
use Rattle.rtp_stream.specs.declared.stream_spec.Stream.{Stream}
use Rattle.rtp_stream.specs.StreamSpecFacts.{format_of}
use Rattle.rtp_stream.specs.MarkFacts.{MarkView}
use Rattle.lane_align.specs.AcceptedMarks.{accepted_marks}
use Rattle.mix_packets.specs.Block.{block_start}
use Rattle.studio_config.specs.Studio.{Studio}
use Rattle.studio_mix.specs.Feed.{Feed}
use Rattle.studio_mix.specs.Mixer.{MixerState, HasFeeds}
use Rattle.studio_ends.specs.AcceptedFeeds.{accepted_feeds, accepted_total, received_total}
use Rattle.studio_ends.specs.MarksIn.{AllStopTaking, AllTakeSome, StopsTaking, TakesAllMarks, TakesSome, TakesWanted, fed_more}
use Rattle.studio_ends.specs.declared.rings.TokenConsumer.{TokenConsumer}
use Rattle.studio_ends.proofs.AcceptedLemmas.{accepted_after-append}

all_take-snoc : (olds news : List (TokenConsumer MarkView)) (old new : TokenConsumer MarkView) → AllTakeSome olds news → TakesSome old new → AllTakeSome (olds ++ old ∷ []) (news ++ new ∷ [])
all_take-snoc [] [] old new h t = (t, tt)
all_take-snoc (o ∷ os) (n ∷ ns) old new h t = (h.0, all_take-snoc os ns old new h.1 t)
all_take-snoc [] (n ∷ ns) old new h t = absurd h
all_take-snoc (o ∷ os) [] old new h t = absurd h

same_there : (xs ys : List (TokenConsumer MarkView)) (n : ℕ) (d : TokenConsumer MarkView) → drop n xs ≡ drop n ys → get_or xs n d ≡ get_or ys n d
same_there xs ys n d e =
    let z : n + 0 ≡ n = omega arith in
    ap (λ k. get_or xs k d) (sym z) ∙ (sym (get_or-drop n xs 0 d) ∙ (ap (λ l. get_or l 0 d) e ∙ (get_or-drop n ys 0 d ∙ ap (λ k. get_or ys k d) z)))

-- the feed of a ring, and the feeds of all rings after more marks of this one
record FeedAt (streams : List Stream) (items : List (TokenConsumer MarkView)) (n : ℕ) (old : TokenConsumer MarkView) : Type 0 where
  stream : Stream
  stream_is : stream ≡ get_or streams n stream
  is : slice_get (accepted_feeds streams items) n ≡ Some (record { stream = stream; marks = accepted_marks (format_of stream) (received old.ring) })
  more : (new : TokenConsumer MarkView) (marks : List MarkView) → received new.ring ≡ received old.ring ++ marks
      → accepted_feeds streams (set items n new) ≡ slice_set (accepted_feeds streams items) n (fed_more (record { stream = stream; marks = accepted_marks (format_of stream) (received old.ring) }) marks)

feed_at : (streams : List Stream) (items : List (TokenConsumer MarkView)) (n : ℕ) (old : TokenConsumer MarkView) → n < length (accepted_feeds streams items) → old ≡ get_or items n old → FeedAt streams items n old
feed_at [] items n old lt is = absurd (omega (arith, lt))
feed_at (st ∷ sts) [] n old lt is = absurd (omega (arith, lt))
feed_at (st ∷ sts) (i ∷ is) zero old lt same = record {
  stream = st;
  stream_is = refl;
  is = ap (λ (s : TokenConsumer MarkView). Some (record { stream = st; marks = accepted_marks (format_of st) (received s.ring) })) (sym same);
  more = λ new marks got. ap (λ (l : List MarkView). record { stream = st; marks = l } ∷ accepted_feeds sts is) (ap (accepted_marks (format_of st)) got ∙ accepted_after-append (format_of st) [] (received old.ring) marks);
}
feed_at (st ∷ sts) (i ∷ is) (suc n) old lt same =
    let rest = feed_at sts is n old (omega (arith, lt)) same in
    record {
      stream = rest.stream;
      stream_is = rest.stream_is;
      is = rest.is;
      more = λ new marks got. ap (λ (l : List Feed). record { stream = st; marks = accepted_marks (format_of st) (received i.ring) } ∷ l) (rest.more new marks got);
    }

-- the marks of one more stream were taken
stops-more : (streams : List Stream) (end : ℤ) (olds items : List (TokenConsumer MarkView)) (n taken : ℕ) (stream : Stream) (old new : TokenConsumer MarkView)
    → stream ≡ get_or streams n stream → old ≡ get_or olds n old → length (received new.ring) ≡ length (received old.ring) + taken
    → StopsTaking taken new stream (accepted_marks (format_of stream) (received new.ring)) end
    → AllStopTaking (take n streams) end olds items → AllStopTaking (take (n + 1) streams) end olds (set items n new)
stops-more streams end olds items n taken stream old new at is longer stops h =
    let e : n + 1 ≡ suc n = omega arith in
    subst (λ k. AllStopTaking (take k streams) end olds (set items n new)) (sym e) (by_place streams olds items n at is h)
  where
    by_place : (streams : List Stream) (olds items : List (TokenConsumer MarkView)) (n : ℕ) → stream ≡ get_or streams n stream → old ≡ get_or olds n old
        → AllStopTaking (take n streams) end olds items → AllStopTaking (take (suc n) streams) end olds (set items n new)
    by_place [] olds items n at is h = tt
    by_place (s ∷ ss) [] items n at is h = tt
    by_place (s ∷ ss) (o ∷ os) [] n at is h = tt
    by_place (s ∷ ss) (o ∷ os) (i ∷ its) zero at is h =
        ((taken, longer ∙ ap (λ (r : TokenConsumer MarkView). length (received r.ring) + taken) is, subst (λ (t : Stream). StopsTaking taken new t (accepted_marks (format_of t) (received new.ring)) end) at stops), tt)
    by_place (s ∷ ss) (o ∷ os) (i ∷ its) (suc n) at is h = (h.0, by_place ss os its n at is h.1)

stops-all : (streams : List Stream) (end : ℤ) (olds items : List (TokenConsumer MarkView)) (n : ℕ) → length olds ≤ n → AllStopTaking (take n streams) end olds items → AllStopTaking streams end olds items
stops-all [] end olds items n le h = tt
stops-all (s ∷ ss) end [] items n le h = tt
stops-all (s ∷ ss) end (o ∷ os) [] n le h = tt
stops-all (s ∷ ss) end (o ∷ os) (i ∷ its) zero le h = absurd (omega (arith, le))
stops-all (s ∷ ss) end (o ∷ os) (i ∷ its) (suc n) le h = (h.0, stops-all ss end os its n (omega (arith, le)) h.1)

-- the marks of the first `n` streams were taken
pub record TakesThrough (olds items : List (TokenConsumer MarkView)) (m w : MixerState) (n taken strange : ℕ) : Type 0 where
  pub count : length items ≡ length olds
  pub later : drop n items ≡ drop n olds
  pub all : AllTakeSome (take n olds) (take n items)
  pub lanes : length w.lanes ≡ length m.lanes
  pub spec : w.packer.spec ≡ m.packer.spec
  pub total : received_total items ≡ received_total olds + taken
  pub stands : (studio : Studio) (number : ℕ) → HasFeeds studio m (accepted_feeds studio.streams olds) number → HasFeeds studio w (accepted_feeds studio.streams items) number
  pub strange_are : (studio : Studio) (number : ℕ) → HasFeeds studio m (accepted_feeds studio.streams olds) number
      → accepted_total (accepted_feeds studio.streams items) + strange ≡ accepted_total (accepted_feeds studio.streams olds) + taken
  pub stop : (studio : Studio) (number : ℕ) → HasFeeds studio m (accepted_feeds studio.streams olds) number
      → AllStopTaking (take n studio.streams) (block_start studio.output (number + 1)) olds items

pub through-none : (olds : List (TokenConsumer MarkView)) (m : MixerState) → TakesThrough olds olds m m 0 0 0
through-none olds m = record {
  count = refl;
  later = refl;
  all = tt;
  lanes = refl;
  spec = refl;
  total = omega arith;
  stands = λ studio number h. h;
  strange_are = λ studio number h. refl;
  stop = λ studio number h. tt;
}

module _ (olds items : List (TokenConsumer MarkView)) (m w v : MixerState) (n taken strange some odd : ℕ) (old new : TokenConsumer MarkView) (h : TakesThrough olds items m w n taken strange) (lt : n < length olds) (all : length olds ≡ length m.lanes) (is : old ≡ get_or items n old) (one : TakesWanted old new w v n some odd) where
  feed : (studio : Studio) (number : ℕ) → HasFeeds studio m (accepted_feeds studio.streams olds) number → FeedAt studio.streams items n old
  feed studio number s =
      let len : length w.lanes ≡ length (accepted_feeds studio.streams items) = (h.stands studio number s).lanes.count in
      let lanes = h.lanes in
      feed_at studio.streams items n old (omega (arith, lt, len, lanes, all)) is

  old_is : old ≡ get_or olds n old
  old_is = is ∙ same_there items olds n old h.later

  total_more : received_total (set items n new) ≡ received_total olds + (taken + some)
  total_more =
      let sums = sum_by-set (λ (side : TokenConsumer MarkView). length (received side.ring)) items n new old (let c = h.count in omega (arith, lt, c)) in
      let at : length (received (get_or items n old).ring) ≡ length (received old.ring) = ap (λ (side : TokenConsumer MarkView). length (received side.ring)) (sym is) in
      let got : length (received new.ring) ≡ length (received old.ring) + some = ap length one.takes.received_are ∙ (length-append (received old.ring) one.takes.more ∙ ap (λ k. length (received old.ring) + k) one.takes.count_is) in
      let was = h.total in
      omega (arith, sums, at, got, was)

  strange_more : (studio : Studio) (number : ℕ) → HasFeeds studio m (accepted_feeds studio.streams olds) number
      → accepted_total (accepted_feeds studio.streams (set items n new)) + (strange + odd) ≡ accepted_total (accepted_feeds studio.streams olds) + (taken + some)
  strange_more studio number s =
      let at = feed studio number s in
      let its : Feed = record { stream = at.stream; marks = accepted_marks (format_of at.stream) (received old.ring) } in
      let feeds = accepted_feeds studio.streams items in
      let sums = sum_by-set (λ (f : Feed). length f.marks) feeds n (fed_more its one.takes.more) its (slice_get_within feeds n its at.is) in
      let there : length (get_or feeds n its).marks ≡ length its.marks = ap (λ (f : Feed). length f.marks) (get_or_from_slice_get feeds n its its at.is) in
      let now : accepted_total (accepted_feeds studio.streams (set items n new)) ≡ accepted_total (slice_set feeds n (fed_more its one.takes.more)) = ap accepted_total (at.more new one.takes.more one.takes.received_are) in
      let counted = one.takes.counted studio feeds number its (h.stands studio number s) at.is in
      let was = h.strange_are studio number s in
      omega (arith, sums, there, now, counted, was)

  stop_more : (studio : Studio) (number : ℕ) → HasFeeds studio m (accepted_feeds studio.streams olds) number
      → AllStopTaking (take (n + 1) studio.streams) (block_start studio.output (number + 1)) olds (set items n new)
  stop_more studio number s =
      let at = feed studio number s in
      let its : Feed = record { stream = at.stream; marks = accepted_marks (format_of at.stream) (received old.ring) } in
      let got : length (received new.ring) ≡ length (received old.ring) + some = ap length one.takes.received_are ∙ (length-append (received old.ring) one.takes.more ∙ ap (λ k. length (received old.ring) + k) one.takes.count_is) in
      let accepted : (fed_more its one.takes.more).marks ≡ accepted_marks (format_of at.stream) (received new.ring) =
      sym (ap (accepted_marks (format_of at.stream)) one.takes.received_are ∙ accepted_after-append (format_of at.stream) [] (received old.ring) one.takes.more) in
      let stops = one.stop studio (accepted_feeds studio.streams items) number its (h.stands studio number s) at.is in
      stops-more studio.streams (block_start studio.output (number + 1)) olds items n some at.stream old new at.stream_is old_is got
      (subst (λ l. StopsTaking some new at.stream l (block_start studio.output (number + 1))) accepted stops) (h.stop studio number s)

  all_more : AllTakeSome (take (n + 1) olds) (take (n + 1) (set items n new))
  all_more =
      let e : take (n + 1) olds ≡ take n olds ++ old ∷ [] = take_more olds n old lt ∙ ap (λ (s : TokenConsumer MarkView). take n olds ++ s ∷ []) (sym old_is) in
      let f : take (n + 1) (set items n new) ≡ take n items ++ new ∷ [] = take_more_set items n new (let c = h.count in omega (arith, lt, c)) in
      let t = one.takes in
      let most : length t.more ≤ 64 = let c = t.count_is in let k = one.most in omega (arith, c, k) in
      rw (e, f) (all_take-snoc (take n olds) (take n items) old new h.all (record { ring = t.ring; done = t.done; more = t.more; received_are = t.received_are; most = most }))

  pub through-more : TakesThrough olds (set items n new) m v (n + 1) (taken + some) (strange + odd)
  through-more = record {
    count = length-set items n new ∙ h.count;
    later = drop-set-lt (n + 1) items n new (omega arith) ∙ (sym (drop-drop 1 n items) ∙ (ap (drop 1) h.later ∙ drop-drop 1 n olds));
    all = all_more;
    lanes = one.takes.lanes ∙ h.lanes;
    spec = one.takes.spec ∙ h.spec;
    total = total_more;
    stands = λ studio number s.
        let at = feed studio number s in
        subst (λ fs. HasFeeds studio v fs number) (sym (at.more new one.takes.more one.takes.received_are))
        (one.takes.stands studio (accepted_feeds studio.streams items) number (record { stream = at.stream; marks = accepted_marks (format_of at.stream) (received old.ring) }) (h.stands studio number s) at.is);
    strange_are = strange_more;
    stop = stop_more;
  }

pub through-all : (olds items : List (TokenConsumer MarkView)) (m w : MixerState) (n taken strange : ℕ) → n ≡ length olds → TakesThrough olds items m w n taken strange → TakesAllMarks olds items m w taken strange
through-all olds items m w n taken strange is h =
    let a : take n olds ≡ olds = ap (λ k. take k olds) is ∙ take-length olds in
    let b : take n items ≡ items = ap (λ k. take k items) (is ∙ sym h.count) ∙ take-length items in
    record {
      all = subst (λ l. AllTakeSome l items) a (subst (AllTakeSome (take n olds)) b h.all);
      count = h.count;
      lanes = h.lanes;
      spec = h.spec;
      total = h.total;
      stands = h.stands;
      strange_are = h.strange_are;
      stop = λ studio number s. stops-all studio.streams (block_start studio.output (number + 1)) olds items n (omega (arith, is)) (h.stop studio number s);
    }
