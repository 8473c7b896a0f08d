-- The datagrams that were returned stay those of the first blocks.
use Rattle.std.proofs.Common.{◌≡◌, ℕ, zero, suc, ◌+◌, ◌<◌, ◌≤◌, Bool, true, false, nat_lt, List, [], ◌∷◌, ◌++◌, length, map, take, drop, Option, Some, None, is_some, IfSome, slice_get, if◌then◌else◌, refl, sym, ap, subst, ◌∙◌, arith, append_assoc, append-nil}
use Rattle.std.proofs.lemmas.Bool.Decides.{nat_tests}
use Rattle.std.proofs.lemmas.List.{length_push}
use Rattle.std.proofs.lemmas.Option.{slice_get_within}
use Rattle.rtrb.specs.Ring.{received, all_sent}
use Rattle.rtrb.specs.declared.consumer.Consumer.{Consumer}
use Rattle.rtrb.specs.declared.finished.Finished.{Finished}
use Rattle.rtp_stream.specs.declared.stream_spec.Stream.{Stream}
use Rattle.rtp_stream.specs.StreamSpecFacts.{format_of}
use Rattle.rtp_stream.specs.MarkFacts.{MarkView}
use Rattle.rtp_stream.specs.MarkList.{is_mark_list}
use Rattle.rtp_stream.specs.declared.mark.PacketFormat.{PacketFormat}
use Rattle.lane_align.specs.AcceptedMarks.{accepted_after, accepted_marks}
use Rattle.lane_align.proofs.LawLemmas.{accepted_all, accepted_listed}
use Rattle.mix_packets.specs.OutSpec.{datagram_length}
use Rattle.studio_config.specs.Studio.{Studio}
use Rattle.studio_mix.specs.Feed.{AreLonger, Feed, IsLonger}
use Rattle.studio_mix.specs.Output.{datagram_of}
use Rattle.studio_mix.specs.Ready.{is_ready}
use Rattle.studio_mix.proofs.LawLemmas.{datagram_longer, ready_covered, ready_longer}
use Rattle.studio_mix.specs.Blocks.{AreFirstBlocks}
use Rattle.studio_mix.proofs.FirstBlockLemmas.{first_all, first_more, written_is}
use Rattle.studio_ends.specs.DrainedRing.{IsDrained}
use Rattle.studio_ends.specs.DrainedRings.{AllDrained}
use Rattle.studio_ends.specs.MarksIn.{AllTakeSome}
use Rattle.studio_ends.specs.AcceptedFeeds.{accepted_feeds}
use Rattle.studio_ends.specs.MixEnds.{MixHasFeeds, MixesBlock, given}
use Rattle.studio_ends.specs.Datagrams.{AllTell, AreAllGiven, HasGiven, given_after}
use Rattle.studio_ends.specs.declared.rings.TokenConsumer.{TokenConsumer}
use Rattle.studio_ends.specs.declared.mix_end.MixNote.{MixNote}
use Rattle.studio_ends.specs.declared.mix_end.MixEnd.{MixEnd}
use Rattle.studio_ends.proofs.AcceptedLemmas.{accepted_after-append}

-- the list of accepted marks only grows
grown_by : (b : Bool) (before : List MarkView) (x : MarkView) (after : List MarkView → List MarkView)
    → ((l : List MarkView) → (more : List MarkView) × (after l ≡ l ++ more)) → (more : List MarkView) × (after (if b then before ++ x ∷ [] else before) ≡ before ++ more)
grown_by true before x after rest = let r = rest (before ++ x ∷ []) in (x ∷ r.0, r.1 ∙ append_assoc before (x ∷ []) r.0)
grown_by false before x after rest = rest before

grown : (format : PacketFormat) (before xs : List MarkView) → (more : List MarkView) × (accepted_after format before xs ≡ before ++ more)
grown format before [] = ([], sym (append-nil before))
grown format before (x ∷ xs) = grown_by (is_mark_list format (before ++ x ∷ [])) before x (λ l. accepted_after format l xs) (λ l. grown format l xs)

longer-none : AreLonger [] []
longer-none = record { count = refl; each = λ i feed long at at'. let within : i < 0 = slice_get_within [] i feed at in absurd (omega (arith, within)) }

longer-cons : (feed long : Feed) (feeds longer : List Feed) → IsLonger feed long → AreLonger feeds longer → AreLonger (feed ∷ feeds) (long ∷ longer)
longer-cons feed long feeds longer one rest = record { count = ap suc rest.count; each = by_place }
  where
    by_place : (i : ℕ) (f l : Feed) → slice_get (feed ∷ feeds) i ≡ Some f → slice_get (long ∷ longer) i ≡ Some l → IsLonger f l
    by_place zero f l e e' =
        let a : feed ≡ f = cc in
        let b : long ≡ l = cc in
        subst (λ (x : Feed). IsLonger x l) a (subst (λ (x : Feed). IsLonger feed x) b one)
    by_place (suc i) f l e e' = rest.each i f l e e'

feeds-longer : (streams : List Stream) (olds news : List (TokenConsumer MarkView)) → AllTakeSome olds news → AreLonger (accepted_feeds streams olds) (accepted_feeds streams news)
feeds-longer [] olds news h = longer-none
feeds-longer (s ∷ ss) [] [] h = longer-none
feeds-longer (s ∷ ss) [] (n ∷ ns) h = absurd h
feeds-longer (s ∷ ss) (o ∷ os) [] h = absurd h
feeds-longer (s ∷ ss) (o ∷ os) (n ∷ ns) h =
    let format = format_of s in
    let g = grown format (accepted_marks format (received o.ring)) h.0.more in
    longer-cons _ _ (accepted_feeds ss os) (accepted_feeds ss ns)
    (record {
      more = g.0;
      stream = refl;
      marks = ap (accepted_marks format) h.0.received_are ∙ (accepted_after-append format [] (received o.ring) h.0.more ∙ g.1);
      listed = accepted_listed format (received n.ring);
    }) (feeds-longer ss os ns h.1)

-- longer lists of marks change no block that is ready
first_longer : (studio : Studio) (feeds longer : List Feed) (datagrams : List (List ℕ)) → 0 < studio.output.frames → AreLonger feeds longer → AreFirstBlocks studio feeds datagrams → AreFirstBlocks studio longer datagrams
first_longer studio feeds longer datagrams some l f = record {
  ready = λ n h. ready_longer studio.output feeds longer n some l (ready_covered studio.output feeds n (f.ready n h)) ∙ f.ready n h;
  each = λ n datagram at.
      let within : n < length datagrams = slice_get_within datagrams n datagram at in
      let below : nat_lt n (length datagrams) ≡ true = grind (arith, nat_tests, within) in
      f.each n datagram at ∙ sym (datagram_longer studio feeds longer n l (ready_covered studio.output feeds n (f.ready n below)));
}

-- a turn of the mixer's end
given_by : (studio : Studio) (t : MixEnd) (datagrams : List (List ℕ)) (out new_out : List ℕ) (len : Option ℕ) → 0 < studio.output.frames
    → length new_out ≡ length out → datagram_length studio.output ≤ length out
    → AreFirstBlocks studio (accepted_feeds studio.streams t.sides.items) datagrams
    → is_some len ≡ is_ready studio.output (accepted_feeds studio.streams t.sides.items) (length datagrams)
    → IfSome len (λ n. (n ≡ datagram_length studio.output) × (new_out ≡ datagram_of studio (accepted_feeds studio.streams t.sides.items) (length datagrams) ++ drop n out))
    → MixHasFeeds studio t (length datagrams + given len) → HasGiven studio t (given_after datagrams len new_out)
given_by studio t datagrams out new_out None some same space first ready is stands =
    let e : length datagrams + 0 ≡ length datagrams = omega arith in
    record { some_frames = some; feeds = subst (MixHasFeeds studio t) e stands; first = first }
given_by studio t datagrams out new_out (Some len) some same space first ready is stands =
    let feeds = accepted_feeds studio.streams t.sides.items in
    let short = is.0 in
    let within : len ≤ length out = omega (arith, short, space) in
    record {
      some_frames = some;
      feeds = subst (MixHasFeeds studio t) (sym (length_push datagrams (take len new_out))) stands;
      first = first_more studio feeds datagrams (take len new_out) first (sym ready) (written_is (datagram_of studio feeds (length datagrams)) out new_out len is.1 same within);
    }

pub given-turn : (studio : Studio) (s : MixEnd) (note : MixNote) (t : MixEnd) (datagrams : List (List ℕ)) (out new_out : List ℕ)
    → length new_out ≡ length out → datagram_length s.mixer.packer.spec ≤ length out → AllTakeSome s.sides.items t.sides.items → MixesBlock studio s note t (length datagrams) out new_out
    → HasGiven studio s datagrams → HasGiven studio t (given_after datagrams note.len new_out)
given-turn studio s note t datagrams out new_out same space takes mixes h =
    let short : datagram_length studio.output ≤ length out = subst (λ o. datagram_length o ≤ length out) h.feeds.output space in
    given_by studio t datagrams out new_out note.len h.some_frames same short
    (first_longer studio (accepted_feeds studio.streams s.sides.items) (accepted_feeds studio.streams t.sides.items) datagrams h.some_frames (feeds-longer studio.streams s.sides.items t.sides.items takes) h.first)
    mixes.ready mixes.datagram mixes.stands

-- if a turn of the mixer's end returns no datagram, those of all blocks that are ready were returned
pub given-all : (studio : Studio) (s : MixEnd) (note : MixNote) (t : MixEnd) (datagrams : List (List ℕ)) (out new_out : List ℕ)
    → length new_out ≡ length out → datagram_length s.mixer.packer.spec ≤ length out → AllTakeSome s.sides.items t.sides.items → MixesBlock studio s note t (length datagrams) out new_out
    → note.len ≡ None → HasGiven studio s datagrams → AreAllGiven studio t datagrams
given-all studio s note t datagrams out new_out same space takes mixes none h =
    first_all studio (accepted_feeds studio.streams t.sides.items) datagrams
    (first_longer studio (accepted_feeds studio.streams s.sides.items) (accepted_feeds studio.streams t.sides.items) datagrams h.some_frames (feeds-longer studio.streams s.sides.items t.sides.items takes) h.first)
    (sym mixes.ready ∙ ap is_some none)

-- a mixer's end before its first turn has returned no datagram
pub given-fresh : (studio : Studio) (s : MixEnd) → 0 < studio.output.frames → MixHasFeeds studio s 0 → HasGiven studio s []
given-fresh studio s some h = record {
  some_frames = some;
  feeds = h;
  first = record {
    ready = λ n below. absurd (let b : n < 0 = grind (arith, nat_tests, below) in omega (arith, b));
    each = λ n datagram at. absurd (let b : n < 0 = slice_get_within [] n datagram at in omega (arith, b));
  };
}

-- a mixer's end with the same feeds and the same mixer has returned the same datagrams
pub given-same : (studio : Studio) (s t : MixEnd) (datagrams : List (List ℕ)) → t.mixer ≡ s.mixer → accepted_feeds studio.streams t.sides.items ≡ accepted_feeds studio.streams s.sides.items
    → HasGiven studio s datagrams → HasGiven studio t datagrams
given-same studio s t datagrams mixer feeds h = record {
  some_frames = h.some_frames;
  feeds = rw (mixer, feeds) h.feeds;
  first = rw feeds h.first;
}

module _ (marks : List MarkView) where
  drained_tells : {A P : Type 0} (ring : Consumer MarkView A P) (done : Option (Finished MarkView A P)) → IsDrained ring done → IfSome done (λ d. all_sent d ≡ marks) → received ring ≡ marks
  drained_tells ring None h told = absurd h
  drained_tells ring (Some done) h told = h ∙ told

told_feeds : (sides : List (TokenConsumer MarkView)) (feeds : List Feed) → AllDrained sides → AllTell sides feeds → accepted_feeds (map (λ (feed : Feed). feed.stream) feeds) sides ≡ feeds
told_feeds [] [] h told = refl
told_feeds [] (feed ∷ feeds) h told = absurd told
told_feeds (side ∷ sides) [] h told = absurd told
told_feeds (side ∷ sides) (feed ∷ feeds) h told =
    let format = format_of feed.stream in
    let all : accepted_marks format (received side.ring) ≡ feed.marks = ap (accepted_marks format) (drained_tells feed.marks side.ring side.done h.0 told.0.0) ∙ accepted_all format feed.marks told.0.1 in
    ap (λ l. record { stream = feed.stream; marks = l } ∷ accepted_feeds (map (λ (f : Feed). f.stream) feeds) sides) all
    ∙ ap (λ (l : List Feed). feed ∷ l) (told_feeds sides feeds h.1 told.1)

-- if everything was received, all marks that the tokens report were accepted
pub told-all : (studio : Studio) (sides : List (TokenConsumer MarkView)) (feeds : List Feed) → map (λ (feed : Feed). feed.stream) feeds ≡ studio.streams → AllDrained sides → AllTell sides feeds
    → accepted_feeds studio.streams sides ≡ feeds
told-all studio sides feeds e h told = ap (λ ss. accepted_feeds ss sides) (sym e) ∙ told_feeds sides feeds h told
