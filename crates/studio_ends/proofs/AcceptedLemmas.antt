-- One more mark of a stream.
use Rattle.std.proofs.Common.{◌≡◌, ℕ, zero, suc, ◌+◌, ◌≤◌, ◌<◌, inl, inr, Bool, true, false, not, List, [], ◌∷◌, ◌++◌, length, set, Some, slice_get, slice_set, if◌then◌else◌, refl, sym, ap, subst, ◌∙◌, arith, append_assoc, append-nil, length-append}
use Rattle.std.proofs.lemmas.Option.{slice_get_read, slice_get_within, get_or_from_slice_get}
use Rattle.std.proofs.lemmas.List.{set-get_or, length-set, get_or-set_same}
use Rattle.std.proofs.lemmas.Bool.{false≢true}
use Rattle.rtrb.specs.Ring.{received, known_items, SameConsumer}
use Rattle.rtp_stream.specs.StreamSpecFacts.{format_of}
use Rattle.rtp_stream.specs.MarkFacts.{MarkView}
use Rattle.rtp_stream.specs.MarkList.{is_mark_list}
use Rattle.rtp_stream.specs.declared.mark.PacketFormat.{PacketFormat}
use Rattle.studio_config.specs.Studio.{Studio}
use Rattle.studio_mix.specs.Feed.{Feed}
use Rattle.studio_mix.specs.Mixer.{MixerState, HasFeeds}
use Rattle.lane_align.specs.AcceptedMarks.{accepted_after, accepted_with}
use Rattle.lane_align.specs.Cover.{covers, cover_of}
use Rattle.mix_packets.specs.Block.{block_start}
use Rattle.studio_ends.specs.MarksIn.{TakesMarks, TakesWanted, fed_more}
use Rattle.studio_ends.specs.declared.rings.TokenConsumer.{TokenConsumer}
use Rattle.studio_ends.proofs.TurnLemmas.{consumers}

pub accepted_after-append : (format : PacketFormat) (before xs ys : List MarkView) → accepted_after format before (xs ++ ys) ≡ accepted_after format (accepted_after format before xs) ys
accepted_after-append format before [] ys = refl
accepted_after-append format before (x ∷ xs) ys = accepted_after-append format (accepted_with format before x) xs ys

-- the feeds after one of them got no mark
pub same_feeds : (feeds : List Feed) (i : ℕ) (feed : Feed) → slice_get feeds i ≡ Some feed → slice_set feeds i feed ≡ feeds
same_feeds feeds i feed is = ap (λ f. set feeds i f) (sym (get_or_from_slice_get feeds i feed feed is)) ∙ set-get_or feeds i feed

set_twice : (feeds : List Feed) (i : ℕ) (a b : Feed) → set (set feeds i a) i b ≡ set feeds i b
set_twice [] i a b = refl
set_twice (f ∷ fs) zero a b = refl
set_twice (f ∷ fs) (suc i) a b = ap (λ l. f ∷ l) (set_twice fs i a b)

there : (feeds : List Feed) (i : ℕ) (a feed : Feed) → slice_get feeds i ≡ Some feed → slice_get (set feeds i a) i ≡ Some a
there feeds i a feed is =
    let lt : i < length feeds = slice_get_within feeds i feed is in
    slice_get_read (set feeds i a) (length feeds) i a (sym (length-set feeds i a)) lt (sym (get_or-set_same feeds i a a lt))

pub took-none : (s : TokenConsumer MarkView) (m : MixerState) (stream : ℕ) → TakesMarks s s m m stream 0 0
took-none s m stream = record {
  more = [];
  ring = ((refl, refl, refl, refl), refl);
  done = refl;
  received_are = sym (append-nil (received s.ring));
  count_is = refl;
  lanes = refl;
  spec = refl;
  stands = λ studio feeds number feed h is. subst (λ fs. HasFeeds studio m fs number) (sym (same_feeds feeds stream feed is)) h;
  counted = λ studio feeds number feed h is. refl;
}

by_kept : (b kept : Bool) (xs : List MarkView) (x : MarkView) → kept ≡ b → length (if b then xs ++ x ∷ [] else xs) + (if not kept then 1 else 0) ≡ length xs + 1
by_kept true true xs x e = let l = length-append xs (x ∷ []) in omega (arith, l)
by_kept false false xs x e = refl
by_kept true false xs x e = absurd (cc)
by_kept false true xs x e = absurd (cc)

pub took-more : (s t u : TokenConsumer MarkView) (m w v : MixerState) (stream taken strange odd : ℕ) (mark : MarkView) (kept : Bool)
    → TakesMarks s t m w stream taken strange → SameConsumer t.ring u.ring → u.done ≡ t.done → received u.ring ≡ received t.ring ++ mark ∷ []
    → ((studio : Studio) (feeds : List Feed) (number : ℕ) (feed : Feed) → HasFeeds studio w feeds number → slice_get feeds stream ≡ Some feed → HasFeeds studio v (slice_set feeds stream (fed_more feed (mark ∷ []))) number)
    → ((studio : Studio) (feeds : List Feed) (number : ℕ) (feed : Feed) → HasFeeds studio w feeds number → slice_get feeds stream ≡ Some feed → kept ≡ is_mark_list (format_of feed.stream) (feed.marks ++ mark ∷ []))
    → length v.lanes ≡ length w.lanes → v.packer.spec ≡ w.packer.spec → odd ≡ (if not kept then 1 else 0)
    → TakesMarks s u m v stream (taken + 1) (strange + odd)
took-more s t u m w v stream taken strange odd mark kept h ring done got stands value lanes spec count = record {
  more = h.more ++ mark ∷ [];
  ring = consumers s.ring t.ring u.ring h.ring ring;
  done = done ∙ h.done;
  received_are = got ∙ (ap (λ l. l ++ mark ∷ []) h.received_are ∙ append_assoc (received s.ring) h.more (mark ∷ []));
  count_is = let n = h.count_is in let l = length-append h.more (mark ∷ []) in omega (arith, n, l);
  lanes = lanes ∙ h.lanes;
  spec = spec ∙ h.spec;
  stands = λ studio feeds number feed f is.
      let one = stands studio (slice_set feeds stream (fed_more feed h.more)) number (fed_more feed h.more) (h.stands studio feeds number feed f is) (there feeds stream (fed_more feed h.more) feed is) in
      subst (λ fs. HasFeeds studio v fs number) (set_twice feeds stream (fed_more feed h.more) (fed_more (fed_more feed h.more) (mark ∷ [])) ∙ ap (set feeds stream) (joined feed)) one;
  counted = λ studio feeds number feed f is.
      let was = h.counted studio feeds number feed f is in
      let k = value studio (slice_set feeds stream (fed_more feed h.more)) number (fed_more feed h.more) (h.stands studio feeds number feed f is) (there feeds stream (fed_more feed h.more) feed is) in
      let one : length (fed_more (fed_more feed h.more) (mark ∷ [])).marks + (if not kept then 1 else 0) ≡ length (fed_more feed h.more).marks + 1 = by_kept (is_mark_list (format_of feed.stream) ((fed_more feed h.more).marks ++ mark ∷ [])) kept (fed_more feed h.more).marks mark k in
      let same : length (fed_more feed (h.more ++ mark ∷ [])).marks ≡ length (fed_more (fed_more feed h.more) (mark ∷ [])).marks = ap (λ (g : Feed). length g.marks) (sym (joined feed)) in
      omega (arith, was, one, same, count);
}
  where
    joined : (feed : Feed) → fed_more (fed_more feed h.more) (mark ∷ []) ≡ fed_more feed (h.more ++ mark ∷ [])
    joined feed = ap (λ (l : List MarkView). record { stream = feed.stream; marks = l }) (sym (accepted_after-append (format_of feed.stream) feed.marks h.more (mark ∷ [])))

pub fed_kept : (feed : Feed) (mark : MarkView) → is_mark_list (format_of feed.stream) (feed.marks ++ mark ∷ []) ≡ true → fed_more feed (mark ∷ []) ≡ record { stream = feed.stream; marks = feed.marks ++ mark ∷ [] }
fed_kept feed mark e = ap (λ b. record { stream = feed.stream; marks = if b then feed.marks ++ mark ∷ [] else feed.marks }) e

pub fed_strange : (feed : Feed) (mark : MarkView) → is_mark_list (format_of feed.stream) (feed.marks ++ mark ∷ []) ≡ false → fed_more feed (mark ∷ []) ≡ feed
fed_strange feed mark e = ap (λ b. record { stream = feed.stream; marks = if b then feed.marks ++ mark ∷ [] else feed.marks }) e

pub keeps : (v : MixerState) (stream : ℕ) (mark : MarkView) (studio : Studio) (feeds : List Feed) (number : ℕ) (feed : Feed) → is_mark_list (format_of feed.stream) (feed.marks ++ mark ∷ []) ≡ true
    → HasFeeds studio v (slice_set feeds stream (record { stream = feed.stream; marks = feed.marks ++ mark ∷ [] })) number → HasFeeds studio v (slice_set feeds stream (fed_more feed (mark ∷ []))) number
keeps v stream mark studio feeds number feed e h = subst (λ (f : Feed). HasFeeds studio v (slice_set feeds stream f) number) (sym (fed_kept feed mark e)) h

pub drops : (w : MixerState) (stream : ℕ) (mark : MarkView) (studio : Studio) (feeds : List Feed) (number : ℕ) (feed : Feed) → is_mark_list (format_of feed.stream) (feed.marks ++ mark ∷ []) ≡ false
    → slice_get feeds stream ≡ Some feed → HasFeeds studio w feeds number → HasFeeds studio w (slice_set feeds stream (fed_more feed (mark ∷ []))) number
drops w stream mark studio feeds number feed e is h = subst (λ fs. HasFeeds studio w fs number) (sym (ap (λ (f : Feed). slice_set feeds stream f) (fed_strange feed mark e) ∙ same_feeds feeds stream feed is)) h

pub at_most_one : (kept : Bool) (odd : ℕ) → odd ≡ (if not kept then 1 else 0) → odd ≤ 1
at_most_one true odd e = omega (arith, e)
at_most_one false odd e = omega (arith, e)

-- why no more marks are taken: 64 were, none is known, or the mixer wants none
module _ (s t : TokenConsumer MarkView) (m w : MixerState) (stream taken strange : ℕ) (h : TakesMarks s t m w stream taken strange) (most : taken ≤ 64) (odd : strange ≤ taken) where
  pub stops_full : taken ≡ 64 → TakesWanted s t m w stream taken strange
  stops_full all = record { takes = h; most = most; some_strange = odd; stop = λ studio feeds number feed f is. inl all }

  pub stops_empty : (u : TokenConsumer MarkView) → SameConsumer t.ring u.ring → u.done ≡ t.done → received u.ring ≡ received t.ring → known_items u.ring ≡ [] → TakesWanted s u m w stream taken strange
  stops_empty u ring done same none = record {
    takes = record {
      more = h.more;
      ring = consumers s.ring t.ring u.ring h.ring ring;
      done = done ∙ h.done;
      received_are = same ∙ h.received_are;
      count_is = h.count_is;
      lanes = h.lanes;
      spec = h.spec;
      stands = h.stands;
      counted = h.counted;
    };
    most = most;
    some_strange = odd;
    stop = λ studio feeds number feed f is. inr (inl none);
  }

  pub stops_final : ((studio : Studio) (feeds : List Feed) (number : ℕ) (feed : Feed) → HasFeeds studio w feeds number → slice_get feeds stream ≡ Some feed
      → false ≡ not (covers (cover_of (format_of feed.stream) feed.marks) (block_start studio.output (number + 1)))) → TakesWanted s t m w stream taken strange
  stops_final wants = record {
    takes = h;
    most = most;
    some_strange = odd;
    stop = λ studio feeds number feed f is.
        inr (inr (not_not (covers (cover_of (format_of feed.stream) (fed_more feed h.more).marks) (block_start studio.output (number + 1)))
        (wants studio (slice_set feeds stream (fed_more feed h.more)) number (fed_more feed h.more) (h.stands studio feeds number feed f is) (there feeds stream (fed_more feed h.more) feed is))));
  }
    where
      not_not : (b : Bool) → false ≡ not b → b ≡ true
      not_not true e = refl
      not_not false e = absurd (false≢true e)
