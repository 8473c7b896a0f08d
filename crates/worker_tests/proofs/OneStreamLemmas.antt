-- The ends of a stream on two paths, if it is the only stream.
use Rattle.std.proofs.Common.{◌≡◌, ℕ, zero, suc, ◌⊎◌, Vec, length-append, List, [], ◌∷◌, ◌++◌, length, get_or, ℤ, Some, unwrap_or, slice_get, refl, sym, ap, subst, ◌∙◌, arith, append-nil}
use Rattle.rtrb.specs.Ring.{IsFinishedOf, IsPair, SameConsumer, SameProducer}
use Rattle.rtrb.specs.Ends.{SameRing}
use Rattle.rtrb.specs.declared.consumer.Consumer.{Consumer}
use Rattle.rtrb.specs.declared.finished.Finished.{Finished}
use Rattle.rtrb.specs.declared.producer.Producer.{Producer}
use Rattle.rtp_stream.specs.declared.stream_spec.Stream.{Stream}
use Rattle.rtp_stream.specs.MarkFacts.{MarkView}
use Rattle.rtp_stream.specs.declared.packet.Packet.{Packet}
use Rattle.studio_ends.specs.FreshEnds.{AllFreshPaths, AllFreshRings, AllFreshStreams}
use Rattle.worker_tests.specs.OneStream.{AreOfOneStream, FeedsMixer, HasSameRings}
use Rattle.studio_ends.specs.Tokens.{HandsIn}
use Rattle.studio_ends.specs.DrainedRings.{AllLookAt}
use Rattle.studio_ends.specs.MarksIn.{AllTakeSome}
use Rattle.studio_ends.specs.StreamTurns.{AllTakePackets}
use Rattle.studio_ends.specs.Streams.{ReadsClock, TakesTurn}
use Rattle.studio_ends.specs.declared.stream_end.marks_out.StopReason.{StopReason}
use Rattle.studio_ends.specs.declared.stream_end.marks_out.TurnNote.{TurnNote}
use Rattle.studio_rings.specs.Turns.{AreSameRings}
use Rattle.studio_ends.proofs.TurnLemmas.{producers}
use Rattle.studio_rings.proofs.StreamTurnLemmas.{looked-either, rings-looked, rings-self, rings-trans}
use Rattle.studio_ends.specs.declared.rings.TokenConsumer.{TokenConsumer}
use Rattle.studio_ends.specs.declared.path_end.PathEnd.{PathEnd}
use Rattle.studio_ends.specs.declared.stream_end.StreamEnd.{StreamEnd}
use Rattle.studio_ends.specs.declared.monitor_end.MonitorEnd.{MonitorEnd}
use Rattle.studio_ends.specs.declared.mix_end.MixEnd.{MixEnd}

-- the two ends of a ring stay the ends of one ring, whatever they do
pub pair_of : {T A P : Type 0} (p q : Producer T A P) (c d : Consumer T A P) → IsPair p c → SameProducer p q → SameConsumer c d → IsPair q d
pair_of p q c d pair same other =
    (other.0.0 ∙ (pair.0 ∙ sym same.0.0), other.0.1 ∙ (pair.1 ∙ sym same.0.1), other.0.2 ∙ (pair.2 ∙ sym same.0.2), other.0.3 ∙ (pair.3 ∙ sym same.0.3))

-- the token of a ring's producer is one for its consumer
pub token_of : {T A P : Type 0} (p : Producer T A P) (done : Finished T A P) (c : Consumer T A P) → IsPair p c → SameRing p.end done.end → IsFinishedOf done c
token_of p done c pair f = (pair.0 ∙ sym f.0, pair.1 ∙ sym f.1, pair.2 ∙ sym f.2, pair.3 ∙ sym f.3)

pub self_producer : {T A P : Type 0} (p : Producer T A P) → SameProducer p p
self_producer p = ((refl, refl, refl, refl), refl)

pub self_consumer : {T A P : Type 0} (c : Consumer T A P) → SameConsumer c c
self_consumer c = ((refl, refl, refl, refl), refl)

-- if a path's end is the producer of the ring at a place, it stays so while the rings are the same
pub path_paired : (p : PathEnd) (olds news : List (TokenConsumer Packet)) (place : ℕ) → AreSameRings olds news
    → ((side : TokenConsumer Packet) → slice_get olds place ≡ Some side → IsPair p.ring side.ring)
    → (side : TokenConsumer Packet) → slice_get news place ≡ Some side → IsPair p.ring side.ring
path_paired p [] [] place same h side at = h side at
path_paired p [] (n ∷ ns) place same h side at = absurd same
path_paired p (o ∷ os) [] place same h side at = absurd same
path_paired p (o ∷ os) (n ∷ ns) zero same h side at =
    let is : n ≡ side = ap (λ x. unwrap_or x n) at in
    subst (λ (x : TokenConsumer Packet). IsPair p.ring x.ring) is (pair_of p.ring p.ring o.ring n.ring (h o refl) (self_producer p.ring) same.0)
path_paired p (o ∷ os) (n ∷ ns) (suc place) same h side at = path_paired p os ns place same.1 h side at

pub same_count : (olds news : List (TokenConsumer Packet)) → AreSameRings olds news → length news ≡ length olds
same_count [] [] same = refl
same_count [] (n ∷ ns) same = absurd same
same_count (o ∷ os) [] same = absurd same
same_count (o ∷ os) (n ∷ ns) same = ap suc (same_count os ns same.1)

-- rings from which marks were taken are the same rings
pub some_same : (olds news : List (TokenConsumer MarkView)) → AllTakeSome olds news → AreSameRings olds news
some_same [] [] h = tt
some_same [] (n ∷ ns) h = absurd h
some_same (o ∷ os) [] h = absurd h
some_same (o ∷ os) (n ∷ ns) h = (h.0.ring, some_same os ns h.1)

pub marks_paired : (s : StreamEnd) (olds news : List (TokenConsumer MarkView)) (place : ℕ) → AreSameRings olds news
    → ((side : TokenConsumer MarkView) → slice_get olds place ≡ Some side → IsPair s.marks side.ring)
    → (side : TokenConsumer MarkView) → slice_get news place ≡ Some side → IsPair s.marks side.ring
marks_paired s [] [] place same h side at = h side at
marks_paired s [] (n ∷ ns) place same h side at = absurd same
marks_paired s (o ∷ os) [] place same h side at = absurd same
marks_paired s (o ∷ os) (n ∷ ns) zero same h side at =
    let is : n ≡ side = ap (λ x. unwrap_or x n) at in
    subst (λ (x : TokenConsumer MarkView). IsPair s.marks x.ring) is (pair_of s.marks s.marks o.ring n.ring (h o refl) (self_producer s.marks) same.0)
marks_paired s (o ∷ os) (n ∷ ns) (suc place) same h side at = marks_paired s os ns place same.1 h side at

pub marks_count : (olds news : List (TokenConsumer MarkView)) → AreSameRings olds news → length news ≡ length olds
marks_count [] [] same = refl
marks_count [] (n ∷ ns) same = absurd same
marks_count (o ∷ os) [] same = absurd same
marks_count (o ∷ os) (n ∷ ns) same = ap suc (marks_count os ns same.1)

-- an end that did not change has the same rings
pub same_end : (old new : StreamEnd) → new ≡ old → HasSameRings old new
same_end old new e = subst (HasSameRings old) (sym e) (record { marks = self_producer old.marks; sides = rings-self old.sides.items })

-- rings that are the same as the same rings
pub same_ends : (old between new : StreamEnd) → HasSameRings old between → HasSameRings between new → HasSameRings old new
same_ends old between new f g = record {
  marks = producers old.marks between.marks new.marks f.marks g.marks;
  sides = rings-trans old.sides.items between.sides.items new.sides.items f.sides g.sides;
}

-- a stream's end stays the producer of the mixer's only ring
pub feeds_on : (stream then : StreamEnd) (olds news : List (TokenConsumer MarkView)) → FeedsMixer stream olds → SameProducer stream.marks then.marks → AreSameRings olds news → FeedsMixer then news
feeds_on stream then olds news h ring same = record {
  one = marks_count olds news same ∙ h.one;
  marks = λ side at. pair_of stream.marks then.marks side.ring side.ring (marks_paired stream olds news 0 same h.marks side at) ring (self_consumer side.ring);
}

-- the ends of one stream stay the ends of one stream after calls of each of them
pub all_on : (first first' second second' : PathEnd) (stream then : StreamEnd) (mix mix' : MixEnd) → AreOfOneStream first second stream mix
    → SameProducer first.ring first'.ring → SameProducer second.ring second'.ring → HasSameRings stream then → AreSameRings mix.sides.items mix'.sides.items
    → AreOfOneStream first' second' then mix'
all_on first first' second second' stream then mix mix' h one two same rings = record {
  two = same_count stream.sides.items then.sides.items same.sides ∙ h.two;
  first_is = λ side at. pair_of first.ring first'.ring side.ring side.ring (path_paired first stream.sides.items then.sides.items 0 same.sides h.first_is side at) one (self_consumer side.ring);
  second_is = λ side at. pair_of second.ring second'.ring side.ring side.ring (path_paired second stream.sides.items then.sides.items 1 same.sides h.second_is side at) two (self_consumer side.ring);
  feeds = feeds_on stream then mix.sides.items mix'.sides.items h.feeds same.marks rings;
}

-- the same after a call of one of them
pub offered : (first then second : PathEnd) (stream : StreamEnd) (mix : MixEnd) → AreOfOneStream first second stream mix → SameProducer first.ring then.ring → AreOfOneStream then second stream mix
offered first then second stream mix h same =
    all_on first then second second stream stream mix mix h same (self_producer second.ring) (same_end stream stream refl) (rings-self mix.sides.items)

pub turned : (first second : PathEnd) (stream then : StreamEnd) (mix : MixEnd) → AreOfOneStream first second stream mix → HasSameRings stream then → AreOfOneStream first second then mix
turned first second stream then mix h same =
    all_on first first second second stream then mix mix h (self_producer first.ring) (self_producer second.ring) same (rings-self mix.sides.items)

pub mixed_more : (first second : PathEnd) (stream : StreamEnd) (mix then : MixEnd) → AreOfOneStream first second stream mix → AllTakeSome mix.sides.items then.sides.items → AreOfOneStream first second stream then
mixed_more first second stream mix then h some =
    all_on first first second second stream stream mix then h (self_producer first.ring) (self_producer second.ring) (same_end stream stream refl) (some_same mix.sides.items then.sides.items some)

-- rings whose consumer got a token are the same rings
pub handed_same : (olds news : List (TokenConsumer Packet)) (place : ℕ) (all : List Packet) → HandsIn olds place all news → AreSameRings olds news
handed_same [] news place all h = absurd h
handed_same (o ∷ os) [] zero all h = absurd h
handed_same (o ∷ os) [] (suc place) all h = absurd h
handed_same (o ∷ os) (n ∷ ns) zero all h = (subst (λ (c : Consumer Packet _ _). SameConsumer o.ring c) (sym h.0.ring) (self_consumer o.ring), subst (AreSameRings os) (sym h.1) (rings-self os))
handed_same (o ∷ os) (n ∷ ns) (suc place) all h = (subst (λ (x : TokenConsumer Packet). SameConsumer o.ring x.ring) (sym h.0) (self_consumer o.ring), handed_same os ns place all h.1)

-- rings from which packets were taken are the same rings
pub taken_same : (olds news : List (TokenConsumer Packet)) (taken : List (List Packet)) → AllTakePackets olds news taken → AreSameRings olds news
taken_same [] [] [] h = tt
taken_same [] [] (packets ∷ more) h = absurd h
taken_same [] (n ∷ ns) taken h = absurd h
taken_same (o ∷ os) [] taken h = absurd h
taken_same (o ∷ os) (n ∷ ns) [] h = absurd h
taken_same (o ∷ os) (n ∷ ns) (packets ∷ more) h = (h.0.ring, taken_same os ns more h.1)

pub turned_same : (old new : StreamEnd) (now : ℤ) (note : TurnNote) → TakesTurn old now note new → HasSameRings old new
turned_same old new now note t = record { marks = t.ring; sides = taken_same old.sides.items new.sides.items t.taken t.took }

pub read_same : (old new : StreamEnd) (now : ℤ) (why : StopReason) → ReadsClock old now why new → HasSameRings old new
read_same old new now why r = record { marks = r.ring; sides = subst (λ (l : Vec (TokenConsumer Packet) _). AreSameRings old.sides.items l.items) (sym r.sides) (rings-self old.sides.items) }

pub drained_same : (old new : StreamEnd) → SameProducer old.marks new.marks → new.sides ≡ old.sides → HasSameRings old new
drained_same old new marks sides = record { marks = marks; sides = subst (λ (l : Vec (TokenConsumer Packet) _). AreSameRings old.sides.items l.items) (sym sides) (rings-self old.sides.items) }

pub handed_in : (old new : StreamEnd) (place : ℕ) (all : List Packet) → HandsIn old.sides.items place all new.sides.items → new.marks ≡ old.marks → HasSameRings old new
handed_in old new place all h marks = record {
  marks = subst (SameProducer old.marks) (sym marks) (self_producer old.marks);
  sides = handed_same old.sides.items new.sides.items place all h;
}

pub looked_same : (old new : StreamEnd) → AllLookAt old.sides.items new.sides.items ⊎ (new ≡ old) → new.marks ≡ old.marks → HasSameRings old new
looked_same old new looks marks = record {
  marks = subst (SameProducer old.marks) (sym marks) (self_producer old.marks);
  sides = rings-looked old.sides.items new.sides.items (looked-either old new looks);
}

record AreTwo (first second : PathEnd) (sides : List (TokenConsumer Packet)) : Type 0 where
  two : length sides ≡ 2
  first_is : (side : TokenConsumer Packet) → slice_get sides 0 ≡ Some side → IsPair first.ring side.ring
  second_is : (side : TokenConsumer Packet) → slice_get sides 1 ≡ Some side → IsPair second.ring side.ring

two_paths : (stream : Stream) (places : ℕ) (own : List PathEnd) (sides : List (TokenConsumer Packet)) (first second : PathEnd) → own ≡ first ∷ second ∷ [] → AllFreshPaths stream places own sides → AreTwo first second sides
two_paths stream places [] sides first second e h = absurd (let l = ap length e in omega (arith, l))
two_paths stream places (p ∷ []) sides first second e h = absurd (let l = ap length e in omega (arith, l))
two_paths stream places (p ∷ q ∷ r ∷ more) sides first second e h = absurd (let l = ap length e in omega (arith, l))
two_paths stream places (p ∷ q ∷ []) [] first second e h = absurd h
two_paths stream places (p ∷ q ∷ []) (a ∷ []) first second e h = absurd h.1
two_paths stream places (p ∷ q ∷ []) (a ∷ b ∷ c ∷ more) first second e h = absurd h.1.1
two_paths stream places (p ∷ q ∷ []) (a ∷ b ∷ []) first second e h =
    let is : p ≡ first = ap (λ l. get_or l 0 p) e in
    let is' : q ≡ second = ap (λ l. get_or l 1 q) e in
    record {
      two = refl;
      first_is = λ side at.
          let at' : a ≡ side = ap (λ o. unwrap_or o a) at in
          subst (λ (s : TokenConsumer Packet). IsPair first.ring s.ring) at' (subst (λ (x : PathEnd). IsPair x.ring a.ring) is h.0.pair);
      second_is = λ side at.
          let at' : b ≡ side = ap (λ o. unwrap_or o b) at in
          subst (λ (s : TokenConsumer Packet). IsPair second.ring s.ring) at' (subst (λ (x : PathEnd). IsPair x.ring b.ring) is' h.1.0.pair);
    }

only_ring : (places : ℕ) (s : StreamEnd) (monitors : List MonitorEnd) (sides : List (TokenConsumer MarkView)) → AllFreshRings places (s ∷ []) monitors sides → FeedsMixer s sides
only_ring places s [] sides h = absurd h
only_ring places s (m ∷ ms) [] h = absurd h
only_ring places s (m ∷ n ∷ ms) (a ∷ sides) h = absurd h.1
only_ring places s (m ∷ []) (a ∷ b ∷ sides) h = absurd h.1
only_ring places s (m ∷ []) (a ∷ []) h = record {
  one = refl;
  marks = λ side at.
      let at' : a ≡ side = ap (λ o. unwrap_or o a) at in
      subst (λ (x : TokenConsumer MarkView). IsPair s.marks x.ring) at' h.0.marks;
}

pub only_stream : (open_at : ℤ) (places : ℕ) (streams : List Stream) (paths : List PathEnd) (ends : List StreamEnd) (monitors : List MonitorEnd) (first second : PathEnd) (s : StreamEnd) (mix : MixEnd)
    → AllFreshStreams open_at places streams paths ends → AllFreshRings places ends monitors mix.sides.items
    → paths ≡ first ∷ second ∷ [] → ends ≡ s ∷ [] → AreOfOneStream first second s mix
only_stream open_at places streams paths [] monitors first second s mix h r e f = absurd (let l = ap length f in omega (arith, l))
only_stream open_at places streams paths (x ∷ y ∷ more) monitors first second s mix h r e f = absurd (let l = ap length f in omega (arith, l))
only_stream open_at places [] paths (x ∷ []) monitors first second s mix h r e f = absurd h
only_stream open_at places (st ∷ su ∷ more) paths (x ∷ []) monitors first second s mix h r e f = absurd h.4
only_stream open_at places (st ∷ []) paths (x ∷ []) monitors first second s mix h r e f =
    let is : x ≡ s = ap (λ l. get_or l 0 x) f in
    let own : h.0 ≡ first ∷ second ∷ [] = sym (append-nil h.0) ∙ (ap (λ l. h.0 ++ l) (sym h.4) ∙ (sym h.2 ∙ e)) in
    let ring : FeedsMixer s mix.sides.items = only_ring places s monitors mix.sides.items (subst (λ (z : StreamEnd). AllFreshRings places (z ∷ []) monitors mix.sides.items) is r) in
    let two : AreTwo first second s.sides.items = two_paths st places h.0 s.sides.items first second own (subst (λ (z : StreamEnd). AllFreshPaths st places h.0 z.sides.items) is h.3.paths) in
    record { two = two.two; first_is = two.first_is; second_is = two.second_is; feeds = ring }

-- what two pops take from a list of two elements, and one pop from a list of one
module _ {A : Type 0} where
  pub two_popped : (xs ys zs : List A) (a b : A) → xs ≡ ys ++ b ∷ [] → ys ≡ zs ++ a ∷ [] → length xs ≡ 2 → xs ≡ a ∷ b ∷ []
  two_popped xs ys [] a b e f l = e ∙ ap (λ k. k ++ b ∷ []) f
  two_popped xs ys (z ∷ zs) a b e f l =
      absurd (let m = ap length e in let n = ap length f in omega (arith, l, m, n, length-append ys (b ∷ []), length-append (z ∷ zs) (a ∷ [])))

  pub one_popped : (xs ys : List A) (a : A) → xs ≡ ys ++ a ∷ [] → length xs ≡ 1 → xs ≡ a ∷ []
  one_popped xs [] a e l = e
  one_popped xs (y ∷ ys) a e l = absurd (let m = ap length e in omega (arith, l, m, length-append (y ∷ ys) (a ∷ [])))
