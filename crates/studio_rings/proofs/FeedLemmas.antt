-- A path's worker after one more result of its feed.
use Rattle.std.proofs.Common.{◌≡◌, ℕ, ◌+◌, ◌-◌, ◌*◌, ◌^◌, ◌≤◌, ◌<◌, Bool, true, false, cond, nat_eq, nat_lt, List, [], ◌∷◌, ◌++◌, length, take, refl, sym, ap, ◌∙◌, arith, append_assoc, append-nil, length-append, ◌⊎◌, inl, inr, subst}
use Rattle.studio_ends.proofs.TurnLemmas.{producers}
use Rattle.std.proofs.lemmas.Bool.Decides.{nat_tests}
use Rattle.std.proofs.lemmas.List.Sums.{sum_by-append}
use Rattle.rtrb.specs.Ring.{sent, SameProducer}
use Rattle.rtp_stream.specs.declared.packet.Packet.{Packet}
use Rattle.rtp_stream.specs.Reception.{reception_of, is_bad, is_sent, is_wrong_length, is_wrong_type}
use Rattle.rtp_stream.specs.PathCounts.{PathTally, path_tally_of, with_reception}
use Rattle.rtp_stream.specs.declared.reception.Reception.{Reception}
use Rattle.rtp_stream.specs.declared.reception.Reception.TheVariants.{Sent, Bad, WrongType, WrongLength}
use Rattle.rtp_stream.specs.declared.stream_spec.Stream.{Stream}
use Rattle.studio_ends.specs.Paths.{Offers, Receives}
use Rattle.studio_ends.specs.declared.path_end.Offer.{Offer}
use Rattle.studio_ends.specs.declared.path_end.Offer.TheVariants.{CountersFull, Bad as BadOffer, WrongType as OtherType, WrongLength as OtherLength, Full, Sent as SentOffer}
use Rattle.studio_ends.specs.declared.path_end.PathEnd.{PathEnd}
use Rattle.rtp_stream.specs.declared.stream_counts.PathCounts.{PathCounts}
use Rattle.std.proofs.lemmas.Bool.{false≢true}
use Rattle.studio_io.proofs.AnswerLemmas.{told-next}
use Rattle.studio_io.specs.FeedStates.{Notes, new_state}
use Rattle.studio_io.specs.declared.feed_state.FeedState.{FeedState}
use Rattle.studio_io.specs.Answers.{Answer, CountsOthers, Tells, reaches_end, received_as, told_datagrams, told_packets, IsPartOf, packet_in, packets_in, packets_of}
use Rattle.studio_io.specs.declared.feed.FeedAnswer.{FeedAnswer}
use Rattle.studio_io.specs.declared.feed.FeedAnswer.TheVariants.{Datagram, Nothing, Fault, Ended}
use Rattle.studio_rings.specs.PathWorkers.{OffersAgain, SendsSoFar, SendsFeed}

none_other : (o : Reception) → is_sent o ≡ true → (is_bad o ≡ false) × (is_wrong_type o ≡ false) × (is_wrong_length o ≡ false)
none_other (Sent packet) e = (refl, refl, refl)
none_other (Bad fault) e = absurd (cc)
none_other WrongType e = absurd (cc)
none_other WrongLength e = absurd (cc)

-- a packet that found the ring full 1,001 times
pub offers-lost : (octets : List ℕ) (p q : PathEnd) → SameProducer p.ring q.ring → q.spec ≡ p.spec → sent q.ring ≡ sent p.ring → is_sent (reception_of p.spec octets) ≡ true → q.counts.full ≡ p.counts.full + 1001
    → q.counts.bad ≡ p.counts.bad → q.counts.wrong_type ≡ p.counts.wrong_type → q.counts.wrong_length ≡ p.counts.wrong_length → p.counts.offered ≤ q.counts.offered → q.counts.offered ≤ p.counts.offered + 1001 → OffersAgain octets p q
offers-lost octets p q ring spec same packet full bad wrong_type wrong_length offered few =
    let none = none_other (reception_of p.spec octets) packet in
    record {
      ring = ring;
      spec = spec;
      sends = inl same;
      all = λ few. absurd (omega (arith, few, full));
      others = λ _. record {
        bad = rw none.0 (omega (arith, bad));
        wrong_type = rw none.1 (omega (arith, wrong_type));
        wrong_length = rw none.2 (omega (arith, wrong_length));
      };
      full = omega (arith, full);
      offered = offered;
      few = few;
    }

counts-others : (stream : Stream) (octets : List ℕ) (o : Reception) (a b : PathTally) → reception_of stream octets ≡ o → b ≡ with_reception a o → CountsOthers stream (octets ∷ []) a b
counts-others stream octets (Sent packet) a b r h = record { bad = rw (r, h) (omega arith); wrong_type = rw (r, h) (omega arith); wrong_length = rw (r, h) (omega arith) }
counts-others stream octets (Bad fault) a b r h = record { bad = rw (r, h) (omega arith); wrong_type = rw (r, h) (omega arith); wrong_length = rw (r, h) (omega arith) }
counts-others stream octets WrongType a b r h = record { bad = rw (r, h) (omega arith); wrong_type = rw (r, h) (omega arith); wrong_length = rw (r, h) (omega arith) }
counts-others stream octets WrongLength a b r h = record { bad = rw (r, h) (omega arith); wrong_type = rw (r, h) (omega arith); wrong_length = rw (r, h) (omega arith) }

counts-offer : (o : Reception) (a b : PathTally) → b ≡ with_reception a o → (b.full ≡ a.full) × (b.offered ≡ a.offered + 1)
counts-offer (Sent packet) a b h = rw h (refl, refl)
counts-offer (Bad fault) a b h = rw h (refl, refl)
counts-offer WrongType a b h = rw h (refl, refl)
counts-offer WrongLength a b h = rw h (refl, refl)

-- offers of a packet found the ring full, and changed no other count
pub record FoundNoSpace (p e : PathEnd) : Type 0 where
  pub spec : e.spec ≡ p.spec
  pub same : sent e.ring ≡ sent p.ring
  pub full : p.counts.full ≤ e.counts.full
  pub bad : e.counts.bad ≡ p.counts.bad
  pub wrong_type : e.counts.wrong_type ≡ p.counts.wrong_type
  pub wrong_length : e.counts.wrong_length ≡ p.counts.wrong_length
  pub offered : p.counts.offered ≤ e.counts.offered
  pub few : e.counts.offered ≤ p.counts.offered + 1000

-- after offers that found the ring full, the datagram was received
received-then : (octets : List ℕ) (p e q : PathEnd) (o : Reception) → FoundNoSpace p e → SameProducer p.ring q.ring → q.spec ≡ p.spec
    → Receives octets e o q → sent q.ring ≡ sent e.ring ++ packet_in o → OffersAgain octets p q
received-then octets p e q o before ring spec h sends =
    let received : reception_of p.spec octets ≡ o = rw before.spec at h.received in
    let counted = counts-others p.spec octets o (path_tally_of e.counts) (path_tally_of q.counts) received h.counted in
    let more = counts-offer o (path_tally_of e.counts) (path_tally_of q.counts) h.counted in
    let all : sent q.ring ≡ sent p.ring ++ packets_of p.spec octets = rw (received, sym before.same) sends in
    record {
      ring = ring;
      spec = spec;
      sends = inr all;
      all = λ _ _. all;
      others = λ _. record {
        bad = omega (arith, counted.bad, before.bad);
        wrong_type = omega (arith, counted.wrong_type, before.wrong_type);
        wrong_length = omega (arith, counted.wrong_length, before.wrong_length);
      };
      full = omega (arith, more.0, before.full);
      offered = omega (arith, more.1, before.offered);
      few = omega (arith, more.1, before.few);
    }

-- after offers that found the ring full, no more can be counted
refused-then : (octets : List ℕ) (p e q : PathEnd) → FoundNoSpace p e → SameProducer p.ring q.ring → q.spec ≡ p.spec → q ≡ e → e.counts.offered ≡ 2 ^ 62 → OffersAgain octets p q
refused-then octets p e q before ring spec same many =
    let offered = ap (λ (x : PathEnd). x.counts.offered) same in
    record {
      ring = ring;
      spec = spec;
      sends = inl (ap (λ (x : PathEnd). sent x.ring) same ∙ before.same);
      all = λ _ few. absurd (omega (arith, few, offered, many));
      others = λ few. absurd (omega (arith, few, offered, many));
      full = let full = ap (λ (x : PathEnd). x.counts.full) same in omega (arith, full, before.full);
      offered = omega (arith, offered, before.offered);
      few = omega (arith, offered, before.few);
    }

-- after offers that found the ring full, the result was not `Full`
pub offers-then : (octets : List ℕ) (p e q : PathEnd) (answer : Offer) → FoundNoSpace p e → SameProducer p.ring q.ring → q.spec ≡ p.spec
    → (answer ≡ Full → ⊥) → Offers octets e answer q → OffersAgain octets p q
offers-then octets p e q CountersFull before ring spec other h = refused-then octets p e q before ring spec h.0 h.1
offers-then octets p e q (BadOffer fault) before ring spec other h = received-then octets p e q (Bad fault) before ring spec h.0 (h.1 ∙ sym (append-nil (sent e.ring)))
offers-then octets p e q OtherType before ring spec other h = received-then octets p e q WrongType before ring spec h.0 (h.1 ∙ sym (append-nil (sent e.ring)))
offers-then octets p e q OtherLength before ring spec other h = received-then octets p e q WrongLength before ring spec h.0 (h.1 ∙ sym (append-nil (sent e.ring)))
offers-then octets p e q Full before ring spec other h = absurd (other refl)
offers-then octets p e q SentOffer before ring spec other h = received-then octets p e q (Sent h.0) before ring spec h.1 h.2

-- a part of a list is a part of a longer list
pub part-skip : (zs xs : List Packet) (d : List Packet) → IsPartOf zs xs → IsPartOf zs (d ++ xs)
unfolding IsPartOf
part-skip zs xs [] h = h
part-skip zs xs (y ∷ ys) h = inl (part-skip zs xs ys h)

pub part-take : (zs xs : List Packet) (o : Reception) → IsPartOf zs xs → IsPartOf (packet_in o ++ zs) (packet_in o ++ xs)
unfolding IsPartOf
part-take zs xs (Bad fault) h = h
part-take zs xs WrongType h = h
part-take zs xs WrongLength h = h
part-take zs xs (Sent y) h = inr (zs, refl, h)

sends-start : (told : List Answer) (p : PathEnd) → reaches_end 0 told ≡ true → SendsSoFar told p told 0 p
sends-start told p w = record {
  ring = ((refl, refl, refl, refl), refl);
  spec = refl;
  whole = w;
  more = [];
  sends = sym (append-nil (sent p.ring));
  some = λ zs h. h;
  all = λ _ _. refl;
  tried = [];
  before = refl;
  grows = omega arith;
  lacking = λ _. omega arith;
  others = λ _. record { bad = omega arith; wrong_type = omega arith; wrong_length = omega arith };
  offered = omega arith;
}

packets-append : (stream : Stream) (xs ys : List (List ℕ)) → packets_in stream (xs ++ ys) ≡ packets_in stream xs ++ packets_in stream ys
packets-append stream [] ys = refl
packets-append stream (x ∷ xs) ys = ap (λ l. packets_of stream x ++ l) (packets-append stream xs ys) ∙ sym (append_assoc (packets_of stream x) (packets_in stream xs) (packets_in stream ys))

received-append : (test : Reception → Bool) (stream : Stream) (xs ys : List (List ℕ)) → received_as test stream (xs ++ ys) ≡ received_as test stream xs + received_as test stream ys
received-append test stream xs ys = sum_by-append (λ octets. cond (test (reception_of stream octets)) 1 0) xs ys

-- the counts of some datagrams, and then of more
others-more : (stream : Stream) (xs ys : List (List ℕ)) (a b c : PathTally) → CountsOthers stream xs a b → CountsOthers stream ys b c → CountsOthers stream (xs ++ ys) a c
others-more stream xs ys a b c h k = record {
  bad = let f = h.bad in let g = k.bad in let e = received-append is_bad stream xs ys in omega (arith, f, g, e);
  wrong_type = let f = h.wrong_type in let g = k.wrong_type in let e = received-append is_wrong_type stream xs ys in omega (arith, f, g, e);
  wrong_length = let f = h.wrong_length in let g = k.wrong_length in let e = received-append is_wrong_length stream xs ys in omega (arith, f, g, e);
}

none_of : (xs : List Packet) (o : Reception) → xs ≡ xs ++ packet_in o → packet_in o ≡ []
none_of xs (Bad fault) e = refl
none_of xs WrongType e = refl
none_of xs WrongLength e = refl
none_of xs (Sent x) e = absurd (let h = ap length e in omega (arith, h, length-append xs (x ∷ [])))

lacks_packet : (b : Bool) (x : Packet) (xs ys : List Packet) (f g : ℕ) → nat_lt g (f + 1001) ≡ b → ys ≡ xs → (g < f + 1001 → ys ≡ xs ++ x ∷ []) → f + 1001 ≤ g
lacks_packet true x xs ys f g is e every = absurd (let h = ap length (sym e ∙ every (grind (arith, nat_tests, is))) in omega (arith, h, length-append xs (x ∷ [])))
lacks_packet false x xs ys f g is e every = grind (arith, nat_tests, is)

-- if nothing was sent of a datagram, it is not a packet of the stream, or it found the ring full 1,001 times
lacks : (o : Reception) (xs ys : List Packet) (f g : ℕ) → f ≤ g → ys ≡ xs → (g < f + 1001 → ys ≡ xs ++ packet_in o) → f + length (packet_in o) * 1001 ≤ g
lacks (Bad fault) xs ys f g le e every = omega (arith, le)
lacks WrongType xs ys f g le e every = omega (arith, le)
lacks WrongLength xs ys f g le e every = omega (arith, le)
lacks (Sent x) xs ys f g le e every = let h = lacks_packet (nat_lt g (f + 1001)) x xs ys f g refl e every in omega (arith, h)

tried-more : (stream : Stream) (tried : List (List ℕ)) (octets : List ℕ) → length (packets_in stream (tried ++ octets ∷ [])) ≡ length (packets_in stream tried) + length (packets_of stream octets)
tried-more stream tried octets = ap length (packets-append stream tried (octets ∷ []) ∙ ap (λ l. packets_in stream tried ++ l) (append-nil (packets_of stream octets))) ∙ length-append (packets_in stream tried) (packets_of stream octets)

-- one more datagram, whose packet was sent or not
step : (told rest : List Answer) (p q r : PathEnd) (octets : List ℕ) (more : List Packet) (tried : List (List ℕ))
    → SameProducer p.ring q.ring → r.spec ≡ p.spec → reaches_end 0 rest ≡ true
    → sent q.ring ≡ sent p.ring ++ more
    → ((zs : List Packet) → IsPartOf zs (packets_of p.spec octets ++ told_packets p.spec 0 rest) → IsPartOf (more ++ zs) (told_packets p.spec 0 told))
    → (q.counts.full ≤ 1000 → q.counts.offered < 2 ^ 62 → more ++ (packets_of p.spec octets ++ told_packets p.spec 0 rest) ≡ told_packets p.spec 0 told)
    → tried ++ octets ∷ told_datagrams 0 rest ≡ told_datagrams 0 told → p.counts.full ≤ q.counts.full
    → (q.counts.offered < 2 ^ 62 → p.counts.full + length (packets_in p.spec tried) * 1001 ≤ q.counts.full + length more * 1001)
    → (q.counts.offered < 2 ^ 62 → CountsOthers p.spec tried (path_tally_of p.counts) (path_tally_of q.counts))
    → SameProducer q.ring r.ring
    → (sent r.ring ≡ sent q.ring) ⊎ (sent r.ring ≡ sent q.ring ++ packets_of p.spec octets)
    → (r.counts.full < q.counts.full + 1001 → r.counts.offered < 2 ^ 62 → sent r.ring ≡ sent q.ring ++ packets_of p.spec octets)
    → (r.counts.offered < 2 ^ 62 → CountsOthers p.spec (octets ∷ []) (path_tally_of q.counts) (path_tally_of r.counts))
    → q.counts.full ≤ r.counts.full → q.counts.offered ≤ r.counts.offered
    → q.counts.offered ≤ p.counts.offered + 1001 * length tried → r.counts.offered ≤ q.counts.offered + 1001
    → SendsSoFar told p rest 0 r
step told rest p q r octets more tried pq spec w sends some all before grows lacking others qr (inl e) every counted f g many few = record {
  ring = producers p.ring q.ring r.ring pq qr;
  spec = spec;
  whole = w;
  more = more;
  sends = e ∙ sends;
  some = λ zs h. some zs (part-skip zs (told_packets p.spec 0 rest) (packets_of p.spec octets) h);
  all = λ a b.
      let n : packets_of p.spec octets ≡ [] = none_of (sent q.ring) (reception_of p.spec octets) (sym e ∙ every (omega arith) b) in
      let t : more ++ (packets_of p.spec octets ++ told_packets p.spec 0 rest) ≡ told_packets p.spec 0 told = all (omega arith) (omega arith) in
      ap (λ l. more ++ (l ++ told_packets p.spec 0 rest)) (sym n) ∙ t;
  tried = tried ++ octets ∷ [];
  before = append_assoc tried (octets ∷ []) (told_datagrams 0 rest) ∙ before;
  grows = omega (arith, grows, f);
  lacking = λ b.
      let h = lacking (omega (arith, b, g)) in
      let k = lacks (reception_of p.spec octets) (sent q.ring) (sent r.ring) q.counts.full r.counts.full f e (λ a. every a b) in
      let l = tried-more p.spec tried octets in
      omega (arith, h, k, l);
  others = λ b. others-more p.spec tried (octets ∷ []) (path_tally_of p.counts) (path_tally_of q.counts) (path_tally_of r.counts) (others (omega (arith, b, g))) (counted b);
  offered = omega (arith, many, few, length-append tried (octets ∷ []));
}
step told rest p q r octets more tried pq spec w sends some all before grows lacking others qr (inr e) every counted f g many few = record {
  ring = producers p.ring q.ring r.ring pq qr;
  spec = spec;
  whole = w;
  more = more ++ packets_of p.spec octets;
  sends = rw (e, sends) (append_assoc (sent p.ring) more (packets_of p.spec octets));
  some = λ zs h. rw (append_assoc more (packets_of p.spec octets) zs) (some (packets_of p.spec octets ++ zs) (part-take zs (told_packets p.spec 0 rest) (reception_of p.spec octets) h));
  all = λ a b. append_assoc more (packets_of p.spec octets) (told_packets p.spec 0 rest) ∙ all (omega arith) (omega arith);
  tried = tried ++ octets ∷ [];
  before = append_assoc tried (octets ∷ []) (told_datagrams 0 rest) ∙ before;
  grows = omega (arith, grows, f);
  lacking = λ b.
      let h = lacking (omega (arith, b, g)) in
      let l = tried-more p.spec tried octets in
      omega (arith, h, f, l, length-append more (packets_of p.spec octets));
  others = λ b. others-more p.spec tried (octets ∷ []) (path_tally_of p.counts) (path_tally_of q.counts) (path_tally_of r.counts) (others (omega (arith, b, g))) (counted b);
  offered = omega (arith, many, few, length-append tried (octets ∷ []));
}

sends-datagram : (told left rest : List Answer) (p q r : PathEnd) (k n : ℕ) (b : List ℕ)
    → SendsSoFar told p left k q → Tells left b (Datagram n) rest → OffersAgain (take n b) q r → SendsSoFar told p rest 0 r
unfolding reaches_end told_datagrams
sends-datagram told left rest p q r k n b h t s =
    let e = told-next k left b (Datagram n) rest h.whole t in
    let w : reaches_end 0 rest ≡ true = rw e at h.whole in
    let some : (zs : List Packet) → IsPartOf zs (packets_of p.spec (take n b) ++ told_packets p.spec 0 rest) → IsPartOf (h.more ++ zs) (told_packets p.spec 0 told) = rw e at h.some in
    let all : q.counts.full ≤ 1000 → q.counts.offered < 2 ^ 62 → h.more ++ (packets_of p.spec (take n b) ++ told_packets p.spec 0 rest) ≡ told_packets p.spec 0 told = rw e at h.all in
    let before : h.tried ++ take n b ∷ told_datagrams 0 rest ≡ told_datagrams 0 told = rw e at h.before in
    step told rest p q r (take n b) h.more h.tried h.ring (s.spec ∙ h.spec) w h.sends some all before h.grows h.lacking h.others s.ring
    (subst (λ (x : Stream). (sent r.ring ≡ sent q.ring) ⊎ (sent r.ring ≡ sent q.ring ++ packets_of x (take n b))) h.spec s.sends)
    (subst (λ (x : Stream). r.counts.full < q.counts.full + 1001 → r.counts.offered < 2 ^ 62 → sent r.ring ≡ sent q.ring ++ packets_of x (take n b)) h.spec s.all)
    (subst (λ (x : Stream). r.counts.offered < 2 ^ 62 → CountsOthers x (take n b ∷ []) (path_tally_of q.counts) (path_tally_of r.counts)) h.spec s.others)
    s.full s.offered h.offered s.few

sends-nothing : (told left rest : List Answer) (p q r : PathEnd) (k : ℕ) (b : List ℕ)
    → SendsSoFar told p left k q → r ≡ record q { sender = r.sender } → Tells left b Nothing rest → SendsSoFar told p rest 0 r
unfolding reaches_end told_datagrams
sends-nothing told left rest p q r k b h same t =
    let e = told-next k left b Nothing rest h.whole t in
    let sends : SendsSoFar told p rest 0 (record q { sender = r.sender }) =
    record { ring = h.ring; spec = h.spec; whole = rw e at h.whole; more = h.more; sends = h.sends; some = rw e at h.some; all = rw e at h.all; tried = h.tried; before = rw e at h.before; grows = h.grows; lacking = h.lacking; others = h.others; offered = h.offered } in
    subst (SendsSoFar told p rest 0) (sym same) sends

sends-fault : (told left rest : List Answer) (p q : PathEnd) (k : ℕ) (b : List ℕ)
    → (k ≡ 999 → ⊥) → SendsSoFar told p left k q → Tells left b Fault rest → SendsSoFar told p rest (k + 1) q
unfolding reaches_end told_datagrams
sends-fault told left rest p q k b n h t =
    let e = told-next k left b Fault rest h.whole t in
    let z : nat_eq k 999 ≡ false = grind (arith, nat_tests) in
    record { ring = h.ring; spec = h.spec; whole = rw (e, z) at h.whole; more = h.more; sends = h.sends; some = rw (e, z) at h.some; all = rw (e, z) at h.all; tried = h.tried; before = rw (e, z) at h.before; grows = h.grows; lacking = h.lacking; others = h.others; offered = h.offered }

less : (a m f g : ℕ) → f ≤ g → f + a * 1001 ≤ g + m * 1001 → f + (a - m) * 1001 ≤ g
less a m f g le h = omega arith

-- the packets that were sent in all, if no datagram is left
sends_all : (told : List Answer) (p q : PathEnd) (left : List Answer) (k : ℕ) (all : List Packet) (c : PathCounts) → SendsSoFar told p left k q → told_datagrams k left ≡ [] → all ≡ sent q.ring → c ≡ q.counts → SendsFeed told p all c
unfolding IsPartOf
sends_all told p q left k all c h none a i =
    let some : (zs : List Packet) → zs ≡ [] → IsPartOf (h.more ++ zs) (told_packets p.spec 0 told) = rw none at h.some in
    let every : q.counts.full ≤ 1000 → q.counts.offered < 2 ^ 62 → h.more ++ [] ≡ told_packets p.spec 0 told = rw none at h.all in
    let those : h.tried ≡ told_datagrams 0 told = rw append-nil at (rw none at h.before) in
    record {
      more = h.more;
      sends = a ∙ h.sends;
      some = rw append-nil at (some [] refl);
      all = rw i (rw append-nil at every);
      lacking = rw i (λ few. less (length (told_packets p.spec 0 told)) (length h.more) p.counts.full q.counts.full h.grows (rw those at (h.lacking few)));
      others = rw i (rw those at h.others);
      offered = rw i (rw those at h.offered);
    }

-- the feed ended: it said so, or failed for the 1,000th time in a row
sends-end : (told left rest : List Answer) (p q : PathEnd) (k : ℕ) (b : List ℕ) (r : FeedAnswer) (all : List Packet) (c : PathCounts)
    → (r ≡ Ended) ⊎ ((r ≡ Fault) × (k ≡ 999)) → SendsSoFar told p left k q → Tells left b r rest → all ≡ sent q.ring → c ≡ q.counts → SendsFeed told p all c
unfolding told_datagrams
sends-end told left rest p q k b r all c (inl s) h t a i = sends_all told p q left k all c h (rw (rw s at (told-next k left b r rest h.whole t)) refl) a i
sends-end told left rest p q k b r all c (inr s) h t a i = sends_all told p q left k all c h (rw (rw s.0 at (told-next k left b r rest h.whole t), s.1) refl) a i

-- what was sent from a feed with the results `told`, before it has ended and once it has ended
pub record Sends (told : List Answer) (p : PathEnd) (left : List Answer) (state : FeedState) (q : PathEnd) : Type 0 where
  pub on : state.ended ≡ false → SendsSoFar told p left state.in_a_row q
  pub over : state.ended ≡ true → SendsFeed told p (sent q.ring) q.counts

pub sends-none : (told : List Answer) (p : PathEnd) → reaches_end 0 told ≡ true → Sends told p told new_state p
sends-none told p whole = record { on = λ _. sends-start told p whole; over = λ e. absurd (false≢true e) }

-- what a path's worker does with a result of its feed
abbrev pub Handles : FeedAnswer → List ℕ → PathEnd → PathEnd → Type 0
Handles (Datagram n) b q r = OffersAgain (take n b) q r
Handles Nothing b q r = r ≡ record q { sender = r.sender }
Handles Fault b q r = r ≡ q
Handles Ended b q r = r ≡ q

never_ends : (old new : FeedState) → new.ended ≡ old.ended → old.ended ≡ false → new.ended ≡ true → ⊥
never_ends old new same yet e = false≢true (sym (same ∙ yet) ∙ e)

sends-known : (told left rest : List Answer) (p q r : PathEnd) (old new : FeedState) (b : List ℕ) (answer : FeedAnswer) → old.ended ≡ false → old.in_a_row ≤ 999
    → Notes answer old new → Tells left b answer rest → Handles answer b q r → SendsSoFar told p left old.in_a_row q → Sends told p rest new r
sends-known told left rest p q r old new b (Datagram n) yet few notes tells handles h = record {
  on = λ _. subst (λ k. SendsSoFar told p rest k r) (sym notes.0) (sends-datagram told left rest p q r old.in_a_row n b h tells handles);
  over = λ e. absurd (never_ends old new notes.1 yet e);
}
sends-known told left rest p q r old new b Nothing yet few notes tells handles h = record {
  on = λ _. subst (λ k. SendsSoFar told p rest k r) (sym notes.0) (sends-nothing told left rest p q r old.in_a_row b h handles tells);
  over = λ e. absurd (never_ends old new notes.1 yet e);
}
sends-known told left rest p q r old new b Fault yet few (inl notes) tells handles h = record {
  on = λ _.
      let less = notes.0 in
      let next : SendsSoFar told p rest (old.in_a_row + 1) q = sends-fault told left rest p q old.in_a_row b (λ e. absurd (omega (arith, less, e))) h tells in
      subst (λ k. SendsSoFar told p rest k r) (sym notes.1) (subst (SendsSoFar told p rest (old.in_a_row + 1)) (sym handles) next);
  over = λ e. absurd (never_ends old new notes.2 yet e);
}
sends-known told left rest p q r old new b Fault yet few (inr notes) tells handles h = record {
  on = λ e. absurd (false≢true (sym e ∙ notes.2));
  over = λ _.
      let row = notes.0 in
      let last : old.in_a_row ≡ 999 = omega (arith, row, few) in
      subst (λ (x : PathEnd). SendsFeed told p (sent x.ring) x.counts) (sym handles) (sends-end told left rest p q old.in_a_row b Fault (sent q.ring) q.counts (inr (refl, last)) h tells refl refl);
}
sends-known told left rest p q r old new b Ended yet few notes tells handles h = record {
  on = λ e. absurd (false≢true (sym e ∙ notes.1));
  over = λ _. subst (λ (x : PathEnd). SendsFeed told p (sent x.ring) x.counts) (sym handles) (sends-end told left rest p q old.in_a_row b Ended (sent q.ring) q.counts (inl refl) h tells refl refl);
}

-- one more result of the feed, which is the next of its known results
pub sends-answer : (told left rest : List Answer) (p q r : PathEnd) (old new : FeedState) (b : List ℕ) (answer known : FeedAnswer) → answer ≡ known → old.ended ≡ false → old.in_a_row ≤ 999
    → Notes answer old new → Tells left b answer rest → Handles known b q r → Sends told p left old q → Sends told p rest new r
sends-answer told left rest p q r old new b answer known is yet few notes tells handles h =
    sends-known told left rest p q r old new b known yet few (subst (λ a. Notes a old new) is notes) (subst (λ a. Tells left b a rest) is tells) handles (h.on yet)

-- fewer than 1,000 faults have come in a row
pub few-faults : (old new : FeedState) (answer : FeedAnswer) → old.in_a_row ≤ 999 → Notes answer old new → new.in_a_row ≤ 999
few-faults old new (Datagram n) few notes = let row = notes.0 in omega (arith, row)
few-faults old new Nothing few notes = let row = notes.0 in omega (arith, row)
few-faults old new Fault few (inl notes) = let row = notes.1 in let less = notes.0 in omega (arith, row, less)
few-faults old new Fault few (inr notes) = let row = notes.1 in omega (arith, row, few)
few-faults old new Ended few notes = let row = notes.0 in omega (arith, row, few)
