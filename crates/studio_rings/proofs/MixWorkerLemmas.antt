-- The datagrams that the mixer's worker made, turn by turn.
use Rattle.std.proofs.Common.{◌≡◌, ℕ, ◌+◌, ◌<◌, ◌^◌, Bool, true, false, ℤ, List, [], ◌∷◌, ◌++◌, length, take, Option, Some, None, is_some, IfSome, refl, sym, ap, subst, ◌∙◌, arith, append_assoc, append-nil, length-append, vec_items}
use Rattle.rtrb.specs.Ring.{SameConsumer}
use Rattle.rtrb.specs.declared.consumer.Consumer.{Consumer}
use Rattle.rtp_stream.specs.MarkFacts.{MarkView}
use Rattle.mix_packets.specs.OutSpec.{datagram_length}
use Rattle.studio_config.specs.Studio.{Studio}
use Rattle.studio_ends.specs.MarksIn.{AllTakeSome}
use Rattle.studio_ends.specs.MixEnds.{MixHasFeeds, MixesBlock}
use Rattle.studio_ends.specs.Datagrams.{AreAllGiven, HasGiven, given_after}
use Rattle.studio_ends.specs.declared.rings.TokenConsumer.{TokenConsumer}
use Rattle.studio_ends.specs.declared.mix_end.MixNote.{MixNote}
use Rattle.studio_ends.specs.declared.mix_end.MixEnd.{MixEnd}
use Rattle.studio_io.specs.Sinks.{Hands}
use Rattle.studio_mix.specs.Changed.{with_changes}
use Rattle.studio_rings.specs.GainRequests.{TakesChanges}
use Rattle.studio_rings.specs.MixWorker.{AreSameSides, Mixes, MixesWith}
use Rattle.studio_mix.proofs.TakenLemmas.{more_taken, no_more, with_changes-append}

consumers : {T A P : Type 0} (a b c : Consumer T A P) → SameConsumer a b → SameConsumer b c → SameConsumer a c
consumers a b c f g = ((g.0.0 ∙ f.0.0, g.0.1 ∙ f.0.1, g.0.2 ∙ f.0.2, g.0.3 ∙ f.0.3), g.1 ∙ f.1)

-- rings that did not change are the same rings
rings-self : (ss : List (TokenConsumer MarkView)) → AreSameSides ss ss
rings-self [] = tt
rings-self (s ∷ ss) = ((((refl, refl, refl, refl), refl), refl), rings-self ss)

rings-taken : (olds news : List (TokenConsumer MarkView)) → AllTakeSome olds news → AreSameSides olds news
rings-taken [] [] h = tt
rings-taken [] (n ∷ ns) h = absurd h
rings-taken (o ∷ os) [] h = absurd h
rings-taken (o ∷ os) (n ∷ ns) h = ((h.0.ring, h.0.done), rings-taken os ns h.1)

rings-trans : (xs ys zs : List (TokenConsumer MarkView)) → AreSameSides xs ys → AreSameSides ys zs → AreSameSides xs zs
rings-trans [] [] [] h k = tt
rings-trans [] [] (z ∷ zs) h k = absurd k
rings-trans [] (y ∷ ys) zs h k = absurd h
rings-trans (x ∷ xs) [] zs h k = absurd h
rings-trans (x ∷ xs) (y ∷ ys) [] h k = absurd k
rings-trans (x ∷ xs) (y ∷ ys) (z ∷ zs) h k = ((consumers x.ring y.ring z.ring h.0.0 k.0.0, k.0.1 ∙ h.0.1), rings-trans xs ys zs h.1 k.1)

hands-nil : (o : Option (List (List ℕ))) → Hands o [] o
hands-nil None = tt
hands-nil (Some before) = sym (append-nil before)

hands-more : (o p q : Option (List (List ℕ))) (xs ys : List (List ℕ)) → Hands o xs p → Hands p ys q → Hands o (xs ++ ys) q
hands-more o p None xs ys h k = tt
hands-more o None (Some all) xs ys h k = absurd k
hands-more None (Some mid) (Some all) xs ys h k = absurd h
hands-more (Some before) (Some mid) (Some all) xs ys h k = k ∙ (ap (λ l. l ++ ys) h ∙ append_assoc before xs ys)

-- the datagram that was returned is the octets at the start of `out`
one_given : (P : ℕ → Type 0) (studio : Studio) (t : MixEnd) (before : List (List ℕ)) (out : List ℕ) (size : ℕ) (len : Option ℕ) → is_some len ≡ true → size ≡ datagram_length studio.output
    → IfSome len (λ l. (l ≡ datagram_length studio.output) × P l) → HasGiven studio t (given_after before len out) → HasGiven studio t (before ++ take size out ∷ [])
one_given P studio t before out size None some size_is len_is h = absurd (cc)
one_given P studio t before out size (Some len) some size_is len_is h =
    subst (λ l. HasGiven studio t (before ++ take l out ∷ [])) (len_is.0 ∙ sym size_is) h

module _ {K : Type 0} (handed : K → Option (List (List ℕ))) where
  pub mixes-none : (s : MixEnd) (sink : K) (n : ℕ) → Mixes handed s sink n false s sink n
  mixes-none s sink n = record {
    datagrams = [];
    count = λ _. omega arith;
    hands = hands-nil (handed sink);
    rings = rings-self s.sides.items;
    given = λ studio before h. subst (HasGiven studio s) (sym (append-nil before)) h;
    all = λ e. absurd (cc);
  }

  pub mixes-more : (s t u : MixEnd) (sink then_sink last_sink : K) (n m k : ℕ) (idle now_idle : Bool)
      → Mixes handed s sink n idle t then_sink m → Mixes handed t then_sink m now_idle u last_sink k → Mixes handed s sink n now_idle u last_sink k
  mixes-more s t u sink then_sink last_sink n m k idle now_idle a b = record {
    datagrams = a.datagrams ++ b.datagrams;
    count = λ few.
        let l = length-append a.datagrams b.datagrams in
        let f = a.count (omega (arith, few, l)) in
        let g = b.count (omega (arith, few, f, l)) in
        omega (arith, f, g, l);
    hands = hands-more (handed sink) (handed then_sink) (handed last_sink) a.datagrams b.datagrams a.hands b.hands;
    rings = rings-trans s.sides.items t.sides.items u.sides.items a.rings b.rings;
    given = λ studio before h. subst (HasGiven studio u) (append_assoc before a.datagrams b.datagrams) (b.given studio (before ++ a.datagrams) (a.given studio before h));
    all = λ e studio before h. subst (AreAllGiven studio u) (append_assoc before a.datagrams b.datagrams) (b.all e studio (before ++ a.datagrams) (a.given studio before h));
  }

  -- a turn that returned no datagram
  pub mixes-idle : (s t : MixEnd) (sink : K) (n : ℕ) (len : Option ℕ) (out : List ℕ) (idle : Bool) → len ≡ None → AllTakeSome s.sides.items t.sides.items
      → ((studio : Studio) (datagrams : List (List ℕ)) → HasGiven studio s datagrams → HasGiven studio t (given_after datagrams len out))
      → ((studio : Studio) (datagrams : List (List ℕ)) → HasGiven studio s datagrams → AreAllGiven studio t datagrams)
      → Mixes handed s sink n idle t sink n
  mixes-idle s t sink n len out idle none takes gives all = record {
    datagrams = [];
    count = λ _. omega arith;
    hands = hands-nil (handed sink);
    rings = rings-taken s.sides.items t.sides.items takes;
    given = λ studio before h. subst (HasGiven studio t) (sym (append-nil before)) (subst (λ o. HasGiven studio t (given_after before o out)) none (gives studio before h));
    all = λ e studio before h. subst (AreAllGiven studio t) (sym (append-nil before)) (all studio before h);
  }

  -- what holds if a worker was idle holds without that claim
  pub mixes-on : (s t : MixEnd) (sink new_sink : K) (n m : ℕ) (idle : Bool) → Mixes handed s sink n idle t new_sink m → Mixes handed s sink n false t new_sink m
  mixes-on s t sink new_sink n m idle h = record {
    datagrams = h.datagrams;
    count = h.count;
    hands = h.hands;
    rings = h.rings;
    given = h.given;
    all = λ e. absurd (cc);
  }

  -- a turn that returned a datagram, which was passed to the sink
  pub mixes-one : (s t : MixEnd) (sink new_sink : K) (n m : ℕ) (note : MixNote) (size : ℕ) (out new_out sent : List ℕ) → is_some note.len ≡ true → (n + 1 < 2 ^ 64 → m ≡ n + 1)
      → size ≡ datagram_length s.mixer.packer.spec → sent ≡ take size new_out → AllTakeSome s.sides.items t.sides.items
      → ((studio : Studio) (number : ℕ) → MixHasFeeds studio s number → MixesBlock studio s note t number out new_out)
      → ((studio : Studio) (datagrams : List (List ℕ)) → HasGiven studio s datagrams → HasGiven studio t (given_after datagrams note.len new_out))
      → Hands (handed sink) (sent ∷ []) (handed new_sink)
      → Mixes handed s sink n false t new_sink m
  mixes-one s t sink new_sink n m note size out new_out sent some more is_size is_sent takes mixes gives hands = record {
    datagrams = sent ∷ [];
    count = more;
    hands = hands;
    rings = rings-taken s.sides.items t.sides.items takes;
    given = λ studio before h.
        let size_is : size ≡ datagram_length studio.output = is_size ∙ ap datagram_length h.feeds.output in
        subst (λ l. HasGiven studio t (before ++ l ∷ [])) (sym is_sent)
        (one_given _ studio t before new_out size note.len some size_is (mixes studio (length before) h.feeds).datagram (gives studio before h));
    all = λ e. absurd (cc);
  }

  -- a worker before its first turn
  pub with-none : (s : MixEnd) (sink : K) (n : ℕ) (taken : List (ℤ × List ℤ)) → MixesWith handed s sink n false s sink n taken taken
  with-none s sink n taken = let none = mixes-none s sink n in
      record { changes = []; taken = sym (append-nil taken); datagrams = none.datagrams; count = none.count; hands = none.hands; rings = none.rings; given = none.given; all = none.all }

  -- changes of gains, and then a turn
  pub with-turn : (s t u : MixEnd) (sink new_sink : K) (n m : ℕ) (idle : Bool) (first last : List (ℤ × List ℤ)) → TakesChanges s t first last → Mixes handed t sink n idle u new_sink m
      → MixesWith handed s sink n idle u new_sink m first last
  with-turn s t u sink new_sink n m idle first last h k = record {
    changes = h.changes;
    taken = h.taken;
    datagrams = k.datagrams;
    count = k.count;
    hands = k.hands;
    rings = subst (λ sides. AreSameSides (vec_items sides) u.sides.items) h.sides k.rings;
    given = λ studio before g. k.given (with_changes studio h.changes) before (h.given studio before g);
    all = λ e studio before g. k.all e (with_changes studio h.changes) before (h.given studio before g);
  }

  pub with-more : (s t u : MixEnd) (sink then_sink last_sink : K) (n m k : ℕ) (idle now_idle : Bool) (a b c : List (ℤ × List ℤ))
      → MixesWith handed s sink n idle t then_sink m a b → MixesWith handed t then_sink m now_idle u last_sink k b c → MixesWith handed s sink n now_idle u last_sink k a c
  with-more s t u sink then_sink last_sink n m k idle now_idle a b c f g = record {
    changes = f.changes ++ g.changes;
    taken = more_taken a b c f.changes g.changes f.taken g.taken;
    datagrams = f.datagrams ++ g.datagrams;
    count = λ few.
        let l = length-append f.datagrams g.datagrams in
        let p = f.count (omega (arith, few, l)) in
        let q = g.count (omega (arith, few, p, l)) in
        omega (arith, p, q, l);
    hands = hands-more (handed sink) (handed then_sink) (handed last_sink) f.datagrams g.datagrams f.hands g.hands;
    rings = rings-trans s.sides.items t.sides.items u.sides.items f.rings g.rings;
    given = λ studio before h.
        subst (λ (x : Studio). HasGiven x u (before ++ (f.datagrams ++ g.datagrams))) (with_changes-append studio f.changes g.changes)
        (subst (HasGiven (with_changes (with_changes studio f.changes) g.changes) u) (append_assoc before f.datagrams g.datagrams) (g.given (with_changes studio f.changes) (before ++ f.datagrams) (f.given studio before h)));
    all = λ e studio before h.
        subst (λ (x : Studio). AreAllGiven x u (before ++ (f.datagrams ++ g.datagrams))) (with_changes-append studio f.changes g.changes)
        (subst (AreAllGiven (with_changes (with_changes studio f.changes) g.changes) u) (append_assoc before f.datagrams g.datagrams) (g.all e (with_changes studio f.changes) (before ++ f.datagrams) (f.given studio before h)));
  }

  -- what holds if a worker was idle holds without that claim
  pub with-on : (s t : MixEnd) (sink new_sink : K) (n m : ℕ) (idle : Bool) (a b : List (ℤ × List ℤ)) → MixesWith handed s sink n idle t new_sink m a b → MixesWith handed s sink n false t new_sink m a b
  with-on s t sink new_sink n m idle a b h =
      record { changes = h.changes; taken = h.taken; datagrams = h.datagrams; count = h.count; hands = h.hands; rings = h.rings; given = h.given; all = λ e. absurd (cc) }

  -- a worker whose source took no change of gains
  pub mixes-unchanged : (s t : MixEnd) (sink new_sink : K) (n m : ℕ) (idle : Bool) (taken : List (ℤ × List ℤ)) → MixesWith handed s sink n idle t new_sink m taken taken → Mixes handed s sink n idle t new_sink m
  mixes-unchanged s t sink new_sink n m idle taken h =
      let none : h.changes ≡ [] = no_more taken h.changes h.taken in
      record {
        datagrams = h.datagrams;
        count = h.count;
        hands = h.hands;
        rings = h.rings;
        given = λ studio before g. subst (λ changes. HasGiven (with_changes studio changes) t (before ++ h.datagrams)) none (h.given studio before g);
        all = λ e studio before g. subst (λ changes. AreAllGiven (with_changes studio changes) t (before ++ h.datagrams)) none (h.all e studio before g);
      }
