-- Tokens that are passed to the mixer's end one by one, and what follows once it is settled.
use Rattle.std.proofs.Common.{◌≡◌, ◌↔◌, ℕ, suc, ◌<◌, true, false, List, [], ◌∷◌, ◌++◌, length, Option, Some, None, IfSome, IsSome, IsSomeAnd, MatchOption, slice_get, refl, sym, ap, subst, ◌∙◌, arith}
use Rattle.rtrb.specs.Ends.{SameRing}
use Rattle.rtrb.specs.Ring.{all_sent, received, IsFinishedOf, IsPair, SameConsumer}
use Rattle.rtrb.specs.declared.consumer.Consumer.{Consumer}
use Rattle.rtrb.specs.declared.finished.Finished.{Finished}
use Rattle.rtp_stream.specs.declared.stream_spec.Stream.{Stream}
use Rattle.rtp_stream.specs.StreamSpecFacts.{format_of}
use Rattle.rtp_stream.specs.MarkFacts.{MarkView}
use Rattle.lane_align.specs.AcceptedMarks.{accepted_marks}
use Rattle.studio_mix.specs.Feed.{Feed}
use Rattle.studio_ends.specs.DrainedRing.{IsDrained}
use Rattle.studio_ends.specs.DrainedRings.{AllDrained, AllLookAt, LooksAt}
use Rattle.studio_ends.specs.Tokens.{HandsIn}
use Rattle.studio_ends.specs.AcceptedFeeds.{accepted_feeds}
use Rattle.studio_ends.specs.Datagrams.{AllTell}
use Rattle.studio_ends.specs.FreshEnds.{AllFreshRings}
use Rattle.studio_ends.specs.declared.rings.TokenConsumer.{TokenConsumer}
use Rattle.studio_ends.specs.declared.monitor_end.MonitorEnd.{MonitorEnd}
use Rattle.studio_ends.specs.declared.stream_end.StreamEnd.{StreamEnd}
use Rattle.studio_ends.specs.declared.stream_end.turns.StreamDone.{StreamDone}
use Rattle.studio_rings.specs.MixWorker.{AreSameSides}
use Rattle.studio_rings.specs.StreamTokens.{AllGiveTokens, AllTellMarks, AreAllDrained, AreTokensOf, HasTokenOf, HaveTokens}

-- one token, if there is one, is passed to the consumer at this place
abbrev pub HandsInOne : Option StreamDone → List (TokenConsumer MarkView) → ℕ → List (TokenConsumer MarkView) → Type 0
HandsInOne None mids place news = news ≡ mids
HandsInOne (Some done) mids place news = HandsIn mids place (all_sent done.token) news

pub hands-some : (one : Option StreamDone) (done : StreamDone) (mids news : List (TokenConsumer MarkView)) (place at : ℕ) → one ≡ Some done → at ≡ place → HandsIn mids at (all_sent done.token) news → HandsInOne one mids place news
hands-some one done mids news place at is same h = subst (λ o. HandsInOne o mids place news) (sym is) (subst (λ k. HandsIn mids k (all_sent done.token) news) same h)

pub hands-none : (one : Option StreamDone) (mids news : List (TokenConsumer MarkView)) (place : ℕ) → one ≡ None → news ≡ mids → HandsInOne one mids place news
hands-none one mids news place is same = subst (λ o. HandsInOne o mids place news) (sym is) same

first_token : (one : Option StreamDone) (o : TokenConsumer MarkView) (os news : List (TokenConsumer MarkView)) → HandsInOne one (o ∷ os) 0 news → HaveTokens (one ∷ []) (o ∷ os) news
first_token None o os news h = subst (λ l. HaveTokens (None ∷ []) (o ∷ os) l) (sym h) (refl, refl)
first_token (Some d) o os [] h = absurd h
first_token (Some d) o os (n ∷ ns) h = h

next_token : (one before : Option StreamDone) (dones : List (Option StreamDone)) (o m : TokenConsumer MarkView) (os ms news : List (TokenConsumer MarkView)) → HasTokenOf before o m
    → ((ns : List (TokenConsumer MarkView)) → HandsInOne one ms (length dones) ns → HaveTokens (dones ++ one ∷ []) os ns)
    → HandsInOne one (m ∷ ms) (suc (length dones)) news → HaveTokens (before ∷ (dones ++ one ∷ [])) (o ∷ os) news
next_token None before dones o m os ms news had rest h = subst (λ l. HaveTokens (before ∷ (dones ++ None ∷ [])) (o ∷ os) l) (sym h) (had, rest ms refl)
next_token (Some d) before dones o m os ms [] had rest h = absurd h
next_token (Some d) before dones o m os ms (n ∷ ns) had rest h = (subst (HasTokenOf before o) (sym h.0) had, rest ns h.1)

-- the tokens so far, and one more
pub tokens-more : (dones : List (Option StreamDone)) (one : Option StreamDone) (later : List (Option StreamDone)) (olds mids news : List (TokenConsumer MarkView))
    → AreTokensOf (dones ++ one ∷ later) olds → HaveTokens dones olds mids → HandsInOne one mids (length dones) news → HaveTokens (dones ++ one ∷ []) olds news
tokens-more [] one later [] mids news t h step = absurd t
tokens-more [] one later (o ∷ os) mids news t h step = first_token one o os news (subst (λ l. HandsInOne one l 0 news) h step)
tokens-more (d ∷ ds) one later [] mids news t h step = absurd t
tokens-more (d ∷ ds) one later (o ∷ os) [] news t h step = absurd h
tokens-more (d ∷ ds) one later (o ∷ os) (m ∷ ms) news t h step = next_token one d ds o m os ms news h.0 (λ ns s. tokens-more ds one later os ms ns t.1 h.1 s) step

-- the next token is that of the ring at its place
pub token-at : (dones : List (Option StreamDone)) (done : StreamDone) (later : List (Option StreamDone)) (olds mids : List (TokenConsumer MarkView)) (side : TokenConsumer MarkView)
    → AreTokensOf (dones ++ Some done ∷ later) olds → HaveTokens dones olds mids → slice_get mids (length dones) ≡ Some side → IsFinishedOf done.token side.ring
token-at [] done later [] mids side t h at = absurd t
token-at [] done later (o ∷ os) mids side t h at =
    let e : slice_get (o ∷ os) 0 ≡ Some side = subst (λ l. slice_get l 0 ≡ Some side) h at in
    let same : o ≡ side = cc in
    subst (λ (s : TokenConsumer MarkView). IsFinishedOf done.token s.ring) same t.0.0
token-at (d ∷ ds) done later [] mids side t h at = absurd t
token-at (d ∷ ds) done later (o ∷ os) [] side t h at = absurd h
token-at (d ∷ ds) done later (o ∷ os) (m ∷ ms) side t h at = token-at ds done later os ms side t.1 h.1 at

-- there is a ring at the next place
pub place-within : (dones : List (Option StreamDone)) (one : Option StreamDone) (later : List (Option StreamDone)) (olds mids : List (TokenConsumer MarkView))
    → AreTokensOf (dones ++ one ∷ later) olds → HaveTokens dones olds mids → length dones < length mids
place-within [] one later [] mids t h = absurd t
place-within [] one later (o ∷ os) mids t h = let e : length mids ≡ suc (length os) = ap length h in omega (arith, e)
place-within (d ∷ ds) one later [] mids t h = absurd t
place-within (d ∷ ds) one later (o ∷ os) [] t h = absurd h
place-within (d ∷ ds) one later (o ∷ os) (m ∷ ms) t h = let r = place-within ds one later os ms t.1 h.1 in omega (arith, r)

ring_of : (one : Option StreamDone) (o m : TokenConsumer MarkView) → HasTokenOf one o m → received m.ring ≡ received o.ring
ring_of None o m h = ap (λ (s : TokenConsumer MarkView). received s.ring) h
ring_of (Some d) o m h = ap received h.ring

-- tokens do not change which marks were accepted
pub feeds-settled : (streams : List Stream) (dones : List (Option StreamDone)) (olds mids : List (TokenConsumer MarkView)) → HaveTokens dones olds mids → accepted_feeds streams mids ≡ accepted_feeds streams olds
feeds-settled [] dones olds mids h = refl
feeds-settled (s ∷ ss) [] olds mids h = ap (accepted_feeds (s ∷ ss)) h
feeds-settled (s ∷ ss) (d ∷ ds) [] mids h = absurd h
feeds-settled (s ∷ ss) (d ∷ ds) (o ∷ os) [] h = absurd h
feeds-settled (s ∷ ss) (d ∷ ds) (o ∷ os) (m ∷ ms) h =
    ap (λ l. record { stream = s; marks = accepted_marks (format_of s) l } ∷ accepted_feeds ss ms) (ring_of d o m h.0)
    ∙ ap (λ (l : List Feed). record { stream = s; marks = accepted_marks (format_of s) (received o.ring) } ∷ l) (feeds-settled ss ds os ms h.1)

module _ {A P : Type 0} where
  -- a ring whose consumer has no token is not drained
  undrained : (ring : Consumer MarkView A P) (was now : Option (Finished MarkView A P)) → was ≡ None
      → MatchOption was (now ≡ None) (λ d. IsSomeAnd now (λ e. all_sent e ≡ all_sent d)) → IsDrained ring now → ⊥
  undrained ring None now e looked drained = subst (IsDrained ring) looked drained
  undrained ring (Some d) now e looked drained = absurd (cc)

  -- looking at a ring does not change what its token reports
  told_after : (all marks : List MarkView) (was now : Option (Finished MarkView A P)) → IfSome was (λ d. all_sent d ≡ all)
      → MatchOption was (now ≡ None) (λ d. IsSomeAnd now (λ e. all_sent e ≡ all_sent d)) → all ≡ marks → IfSome now (λ d. all_sent d ≡ marks)
  told_after all marks None now tells looked is = subst (λ o. IfSome o (λ d. all_sent d ≡ marks)) (sym looked) tt
  told_after all marks (Some d) None tells looked is = tt
  told_after all marks (Some d) (Some e) tells looked is = looked ∙ (tells ∙ is)

  -- a ring whose token reports these marks is drained exactly if it received them
  drained_by : (ring : Consumer MarkView A P) (all : List MarkView) (was now : Option (Finished MarkView A P)) → IsSome was → IfSome was (λ d. all_sent d ≡ all)
      → MatchOption was (now ≡ None) (λ d. IsSomeAnd now (λ e. all_sent e ≡ all_sent d)) → IsDrained ring now ↔ (received ring ≡ all)
  drained_by ring all None now some tells looked = absurd (let e : false ≡ true = some in cc)
  drained_by ring all (Some d) None some tells looked = absurd looked
  drained_by ring all (Some d) (Some e) some tells looked = (λ h. h ∙ (looked ∙ tells), λ h. h ∙ sym (looked ∙ tells))

one_drained : (one : Option StreamDone) (o m n : TokenConsumer MarkView) → o.done ≡ None → HasTokenOf one o m → LooksAt m n → IsDrained n.ring n.done ↔ IsSomeAnd one (λ d. received o.ring ≡ all_sent d.token)
one_drained None o m n before h looked = (λ drained. undrained n.ring m.done n.done (ap (λ (s : TokenConsumer MarkView). s.done) h ∙ before) looked.done drained, λ none. absurd none)
one_drained (Some d) o m n before h looked =
    let t = drained_by n.ring (all_sent d.token) m.done n.done h.token h.tells looked.done in
    let same : received n.ring ≡ received o.ring = looked.received_is ∙ ap received h.ring in
    (λ drained. sym same ∙ t.0 drained, λ all. t.1 (same ∙ all))

-- once the tokens were passed, all rings are drained exactly if everything that the tokens report was received
pub drained-exactly : (dones : List (Option StreamDone)) (olds mids news : List (TokenConsumer MarkView)) → AreTokensOf dones olds → HaveTokens dones olds mids → AllLookAt mids news → AllDrained news ↔ AreAllDrained dones olds
drained-exactly [] [] [] [] t h looked = (λ d. d, λ d. d)
drained-exactly [] [] [] (n ∷ ns) t h looked = absurd looked
drained-exactly [] [] (m ∷ ms) news t h looked = absurd (let e : suc (length ms) ≡ 0 = ap length h in omega (arith, e))
drained-exactly [] (o ∷ os) mids news t h looked = absurd t
drained-exactly (d ∷ ds) [] mids news t h looked = absurd t
drained-exactly (d ∷ ds) (o ∷ os) [] news t h looked = absurd h
drained-exactly (d ∷ ds) (o ∷ os) (m ∷ ms) [] t h looked = absurd looked
drained-exactly (d ∷ ds) (o ∷ os) (m ∷ ms) (n ∷ ns) t h looked =
    let one = one_drained d o m n t.0.1 h.0 looked.0 in
    let rest = drained-exactly ds os ms ns t.1 h.1 looked.1 in
    (λ all. (one.0 all.0, rest.0 all.1), λ all. (one.1 all.0, rest.1 all.1))

one_gives : (one : Option StreamDone) (o m n : TokenConsumer MarkView) → o.done ≡ None → HasTokenOf one o m → LooksAt m n → IsDrained n.ring n.done → IsSome one
one_gives None o m n before h looked drained = absurd (undrained n.ring m.done n.done (ap (λ (s : TokenConsumer MarkView). s.done) h ∙ before) looked.done drained)
one_gives (Some d) o m n before h looked drained = refl

-- if all rings are drained, each stream returned a token
pub all-gave : (dones : List (Option StreamDone)) (olds mids news : List (TokenConsumer MarkView)) → AreTokensOf dones olds → HaveTokens dones olds mids → AllLookAt mids news → AllDrained news → AllGiveTokens dones
all-gave [] olds mids news t h looked drained = tt
all-gave (d ∷ ds) [] mids news t h looked drained = absurd t
all-gave (d ∷ ds) (o ∷ os) [] news t h looked drained = absurd h
all-gave (d ∷ ds) (o ∷ os) (m ∷ ms) [] t h looked drained = absurd looked
all-gave (d ∷ ds) (o ∷ os) (m ∷ ms) (n ∷ ns) t h looked drained = (one_gives d o m n t.0.1 h.0 looked.0 drained.0, all-gave ds os ms ns t.1 h.1 looked.1 drained.1)

one_tells : (one : Option StreamDone) (o m n : TokenConsumer MarkView) (marks : List MarkView) → o.done ≡ None → HasTokenOf one o m → LooksAt m n → IsDrained n.ring n.done
    → IfSome one (λ d. all_sent d.token ≡ marks) → IfSome n.done (λ d. all_sent d ≡ marks)
one_tells None o m n marks before h looked drained told = absurd (undrained n.ring m.done n.done (ap (λ (s : TokenConsumer MarkView). s.done) h ∙ before) looked.done drained)
one_tells (Some d) o m n marks before h looked drained told = told_after (all_sent d.token) marks m.done n.done h.tells looked.done told

-- the tokens at the mixer's end report the same marks as the tokens of the streams
pub all-tell : (dones : List (Option StreamDone)) (feeds : List Feed) (olds mids news : List (TokenConsumer MarkView)) → AreTokensOf dones olds → HaveTokens dones olds mids → AllLookAt mids news → AllDrained news
    → AllTellMarks dones feeds → AllTell news feeds
all-tell [] [] [] mids news t h looked drained told = none_tell mids news h looked
  where
    none_tell : (mids news : List (TokenConsumer MarkView)) → mids ≡ [] → AllLookAt mids news → AllTell news []
    none_tell [] [] e looked = tt
    none_tell [] (n ∷ ns) e looked = absurd looked
    none_tell (m ∷ ms) news e looked = absurd (let f : suc (length ms) ≡ 0 = ap length e in omega (arith, f))
all-tell [] [] (o ∷ os) mids news t h looked drained told = absurd t
all-tell [] (f ∷ fs) olds mids news t h looked drained told = absurd told
all-tell (d ∷ ds) [] olds mids news t h looked drained told = absurd told
all-tell (d ∷ ds) (f ∷ fs) [] mids news t h looked drained told = absurd t
all-tell (d ∷ ds) (f ∷ fs) (o ∷ os) [] news t h looked drained told = absurd h
all-tell (d ∷ ds) (f ∷ fs) (o ∷ os) (m ∷ ms) [] t h looked drained told = absurd looked
all-tell (d ∷ ds) (f ∷ fs) (o ∷ os) (m ∷ ms) (n ∷ ns) t h looked drained told =
    ((one_tells d o m n f.marks t.0.1 h.0 looked.0 drained.0 told.0.0, told.0.1), all-tell ds fs os ms ns t.1 h.1 looked.1 drained.1 told.1)

-- each token is that of its stream's ring of marks
abbrev pub AreTokensFor : List StreamEnd → List (Option StreamDone) → Type 0
AreTokensFor [] [] = Unit {0}
AreTokensFor (s ∷ ss) (one ∷ dones) = IfSome one (λ d. SameRing s.marks.end d.token.end) × AreTokensFor ss dones
AreTokensFor [] (one ∷ dones) = ⊥
AreTokensFor (s ∷ ss) [] = ⊥

one_of : (s : StreamEnd) (one : Option StreamDone) (o n : TokenConsumer MarkView) → IsPair s.marks o.ring → SameConsumer o.ring n.ring → IfSome one (λ d. SameRing s.marks.end d.token.end) → IfSome one (λ d. IsFinishedOf d.token n.ring)
one_of s None o n pair same token = tt
one_of s (Some d) o n pair same token =
    let r = same.0 in
    (r.0 ∙ (pair.0 ∙ sym token.0), r.1 ∙ (pair.1 ∙ sym token.1), r.2 ∙ (pair.2 ∙ sym token.2), r.3 ∙ (pair.3 ∙ sym token.3))

-- if the ends were opened together, each token is that of the mixer's ring at its place
pub tokens-opened : (places : ℕ) (ss : List StreamEnd) (monitors : List MonitorEnd) (olds news : List (TokenConsumer MarkView)) (dones : List (Option StreamDone))
    → AllFreshRings places ss monitors olds → AreSameSides olds news → AreTokensFor ss dones → AreTokensOf dones news
tokens-opened places [] [] [] [] [] fresh same tokens = tt
tokens-opened places [] [] [] [] (d ∷ ds) fresh same tokens = absurd tokens
tokens-opened places [] [] [] (n ∷ ns) dones fresh same tokens = absurd same
tokens-opened places [] [] (o ∷ os) news dones fresh same tokens = absurd fresh
tokens-opened places [] (m ∷ ms) olds news dones fresh same tokens = absurd fresh
tokens-opened places (s ∷ ss) [] olds news dones fresh same tokens = absurd fresh
tokens-opened places (s ∷ ss) (m ∷ ms) [] news dones fresh same tokens = absurd fresh
tokens-opened places (s ∷ ss) (m ∷ ms) (o ∷ os) [] dones fresh same tokens = absurd same
tokens-opened places (s ∷ ss) (m ∷ ms) (o ∷ os) (n ∷ ns) [] fresh same tokens = absurd tokens
tokens-opened places (s ∷ ss) (m ∷ ms) (o ∷ os) (n ∷ ns) (d ∷ ds) fresh same tokens =
    ((one_of s d o n fresh.0.marks same.0.0 tokens.0, same.0.1 ∙ fresh.0.not_done), tokens-opened places ss ms os ns ds fresh.1 same.1 tokens.1)
