-- The tokens of a stream's paths, passed to the stream one after another.
use Rattle.std.proofs.Common.{◌≡◌, ℕ, zero, suc, ◌<◌, Bool, true, false, ◌&&◌, List, [], ◌∷◌, ◌++◌, length, map, ℤ, Option, Some, None, IsSome, IfSome, slice_get, unwrap_or, refl, sym, ap, subst, ◌∙◌, arith, append-nil, length-append}
use Rattle.std.specs.List.{AllZip}
use Rattle.rtrb.specs.Ring.{all_sent, IsFinishedOf, IsPair, SameConsumer}
use Rattle.rtrb.specs.declared.consumer.Consumer.{Consumer}
use Rattle.rtp_stream.specs.declared.stream_spec.Stream.{Stream}
use Rattle.rtp_stream.specs.declared.packet.Packet.{Packet}
use Rattle.rtp_stream.specs.declared.event.Event.{Event}
use Rattle.studio_ends.specs.Streams.{StreamHasHistory}
use Rattle.studio_ends.specs.Tokens.{HandsIn}
use Rattle.studio_ends.specs.declared.path_end.PathDone.{PathDone}
use Rattle.studio_ends.specs.declared.path_end.PathEnd.{PathEnd}
use Rattle.studio_ends.specs.declared.rings.TokenConsumer.{TokenConsumer}
use Rattle.studio_io.specs.Answers.{Answer}
use Rattle.studio_rings.specs.PathWorkers.{IsPathResult, IsTokenOf}
use Rattle.studio_rings.specs.Turns.{AreSameRings, GoesOn, HaveTold}
use Rattle.studio_rings.specs.declared.jobs.PathJob.{PathJob}
use Rattle.studio_rings.specs.declared.jobs.PathResult.{PathResult}
use Rattle.studio_rings.specs.declared.worker.clocked_stream.ClockedStream.{ClockedStream}
use Rattle.studio_rings.proofs.StreamTurnLemmas.{goes-still, rings-self, same_marks}
use Rattle.studio_rings.specs.StreamWorkers.{AllTokensFit, ArePairs, FitsAt, HandsOne, PathsGiveTokens, all_told, told_by}

-- a path's ring is the same, and its consumer has the path's token if all tokens were passed
abbrev pub IsHandedIn : Bool → PathResult → TokenConsumer Packet → TokenConsumer Packet → Type 0
IsHandedIn all result old new = SameConsumer old.ring new.ring × (all ≡ true → IsSome result.done × IfSome new.done (λ d. all_sent d ≡ told_by result))

-- the consumers of the first rings have their tokens if all were passed, and the other rings are as they were
abbrev pub AreHandedIn : Bool → List PathResult → List (TokenConsumer Packet) → List (TokenConsumer Packet) → Type 0
AreHandedIn all [] olds news = news ≡ olds
AreHandedIn all (r ∷ rs) (o ∷ os) (n ∷ ns) = IsHandedIn all r o n × AreHandedIn all rs os ns
AreHandedIn all (r ∷ rs) [] news = ⊥
AreHandedIn all (r ∷ rs) (o ∷ os) [] = ⊥

-- the next path's token fits the ring at its place
pub next-place : (all : Bool) (front more : List PathResult) (r : PathResult) (done : PathDone) (olds nows : List (TokenConsumer Packet)) → r.done ≡ Some done → AllTokensFit (front ++ r ∷ more) olds → AreHandedIn all front olds nows
    → (length front < length nows) × ((side : TokenConsumer Packet) → slice_get nows (length front) ≡ Some side → IsFinishedOf done.token side.ring)
next-place all [] more r done [] nows is fit h = absurd fit
next-place all [] more r done (o ∷ os) nows is fit h =
    let ring : IsFinishedOf done.token o.ring = subst (λ d. IfSome d (λ (e : PathDone). IsFinishedOf e.token o.ring)) is fit.0 in (
      subst (λ (l : List (TokenConsumer Packet)). 0 < length l) (sym h) (omega arith),
      λ side at.
          let same : o ≡ side = ap (λ x. unwrap_or x o) (ap (λ (l : List (TokenConsumer Packet)). slice_get l 0) (sym h) ∙ at) in
          subst (λ (s : TokenConsumer Packet). IsFinishedOf done.token s.ring) same ring,
    )
next-place all (f ∷ fs) more r done [] nows is fit h = absurd h
next-place all (f ∷ fs) more r done (o ∷ os) [] is fit h = absurd h
next-place all (f ∷ fs) more r done (o ∷ os) (n ∷ ns) is fit h =
    let rest = next-place all fs more r done os ns is fit.1 h.1 in
    let below = rest.0 in (omega (arith, below), rest.1)

is_there : (done : PathDone) → IsSome (Some done)
is_there done = search

first-handed : (all : Bool) (r : PathResult) (done : PathDone) (o : TokenConsumer Packet) (os news : List (TokenConsumer Packet)) → r.done ≡ Some done → HandsIn (o ∷ os) 0 (all_sent done.token) news → AreHandedIn all (r ∷ []) (o ∷ os) news
first-handed all r done o os [] is h = absurd h
first-handed all r done o os (n ∷ ns) is h = (
  (
    rw h.0.ring ((refl, refl, refl, refl), refl),
    λ _. (subst (λ (d : Option PathDone). IsSome d) (sym is) (is_there done), subst (λ (d : Option PathDone). IfSome n.done (λ e. all_sent e ≡ all_told d)) (sym is) h.0.tells),
  ),
  h.1,
)

pub next-handed : (all : Bool) (front more : List PathResult) (r : PathResult) (done : PathDone) (olds nows news : List (TokenConsumer Packet)) → r.done ≡ Some done → AllTokensFit (front ++ r ∷ more) olds → AreHandedIn all front olds nows
    → HandsIn nows (length front) (all_sent done.token) news → AreHandedIn all (front ++ r ∷ []) olds news
next-handed all [] more r done [] nows news is fit h hands = absurd fit
next-handed all [] more r done (o ∷ os) nows news is fit h hands = first-handed all r done o os news is (subst (λ (l : List (TokenConsumer Packet)). HandsIn l 0 (all_sent done.token) news) h hands)
next-handed all (f ∷ fs) more r done [] nows news is fit h hands = absurd h
next-handed all (f ∷ fs) more r done (o ∷ os) [] news is fit h hands = absurd h
next-handed all (f ∷ fs) more r done (o ∷ os) (x ∷ xs) [] is fit h hands = absurd hands
next-handed all (f ∷ fs) more r done (o ∷ os) (x ∷ xs) (n ∷ ns) is fit h hands =
    (subst (λ (s : TokenConsumer Packet). IsHandedIn all f o s) (sym hands.0) h.0, next-handed all fs more r done os xs ns is fit.1 h.1 hands.1)

-- the next path returned no token
pub next-none : (all : Bool) (front more : List PathResult) (r : PathResult) (olds nows : List (TokenConsumer Packet)) → AllTokensFit (front ++ r ∷ more) olds → AreHandedIn all front olds nows → AreHandedIn false (front ++ r ∷ []) olds nows
next-none all [] more r [] nows fit h = absurd fit
next-none all [] more r (o ∷ os) nows fit h =
    subst (λ (l : List (TokenConsumer Packet)). AreHandedIn false (r ∷ []) (o ∷ os) l) (sym h) ((((refl, refl, refl, refl), refl), λ (e : false ≡ true). absurd (cc)), refl)
next-none all (f ∷ fs) more r [] nows fit h = absurd h
next-none all (f ∷ fs) more r (o ∷ os) [] fit h = absurd h
next-none all (f ∷ fs) more r (o ∷ os) (n ∷ ns) fit h = ((h.0.0, λ (e : false ≡ true). absurd (cc)), next-none all fs more r os ns fit.1 h.1)

-- the next path's token, if there is one, fits the ring at its place
fits_here : (all : Bool) (front more : List PathResult) (r : PathResult) (d : Option PathDone) (olds nows : List (TokenConsumer Packet)) → r.done ≡ d → AllTokensFit (front ++ r ∷ more) olds → AreHandedIn all front olds nows → FitsAt d (length front) nows
fits_here all front more r None olds nows is fit h = tt
fits_here all front more r (Some done) olds nows is fit h = next-place all front more r done olds nows is fit h

pub fits-here : (all : Bool) (front more : List PathResult) (r : PathResult) (olds nows : List (TokenConsumer Packet)) → AllTokensFit (front ++ r ∷ more) olds → AreHandedIn all front olds nows → FitsAt r.done (length front) nows
fits-here all front more r olds nows fit h = fits_here all front more r r.done olds nows refl fit h

-- the token of one more path
handed_one : (all given : Bool) (front more : List PathResult) (r : PathResult) (d : Option PathDone) (olds nows news : List (TokenConsumer Packet)) → r.done ≡ d → AllTokensFit (front ++ r ∷ more) olds → AreHandedIn all front olds nows
    → HandsOne d (length front) nows given news → AreHandedIn (all && given) (front ++ r ∷ []) olds news
handed_one all given front more r None olds nows news is fit h one =
    let none = next-none all front more r olds nows fit h in
    let e : (all && given) ≡ false = ap (λ g. all && g) one.0 ∙ never all in
    subst (λ b. AreHandedIn b (front ++ r ∷ []) olds news) (sym e) (subst (λ (l : List (TokenConsumer Packet)). AreHandedIn false (front ++ r ∷ []) olds l) (sym one.1) none)
  where
    never : (a : Bool) → (a && false) ≡ false
    never true = refl
    never false = refl
handed_one all given front more r (Some done) olds nows news is fit h one =
    let e : (all && given) ≡ all = ap (λ g. all && g) one.0 ∙ as_it_is all in
    subst (λ b. AreHandedIn b (front ++ r ∷ []) olds news) (sym e) (next-handed all front more r done olds nows news is fit h one.1)
  where
    as_it_is : (a : Bool) → (a && true) ≡ a
    as_it_is true = refl
    as_it_is false = refl

pub handed-one : (all given : Bool) (front more : List PathResult) (r : PathResult) (olds nows news : List (TokenConsumer Packet)) → AllTokensFit (front ++ r ∷ more) olds → AreHandedIn all front olds nows
    → HandsOne r.done (length front) nows given news → AreHandedIn (all && given) (front ++ r ∷ []) olds news
handed-one all given front more r olds nows news fit h one = handed_one all given front more r r.done olds nows news refl fit h one

-- the tokens of all paths were passed to the stream
pub all-handed : (results : List PathResult) (olds nows : List (TokenConsumer Packet)) → AllTokensFit results olds → AreHandedIn true results olds nows → PathsGiveTokens results × HaveTold nows (map told_by results)
all-handed [] [] nows fit h = (tt, subst (λ (l : List (TokenConsumer Packet)). HaveTold l []) (sym h) tt)
all-handed [] (o ∷ os) nows fit h = absurd fit
all-handed (r ∷ rs) [] nows fit h = absurd fit
all-handed (r ∷ rs) (o ∷ os) [] fit h = absurd h
all-handed (r ∷ rs) (o ∷ os) (n ∷ ns) fit h =
    let t = h.0.1 refl in
    let rest = all-handed rs os ns fit.1 h.1 in ((t.0, rest.0), (t.1, rest.1))

pub fits-at : (all : Bool) (front more : List PathResult) (r : PathResult) (olds nows : List (TokenConsumer Packet)) (place : ℕ) → length front ≡ place → AllTokensFit (front ++ r ∷ more) olds → AreHandedIn all front olds nows → FitsAt r.done place nows
fits-at all front more r olds nows place is fit h = subst (λ n. FitsAt r.done n nows) is (fits-here all front more r olds nows fit h)

pub handed-next : (all given : Bool) (front more : List PathResult) (r : PathResult) (olds nows news : List (TokenConsumer Packet)) (place : ℕ) → length front ≡ place → AllTokensFit (front ++ r ∷ more) olds → AreHandedIn all front olds nows
    → HandsOne r.done place nows given news → AreHandedIn (all && given) (front ++ r ∷ []) olds news
handed-next all given front more r olds nows news place is fit h one = handed-one all given front more r olds nows news fit h (subst (λ n. HandsOne r.done n nows given news) (sym is) one)

pub handed-result : (all : Bool) (front results : List PathResult) (olds nows : List (TokenConsumer Packet)) → front ≡ results → all ≡ true → AllTokensFit results olds → AreHandedIn all front olds nows → PathsGiveTokens results × HaveTold nows (map told_by results)
handed-result all front results olds nows is whole fit h =
    all-handed results olds nows fit (subst (λ b. AreHandedIn b results olds nows) whole (subst (λ (l : List PathResult). AreHandedIn all l olds nows) is h))

pub no_items : {A : Type 0} (l : List A) → length l ≡ 0 → l ≡ []
no_items [] e = refl
no_items (x ∷ xs) e = absurd (omega (arith, e))

pub whole_front : {A : Type 0} (front rest all : List A) → front ++ rest ≡ all → length front ≡ length all → front ≡ all
whole_front front rest all is same =
    let sum = ap length is in
    let none : rest ≡ [] = no_items rest (omega (arith, same, sum, length-append front rest)) in
    sym (append-nil front) ∙ (ap (λ l. front ++ l) (sym none) ∙ is)

-- a part of each result so far, and of one more
pub parts-more : {A : Type 0} (part : PathResult → A) (front : List PathResult) (r : PathResult) (before after : List A) → before ≡ map part front → after ≡ before ++ part r ∷ [] → after ≡ map part (front ++ r ∷ [])
parts-more part front r before after is more = more ∙ (ap (λ l. l ++ part r ∷ []) is ∙ snoc front)
  where
    snoc : (xs : List PathResult) → map part xs ++ part r ∷ [] ≡ map part (xs ++ r ∷ [])
    snoc [] = refl
    snoc (x ∷ xs) = ap (λ l. part x ∷ l) (snoc xs)

rings-handed : (place : ℕ) (olds news : List (TokenConsumer Packet)) (all : List Packet) → HandsIn olds place all news → AreSameRings olds news
rings-handed place [] news all h = absurd h
rings-handed zero (o ∷ os) [] all h = absurd h
rings-handed (suc place) (o ∷ os) [] all h = absurd h
rings-handed zero (o ∷ os) (n ∷ ns) all h = (rw h.0.ring ((refl, refl, refl, refl), refl), subst (λ (l : List (TokenConsumer Packet)). AreSameRings os l) (sym h.1) (rings-self os))
rings-handed (suc place) (o ∷ os) (n ∷ ns) all h = (rw h.0 ((refl, refl, refl, refl), refl), rings-handed place os ns all h.1)

-- passing a token to a stream does not change its history
pub goes-handed : {C : Type 0} (told : C → List ℤ) (s t : ClockedStream C) (place : ℕ) (all : List Packet) → HandsIn s.end.sides.items place all t.end.sides.items → t.end.marks ≡ s.end.marks → t.end.spec ≡ s.end.spec → t.now ≡ s.now → t.clock ≡ s.clock
    → ((stream : Stream) (open_at : ℤ) (events : List Event) → StreamHasHistory stream open_at s.end events → StreamHasHistory stream open_at t.end events) → GoesOn told s t
goes-handed told s t place all hands marks spec now clock stands = goes-still told s t (rings-handed place s.end.sides.items t.end.sides.items all hands) (same_marks s.end t.end marks) spec now clock stands

fits_one : (p : PathEnd) (done : Option PathDone) (c d : Consumer Packet _ _) → IsPair p.ring c → SameConsumer c d → IfSome done (λ x. IsTokenOf p x) → IfSome done (λ x. IsFinishedOf x.token d)
fits_one p None c d pair same token = tt
fits_one p (Some x) c d pair same token =
    (same.0.0 ∙ (pair.0 ∙ sym token.0), same.0.1 ∙ (pair.1 ∙ sym token.1), same.0.2 ∙ (pair.2 ∙ sym token.2), same.0.3 ∙ (pair.3 ∙ sym token.3))

module _ {F : Type 0} where
  -- the tokens of the paths' workers fit the rings, whatever the stream's end did
  pub tokens-fit : (told : F → List Answer) (paths : List (PathJob F)) (results : List PathResult) (olds news : List (TokenConsumer Packet)) → ArePairs paths olds → AreSameRings olds news → AllZip (IsPathResult told) paths results → AllTokensFit results news
  tokens-fit told [] [] [] [] pairs same zip = tt
  tokens-fit told [] [] [] (n ∷ ns) pairs same zip = absurd same
  tokens-fit told [] results (o ∷ os) news pairs same zip = absurd pairs
  tokens-fit told [] (r ∷ rs) [] news pairs same zip = absurd zip
  tokens-fit told (p ∷ ps) results [] news pairs same zip = absurd pairs
  tokens-fit told (p ∷ ps) [] (o ∷ os) news pairs same zip = absurd zip
  tokens-fit told (p ∷ ps) (r ∷ rs) (o ∷ os) [] pairs same zip = absurd same
  tokens-fit told (p ∷ ps) (r ∷ rs) (o ∷ os) (n ∷ ns) pairs same zip =
      (fits_one p.end r.done o.ring n.ring pairs.0 same.0 zip.0.token, tokens-fit told ps rs os ns pairs.1 same.1 zip.1)

  -- what holds of the new results holds of all, if there were none before
  pub own_results : (R : PathJob F → PathResult → Type 0) (paths : List (PathJob F)) (before own all : List PathResult) → before ≡ [] → all ≡ before ++ own → AllZip R paths own → AllZip R paths all
  own_results R paths before own all none is zip = subst (λ (l : List PathResult). AllZip R paths l) (sym (is ∙ ap (λ (l : List PathResult). l ++ own) none)) zip
