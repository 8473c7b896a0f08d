-- The datagrams that were taken from the feeds, after one more result, one more feed and one more stream.
use Rattle.std.proofs.Common.{◌≡◌, ◌≢◌, inl, inr, ℕ, zero, suc, ◌+◌, ◌≤◌, ◌<◌, true, false, List, [], ◌∷◌, ◌++◌, length, map, get_or, ℤ, Option, Some, slice_get, unwrap_or, refl, sym, ap, subst, ◌∙◌, arith, append_assoc, append-nil, length-append}
use Rattle.std.specs.declared.vec.Vec.{Vec}
use Rattle.std.specs.declared.alloc.Global.{Global}
use Rattle.std.proofs.Math.ListN.{set}
use Rattle.std.proofs.lemmas.Bool.{cases_eq}
use Rattle.std.proofs.lemmas.List.{get_or-set_other, length-set}
use Rattle.std.proofs.lemmas.Option.{get_or_from_slice_get, slice_get_read, slice_get_within}
use Rattle.rtp_stream.specs.declared.stream_spec.Stream.{Stream}
use Rattle.studio_config.specs.Studio.{Studio}
use Rattle.studio_session.specs.Event.{TraceEvent, Arrival}
use Rattle.studio_session.proofs.PlayLemmas.{set_here}
use Rattle.studio_engine.specs.Engine.{EngineState}
use Rattle.studio_engine.specs.Session.{HasSession, turned}
use Rattle.studio_io.specs.Answers.{Answer, reaches_end, told_datagrams}
use Rattle.engine_run.specs.Grouping.{grouped}
use Rattle.engine_run.specs.Asked.{until_end}
use Rattle.engine_run.specs.Rounds.{Round, arrivals_on, datagrams_on}
use Rattle.engine_run.specs.Intake.{AllEnded, Asks, GoesOn, HaveBegun, HaveEnded, HaveGiven, IsGiven, Takes, TakesAll, TakesStream, left_in, new_reader}
use Rattle.engine_run.specs.Observers.{Heard, Hears, heard_by}
use Rattle.engine_run.specs.declared.feed_reader.FeedReader.{FeedReader}
use Rattle.engine_run.proofs.AnswerLemmas.{goes-further, goes-nowhere}
use Rattle.engine_run.proofs.AskLemmas.{asks-more, asks-stop}
use Rattle.engine_run.proofs.GroupLemmas.{grouped-map}
use Rattle.engine_run.proofs.RoundLemmas.{are_arrivals, arrivals-append, by-rounds-front, by-rounds-more, datagrams-append, datagrams-turned, more_beside, more_elsewhere, more_here, none_more, none_before}
use Rattle.engine_run.proofs.TellLemmas.{adds_none, hears_more}

-- an element at another place than the one that was written
set_apart : {X : Type 0} (xs : List X) (i j : ℕ) (v w : X) → j ≢ i → slice_get xs j ≡ Some w → slice_get (set xs i v) j ≡ Some w
set_apart xs i j v w ne at =
    let within : j < length xs = slice_get_within xs j w at in
    slice_get_read (set xs i v) (length xs) j w (sym (length-set xs i v)) within (sym (get_or-set_other xs i j v w ne ∙ get_or_from_slice_get xs j w w at))

-- `get_or` returns the element that `slice_get` finds
same_at : {X : Type 0} (xs : List X) (i : ℕ) (d w : X) → slice_get xs i ≡ Some w → get_or xs i d ≡ w
same_at xs i d w at = get_or_from_slice_get xs i w d at

past : (i j : ℕ) → i + 1 ≤ j → j ≢ i
past i j h = λ e. absurd (omega (arith, h, e))

arrivals-more : (stream path : ℕ) (xs ys : List (List ℕ)) → arrivals_on stream path (xs ++ ys) ≡ arrivals_on stream path xs ++ arrivals_on stream path ys
arrivals-more stream path [] ys = refl
arrivals-more stream path (x ∷ xs) ys = ap (λ l. Arrival stream path x ∷ l) (arrivals-more stream path xs ys)

-- one more element was made from the next of the elements that are left
pub begun-more : {A B : Type 0} (v : A → B) (taken news : List B) (x : A) (y : B) (rest left : List A) (all : List B) → taken ++ map v rest ≡ all → rest ≡ x ∷ left → news ≡ taken ++ y ∷ [] → y ≡ v x
    → news ++ map v left ≡ all
begun-more v taken news x y rest left all h rest_is news_is y_is =
    ap (λ l. l ++ map v left) (news_is ∙ ap (λ z. taken ++ z ∷ []) y_is)
    ∙ (append_assoc taken (v x ∷ []) (map v left) ∙ (ap (λ r. taken ++ map v r) (sym rest_is) ∙ h))

module _ {F : Type 0} where
  -- the first `count` feeds of a stream have ended; `FirstAllEnded` says so of the feeds of the first `count` streams
  abbrev pub FirstEnded : List (FeedReader F) → ℕ → Type 0
  FirstEnded readers count = (path : ℕ) (reader : FeedReader F) → path < count → slice_get readers path ≡ Some reader → reader.state.ended ≡ true

  abbrev pub FirstAllEnded : List (Vec (FeedReader F) Global) → ℕ → Type 0
  FirstAllEnded streams count = (stream : ℕ) (own : Vec (FeedReader F) Global) → stream < count → slice_get streams stream ≡ Some own → HaveEnded own.items

  pub ended-none : (readers : List (FeedReader F)) → FirstEnded readers 0
  ended-none readers = λ path reader h at. absurd (omega (arith, h))

  pub ended-more : (readers : List (FeedReader F)) (i : ℕ) (d : FeedReader F) → FirstEnded readers i → (get_or readers i d).state.ended ≡ true → FirstEnded readers (i + 1)
  ended-more readers i d before over = λ path reader h at. elim (cases_eq path i) [
    | inl e ↦ subst (λ (t : FeedReader F). t.state.ended ≡ true) (same_at readers i d reader (subst (λ p. slice_get readers p ≡ Some reader) e at)) over
    | inr ne ↦ before path reader (omega (arith, h, ne)) at
  ]

  pub ended-all : (readers : List (FeedReader F)) (i : ℕ) → FirstEnded readers i → length readers ≤ i → HaveEnded readers
  ended-all readers i before all = λ path reader at. let within : path < length readers = slice_get_within readers path reader at in before path reader (omega (arith, within, all)) at

  pub all-ended-none : (streams : List (Vec (FeedReader F) Global)) → FirstAllEnded streams 0
  all-ended-none streams = λ stream own h at. absurd (omega (arith, h))

  pub all-ended-more : (streams : List (Vec (FeedReader F) Global)) (i : ℕ) (d : Vec (FeedReader F) Global) → FirstAllEnded streams i → HaveEnded (get_or streams i d).items → FirstAllEnded streams (i + 1)
  all-ended-more streams i d before over = λ stream own h at. elim (cases_eq stream i) [
    | inl e ↦ subst (λ (v : Vec (FeedReader F) Global). HaveEnded v.items) (same_at streams i d own (subst (λ s. slice_get streams s ≡ Some own) e at)) over
    | inr ne ↦ before stream own (omega (arith, h, ne)) at
  ]

  pub all-ended-all : (streams : List (Vec (FeedReader F) Global)) (i : ℕ) → FirstAllEnded streams i → length streams ≤ i → AllEnded streams
  all-ended-all streams i before all = λ stream own at. let within : stream < length streams = slice_get_within streams stream own at in before stream own (omega (arith, within, all)) at

module _ {F : Type 0} (feed_told : F → List Answer) where
  -- a feed that returned no datagram
  pub takes-none : (studio : Studio) (engine : EngineState) (events : List TraceEvent) (datagrams : List (List ℕ)) (stream path : ℕ) (old new : FeedReader F) (o : Option (List Heard)) (most : ℕ)
      → HasSession studio engine events datagrams → GoesOn feed_told old new [] → Asks feed_told most old new []
      → (t : Takes feed_told studio engine events datagrams stream path old new o o most) × (t.given ≡ [])
  takes-none studio engine events datagrams stream path old new o most s goes asks = (
    record {
      given = [];
      few = omega arith;
      stands = subst (λ l. HasSession studio engine l datagrams) (sym (append-nil events)) s;
      heard = adds_none o;
      goes_on = goes;
      asks = asks;
    },
    refl,
  )

  module _ (studio : Studio) (mid new : EngineState) (events : List TraceEvent) (datagrams : List (List ℕ)) (stream path : ℕ) (a b c : FeedReader F) (o p q : Option (List Heard)) (k : ℕ)
      (t : Takes feed_told studio mid events datagrams stream path a b o p k) (full : length t.given ≡ k) (one : Takes feed_told studio new (events ++ arrivals_on stream path t.given) datagrams stream path b c p q 1) where
    stands_more : HasSession studio new (events ++ arrivals_on stream path (t.given ++ one.given)) datagrams
    stands_more = subst (λ l. HasSession studio new l datagrams)
        (append_assoc events (arrivals_on stream path t.given) (arrivals_on stream path one.given) ∙ ap (λ l. events ++ l) (sym (arrivals-more stream path t.given one.given))) one.stands

    heard_more : Hears o (heard_by studio.streams studio.open_at events (arrivals_on stream path (t.given ++ one.given))) q
    heard_more = subst (λ l. Hears o (heard_by studio.streams studio.open_at events l) q) (sym (arrivals-more stream path t.given one.given))
        (hears_more studio.streams studio.open_at events o p q (arrivals_on stream path t.given) (arrivals_on stream path one.given) t.heard one.heard)

    -- one more call returned a datagram, as each call before it did
    pub takes-more : length one.given ≡ 1 → (s : Takes feed_told studio new events datagrams stream path a c o q (k + 1)) × (length s.given ≡ k + 1)
    takes-more single = (
      record {
        given = t.given ++ one.given;
        few = omega (arith, full, single, length-append t.given one.given);
        stands = stands_more;
        heard = heard_more;
        goes_on = goes-further feed_told a b c t.given one.given t.goes_on one.goes_on;
        asks = asks-more feed_told k a b c t.given one.given full t.asks one.asks;
      },
      omega (arith, full, single, length-append t.given one.given),
    )

    -- one more call returned no datagram: this is so for any greater number of calls
    pub takes-last : (most : ℕ) → k + 1 ≤ most → one.given ≡ [] → Takes feed_told studio new events datagrams stream path a c o q most
    takes-last most le none = record {
      given = t.given ++ one.given;
      few = (let empty = ap length none in omega (arith, full, empty, le, length-append t.given one.given));
      stands = stands_more;
      heard = heard_more;
      goes_on = goes-further feed_told a b c t.given one.given t.goes_on one.goes_on;
      asks = asks-stop feed_told k most a b c t.given one.given full le none t.asks one.asks;
    }

  -- no feed of a stream was called yet
  pub stream-none : (studio : Studio) (engine : EngineState) (events : List TraceEvent) (datagrams : List (List ℕ)) (stream : ℕ) (readers : List (FeedReader F)) (o : Option (List Heard))
      → HasSession studio engine events datagrams → TakesStream feed_told studio engine events datagrams stream readers readers o o 0
  stream-none studio engine events datagrams stream readers o s = record {
    arrivals = [];
    stands = subst (λ l. HasSession studio engine l datagrams) (sym (append-nil events)) s;
    heard = adds_none o;
    arrive = tt;
    few = λ path. omega arith;
    later = λ path h. refl;
    others = λ t path ne. refl;
    rest = λ path reader h at. at;
    each = λ path old at. (old, at, goes-nowhere feed_told old, λ h. absurd (omega (arith, h)));
  }

  module _ (studio : Studio) (mid new : EngineState) (events : List TraceEvent) (datagrams : List (List ℕ)) (stream i : ℕ) (olds now : List (FeedReader F)) (d moved : FeedReader F) (o p q : Option (List Heard))
      (before : TakesStream feed_told studio mid events datagrams stream olds now o p i) (within : i < length now)
      (t : Takes feed_told studio new (events ++ before.arrivals) datagrams stream i (get_or now i d) moved p q 64) where
    here : (path : ℕ) → path ≡ i → datagrams_on stream path (before.arrivals ++ arrivals_on stream i t.given) ≡ t.given
    here path e = subst (λ p. datagrams_on stream p (before.arrivals ++ arrivals_on stream i t.given) ≡ t.given) (sym e) (more_here stream i before.arrivals t.given (before.later i (omega arith)))

    beside : (path : ℕ) → path ≢ i → datagrams_on stream path (before.arrivals ++ arrivals_on stream i t.given) ≡ datagrams_on stream path before.arrivals
    beside path ne = more_beside stream i path before.arrivals t.given ne

    -- one more feed of a stream was called
    pub stream-more : TakesStream feed_told studio new events datagrams stream olds (set now i moved) o q (i + 1)
    stream-more = record {
      arrivals = before.arrivals ++ arrivals_on stream i t.given;
      stands = subst (λ l. HasSession studio new l datagrams) (append_assoc events before.arrivals (arrivals_on stream i t.given)) t.stands;
      heard = hears_more studio.streams studio.open_at events o p q before.arrivals (arrivals_on stream i t.given) before.heard t.heard;
      arrive = arrivals-append before.arrivals (arrivals_on stream i t.given) before.arrive (are_arrivals stream i t.given);
      few = λ path. elim (cases_eq path i) [
        | inl e ↦ let f = t.few in let g = ap length (here path e) in omega (arith, f, g)
        | inr ne ↦ let f = before.few path in let g = ap length (beside path ne) in omega (arith, f, g)
      ];
      later = λ path h. beside path (past i path h) ∙ before.later path (omega (arith, h));
      others = λ s path ne. more_elsewhere stream i s path before.arrivals t.given ne ∙ before.others s path ne;
      rest = λ path reader h at. set_apart now i path moved reader (past i path h) (before.rest path reader (omega (arith, h)) at);
      each = λ path old at. elim (cases_eq path i) [
        | inl e ↦
            let there : slice_get now i ≡ Some old = before.rest i old (omega arith) (subst (λ p. slice_get olds p ≡ Some old) e at) in
            let old_is : get_or now i d ≡ old = same_at now i d old there in (
              moved,
              subst (λ p. slice_get (set now i moved) p ≡ Some moved) (sym e) (set_here now i moved within),
              subst (GoesOn feed_told old moved) (sym (here path e)) (subst (λ o. GoesOn feed_told o moved t.given) old_is t.goes_on),
              λ _. subst (Asks feed_told 64 old moved) (sym (here path e)) (subst (λ o. Asks feed_told 64 o moved t.given) old_is t.asks),
            )
        | inr ne ↦
            let found = before.each path old at in
            (found.0, set_apart now i path moved found.0 ne found.1, subst (GoesOn feed_told old found.0) (sym (beside path ne)) found.2, λ h. subst (Asks feed_told 64 old found.0) (sym (beside path ne)) (found.3 (omega (arith, h, ne))))
      ];
    }

  -- no feed of any stream was called yet
  pub all-none : (studio : Studio) (engine : EngineState) (events : List TraceEvent) (datagrams : List (List ℕ)) (readers : List (Vec (FeedReader F) Global)) (o : Option (List Heard))
      → HasSession studio engine events datagrams → TakesAll feed_told studio engine events datagrams readers readers o o 0
  all-none studio engine events datagrams readers o s = record {
    arrivals = [];
    stands = subst (λ l. HasSession studio engine l datagrams) (sym (append-nil events)) s;
    heard = adds_none o;
    arrive = tt;
    few = λ stream path. omega arith;
    later = λ stream path h. refl;
    rest = λ stream own h at. at;
    each = λ stream own at. (own, at, λ path old there. (old, there, goes-nowhere feed_told old, λ h. absurd (omega (arith, h))));
  }

  module _ (studio : Studio) (mid new : EngineState) (events : List TraceEvent) (datagrams : List (List ℕ)) (i : ℕ) (olds now : List (Vec (FeedReader F) Global)) (d moved : Vec (FeedReader F) Global) (o p q : Option (List Heard))
      (before : TakesAll feed_told studio mid events datagrams olds now o p i) (within : i < length now)
      (t : TakesStream feed_told studio new (events ++ before.arrivals) datagrams i (get_or now i d).items moved.items p q (length (get_or now i d).items)) where
    own : (stream path : ℕ) → stream ≡ i → datagrams_on stream path (before.arrivals ++ t.arrivals) ≡ datagrams_on i path t.arrivals
    own stream path e = subst (λ s. datagrams_on s path (before.arrivals ++ t.arrivals) ≡ datagrams_on i path t.arrivals) (sym e) (none_before i path before.arrivals t.arrivals (before.later i path (omega arith)))

    other : (stream path : ℕ) → stream ≢ i → datagrams_on stream path (before.arrivals ++ t.arrivals) ≡ datagrams_on stream path before.arrivals
    other stream path ne = none_more stream path before.arrivals t.arrivals (t.others stream path ne)

    -- the feeds of one more stream were called
    pub all-more : TakesAll feed_told studio new events datagrams olds (set now i moved) o q (i + 1)
    all-more = record {
      arrivals = before.arrivals ++ t.arrivals;
      stands = subst (λ l. HasSession studio new l datagrams) (append_assoc events before.arrivals t.arrivals) t.stands;
      heard = hears_more studio.streams studio.open_at events o p q before.arrivals t.arrivals before.heard t.heard;
      arrive = arrivals-append before.arrivals t.arrivals before.arrive t.arrive;
      few = λ stream path. elim (cases_eq stream i) [
        | inl e ↦ let f = t.few path in let g = ap length (own stream path e) in omega (arith, f, g)
        | inr ne ↦ let f = before.few stream path in let g = ap length (other stream path ne) in omega (arith, f, g)
      ];
      later = λ stream path h. other stream path (past i stream h) ∙ before.later stream path (omega (arith, h));
      rest = λ stream readers h at. set_apart now i stream moved readers (past i stream h) (before.rest stream readers (omega (arith, h)) at);
      each = λ stream readers at. elim (cases_eq stream i) [
        | inl e ↦
            let there : slice_get now i ≡ Some readers = before.rest i readers (omega arith) (subst (λ s. slice_get olds s ≡ Some readers) e at) in
            let is : get_or now i d ≡ readers = same_at now i d readers there in (
              moved,
              subst (λ s. slice_get (set now i moved) s ≡ Some moved) (sym e) (set_here now i moved within),
              λ path old found.
                  let found_now : slice_get (get_or now i d).items path ≡ Some old = subst (λ (v : Vec (FeedReader F) Global). slice_get v.items path ≡ Some old) (sym is) found in
                  let more = t.each path old found_now in
                  let within_it : path < length (get_or now i d).items = slice_get_within (get_or now i d).items path old found_now in
                  (more.0, more.1, subst (GoesOn feed_told old more.0) (sym (own stream path e)) more.2, λ _. subst (Asks feed_told 64 old more.0) (sym (own stream path e)) (more.3 within_it)),
            )
        | inr ne ↦
            let found = before.each stream readers at in (
              found.0,
              set_apart now i stream moved found.0 ne found.1,
              λ path old there.
                  let more = found.2 path old there in
                  (more.0, more.1, subst (GoesOn feed_told old more.0) (sym (other stream path ne)) more.2, λ h. subst (Asks feed_told 64 old more.0) (sym (other stream path ne)) (more.3 (omega (arith, h, ne)))),
            )
      ];
    }

  -- a clock reading changes nothing about what the feeds returned
  pub given-turned : (all : List (List (List Answer))) (readers : List (Vec (FeedReader F) Global)) (old new : ℤ) (events : List TraceEvent) (rounds : List Round) (answer : ℤ)
      → HaveGiven feed_told all readers events rounds → HaveGiven feed_told all readers (turned old new events) (rounds ++ record { answer = answer; asked = false; arrivals = [] } ∷ [])
  given-turned all readers old new events rounds answer h = record {
    each = λ stream own at.
        let found = h.each stream own at in (
          found.0,
          found.1,
          λ path told there.
              let more = found.2 path told there in (
                more.0,
                more.1,
                subst (IsGiven feed_told told more.0) (sym (datagrams-turned stream path old new events)) more.2,
                λ whole. let k = more.3 whole in (k.0, by-rounds-more stream path (until_end 0 told) (left_in feed_told more.0) (left_in feed_told more.0) rounds (record { answer = answer; asked = false; arrivals = [] }) k.1 refl refl),
              ),
        );
  }

  -- the datagrams that were taken after the last reading are added to those that the feeds returned
  pub given-more : (studio : Studio) (engine : EngineState) (all : List (List (List Answer))) (olds news : List (Vec (FeedReader F) Global)) (events : List TraceEvent) (datagrams : List (List ℕ)) (o p : Option (List Heard)) (count : ℕ) (front : List Round) (answer : ℤ) → count ≡ length olds
      → HaveGiven feed_told all olds events (front ++ record { answer = answer; asked = false; arrivals = [] } ∷ []) → (t : TakesAll feed_told studio engine events datagrams olds news o p count)
      → HaveGiven feed_told all news (events ++ t.arrivals) (front ++ record { answer = answer; asked = true; arrivals = t.arrivals } ∷ [])
  given-more studio engine all olds news events datagrams o p count front answer all_count h t = record {
    each = λ stream own at.
        let found = h.each stream own at in
        let moved = t.each stream found.0 found.1 in
        let within : stream < length olds = slice_get_within olds stream found.0 found.1 in (
          moved.0,
          moved.1,
          λ path told there.
              let reader = found.2 path told there in
              let more = moved.2 path reader.0 reader.1 in (
                more.0,
                more.1,
                subst (IsGiven feed_told told more.0) (sym (datagrams-append stream path events t.arrivals)) (more.2 told (datagrams_on stream path events) reader.2),
                λ whole.
                    let k = reader.3 whole in
                    let a = more.3 (omega (arith, within, all_count)) k.0 in (
                      a.0,
                      by-rounds-more stream path (until_end 0 told) (left_in feed_told reader.0) (left_in feed_told more.0) front (record { answer = answer; asked = true; arrivals = t.arrivals })
                          (by-rounds-front stream path (until_end 0 told) (left_in feed_told reader.0) front answer k.1) a.1 a.2,
                    ),
              ),
        );
  }

  -- an element of a list that was made from another by `map`
  map_at : {A B : Type 0} (v : A → B) (xs : List A) (i : ℕ) (y : B) → slice_get (map v xs) i ≡ Some y → (x : A) × (slice_get xs i ≡ Some x) × (y ≡ v x)
  map_at v [] zero y e = absurd (cc)
  map_at v [] (suc i) y e = absurd (cc)
  map_at v (x ∷ xs) zero y e = (x, refl, sym (ap (λ o. unwrap_or o y) e))
  map_at v (x ∷ xs) (suc i) y e = map_at v xs i y e

  at_map : {A B : Type 0} (v : A → B) (xs : List A) (i : ℕ) (x : A) → slice_get xs i ≡ Some x → slice_get (map v xs) i ≡ Some (v x)
  at_map v [] zero x e = absurd (cc)
  at_map v [] (suc i) x e = absurd (cc)
  at_map v (y ∷ xs) zero x e = ap (λ o. Some (v (unwrap_or o x))) e
  at_map v (y ∷ xs) (suc i) x e = at_map v xs i x e

  -- no feed has returned a datagram before the first round
  pub given-none : (streams : List Stream) (feeds : List F) (readers : List (Vec (FeedReader F) Global)) → HaveBegun streams feeds readers → HaveGiven feed_told (grouped streams (map feed_told feeds)) readers [] []
  given-none streams feeds readers begun = record {
    each = λ stream own at.
        let groups = grouped streams feeds in
        let found = map_at (λ (l : List F). map feed_told l) groups stream own (subst (λ l. slice_get l stream ≡ Some own) (grouped-map feed_told streams feeds) at) in
        let beside = at_map (λ (l : List F). map new_reader l) groups stream found.0 found.1 in
        let new = map_at (λ (v : Vec (FeedReader F) Global). v.items) readers stream (map new_reader found.0) (subst (λ l. slice_get l stream ≡ Some (map new_reader found.0)) (sym (begun ∙ grouped-map new_reader streams feeds)) beside) in (
          new.0,
          new.1,
          λ path told there.
              let feed = map_at feed_told found.0 path told (subst (λ l. slice_get l path ≡ Some told) found.2 there) in (
                new_reader feed.0,
                subst (λ l. slice_get l path ≡ Some (new_reader feed.0)) new.2 (at_map new_reader found.0 path feed.0 feed.1),
                λ whole. (omega arith, subst (λ l. reaches_end 0 l ≡ true) feed.2 whole, ap (told_datagrams 0) (sym feed.2)),
                λ whole. ((omega arith, subst (λ l. reaches_end 0 l ≡ true) feed.2 whole), ap (until_end 0) feed.2),
              ),
        );
  }
