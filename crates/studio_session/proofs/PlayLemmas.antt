-- The marks of one stream after another, which the mixer is fed.
use Rattle.std.proofs.Common.{◌≡◌, inl, inr, ◌<◌, ◌≤◌, ◌+◌, ℕ, zero, suc, true, List, [], ◌∷◌, ◌++◌, length, take, drop, set, Option, Some, None, slice_get, refl, sym, ap, subst, ◌∙◌, arith, Bool, false, not}
use Rattle.std.specs.Option.{option_map}
use Rattle.std.specs.Prelude.{IfSome}
use Rattle.std.proofs.lemmas.List.{length_push, take_all}
use Rattle.std.proofs.lemmas.Option.{slice_get-map}
use Rattle.rtp_stream.specs.StreamSpecFacts.{format_of}
use Rattle.rtp_stream.specs.MarkFacts.{MarkView}
use Rattle.rtp_stream.specs.MarkList.{is_mark_list}
use Rattle.path_merge.proofs.MarkListLemmas.{parts_listed}
use Rattle.std.proofs.lemmas.Bool.{false≢true}
use Rattle.lane_align.specs.Cover.{covers, cover_of}
use Rattle.mix_packets.specs.Block.{block_start}
use Rattle.studio_config.specs.Studio.{Studio}
use Rattle.studio_mix.specs.Feed.{Feed}
use Rattle.studio_mix.specs.Mixer.{MixerState, HasFeeds}
use Rattle.studio_session.specs.Event.{TraceEvent}
use Rattle.studio_session.specs.Session.{stream_history}
use Rattle.studio_session.specs.Cursor.{CursorState, HasPulled, IsOnTheWay, IsRunnable}
use Rattle.studio_session.specs.Play.{IsRunnableBy, TakesMark, Plays, PlaysOut, PlaysFinal, stream_marks}
use Rattle.studio_session.proofs.CursorLemmas.{mark_of_whole}

-- the first marks and the one after them
take_next : {X : Type 0} (k : ℕ) (xs : List X) → take k xs ++ take 1 (drop k xs) ≡ take (k + 1) xs
take_next zero xs = refl
take_next (suc k) [] = ap (λ n. take n []) (let e : suc (k + 1) ≡ suc k + 1 = omega arith in e)
take_next (suc k) (x ∷ xs) = ap (λ l. x ∷ l) (take_next k xs) ∙ ap (λ n. take n (x ∷ xs)) (let e : suc (k + 1) ≡ suc k + 1 = omega arith in e)

-- if none comes after the first `k` elements, they are all
all_taken : {X : Type 0} (k : ℕ) (xs : List X) → [] ≡ take 1 (drop k xs) → take k xs ≡ xs
all_taken zero [] none = refl
all_taken zero (x ∷ xs) none = absurd (let e : 0 ≡ 1 = ap length none in omega (arith, e))
all_taken (suc k) [] none = refl
all_taken (suc k) (x ∷ xs) none = ap (λ l. x ∷ l) (all_taken k xs none)

set_twice : {X : Type 0} (xs : List X) (i : ℕ) (a b : X) → set (set xs i a) i b ≡ set xs i b
set_twice [] i a b = refl
set_twice (x ∷ xs) zero a b = refl
set_twice (x ∷ xs) (suc i) a b = ap (λ l. x ∷ l) (set_twice xs i a b)

pub set_here : {X : Type 0} (xs : List X) (i : ℕ) (a : X) → i < length xs → slice_get (set xs i a) i ≡ Some a
set_here [] i a h = absurd (omega (arith, h))
set_here (x ∷ xs) zero a h = refl
set_here (x ∷ xs) (suc i) a h = set_here xs i a (omega (arith, h))

-- the stream of a feed is the stream of the studio with the same number
pub stream_at : (studio : Studio) (mixer : MixerState) (feeds : List Feed) (next i : ℕ) (feed : Feed) → HasFeeds studio mixer feeds next → slice_get feeds i ≡ Some feed
    → slice_get studio.streams i ≡ Some feed.stream
stream_at studio mixer feeds next i feed fed at =
    ap (λ ss. slice_get ss i) (sym fed.streams)
    ∙ slice_get-map (λ (f : Feed). f.stream) feeds i
    ∙ ap (option_map (λ (f : Feed). f.stream)) at

pub runnable_at : (studio : Studio) (events : List TraceEvent) (feeds : List Feed) (next number : ℕ) (mixer : MixerState) (cursor : CursorState)
    → IsRunnableBy studio events → number < length feeds → (p : Plays studio events feeds next number mixer cursor) → IsRunnable p.feed.stream number studio.open_at events
runnable_at studio events feeds next number mixer cursor run within p =
    run.each number p.feed.stream (stream_at studio mixer (set feeds number p.feed) next number p.feed p.fed (set_here feeds number p.feed within))

-- one more mark was returned
pub plays_more : (studio : Studio) (events : List TraceEvent) (feeds : List Feed) (next number : ℕ) (mixer new : MixerState) (cursor moved : CursorState) (m : MarkView)
    → IsRunnableBy studio events → number < length feeds → (p : Plays studio events feeds next number mixer cursor)
    → m ∷ [] ≡ take 1 (drop (length p.feed.marks) (stream_marks p.feed.stream number studio.open_at (take moved.place events)))
    → HasPulled p.feed.stream number studio.open_at events moved (length p.feed.marks + 1)
    → ((fs : List Feed) (f : Feed) → HasFeeds studio mixer fs next → slice_get fs number ≡ Some f → is_mark_list (format_of f.stream) (f.marks ++ m ∷ []) ≡ true
    → HasFeeds studio new (set fs number (record { stream = f.stream; marks = f.marks ++ m ∷ [] })) next)
    → Plays studio events feeds next number new moved
plays_more studio events feeds next number mixer new cursor moved m run within p is pulled hands =
    let f : Feed = p.feed in
    let k = length f.marks in
    let here = runnable_at studio events feeds next number mixer cursor run within p in
    let whole = stream_marks f.stream number studio.open_at events in
    let next_is : m ∷ [] ≡ take 1 (drop k whole) = mark_of_whole f.stream number studio.open_at events moved.place k m here is in
    let marks : List MarkView = f.marks ++ m ∷ [] in
    let long : length marks ≡ k + 1 = length_push f.marks m in
    let first : marks ≡ take (k + 1) whole = ap (λ l. l ++ m ∷ []) p.given.first ∙ ap (λ l. take k whole ++ l) next_is ∙ take_next k whole in
    let list : is_mark_list (format_of f.stream) marks ≡ true =
    ap (is_mark_list (format_of f.stream)) first ∙ parts_listed f.stream studio.open_at (stream_history f.stream number events) here.some_frames here.well_timed (k + 1) in
    record {
      feed = record { stream = f.stream; marks = marks };
      fed = subst (λ fs. HasFeeds studio new fs next) (set_twice feeds number f (record { stream = f.stream; marks = marks })) (hands (set feeds number f) f p.fed (set_here feeds number f within) list);
      given = record {
        pulled = subst (HasPulled f.stream number studio.open_at events moved) (sym long) pulled;
        first = first ∙ ap (λ n. take n whole) (sym long);
      };
    }

-- no mark was returned, and the cursor took more events
pub plays_on : (studio : Studio) (events : List TraceEvent) (feeds : List Feed) (next number : ℕ) (mixer : MixerState) (cursor moved : CursorState)
    → (p : Plays studio events feeds next number mixer cursor) → HasPulled p.feed.stream number studio.open_at events moved (length p.feed.marks)
    → Plays studio events feeds next number mixer moved
plays_on studio events feeds next number mixer cursor moved p pulled = record {
  feed = p.feed;
  fed = p.fed;
  given = record { pulled = pulled; first = p.given.first };
}

-- one more mark was returned, if there was one
pub plays_given : (studio : Studio) (events : List TraceEvent) (feeds : List Feed) (next number : ℕ) (mixer new : MixerState) (cursor moved : CursorState) (mark : Option MarkView)
    → IsRunnableBy studio events → number < length feeds → (p : Plays studio events feeds next number mixer cursor)
    → IsOnTheWay p.feed.stream number studio.open_at events moved (length p.feed.marks) mark
    → IfSome mark (TakesMark mixer new number) → (mark ≡ None → new ≡ mixer)
    → Plays studio events feeds next number new moved
plays_given studio events feeds next number mixer new cursor moved (Some m) run within p given takes none =
    plays_more studio events feeds next number mixer new cursor moved m run within p (given.mark m refl) given.stands (λ fs f fed at list. takes studio fs next f fed at list)
plays_given studio events feeds next number mixer new cursor moved None run within p given takes none =
    let same : length p.feed.marks + 0 ≡ length p.feed.marks = omega arith in
    subst (λ (m : MixerState). Plays studio events feeds next number m moved) (sym (none refl))
    (plays_on studio events feeds next number mixer cursor moved p (subst (HasPulled p.feed.stream number studio.open_at events moved) same given.stands))

covered_of : (wants covered : Bool) → wants ≡ false → wants ≡ not covered → covered ≡ true
covered_of wants true e f = refl
covered_of wants false e f = absurd (false≢true (sym e ∙ f))

-- a stream is final if the mixer wants no mark of it for the next block
pub plays_covered : (studio : Studio) (events : List TraceEvent) (feeds : List Feed) (next number : ℕ) (mixer : MixerState) (cursor : CursorState) (wants : Bool)
    → number < length feeds → Plays studio events feeds next number mixer cursor → wants ≡ false
    → ((fs : List Feed) (f : Feed) → HasFeeds studio mixer fs next → slice_get fs number ≡ Some f → wants ≡ not (covers (cover_of (format_of f.stream) f.marks) (block_start studio.output (next + 1))))
    → PlaysFinal studio events feeds next number mixer cursor
plays_covered studio events feeds next number mixer cursor wants within p done is = record {
  plays = p;
  final = inl (covered_of wants _ done (is (set feeds number p.feed) p.feed p.fed (set_here feeds number p.feed within)));
}

-- a stream whose cursor returned all its marks is final
pub plays_all : (studio : Studio) (events : List TraceEvent) (feeds : List Feed) (next number : ℕ) (mixer : MixerState) (cursor moved : CursorState)
    → PlaysOut studio events feeds next number mixer cursor → length events ≤ cursor.place → moved ≡ cursor → PlaysFinal studio events feeds next number mixer moved
plays_all studio events feeds next number mixer cursor moved out end same =
    let p = out.plays in
    let k = length p.feed.marks in
    let none = out.none ∙ ap (λ l. take 1 (drop k (stream_marks p.feed.stream number studio.open_at l))) (take_all cursor.place events end) in
    subst (PlaysFinal studio events feeds next number mixer) (sym same)
    (record { plays = p; final = inr (p.given.first ∙ all_taken k (stream_marks p.feed.stream number studio.open_at events) none) })
