-- The history of a stream, when it has come to its end.
use Rattle.std.proofs.Common.{◌≡◌, ℕ, suc, ◌+◌, ◌-◌, ◌*◌, ◌≤◌, ◌^◌, Bool, true, false, nat_eq, nat_lt, if◌then◌else◌, List, [], ◌∷◌, ◌++◌, length, take, map, ℤ, Option, Some, None, IsSome, IfSome, refl, sym, ap, subst, ◌∙◌, arith, append_assoc, append-nil}
use Rattle.std.proofs.lemmas.Bool.Decides.{nat_tests}
use Rattle.std.proofs.lemmas.List.{length-map}
use Rattle.std.proofs.lemmas.List.Sums.{sum_by-cons}
use Rattle.std.proofs.lemmas.Option.{IfSome_then}
use Rattle.std.proofs.Math.Seq.{take-length}
use Rattle.std.specs.List.{AllZip}
use Rattle.rtrb.specs.Ends.{SameRing}
use Rattle.rtrb.specs.Ring.{all_sent, producer_capacity, sent, SameProducer}
use Rattle.rtrb.specs.declared.producer.Producer.{Producer}
use Rattle.rtrb.specs.declared.finished.Finished.{Finished}
use Rattle.rtp_stream.specs.declared.stream_spec.Stream.{Stream}
use Rattle.rtp_stream.specs.History.{arrival_count, is_closed}
use Rattle.rtp_stream.specs.Marks.{marks_of}
use Rattle.rtp_stream.specs.CountsFacts.{Tally}
use Rattle.rtp_stream.specs.Counts.{counts_of, fates_of, tally_of}
use Rattle.rtp_stream.specs.MarkFacts.{MarkView}
use Rattle.rtp_stream.specs.declared.packet.Packet.{Packet}
use Rattle.rtp_stream.specs.declared.event.Event.{Event}
use Rattle.rtp_stream.specs.declared.event.Event.TheVariants.{Arrive, Tick, Close}
use Rattle.path_merge.proofs.HistoryLemmas.{fates_of-push}
use Rattle.path_merge.proofs.RestartOfferLemmas.{counted_arrivals}
use Rattle.rtp_stream.specs.PathCounts.{path_tally_of}
use Rattle.rtp_stream.specs.declared.stream_counts.PathCounts.{PathCounts}
use Rattle.studio_ends.specs.Fitting.{fitting}
use Rattle.studio_ends.specs.FreshEnds.{AllFreshPaths, IsFreshPath, IsFreshStream}
use Rattle.studio_ends.specs.Streams.{StreamHasHistory, packets_by}
use Rattle.studio_ends.specs.declared.path_end.PathDone.{PathDone}
use Rattle.studio_ends.specs.declared.rings.TokenConsumer.{TokenConsumer}
use Rattle.studio_ends.specs.declared.stream_end.turns.StreamDone.{StreamDone}
use Rattle.studio_ends.specs.declared.stream_end.StreamEnd.{StreamEnd}
use Rattle.studio_ends.proofs.StreamLemmas.{packets_by-append}
use Rattle.studio_io.specs.Answers.{Answer, CountsOthers, IsPartOf, reaches_end, told_datagrams, told_packets}
use Rattle.studio_io.specs.FaultCounts.{AreFaultNumbers}
use Rattle.studio_rings.specs.ClockTurns.{GoByClock, events_in}
use Rattle.studio_rings.specs.PathWorkers.{IsPathResult, SendsFeed}
use Rattle.studio_rings.specs.Runs.{HasPathHistory, HavePathHistories, sent_total}
use Rattle.studio_rings.specs.Turns.{GoesOn, HaveArrived, HaveTold}
use Rattle.studio_rings.proofs.StreamTurnLemmas.{events-joined}
use Rattle.studio_rings.specs.declared.jobs.PathJob.{PathJob}
use Rattle.studio_rings.specs.declared.jobs.PathResult.{PathResult}
use Rattle.studio_rings.specs.declared.worker.clocked_stream.ClockedStream.{ClockedStream}
use Rattle.studio_rings.specs.StreamWorkers.{EndsStream, HasEnded, HasMarks, PathsGiveTokens, IsStreamResult, all_told, ends_of, told_by, told_of}
use Rattle.studio_rings.specs.StreamClose.{ClosesLater, Drains}
use Rattle.studio_rings.proofs.ZipLemmas.{zip-length}
use Rattle.studio_rings.specs.declared.jobs.StreamJob.{StreamJob}
use Rattle.studio_rings.specs.declared.jobs.StreamResult.{StreamResult}

-- the token of an end is that of each end of the same ring
pub same_token : {T A P : Type 0} (p q : Producer T A P) (done : Finished T A P) → SameProducer p q → SameRing q.end done.end → SameRing p.end done.end
same_token p q done same fin = (fin.0 ∙ same.0.0, fin.1 ∙ same.0.1, fin.2 ∙ same.0.2, fin.3 ∙ same.0.3)

-- a stream that went on from `s` to `t`, was closed as `u` and drained as `v` has ended
pub ended : {C : Type 0} (clock_told : C → List ℤ) (s t : ClockedStream C) (u v : StreamEnd) (results : List PathResult) (result : StreamResult) (marks : List MarkView)
    → GoesOn clock_told s t → HaveTold t.end.sides.items (map told_by results) → ClosesLater clock_told t u → Drains u v → tally_of result.counts.merge ≡ v.merge.counts → marks ≡ sent v.marks
    → (stream : Stream) (open_at : ℤ) (events : List Event) → StreamHasHistory stream open_at s.end events → HasEnded clock_told stream open_at s events (map told_by results) result marks
ended clock_told s t u v results result marks goes told closes drains counts marks_are stream open_at events h =
    let after = events ++ events_in (goes.turns stream) in
    let at = closes.history stream open_at after (map told_by results) told (goes.stands stream open_at events h) in
    let before = after ++ events_in at.turns in
    let all = before ++ Close ∷ [] in
    let stands : StreamHasHistory stream open_at v all = drains.stands stream open_at all at.stands in
    let sent_is : sent v.marks ≡ marks_of stream open_at all = drains.all stream open_at all stands in
    let taken : take (length (sent v.marks)) (marks_of stream open_at all) ≡ marks_of stream open_at all = ap (λ (l : List MarkView). take (length l) (marks_of stream open_at all)) sent_is ∙ take-length (marks_of stream open_at all) in
    record {
      turns = goes.turns stream ++ at.turns;
      timed = goes.timed stream open_at events (producer_capacity s.end.marks) at.turns h refl (subst (λ n. GoByClock stream open_at n t.now (clock_told t.clock) after at.turns) goes.marks.1 at.timed);
      before = before;
      before_is = append_assoc events (events_in (goes.turns stream)) (events_in at.turns) ∙ ap (λ l. events ++ l) (sym (events-joined (goes.turns stream) at.turns));
      open_before = at.open_before;
      well_timed = stands.merge.well_timed;
      arrived = at.arrived;
      marks_are = marks_are ∙ sent_is;
      counts = counts ∙ (stands.merge.counts ∙ ap (counts_of stream open_at all) taken);
    }

-- the arrivals on a path and those after it
abbrev count_from : ℕ → List Event → ℕ
count_from path [] = 0
count_from path (Arrive p packet ∷ events) = (if nat_lt p path then 0 else 1) + count_from path events
count_from path (Tick u ∷ events) = count_from path events
count_from path (Close ∷ events) = count_from path events

count_all : (events : List Event) → count_from 0 events ≡ arrival_count events
count_all [] = refl
count_all (Arrive p packet ∷ events) =
    let none : nat_lt p 0 ≡ false = grind (arith, nat_tests) in
    ap (λ b. (if b then 0 else 1) + count_from 0 events) none ∙ ap (λ n. 1 + n) (count_all events)
count_all (Tick u ∷ events) = count_all events
count_all (Close ∷ events) = count_all events

count_one : (p path n m : ℕ) (packet : Packet) (l : List Packet) (a b c : Bool) → nat_eq p path ≡ a → nat_lt p path ≡ b → nat_lt p (suc path) ≡ c → n ≡ length l + m
    → (if b then 0 else 1) + n ≡ length (if a then packet ∷ l else l) + ((if c then 0 else 1) + m)
count_one p path n m packet l true false true ea eb ec e = omega (arith, e)
count_one p path n m packet l false true true ea eb ec e = omega (arith, e)
count_one p path n m packet l false false false ea eb ec e = omega (arith, e)
count_one p path n m packet l true true c ea eb ec e = absurd (grind (arith, nat_tests, ea, eb))
count_one p path n m packet l true false false ea eb ec e = absurd (grind (arith, nat_tests, ea, ec))
count_one p path n m packet l false true false ea eb ec e = absurd (grind (arith, nat_tests, eb, ec))
count_one p path n m packet l false false true ea eb ec e = absurd (grind (arith, nat_tests, ea, eb, ec))

count_split : (path : ℕ) (events : List Event) → count_from path events ≡ length (packets_by path events) + count_from (suc path) events
count_split path [] = refl
count_split path (Arrive p packet ∷ events) =
    count_one p path (count_from path events) (count_from (suc path) events) packet (packets_by path events) (nat_eq p path) (nat_lt p path) (nat_lt p (suc path)) refl refl refl (count_split path events)
count_split path (Tick u ∷ events) = count_split path events
count_split path (Close ∷ events) = count_split path events

none_left : (b : Bool) (packet : Packet) (l : List Packet) → (if b then packet ∷ l else l) ≡ [] → l ≡ []
none_left true packet l e = absurd (cc)
none_left false packet l e = e

none_here : (b : Bool) (packet : Packet) (l : List Packet) → b ≡ true → (if b then packet ∷ l else l) ≡ [] → ⊥
none_here true packet l is e = absurd (cc)
none_here false packet l is e = absurd (cc)

none_by : (b : Bool) (p path : ℕ) (packet : Packet) (events : List Event) → nat_lt p path ≡ b → ((other : ℕ) → path ≤ other → (if nat_eq p other then packet ∷ packets_by other events else packets_by other events) ≡ []) → ◌≡◌ {A = ℕ} (if b then 0 else 1) 0
none_by true p path packet events is none = refl
none_by false p path packet events is none =
    let le : path ≤ p = grind (arith, nat_tests, is) in
    let same : nat_eq p p ≡ true = grind (arith, nat_tests) in
    absurd (none_here (nat_eq p p) packet (packets_by p events) same (none p le))

count_none : (path : ℕ) (events : List Event) → ((other : ℕ) → path ≤ other → packets_by other events ≡ []) → count_from path events ≡ 0
count_none path [] none = refl
count_none path (Arrive p packet ∷ events) none =
    let here : ◌≡◌ {A = ℕ} (if nat_lt p path then 0 else 1) 0 = none_by (nat_lt p path) p path packet events refl none in
    let rest = count_none path events (λ other le. none_left (nat_eq p other) packet (packets_by other events) (none other le)) in
    omega (arith, here, rest)
count_none path (Tick u ∷ events) none = count_none path events none
count_none path (Close ∷ events) none = count_none path events none

pub some_of : {A : Type 0} (P : A → Type 0) (o : Option A) → IsSome o → IfSome o P → (x : A) × (o ≡ Some x) × P x
some_of P None some h = let e : false ≡ true = some in absurd (cc)
some_of P (Some x) some h = (x, refl, h)

-- what a path's token reports: packets of the stream's length, whose number was counted
record Tells {F : Type 0} (told : F → List Answer) (p : PathJob F) (r : PathResult) : Type 0 where
  fit : fitting p.end.spec (told_by r) ≡ told_by r
  count : r.counts.sent ≡ length (told_by r)
  sent_are : reaches_end 0 (told p.feed) ≡ true → SendsFeed (told p.feed) p.end (told_by r) r.counts

tells : {F : Type 0} (told : F → List Answer) (p : PathJob F) (r : PathResult) → IsPathResult told p r → IsSome r.done → Tells told p r
tells told p r is some =
    let fit = some_of _ r.done some is.fit in
    let count = some_of _ r.done some is.count in
    record {
      fit = subst (λ (d : Option PathDone). fitting p.end.spec (all_told d) ≡ all_told d) (sym fit.1) fit.2;
      count = subst (λ (d : Option PathDone). r.counts.sent ≡ length (all_told d)) (sym count.1) count.2;
      sent_are = λ whole.
          let sends = some_of _ r.done some (is.sent whole) in
          subst (λ (d : Option PathDone). SendsFeed (told p.feed) p.end (all_told d) r.counts) (sym sends.1) sends.2;
    }

module _ {F : Type 0} (told : F → List Answer) (stream : Stream) (places : ℕ) where
  -- what arrived on a path is what its token reports
  arrived_is : (p : PathJob F) (side : TokenConsumer Packet) (r : PathResult) (path : ℕ) (events : List Event) → IsFreshPath stream places p.end side → Tells told p r
      → packets_by path events ≡ fitting stream (told_by r) → packets_by path events ≡ told_by r
  arrived_is p side r path events fresh t e = e ∙ (ap (λ (s : Stream). fitting s (told_by r)) (sym fresh.spec) ∙ t.fit)

  counted : (path : ℕ) (paths : List (PathJob F)) (sides : List (TokenConsumer Packet)) (results : List PathResult) (events : List Event) → AllFreshPaths stream places (ends_of paths) sides → AllZip (IsPathResult told) paths results → PathsGiveTokens results
      → HaveArrived stream path (map told_by results) events → count_from path events ≡ sent_total (map (λ (r : PathResult). r.counts) results)
  counted path [] sides [] events fresh zip given h = count_none path events h
  counted path [] sides (r ∷ rs) events fresh zip given h = absurd zip
  counted path (p ∷ ps) sides [] events fresh zip given h = absurd zip
  counted path (p ∷ ps) [] (r ∷ rs) events fresh zip given h = absurd fresh
  counted path (p ∷ ps) (side ∷ sides) (r ∷ rs) events fresh zip given h =
      let t = tells told p r zip.0 given.0 in
      let here : length (packets_by path events) ≡ r.counts.sent = ap length (arrived_is p side r path events fresh.0 t h.0) ∙ sym t.count in
      let rest = counted (suc path) ps sides rs events fresh.1 zip.1 given.1 h.1 in
      let split = count_split path events in
      let sum : sent_total (map (λ (x : PathResult). x.counts) (r ∷ rs)) ≡ r.counts.sent + sent_total (map (λ (x : PathResult). x.counts) rs) = sum_by-cons (λ (x : PathCounts). x.sent) r.counts (map (λ (x : PathResult). x.counts) rs) in
      omega (arith, here, rest, split, sum)

  path_history : (p : PathJob F) (side : TokenConsumer Packet) (r : PathResult) (path : ℕ) (events : List Event) → IsFreshPath stream places p.end side → Tells told p r
      → packets_by path events ≡ told_by r → HasPathHistory stream path (told p.feed) r.counts events
  path_history p side r path events fresh t is = record {
    sent = t.count ∙ sym (ap length is);
    some = λ whole.
        let sends = t.sent_are whole in
        let more : told_by r ≡ sends.more = sends.sends ∙ ap (λ l. l ++ sends.more) fresh.none_sent in
        subst (λ l. IsPartOf l (told_packets stream 0 (told p.feed))) (sym (is ∙ more)) (subst (λ (s : Stream). IsPartOf sends.more (told_packets s 0 (told p.feed))) fresh.spec sends.some);
    all = λ whole full offered.
        let sends = t.sent_are whole in
        let more : told_by r ≡ sends.more = sends.sends ∙ ap (λ l. l ++ sends.more) fresh.none_sent in
        is ∙ (more ∙ (sends.all full offered ∙ ap (λ (s : Stream). told_packets s 0 (told p.feed)) fresh.spec));
    lacking = λ whole offered.
        let sends = t.sent_are whole in
        let more : packets_by path events ≡ sends.more = is ∙ (sends.sends ∙ ap (λ l. l ++ sends.more) fresh.none_sent) in
        let few : p.end.counts.full + (length (told_packets stream 0 (told p.feed)) - length (packets_by path events)) * 1001 ≤ r.counts.full =
        subst (λ (l : List Packet). p.end.counts.full + (length (told_packets stream 0 (told p.feed)) - length l) * 1001 ≤ r.counts.full) (sym more)
        (subst (λ (s : Stream). p.end.counts.full + (length (told_packets s 0 (told p.feed)) - length sends.more) * 1001 ≤ r.counts.full) fresh.spec (sends.lacking offered)) in
        omega (arith, few);
    others = λ whole offered.
        let sends = t.sent_are whole in
        let none = fresh.none_offered in
        let balanced = p.end.counts.balanced in
        let counted : CountsOthers stream (told_datagrams 0 (told p.feed)) (path_tally_of p.end.counts) (path_tally_of r.counts) =
        subst (λ (s : Stream). CountsOthers s (told_datagrams 0 (told p.feed)) (path_tally_of p.end.counts) (path_tally_of r.counts)) fresh.spec (sends.others offered) in
        record {
          bad = let b = counted.bad in omega (arith, none, balanced, b);
          wrong_type = let b = counted.wrong_type in omega (arith, none, balanced, b);
          wrong_length = let b = counted.wrong_length in omega (arith, none, balanced, b);
        };
    offered = λ whole. let few = (t.sent_are whole).offered in let none = fresh.none_offered in omega (arith, few, none);
  }

  path_histories : (path : ℕ) (paths : List (PathJob F)) (sides : List (TokenConsumer Packet)) (results : List PathResult) (events : List Event) → AllFreshPaths stream places (ends_of paths) sides → AllZip (IsPathResult told) paths results → PathsGiveTokens results
      → HaveArrived stream path (map told_by results) events → HavePathHistories stream path (told_of told paths) (map (λ (r : PathResult). r.counts) results) (events ++ Close ∷ [])
  path_histories path [] sides [] events fresh zip given h = tt
  path_histories path [] sides (r ∷ rs) events fresh zip given h = absurd zip
  path_histories path (p ∷ ps) sides [] events fresh zip given h = absurd zip
  path_histories path (p ∷ ps) [] (r ∷ rs) events fresh zip given h = absurd fresh
  path_histories path (p ∷ ps) (side ∷ sides) (r ∷ rs) events fresh zip given h =
      let t = tells told p r zip.0 given.0 in
      let after : packets_by path (events ++ Close ∷ []) ≡ packets_by path events = packets_by-append path events (Close ∷ []) ∙ append-nil (packets_by path events) in
      (path_history p side r path (events ++ Close ∷ []) fresh.0 t (after ∙ arrived_is p side r path events fresh.0 t h.0), path_histories (suc path) ps sides rs events fresh.1 zip.1 given.1 h.1)

closed_after : (before : List Event) → is_closed (before ++ Close ∷ []) ≡ true
closed_after [] = refl
closed_after (Arrive p packet ∷ before) = closed_after before
closed_after (Tick u ∷ before) = closed_after before
closed_after (Close ∷ before) = refl

arrived_count : (stream : Stream) (open_at : ℤ) (before : List Event) → is_closed before ≡ false → arrival_count before ≤ 2 ^ 62 → length (fates_of stream open_at (before ++ Close ∷ [])) ≡ arrival_count before
arrived_count stream open_at before shut few =
    let same : fates_of stream open_at (before ++ Close ∷ []) ≡ fates_of stream open_at before = fates_of-push stream open_at before Close ∙ append-nil (fates_of stream open_at before) in
    ap length same ∙ (counted_arrivals stream open_at before shut ∙ omega (arith, few))

module _ {F : Type 0} (told : F → List Answer) where
  has_marks : {C : Type 0} (clock_told : C → List ℤ) (stream : Stream) (open_at : ℤ) (places capacity : ℕ) (paths : List (PathJob F)) (s : StreamEnd) (t : ClockedStream C) (after : List Event) (results : List PathResult) (result : StreamResult) (marks : List MarkView) (clock : List ℤ) (turns : List (List Event))
      → IsFreshStream open_at places stream (ends_of paths) s → AllZip (IsPathResult told) paths results → PathsGiveTokens results → result.counts.paths.items ≡ map (λ (r : PathResult). r.counts) results
      → (e : HasEnded clock_told stream open_at t after (map told_by results) result marks) → e.before ≡ events_in turns → GoByClock stream open_at capacity open_at clock [] turns
      → HasMarks open_at capacity stream (told_of told paths) clock result marks
  has_marks clock_told stream open_at places capacity paths s t after results result marks clock turns fresh zip given counts_are e made timed =
      let all = e.before ++ Close ∷ [] in
      let total : arrival_count e.before ≡ sent_total (map (λ (r : PathResult). r.counts) results) = sym (count_all e.before) ∙ counted told stream places 0 paths s.sides.items results e.before fresh.paths zip given e.arrived in
      record {
        events = all;
        history = record {
          well_timed = e.well_timed;
          closed = closed_after e.before;
          turns = turns;
          made = ap (λ l. l ++ Close ∷ []) made;
          timed = timed;
          merge = e.counts;
          arrived = λ few.
              let sum : sent_total result.counts.paths.items ≡ sent_total (map (λ (r : PathResult). r.counts) results) = ap sent_total counts_are in
              let few' : arrival_count e.before ≤ 2 ^ 62 = omega (arith, few, sum, total) in
              ap (λ (t : Tally). t.arrived) e.counts ∙ (arrived_count stream open_at e.before e.open_before few' ∙ (total ∙ sym sum));
          paths = subst (λ (l : List PathCounts). HavePathHistories stream 0 (told_of told paths) l all) (sym counts_are) (path_histories told stream places 0 paths s.sides.items results e.before fresh.paths zip given e.arrived);
        };
        marks_are = e.marks_are;
      }

  by_token : (done : Option StreamDone) (stream_says : StreamDone → Type 0) (results : List PathResult) (P : StreamDone → Type 0) → IfSome done (λ d. PathsGiveTokens results) → IfSome done stream_says → ((d : StreamDone) → PathsGiveTokens results → stream_says d → P d) → IfSome done P
  by_token None says results P given h f = tt
  by_token (Some d) says results P given h f = f d given h

  -- the result of a stream's worker that began as `s` and went on to `t`
  stream-result : {C : Type 0} (clock_told : C → List ℤ) (paths : List (PathJob F)) (end : StreamEnd) (clock : C) (s t : ClockedStream C) (results : List PathResult) (result : StreamResult) → s.end ≡ end → s.clock ≡ clock → s.now ≡ end.merge.time
      → AllZip (IsPathResult told) paths results → GoesOn clock_told s t → EndsStream clock_told t results result
      → IfSome result.done (λ done. (stream : Stream) (open_at : ℤ) (places : ℕ) → IsFreshStream open_at places stream (ends_of paths) end → HasMarks open_at (producer_capacity end.marks) stream (told_of told paths) (clock_told clock) result (all_sent done.token))
  stream-result {C = C} clock_told paths end clock s t results result end_is clock_is now_is zip goes ends =
      by_token result.done _ results _ ends.given ends.ended (λ d given says. λ stream open_at places fresh.
      let capacity = producer_capacity end.marks in
      let first : StreamHasHistory stream open_at s.end [] = subst (λ (x : StreamEnd). StreamHasHistory stream open_at x []) (sym end_is) fresh.stands in
      let own : producer_capacity s.end.marks ≡ capacity = ap (λ (x : StreamEnd). producer_capacity x.marks) end_is in
      let after = events_in (goes.turns stream) in
      let e = says stream open_at after (goes.stands stream open_at [] first) in
      let rest : GoByClock stream open_at capacity t.now (clock_told t.clock) after e.turns = subst (λ n. GoByClock stream open_at n t.now (clock_told t.clock) after e.turns) (goes.marks.1 ∙ own) e.timed in
      let all : GoByClock stream open_at capacity s.now (clock_told s.clock) [] (goes.turns stream ++ e.turns) = goes.timed stream open_at [] capacity e.turns first own rest in
      let timed : GoByClock stream open_at capacity open_at (clock_told clock) [] (goes.turns stream ++ e.turns) =
      subst (λ n. GoByClock stream open_at capacity n (clock_told clock) [] (goes.turns stream ++ e.turns)) (now_is ∙ fresh.time) (subst (λ (c : C). GoByClock stream open_at capacity s.now (clock_told c) [] (goes.turns stream ++ e.turns)) clock_is all) in
      has_marks clock_told stream open_at places capacity paths end t after results result (all_sent d.token) (clock_told clock) (goes.turns stream ++ e.turns) fresh zip given ends.paths e
      (e.before_is ∙ sym (events-joined (goes.turns stream) e.turns)) timed)

-- the number of faults of each path is that of its feed, if each path returned its token
faults_told : {F : Type 0} (told : F → List Answer) (paths : List (PathJob F)) (results : List PathResult) → AllZip (IsPathResult told) paths results → PathsGiveTokens results
    → AreFaultNumbers (told_of told paths) (map (λ (r : PathResult). r.faults) results)
faults_told told [] [] zip given = tt
faults_told told [] (r ∷ rs) zip given = absurd zip
faults_told told (p ∷ ps) [] zip given = absurd zip
faults_told told (p ∷ ps) (r ∷ rs) zip given = ((some_of _ r.done given.0 zip.0.faults).2, faults_told told ps rs zip.1 given.1)

pub is-stream-result : {F C : Type 0} (told : F → List Answer) (clock_told : C → List ℤ) (job : StreamJob F C) (s t : ClockedStream C) (results : List PathResult) (result : StreamResult) → s.end ≡ job.end → s.clock ≡ job.clock → s.now ≡ job.end.merge.time
    → AllZip (IsPathResult told) job.paths.items results → GoesOn clock_told s t → EndsStream clock_told t results result → IsStreamResult told clock_told job result
is-stream-result told clock_told job s t results result end_is clock_is now_is zip goes ends = record {
  faults =
      let own = ap length ends.faults in
      let ok = result.faults.ok.0 in
      omega (arith, own, ok, length-map results (λ (r : PathResult). r.faults), zip-length _ job.paths.items results zip);
  numbers = IfSome_then result.done ends.given (λ d given. subst (λ (l : List ℕ). AreFaultNumbers (told_of told job.paths.items) l) (sym ends.faults) (faults_told told job.paths.items results zip given));
  token = its_token job.end t.end result.done (subst (λ (x : StreamEnd). SameProducer x.marks t.end.marks) end_is goes.marks) ends.token;
  history = stream-result told clock_told job.paths.items job.end job.clock s t results result end_is clock_is now_is zip goes ends;
}
  where
    its_token : (p q : StreamEnd) (done : Option StreamDone) → SameProducer p.marks q.marks → IfSome done (λ (d : StreamDone). SameRing q.marks.end d.token.end) → IfSome done (λ (d : StreamDone). SameRing p.marks.end d.token.end)
    its_token p q None same h = tt
    its_token p q (Some d) same h = same_token p.marks q.marks d.token same h
