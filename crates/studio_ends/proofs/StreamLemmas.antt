-- The events that a turn adds to the history of a stream's end.
use Rattle.std.proofs.Common.{◌≡◌, ◌≢◌, ℕ, suc, ◌+◌, ◌≤◌, ◌<◌, Bool, true, false, nat_eq, List, [], ◌∷◌, ◌++◌, length, take, get_or, ℤ, ◌≤ℤ◌, if◌then◌else◌, refl, sym, ap, subst, ◌∙◌, arith, append_assoc, append-nil, length-append}
use Rattle.std.proofs.lemmas.Bool.Decides.{nat_tests}
use Rattle.std.proofs.Math.Seq.{take-length}
use Rattle.rtrb.specs.Ring.{sent, received, known_free, SameProducer}
use Rattle.rtp_stream.specs.declared.stream_spec.Stream.{Stream}
use Rattle.rtp_stream.specs.History.{is_closed}
use Rattle.rtp_stream.specs.Marks.{marks_of}
use Rattle.path_merge.specs.MergeState.{MergeState}
use Rattle.path_merge.specs.Merge.{HasHistory}
use Rattle.rtp_stream.specs.declared.packet.Packet.{Packet}
use Rattle.rtp_stream.specs.declared.event.Event.{Event}
use Rattle.rtp_stream.specs.declared.event.Event.TheVariants.{Arrive, Tick, Close}
use Rattle.studio_ends.specs.StopReasons.{StopsFor}
use Rattle.studio_ends.specs.Fitting.{fitting}
use Rattle.studio_ends.specs.StreamTurns.{AllTakePackets, Joins, PushesMarks, arrivals_by, arrivals_from}
use Rattle.studio_ends.specs.Streams.{AllDelivered, ShowsCounts, TakesTurn, packets_by}
use Rattle.studio_ends.specs.declared.rings.TokenConsumer.{TokenConsumer}
use Rattle.studio_ends.specs.declared.stream_end.StreamEnd.{StreamEnd}
use Rattle.studio_ends.specs.declared.stream_end.marks_out.TurnNote.{TurnNote}
use Rattle.studio_ends.proofs.FittingLemmas.{fitting-append}

by_path : (b : Bool) (x : Packet) (l fs gs : List Packet) → l ≡ fs ++ gs → (if b then x ∷ l else l) ≡ (if b then x ∷ fs else fs) ++ gs
by_path true x l fs gs e = ap (λ m. x ∷ m) e
by_path false x l fs gs e = e

pub packets_by-append : (path : ℕ) (es fs : List Event) → packets_by path (es ++ fs) ≡ packets_by path es ++ packets_by path fs
packets_by-append path [] fs = refl
packets_by-append path (Arrive p x ∷ es) fs = by_path (nat_eq p path) x (packets_by path (es ++ fs)) (packets_by path es) (packets_by path fs) (packets_by-append path es fs)
packets_by-append path (Tick u ∷ es) fs = packets_by-append path es fs
packets_by-append path (Close ∷ es) fs = packets_by-append path es fs

same_path : (path : ℕ) (xs : List Packet) → packets_by path (arrivals_by path xs) ≡ xs
same_path path [] = refl
same_path path (x ∷ xs) =
    let t : nat_eq path path ≡ true = grind (arith, nat_tests) in
    ap (λ b. if b then x ∷ packets_by path (arrivals_by path xs) else packets_by path (arrivals_by path xs)) t ∙ ap (λ l. x ∷ l) (same_path path xs)

other_path : (p path : ℕ) (xs : List Packet) → p ≢ path → packets_by path (arrivals_by p xs) ≡ []
other_path p path [] ne = refl
other_path p path (x ∷ xs) ne =
    let t : nat_eq p path ≡ false = grind (arith, nat_tests, ne) in
    ap (λ b. if b then x ∷ packets_by path (arrivals_by p xs) else packets_by path (arrivals_by p xs)) t ∙ other_path p path xs ne

-- the arrivals among these events are the packets that were taken, path by path
abbrev Says : Stream → ℕ → List Event → List (List Packet) → Type 0
Says stream path more [] = (other : ℕ) → path ≤ other → packets_by other more ≡ []
Says stream path more (xs ∷ taken) = (packets_by path more ≡ fitting stream xs) × Says stream (suc path) more taken

below : (stream : Stream) (path n : ℕ) (taken : List (List Packet)) → path < n → packets_by path (arrivals_from stream n taken) ≡ []
below stream path n [] lt = refl
below stream path n (xs ∷ taken) lt =
    packets_by-append path (arrivals_by n (fitting stream xs)) (arrivals_from stream (suc n) taken)
    ∙ (ap (λ l. l ++ packets_by path (arrivals_from stream (suc n) taken)) (other_path n path (fitting stream xs) (λ e. absurd (omega (arith, e, lt))))
    ∙ below stream path (suc n) taken (omega (arith, lt)))

says_after : (stream : Stream) (n : ℕ) (before more : List Event) (taken : List (List Packet)) → ((other : ℕ) → n ≤ other → packets_by other before ≡ []) → Says stream n more taken → Says stream n (before ++ more) taken
says_after stream n before more [] none h = λ other le. packets_by-append other before more ∙ (ap (λ l. l ++ packets_by other more) (none other le) ∙ h other le)
says_after stream n before more (xs ∷ taken) none h = (
  packets_by-append n before more ∙ (ap (λ l. l ++ packets_by n more) (none n (omega arith)) ∙ h.0),
  says_after stream (suc n) before more taken (λ other le. none other (omega (arith, le))) h.1,
)

says : (stream : Stream) (n : ℕ) (taken : List (List Packet)) → Says stream n (arrivals_from stream n taken) taken
says stream n [] = λ other le. refl
says stream n (xs ∷ taken) = (
  packets_by-append n (arrivals_by n (fitting stream xs)) (arrivals_from stream (suc n) taken)
      ∙ (ap (λ l. packets_by n (arrivals_by n (fitting stream xs)) ++ l) (below stream n (suc n) taken (omega arith)) ∙ (append-nil (packets_by n (arrivals_by n (fitting stream xs))) ∙ same_path n (fitting stream xs))),
  says_after stream (suc n) (arrivals_by n (fitting stream xs)) (arrivals_from stream (suc n) taken) taken (λ other le. other_path n other (fitting stream xs) (λ e. absurd (omega (arith, e, le)))) (says stream (suc n) taken),
)

says_tick : (stream : Stream) (n : ℕ) (more : List Event) (u : ℤ) (taken : List (List Packet)) → Says stream n more taken → Says stream n (more ++ Tick u ∷ []) taken
says_tick stream n more u [] h = λ other le. packets_by-append other more (Tick u ∷ []) ∙ (append-nil (packets_by other more) ∙ h other le)
says_tick stream n more u (xs ∷ taken) h = (packets_by-append n more (Tick u ∷ []) ∙ (append-nil (packets_by n more) ∙ h.0), says_tick stream (suc n) more u taken h.1)

delivered-more : (stream : Stream) (n : ℕ) (olds news : List (TokenConsumer Packet)) (taken : List (List Packet)) (es more : List Event)
    → AllTakePackets olds news taken → AllDelivered stream n olds es → Says stream n more taken → AllDelivered stream n news (es ++ more)
delivered-more stream n [] [] [] es more t h s = λ other le. packets_by-append other es more ∙ (ap (λ l. l ++ packets_by other more) (h other le) ∙ s other le)
delivered-more stream n (old ∷ olds) (new ∷ news) (xs ∷ taken) es more t h s = (
  packets_by-append n es more ∙ (ap (λ l. l ++ packets_by n more) h.0 ∙ (ap (λ l. fitting stream (received old.ring) ++ l) s.0 ∙ (sym (fitting-append stream (received old.ring) xs) ∙ ap (fitting stream) (sym t.0.received_are)))),
  delivered-more stream (suc n) olds news taken es more t.1 h.1 s.1,
)
delivered-more stream n [] (new ∷ news) taken es more t h s = absurd t
delivered-more stream n [] [] (xs ∷ taken) es more t h s = absurd t
delivered-more stream n (old ∷ olds) [] taken es more t h s = absurd t
delivered-more stream n (old ∷ olds) (new ∷ news) [] es more t h s = absurd t

pub turned : (s t : StreamEnd) (now : ℤ) (note : TurnNote) (w : MergeState) (taken : List (List Packet)) (marks : ℕ)
    → AllTakePackets s.sides.items t.sides.items taken → ((path : ℕ) → get_or note.from path 0 ≡ length (get_or taken path []))
    → Joins s.merge w (λ stream. arrivals_from stream 0 taken) → PushesMarks s.marks w now t.marks t.merge marks → note.marks ≡ marks → marks ≤ 64
    → note.reached ≡ t.merge.time → StopsFor note.why_stopped t.merge.time now marks (known_free t.marks)
    → SameProducer s.monitor t.monitor → ShowsCounts s.monitor t.merge.counts t.monitor → t.spec ≡ s.spec
    → TakesTurn s now note t
turned s t now note w taken marks took from joined pushed count few reached stop monitor shows spec = record {
  taken = taken;
  took = took;
  from = from;
  marks = let e = ap length pushed.sent_are in let l = length-append (sent s.marks) pushed.more in let n = pushed.count_is in omega (arith, e, l, n, count);
  few = omega (arith, few, count);
  ring = pushed.ring;
  monitor = monitor;
  shows = shows;
  reached = reached;
  not_before = subst (λ v. s.merge.time ≤ℤ v) (sym reached) (subst (λ v. v ≤ℤ t.merge.time) joined.time pushed.later);
  not_after = subst (λ v. v ≤ℤ now) (sym reached) pushed.before;
  stop = subst (λ v. StopsFor note.why_stopped v now note.marks (known_free t.marks)) (sym reached) (subst (λ n. StopsFor note.why_stopped t.merge.time now n (known_free t.marks)) (sym count) stop);
  still_open = pushed.still_open;
  spec = spec;
  stands = λ stream open_at events h.
      let k = length (sent s.marks) in
      let arrived = arrivals_from stream 0 taken in
      let before : HasHistory stream open_at w (events ++ arrived) k = joined.stands stream open_at events k h.merge in
      let kept : marks_of stream open_at (events ++ arrived) ≡ marks_of stream open_at events = joined.kept stream open_at events k h.merge in
      let after = pushed.stands stream open_at (events ++ arrived) k h.some_frames before in
      let gained = pushed.marks stream open_at (events ++ arrived) k h.some_frames before in
      let whole : (events ++ arrived) ++ Tick t.merge.time ∷ [] ≡ events ++ (arrived ++ Tick note.reached ∷ []) = append_assoc events arrived (Tick t.merge.time ∷ []) ∙ ap (λ u. events ++ (arrived ++ Tick u ∷ [])) (sym reached) in
      let sent_len : length (sent t.marks) ≡ k + length pushed.more = ap length pushed.sent_are ∙ length-append (sent s.marks) pushed.more in
      let stands : HasHistory stream open_at t.merge (events ++ (arrived ++ Tick note.reached ∷ [])) (length (sent t.marks)) =
      subst (λ es. HasHistory stream open_at t.merge es (length (sent t.marks))) whole (subst (HasHistory stream open_at t.merge ((events ++ arrived) ++ Tick t.merge.time ∷ [])) (sym sent_len) after) in
      record {
        some_frames = h.some_frames;
        merge = stands;
        delivered = delivered-more stream 0 s.sides.items t.sides.items taken events (arrived ++ Tick note.reached ∷ []) took h.delivered (says_tick stream 0 arrived note.reached taken (says stream 0 taken));
        marks =
            let shut : is_closed (events ++ (arrived ++ Tick note.reached ∷ [])) ≡ false = sym stands.closed ∙ pushed.still_open in
            let all : length (sent t.marks) ≡ length (marks_of stream open_at (events ++ (arrived ++ Tick note.reached ∷ []))) = stands.all_given shut in
            let is : marks_of stream open_at (events ++ (arrived ++ Tick note.reached ∷ [])) ≡ marks_of stream open_at events ++ pushed.more =
            ap (marks_of stream open_at) (sym whole) ∙ (gained ∙ ap (λ l. l ++ pushed.more) kept) in
            let len : length (marks_of stream open_at (events ++ (arrived ++ Tick note.reached ∷ []))) ≡ length (marks_of stream open_at events) + length pushed.more = ap length is ∙ length-append (marks_of stream open_at events) pushed.more in
            let k_is : k ≡ length (marks_of stream open_at events) = omega (arith, all, len, sent_len) in
            let was : sent s.marks ≡ marks_of stream open_at events = h.marks ∙ (ap (λ n. take n (marks_of stream open_at events)) k_is ∙ take-length (marks_of stream open_at events)) in
            let now_is : sent t.marks ≡ marks_of stream open_at (events ++ (arrived ++ Tick note.reached ∷ [])) = pushed.sent_are ∙ (ap (λ l. l ++ pushed.more) was ∙ sym is) in
            now_is ∙ (sym (take-length (marks_of stream open_at (events ++ (arrived ++ Tick note.reached ∷ [])))) ∙ ap (λ n. take n (marks_of stream open_at (events ++ (arrived ++ Tick note.reached ∷ [])))) (sym all));
      };
}

-- marks that were pushed on the way to a time, for an equal time
pub at_now : {A P : Type 0} (c d : Rattle.rtrb.specs.declared.producer.Producer.Producer Rattle.rtp_stream.specs.MarkFacts.MarkView A P) (m w : MergeState) (now at : ℤ) (count : ℕ) → now ≡ at → PushesMarks c m now d w count → PushesMarks c m at d w count
at_now c d m w now at count e h = subst (λ t. PushesMarks c m t d w count) e h

pub stop_now : (why : Rattle.studio_ends.specs.declared.stream_end.marks_out.StopReason.StopReason) (reached now at : ℤ) (marks free : ℕ) → now ≡ at → StopsFor why reached now marks free → StopsFor why reached at marks free
stop_now why reached now at marks free e h = subst (λ t. StopsFor why reached t marks free) e h
