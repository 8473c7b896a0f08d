-- The parts of a turn, after one more step.
use Rattle.std.proofs.Common.{◌≡◌, ◌≢◌, ℕ, zero, suc, take, drop, get_or, set, inl, inr, ◌+◌, ◌≤◌, ◌<◌, List, [], ◌∷◌, ◌++◌, length, ℤ, refl, sym, ap, subst, ◌∙◌, arith, append_assoc, append-nil, length-append}
use Rattle.std.proofs.lemmas.Bool.{cases_eq}
use Rattle.std.proofs.lemmas.List.{take_more, take_more_set, drop-set-lt, drop-drop, get_or-drop, get_or-set_same, get_or-set_other}
use Rattle.rtrb.specs.Ring.{received, known_items, ConsumerLooked, SameConsumer, SameProducer}
use mathlib.Core.List.{IsPrefix}
use Rattle.rtrb.specs.declared.consumer.Consumer.{Consumer}
use Rattle.rtrb.specs.declared.producer.Producer.{Producer}
use Rattle.rtp_stream.specs.declared.stream_spec.Stream.{Stream}
use Rattle.rtp_stream.specs.StreamSpec.{Fits}
use Rattle.rtp_stream.specs.Marks.{marks_of}
use Rattle.path_merge.specs.MergeState.{MergeState}
use Rattle.path_merge.specs.Merge.{HasHistory}
use Rattle.path_merge.specs.Steps.{Offers}
use Rattle.rtp_stream.specs.declared.packet.Packet.{Packet}
use Rattle.rtp_stream.specs.declared.fate.Fate.{Fate}
use Rattle.rtp_stream.specs.declared.event.Event.{Event}
use Rattle.rtp_stream.specs.declared.event.Event.TheVariants.{Arrive}
use Rattle.studio_ends.specs.declared.rings.TokenConsumer.{TokenConsumer}
use Rattle.studio_ends.specs.Fitting.{fitting}
use Rattle.studio_ends.specs.StreamTurns.{AllTakePackets, Joins, TakesPackets, TakesSoFar, arrivals_by, arrivals_from}
use Rattle.studio_ends.proofs.FittingLemmas.{fitting-append, fitting-none, fitting-one}

pub arrivals_by-append : (path : ℕ) (xs ys : List Packet) → arrivals_by path (xs ++ ys) ≡ arrivals_by path xs ++ arrivals_by path ys
arrivals_by-append path [] ys = refl
arrivals_by-append path (x ∷ xs) ys = ap (λ l. Arrive path x ∷ l) (arrivals_by-append path xs ys)

-- a merge that took no events, and one that took some and then more
pub joined-none : (m : MergeState) → Joins m m (λ stream. [])
joined-none m = record {
  spec = refl;
  time = refl;
  closed = refl;
  stands = λ stream open_at events k h. subst (λ es. HasHistory stream open_at m es k) (sym (append-nil events)) h;
  kept = λ stream open_at events k h. ap (marks_of stream open_at) (append-nil events);
}

pub joined-trans : (m w v : MergeState) (f g h : Stream → List Event) → ((stream : Stream) → h stream ≡ f stream ++ g stream) → Joins m w f → Joins w v g → Joins m v h
joined-trans m w v f g h both a b = record {
  spec = b.spec ∙ a.spec;
  time = b.time ∙ a.time;
  closed = b.closed ∙ a.closed;
  stands = λ stream open_at events k s.
      subst (λ es. HasHistory stream open_at v es k) (append_assoc events (f stream) (g stream) ∙ ap (λ l. events ++ l) (sym (both stream)))
      (b.stands stream open_at (events ++ f stream) k (a.stands stream open_at events k s));
  kept = λ stream open_at events k s.
      ap (marks_of stream open_at) (ap (λ l. events ++ l) (both stream) ∙ sym (append_assoc events (f stream) (g stream)))
      ∙ (b.kept stream open_at (events ++ f stream) k (a.stands stream open_at events k s) ∙ a.kept stream open_at events k s);
}

-- a merge that was offered a packet of the stream's length, and one that was not because of its length
pub joined-offer : (m w : MergeState) (path : ℕ) (packet : Packet) (answer : Fate) → Fits m.spec packet
    → ((stream : Stream) (open_at : ℤ) (events : List Event) (k : ℕ) → HasHistory stream open_at m events k → Offers stream open_at w events k path packet answer)
    → w.spec ≡ m.spec → w.time ≡ m.time → w.closed ≡ m.closed
    → Joins m w (λ stream. arrivals_by path (fitting stream (packet ∷ [])))
joined-offer m w path packet answer fits offers spec time closed = record {
  spec = spec;
  time = time;
  closed = closed;
  stands = λ stream open_at events k h. subst (λ l. HasHistory stream open_at w (events ++ arrivals_by path l) k) (sym (one stream h.spec)) (offers stream open_at events k h).stands;
  kept = λ stream open_at events k h. ap (λ l. marks_of stream open_at (events ++ arrivals_by path l)) (one stream h.spec) ∙ (offers stream open_at events k h).kept;
}
  where
    one : (stream : Stream) → m.spec ≡ stream → fitting stream (packet ∷ []) ≡ packet ∷ []
    one stream e = fitting-one stream packet (subst (λ (s : Stream). Fits s packet) e fits)

pub joined-not : (m : MergeState) (path : ℕ) (packet : Packet) → (Fits m.spec packet → ⊥)
    → Joins m m (λ stream. arrivals_by path (fitting stream (packet ∷ [])))
joined-not m path packet not_fits = record {
  spec = refl;
  time = refl;
  closed = refl;
  stands = λ stream open_at events k h. subst (λ l. HasHistory stream open_at m (events ++ arrivals_by path l) k) (sym (none stream h.spec)) (subst (λ es. HasHistory stream open_at m es k) (sym (append-nil events)) h);
  kept = λ stream open_at events k h. ap (λ l. marks_of stream open_at (events ++ arrivals_by path l)) (none stream h.spec) ∙ ap (marks_of stream open_at) (append-nil events);
}
  where
    none : (stream : Stream) → m.spec ≡ stream → fitting stream (packet ∷ []) ≡ []
    none stream e = fitting-none stream packet (subst (λ (s : Stream). Fits s packet → ⊥) e not_fits)

pub consumers : {T A P : Type 0} (c d e : Consumer T A P) → SameConsumer c d → SameConsumer d e → SameConsumer c e
consumers c d e f g = ((g.0.0 ∙ f.0.0, g.0.1 ∙ f.0.1, g.0.2 ∙ f.0.2, g.0.3 ∙ f.0.3), g.1 ∙ f.1)

pub producers : {T A P : Type 0} (c d e : Producer T A P) → SameProducer c d → SameProducer d e → SameProducer c e
producers c d e f g = ((g.0.0 ∙ f.0.0, g.0.1 ∙ f.0.1, g.0.2 ∙ f.0.2, g.0.3 ∙ f.0.3), g.1 ∙ f.1)

-- an item that was looked at, and then passed
pub looked_and_passed : {T A P : Type 0} (c d e : Consumer T A P) (x : T) → ConsumerLooked c d → SameConsumer d e
    → (received e ≡ received d ++ x ∷ []) × (known_items d ≡ x ∷ known_items e)
    → SameConsumer c e × (received e ≡ received c ++ x ∷ []) × IsPrefix (known_items c) (x ∷ known_items e)
looked_and_passed c d e x look same pass =
    (consumers c d e look.0 same, pass.0 ∙ ap (λ l. l ++ x ∷ []) look.1, subst (IsPrefix (known_items c)) pass.1 look.2)

-- one more packet was taken from a ring
pub prefix_short : {X : Type 0} (xs ys : List X) → IsPrefix xs ys → length xs ≤ length ys
prefix_short xs ys (more, is) = let e = ap length is in omega (arith, e, length-append xs more)

pub took-none : (s : TokenConsumer Packet) → TakesSoFar s s []
took-none s = record { ring = ((refl, refl, refl, refl), refl); done = refl; received_are = sym (append-nil (received s.ring)); left = omega arith }

pub took-more : (s t u : TokenConsumer Packet) (xs : List Packet) (x : Packet) → TakesSoFar s t xs → SameConsumer t.ring u.ring → u.done ≡ t.done
    → received u.ring ≡ received t.ring ++ x ∷ [] → IsPrefix (known_items t.ring) (x ∷ known_items u.ring) → TakesSoFar s u (xs ++ x ∷ [])
took-more s t u xs x h ring done got known = record {
  ring = consumers s.ring t.ring u.ring h.ring ring;
  done = done ∙ h.done;
  received_are = got ∙ (ap (λ l. l ++ x ∷ []) h.received_are ∙ append_assoc (received s.ring) xs (x ∷ []));
  left = let k = prefix_short (known_items t.ring) (x ∷ known_items u.ring) known in omega (arith, h.left, k, length-append xs (x ∷ []));
}

pub joined-more : (m w v : MergeState) (path : ℕ) (xs : List Packet) (x : Packet)
    → Joins m w (λ stream. arrivals_by path (fitting stream xs)) → Joins w v (λ stream. arrivals_by path (fitting stream (x ∷ [])))
    → Joins m v (λ stream. arrivals_by path (fitting stream (xs ++ x ∷ [])))
joined-more m w v path xs x a b = joined-trans m w v (λ stream. arrivals_by path (fitting stream xs)) (λ stream. arrivals_by path (fitting stream (x ∷ []))) (λ stream. arrivals_by path (fitting stream (xs ++ x ∷ [])))
    (λ stream. ap (arrivals_by path) (fitting-append stream xs (x ∷ [])) ∙ arrivals_by-append path (fitting stream xs) (fitting stream (x ∷ []))) a b

-- the arrivals of one more path
pub arrivals_from-snoc : (stream : Stream) (path : ℕ) (taken : List (List Packet)) (xs : List Packet)
    → arrivals_from stream path (taken ++ xs ∷ []) ≡ arrivals_from stream path taken ++ arrivals_by (path + length taken) (fitting stream xs)
arrivals_from-snoc stream path [] xs =
    let e : path + 0 ≡ path = omega arith in
    append-nil (arrivals_by path (fitting stream xs)) ∙ ap (λ n. arrivals_by n (fitting stream xs)) (sym e)
arrivals_from-snoc stream path (ys ∷ taken) xs =
    let e : suc path + length taken ≡ path + suc (length taken) = omega arith in
    ap (λ l. arrivals_by path (fitting stream ys) ++ l) (arrivals_from-snoc stream (suc path) taken xs ∙ ap (λ n. arrivals_from stream (suc path) taken ++ arrivals_by n (fitting stream xs)) e)
    ∙ sym (append_assoc (arrivals_by path (fitting stream ys)) (arrivals_from stream (suc path) taken) (arrivals_by (path + suc (length taken)) (fitting stream xs)))

pub all_took-snoc : (olds news : List (TokenConsumer Packet)) (taken : List (List Packet)) (old new : TokenConsumer Packet) (xs : List Packet)
    → AllTakePackets olds news taken → TakesPackets old new xs → AllTakePackets (olds ++ old ∷ []) (news ++ new ∷ []) (taken ++ xs ∷ [])
all_took-snoc [] [] [] old new xs h t = (t, tt)
all_took-snoc (o ∷ os) (n ∷ ns) (ys ∷ yss) old new xs h t = (h.0, all_took-snoc os ns yss old new xs h.1 t)
all_took-snoc [] (n ∷ ns) yss old new xs h t = absurd h
all_took-snoc [] [] (ys ∷ yss) old new xs h t = absurd h
all_took-snoc (o ∷ os) [] yss old new xs h t = absurd h
all_took-snoc (o ∷ os) (n ∷ ns) [] old new xs h t = absurd h

pub joined-path : (m w v : MergeState) (number : ℕ) (taken : List (List Packet)) (xs : List Packet) → length taken ≡ number
    → Joins m w (λ stream. arrivals_from stream 0 taken) → Joins w v (λ stream. arrivals_by number (fitting stream xs))
    → Joins m v (λ stream. arrivals_from stream 0 (taken ++ xs ∷ []))
joined-path m w v number taken xs e a b = joined-trans m w v (λ stream. arrivals_from stream 0 taken) (λ stream. arrivals_by number (fitting stream xs)) (λ stream. arrivals_from stream 0 (taken ++ xs ∷ []))
    (λ stream. arrivals_from-snoc stream 0 taken xs ∙ ap (λ n. arrivals_from stream 0 taken ++ arrivals_by n (fitting stream xs)) (let z : 0 + length taken ≡ length taken = omega arith in z ∙ e)) a b

same_there : (xs ys : List (TokenConsumer Packet)) (n : ℕ) (d : TokenConsumer Packet) → drop n xs ≡ drop n ys → get_or xs n d ≡ get_or ys n d
same_there xs ys n d e =
    let z : n + 0 ≡ n = omega arith in
    ap (λ k. get_or xs k d) (sym z) ∙ (sym (get_or-drop n xs 0 d) ∙ (ap (λ l. get_or l 0 d) e ∙ (get_or-drop n ys 0 d ∙ ap (λ k. get_or ys k d) z)))

pub all_took-more : (initial items : List (TokenConsumer Packet)) (n : ℕ) (old new : TokenConsumer Packet) (taken : List (List Packet)) (xs : List Packet)
    → n < length initial → length items ≡ length initial → drop n items ≡ drop n initial → old ≡ get_or items n old
    → AllTakePackets (take n initial) (take n items) taken → TakesPackets old new xs
    → AllTakePackets (take (n + 1) initial) (take (n + 1) (set items n new)) (taken ++ xs ∷ [])
all_took-more initial items n old new taken xs lt len same is all one =
    let e : take (n + 1) initial ≡ take n initial ++ old ∷ [] = take_more initial n old lt ∙ ap (λ (s : TokenConsumer Packet). take n initial ++ s ∷ []) (sym (is ∙ same_there items initial n old same)) in
    let f : take (n + 1) (set items n new) ≡ take n items ++ new ∷ [] = take_more_set items n new (omega (arith, lt, len)) in
    rw (e, f) (all_took-snoc (take n initial) (take n items) taken old new xs all one)

pub later_same : (initial items : List (TokenConsumer Packet)) (n : ℕ) (new : TokenConsumer Packet) → drop n items ≡ drop n initial → drop (n + 1) (set items n new) ≡ drop (n + 1) initial
later_same initial items n new same = drop-set-lt (n + 1) items n new (omega arith) ∙ (sym (drop-drop 1 n items) ∙ (ap (drop 1) same ∙ drop-drop 1 n initial))

-- the numbers of packets that were taken from each path
at_snoc : (taken : List (List Packet)) (xs : List Packet) → get_or (taken ++ xs ∷ []) (length taken) [] ≡ xs
at_snoc [] xs = refl
at_snoc (ys ∷ taken) xs = at_snoc taken xs

off_snoc : (taken : List (List Packet)) (xs : List Packet) (i : ℕ) → i ≢ length taken → get_or (taken ++ xs ∷ []) i [] ≡ get_or taken i []
off_snoc [] xs zero ne = absurd (ne refl)
off_snoc [] xs (suc i) ne = refl
off_snoc (ys ∷ taken) xs zero ne = refl
off_snoc (ys ∷ taken) xs (suc i) ne = off_snoc taken xs i (λ e. ne (ap suc e))

pub counts_more : (from : List ℕ) (taken : List (List Packet)) (xs : List Packet) (n count : ℕ) → length from ≡ 4 → n < 4 → length taken ≡ n → length xs ≡ count
    → ((i : ℕ) → get_or from i 0 ≡ length (get_or taken i [])) → (i : ℕ) → get_or (set from n count) i 0 ≡ length (get_or (taken ++ xs ∷ []) i [])
counts_more from taken xs n count four lt len same all i = elim (cases_eq i n) [
  | inl e ↦ ap (λ k. get_or (set from n count) k 0) e ∙ (get_or-set_same from n count 0 (omega (arith, lt, four)) ∙ (sym same ∙ ap length (sym (ap (λ k. get_or (taken ++ xs ∷ []) k []) (e ∙ sym len) ∙ at_snoc taken xs))))
  | inr ne ↦ get_or-set_other from n i count 0 ne ∙ (all i ∙ ap length (sym (off_snoc taken xs i (λ e. ne (e ∙ len)))))
]
