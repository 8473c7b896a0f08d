-- Pairs with a capture's next packet, and the skews of pairs.
use Rattle.std.proofs.Common.{◌≡◌, ◌+◌, ◌<◌, ◌≤◌, ℕ, List, [], ◌∷◌, ◌++◌, length, map, set, take, drop, get_or, min, Option, Some, None, IfSome, Result, Ok, Err, OnOk, refl, sym, ap, subst, ◌∙◌, append-nil, append_assoc, arith}
use Rattle.std.proofs.lemmas.List.{map-append, drop_all, take_more, take_more_set, take_min, length-set, drop-set-lt, drop-drop, get_or-drop}
use Rattle.std.proofs.Math.Seq.{take-length}
use Rattle.pcap_file.specs.declared.fault.CaptureFault.{CaptureFault}
use Rattle.pcap_file.specs.declared.decode.record_mark.RecordMark.{RecordMark}
use Rattle.pcap_file.specs.Entries.{Entry, entries_in}
use Rattle.pcap_file.specs.Packet.{PacketView}
use Rattle.pcap_file.specs.Capture.{Item, packets_of}
use Rattle.pcap_file.specs.Reader.{HasEntries, IsFaultBehind, packets_among}
use Rattle.pcap_file.proofs.ReaderEntryLemmas.{among_more}
use Rattle.pcap_flows.specs.declared.packet.FlowPacket.{FlowPacket}
use Rattle.pcap_flows.specs.declared.pair_times.FlowPair.{FlowPair}
use Rattle.pcap_flows.specs.declared.pair_times.PairTimes.{PairTimes}
use Rattle.pcap_flows.specs.declared.skew.Skew.{Skew}
use Rattle.pcap_flows.specs.PairTimes.{PairView, pair_begun, pair_view, pair_with}
use Rattle.pcap_flows.specs.Skew.{IsSkewOf}
use Rattle.pcap_flows.specs.CaptureSkews.{AppendsSkews, AreSkewsOf, pairs_after, pairs_with}

pub some_is : {X : Type 0} (o : Option X) (x : X) (P : X → Type 0) → o ≡ Some x → IfSome o P → P x
some_is o x P is p = subst (λ o. IfSome o P) is p

pub some_maps : {X : Type 0} (o : Option X) (P Q : X → Type 0) → ((x : X) → P x → Q x) → IfSome o P → IfSome o Q
some_maps None P Q f p = tt
some_maps (Some x) P Q f p = f x p

pub ok_then : {X E : Type 0} (r : Result X E) (P Q : Type 0) → (P → Q) → OnOk r P → OnOk r Q
ok_then (Ok x) P Q f p = f p
ok_then (Err e) P Q f p = tt

-- the packets of a capture, one after the other
pairs_more : (pairs : List PairView) (items : List Item) (item : Item) → pairs_after pairs (items ++ item ∷ []) ≡ pairs_with (pairs_after pairs items) item
unfolding pairs_after
pairs_more pairs [] item = refl
pairs_more pairs (next ∷ items) item = pairs_more (pairs_with pairs next) items item

-- no packet so far
pub seen_none : (pairs : List PairView) → pairs ≡ pairs_after pairs []
unfolding pairs_after
seen_none pairs = refl

seen_packet : (begun old new : List PairView) (packets : List PacketView) (packet : PacketView) → new ≡ pairs_with old (Ok packet) → old ≡ pairs_after begun (map Ok packets)
    → new ≡ pairs_after begun (map Ok (packets ++ packet ∷ []))
seen_packet begun old new packets packet is seen =
    is ∙ ap (λ (p : List PairView). pairs_with p (Ok packet)) seen ∙ sym (pairs_more begun (map Ok packets) (Ok packet)) ∙ ap (pairs_after begun) (sym (map-append Ok packets (packet ∷ [])))

-- the packet of a record or a block was added, if it has one
pub seen_part : (begun old new : List PairView) (entries : List Entry) (packet : PacketView) (tells : Option RecordMark) → new ≡ pairs_with old (Ok packet) → old ≡ pairs_after begun (map Ok (packets_among entries))
    → new ≡ pairs_after begun (map Ok (packets_among (entries ++ entries_in (Some packet) tells)))
seen_part begun old new entries packet tells is seen =
    seen_packet begun old new (packets_among entries) packet is seen ∙ ap (λ (l : List PacketView). pairs_after begun (map Ok l)) (sym (among_more entries (Some packet) tells))

pub seen_same : (begun pairs : List PairView) (entries : List Entry) (tells : Option RecordMark) → pairs ≡ pairs_after begun (map Ok (packets_among entries))
    → pairs ≡ pairs_after begun (map Ok (packets_among (entries ++ entries_in None tells)))
seen_same begun pairs entries tells seen =
    seen ∙ ap (λ (l : List PacketView). pairs_after begun (map Ok l)) (sym (append-nil (packets_among entries))) ∙ ap (λ (l : List PacketView). pairs_after begun (map Ok l)) (sym (among_more entries None tells))

-- the fault of a capture adds nothing
pub seen_fault : (file : List ℕ) (begun pairs : List PairView) (entries : List Entry) (fault : CaptureFault) → pairs ≡ pairs_after begun (map Ok (packets_among entries)) → IsFaultBehind file entries fault
    → pairs ≡ pairs_after begun (packets_of file)
seen_fault file begun pairs entries fault seen behind =
    seen ∙ sym (pairs_more begun (map Ok (packets_among entries)) (Err fault)) ∙ ap (pairs_after begun) (sym behind.packets)

pub seen_all : (file : List ℕ) (begun pairs : List PairView) (entries : List Entry) → pairs ≡ pairs_after begun (map Ok (packets_among entries)) → HasEntries file entries → pairs ≡ pairs_after begun (packets_of file)
seen_all file begun pairs entries seen whole = seen ∙ ap (pairs_after begun) (sym whole.packets)

-- a file whose header is at fault
pub seen_header : (file : List ℕ) (pairs : List PairView) (fault : CaptureFault) → packets_of file ≡ Err fault ∷ [] → pairs ≡ pairs_after pairs (packets_of file)
unfolding pairs_after
seen_header file pairs fault behind = ap (pairs_after pairs) (sym behind)

same_there : (xs ys : List PairTimes) (n : ℕ) (d : PairTimes) → drop n xs ≡ drop n ys → get_or xs n d ≡ get_or ys n d
same_there xs ys n d e =
    let z : n + 0 ≡ n = omega arith in
    ap (λ k. get_or xs k d) (sym z) ∙ (sym (get_or-drop n xs 0 d) ∙ (ap (λ l. get_or l 0 d) e ∙ (get_or-drop n ys 0 d ∙ ap (λ k. get_or ys k d) z)))

-- the pairs before a place have the packet, and those from it on are as they were
pub record AddsUpTo (begun now : List PairTimes) (packet : FlowPacket) (place : ℕ) : Type 0 where
  pub count : length now ≡ length begun
  pub left : drop place now ≡ drop place begun
  pub so_far : map pair_view (take place now) ≡ map (λ (p : PairView). pair_with p packet) (map pair_view (take place begun))

pub adds_none : (begun : List PairTimes) (packet : FlowPacket) → AddsUpTo begun begun packet 0
adds_none begun packet = record { count = refl; left = refl; so_far = refl }

pub adds_more : (begun now : List PairTimes) (packet : FlowPacket) (place : ℕ) (old new : PairTimes) → place < length begun → old ≡ get_or now place old → pair_view new ≡ pair_with (pair_view old) packet
    → AddsUpTo begun now packet place → AddsUpTo begun (set now place new) packet (place + 1)
adds_more begun now packet place old new lt is added h = record {
  count = length-set now place new ∙ h.count;
  left = drop-set-lt (place + 1) now place new (omega arith) ∙ (sym (drop-drop 1 place now) ∙ (ap (drop 1) h.left ∙ drop-drop 1 place begun));
  so_far =
      let step : PairView → PairView = λ p. pair_with p packet in
      let one : take (place + 1) begun ≡ take place begun ++ old ∷ [] = take_more begun place old lt ∙ ap (λ (t : PairTimes). take place begun ++ t ∷ []) (sym (is ∙ same_there now begun place old h.left)) in
      ap (map pair_view) (take_more_set now place new (let r = h.count in omega (arith, lt, r)))
      ∙ map-append pair_view (take place now) (new ∷ [])
      ∙ ap (λ (l : List PairView). l ++ pair_view new ∷ []) h.so_far
      ∙ ap (λ (v : PairView). map step (map pair_view (take place begun)) ++ v ∷ []) added
      ∙ sym (map-append step (map pair_view (take place begun)) (pair_view old ∷ []))
      ∙ ap (map step) (sym (map-append pair_view (take place begun) (old ∷ [])))
      ∙ ap (λ (l : List PairTimes). map step (map pair_view l)) (sym one);
}

pub adds_all : (begun now : List PairTimes) (packet : FlowPacket) (place : ℕ) → place ≡ length begun → AddsUpTo begun now packet place → map pair_view now ≡ map (λ (p : PairView). pair_with p packet) (map pair_view begun)
adds_all begun now packet place is h =
    let a : take place begun ≡ begun = ap (λ k. take k begun) is ∙ take-length begun in
    let b : take place now ≡ now = ap (λ k. take k now) (is ∙ sym h.count) ∙ take-length now in
    ap (map pair_view) (sym b) ∙ h.so_far ∙ ap (λ (l : List PairTimes). map (λ (p : PairView). pair_with p packet) (map pair_view l)) a

skews_snoc : (pairs : List PairView) (skews : List (Option Skew)) (pair : PairView) (skew : Option Skew) → AreSkewsOf pairs skews → IsSkewOf pair.delays pair.others skew → AreSkewsOf (pairs ++ pair ∷ []) (skews ++ skew ∷ [])
skews_snoc [] [] pair skew h is = (is, tt)
skews_snoc [] (s ∷ skews) pair skew h is = absurd h
skews_snoc (p ∷ pairs) [] pair skew h is = absurd h
skews_snoc (p ∷ pairs) (s ∷ skews) pair skew h is = (h.0, skews_snoc pairs skews pair skew h.1 is)

-- the skews of the pairs before a place were appended, and those from it on are as they were
pub record TakesUpTo (begun now : List PairTimes) (old new : List (Option Skew)) (place : ℕ) : Type 0 where
  pub count : length now ≡ length begun
  pub left : drop place now ≡ drop place begun
  pub skews : List (Option Skew)
  pub appended : new ≡ old ++ skews
  pub are : AreSkewsOf (map pair_view (take place begun)) skews

pub takes_none : (begun : List PairTimes) (old : List (Option Skew)) → TakesUpTo begun begun old old 0
takes_none begun old = record { count = refl; left = refl; skews = []; appended = sym (append-nil old); are = tt }

pub takes_more : (begun now : List PairTimes) (old new longer : List (Option Skew)) (place : ℕ) (before after : PairTimes) (skew : Option Skew) → place < length begun → before ≡ get_or now place before
    → IsSkewOf before.delays.items before.others skew → longer ≡ new ++ skew ∷ [] → TakesUpTo begun now old new place → TakesUpTo begun (set now place after) old longer (place + 1)
takes_more begun now old new longer place before after skew lt at is more h = record {
  count = length-set now place after ∙ h.count;
  left = drop-set-lt (place + 1) now place after (omega arith) ∙ (sym (drop-drop 1 place now) ∙ (ap (drop 1) h.left ∙ drop-drop 1 place begun));
  skews = h.skews ++ skew ∷ [];
  appended = more ∙ ap (λ (l : List (Option Skew)). l ++ skew ∷ []) h.appended ∙ append_assoc old h.skews (skew ∷ []);
  are =
      let one : take (place + 1) begun ≡ take place begun ++ before ∷ [] = take_more begun place before lt ∙ ap (λ (t : PairTimes). take place begun ++ t ∷ []) (sym (at ∙ same_there now begun place before h.left)) in
      subst (λ (l : List PairView). AreSkewsOf l (h.skews ++ skew ∷ [])) (sym (ap (map pair_view) one ∙ map-append pair_view (take place begun) (before ∷ [])))
      (skews_snoc (map pair_view (take place begun)) h.skews (pair_view before) skew h.are is);
}

pub takes_all : (begun now : List PairTimes) (old new : List (Option Skew)) (place : ℕ) → place ≡ length begun → TakesUpTo begun now old new place → AppendsSkews (map pair_view begun) old new
takes_all begun now old new place is h = record {
  skews = h.skews;
  appended = h.appended;
  are = subst (λ (l : List PairTimes). AreSkewsOf (map pair_view l) h.skews) (ap (λ k. take k begun) is ∙ take-length begun) h.are;
}

-- there is no pair from a place behind all on
pub none_from : (pairs : List FlowPair) (place : ℕ) → length pairs ≤ place → [] ≡ drop place pairs
none_from pairs place le = sym (drop_all place pairs le)

-- pairs before their first packets, one more
pub begun_more : (pairs : List FlowPair) (times longer : List PairTimes) (place : ℕ) (pair : FlowPair) (new : PairTimes) → place < length pairs → pair ≡ get_or pairs place pair → pair_view new ≡ pair_begun pair
    → longer ≡ times ++ new ∷ [] → map pair_view times ≡ map pair_begun (take place pairs) → map pair_view longer ≡ map pair_begun (take (place + 1) pairs)
begun_more pairs times longer place pair new lt is begins more h =
    ap (map pair_view) more
    ∙ map-append pair_view times (new ∷ [])
    ∙ ap (λ (l : List PairView). l ++ pair_view new ∷ []) h
    ∙ ap (λ (v : PairView). map pair_begun (take place pairs) ++ v ∷ []) begins
    ∙ sym (map-append pair_begun (take place pairs) (pair ∷ []))
    ∙ ap (map pair_begun) (ap (λ (p : FlowPair). take place pairs ++ p ∷ []) is ∙ sym (take_more pairs place pair lt))

pub begun_all : (pairs : List FlowPair) (views : List PairView) (place : ℕ) → place ≡ min (length pairs) 16 → views ≡ map pair_begun (take place pairs) → views ≡ map pair_begun (take 16 pairs)
begun_all pairs views place is h =
    let swap : min (length pairs) 16 ≡ min 16 (length pairs) = omega arith in
    h ∙ ap (λ (n : ℕ). map pair_begun (take n pairs)) (is ∙ swap) ∙ ap (map pair_begun) (take_min 16 pairs)

-- the next pairs were measured over a capture
pub measured : (file : List ℕ) (pairs next views : List PairView) (old new : List (Option Skew)) → pairs ≡ next → views ≡ pairs_after pairs (packets_of file) → AppendsSkews views old new
    → AppendsSkews (pairs_after next (packets_of file)) old new
measured file pairs next views old new are is appends = subst (λ (l : List PairView). AppendsSkews l old new) (is ∙ ap (λ (l : List PairView). pairs_after l (packets_of file)) are) appends
