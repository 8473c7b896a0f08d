-- A whole record is read back as it was written.
use Rattle.std.proofs.Common.{◌≡◌, ◌<◌, ◌≤◌, ◌+◌, ◌^◌, ℕ, zero, suc, true, List, [], ◌∷◌, ◌++◌, length, slice_get, nat_le, Some, None, Ok, refl, sym, ap, ◌∙◌, arith, append_assoc, append-nil, length-append}
use Rattle.std.specs.List.{All}
use Rattle.std.proofs.lemmas.Bool.Decides.{nat_tests}
use Rattle.pcap_file.specs.declared.cursor.Format.TheVariants as format
use Rattle.pcap_file.specs.declared.decode.interface.Interface.{Interface}
use Rattle.pcap_file.specs.declared.decode.record_mark.RecordMark.TheVariants.{Opened, Closed}
use Rattle.pcap_file.specs.declared.decode.endian.Endian.TheVariants.{Big, Little}
use Rattle.pcap_file.specs.Octets.{number_at}
use Rattle.pcap_file.specs.Section.{is_section_header, no_section}
use Rattle.pcap_file.specs.Capture.{Item, is_pcapng, packets_from, packets_of, packets_past}
use Rattle.pcap_file.specs.Entries.{Mark, Packet, entries_from, entries_of, entries_past}
use Rattle.pcap_file.specs.RecordedDatagram.{ArrivalView}
use Rattle.pcap_file.specs.Blocks.{block_octets, closing_block, datagram_block, gains_interface_block, interface_block, section_block, section_body}
use Rattle.pcap_file.specs.WrittenRecord.{IsArrival, IsPath, PathView, closed_gains_record, closed_record, datagram_blocks, interface_blocks, items_of, open_gains_record, open_record, packet_entries, packet_of}
use Rattle.pcap_file.proofs.ClosingLemmas.{tells_closing}
use Rattle.pcap_file.proofs.DatagramLemmas.{tells_datagram}
use Rattle.pcap_file.proofs.WriteInterfaceLemmas.{raw, tells_gains, tells_interface}
use Rattle.pcap_file.proofs.OpeningLemmas.{tells_opening, whole_opening}
use Rattle.pcap_file.proofs.WholeLemmas.{at, told_entries, told_packet}

-- this many interfaces
raws : ℕ → List Interface
raws zero = []
raws (suc n) = raw ∷ raws n

more_raws : (n : ℕ) → raws n ++ raw ∷ [] ≡ raws (suc n)
unfolding raws
more_raws zero = refl
more_raws (suc n) = ap (λ l. raw ∷ l) (more_raws n)

count_raws : (n : ℕ) → length (raws n) ≡ n
unfolding raws
count_raws zero = refl
count_raws (suc n) = omega (arith, count_raws n)

raw_at : (n i : ℕ) → i < n → slice_get (raws n) i ≡ Some raw
unfolding raws
raw_at zero i h = absurd (omega arith)
raw_at (suc n) zero h = refl
raw_at (suc n) (suc i) h = raw_at n i (omega (arith, h))

-- what holds of all elements holds of the first and of the others
of_first : {X : Type 0} (P : X → Type 0) (x : X) (xs : List X) → All P (x ∷ xs) → P x
of_first P x xs every = every 0 x (omega arith)

of_others : {X : Type 0} (P : X → Type 0) (x : X) (xs : List X) → All P (x ∷ xs) → All P xs
of_others P x xs every = λ k d h. every (suc k) d (omega (arith, h))

-- the entries behind the interfaces
interfaces_packets : (paths : List PathView) (n : ℕ) (place : ℕ) (rest : List ℕ) (items : List Item) → All IsPath paths → n + length paths ≤ 64
    → ((place : ℕ) → packets_from (at (raws (n + length paths))) place rest ≡ items)
    → packets_from (at (raws n)) place (interface_blocks paths ++ rest) ≡ items
interfaces_packets [] n place rest items paths few then = ap (λ k. packets_from (at (raws k)) place rest) (omega arith) ∙ then place
interfaces_packets (path ∷ paths) n place rest items every few then =
    let is : IsPath path = of_first IsPath path paths every in
    let all : All IsPath paths = of_others IsPath path paths every in
    let block : List ℕ = interface_block path.stream path.letter path.description in
    let size = count_raws n in
    ap (packets_from (at (raws n)) place) (append_assoc block (interface_blocks paths) rest)
    ∙ told_packet Little (raws n) (raws n ++ raw ∷ []) block (interface_blocks paths ++ rest) None None place (tells_interface (raws n) path is (omega (arith, size, few)))
    ∙ ap (λ l. packets_from (at l) (place + length block) (interface_blocks paths ++ rest)) (more_raws n)
    ∙ interfaces_packets paths (suc n) (place + length block) rest items all (omega (arith, few))
    (λ p. ap (λ k. packets_from (at (raws k)) p rest) (omega arith) ∙ then p)

interfaces_entries : (paths : List PathView) (n : ℕ) (rest : List ℕ) → All IsPath paths → n + length paths ≤ 64
    → entries_from (at (raws n)) (interface_blocks paths ++ rest) ≡ entries_from (at (raws (n + length paths))) rest
interfaces_entries [] n rest paths few = ap (λ k. entries_from (at (raws k)) rest) (omega arith)
interfaces_entries (path ∷ paths) n rest every few =
    let is : IsPath path = of_first IsPath path paths every in
    let all : All IsPath paths = of_others IsPath path paths every in
    let block : List ℕ = interface_block path.stream path.letter path.description in
    let size = count_raws n in
    ap (entries_from (at (raws n))) (append_assoc block (interface_blocks paths) rest)
    ∙ told_entries Little (raws n) (raws n ++ raw ∷ []) block (interface_blocks paths ++ rest) None None (tells_interface (raws n) path is (omega (arith, size, few)))
    ∙ ap (λ l. entries_from (at l) (interface_blocks paths ++ rest)) (more_raws n)
    ∙ interfaces_entries paths (suc n) rest all (omega (arith, few))
    ∙ ap (λ k. entries_from (at (raws k)) rest) (omega arith)

-- the packets of datagrams, and what is behind them
datagrams_packets : (arrivals : List ArrivalView) (n : ℕ) (place : ℕ) (rest : List ℕ) (items : List Item) → All (IsArrival n) arrivals → n ≤ 65
    → ((place : ℕ) → packets_from (at (raws n)) place rest ≡ items)
    → packets_from (at (raws n)) place (datagram_blocks arrivals ++ rest) ≡ items_of arrivals ++ items
datagrams_packets [] n place rest items all few then = then place
datagrams_packets (a ∷ arrivals) n place rest items every few then =
    let is : IsArrival n a = of_first (IsArrival n) a arrivals every in
    let all : All (IsArrival n) arrivals = of_others (IsArrival n) a arrivals every in
    let block : List ℕ = datagram_block a in
    ap (packets_from (at (raws n)) place) (append_assoc block (datagram_blocks arrivals) rest)
    ∙ told_packet Little (raws n) (raws n) block (datagram_blocks arrivals ++ rest) (Some (packet_of a)) None place (tells_datagram (raws n) n a is few (raw_at n a.interface is.interface))
    ∙ ap (λ l. Ok (packet_of a) ∷ l) (datagrams_packets arrivals n (place + length block) rest items all few then)

datagrams_entries : (arrivals : List ArrivalView) (n : ℕ) (rest : List ℕ) → All (IsArrival n) arrivals → n ≤ 65
    → entries_from (at (raws n)) (datagram_blocks arrivals ++ rest) ≡ packet_entries arrivals ++ entries_from (at (raws n)) rest
datagrams_entries [] n rest all few = refl
datagrams_entries (a ∷ arrivals) n rest every few =
    let is : IsArrival n a = of_first (IsArrival n) a arrivals every in
    let all : All (IsArrival n) arrivals = of_others (IsArrival n) a arrivals every in
    let block : List ℕ = datagram_block a in
    ap (entries_from (at (raws n))) (append_assoc block (datagram_blocks arrivals) rest)
    ∙ told_entries Little (raws n) (raws n) block (datagram_blocks arrivals ++ rest) (Some (packet_of a)) None (tells_datagram (raws n) n a is few (raw_at n a.interface is.interface))
    ∙ ap (λ l. Packet (packet_of a) ∷ l) (datagrams_entries arrivals n rest all few)

-- the first block shows the format
begins_ours : (n : ℕ) (rest : List ℕ) → is_section_header (section_block n ++ rest) ≡ true
unfolding number_at section_block block_octets section_body
begins_ours n rest = refl

is_ours : (n : ℕ) (rest : List ℕ) → n < 2 ^ 63 → is_pcapng (section_block n ++ rest) ≡ true
is_ours n rest small =
    let whole = whole_opening n small in
    let more = length-append (section_block n) rest in
    let size : 4 ≤ length (section_block n ++ rest) = omega (arith, whole.long, more) in
    let long : nat_le 4 (length (section_block n ++ rest)) ≡ true = grind (arith, nat_tests, size) in
    rw (long, begins_ours n rest) refl

packets_ours : (n : ℕ) (rest : List ℕ) → n < 2 ^ 63 → packets_of (section_block n ++ rest) ≡ packets_from (record { format = format.Pcapng; section = no_section }) 0 (section_block n ++ rest)
unfolding packets_of
packets_ours n rest small = rw (is_ours n rest small) refl

entries_ours : (n : ℕ) (rest : List ℕ) → n < 2 ^ 63 → entries_of (section_block n ++ rest) ≡ entries_from (record { format = format.Pcapng; section = no_section }) (section_block n ++ rest)
unfolding entries_of
entries_ours n rest small = rw (is_ours n rest small) refl

-- the packets behind the section header
opened_packets : (n : ℕ) (rest : List ℕ) (items : List Item) → n < 2 ^ 63 → ((place : ℕ) → packets_from (at []) place rest ≡ items) → packets_of (section_block n ++ rest) ≡ items
opened_packets n rest items small then =
    packets_ours n rest small ∙ told_packet Big [] [] (section_block n) rest None (Some (Opened n)) 0 (tells_opening Big [] n small) ∙ then (0 + length (section_block n))

opened_entries : (n : ℕ) (rest : List ℕ) → n < 2 ^ 63 → entries_of (section_block n ++ rest) ≡ Mark (Opened n) ∷ entries_from (at []) rest
opened_entries n rest small = entries_ours n rest small ∙ told_entries Big [] [] (section_block n) rest None (Some (Opened n)) (tells_opening Big [] n small)

-- a record with something behind it
in_turn : (s i d rest : List ℕ) → s ++ i ++ d ++ rest ≡ s ++ (i ++ (d ++ rest))
in_turn s i d rest = append_assoc (s ++ i) d rest ∙ append_assoc s i (d ++ rest)

record_packets : (n : ℕ) (paths : List PathView) (arrivals : List ArrivalView) (rest : List ℕ) (items : List Item) → n < 2 ^ 63 → All IsPath paths → length paths ≤ 64
    → All (IsArrival (length paths)) arrivals → ((place : ℕ) → packets_from (at (raws (length paths))) place rest ≡ items)
    → packets_of (open_record n paths arrivals ++ rest) ≡ items_of arrivals ++ items
unfolding raws
record_packets n paths arrivals rest items small named few all then =
    ap packets_of (in_turn (section_block n) (interface_blocks paths) (datagram_blocks arrivals) rest)
    ∙ opened_packets n (interface_blocks paths ++ (datagram_blocks arrivals ++ rest)) (items_of arrivals ++ items) small
    (λ place. interfaces_packets paths 0 place (datagram_blocks arrivals ++ rest) (items_of arrivals ++ items) named (omega (arith, few))
    (λ p. ap (λ k. packets_from (at (raws k)) p (datagram_blocks arrivals ++ rest)) (omega arith) ∙ datagrams_packets arrivals (length paths) p rest items all (omega (arith, few)) then))

record_entries : (n : ℕ) (paths : List PathView) (arrivals : List ArrivalView) (rest : List ℕ) → n < 2 ^ 63 → All IsPath paths → length paths ≤ 64
    → All (IsArrival (length paths)) arrivals
    → entries_of (open_record n paths arrivals ++ rest) ≡ Mark (Opened n) ∷ (packet_entries arrivals ++ entries_from (at (raws (length paths))) rest)
unfolding raws
record_entries n paths arrivals rest small named few all =
    ap entries_of (in_turn (section_block n) (interface_blocks paths) (datagram_blocks arrivals) rest)
    ∙ opened_entries n (interface_blocks paths ++ (datagram_blocks arrivals ++ rest)) small
    ∙ ap (λ l. Mark (Opened n) ∷ l)
    (interfaces_entries paths 0 (datagram_blocks arrivals ++ rest) named (omega (arith, few))
    ∙ ap (λ k. entries_from (at (raws k)) (datagram_blocks arrivals ++ rest)) (omega arith)
    ∙ datagrams_entries arrivals (length paths) rest all (omega (arith, few)))

nothing_left : (interfaces : List Interface) (place : ℕ) → packets_from (at interfaces) place [] ≡ []
unfolding packets_past
nothing_left interfaces place = refl

no_entry_left : (interfaces : List Interface) → entries_from (at interfaces) [] ≡ []
unfolding entries_past
no_entry_left interfaces = refl

-- a record that isn't closed
pub open_packets : (n : ℕ) (paths : List PathView) (arrivals : List ArrivalView) → n < 2 ^ 63 → All IsPath paths → length paths ≤ 64 → All (IsArrival (length paths)) arrivals
    → packets_of (open_record n paths arrivals) ≡ items_of arrivals
open_packets n paths arrivals small named few all =
    ap packets_of (sym (append-nil (open_record n paths arrivals)))
    ∙ record_packets n paths arrivals [] [] small named few all (λ place. nothing_left (raws (length paths)) place) ∙ append-nil (items_of arrivals)

pub open_entries : (n : ℕ) (paths : List PathView) (arrivals : List ArrivalView) → n < 2 ^ 63 → All IsPath paths → length paths ≤ 64 → All (IsArrival (length paths)) arrivals
    → entries_of (open_record n paths arrivals) ≡ Mark (Opened n) ∷ packet_entries arrivals
open_entries n paths arrivals small named few all =
    ap entries_of (sym (append-nil (open_record n paths arrivals)))
    ∙ record_entries n paths arrivals [] small named few all
    ∙ ap (λ l. Mark (Opened n) ∷ l) (ap (λ l. packet_entries arrivals ++ l) (no_entry_left (raws (length paths))) ∙ append-nil (packet_entries arrivals))

-- a record that is closed
closing_packets : (interfaces : List Interface) (time place : ℕ) → time < 2 ^ 64 → slice_get interfaces 0 ≡ Some raw → packets_from (at interfaces) place (closing_block time) ≡ []
closing_packets interfaces time place fits first =
    ap (packets_from (at interfaces) place) (sym (append-nil (closing_block time)))
    ∙ told_packet Little interfaces interfaces (closing_block time) [] None (Some (Closed time)) place (tells_closing interfaces time fits first)
    ∙ nothing_left interfaces (place + length (closing_block time))

closing_entries : (interfaces : List Interface) (time : ℕ) → time < 2 ^ 64 → slice_get interfaces 0 ≡ Some raw → entries_from (at interfaces) (closing_block time) ≡ Mark (Closed time) ∷ []
closing_entries interfaces time fits first =
    ap (entries_from (at interfaces)) (sym (append-nil (closing_block time)))
    ∙ told_entries Little interfaces interfaces (closing_block time) [] None (Some (Closed time)) (tells_closing interfaces time fits first)
    ∙ ap (λ l. Mark (Closed time) ∷ l) (no_entry_left interfaces)

pub closed_packets : (n : ℕ) (paths : List PathView) (arrivals : List ArrivalView) (time : ℕ) → n < 2 ^ 63 → All IsPath paths → 1 ≤ length paths → length paths ≤ 64
    → All (IsArrival (length paths)) arrivals → time < 2 ^ 64 → packets_of (closed_record n paths arrivals time) ≡ items_of arrivals
closed_packets n paths arrivals time small named some few all fits =
    record_packets n paths arrivals (closing_block time) [] small named few all
    (λ place. closing_packets (raws (length paths)) time place fits (raw_at (length paths) 0 (omega (arith, some))))
    ∙ append-nil (items_of arrivals)

pub closed_entries : (n : ℕ) (paths : List PathView) (arrivals : List ArrivalView) (time : ℕ) → n < 2 ^ 63 → All IsPath paths → 1 ≤ length paths → length paths ≤ 64
    → All (IsArrival (length paths)) arrivals → time < 2 ^ 64 → entries_of (closed_record n paths arrivals time) ≡ Mark (Opened n) ∷ (packet_entries arrivals ++ Mark (Closed time) ∷ [])
closed_entries n paths arrivals time small named some few all fits =
    record_entries n paths arrivals (closing_block time) small named few all
    ∙ ap (λ l. Mark (Opened n) ∷ (packet_entries arrivals ++ l)) (closing_entries (raws (length paths)) time fits (raw_at (length paths) 0 (omega (arith, some))))

-- the parts of a record with the interface of changes of gains
with_gains_in_turn : (s i g d rest : List ℕ) → s ++ i ++ g ++ d ++ rest ≡ s ++ (i ++ (g ++ (d ++ rest)))
with_gains_in_turn s i g d rest = append_assoc (s ++ i ++ g) d rest ∙ append_assoc (s ++ i) g (d ++ rest) ∙ append_assoc s i (g ++ (d ++ rest))

one_more : (n : ℕ) → raws n ++ raw ∷ [] ≡ raws (n + 1)
one_more n = more_raws n ∙ ap raws (omega arith)

gains_packets : (n : ℕ) (place : ℕ) (rest : List ℕ) (items : List Item) → n ≤ 64 → ((place : ℕ) → packets_from (at (raws (n + 1))) place rest ≡ items)
    → packets_from (at (raws n)) place (gains_interface_block ++ rest) ≡ items
gains_packets n place rest items few then =
    let size = count_raws n in
    told_packet Little (raws n) (raws n ++ raw ∷ []) gains_interface_block rest None None place (tells_gains (raws n) (omega (arith, size, few)))
    ∙ ap (λ l. packets_from (at l) (place + length gains_interface_block) rest) (one_more n) ∙ then (place + length gains_interface_block)

gains_entries : (n : ℕ) (rest : List ℕ) → n ≤ 64 → entries_from (at (raws n)) (gains_interface_block ++ rest) ≡ entries_from (at (raws (n + 1))) rest
gains_entries n rest few =
    let size = count_raws n in
    told_entries Little (raws n) (raws n ++ raw ∷ []) gains_interface_block rest None None (tells_gains (raws n) (omega (arith, size, few)))
    ∙ ap (λ l. entries_from (at l) rest) (one_more n)

gains_record_packets : (n : ℕ) (paths : List PathView) (arrivals : List ArrivalView) (rest : List ℕ) (items : List Item) → n < 2 ^ 63 → All IsPath paths → length paths ≤ 64
    → All (IsArrival (length paths + 1)) arrivals → ((place : ℕ) → packets_from (at (raws (length paths + 1))) place rest ≡ items)
    → packets_of (open_gains_record n paths arrivals ++ rest) ≡ items_of arrivals ++ items
unfolding raws
gains_record_packets n paths arrivals rest items small named few all then =
    let behind : List ℕ = gains_interface_block ++ (datagram_blocks arrivals ++ rest) in
    ap packets_of (with_gains_in_turn (section_block n) (interface_blocks paths) gains_interface_block (datagram_blocks arrivals) rest)
    ∙ opened_packets n (interface_blocks paths ++ behind) (items_of arrivals ++ items) small
    (λ place. interfaces_packets paths 0 place behind (items_of arrivals ++ items) named (omega (arith, few))
    (λ p. ap (λ k. packets_from (at (raws k)) p behind) (omega arith)
    ∙ gains_packets (length paths) p (datagram_blocks arrivals ++ rest) (items_of arrivals ++ items) few
    (λ q. datagrams_packets arrivals (length paths + 1) q rest items all (omega (arith, few)) then)))

gains_record_entries : (n : ℕ) (paths : List PathView) (arrivals : List ArrivalView) (rest : List ℕ) → n < 2 ^ 63 → All IsPath paths → length paths ≤ 64
    → All (IsArrival (length paths + 1)) arrivals
    → entries_of (open_gains_record n paths arrivals ++ rest) ≡ Mark (Opened n) ∷ (packet_entries arrivals ++ entries_from (at (raws (length paths + 1))) rest)
unfolding raws
gains_record_entries n paths arrivals rest small named few all =
    let behind : List ℕ = gains_interface_block ++ (datagram_blocks arrivals ++ rest) in
    ap entries_of (with_gains_in_turn (section_block n) (interface_blocks paths) gains_interface_block (datagram_blocks arrivals) rest)
    ∙ opened_entries n (interface_blocks paths ++ behind) small
    ∙ ap (λ l. Mark (Opened n) ∷ l)
    (interfaces_entries paths 0 behind named (omega (arith, few))
    ∙ ap (λ k. entries_from (at (raws k)) behind) (omega arith)
    ∙ gains_entries (length paths) (datagram_blocks arrivals ++ rest) few
    ∙ datagrams_entries arrivals (length paths + 1) rest all (omega (arith, few)))

pub open_gains_packets : (n : ℕ) (paths : List PathView) (arrivals : List ArrivalView) → n < 2 ^ 63 → All IsPath paths → length paths ≤ 64 → All (IsArrival (length paths + 1)) arrivals
    → packets_of (open_gains_record n paths arrivals) ≡ items_of arrivals
open_gains_packets n paths arrivals small named few all =
    ap packets_of (sym (append-nil (open_gains_record n paths arrivals)))
    ∙ gains_record_packets n paths arrivals [] [] small named few all (λ place. nothing_left (raws (length paths + 1)) place) ∙ append-nil (items_of arrivals)

pub open_gains_entries : (n : ℕ) (paths : List PathView) (arrivals : List ArrivalView) → n < 2 ^ 63 → All IsPath paths → length paths ≤ 64 → All (IsArrival (length paths + 1)) arrivals
    → entries_of (open_gains_record n paths arrivals) ≡ Mark (Opened n) ∷ packet_entries arrivals
open_gains_entries n paths arrivals small named few all =
    ap entries_of (sym (append-nil (open_gains_record n paths arrivals)))
    ∙ gains_record_entries n paths arrivals [] small named few all
    ∙ ap (λ l. Mark (Opened n) ∷ l) (ap (λ l. packet_entries arrivals ++ l) (no_entry_left (raws (length paths + 1))) ∙ append-nil (packet_entries arrivals))

pub closed_gains_packets : (n : ℕ) (paths : List PathView) (arrivals : List ArrivalView) (time : ℕ) → n < 2 ^ 63 → All IsPath paths → length paths ≤ 64
    → All (IsArrival (length paths + 1)) arrivals → time < 2 ^ 64 → packets_of (closed_gains_record n paths arrivals time) ≡ items_of arrivals
closed_gains_packets n paths arrivals time small named few all fits =
    gains_record_packets n paths arrivals (closing_block time) [] small named few all
    (λ place. closing_packets (raws (length paths + 1)) time place fits (raw_at (length paths + 1) 0 (omega arith)))
    ∙ append-nil (items_of arrivals)

pub closed_gains_entries : (n : ℕ) (paths : List PathView) (arrivals : List ArrivalView) (time : ℕ) → n < 2 ^ 63 → All IsPath paths → length paths ≤ 64
    → All (IsArrival (length paths + 1)) arrivals → time < 2 ^ 64 → entries_of (closed_gains_record n paths arrivals time) ≡ Mark (Opened n) ∷ (packet_entries arrivals ++ Mark (Closed time) ∷ [])
closed_gains_entries n paths arrivals time small named few all fits =
    gains_record_entries n paths arrivals (closing_block time) small named few all
    ∙ ap (λ l. Mark (Opened n) ∷ (packet_entries arrivals ++ l)) (closing_entries (raws (length paths + 1)) time fits (raw_at (length paths + 1) 0 (omega arith)))
