-- Extended sequence numbers (RFC 3550, 6.4.1 and A.1), and which of them a capture has, with their timestamps.
use Rattle.std.specs.Prelude.{ℕ, ◌+◌, ◌-◌, ◌%◌, ◌^◌, Bool, List, replicate, set, slice_index_or, min, max, nat_lt, ◌==◌, ◌&&◌, not, if◌then◌else◌}
use Rattle.pcap_flows.specs.declared.received_numbers.Received.{Received}
use Rattle.pcap_flows.specs.declared.received_numbers.ReceivedNumbers.{ReceivedNumbers}

pub record NumbersView : Type 0 where
  pub least : ℕ
  pub greatest : ℕ
  -- the number of repeated numbers
  pub repeated : ℕ
  -- the last packet with each 16 bits; its number is 0 if there was none
  pub last_seen : List Received

-- one more, at most the greatest number of 64 bits
abbrev pub one_more : ℕ → ℕ
one_more n = min (n + 1) (2 ^ 64 - 1)

-- the number of a first packet, after two cycles of 16 bits
abbrev pub first_number : ℕ → ℕ
first_number seq = 131_072 + seq

-- the distance of these 16 bits ahead of the greatest number so far, around the cycle
abbrev pub ahead_of : ℕ → ℕ → ℕ
ahead_of greatest seq = (65_536 + seq - greatest % 65_536) % 65_536

-- the number nearest to the greatest so far whose low 16 bits are these
unfoldable pub number_near : ℕ → ℕ → ℕ
number_near greatest seq =
    if nat_lt (ahead_of greatest seq) 32_768
    then min (greatest + ahead_of greatest seq) (2 ^ 64 - 1)
    else greatest - (65_536 - ahead_of greatest seq)

-- no packet
abbrev pub no_packet : Received
no_packet = record { number = 0; ts = 0 }

-- no packet with any 16 bits
unfoldable pub no_numbers : List Received
no_numbers = replicate 65_536 no_packet

-- the numbers after a single packet
abbrev pub numbers_first : ℕ → ℕ → NumbersView
numbers_first seq ts = record {
  least = first_number seq;
  greatest = first_number seq;
  repeated = 0;
  last_seen = set no_numbers seq (record { number = first_number seq; ts = ts });
}

-- the numbers after one more packet
abbrev pub numbers_and : NumbersView → ℕ → ℕ → ℕ → NumbersView
numbers_and n seq ts number = record {
  least = min n.least number;
  greatest = max n.greatest number;
  repeated = if (slice_index_or n.last_seen seq no_packet).number == number then one_more n.repeated else n.repeated;
  last_seen = set n.last_seen seq (record { number = number; ts = ts });
}

abbrev pub numbers_with : NumbersView → ℕ → ℕ → NumbersView
numbers_with n seq ts = numbers_and n seq ts (number_near n.greatest seq)

-- how many numbers there are from the least to the greatest
abbrev pub span_of : NumbersView → ℕ
span_of n = one_more (n.greatest - n.least)

-- the view of the value in the code
abbrev pub numbers_view : ReceivedNumbers → NumbersView
numbers_view n = record { least = n.least; greatest = n.greatest; repeated = n.repeated; last_seen = n.last_seen.items }
