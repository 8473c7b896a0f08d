-- Worked cases of what is missing in a block, computed.
use Rattle.std.specs.Prelude.{◌≡◌, ℕ, ◌+◌, ◌*◌, List, [], ◌∷◌, replicate, ℤ, pos, None, true, false, refl, flat_map}
use Rattle.rtp_wire.specs.declared.encoding.Enc.TheVariants.{L24}
use Rattle.rtp_stream.specs.declared.stream_spec.Stream.{Stream}
use Rattle.rtp_stream.specs.StreamSpecFacts.{format_of}
use Rattle.rtp_stream.specs.MarkFacts.{MarkView}
use Rattle.rtp_stream.specs.declared.stream_spec.StreamClock.TheVariants.{Media}
use Rattle.rtp_stream.specs.declared.mark.Body.TheVariants.{Got, Lost}
use Rattle.rtp_stream.specs.declared.mark.MarkKind.TheVariants.{Slot, Quiet}
use Rattle.gain_mix.specs.Changes.{Changes}
use Rattle.mix_packets.specs.declared.out_spec.Output.{Output}
use Rattle.studio_config.specs.Networks.{absent_networks}
use Rattle.studio_config.specs.declared.output_clock.OutputClock.TheVariants.{Run}
use Rattle.studio_config.specs.Ports.{absent_rows}
use Rattle.studio_config.specs.Studio.{Studio}
use Rattle.studio_mix.specs.Feed.{Feed}
use Rattle.studio_mix.specs.Missing.{is_used, missing_in}
use Rattle.studio_mix.specs.Sound.{channel_at, sound_values}

-- two channels of L24 and one, in packets of six sampling instants
abbrev pair : Stream
pair = record { enc = L24; channels = 2; frames = 6; pt = 96; ssrc = None; clock = Media 0; latency = 12; window = 8; paths = 2 }

abbrev single : Stream
single = record { enc = L24; channels = 1; frames = 6; pt = 96; ssrc = None; clock = Media 0; latency = 12; window = 8; paths = 2 }

-- one output of two channels, in blocks of twelve sampling instants: the first from 0 to 11
abbrev output : Output
output = record { enc = L24; channels = 2; frames = 12; pt = 97; ssrc = 2; seq0 = 0; start = pos 0; offset = 0 }

abbrev studio_of : Changes → Studio
studio_of schedule = record { open_at = pos 0; streams = pair ∷ single ∷ []; output = output; clock = Run; schedule = schedule; ports = record { paths = absent_rows 16; to_a = None; to_b = None }; networks = absent_networks; late = 0 }

-- one gain for each channel of the pair and for the single one, in the row of each channel of the output
abbrev both_used : Changes
both_used = record { first = (pos 65536 ∷ pos 0 ∷ pos 0 ∷ []) ∷ (pos 0 ∷ pos 0 ∷ pos 65536 ∷ []) ∷ []; later = [] }

abbrev pair_used : Changes
pair_used = record { first = (pos 0 ∷ pos 0 ∷ pos 0 ∷ []) ∷ (pos 0 ∷ pos 65536 ∷ pos 0 ∷ []) ∷ []; later = [] }

abbrev none_used : Changes
none_used = record { first = (pos 0 ∷ pos 0 ∷ pos 0 ∷ []) ∷ (pos 0 ∷ pos 0 ∷ pos 0 ∷ []) ∷ []; later = [] }

-- the pair is used from the time of a change on
abbrev used_from : ℤ → Changes
used_from time = record none_used { later = (time, pair_used.first) ∷ [] }

abbrev octets : ℕ → List ℕ
octets count = flat_map (λ (x : List ℕ). x) (replicate count (0 ∷ 0 ∷ 1 ∷ []))

abbrev got : Stream → ℕ → ℤ → MarkView
got stream number media = record { format = format_of stream; kind = Slot 0 number media (Got (record { items = octets (6 * stream.channels) })) }

abbrev lost : Stream → ℕ → ℤ → MarkView
lost stream number media = record { format = format_of stream; kind = Slot 0 number media Lost }

-- all packets of the block came, the second was lost, and none came
abbrev all_came : Stream → Feed
all_came stream = record { stream = stream; marks = got stream 0 (pos 0) ∷ got stream 1 (pos 6) ∷ [] }

abbrev one_lost : Stream → Feed
one_lost stream = record { stream = stream; marks = got stream 0 (pos 0) ∷ lost stream 1 (pos 6) ∷ [] }

abbrev none_came : Stream → Feed
none_came stream = record { stream = stream; marks = [] }

abbrev silent : Stream → Feed
silent stream = record { stream = stream; marks = record { format = format_of stream; kind = Quiet (pos 12) } ∷ [] }

nothing_missing : missing_in (studio_of both_used) (all_came pair ∷ all_came single ∷ []) 0 ≡ record { streams = 0; is_empty = false }
nothing_missing = refl

-- a packet of a stream that is used was lost
lost_one : missing_in (studio_of both_used) (one_lost pair ∷ all_came single ∷ []) 0 ≡ record { streams = 1; is_empty = false }
lost_one = refl

-- a stream that is not used is not missing, whatever came of it
lost_unused : missing_in (studio_of none_used) (one_lost pair ∷ all_came single ∷ []) 0 ≡ record { streams = 0; is_empty = false }
lost_unused = refl

-- with no stream in use nothing is missing, and the block is not empty, though nothing came
nothing_used : missing_in (studio_of none_used) (none_came pair ∷ none_came single ∷ []) 0 ≡ record { streams = 0; is_empty = false }
nothing_used = refl

-- one stream came, and of the other nothing did
one_off : missing_in (studio_of both_used) (all_came pair ∷ none_came single ∷ []) 0 ≡ record { streams = 1; is_empty = false }
one_off = refl

-- nothing came of the only stream that is used
only_used_off : missing_in (studio_of pair_used) (none_came pair ∷ all_came single ∷ []) 0 ≡ record { streams = 1; is_empty = true }
only_used_off = refl

-- a stream that was silent is missing as one of which no packet came
silent_stream : missing_in (studio_of pair_used) (silent pair ∷ all_came single ∷ []) 0 ≡ record { streams = 1; is_empty = true }
silent_stream = refl

both_off : missing_in (studio_of both_used) (none_came pair ∷ silent single ∷ []) 0 ≡ record { streams = 2; is_empty = true }
both_off = refl

-- each packet of one of two streams was lost at another time
in_turns : missing_in (studio_of both_used) (one_lost pair ∷ record { stream = single; marks = lost single 0 (pos 0) ∷ got single 1 (pos 6) ∷ [] } ∷ []) 0 ≡ record { streams = 2; is_empty = false }
in_turns = refl

-- the lost packet is that of the times from 6 to 11: the stream is used in its last instant, and only after the block
used_at_last : missing_in (studio_of (used_from (pos 11))) (one_lost pair ∷ none_came single ∷ []) 0 ≡ record { streams = 1; is_empty = true }
used_at_last = refl

used_later : missing_in (studio_of (used_from (pos 12))) (one_lost pair ∷ none_came single ∷ []) 0 ≡ record { streams = 0; is_empty = false }
used_later = refl

-- the gain of the pair's second channel uses the pair, and not the single channel behind it
second_channel : is_used (studio_of pair_used) (channel_at (pair ∷ single ∷ []) 0) (none_came pair) (pos 0) ≡ true
second_channel = refl

channel_behind : is_used (studio_of pair_used) (channel_at (pair ∷ single ∷ []) 1) (none_came single) (pos 0) ≡ false
channel_behind = refl

-- the sounds of all channels, stream after stream
three_sounds : sound_values (λ i t k. t) (format_of pair ∷ format_of single ∷ []) (pos 7) ≡ pos 7 ∷ pos 7 ∷ pos 7 ∷ []
three_sounds = refl

places_of_sounds : sound_values (λ i t k. pos (10 * i + k)) (format_of pair ∷ format_of single ∷ []) (pos 7) ≡ pos 0 ∷ pos 1 ∷ pos 10 ∷ []
places_of_sounds = refl
