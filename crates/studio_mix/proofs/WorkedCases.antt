-- Worked cases of the definitions, computed.
use Rattle.std.specs.Prelude.{◌≡◌, ℕ, List, [], ◌∷◌, ◌++◌, replicate, ℤ, pos, None, true, false, refl, flat_map}
use Rattle.rtp_wire.specs.declared.encoding.Enc.TheVariants.{L24}
use Rattle.rtp_stream.specs.declared.stream_spec.Stream.{Stream}
use Rattle.rtp_stream.specs.StreamSpecFacts.{format_of}
use Rattle.rtp_stream.specs.MarkFacts.{MarkView}
use Rattle.rtp_stream.specs.declared.stream_spec.StreamClock.TheVariants.{Media}
use Rattle.rtp_stream.specs.declared.mark.Body.TheVariants.{Got, Lost}
use Rattle.rtp_stream.specs.declared.mark.MarkKind.TheVariants.{Slot, Quiet, End}
use Rattle.mix_packets.specs.declared.out_spec.Output.{Output}
use Rattle.studio_config.specs.Networks.{absent_networks}
use Rattle.studio_config.specs.declared.output_clock.OutputClock.TheVariants.{Run}
use Rattle.studio_config.specs.Ports.{absent_rows}
use Rattle.studio_config.specs.Studio.{Studio}
use Rattle.studio_mix.specs.Feed.{Feed}
use Rattle.studio_mix.specs.Mixed.{mixed_sample}
use Rattle.studio_mix.specs.Ready.{is_ready, block_count}

-- one channel of L24, in packets of six sampling instants, and in packets of 48
abbrev first : Stream
first = record { enc = L24; channels = 1; frames = 6; pt = 96; ssrc = None; clock = Media 0; latency = 12; window = 8; paths = 2 }

abbrev second : Stream
second = record { enc = L24; channels = 1; frames = 48; pt = 96; ssrc = None; clock = Media 0; latency = 48; window = 8; paths = 2 }

abbrev output : Output
output = record { enc = L24; channels = 1; frames = 48; pt = 97; ssrc = 2; seq0 = 65535; start = pos 0; offset = 0 }

abbrev studio : Studio
studio = record { open_at = pos 0; streams = first ∷ second ∷ []; output = output; clock = Run; schedule = record { first = (pos 65536 ∷ pos 65536 ∷ []) ∷ []; later = [] }; ports = record { paths = absent_rows 16; to_a = None; to_b = None }; networks = absent_networks; late = 0 }

abbrev samples : ℕ → List ℕ → List ℕ
samples count octets = flat_map (λ (x : List ℕ). x) (replicate count octets)

abbrev thousands : ℕ → ℤ → MarkView
thousands number media = record { format = format_of first; kind = Slot 0 number media (Got (record { items = samples 6 (0 ∷ 3 ∷ 232 ∷ []) })) }

abbrev lost : ℕ → ℤ → MarkView
lost number media = record { format = format_of first; kind = Slot 0 number media Lost }

abbrev ones : MarkView
ones = record { format = format_of second; kind = Slot 0 65636 (pos 20) (Got (record { items = samples 48 (0 ∷ 0 ∷ 1 ∷ []) })) }

abbrev end : Stream → MarkView
end stream = record { format = format_of stream; kind = End }

abbrev eight : List MarkView
eight = thousands 65537 (pos 0) ∷ thousands 65538 (pos 6) ∷ thousands 65539 (pos 12) ∷ thousands 65540 (pos 18) ∷ thousands 65541 (pos 24) ∷ thousands 65542 (pos 30) ∷ thousands 65543 (pos 36) ∷ thousands 65544 (pos 42) ∷ []

-- both streams have ended; the values of the second are 1 from 20 to 67
abbrev ended : List Feed
ended = record { stream = first; marks = eight ++ end first ∷ [] } ∷ record { stream = second; marks = ones ∷ end second ∷ [] } ∷ []

only_the_first : mixed_sample studio ended 0 (pos 19) ≡ pos 1000
only_the_first = refl

both : mixed_sample studio ended 0 (pos 20) ≡ pos 1001
both = refl

only_the_second : mixed_sample studio ended 0 (pos 67) ≡ pos 1
only_the_second = refl

silence : mixed_sample studio ended 0 (pos 68) ≡ pos 0
silence = refl

two_blocks : block_count output ended ≡ 2
two_blocks = refl

last_block : is_ready output ended 1 ≡ true
last_block = refl

no_third : is_ready output ended 2 ≡ false
no_third = refl

-- the second stream is silent to 48, and neither stream has ended
abbrev quiet : List Feed
quiet = record { stream = first; marks = eight ++ lost 65545 (pos 48) ∷ [] } ∷ record { stream = second; marks = record { format = format_of second; kind = Quiet (pos 48) } ∷ [] } ∷ []

one_block : is_ready output quiet 0 ≡ true
one_block = refl

not_the_next : is_ready output quiet 1 ≡ false
not_the_next = refl

through_the_silence : mixed_sample studio quiet 0 (pos 47) ≡ pos 1000
through_the_silence = refl
