-- Worked cases of aligned outputs: blocks of 48 sampling instants from 1,000 on, the first of which has the number 5.
use Rattle.std.specs.Prelude.{◌≡◌, pos, refl}
use Rattle.rtp_wire.specs.declared.encoding.Enc.TheVariants.{L24}
use Rattle.mix_packets.specs.Aligned.{aligned}
use Rattle.mix_packets.specs.declared.out_spec.Output.{Output}

abbrev output : Output
output = record { enc = L24; channels = 1; frames = 48; pt = 97; ssrc = 2; seq0 = 5; start = pos 1000; offset = 0 }

-- at its own start it stays as it is
at_start : aligned (pos 1000) output ≡ output
at_start = refl

-- an instant later it begins with its second block
just_after : aligned (pos 1001) output ≡ record output { start = pos 1048; seq0 = 6 }
just_after = refl

-- the end of a block is the begin of the next one
at_a_block : aligned (pos 1048) output ≡ record output { start = pos 1048; seq0 = 6 }
at_a_block = refl

-- blocks before the start are counted back, here twenty of them, below 0
before_start : aligned (pos 0) output ≡ record output { start = pos 40; seq0 = 65521 }
before_start = refl

-- numbers wrap: 65,531 blocks later
wrapped : aligned (pos 3146488) output ≡ record output { start = pos 3146488; seq0 = 0 }
wrapped = refl
