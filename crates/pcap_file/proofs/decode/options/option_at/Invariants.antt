use Rattle.std.proofs.Common.{◌≡◌, length}
use Rattle.pcap_file.specs.Options.{option_of}
use Rattle.pcap_file.proofs.decode.options.option_at.Given as goal

abbrev pub invariant-loop-rest : goal.invariant-loop-rest
invariant-loop-rest l = option_of l.order l.code l.rest ≡ option_of l.order l.code l.options

abbrev pub decreases-loop-rest : goal.decreases-loop-rest
decreases-loop-rest l = length l.rest
