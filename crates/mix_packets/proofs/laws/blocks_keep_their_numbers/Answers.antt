use Rattle.mix_packets.proofs.AlignedLemmas.{begins-after, begins-within, one-header, aligned-again, aligned-own}
use Rattle.mix_packets.proofs.laws.blocks_keep_their_numbers.Goals as goal

pub returns-clause-first : goal.returns-clause-first
returns-clause-first c = begins-after

pub returns-clause-next : goal.returns-clause-next
returns-clause-next c = begins-within

pub returns-clause-header : goal.returns-clause-header
returns-clause-header c = one-header

pub returns-clause-again : goal.returns-clause-again
returns-clause-again c = aligned-again

pub returns-clause-own : goal.returns-clause-own
returns-clause-own c = aligned-own
