use Rattle.std.proofs.Common.{ap, replicate, ◌∙◌}
use Rattle.pcap_flows.specs.Skew.{no_numbers}
use Rattle.pcap_flows.proofs.pair_times.no_numbers.Goals as goal

pub returns-clause-items : goal.returns-clause-items
unfolding no_numbers
returns-clause-items c = c.in_ok-times.ensures.items_if_clones_equal (λ y h. h) ∙ ap (replicate 65_536) c.new.ensures
