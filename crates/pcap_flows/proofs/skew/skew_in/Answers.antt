use Rattle.std.proofs.Common.{rules, refl}
use Rattle.std.proofs.lemmas.Option.{slice_get_read}
use Rattle.pcap_flows.proofs.SkewLemmas.{skew_is}
use Rattle.pcap_flows.proofs.skew.skew_in.Goals as goal

pub returns : goal.returns
returns c =
    skew_is c.args.sorted.now _ _ _ (search rules) (slice_get_read c.args.sorted.now _ _ _ refl (search rules) (search rules)) (search rules)
