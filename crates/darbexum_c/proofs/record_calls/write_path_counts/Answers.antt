-- The path that was made is the path of the number.
use Rattle.std.proofs.Common.{◌≡◌, subst}
use Rattle.rtp_stream.specs.PathCounts.{path_tally_of}
use Rattle.studio_session.specs.Counts as received
use Rattle.darbexum_c.proofs.record_calls.write_path_counts.Goals as goal

pub returns-clause-value : goal.returns-clause-value
returns-clause-value c is studio events datagrams spec s at =
    subst (λ p. path_tally_of c.in-Some-path_counts.found ≡ received.path_counts_of spec c.args.stream p events) c.in-Some-new.ensures.value
    (c.in-Some-path_counts.ensures.value studio events datagrams spec s at)
