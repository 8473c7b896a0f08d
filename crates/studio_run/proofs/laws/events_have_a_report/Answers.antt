use Rattle.std.proofs.Common.{◌++◌, refl}
use Rattle.studio_run.specs.Listing.{counts_text_of, datagrams_text}
use Rattle.studio_session.proofs.BlocksLemmas.{all_blocks}
use Rattle.studio_run.proofs.laws.events_have_a_report.Goals as goal

pub returns : goal.returns
returns c studio events some =
    let all = all_blocks studio events some in
    (datagrams_text all.0 ++ counts_text_of studio events, record { datagrams = all.0; ready = all.1; whole = refl })
