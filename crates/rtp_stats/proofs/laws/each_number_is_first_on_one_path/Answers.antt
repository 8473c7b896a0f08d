use Rattle.rtp_stats.proofs.LawLemmas.{firsts_are_taken}
use Rattle.rtp_stats.proofs.laws.each_number_is_first_on_one_path.Goals as goal

pub returns : goal.returns
returns c offers all = firsts_are_taken offers all
