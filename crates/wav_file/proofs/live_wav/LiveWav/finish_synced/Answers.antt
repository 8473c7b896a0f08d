use Rattle.std.proofs.Common.{[]}
use Rattle.wav_file.proofs.FileLemmas.{at_err}
use Rattle.wav_file.proofs.LiveLemmas.{data_more, keeps}
use Rattle.wav_file.proofs.live_wav.LiveWav.finish_synced.Goals as goal

pub returns-clause-fault : goal.returns-clause-fault
returns-clause-fault g c =
    at_err c.pad-padded.result
    (λ part head octets has. keeps _ c.args.self.now _ octets _ (c.in_ok-renew.ensures.ok head octets _ (data_more _ _ c.args.self.now head octets [] _ has part.1)))
    c.pad-padded.ensures.fault
