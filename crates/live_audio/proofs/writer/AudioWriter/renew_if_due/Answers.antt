use Rattle.std.proofs.Common.{◌≡◌, [], Err, refl, rules}
use Rattle.live_audio.proofs.AudioLemmas.{failed_renewal, renewed}
use Rattle.live_audio.proofs.writer.AudioWriter.renew_if_due.Goals as goal

pub returns-in_err-renew-clause-failed : goal.returns-in_err-renew-clause-failed
returns-in_err-renew-clause-failed g c =
    let is : c.from_residual.result ≡ Err c.in_err-renew.field-0.0 = search rules in
    rw is (λ past moved. failed_renewal past _ _ c.args.self.now c.args.parts.now moved (λ head own has. c.in_err-renew.ensures.fault head own [] has))

pub returns-clause-renewed : goal.returns-clause-renewed
returns-clause-renewed g c = λ past moved.
    renewed past _ _ c.args.self.now c.args.parts.now _ refl refl refl c.data_len-parts.ensures moved (λ head own has. c.in_ok-renew.ensures.ok head own [] has)
