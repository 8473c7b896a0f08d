use Rattle.std.proofs.Common.{◌≤◌, length, [], ◌∷◌, ◌++◌, ap, ◌∙◌, arith}
use Rattle.std.proofs.lemmas.List.{take_all}
use Rattle.studio_session.specs.Event.{Arrival}
use Rattle.studio_session.specs.ArriveOutcome.{outcome_of}
use Rattle.studio_session.proofs.HandedLemmas.{handed_at, pulled_longer}
use Rattle.studio_session.proofs.cursor.Cursor.push_datagram.Goals as goal

pub returns-clause-handed : goal.returns-clause-handed
returns-clause-handed c = λ number.
    let old = c.args.self.now in
    let event = Arrival number c.args.path c.args.octets.now in
    record {
      spec = c.take_datagram.ensures.spec;
      place = c.take_datagram.ensures.place;
      stands = λ stream open_at events k run end pulled.
          c.take_datagram.ensures.stands stream number open_at (events ++ event ∷ []) k (handed_at events event old.place end) (pulled_longer stream number open_at events (event ∷ []) old k pulled);
    }

pub returns-clause-outcome : goal.returns-clause-outcome
returns-clause-outcome c = λ stream number open_at events k end pulled.
    let old = c.args.self.now in
    let all : length events ≤ old.place = omega (arith, end) in
    c.take_datagram.ensures.outcome stream number open_at events k pulled
    ∙ ap (λ l. outcome_of stream number open_at l c.args.path c.args.octets.now) (take_all old.place events all)
