use Rattle.std.proofs.Common.{[], ◌∷◌, ◌++◌}
use Rattle.studio_session.specs.Event.{Closing}
use Rattle.studio_session.proofs.HandedLemmas.{handed_at, pulled_longer}
use Rattle.studio_session.proofs.cursor.Cursor.push_close.Goals as goal

pub returns-clause-handed : goal.returns-clause-handed
returns-clause-handed c = λ number.
    let old = c.args.self.now in
    record {
      spec = c.close.ensures.spec;
      place = c.close.ensures.place;
      stands = λ stream open_at events k run end pulled.
          c.close.ensures.stands stream number open_at (events ++ Closing ∷ []) k (handed_at events Closing old.place end) (pulled_longer stream number open_at events (Closing ∷ []) old k pulled);
    }
