use Rattle.std.proofs.Common.{[], ◌∷◌, ◌++◌}
use Rattle.studio_session.proofs.HandedLemmas.{handed_at, pulled_longer}
use Rattle.studio_session.proofs.cursor.Cursor.skip.Goals as goal

pub returns-clause-handed : goal.returns-clause-handed
returns-clause-handed c = λ number event other.
    let old = c.args.self.now in
    record {
      spec = c.pass_over.ensures.spec;
      place = c.pass_over.ensures.place;
      stands = λ stream open_at events k run end pulled.
          c.pass_over.ensures.stands stream number open_at (events ++ event ∷ []) event k (handed_at events event old.place end) (other stream) (pulled_longer stream number open_at events (event ∷ []) old k pulled);
    }
