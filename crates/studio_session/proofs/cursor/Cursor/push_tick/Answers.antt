use Rattle.std.proofs.Common.{◌≡◌, [], ◌∷◌, ◌++◌, slice_get, Some, sym, subst, w64}
use Rattle.std.proofs.lemmas.Int.{to_z-of_z}
use Rattle.studio_session.specs.Event.{Tick}
use Rattle.studio_session.proofs.HandedLemmas.{handed_at, pulled_longer}
use Rattle.studio_session.proofs.cursor.Cursor.push_tick.Goals as goal

pub returns-clause-handed : goal.returns-clause-handed
returns-clause-handed c = λ number.
    let old = c.args.self.now in
    let same = to_z-of_z w64 c.args.now c.ranges.now in
    record {
      spec = c.set_out.ensures.spec;
      place = c.set_out.ensures.place;
      stands = λ stream open_at events k run end pulled.
          c.set_out.ensures.stands stream number open_at (events ++ Tick c.args.now ∷ []) k run
          (subst (λ u. slice_get (events ++ Tick c.args.now ∷ []) old.place ≡ Some (Tick u)) (sym same) (handed_at events (Tick c.args.now) old.place end))
          (pulled_longer stream number open_at events (Tick c.args.now ∷ []) old k pulled);
    }
