use Rattle.std.proofs.Common.{◌≡◌, ◌∷◌, [], ◌++◌, ◌+◌, List, length, sym, refl, subst, arith}
use Rattle.std.proofs.lemmas.Option.{slice_get_read}
use Rattle.status_page.specs.declared.snapshot.StreamState.{StreamState}
use Rattle.live_status.specs.StreamStatus.{IsBlankOf}
use Rattle.live_status.proofs.Each.{IsBegun, begun-push, begun-all, where_ok}
use Rattle.live_status.proofs.publisher.add_streams.Goals as goal

pub loop-status-preserved : goal.loop-status-preserved
loop-status-preserved c = (
  λ few.
      let statuses = c.args.statuses.now in
      let n = c.loop-status.status-index in
      let one = c.status-item.result in
      let items = c.loop-status.snapshot.streams.items in
      let begun = c.loop-status.invariant.0 few in
      let at = slice_get_read statuses (length statuses) n one refl c.loop-status-test.true c.status-item.is in
      let space = (let long = begun.length_is in c.try_push.ensures.variant.1 (omega (arith, long, few))) in
      let pushed : c.try_push.new.self.items ≡ items ++ c.blank.result ∷ [] = where_ok c.try_push.result space c.try_push.ensures.ok in
      subst (λ (l : List StreamState). IsBegun IsBlankOf (n + 1) statuses l) (sym pushed) (begun-push IsBlankOf n statuses items one c.blank.result begun at c.blank.ensures),
  c.loop-status.invariant.1,
)

pub returns-clause-streams : goal.returns-clause-streams
returns-clause-streams c = λ few. begun-all IsBlankOf c.loop-status.status-index c.args.statuses.now c.loop-status.snapshot.streams.items (omega arith) (c.loop-status.invariant.0 few)
