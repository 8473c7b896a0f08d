use Rattle.std.proofs.Common.{ℤ, subst, w64}
use Rattle.std.proofs.lemmas.Int.{to_z-of_z}
use Rattle.live_status.specs.StreamWatch.{ShowsStreams}
use Rattle.live_status.proofs.publisher.set_streams.Goals as goal

pub returns-clause-streams : goal.returns-clause-streams
returns-clause-streams c =
    subst (λ (now : ℤ). ShowsStreams c.args.watches.now c.args.statuses.now now c.args.have_ended c.args.streams.now c.show_watches.new.streams) (to_z-of_z w64 c.args.now c.ranges.now) (record {
      set = c.set_conditions.new.streams;
      noting = c.note_streams.new.watches;
      conditions = c.set_conditions.ensures.streams;
      noted = c.note_streams.ensures;
      shows = c.show_watches.ensures;
    })
