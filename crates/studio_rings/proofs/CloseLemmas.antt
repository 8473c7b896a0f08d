-- A stream that goes on until it can be closed.
use Rattle.std.proofs.Common.{ℕ, List, [], ◌∷◌, ◌++◌, ℤ, refl, sym, subst, ◌∙◌, append-nil}
use Rattle.rtrb.specs.Ring.{producer_capacity}
use Rattle.rtp_stream.specs.declared.stream_spec.Stream.{Stream}
use Rattle.rtp_stream.specs.declared.event.Event.{Event}
use Rattle.studio_ends.specs.declared.stream_end.StreamEnd.{StreamEnd}
use Rattle.studio_ends.proofs.TurnLemmas.{producers}
use Rattle.studio_rings.specs.ClockTurns.{GoByClock, events_in}
use Rattle.studio_rings.specs.Turns.{Closes, GoesOn, KeepsTokens}
use Rattle.studio_rings.specs.declared.worker.clocked_stream.ClockedStream.{ClockedStream}
use Rattle.studio_rings.specs.StreamClose.{ClosesLater}

-- no turns agree with any readings
none_made : (stream : Stream) (open_at : ℤ) (places : ℕ) (time : ℤ) (told : List ℤ) (before : List Event) → GoByClock stream open_at places time told before []
none_made stream open_at places time [] before = tt
none_made stream open_at places time (answer ∷ told) before = tt

-- a stream that went on and was closed
pub closes-later : {C : Type 0} (told : C → List ℤ) (s t : ClockedStream C) (u : StreamEnd) → GoesOn told s t → KeepsTokens s.end.sides.items t.end.sides.items → Closes t.end u → ClosesLater told s u
closes-later told s t u goes tokens closes = record {
  marks = producers s.end.marks t.end.marks u.marks goes.marks closes.marks;
  history = λ stream open_at events lists all h.
      let before = events ++ events_in (goes.turns stream) in
      let now = goes.stands stream open_at events h in
      record {
        turns = goes.turns stream;
        timed = subst (λ l. GoByClock stream open_at (producer_capacity s.end.marks) s.now (told s.clock) events l) (append-nil (goes.turns stream))
            (goes.timed stream open_at events (producer_capacity s.end.marks) [] h refl (none_made stream open_at (producer_capacity s.end.marks) t.now (told t.clock) before));
        open_before = sym now.merge.closed ∙ t.open_yet;
        arrived = closes.arrived stream open_at before lists (tokens lists all) now;
        stands = closes.stands stream open_at before now;
      };
}
