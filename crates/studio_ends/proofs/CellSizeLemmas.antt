-- The ends of rings, with the sizes of their cells.
use Rattle.std.proofs.Common.{arith, ◌≡◌, ℕ, ◌≤◌, refl, sym, ap, subst}
use Rattle.std.specs.declared.alloc.Global.{Global}
use Rattle.rtrb.specs.Ring.{SameProducer}
use Rattle.rtrb.specs.Shared.{Names}
use Rattle.rtrb.specs.declared.AnyItems.{AnyItems}
use Rattle.rtrb.specs.declared.producer.Producer.{Producer}
use Rattle.path_merge.specs.MergeState.{MergeState}
use Rattle.rtp_stream.specs.MarkFacts.{MarkView, payload_length}
use Rattle.rtp_stream.specs.StreamSpecFacts.{format_of}
use Rattle.studio_mix.specs.Mixer.{MixerState}
use Rattle.studio_ends.specs.MarksIn.{TakesWanted}
use Rattle.studio_ends.specs.CellSizes.{FitsCells, HasCellsFor, done_with, named, side_with}
use Rattle.studio_ends.specs.declared.rings.TokenConsumer.{TokenConsumer}

-- the lengths that fit each of the three sizes of cells
pub fits_short : (len : ℕ) (names : Names) → FitsCells len (named 0 names) → len ≤ 64
fits_short len names h = h.short names.1.0 (omega arith)

pub fits_middle : (len : ℕ) (names : Names) → FitsCells len (named 1 names) → len ≤ 320
fits_middle len names h = h.middle names.1.0 refl

pub fits_long : (len : ℕ) (names : Names) → FitsCells len (named 2 names) → len ≤ 1440
fits_long len names h = h.long

-- the same ring has cells of the same size
pub cells_kept : {T : Type 0} (len : ℕ) (a b : Producer T Global AnyItems) → SameProducer a b → HasCellsFor len a → HasCellsFor len b
cells_kept len a b same h = subst (FitsCells len) (sym same.0.2) h

-- a merge of the same stream needs cells of the same size
pub cells_on : (m w : MergeState) (a b : Producer MarkView Global AnyItems) → w.spec ≡ m.spec → SameProducer a b
    → HasCellsFor (payload_length (format_of m.spec)) a → HasCellsFor (payload_length (format_of w.spec)) b
cells_on m w a b spec same h = cells_kept (payload_length (format_of w.spec)) a b same (rw spec h)

-- what was taken from a ring, whatever the size of its cells
pub wanted_with : (size : ℕ) (old new : TokenConsumer MarkView) (m w : MixerState) (stream taken strange : ℕ)
    → TakesWanted old new m w stream taken strange → TakesWanted (side_with size old) (side_with size new) m w stream taken strange
wanted_with size old new m w stream taken strange h =
    let t = h.takes in
    record {
      takes = record {
        more = t.more;
        ring = ((t.ring.0.0, t.ring.0.1, ap (named size) t.ring.0.2, t.ring.0.3), t.ring.1);
        done = ap (done_with size) t.done;
        received_are = t.received_are;
        count_is = t.count_is;
        lanes = t.lanes;
        spec = t.spec;
        stands = t.stands;
        counted = t.counted;
      };
      most = h.most;
      some_strange = h.some_strange;
      stop = h.stop;
    }

-- what was taken from a ring, as contracts see the ring
pub wanted_seen : (size : ℕ) (from to old new : TokenConsumer MarkView) (m w v : MixerState) (stream : ℕ) (p q : ℕ × ℕ)
    → old ≡ side_with size from → new ≡ side_with size to → v ≡ w → q ≡ p
    → TakesWanted from to m w stream p.0 p.1 → TakesWanted old new m v stream q.0 q.1
wanted_seen size from to old new m w v stream p q before after mixer result h =
    rw (before, after, mixer, result) (wanted_with size from to m w stream p.0 p.1 h)
