use Rattle.std.proofs.Common.{◌∙◌, sym, ap}
use Rattle.studio_ends.specs.MarkRings.{side_in}
use Rattle.studio_ends.specs.declared.rings.marks.MarkConsumer.TheInside.{Inside}
use Rattle.studio_ends.proofs.CellSizeLemmas.{wanted_seen}
use Rattle.studio_ends.proofs.rings.marks.MarkConsumer.take.Goals as goal
use Rattle.studio_ends.proofs.rings.marks.MarkConsumer.take.Goals.{in-Short, in-Middle, in-Long}

pub returns : goal.returns
returns c = elim c.match-self.branch [
  | in-Short w ↦ wanted_seen 0 w.in-Short.side w.take_stream.new.side _ _ _ _ _ _ _ _ (sym c.self.view_is ∙ ap side_in w.in-Short.is) (ap (λ (s : Inside). side_in s.end) w.self-inside-is) w.mixer-is w.result-is w.take_stream.ensures
  | in-Middle w ↦ wanted_seen 1 w.in-Middle.side w.take_stream-in-Middle.new.side _ _ _ _ _ _ _ _ (sym c.self.view_is ∙ ap side_in w.in-Middle.is) (ap (λ (s : Inside). side_in s.end) w.self-inside-is) w.mixer-is w.result-is w.take_stream-in-Middle.ensures
  | in-Long w ↦ wanted_seen 2 w.in-Long.side w.take_stream-in-Long.new.side _ _ _ _ _ _ _ _ (sym c.self.view_is ∙ ap side_in w.in-Long.is) (ap (λ (s : Inside). side_in s.end) w.self-inside-is) w.mixer-is w.result-is w.take_stream-in-Long.ensures
]
