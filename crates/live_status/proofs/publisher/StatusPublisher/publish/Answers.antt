use Rattle.std.proofs.Common.{ℤ, ap, sym, subst, ◌∙◌, w64}
use Rattle.std.proofs.lemmas.Int.{to_z-of_z}
use Rattle.live_status.specs.Publisher.{IsShown}
use Rattle.live_status.proofs.ShownSnapshots.{lines-kept, shows-given}
use Rattle.live_status.proofs.publisher.StatusPublisher.publish.Goals as goal

pub returns-clause-shown : goal.returns-clause-shown
returns-clause-shown g c =
    let publisher = c.args.self.now in
    let is = subst (λ (now : ℤ). IsShown publisher.watches.items publisher.streams.items now c.args.have_ended c.args.snapshot c.set_shown.new.snapshot) (to_z-of_z w64 c.args.now c.ranges.now) c.set_shown.ensures.shown in
    shows-given _ _ _ _ _ c.set_shown.new.snapshot _ _ _ is (c.write_lines.ensures.page.0 ∙ c.set_shown.ensures.page.0) c.show_page.ensures.shown

pub returns-clause-lines : goal.returns-clause-lines
returns-clause-lines g c =
    let publisher = c.args.self.now in
    let time = to_z-of_z w64 c.args.now c.ranges.now in (
      c.set_shown.new.snapshot,
      subst (λ (now : ℤ). IsShown publisher.watches.items publisher.streams.items now c.args.have_ended c.args.snapshot c.set_shown.new.snapshot) time c.set_shown.ensures.shown,
      lines-kept _ _ _ _ _ _ _ _ c.set_shown.new.snapshot (ap g.E.Write.contents c.set_shown.ensures.lines.1) (ap g.E.Write.contents (sym c.show_page.ensures.lines.1)) (sym c.show_page.ensures.lines.0) time c.write_lines.ensures.lines,
    )
