use Rattle.std.proofs.Common.{rules, ◌∙◌, subst}
use Rattle.studio_ends.specs.Opening.{AllUnread}
use Rattle.studio_ends.proofs.OpenLemmas.{fresh_at, unread}
use Rattle.studio_ends.proofs.ReceiverLemmas.{receivers-all, silent-all}
use Rattle.studio_ends.proofs.ends.open_ends.Goals as goal

pub open_mix-requires-clause-unread : goal.open_mix-requires-clause-unread
open_mix-requires-clause-unread c =
    let all = c.in_ok-paths.ensures.fresh in
    subst (λ streams. AllUnread streams c.in_ok-paths.field-0.marks.items) c.streams.ensures.value (unread _ _ _ _ _ _ _ all.streams_are all.rings)

pub returns-clause-opened : goal.returns-clause-opened
returns-clause-opened c =
    let all = c.in_ok-paths.ensures.fresh in
    record {
      streams = fresh_at _ _ _ _ _ _ _ (search rules) c.streams.ensures.value all.streams_are;
      rings = rw c.in_ok-mix.ensures.fresh.0 all.rings;
      mix = c.in_ok-mix.ensures.fresh.1;
    }

pub returns-clause-receivers : goal.returns-clause-receivers
returns-clause-receivers c = λ h on.
    let streams = c.in_ok-paths.ensures in
    receivers-all _ _ _ (streams.wanted ∙ on) (streams.channels h) c.in_ok-mix.ensures.channel

pub returns-clause-silent : goal.returns-clause-silent
returns-clause-silent c = λ h off.
    let streams = c.in_ok-paths.ensures in
    silent-all _ _ _ (streams.wanted ∙ off) (streams.channels h) c.in_ok-mix.ensures.channel
