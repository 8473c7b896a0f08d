use Rattle.std.proofs.Common.{◌≡◌, length, rules, subst, sym}
use Rattle.studio_ends.specs.Stats.{Measures}
use Rattle.studio_ends.proofs.DatagramLemmas.{given-all, given-turn}
use Rattle.studio_ends.proofs.MixLemmas.{mixes}
use Rattle.studio_ends.proofs.mix_end.MixEnd.turn.Goals as goal

pub invariant_of-self-clause-measures : goal.invariant_of-self-clause-measures
invariant_of-self-clause-measures c =
    let spec : c.next_block-len.new.self.packer.spec ≡ c.args.self.now.mixer.packer.spec = search rules in
    subst (Measures c.send_stats.new.sender) (sym spec) (c.send_stats.ensures.measures c.args.self.now.mixer.packer.spec c.args.self.now.measures)

pub returns-clause-mixes : goal.returns-clause-mixes
returns-clause-mixes c = λ studio number h.
    let n = c.next_block-len.ensures in
    mixes studio c.args.self.now _ _ number _ _ c.take_streams-taken.new.mixer h c.take_streams-taken.ensures.took n.ready (λ e. (n.none e).0) n.some

pub returns-clause-given : goal.returns-clause-given
returns-clause-given c = λ studio datagrams h.
    given-turn studio c.args.self.now _ _ datagrams _ _ c.next_block-len.auto.out c.requires.space c.take_streams-taken.ensures.took.all (returns-clause-mixes c studio (length datagrams) h.feeds) h

pub returns-clause-all : goal.returns-clause-all
returns-clause-all c none = λ studio datagrams h.
    given-all studio c.args.self.now _ _ datagrams _ _ c.next_block-len.auto.out c.requires.space c.take_streams-taken.ensures.took.all (returns-clause-mixes c studio (length datagrams) h.feeds) none h
