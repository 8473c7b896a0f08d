use Rattle.std.proofs.Common.{◌≤◌, length, is_some, sym, ap, subst, ◌∙◌, arith}
use Rattle.studio_mix.specs.Mixer.{MixerState}
use Rattle.studio_engine.specs.Give.{HasNoBlock}
use Rattle.studio_engine.proofs.FillLemmas.{fewer_given, gives_block, no_block}
use Rattle.studio_engine.proofs.next_block.next_datagram.Goals as goal

pub returns-clause-some : goal.returns-clause-some
returns-clause-some c =
    gives_block c.args.cursors.now c.fill.new.cursors (record { mixer = c.args.mixer.now; cursors = c.args.cursors.now }) c.fill.new.mixer c.next_block.new.self (length c.args.cursors.now) c.args.out.now c.next_block.new.out c.next_block.result
    c.fill.ensures.stands
    (λ studio feeds next fed. c.next_block.ensures.ready studio feeds next fed)
    c.next_block.ensures.some

pub returns-clause-none : goal.returns-clause-none
returns-clause-none c = λ none studio events datagrams run taken given.
    let count = length c.args.cursors.now in
    let all : length c.fill.new.cursors ≤ count = omega (arith, c.fill.auto.cursors) in
    let filled = c.fill.ensures.stands studio events (length datagrams) run taken given.played in
    let same = (c.next_block.ensures.none none).0 in
    subst (λ m. HasNoBlock studio events (record { mixer = m; cursors = c.fill.new.cursors }) datagrams) (sym same)
    (no_block studio events c.fill.new.mixer c.fill.new.cursors (record { mixer = c.args.mixer.now; cursors = c.args.cursors.now }) count datagrams (is_some c.next_block.result) run all given filled
    (c.next_block.ensures.ready studio filled.played.feeds (length datagrams) filled.played.fed) (ap is_some none))

pub returns-clause-fewer : goal.returns-clause-fewer
returns-clause-fewer c =
    fewer_given c.args.mixer.now.packer c.fill.new.mixer.packer c.next_block.new.self.packer c.next_block.result
    c.fill.ensures.packer c.has_frames.ensures c.next_block.ensures.spec c.next_block.ensures.number c.next_block.ensures.early

pub returns-clause-left : goal.returns-clause-left
returns-clause-left c = λ none. ap (λ (m : MixerState). m.packer) (c.next_block.ensures.none none).0 ∙ c.fill.ensures.packer
