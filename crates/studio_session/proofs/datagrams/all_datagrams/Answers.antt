use Rattle.std.proofs.lemmas.Grind.{elements}
use Rattle.std.proofs.Common.{◌≡◌, ◌≤◌, ◌∷◌, [], ◌++◌, List, ℕ, length, map, is_some, true, refl, sym, subst, ap, ◌∙◌, arith}
use Rattle.std.proofs.lemmas.List.{length-map, length-take-le, map_push}
use Rattle.mix_packets.specs.OutSpec.{datagram_length}
use Rattle.studio_mix.specs.Ready.{is_ready}
use Rattle.studio_mix.specs.Output.{datagram_of}
use Rattle.studio_session.specs.Play.{HasPlayed, feeds_of}
use Rattle.studio_session.specs.Run.{HasGivenBlocks}
use Rattle.studio_mix.proofs.FirstBlockLemmas.{first_all, written_is}
use Rattle.studio_session.proofs.RunLemmas.{blocks_more}
use Rattle.studio_session.proofs.datagrams.all_datagrams.Goals as goal

pub slice_bounds-out-end : goal.slice_bounds-out-end
slice_bounds-out-end g c =
    let len : c.in-Some.len ≡ datagram_length c.args.session.now.mixer.packer.spec = c.in-Some.ensures.len ∙ ap datagram_length c.rounds.invariant.spec in
    let short = c.requires.short in
    let same : length c.next_datagram.new.out ≡ length c.rounds.out = c.next_datagram.auto.out in
    let long = same ∙ c.rounds.invariant.space in
    omega (arith, len, short, long)

pub slice_bounds-from_slice-end : goal.slice_bounds-from_slice-end
slice_bounds-from_slice-end g c =
    let len : c.in-Some.len ≡ datagram_length c.args.session.now.mixer.packer.spec = c.in-Some.ensures.len ∙ ap datagram_length c.rounds.invariant.spec in
    let short = c.requires.short in
    let same : length c.next_datagram.new.out ≡ length c.rounds.out = c.next_datagram.auto.out in
    let long = same ∙ c.rounds.invariant.space in
    let within : c.in-Some.len ≤ length c.next_datagram.new.out = omega (arith, len, short, long) in
    sym (length-take-le c.in-Some.len c.next_datagram.new.out within)

pub rounds-preserved : goal.rounds-preserved
rounds-preserved g c =
    let events = g.E.EventSource.events c.args.source.now in
    let inv = c.rounds.invariant in
    let len : c.in-Some.len ≡ datagram_length c.args.session.now.mixer.packer.spec = c.in-Some.ensures.len ∙ ap datagram_length inv.spec in
    let short = c.requires.short in
    let same : length c.next_datagram.new.out ≡ length c.rounds.out = c.next_datagram.auto.out in
    let long = same ∙ c.rounds.invariant.space in
    let within : c.in-Some.len ≤ length c.rounds.out = omega (arith, len, short, long, same) in
    let item = c.in_ok-datagram-in-Some.datagram in
    record {
      ready = c.next_datagram.ensures.ready;
      space = long;
      spec = c.next_datagram.ensures.spec ∙ inv.spec;
      stands = λ studio run played.
          let before = inv.stands studio run played in
          let datagrams : List (List ℕ) = map (λ d. d.items) c.rounds.datagrams.items in
          let n = length datagrams in
          let gives = c.in-Some.ensures.some studio n run before.played in
          let ready : is_ready studio.output (feeds_of studio events) n ≡ true =
          sym (c.next_datagram.ensures.given studio n run before.played) ∙ ap is_some c.in-Some.is in
          let is : item.items ≡ datagram_of studio (feeds_of studio events) n =
          c.in_ok-datagram-in-Some.ensures.items
          ∙ written_is (datagram_of studio (feeds_of studio events) n) c.rounds.out c.next_datagram.new.out c.in-Some.len gives.1 same within in
          let pushed : map (λ d. d.items) c.push.new.self.items ≡ datagrams ++ item.items ∷ [] =
          ap (map (λ d. d.items)) c.in_ok-push-in-Some.ensures.items ∙ map_push (λ d. d.items) c.rounds.datagrams.items item in
          subst (HasGivenBlocks studio events c.next_datagram.new.self) (sym pushed)
          (blocks_more studio events c.rounds.session c.next_datagram.new.self datagrams item.items before ready is gives.2);
    }

pub returns-in-None-clause-datagrams : goal.returns-in-None-clause-datagrams
returns-in-None-clause-datagrams g c = λ studio run played.
    let events = g.E.EventSource.events c.args.source.now in
    let given = c.rounds.invariant.stands studio run played in
    let datagrams : List (List ℕ) = map (λ d. d.items) c.rounds.datagrams.items in
    let last = c.next_datagram.ensures.given studio (length datagrams) run given.played in
    first_all studio (feeds_of studio events) datagrams given.first (sym last ∙ ap is_some c.in-None.is)

pub returns-in-None-clause-played : goal.returns-in-None-clause-played
returns-in-None-clause-played g c = λ studio run played.
    let events = g.E.EventSource.events c.args.source.now in
    let given = c.rounds.invariant.stands studio run played in
    let long : length (map (λ d. d.items) c.rounds.datagrams.items) ≡ length c.rounds.datagrams.items = length-map c.rounds.datagrams.items (λ d. d.items) in
    subst (HasPlayed studio events c.next_datagram.new.self) long (c.in-None.ensures.none refl studio (length (map (λ d. d.items) c.rounds.datagrams.items)) run given.played)

pub rounds-init : goal.rounds-init
rounds-init c = grind (arith, elements)
