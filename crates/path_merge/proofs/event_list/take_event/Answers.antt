use Rattle.std.proofs.Common.{rules, [], ◌∷◌, ◌++◌, length, sym, subst}
use Rattle.rtp_stream.specs.declared.event.Event.{Event}
use Rattle.rtp_stream.specs.declared.event.Event.TheVariants.{Close}
use Rattle.rtp_stream.specs.declared.packet.Packet.{Packet}
use Rattle.path_merge.specs.Run.{HasGiven}
use Rattle.path_merge.specs.Steps.{Offers}
use Rattle.path_merge.proofs.RunLemmas.{given_offered, given_closed}
use Rattle.path_merge.proofs.event_list.take_event.Goals as goal

pub returns-in-Arrive : goal.returns-in-Arrive
returns-in-Arrive g c = λ stream open_at events given.
    subst (λ (e : Event). HasGiven stream open_at c.offer_ref.new.self (events ++ e ∷ []) c.args.marks.now.items) (sym c.in-Arrive.is)
    (given_offered stream open_at c.offer_ref.new.self events c.args.marks.now.items c.in-Arrive.path c.in-Arrive.packet c.offer_ref.result given.all
    (subst (λ (p : Packet). Offers stream open_at c.offer_ref.new.self events (length c.args.marks.now.items) c.in-Arrive.path p c.offer_ref.result) c.as_ref.ensures.packet (c.offer_ref.ensures.stands stream open_at events (length c.args.marks.now.items) given.stands)))

pub returns-in_ok-drain_to-in-Close : goal.returns-in_ok-drain_to-in-Close
returns-in_ok-drain_to-in-Close g c = λ stream open_at events given.
    subst (λ (e : Event). HasGiven stream open_at c.drain_to.new.merge (events ++ e ∷ []) c.drain_to.new.marks.items) (sym c.in-Close.is)
    (c.in_ok-drain_to-in-Close.ensures stream open_at (events ++ Close ∷ []) (length c.args.marks.now.items) (c.close.ensures.stands stream open_at events (length c.args.marks.now.items) given.stands) (given_closed stream open_at c.close.new.self events c.args.marks.now.items given.all))

pub as_ref-requires : goal.as_ref-requires
as_ref-requires g c = search rules

pub offer_ref-requires-clause-path : goal.offer_ref-requires-clause-path
offer_ref-requires-clause-path g c = search rules

pub offer_ref-requires-clause-fits : goal.offer_ref-requires-clause-fits
offer_ref-requires-clause-fits g c = search rules

pub advance_to-requires : goal.advance_to-requires
advance_to-requires g c = search rules

pub branch-advance_to-requires : goal.branch-advance_to-requires
branch-advance_to-requires g c κs = search rules

pub from_residual-requires : goal.from_residual-requires
from_residual-requires g c κs = search rules

pub returns-in_err-advance_to-in-Tick : goal.returns-in_err-advance_to-in-Tick
returns-in_err-advance_to-in-Tick g c = search rules

pub close-requires : goal.close-requires
close-requires g c κs = search rules

pub drain_to-requires : goal.drain_to-requires
drain_to-requires g c = search rules

pub branch-drain_to-requires : goal.branch-drain_to-requires
branch-drain_to-requires g c κs = search rules

pub returns-in_err-drain_to-in-Close : goal.returns-in_err-drain_to-in-Close
returns-in_err-drain_to-in-Close g c = search rules

pub returns-in_ok-advance_to-in-Tick : goal.returns-in_ok-advance_to-in-Tick
returns-in_ok-advance_to-in-Tick g c = search rules
