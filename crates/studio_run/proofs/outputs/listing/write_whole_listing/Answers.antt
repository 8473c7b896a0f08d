use Rattle.std.proofs.Common.{◌≡◌, Err, subst, rules}
use Rattle.studio_run.specs.Buffer.{BreaksOff, PassesOn}
use Rattle.studio_run.specs.Listing.{listing_text}
use Rattle.studio_run.proofs.BufferLemmas.{BreaksOff-finished, PassesOn-finished}
use Rattle.studio_run.proofs.outputs.listing.write_whole_listing.Goals as goal

pub returns-in_err-write_listing-clause-fault : goal.returns-in_err-write_listing-clause-fault
returns-in_err-write_listing-clause-fault g c =
    let is : c.from_residual.result ≡ Err c.in_err-write_listing.field-0.0 = search rules in
    rw is (λ studio run new.
    subst (λ h. BreaksOff (g.W.Write.contents c.args.writer.now) h (g.W.Write.contents c.write_listing.new.writer) (listing_text studio (g.E.EventSource.events c.args.source.now))) c.requires.empty
    (c.in_err-write_listing.ensures.fault studio run new))

pub returns-in_err-finish-clause-fault : goal.returns-in_err-finish-clause-fault
returns-in_err-finish-clause-fault g c =
    let is : c.from_residual-in_err-finish.result ≡ Err c.in_err-finish.field-0.0 = search rules in
    rw is (λ studio run new.
    let listing = listing_text studio (g.E.EventSource.events c.args.source.now) in
    BreaksOff-finished _ _ _ c.write_listing.new.text listing
    (subst (λ h. PassesOn (g.W.Write.contents c.args.writer.now) h (g.W.Write.contents c.write_listing.new.writer) c.write_listing.new.text listing) c.requires.empty
    (c.in_ok-write_listing.ensures.ok studio run new)) c.in_err-finish.ensures.fault)

pub returns-clause-ok : goal.returns-clause-ok
returns-clause-ok g c = λ studio run new.
    let listing = listing_text studio (g.E.EventSource.events c.args.source.now) in
    PassesOn-finished _ _ _ c.write_listing.new.text listing
    (subst (λ h. PassesOn (g.W.Write.contents c.args.writer.now) h (g.W.Write.contents c.write_listing.new.writer) c.write_listing.new.text listing) c.requires.empty
    (c.in_ok-write_listing.ensures.ok studio run new)) c.in_ok-finish.ensures.ok
