use Rattle.std.proofs.lemmas.Grind.{elements, common_steps}
use Rattle.std.proofs.Common.{◌≡◌, ◌/◌, length, length-take-le, drop, to_z, of_z, w64, arith, ap, ◌∙◌}
use Rattle.std.proofs.lemmas.Int.{ints}
use Rattle.pcap_file.proofs.ChangeLemmas.{read_of, unread}
use Rattle.pcap_file.proofs.decode.recorded_change.read_change.Goals as goal

pub returns-then-octets-ne0-clause-none : goal.returns-then-octets-ne0-clause-none
returns-then-octets-ne0-clause-none c = λ _.
    let is = c.in_ok-octets.ensures in
    unread c.args.payload.now _ c.in_ok-octets.octets is.0 is.1 c.then-octets-ne0.either

pub returns-clause-change : goal.returns-clause-change
returns-clause-change c =
    let is = c.in_ok-octets.ensures in
    let count : length c.read_i32_into.new.dst ≡ c.in_ok-octets.octets / 4 =
    omega (arith, c.read_i32_into.auto.dst, length-take-le (c.in_ok-octets.octets / 4) c.args.gains.now (omega (arith, c.if-count-gains.false))) in
    let before : to_z w64 (of_z w64 c.cast_signed.result) ≡ c.cast_signed.result = omega (arith, ints, c.cast_signed.type_inv) in
    read_of c.args.payload.now c.in_ok-octets.octets c.read_i32_into.new.dst (drop (c.in_ok-octets.octets / 4) c.args.gains.now) _ _ is.0 is.1 c.if-octets-ne0.false count c.read_i32_into.ensures
    (before ∙ c.cast_signed.ensures ∙ ap (to_z w64) c.read_u64.ensures) c.read_u64-2.ensures

pub read_i32_into-requires : goal.read_i32_into-requires
read_i32_into-requires c = grind (arith, elements)

pub returns-clause-none : goal.returns-clause-none
returns-clause-none c = grind (arith, elements)

pub returns-clause-rest : goal.returns-clause-rest
returns-clause-rest c = grind (arith, common_steps)
