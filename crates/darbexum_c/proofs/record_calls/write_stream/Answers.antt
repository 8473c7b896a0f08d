-- A stream that has a specification is there.
use Rattle.std.proofs.Common.{◌≡◌, nat_lt, false, ap, ◌∙◌, arith}
use Rattle.std.proofs.lemmas.Bool.Decides.{nat_tests}
use Rattle.darbexum_c.specs.Records.{stream_record}
use Rattle.darbexum_c.proofs.CodeLemmas.{stream_found, stream_lacking, stream_missing, stream_there}
use Rattle.darbexum_c.proofs.record_calls.write_stream.Goals as goal

pub returns-in-Some-clause-stands : goal.returns-in-Some-clause-stands
returns-in-Some-clause-stands c low studio events datagrams spec s at =
    c.of.ensures ∙ ap (stream_record c.args.out.now.size) (c.in-Some.ensures.stands studio events datagrams spec s at)

pub returns-in-Some-clause-exact : goal.returns-in-Some-clause-exact
returns-in-Some-clause-exact c =
    let wide : nat_lt c.args.out.now.size 40 ≡ false = grind (arith, nat_tests, c.if-size-lt-STREAM_SIZE.false) in
    stream_found c.args.engine.now c.args.stream c.args.out.now.size wide (stream_there c.args.engine.now.cursors c.args.stream c.in-Some.spec c.in-Some.ensures.value)

pub returns-in-None-clause-exact : goal.returns-in-None-clause-exact
returns-in-None-clause-exact c =
    let wide : nat_lt c.args.out.now.size 40 ≡ false = grind (arith, nat_tests, c.if-size-lt-STREAM_SIZE.false) in
    stream_lacking c.args.engine.now c.args.stream c.args.out.now.size wide (stream_missing c.args.engine.now.cursors c.args.stream c.in-None.ensures.value)
