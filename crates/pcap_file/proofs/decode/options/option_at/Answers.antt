use Rattle.std.proofs.Common.{sym, ap, ◌∙◌, arith, ◌≡◌, ◌≢◌, ◌+◌, ◌-◌, ◌*◌, ◌/◌, Ok, Some, List, ℕ, length, take, drop, min}
use Rattle.std.proofs.lemmas.List.{take_rest}
use Rattle.pcap_file.specs.Options.{code_of, value_end, option_end}
use Rattle.pcap_file.proofs.OptionsLemmas.{option_of-few, option_of-end, option_of-cut, option_of-found, option_of-next}
use Rattle.pcap_file.proofs.decode.options.option_at.Goals as goal

pub returns-then-kind-eq0 : goal.returns-then-kind-eq0
returns-then-kind-eq0 c =
    sym (option_of-end c.args.order c.args.code c.loop-rest.rest.now (omega arith) (omega arith)) ∙ c.loop-rest.invariant

pub returns-then-rest-end : goal.returns-then-rest-end
returns-then-rest-end c =
    let some : code_of c.args.order c.loop-rest.rest.now ≢ 0 = λ e. c.if-kind-eq0.false (omega arith) in
    sym (option_of-cut c.args.order c.args.code c.loop-rest.rest.now (omega arith) some (omega arith)) ∙ c.loop-rest.invariant

pub returns-then-kind-code : goal.returns-then-kind-code
returns-then-kind-code c =
    let rest : List ℕ = c.loop-rest.rest.now in
    let some : code_of c.args.order rest ≢ 0 = λ e. c.if-kind-eq0.false (omega arith) in
    let end : 4 + c.from-end.result ≡ value_end c.args.order rest = omega arith in
    ap (λ n. Ok (Some (take (n - 4) (drop 4 rest)))) end
    ∙ sym (option_of-found c.args.order c.args.code rest (omega arith) some (omega arith) (omega arith)) ∙ c.loop-rest.invariant

pub loop-rest-preserved : goal.loop-rest-preserved
loop-rest-preserved c =
    let rest : List ℕ = c.loop-rest.rest.now in
    let some : code_of c.args.order rest ≢ 0 = λ e. c.if-kind-eq0.false (omega arith) in
    let differs : code_of c.args.order rest ≢ c.args.code = λ e. c.if-kind-code.false (omega arith) in
    let step : c.min.result ≡ min (option_end c.args.order rest) (length rest) = c.min.ensures ∙ ap (λ n. min (4 * ((4 + n + 3) / 4)) (length rest)) (c.from-end.ensures ∙ c.read_u16.ensures) in
    option_of-next c.args.order c.args.code rest _ (omega arith) some (omega arith) differs (take_rest rest c.min.result ∙ ap (λ n. drop n rest) step)
    ∙ c.loop-rest.invariant

pub returns : goal.returns
returns c = sym (option_of-few c.args.order c.args.code c.loop-rest.rest.now (omega arith)) ∙ c.loop-rest.invariant
