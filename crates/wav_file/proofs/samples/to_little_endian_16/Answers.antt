use Rattle.std.proofs.Common.{◌≡◌, ◌+◌, ◌*◌, ◌/◌, ◌++◌, [], ◌∷◌, ℕ, List, length, take, get_or, ap, sym, ◌∙◌, arith}
use Rattle.wav_file.specs.Samples.{little_16}
use Rattle.wav_file.proofs.SamplesLemmas.{all_16, more_16}
use Rattle.wav_file.proofs.samples.to_little_endian_16.Goals as goal

pub loop-i-preserved : goal.loop-i-preserved
loop-i-preserved c =
    let xs : List ℕ = c.args.octets.now in
    let i : ℕ = c.loop-i.i in
    record {
      items = c.push-in-loop-i.ensures.items
          ∙ ap (λ l. l ++ get_or xs (2 * i) 0 ∷ []) (c.push.ensures.items ∙ ap (λ l. l ++ get_or xs (2 * i + 1) 0 ∷ []) c.loop-i.invariant.items)
          ∙ sym (more_16 i xs (omega arith));
      len = omega (arith, c.push-in-loop-i.ensures.len, c.push.ensures.len, c.loop-i.invariant.len);
    }

pub returns : goal.returns
returns c =
    let end : c.loop-i.i ≡ length c.args.octets.now / 2 = omega arith in
    c.loop-i.invariant.items ∙ ap (λ n. little_16 (take (2 * n) c.args.octets.now)) end ∙ all_16 c.args.octets.now
