use Rattle.std.proofs.Common.{◌≡◌, ◌+◌, ◌*◌, ◌/◌, ◌++◌, [], ◌∷◌, ℕ, List, length, take, get_or, ap, sym, ◌∙◌, arith}
use Rattle.wav_file.specs.Samples.{little_24}
use Rattle.wav_file.proofs.SamplesLemmas.{all_24, more_24}
use Rattle.wav_file.proofs.samples.to_little_endian_24.Goals as goal

pub loop-i-preserved : goal.loop-i-preserved
loop-i-preserved c =
    let xs : List ℕ = c.args.octets.now in
    let i : ℕ = c.loop-i.i in
    record {
      items = c.push-in-loop-i-2.ensures.items
          ∙ ap (λ l. l ++ get_or xs (3 * i) 0 ∷ []) (c.push-in-loop-i.ensures.items ∙ ap (λ l. l ++ get_or xs (3 * i + 1) 0 ∷ [])
          (c.push.ensures.items ∙ ap (λ l. l ++ get_or xs (3 * i + 2) 0 ∷ []) c.loop-i.invariant.items))
          ∙ sym (more_24 i xs (omega arith));
      len = omega (arith, c.push-in-loop-i-2.ensures.len, c.push-in-loop-i.ensures.len, c.push.ensures.len, c.loop-i.invariant.len);
    }

pub returns : goal.returns
returns c =
    let end : c.loop-i.i ≡ length c.args.octets.now / 3 = omega arith in
    c.loop-i.invariant.items ∙ ap (λ n. little_24 (take (3 * n) c.args.octets.now)) end ∙ all_24 c.args.octets.now
