use Rattle.std.proofs.lemmas.Grind.{elements}
use Rattle.std.proofs.Common.{◌≡◌, ◌≤◌, ◌*◌, ◌∙◌, Err, ap, sym, subst, arith, rules, replicate, take}
use Rattle.std.specs.Io.KnownBytes.{Appends}
use Rattle.wav_file.specs.Header.{frame_length}
use Rattle.wav_file.specs.Samples.{little_samples}
use Rattle.wav_file.specs.File.{WavState}
use Rattle.wav_file.proofs.SilenceLemmas.{count_more, silence_broken, silence_more, zeros_of}
use Rattle.wav_file.proofs.writer.WavWriter.push_silence.Goals as goal

-- src/writer.rt:91:13
pub returns-in_err-push-clause-fault : goal.returns-in_err-push-clause-fault
returns-in_err-push-clause-fault g c =
    let frame = c.from-frame.result in
    let count = c.min-count.result in
    let now = c.chunks.self in
    let size : frame ≡ frame_length now.format = c.from-frame.ensures ∙ c.frame_len.ensures ∙ ap (λ (w : WavState). frame_length w.format) c.self.view_is ∙ ap frame_length (sym c.chunks.invariant.format) in
    let fits : count * frame ≤ 1440 = grind arith in
    let zeros : little_samples now.format.enc (take (count * frame) (replicate 1440 0)) ≡ replicate (count * frame) 0 = rw size (zeros_of now.format count (rw (← size) fits)) in
    let is : c.from_residual.result ≡ Err c.in_err-push.field-0.0 = search rules in
    rw is (silence_broken _ _ _ c.args.self.now now c.push.new.self c.chunks.done frame c.in_err-push.ensures.fault.0 count c.args.instants _ c.chunks.invariant.count c.chunks.invariant.format
    (size ∙ ap frame_length c.chunks.invariant.format) (omega arith) c.chunks.invariant.wrote zeros c.in_err-push.ensures.fault.1 c.in_err-push.ensures.same)

-- src/writer.rt:89:9
pub chunks-preserved : goal.chunks-preserved
chunks-preserved g c =
    let frame = c.from-frame.result in
    let count = c.min-count.result in
    let now = c.chunks.self in
    let size : frame ≡ frame_length now.format = c.from-frame.ensures ∙ c.frame_len.ensures ∙ ap (λ (w : WavState). frame_length w.format) c.self.view_is ∙ ap frame_length (sym c.chunks.invariant.format) in
    let fits : count * frame ≤ 1440 = grind arith in
    let zeros : little_samples now.format.enc (take (count * frame) (replicate 1440 0)) ≡ replicate (count * frame) 0 = rw size (zeros_of now.format count (rw (← size) fits)) in
    record {
      within = omega arith;
      format = ap (λ (w : WavState). w.format) c.in_ok-push.ensures.counted ∙ c.chunks.invariant.format;
      count = count_more c.args.self.now.count now.count c.push.new.self.count c.chunks.done count frame _ c.chunks.invariant.count
          (ap (λ (w : WavState). w.count) c.in_ok-push.ensures.counted) zeros;
      wrote = silence_more _ _ _ c.chunks.done count frame c.chunks.invariant.wrote (subst (Appends _ _) zeros c.in_ok-push.ensures.ok);
    }

pub chunks-smaller : goal.chunks-smaller
chunks-smaller c = grind (arith, elements)

pub slice_bounds-push-end : goal.slice_bounds-push-end
slice_bounds-push-end c = grind (arith, elements)

pub returns-clause-counted : goal.returns-clause-counted
returns-clause-counted c = grind (arith, elements)

pub slice_bounds-zeros-end : goal.slice_bounds-zeros-end
slice_bounds-zeros-end c = grind (arith, elements)

pub chunks-init : goal.chunks-init
chunks-init c = grind (arith, elements)

pub push-requires : goal.push-requires
push-requires c = grind (arith, elements)
