use Rattle.std.proofs.lemmas.Grind.{common_steps, elements}
use Rattle.std.proofs.Common.{◌≡◌, ◌<◌, true, ◌+◌, ◌*◌, ◌++◌, ◌^◌, ℕ, ℤ, pos, ◌+ℤ◌, ◌≤ℤ◌, length, take, drop, All, sym, ap, subst, ◌∙◌, arith, to_z, of_z, w64, flat_map}
use Rattle.std.proofs.lemmas.Int.{ints}
use Rattle.std.specs.List.{range_with_len}
use Rattle.rtp_wire.specs.Sample.{FitsEncoding}
use Rattle.gain_mix.specs.Mix.{Is24Bits, IsMixed, mixed_frame}
use Rattle.gain_mix.specs.Changes.{matrix_at, rest_at}
use Rattle.gain_mix.specs.Gain.{ins_of}
use Rattle.gain_mix.specs.Saturated.{AreAdded, saturated_count}
use Rattle.mix_packets.specs.declared.out_spec.Output.{Output}
use Rattle.mix_packets.specs.OutSpec.{datagram_length, shift_of}
use Rattle.mix_packets.specs.Block.{block_start, block_datagram}
use Rattle.studio_mix.specs.Feed.{studio_values}
use Rattle.studio_mix.specs.Mixed.{mixed_samples}
use Rattle.studio_mix.specs.Output.{block_samples, datagram_of}
use Rattle.studio_mix.specs.Missing.{missing_from, missing_in}
use Rattle.studio_mix.specs.MissingLanes.{heard_lanes, missing_among}
use Rattle.studio_mix.specs.Lanes.{AreFed, ArePresent, IsLaneAt, IsReadyLane, lane_channels}
use Rattle.studio_mix.specs.Mixer.{MixerState, HasFeeds}
use Rattle.studio_mix.specs.Ready.{are_covered}
use Rattle.studio_mix.specs.LaneCapacity.{capacities_of}
use Rattle.studio_mix.proofs.MixerLemmas.{block_begin, next_start}
use Rattle.studio_mix.proofs.LawLemmas.{ready_covered, same_rows}
use Rattle.studio_mix.proofs.ChangedLemmas.{fed_matrix}
use Rattle.studio_mix.proofs.SaturatedLemmas.{saturated_next}
use Rattle.studio_mix.proofs.RowLemmas.{rows_whole}
use Rattle.studio_mix.proofs.LastLemmas.{last_next}
use Rattle.studio_mix.proofs.MissingLemmas.{heard_is, missing_by, missing_is}
use Rattle.studio_mix.proofs.NextLemmas.{lent, mixed_fits, mixed_rows, next_fed, next_sound, next_datagram}
use Rattle.studio_mix.proofs.mixer.Mixer.next_block.Goals as goal

pub read_lanes-requires-clause-ready : goal.read_lanes-requires-clause-ready
read_lanes-requires-clause-ready c =
    let i = c.self.inside in
    let frames : c.args.self.now.packer.spec.frames ≡ c.from-frames.result =
    sym (c.from-frames.ensures ∙ c.frames.ensures.value ∙ ap (λ (o : Output). o.frames) c.self.invariant.out_is ∙ ap (λ (m : MixerState). m.packer.spec.frames) c.self.view_is) in
    let lanes : c.args.self.now.lanes ≡ c.as_mut_slice.result.now = sym (c.as_mut_slice.ensures.value ∙ ap (λ (m : MixerState). m.lanes) c.self.view_is) in
    subst (λ n. All (IsReadyLane n) c.as_mut_slice.result.now) frames
    (subst (All (IsReadyLane c.args.self.now.packer.spec.frames)) lanes (c.is_ready.ensures.lanes c.if-not-is_ready.false))

pub mix_counted-requires-clause-in_24_bits : goal.mix_counted-requires-clause-in_24_bits
mix_counted-requires-clause-in_24_bits c =
    let i = c.self.inside in
    let back = lent i.ins.len (length c.read_lanes.new.ins) c.read_lanes.new.ins i.ins.items (c.read_lanes.auto.ins ∙ c.as_mut_slice-3.ensures.len) in
    subst (All Is24Bits) (sym (c.as_slice.ensures.value ∙ back)) c.read_lanes.ensures.in_24_bits

pub next-len-requires-clause-fit : goal.next-len-requires-clause-fit
next-len-requires-clause-fit c =
    let i = c.self.inside in
    let sound = c.self.invariant in
    let t : ℤ = to_z w64 (of_z w64 i.time) in
    let back = lent i.outs.len (length c.mix_counted.new.outs) c.mix_counted.new.outs i.outs.items (c.mix_counted.auto.outs ∙ c.as_mut_slice-4.ensures.len) in
    let frames : c.from-frames.result ≡ i.output.frames = c.from-frames.ensures ∙ c.frames.ensures.value in
    let mixed : IsMixed (λ f. matrix_at i.schedule (t +ℤ pos f)) c.as_slice.result.now c.mix_counted.new.outs c.from-frames.result c.shift.result = c.mix_counted.ensures.mixed in
    let high : (u : ℤ) → length (matrix_at i.schedule u) ≡ length i.schedule.first = c.mix_counted.ensures.outs in
    let wide : (u : ℤ) → ins_of (matrix_at i.schedule u) ≡ ins_of i.schedule.first = c.mix_counted.ensures.ins in
    let shift : c.shift.result ≡ shift_of i.packer.spec.enc = c.shift.ensures ∙ ap (λ (o : Output). shift_of o.enc) sound.out_is in
    let len : length c.mix_counted.new.outs ≡ c.from-frames.result * length i.schedule.first =
    c.mix_counted.auto.outs ∙ ap length c.as_mut_slice-4.ensures.value ∙ sound.outs_length ∙ ap (λ k. i.output.frames * k) (sym sound.height) ∙ ap (λ k. k * length i.schedule.first) (sym frames) in
    subst (All (FitsEncoding i.packer.spec.enc)) (sym (c.as_slice-2.ensures.value ∙ back))
    (mixed_fits i.packer.spec.enc i.schedule t c.as_slice.result.now c.mix_counted.new.outs c.from-frames.result c.shift.result (ins_of i.schedule.first) (length i.schedule.first) shift mixed high wide len)

pub invariant_of-self : goal.invariant_of-self
invariant_of-self c =
    let i = c.self.inside in
    let sound = c.self.invariant in
    let lanes = lent i.lanes.len (length c.read_lanes.new.lanes) c.read_lanes.new.lanes i.lanes.items (c.read_lanes.auto.lanes ∙ c.as_mut_slice.ensures.len) in
    let one = lent i.one.len (length c.read_lanes.new.one) c.read_lanes.new.one i.one.items (c.read_lanes.auto.one ∙ c.as_mut_slice-2.ensures.len) in
    let ins = lent i.ins.len (length c.read_lanes.new.ins) c.read_lanes.new.ins i.ins.items (c.read_lanes.auto.ins ∙ c.as_mut_slice-3.ensures.len) in
    let outs = lent i.outs.len (length c.mix_counted.new.outs) c.mix_counted.new.outs i.outs.items (c.mix_counted.auto.outs ∙ c.as_mut_slice-4.ensures.len) in
    let counts = lent i.saturated.len (length c.mix_counted.new.counts) c.mix_counted.new.counts i.saturated.items (c.mix_counted.auto.counts ∙ c.as_mut_slice-5.ensures.len) in
    let frames : c.from-frames.result ≡ i.output.frames = c.from-frames.ensures ∙ c.frames.ensures.value in
    let late = sound.not_late in
    let few = sound.out_ok.few_frames in
    let later : to_z w64 (of_z w64 (to_z w64 (of_z w64 i.time) +ℤ to_z w64 (of_z w64 c.from.result))) ≡ i.time +ℤ pos i.output.frames = omega (arith, ints, c.from.ensures, c.frames-2.ensures.value) in
    let early : i.time ≤ℤ pos (2 ^ 61 + 192) =
    subst (λ t. t ≤ℤ pos (2 ^ 61 + 192)) (sym (sound.time_is ∙ ap (λ o. block_start o i.packer.number) sound.out_is ∙ ap (λ (m : MixerState). block_start m.packer.spec m.packer.number) c.self.view_is))
    (c.is_ready.ensures.early c.if-not-is_ready.false) in
    let moved : All (IsLaneAt c.from-frames.result (i.time +ℤ pos c.from-frames.result)) c.read_lanes.new.lanes =
    c.read_lanes.ensures.moved i.time (subst (λ n. All (IsLaneAt n i.time) c.as_mut_slice.result.now) (sym frames) (subst (All (IsLaneAt i.output.frames i.time)) (sym c.as_mut_slice.ensures.value) sound.each_lane)) in
    let channels : lane_channels c.read_lanes.new.lanes ≡ lane_channels c.as_mut_slice.result.now = c.read_lanes.ensures.channels in
    next_sound (record { lanes = i.lanes.items; schedule = i.schedule; packer = i.packer; saturated = i.saturated.items; inputs = i.ins.items; missing = i.missing }) i.output i.time i.one.items i.ins.items i.outs.items _ c.next-len.new.self _ _ _ _ _ _ c.pass.new.self
    sound early c.next-len.ensures.number later
    (subst (All (IsLaneAt i.output.frames (i.time +ℤ pos i.output.frames))) (sym lanes) (subst (λ n. All (IsLaneAt n (i.time +ℤ pos n)) c.read_lanes.new.lanes) frames moved))
    (ap length lanes ∙ c.read_lanes.auto.lanes ∙ ap length c.as_mut_slice.ensures.value)
    (ap lane_channels lanes ∙ channels ∙ ap lane_channels c.as_mut_slice.ensures.value)
    (ap length one ∙ c.read_lanes.auto.one ∙ ap length c.as_mut_slice-2.ensures.value)
    (ap length ins ∙ c.read_lanes.auto.ins ∙ ap length c.as_mut_slice-3.ensures.value)
    (ap length outs ∙ c.mix_counted.auto.outs ∙ ap length c.as_mut_slice-4.ensures.value)
    (subst (All Is24Bits) (sym ins) c.read_lanes.ensures.in_24_bits)
    (ap length counts ∙ c.mix_counted.auto.counts ∙ ap length c.as_mut_slice-5.ensures.value)
    c.pass.ensures.outs c.pass.ensures.ins

pub returns-clause-some : goal.returns-clause-some
returns-clause-some c = λ studio feeds number fed.
    let i = c.self.inside in
    let sound = c.self.invariant in
    let mixer : MixerState = record { lanes = i.lanes.items; schedule = i.schedule; packer = i.packer; saturated = i.saturated.items; inputs = i.ins.items; missing = i.missing } in
    let fed' : HasFeeds studio mixer feeds number = subst (λ m. HasFeeds studio m feeds number) (sym c.self.view_is) fed in
    let late = sound.not_late in
    let now : to_z w64 (of_z w64 i.time) ≡ i.time = omega (arith, ints) in
    let begin : to_z w64 (of_z w64 i.time) ≡ block_start studio.output number = now ∙ block_begin studio mixer feeds number i.output i.time i.one.items i.ins.items i.outs.items sound fed' in
    let t : ℤ = to_z w64 (of_z w64 i.time) in
    let out : i.output ≡ studio.output = sound.out_is ∙ fed'.output in
    let frames : c.from-frames.result ≡ studio.output.frames = c.from-frames.ensures ∙ c.frames.ensures.value ∙ ap (λ (o : Output). o.frames) out in
    let lanes = lent i.lanes.len (length c.read_lanes.new.lanes) c.read_lanes.new.lanes i.lanes.items (c.read_lanes.auto.lanes ∙ c.as_mut_slice.ensures.len) in
    let ins = lent i.ins.len (length c.read_lanes.new.ins) c.read_lanes.new.ins i.ins.items (c.read_lanes.auto.ins ∙ c.as_mut_slice-3.ensures.len) in
    let back = lent i.outs.len (length c.mix_counted.new.outs) c.mix_counted.new.outs i.outs.items (c.mix_counted.auto.outs ∙ c.as_mut_slice-4.ensures.len) in
    let mixed : IsMixed (λ f. matrix_at i.schedule (t +ℤ pos f)) c.as_slice.result.now c.mix_counted.new.outs c.from-frames.result c.shift.result = c.mix_counted.ensures.mixed in
    let high : (u : ℤ) → length (matrix_at i.schedule u) ≡ length i.schedule.first = c.mix_counted.ensures.outs in
    let wide : (u : ℤ) → ins_of (matrix_at i.schedule u) ≡ ins_of i.schedule.first = c.mix_counted.ensures.ins in
    let width : c.ins-width.result ≡ ins_of i.schedule.first = c.ins-width.ensures.first in
    let len : length c.mix_counted.new.outs ≡ c.from-frames.result * length i.schedule.first =
    c.mix_counted.auto.outs ∙ ap length c.as_mut_slice-4.ensures.value ∙ sound.outs_length ∙ ap (λ k. i.output.frames * k) (sym sound.height) ∙ ap (λ k. k * length i.schedule.first) (sym (c.from-frames.ensures ∙ c.frames.ensures.value)) in
    let was_fed : AreFed studio.output.start c.from-frames.result c.as_mut_slice.result.now feeds (block_start studio.output number) =
    subst (λ n. AreFed studio.output.start n c.as_mut_slice.result.now feeds (block_start studio.output number)) (sym frames)
    (subst (λ ls. AreFed studio.output.start studio.output.frames ls feeds (block_start studio.output number)) (sym c.as_mut_slice.ensures.value) fed'.lanes) in
    let known : (f : ℕ) → f < c.from-frames.result → take (ins_of i.schedule.first) (drop (f * ins_of i.schedule.first) c.as_slice.result.now) ≡ studio_values feeds (block_start studio.output number +ℤ pos f) =
    λ f h. ap (λ l. take (ins_of i.schedule.first) (drop (f * ins_of i.schedule.first) l)) (c.as_slice.ensures.value ∙ ins)
    ∙ ap (λ k. take k (drop (f * k) c.read_lanes.new.ins)) (sym width)
    ∙ c.read_lanes.ensures.values studio.output.start feeds (block_start studio.output number) was_fed f h in
    let samples : c.mix_counted.new.outs ≡ block_samples studio feeds number =
    mixed_rows i.schedule t c.as_slice.result.now c.mix_counted.new.outs c.from-frames.result c.shift.result (ins_of i.schedule.first) (length i.schedule.first) (λ f. studio_values feeds (block_start studio.output number +ℤ pos f)) mixed high wide len known
    ∙ ap (λ u. flat_map (λ f. mixed_frame (matrix_at i.schedule (u +ℤ pos f)) (studio_values feeds (block_start studio.output number +ℤ pos f)) c.shift.result) (range_with_len 0 c.from-frames.result)) begin
    ∙ same_rows (λ f. mixed_frame (matrix_at i.schedule (block_start studio.output number +ℤ pos f)) (studio_values feeds (block_start studio.output number +ℤ pos f)) c.shift.result)
    (λ f. mixed_frame (matrix_at studio.schedule (block_start studio.output number +ℤ pos f)) (studio_values feeds (block_start studio.output number +ℤ pos f)) c.shift.result) 0 c.from-frames.result
    (λ f h. ap (λ m. mixed_frame m (studio_values feeds (block_start studio.output number +ℤ pos (0 + f))) c.shift.result) (fed_matrix studio mixer feeds number (block_start studio.output number +ℤ pos (0 + f)) fed' (omega (arith, ints))))
    ∙ ap (λ k. flat_map (λ f. mixed_frame (matrix_at studio.schedule (block_start studio.output number +ℤ pos f)) (studio_values feeds (block_start studio.output number +ℤ pos f)) k) (range_with_len 0 c.from-frames.result)) (c.shift.ensures ∙ ap (λ (o : Output). shift_of o.enc) out)
    ∙ ap (λ n. flat_map (λ f. mixed_samples studio feeds (block_start studio.output number +ℤ pos f)) (range_with_len 0 n)) frames in
    let covered : are_covered feeds (block_start studio.output (number + 1)) ≡ true = ready_covered studio.output feeds number (sym (c.is_ready.ensures.stands studio feeds number fed) ∙ c.if-not-is_ready.false) in
    let values : (f : ℕ) → f < c.from-frames.result → take (ins_of (matrix_at i.schedule (t +ℤ pos f))) (drop (f * ins_of (matrix_at i.schedule (t +ℤ pos f))) c.as_slice.result.now) ≡ studio_values feeds (t +ℤ pos f) =
    λ f h. ap (λ w. take w (drop (f * w) c.as_slice.result.now)) (wide (t +ℤ pos f)) ∙ known f h ∙ ap (λ u. studio_values feeds (u +ℤ pos f)) (sym begin) in
    let more : ℕ → ℕ = λ channel. saturated_count (λ f. matrix_at i.schedule (t +ℤ pos f)) c.as_slice.result.now c.shift.result channel c.from-frames.result in
    let counts = lent i.saturated.len (length c.mix_counted.new.counts) c.mix_counted.new.counts i.saturated.items (c.mix_counted.auto.counts ∙ c.as_mut_slice-5.ensures.len) in
    let counted : AreAdded i.saturated.items (take i.saturated.len (c.mix_counted.new.counts ++ drop (length c.mix_counted.new.counts) i.saturated.items)) more =
    subst (λ new. AreAdded i.saturated.items new more) (sym counts) (subst (λ old. AreAdded old c.mix_counted.new.counts more) c.as_mut_slice-5.ensures.value c.mix_counted.ensures.counted) in
    let moved : AreFed studio.output.start c.from-frames.result c.read_lanes.new.lanes feeds (block_start studio.output number +ℤ pos c.from-frames.result) =
    c.read_lanes.ensures.stands studio.output.start feeds (block_start studio.output number) was_fed in
    let few = sound.out_ok.few_frames in
    let end = next_start studio.output number in
    let size : i.output.frames ≡ studio.output.frames = ap (λ (o : Output). o.frames) out in
    let next : to_z w64 (of_z w64 (to_z w64 (of_z w64 (to_z w64 (of_z w64 i.time) +ℤ to_z w64 (of_z w64 c.from.result))))) ≡ block_start studio.output (number + 1) = omega (arith, ints, c.from.ensures, c.frames-2.ensures.value, begin, end, size) in
    let inputs_len : length c.read_lanes.new.ins ≡ c.from-frames.result * c.ins-width.result =
    c.read_lanes.auto.ins ∙ ap length c.as_mut_slice-3.ensures.value ∙ sound.ins_length ∙ ap (λ k. i.output.frames * k) (sym width) ∙ ap (λ k. k * c.ins-width.result) (sym (c.from-frames.ensures ∙ c.frames.ensures.value)) in
    let inputs = ins
    ∙ rows_whole c.ins-width.result (λ f. studio_values feeds (block_start studio.output number +ℤ pos f)) 0 c.from-frames.result c.read_lanes.new.ins inputs_len
    (λ f h. c.read_lanes.ensures.values studio.output.start feeds (block_start studio.output number) was_fed f h
    ∙ ap (λ k. studio_values feeds (block_start studio.output number +ℤ pos k)) (let e : f ≡ 0 + f = omega arith in e))
    ∙ ap (λ n. flat_map (λ f. studio_values feeds (block_start studio.output number +ℤ pos f)) (range_with_len 0 n)) frames in
    let here = block_start studio.output number in
    let later : AreFed studio.output.start studio.output.frames c.read_lanes.new.lanes feeds (here +ℤ pos studio.output.frames) =
    subst (λ n. AreFed studio.output.start n c.read_lanes.new.lanes feeds (here +ℤ pos n)) frames moved in
    let present : ArePresent studio.output.frames c.read_lanes.new.lanes feeds here =
    subst (λ n. ArePresent n c.read_lanes.new.lanes feeds here) frames (c.read_lanes.ensures.present studio.output.start feeds here was_fed) in
    let gains : (u : ℤ) → here ≤ℤ u → matrix_at i.schedule u ≡ matrix_at studio.schedule u = λ u h. fed_matrix studio mixer feeds number u fed' h in
    let missing : c.missing_among-self-inside.result ≡ missing_in studio feeds number =
    c.missing_among-self-inside.ensures
    ∙ ap (λ ls. missing_among ls i.schedule t) (c.as_slice-3.ensures.value ∙ lanes)
    ∙ ap (missing_among c.read_lanes.new.lanes i.schedule) begin
    ∙ ap (λ n. missing_by n (heard_lanes i.schedule here 0 c.read_lanes.new.lanes)) (missing_is studio i.schedule studio.output.start 0 c.read_lanes.new.lanes feeds here (here +ℤ pos studio.output.frames) later present gains)
    ∙ ap (missing_by (missing_from studio 0 feeds here)) (heard_is studio i.schedule studio.output.start 0 c.read_lanes.new.lanes feeds here (here +ℤ pos studio.output.frames) later present gains) in
    let length_is : c.next-len.result ≡ datagram_length studio.output = c.next-len.ensures.len ∙ ap datagram_length fed'.output in
    let written : c.next-len.new.out ≡ block_datagram i.packer.spec i.packer.number c.as_slice-2.result.now ++ drop (datagram_length i.packer.spec) c.args.out.now = c.next-len.ensures.written in (
      length_is,
      written
          ∙ ap (λ l. block_datagram i.packer.spec i.packer.number l ++ drop (datagram_length i.packer.spec) c.args.out.now) (c.as_slice-2.ensures.value ∙ back)
          ∙ ap (λ l. l ++ drop (datagram_length i.packer.spec) c.args.out.now) (next_datagram studio mixer feeds number c.mix_counted.new.outs fed' samples)
          ∙ ap (λ k. datagram_of studio feeds number ++ drop k c.args.out.now) (sym c.next-len.ensures.len),
      next_fed studio mixer feeds number _ c.next-len.new.self _ _ _ c.pass.new.self fed' c.next-len.ensures.number
          (subst (λ ls. AreFed studio.output.start studio.output.frames ls feeds (block_start studio.output number +ℤ pos studio.output.frames)) (sym lanes)
          (subst (λ n. AreFed studio.output.start n c.read_lanes.new.lanes feeds (block_start studio.output number +ℤ pos n)) frames moved))
          (saturated_next studio feeds number i.saturated.items _ i.schedule t c.as_slice.result.now c.from-frames.result c.shift.result fed'.saturated covered (λ f. fed_matrix studio mixer feeds number (t +ℤ pos f) fed' (omega (arith, ints, begin))) (c.shift.ensures ∙ ap (λ (o : Output). shift_of o.enc) out) frames begin values counted)
          (last_next studio feeds number _ _ inputs missing)
          (subst (λ u. c.pass.new.self ≡ rest_at i.schedule u) next c.pass.ensures.rest) c.pass.ensures.ins,
    )

pub returns-clause-capacities : goal.returns-clause-capacities
returns-clause-capacities c =
    let i = c.self.inside in
    let lanes = lent i.lanes.len (length c.read_lanes.new.lanes) c.read_lanes.new.lanes i.lanes.items (c.read_lanes.auto.lanes ∙ c.as_mut_slice.ensures.len) in
    ap capacities_of lanes ∙ c.read_lanes.ensures.capacities ∙ ap capacities_of c.as_mut_slice.ensures.value ∙ ap (λ (m : MixerState). capacities_of m.lanes) c.self.view_is

pub mix_counted-requires-clause-counts_len : goal.mix_counted-requires-clause-counts_len
mix_counted-requires-clause-counts_len c = grind (arith, elements)

pub returns-clause-streams : goal.returns-clause-streams
returns-clause-streams c = grind (arith, elements)

pub mix_counted-requires-clause-not_late : goal.mix_counted-requires-clause-not_late
mix_counted-requires-clause-not_late c = grind (arith, elements)

pub mix_counted-requires-clause-outs_len : goal.mix_counted-requires-clause-outs_len
mix_counted-requires-clause-outs_len c = grind (arith, elements)

pub mix_counted-requires-clause-shift : goal.mix_counted-requires-clause-shift
mix_counted-requires-clause-shift c = grind (arith, elements)

pub next-len-requires-clause-whole : goal.next-len-requires-clause-whole
next-len-requires-clause-whole c = grind (arith, elements)

pub read_lanes-requires-clause-width : goal.read_lanes-requires-clause-width
read_lanes-requires-clause-width c = grind (arith, elements)

pub returns-clause-none : goal.returns-clause-none
returns-clause-none c = grind (arith, elements)

pub mix_counted-requires-clause-ins_len : goal.mix_counted-requires-clause-ins_len
mix_counted-requires-clause-ins_len c = grind (arith, elements)

pub returns-clause-len : goal.returns-clause-len
returns-clause-len c = grind (arith, elements)

pub returns-clause-number : goal.returns-clause-number
returns-clause-number c = grind (arith, elements)

pub read_lanes-requires-clause-in_24_bits : goal.read_lanes-requires-clause-in_24_bits
read_lanes-requires-clause-in_24_bits c = grind (arith, elements)

pub next-len-requires-clause-space : goal.next-len-requires-clause-space
next-len-requires-clause-space c = grind (arith, elements)

pub returns-clause-early : goal.returns-clause-early
returns-clause-early c = grind (arith, common_steps)

pub read_lanes-requires-clause-ins : goal.read_lanes-requires-clause-ins
read_lanes-requires-clause-ins c = grind (arith, elements)

pub overflow_add-self : goal.overflow_add-self
overflow_add-self c = grind (arith, common_steps)

pub mix_counted-requires-clause-not_early : goal.mix_counted-requires-clause-not_early
mix_counted-requires-clause-not_early c = grind (arith, common_steps)

pub returns-clause-spec : goal.returns-clause-spec
returns-clause-spec c = grind (arith, elements)
