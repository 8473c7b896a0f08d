use Rattle.std.proofs.lemmas.Grind.{elements}
use Rattle.std.proofs.Common.{◌≡◌, ◌+◌, ◌*◌, ◌-◌, ℤ, pos, ap, sym, ◌∙◌, min, length, take, drop, replicate, arith, length-take, length-drop}
use Rattle.std.proofs.lemmas.List.{length-replicate}
use Rattle.circular_buffer.specs.Buffer.{Buffer}
use Rattle.lane_align.specs.HeldValues.{Held, first_values, values_held}
use Rattle.lane_align.proofs.HeldLemmas.{values_read, rest_read, held_of}
use Rattle.lane_align.proofs.frame_queue.FrameQueue.read.Goals as goal

pub returns-clause-values : goal.returns-clause-values
returns-clause-values c =
    let q = c.self.inside in
    let block = ap (λ (h : Held). h.block * h.channels) c.self.view_is in
    let len : length c.args.out.now ≡ q.block * q.channels = c.requires.len ∙ sym block in
    let filled = c.fill.ensures.after (λ y e. e) ∙ ap (λ k. replicate k (pos 0)) len in
    values_read q.channels q.block q.lead q.front q.gap q.stored.items c.self.invariant c.min-silent.result c.read_into.result c.fill.new.self c.read_into.new.dst
    c.min-silent.ensures filled c.read_into.ensures.count c.read_into.ensures.read
    ∙ ap (first_values (q.block * q.channels)) (ap (λ (h : Held). h.values) c.self.view_is)
    ∙ ap (λ k. first_values k c.args.self.now.values) (sym len)

pub returns-clause-rest : goal.returns-clause-rest
returns-clause-rest c =
    let q = c.self.inside in
    let block = ap (λ (h : Held). h.block * h.channels) c.self.view_is in
    let len : length c.args.out.now ≡ q.block * q.channels = c.requires.len ∙ sym block in
    let filled = c.fill.ensures.after (λ y e. e) ∙ ap (λ k. replicate k (pos 0)) len in
    let z = c.min-silent.result * q.channels in
    let filled_len : length c.fill.new.self ≡ q.block * q.channels = ap length filled ∙ length-replicate (q.block * q.channels) (pos 0) in
    let part : length (take (length c.fill.new.self - z) (drop z c.fill.new.self)) ≡ q.block * q.channels - z = simp (length-take, length-drop) (omega arith) in
    let count : c.read_into.result ≡ min (q.block * q.channels - z) (length q.stored.items) = c.read_into.ensures.count ∙ ap (λ k. min k (length q.stored.items)) part in
    let lead = q.lead - c.min-silent.result + q.gap in
    ap (λ (b : Buffer ℤ). held_of q.channels q.block b.capacity (values_held q.channels lead 0 0 b.items)) c.read_into.ensures.items
    ∙ ap (held_of q.channels q.block q.stored.capacity) (rest_read q.channels q.block q.lead q.front q.gap q.stored.items c.self.invariant c.min-silent.result c.read_into.result c.min-silent.ensures count)
    ∙ ap (λ (h : Held). held_of h.channels h.block h.capacity (drop (h.block * h.channels) h.values)) c.self.view_is
    ∙ ap (λ k. held_of c.args.self.now.channels c.args.self.now.block c.args.self.now.capacity (drop k c.args.self.now.values)) (sym c.requires.len)

pub invariant_of-self : goal.invariant_of-self
invariant_of-self c = grind (arith, elements)

pub slice_bounds-read_into-count : goal.slice_bounds-read_into-count
slice_bounds-read_into-count c = grind (arith, elements)

pub slice_bounds-read_into-start : goal.slice_bounds-read_into-start
slice_bounds-read_into-start c = grind (arith, elements)
