use Rattle.std.proofs.Common.{◌≡◌, ◌≤◌, ◌+◌, ◌-◌, ◌++◌, ℕ, List, min, length, take, drop, refl, sym, ap, subst, ◌∙◌, arith, append_assoc}
use Rattle.std.specs.Io.KnownBytes.{Appends}
use Rattle.std.specs.Vec.{with_items}
use Rattle.std.proofs.lemmas.List.{length-drop, length-take, length-take-le, take_min, with_items_is}
use Rattle.pcap_file.specs.WholeBlocks.{joined}
use Rattle.live_io.specs.RecordWriter.{FailsBehind}
use Rattle.live_io.proofs.PassLemmas.{front, kept, over, passed, same_length}
use Rattle.live_io.proofs.WrittenLemmas.{more_written, part_recorded, same_front}
use Rattle.live_io.proofs.record.writer.RecordWriter.write_some.Goals as goal

pub returns-in-Err-clause-failed : goal.returns-in-Err-clause-failed
returns-in-Err-clause-failed g c = λ w.
    let self = c.args.self.now in
    let old = c.as_mut_slice-octets.result.now in
    let fresh = c.pop_partial_slice-taken.new.slice in
    let h = c.min-held.result in
    let t = c.pop_partial_slice-taken.result in
    let b = c.whole_blocks-blocks.result.len in
    let least = c.min-held.ensures in
    let was = c.as_mut_slice-octets.ensures.value in
    let got = c.pop_partial_slice-taken.ensures.received in
    let space = c.pop_partial_slice-taken.auto.slice in
    let now = over old h fresh in
    let hl : h ≤ length old = omega (arith, least) in
    let tl : t ≤ length fresh = let f = got.0 in omega (arith, f, space) in
    let within = c.whole_blocks-blocks.ensures.within in
    let bl : b ≤ h + t = let l = length-take (h + t) now in omega (arith, within, l) in
    let held : take self.held self.octets.items ≡ take h old =
    sym (take_min self.held self.octets.items) ∙ (ap (λ n. take n self.octets.items) (ap (λ (l : List ℕ). min self.held (length l)) (sym was) ∙ sym least) ∙ ap (take h) (sym was)) in
    let same = same_front b (h + t) now within in
    part_recorded self _ _ _ b (take (h + t) now) c.in-Err.failed _ w refl
    (got.1 ∙ (ap (λ l. l ++ take t fresh) (w.came ∙ ap (λ l. joined w.blocks ++ l) held) ∙ (append_assoc (joined w.blocks) (take h old) (take t fresh)
    ∙ ap (λ l. joined w.blocks ++ l) (sym (front old fresh h t b hl tl bl)))))
    (subst (λ l. FailsBehind self.paths (g.D.Write.contents c.args.file.now) (g.D.Write.contents c.append_blocks.new.file) self.len l c.in-Err.failed) same c.in-Err.ensures.failed)
    (omega (arith, c.in-Some.ensures.sum, c.in-Some.ensures.small)) (let l = length-take b (take (h + t) now) in omega (arith, l)) c.saturating_add.ensures refl refl

pub returns-clause-written : goal.returns-clause-written
returns-clause-written g c = λ w.
    let self = c.args.self.now in
    let old = c.as_mut_slice-octets.result.now in
    let fresh = c.pop_partial_slice-taken.new.slice in
    let h = c.min-held.result in
    let t = c.pop_partial_slice-taken.result in
    let b = c.whole_blocks-blocks.result.len in
    let least = c.min-held.ensures in
    let was = c.as_mut_slice-octets.ensures.value in
    let got = c.pop_partial_slice-taken.ensures.received in
    let space = c.pop_partial_slice-taken.auto.slice in
    let now = over old h fresh in
    let hl : h ≤ length old = omega (arith, least) in
    let part : length (take (length old - h) (drop h old)) ≡ length old - h =
    let d = length-drop h old in length-take-le (length old - h) (drop h old) (omega (arith, d)) in
    let size : length fresh ≡ length old - h = space ∙ part in
    let tl : t ≤ length fresh = let f = got.0 in omega (arith, f, space) in
    let within = c.whole_blocks-blocks.ensures.within in
    let bl : b ≤ h + t = let l = length-take (h + t) now in omega (arith, within, l) in
    let items = with_items_is self.octets c.copy_within.new.self (c.copy_within.auto.self ∙ (same_length old fresh h hl size ∙ c.as_mut_slice-octets.ensures.len)) in
    let held : take self.held self.octets.items ≡ take h old =
    sym (take_min self.held self.octets.items) ∙ (ap (λ n. take n self.octets.items) (ap (λ (l : List ℕ). min self.held (length l)) (sym was) ∙ sym least) ∙ ap (take h) (sym was)) in
    let whole = passed old fresh h t b hl tl bl in
    let same = same_front b (h + t) now within in
    let done = joined w.blocks in
    let tail : List ℕ = take (h + t - b) (with_items self.octets c.copy_within.new.self).items in
    more_written self _ _ _ _ (take (h + t) now) c.whole_blocks-blocks.ensures.whole w refl
    (got.1 ∙ (ap (λ l. l ++ take t fresh) (w.came ∙ ap (λ l. done ++ l) held) ∙ (append_assoc done (take h old) (take t fresh)
    ∙ (ap (λ l. done ++ l) (sym whole ∙ ap (λ l. take b now ++ take (h + t - b) l) (sym c.copy_within.ensures.after ∙ sym items)) ∙ sym (append_assoc done _ _))))
    ∙ ap (λ l. (done ++ l) ++ tail) same)
    (ap (take (h + t - b)) (items ∙ c.copy_within.ensures.after) ∙ kept old fresh h t b hl tl bl)
    (subst (λ l. Appends (g.D.Write.contents c.args.file.now) (g.D.Write.contents c.append_blocks.new.file) l) same c.in_default-append_blocks.ensures.ok)
    c.in-Some.ensures.sum c.in-Some.ensures.small c.saturating_add-self.ensures
