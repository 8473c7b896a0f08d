use Rattle.std.proofs.Common.{◌≡◌, ◌+◌, ◌*◌, ◌%◌, ◌++◌, ℕ, List, length, replicate, refl, arith, ap, ◌∙◌, length-append}
use Rattle.std.proofs.lemmas.List.{length-replicate}
use Rattle.byteorder.specs.Endian.{little_bytes}
use Rattle.pcap_file.specs.Blocks.{block_octets, padded}
use Rattle.pcap_file.proofs.PiecesLemmas.{zeros}
use Rattle.pcap_file.proofs.OverwritesLemmas.{IsFront, block_put, first_put, more_put}
use Rattle.pcap_file.proofs.encode.write_block.Goals as goal

pub returns : goal.returns
unfolding block_octets padded
returns c =
    let head : List ℕ = c.args.head.now in
    let octets : List ℕ = c.args.octets.now in
    let pad : List ℕ = replicate (3 * length octets % 4) 0 in
    let held : List ℕ = head ++ (octets ++ pad) in
    let all : List ℕ = c.args.out.now in
    let kind : List ℕ = little_bytes 4 c.args.kind in
    let len : List ℕ = little_bytes 4 (12 + length held) in
    let count : 12 + length head + length octets + 3 * length octets % 4 ≡ 12 + length held =
    omega (arith, length-append head (octets ++ pad), length-append octets pad, length-replicate {A = ℕ} (3 * length octets % 4) 0) in
    let f1 : IsFront c.write_at-place.result kind all c.write_at-place.new.out =
    first_put _ _ kind all _ c.write_at-place.ensures.written c.to_le_bytes.ensures (omega (arith, c.write_at-place.ensures.place)) in
    let f2 : IsFront c.write_at-place-2.result (kind ++ len) all c.write_at-place-2.new.out =
    more_put _ _ kind _ len all _ _ f1 c.write_at-place-2.ensures.written (c.to_le_bytes-2.ensures ∙ ap (little_bytes 4) count) c.write_at-place-2.ensures.place in
    let f3 : IsFront c.write_at-place-3.result (kind ++ len ++ head) all c.write_at-place-3.new.out =
    more_put _ _ (kind ++ len) head head all _ _ f2 c.write_at-place-3.ensures.written refl c.write_at-place-3.ensures.place in
    let f4 : IsFront c.write_at-place-4.result (kind ++ len ++ head ++ octets) all c.write_at-place-4.new.out =
    more_put _ _ (kind ++ len ++ head) octets octets all _ _ f3 c.write_at-place-4.ensures.written refl c.write_at-place-4.ensures.place in
    let f5 : IsFront c.write_at-place-5.result (kind ++ len ++ head ++ octets ++ pad) all c.write_at-place-5.new.out =
    more_put _ _ (kind ++ len ++ head ++ octets) _ pad all _ _ f4 c.write_at-place-5.ensures.written (zeros (length octets)) c.write_at-place-5.ensures.place in
    let f6 : IsFront c.write_at.result (kind ++ len ++ head ++ octets ++ pad ++ len) all c.write_at.new.out =
    more_put _ _ (kind ++ len ++ head ++ octets ++ pad) _ len all _ _ f5 c.write_at.ensures.written (c.to_le_bytes-3.ensures ∙ ap (little_bytes 4) count) c.write_at.ensures.place in
    let block = block_put c.write_at.result kind len head octets pad len all c.write_at.new.out f6 in
    record {
      written = block.are;
      len = block.place_is;
      short = omega (arith, block.place_is, count, length-append (kind ++ len ++ held) len, length-append (kind ++ len) held);
    }
