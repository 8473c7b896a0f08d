-- A block's datagram as it is written, and what a reader finds in it.
use Rattle.std.proofs.Common.{◌≡◌, ◌<◌, ◌+◌, ◌-◌, ◌*◌, ◌%◌, ℕ, List, [], ◌++◌, length, take, drop, refl, sym, ap, ◌∙◌, arith, ℤ, pos, negsuc, ◌+ℤ◌, ◌≤ℤ◌, append_assoc, length-drop}
use Rattle.std.specs.Prelude.{unsigned_abs}
use Rattle.std.specs.Int.{int_rem_euclid}
use Rattle.std.proofs.Math.Nat.{mul_comm}
use Rattle.std.proofs.lemmas.Int.{ints}
use Rattle.std.proofs.lemmas.List.{append-nil, take_at, drop_at, take_rest, drop_all, drop-drop}
use borrow.Rule.Slice.PartMut.{post_of}
use Rattle.rtp_wire.specs.declared.encoding.Enc.{Enc}
use Rattle.rtp_wire.specs.Head.{Head, FitsHeader, head_octets}
use Rattle.rtp_wire.specs.Sample.{block_octets, octets_per_sample}
use Rattle.rtp_wire.specs.Datagram.{IsDatagram}
use Rattle.rtp_wire.proofs.DatagramLemmas.{Places-of, IsDatagram-head_octets}
use Rattle.mix_packets.specs.declared.out_spec.Output.{Output}
use Rattle.mix_packets.specs.OutSpec.{IsOutput, sample_total, datagram_length}
use Rattle.mix_packets.specs.Block.{block_datagram, block_head}
use Rattle.mix_packets.specs.Laws.{CountsUp}

-- one list is written to the start of another, and then a body to what follows it
side_by_side : (front body old whole part : List ℕ) (start count : ℕ) → length front ≡ start
    → whole ≡ front ++ drop start old
    → part ≡ body ++ drop count (take (length whole - start) (drop start whole))
    → take start whole ++ (part ++ post_of start (length whole - start) whole) ≡ (front ++ body) ++ drop (start + count) old
side_by_side front body old whole part start count len e f =
    let rest : drop start whole ≡ drop start old = ap (drop start) e ∙ drop_at front (drop start old) start len in
    let before : take start whole ≡ front = ap (take start) e ∙ take_at front (drop start old) start len in
    let after : part ≡ body ++ drop (start + count) old =
    f ∙ ap (λ r. body ++ drop count r) (take_rest whole start ∙ rest) ∙ ap (λ r. body ++ r) (drop-drop count start old) in
    let none : post_of start (length whole - start) whole ≡ [] =
    drop_all (length whole - start) (drop start whole) (omega (arith, length-drop start whole)) in
    ap (λ r. r ++ (part ++ post_of start (length whole - start) whole)) before
    ∙ ap (λ r. front ++ (part ++ r)) none
    ∙ ap (λ r. front ++ r) (append-nil part ∙ after)
    ∙ sym (append_assoc front body (drop (start + count) old))

-- a header is written to the start of a list, and then a block's octets to what follows it
pub datagram-written : (out : Output) (number : ℕ) (block : List ℤ) (old whole part : List ℕ) (start : ℕ) (head : Head) (enc : Enc)
    → start ≡ 12 → head ≡ block_head out number → enc ≡ out.enc → length block ≡ sample_total out
    → whole ≡ head_octets head ++ drop 12 old
    → part ≡ block_octets enc block ++ drop (octets_per_sample enc * length block) (take (length whole - start) (drop start whole))
    → take start whole ++ (part ++ post_of start (length whole - start) whole) ≡ block_datagram out number block ++ drop (datagram_length out) old
datagram-written out number block old whole part start head enc at same enc_is len e f =
    let size : start + octets_per_sample enc * length block ≡ datagram_length out =
    ap (λ n. n + octets_per_sample enc * length block) at
    ∙ ap (λ n. 12 + n) (mul_comm (octets_per_sample enc) (length block) ∙ ap (λ n. n * octets_per_sample enc) len ∙ ap (λ x. sample_total out * octets_per_sample x) enc_is) in
    side_by_side (head_octets head) (block_octets enc block) old whole part start (octets_per_sample enc * length block) (sym at) (e ∙ ap (λ n. head_octets head ++ drop n old) (sym at)) f
    ∙ ap (λ n. (head_octets head ++ block_octets enc block) ++ drop n old) size
    ∙ ap (λ h. (head_octets h ++ block_octets enc block) ++ drop (datagram_length out) old) same
    ∙ ap (λ x. (head_octets (block_head out number) ++ block_octets x block) ++ drop (datagram_length out) old) enc_is

-- a block's header fits its bits
FitsHeader-block_head : (out : Output) (number : ℕ) → IsOutput out → FitsHeader (block_head out number)
FitsHeader-block_head out number ok = record {
  pt = omega (arith, ok.pt_high);
  seq = omega arith;
  ts = small (out.start +ℤ pos (number * out.frames) +ℤ pos out.offset);
  ssrc = ok.ssrc_fits;
}
  where
    small : (z : ℤ) → unsigned_abs (int_rem_euclid z (pos 4294967296)) < 4294967296
    small (pos n) = omega arith
    small (negsuc n) = omega arith

-- a block's datagram is read as its header and its octets
pub IsDatagram-block : (out : Output) (number : ℕ) (block : List ℤ) → IsOutput out → IsDatagram (block_datagram out number block) (block_head out number) (block_octets out.enc block)
IsDatagram-block out number block ok = IsDatagram-head_octets (block_head out number) (block_octets out.enc block) (FitsHeader-block_head out number ok)

pub payload-only : (out : Output) (number : ℕ) (block : List ℤ) (head : Head) (payload : List ℕ) → IsOutput out → IsDatagram (block_datagram out number block) head payload → payload ≡ block_octets out.enc block
payload-only out number block head payload ok at =
    sym (Places-of (block_datagram out number block) head payload at).payload_is
    ∙ (Places-of (block_datagram out number block) (block_head out number) (block_octets out.enc block) (IsDatagram-block out number block ok)).payload_is

head-only : (out : Output) (number : ℕ) (block : List ℤ) (head : Head) (payload : List ℕ) → IsOutput out → IsDatagram (block_datagram out number block) head payload → head ≡ block_head out number
head-only out number block head payload ok at =
    sym (Places-of (block_datagram out number block) head payload at).head_is
    ∙ (Places-of (block_datagram out number block) (block_head out number) (block_octets out.enc block) (IsDatagram-block out number block ok)).head_is

-- the timestamp of the next block
timestamp_next : (start : ℤ) (frames number offset : ℕ) → pos 0 ≤ℤ start
    → unsigned_abs (int_rem_euclid (start +ℤ pos ((number + 1) * frames) +ℤ pos offset) (pos 4294967296)) ≡ (unsigned_abs (int_rem_euclid (start +ℤ pos (number * frames) +ℤ pos offset) (pos 4294967296)) + frames) % 4294967296
timestamp_next (pos n) frames number offset low = omega arith
timestamp_next (negsuc n) frames number offset low = absurd (omega (arith, ints))

-- the header of a block follows the header of the block before it
CountsUp-next : (out : Output) (number : ℕ) → IsOutput out → CountsUp out.frames (block_head out number) (block_head out (number + 1))
CountsUp-next out number ok = record {
  seq = omega arith;
  ts = timestamp_next out.start out.frames number out.offset ok.start_low;
  pt = refl;
  ssrc = refl;
}

pub CountsUp-read : (out : Output) (number : ℕ) (block after : List ℤ) (head following : Head) (payload rest : List ℕ) → IsOutput out
    → IsDatagram (block_datagram out number block) head payload → IsDatagram (block_datagram out (number + 1) after) following rest → CountsUp out.frames head following
CountsUp-read out number block after head following payload rest ok at next =
    rw (head-only out number block head payload ok at, head-only out (number + 1) after following rest ok next) (CountsUp-next out number ok)
