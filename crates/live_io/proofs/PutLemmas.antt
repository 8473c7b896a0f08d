-- The blocks that were sent to a record's ring, one block further.
use Rattle.std.proofs.Common.{◌≡◌, ◌⊎◌, inl, inr, ◌<◌, ◌≤◌, ◌+◌, ℕ, suc, Bool, List, [], ◌++◌, length, drop, get_or, None, refl, sym, ap, subst, ◌∙◌, append_assoc, length-append, arith, add-one, drop-cons}
use Rattle.std.proofs.lemmas.List.{append-nil, drop_all}
use Rattle.rtrb.specs.Ring.{known_free, sent}
use Rattle.rtp_stream.specs.declared.stream_spec.Stream.{Stream}
use Rattle.pcap_file.specs.Blocks.{section_block}
use Rattle.studio_config.specs.Studio.{Studio}
use Rattle.studio_io.specs.declared.output_state.OutputEnd.TheVariants.{Slow}
use Rattle.live_io.specs.RecordBlocks.{LacksSpace, Puts, Sends, StaysEnded, front_blocks, gains_blocks, path_blocks, stream_blocks}
use Rattle.live_io.specs.declared.record.block_producer.BlockProducer.{BlockProducer}

-- the paths of the streams so far were described, and these are left
pub record Describes (streams : List Stream) (n : ℕ) (old new : BlockProducer) : Type 0 where
  pub done : List ℕ
  pub rest : path_blocks 0 streams ≡ done ++ path_blocks n (drop n streams)
  pub sends : Sends old done new
  pub ended : StaysEnded old new

pub sends_none : (end : BlockProducer) (octets : List ℕ) → octets ≡ [] → Sends end octets end
sends_none end octets none goes = inl (goes, sym (ap (λ l. sent end.ring ++ l) none ∙ append-nil (sent end.ring)))

pub sends_more : (old mid new : BlockProducer) (xs ys : List ℕ) → Sends old xs mid → Sends mid ys new → StaysEnded mid new → Sends old (xs ++ ys) new
sends_more old mid new xs ys first second stays goes =
    let size = length-append xs ys in
    elim (first goes) [
      | inl h ↦ elim (second h.0) [
        | inl k ↦ inl (k.0, k.1 ∙ (ap (λ l. l ++ ys) h.1 ∙ append_assoc (sent old.ring) xs ys))
        | inr lacks ↦ (let few = lacks.1 in inr (lacks.0, omega (arith, size, few)))
      ]
      | inr lacks ↦ (
          let few = lacks.1 in
          let same : known_free new.ring ≡ known_free mid.ring = ap known_free (stays Slow lacks.0).1 in
          inr ((stays Slow lacks.0).0, omega (arith, size, few, same)))
    ]

-- one block is sent, or there is no space for it
pub sends_block : (old : BlockProducer) (block : List ℕ) (new : BlockProducer) → Puts old block new → Sends old block new
sends_block old block new puts goes = elim (puts goes) [
  | inl h ↦ inl h
  | inr lacks ↦ inr (lacks.0.0, lacks.1)
]

pub stays_more : (old mid new : BlockProducer) → StaysEnded old mid → StaysEnded mid new → StaysEnded old new
stays_more old mid new first second reason e = ((second reason (first reason e).0).0, (second reason (first reason e).0).1 ∙ (first reason e).1)

-- the start of a record: its opening, then its paths, and then the interface for changes
pub opens_by : (is_controlled : Bool) (studio : Studio) (at : ℕ) (begun mid described end : BlockProducer) → sent begun.ring ≡ [] → begun.end ≡ None
    → Puts begun (section_block at) mid → Sends mid (path_blocks 0 studio.streams) described → StaysEnded mid described
    → Sends described (gains_blocks is_controlled) end → StaysEnded described end
    → ((end.end ≡ None) × (sent end.ring ≡ front_blocks is_controlled studio at)) ⊎ LacksSpace (front_blocks is_controlled studio at) end
opens_by is_controlled studio at begun mid described end none goes first paths stays gains still =
    let paths_are : List ℕ = path_blocks 0 studio.streams in
    let rest = sends_more mid described end paths_are (gains_blocks is_controlled) paths gains still in
    elim (sends_more begun mid end (section_block at) (paths_are ++ gains_blocks is_controlled) (sends_block begun (section_block at) mid first) rest (stays_more mid described end stays still) goes) [
      | inl all ↦ inl (all.0, all.1 ∙ ap (λ l. l ++ front_blocks is_controlled studio at) none)
      | inr lacks ↦ inr lacks
    ]

-- no stream is described yet
pub describes_none : (streams : List Stream) (end : BlockProducer) → Describes streams 0 end end
describes_none streams end = record { done = []; rest = refl; sends = sends_none end [] refl; ended = λ reason e. (e, refl) }

-- the descriptions of one stream more
pub describes_more : (streams : List Stream) (n : ℕ) (stream : Stream) (old mid new : BlockProducer) → n < length streams → stream ≡ get_or streams n stream
    → Describes streams n old mid → Sends mid (stream_blocks n stream) new → StaysEnded mid new → Describes streams (n + 1) old new
describes_more streams n stream old mid new within is d more stays = rw add-one (record {
  done = d.done ++ stream_blocks n stream;
  rest = d.rest ∙ (ap (λ ss. d.done ++ path_blocks n ss) (drop-cons streams n stream within)
      ∙ (ap (λ (s : Stream). d.done ++ (stream_blocks n s ++ path_blocks (suc n) (drop (suc n) streams))) (sym is)
      ∙ sym (append_assoc d.done (stream_blocks n stream) (path_blocks (suc n) (drop (suc n) streams)))));
  sends = sends_more old mid new d.done (stream_blocks n stream) d.sends more stays;
  ended = stays_more old mid new d.ended stays;
})

-- the descriptions of all streams
pub describes_all : (streams : List Stream) (n : ℕ) (old new : BlockProducer) → length streams ≤ n → Describes streams n old new → Sends old (path_blocks 0 streams) new
describes_all streams n old new all d =
    subst (λ l. Sends old l new) (sym (d.rest ∙ (ap (λ ss. d.done ++ path_blocks n ss) (drop_all n streams all) ∙ append-nil d.done))) d.sends
