-- The event that a clock reading adds to a stream's history.
use Rattle.std.proofs.Common.{◌≡◌, ℕ, suc, ◌+◌, ◌≤◌, List, [], ◌∷◌, ◌++◌, length, take, ℤ, sym, ap, subst, ◌∙◌, arith, append-nil, length-append}
use Rattle.std.proofs.Math.Seq.{take-length}
use Rattle.rtrb.specs.Ring.{sent, known_free}
use Rattle.rtp_stream.specs.declared.stream_spec.Stream.{Stream}
use Rattle.rtp_stream.specs.declared.packet.Packet.{Packet}
use Rattle.rtp_stream.specs.declared.event.Event.{Event}
use Rattle.rtp_stream.specs.declared.event.Event.TheVariants.{Tick}
use Rattle.rtp_stream.specs.Marks.{marks_of}
use Rattle.path_merge.specs.Merge.{HasHistory}
use Rattle.studio_ends.specs.StopReasons.{StopsFor}
use Rattle.studio_ends.specs.Streams.{AllDelivered, ReadsClock, packets_by}
use Rattle.studio_ends.specs.StreamTurns.{PushesMarks}
use Rattle.studio_ends.specs.declared.rings.TokenConsumer.{TokenConsumer}
use Rattle.studio_ends.specs.declared.stream_end.StreamEnd.{StreamEnd}
use Rattle.studio_ends.specs.declared.stream_end.marks_out.StopReason.{StopReason}
use Rattle.studio_ends.proofs.StreamLemmas.{packets_by-append}

delivered-tick : (stream : Stream) (n : ℕ) (sides : List (TokenConsumer Packet)) (es : List Event) (u : ℤ) → AllDelivered stream n sides es → AllDelivered stream n sides (es ++ Tick u ∷ [])
delivered-tick stream n [] es u h = λ other le. packets_by-append other es (Tick u ∷ []) ∙ (append-nil (packets_by other es) ∙ h other le)
delivered-tick stream n (side ∷ sides) es u h = (packets_by-append n es (Tick u ∷ []) ∙ (append-nil (packets_by n es) ∙ h.0), delivered-tick stream (suc n) sides es u h.1)

-- marks that were pushed on the way to a time, with no packet taken
pub clock-read : (s t : StreamEnd) (now : ℤ) (why : StopReason) (count : ℕ) → PushesMarks s.marks s.merge now t.marks t.merge count → count ≤ 64 → StopsFor why t.merge.time now count (known_free t.marks)
    → t.sides ≡ s.sides → t.monitor ≡ s.monitor → t.spec ≡ s.spec → ReadsClock s now why t
clock-read s t now why count pushed few stop sides monitor spec = record {
  sides = sides;
  monitor = monitor;
  spec = spec;
  marks = count;
  more = let e = ap length pushed.sent_are in let l = length-append (sent s.marks) pushed.more in let n = pushed.count_is in omega (arith, e, l, n);
  few = few;
  ring = pushed.ring;
  not_before = pushed.later;
  not_after = pushed.before;
  stop = stop;
  still_open = pushed.still_open;
  stands = λ stream open_at events h.
      let k = length (sent s.marks) in
      let all = events ++ Tick t.merge.time ∷ [] in
      let gained : marks_of stream open_at all ≡ marks_of stream open_at events ++ pushed.more = pushed.marks stream open_at events k h.some_frames h.merge in
      let sent_len : length (sent t.marks) ≡ k + length pushed.more = ap length pushed.sent_are ∙ length-append (sent s.marks) pushed.more in
      let stands : HasHistory stream open_at t.merge all (length (sent t.marks)) = subst (HasHistory stream open_at t.merge all) (sym sent_len) (pushed.stands stream open_at events k h.some_frames h.merge) in
      let whole : length (sent t.marks) ≡ length (marks_of stream open_at all) = stands.all_given (sym stands.closed ∙ pushed.still_open) in
      let len : length (marks_of stream open_at all) ≡ length (marks_of stream open_at events) + length pushed.more = ap length gained ∙ length-append (marks_of stream open_at events) pushed.more in
      let k_is : k ≡ length (marks_of stream open_at events) = omega (arith, whole, len, sent_len) in
      let was : sent s.marks ≡ marks_of stream open_at events = h.marks ∙ (ap (λ n. take n (marks_of stream open_at events)) k_is ∙ take-length (marks_of stream open_at events)) in
      let now_is : sent t.marks ≡ marks_of stream open_at all = pushed.sent_are ∙ (ap (λ l. l ++ pushed.more) was ∙ sym gained) in
      record {
        some_frames = h.some_frames;
        merge = stands;
        delivered = delivered-tick stream 0 t.sides.items events t.merge.time (subst (λ l. AllDelivered stream 0 l events) (sym (ap (λ (v : Rattle.std.specs.declared.vec.Vec.Vec (TokenConsumer Packet) _). v.items) sides)) h.delivered);
        marks = now_is ∙ (sym (take-length (marks_of stream open_at all)) ∙ ap (λ n. take n (marks_of stream open_at all)) (sym whole));
      };
}
