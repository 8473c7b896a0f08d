-- Fresh ends, after one more was opened.
use Rattle.std.proofs.Common.{◌≡◌, ℕ, suc, ◌+◌, ◌<◌, List, [], ◌∷◌, ◌++◌, length, take, get_or, ℤ, refl, sym, ap, subst, ◌∙◌, append_assoc, append-nil}
use Rattle.std.proofs.Math.Seq.{take-length}
use Rattle.std.proofs.lemmas.List.{length-map, take_more}
use Rattle.rtrb.specs.Ring.{sent}
use Rattle.rtp_stream.specs.declared.stream_spec.Stream.{Stream}
use Rattle.rtp_stream.specs.StreamSpecFacts.{IsStream, format_of}
use Rattle.rtp_stream.specs.Marks.{marks_of}
use Rattle.path_merge.specs.Merge.{HasHistory}
use Rattle.rtp_stream.specs.MarkFacts.{MarkView}
use Rattle.rtp_stream.specs.declared.packet.Packet.{Packet}
use Rattle.lane_align.specs.AcceptedMarks.{accepted_marks}
use Rattle.studio_config.specs.Studio.{Studio}
use Rattle.studio_mix.specs.Feed.{Feed, unfed}
use Rattle.studio_mix.specs.Mixer.{HasFeeds, MixerState}
use Rattle.studio_ends.specs.Fitting.{fitting}
use Rattle.studio_ends.specs.Streams.{AllDelivered, StreamHasHistory}
use Rattle.studio_ends.specs.AcceptedFeeds.{accepted_feeds}
use Rattle.studio_ends.specs.FreshEnds.{AllFreshPaths, AllFreshRings, AllFreshStreams, AreFreshRings, IsFreshPath, IsFreshStream}
use Rattle.studio_ends.specs.Opening.{AddsStream, AllUnread, AreFreshEnds}
use Rattle.studio_ends.specs.declared.rings.TokenConsumer.{TokenConsumer}
use Rattle.studio_ends.specs.declared.path_end.PathEnd.{PathEnd}
use Rattle.studio_ends.specs.declared.stream_end.StreamEnd.{StreamEnd}
use Rattle.studio_ends.specs.declared.monitor_end.MonitorEnd.{MonitorEnd}
use Rattle.studio_ends.specs.declared.ends.StreamEnds.{StreamEnds}

pub fresh_paths-snoc : (stream : Stream) (places : ℕ) (paths : List PathEnd) (sides : List (TokenConsumer Packet)) (path : PathEnd) (side : TokenConsumer Packet)
    → AllFreshPaths stream places paths sides → IsFreshPath stream places path side → AllFreshPaths stream places (paths ++ path ∷ []) (sides ++ side ∷ [])
fresh_paths-snoc stream places [] [] path side h f = (f, tt)
fresh_paths-snoc stream places (p ∷ ps) (s ∷ ss) path side h f = (h.0, fresh_paths-snoc stream places ps ss path side h.1 f)
fresh_paths-snoc stream places [] (s ∷ ss) path side h f = absurd h
fresh_paths-snoc stream places (p ∷ ps) [] path side h f = absurd h

fresh_streams-snoc : (open_at : ℤ) (places : ℕ) (streams : List Stream) (paths own : List PathEnd) (ends : List StreamEnd) (stream : Stream) (end : StreamEnd)
    → AllFreshStreams open_at places streams paths ends → IsFreshStream open_at places stream own end → AllFreshStreams open_at places (streams ++ stream ∷ []) (paths ++ own) (ends ++ end ∷ [])
fresh_streams-snoc open_at places [] paths own [] stream end h f = (own, [], ap (λ l. l ++ own) h ∙ sym (append-nil own), f, refl)
fresh_streams-snoc open_at places (s ∷ ss) paths own (e ∷ es) stream end h f =
    (h.0, h.1 ++ own, ap (λ l. l ++ own) h.2 ∙ append_assoc h.0 h.1 own, h.3, fresh_streams-snoc open_at places ss h.1 own es stream end h.4 f)
fresh_streams-snoc open_at places [] paths own (e ∷ es) stream end h f = absurd h
fresh_streams-snoc open_at places (s ∷ ss) paths own [] stream end h f = absurd h

fresh_rings-snoc : (places : ℕ) (ends : List StreamEnd) (monitors : List MonitorEnd) (sides : List (TokenConsumer MarkView)) (end : StreamEnd) (monitor : MonitorEnd) (side : TokenConsumer MarkView)
    → AllFreshRings places ends monitors sides → AreFreshRings places end monitor side → AllFreshRings places (ends ++ end ∷ []) (monitors ++ monitor ∷ []) (sides ++ side ∷ [])
fresh_rings-snoc places [] [] [] end monitor side h f = (f, tt)
fresh_rings-snoc places (e ∷ es) (m ∷ ms) (s ∷ ss) end monitor side h f = (h.0, fresh_rings-snoc places es ms ss end monitor side h.1 f)
fresh_rings-snoc places [] [] (s ∷ ss) end monitor side h f = absurd h
fresh_rings-snoc places [] (m ∷ ms) sides end monitor side h f = absurd h
fresh_rings-snoc places (e ∷ es) [] sides end monitor side h f = absurd h
fresh_rings-snoc places (e ∷ es) (m ∷ ms) [] end monitor side h f = absurd h

-- the rings of a fresh stream have delivered nothing
delivered-fresh : (stream : Stream) (places path : ℕ) (own : List PathEnd) (sides : List (TokenConsumer Packet)) → AllFreshPaths stream places own sides → AllDelivered stream path sides []
delivered-fresh stream places path [] [] h = λ other le. refl
delivered-fresh stream places path (p ∷ ps) (s ∷ ss) h = (sym (ap (fitting stream) h.0.none_received), delivered-fresh stream places (suc path) ps ss h.1)
delivered-fresh stream places path [] (s ∷ ss) h = absurd h
delivered-fresh stream places path (p ∷ ps) [] h = absurd h

pub stands-fresh : (stream : Stream) (open_at : ℤ) (places : ℕ) (own : List PathEnd) (s : StreamEnd) → IsStream stream → HasHistory stream open_at s.merge [] 0 → sent s.marks ≡ []
    → AllFreshPaths stream places own s.sides.items → StreamHasHistory stream open_at s []
stands-fresh stream open_at places own s sound stands none paths = record {
  some_frames = sound.some_frames;
  merge = subst (HasHistory stream open_at s.merge []) (sym (ap length none)) stands;
  delivered = delivered-fresh stream places 0 own s.sides.items paths;
  marks = none ∙ ap (λ k. take k (marks_of stream open_at [])) (sym (ap length none));
}

pub ends-more : (open_at : ℤ) (places : ℕ) (streams : List Stream) (n : ℕ) (stream : Stream) (old new : StreamEnds) → n < length streams → stream ≡ get_or streams n stream
    → AreFreshEnds open_at places (take n streams) old → AddsStream open_at places stream old new → AreFreshEnds open_at places (take (n + 1) streams) new
ends-more open_at places streams n stream old new lt is h adds =
    let e : take (n + 1) streams ≡ take n streams ++ stream ∷ [] = take_more streams n stream lt ∙ ap (λ (s : Stream). take n streams ++ s ∷ []) (sym is) in
    record {
      streams_are = rw (e, adds.paths, adds.streams) (fresh_streams-snoc open_at places (take n streams) old.paths.items adds.own old.streams.items stream adds.end h.streams_are adds.fresh);
      rings = rw (adds.streams, adds.monitors, adds.marks) (fresh_rings-snoc places old.streams.items old.monitors.items old.marks.items adds.end adds.monitor adds.side h.rings adds.rings);
    }

pub ends-all : (open_at : ℤ) (places : ℕ) (streams : List Stream) (n : ℕ) (ends : StreamEnds) → n ≡ length streams → AreFreshEnds open_at places (take n streams) ends → AreFreshEnds open_at places streams ends
ends-all open_at places streams n ends is h = subst (λ l. AreFreshEnds open_at places l ends) (ap (λ k. take k streams) is ∙ take-length streams) h

-- nothing was received from fresh rings
pub unread : (open_at : ℤ) (places : ℕ) (streams : List Stream) (paths : List PathEnd) (ends : List StreamEnd) (monitors : List MonitorEnd) (sides : List (TokenConsumer MarkView))
    → AllFreshStreams open_at places streams paths ends → AllFreshRings places ends monitors sides → AllUnread streams sides
unread open_at places [] paths [] [] [] h r = tt
unread open_at places (s ∷ ss) paths (e ∷ es) (m ∷ ms) (side ∷ sides) h r = (r.0.none_received, unread open_at places ss h.1 es ms sides h.4 r.1)
unread open_at places [] paths (e ∷ es) monitors sides h r = absurd h
unread open_at places (s ∷ ss) paths [] monitors sides h r = absurd h
unread open_at places [] paths [] [] (side ∷ sides) h r = absurd r
unread open_at places [] paths [] (m ∷ ms) sides h r = absurd r
unread open_at places (s ∷ ss) paths (e ∷ es) [] sides h r = absurd r
unread open_at places (s ∷ ss) paths (e ∷ es) (m ∷ ms) [] h r = absurd r

unread_feeds : (streams : List Stream) (sides : List (TokenConsumer MarkView)) → AllUnread streams sides → accepted_feeds streams sides ≡ unfed streams
unread_feeds [] [] h = refl
unread_feeds (s ∷ ss) (side ∷ sides) h =
    ap (λ l. record { stream = s; marks = accepted_marks (format_of s) l } ∷ accepted_feeds ss sides) h.0
    ∙ ap (λ (l : List Feed). record { stream = s; marks = [] } ∷ l) (unread_feeds ss sides h.1)
unread_feeds [] (side ∷ sides) h = absurd h
unread_feeds (s ∷ ss) [] h = absurd h

pub unread_count : (streams : List Stream) (sides : List (TokenConsumer MarkView)) → AllUnread streams sides → length sides ≡ length streams
unread_count [] [] h = refl
unread_count (s ∷ ss) (side ∷ sides) h = ap suc (unread_count ss sides h.1)
unread_count [] (side ∷ sides) h = absurd h
unread_count (s ∷ ss) [] h = absurd h

pub feeds-unread : (studio : Studio) (sides : List (TokenConsumer MarkView)) (mixer : MixerState) → AllUnread studio.streams sides → HasFeeds studio mixer (unfed studio.streams) 0 → HasFeeds studio mixer (accepted_feeds studio.streams sides) 0
feeds-unread studio sides mixer none h = subst (λ feeds. HasFeeds studio mixer feeds 0) (sym (unread_feeds studio.streams sides none)) h

-- the mixer has a lane for each ring
pub lanes_count : (studio : Studio) (sides : List (TokenConsumer MarkView)) (mixer : MixerState) → AllUnread studio.streams sides → HasFeeds studio mixer (unfed studio.streams) 0 → length sides ≡ length mixer.lanes
lanes_count studio sides mixer none h = unread_count studio.streams sides none ∙ sym (h.lanes.count ∙ length-map studio.streams (λ stream. record { stream = stream; marks = [] }))

pub fresh_at : (t u : ℤ) (places : ℕ) (ss us : List Stream) (paths : List PathEnd) (ends : List StreamEnd) → t ≡ u → ss ≡ us → AllFreshStreams t places ss paths ends → AllFreshStreams u places us paths ends
fresh_at t u places ss us paths ends e f h = subst (λ l. AllFreshStreams u places l paths ends) f (subst (λ v. AllFreshStreams v places ss paths ends) e h)
