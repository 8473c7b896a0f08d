-- Marks on the way to a time, after one more.
use Rattle.std.proofs.Common.{◌≡◌, ◌<◌, ◌+◌, ◌^◌, ℕ, Bool, true, false, List, [], ◌++◌, length, ℤ, pos, ◌≤ℤ◌, Option, refl, sym, ap, subst, ◌∙◌, arith, append_assoc, append-nil, length-append}
use Rattle.std.specs.Option.{option_to_list}
use Rattle.std.proofs.lemmas.Int.{ints}
use Rattle.rtrb.specs.Ring.{sent, SameProducer}
use Rattle.rtrb.specs.declared.producer.Producer.{Producer}
use Rattle.rtp_stream.specs.declared.stream_spec.Stream.{Stream}
use Rattle.rtp_stream.specs.MarkFacts.{MarkView}
use Rattle.rtp_stream.specs.declared.event.Event.{Event}
use Rattle.path_merge.specs.MergeState.{MergeState}
use Rattle.path_merge.specs.Merge.{HasHistory}
use Rattle.path_merge.specs.Steps.{Advances, Moves, MovesBy, is_slot_mark}
use Rattle.path_merge.specs.ReadingSteps.{IsOnWay}
use Rattle.path_merge.proofs.ReadingStepsLemmas.{way_goes_on, way_marks, way_stands, way_starts}
use Rattle.studio_ends.specs.StreamTurns.{PushesMarks}
use Rattle.studio_ends.proofs.TurnLemmas.{producers}

-- marks were pushed, and the merge is on its way to the time
pub record Pushing {A P : Type 0} (c : Producer MarkView A P) (m : MergeState) (now : ℤ) (d : Producer MarkView A P) (w : MergeState) (count : ℕ) : Type 0 where
  pub ring : SameProducer c d
  pub more : List MarkView
  pub sent_are : sent d ≡ sent c ++ more
  pub count_is : length more ≡ count
  pub spec : w.spec ≡ m.spec
  pub later : m.time ≤ℤ w.time
  pub before : w.time ≤ℤ now
  pub still_open : w.closed ≡ false
  pub on_way : (stream : Stream) (open_at : ℤ) (events : List Event) (k : ℕ) → 0 < stream.frames
      → HasHistory stream open_at m events k → IsOnWay stream open_at w events now k more

pub pushing-none : {A P : Type 0} (c : Producer MarkView A P) (m : MergeState) (now : ℤ) → m.time ≤ℤ now → m.closed ≡ false → Pushing c m now c m 0
pushing-none c m now low shut = record {
  ring = ((refl, refl, refl, refl), refl);
  more = [];
  sent_are = sym (append-nil (sent c));
  count_is = refl;
  spec = refl;
  later = omega (arith, ints);
  before = low;
  still_open = shut;
  on_way = λ stream open_at events k some h. way_starts stream open_at m events now k h;
}

pub pushing-more : {A P : Type 0} (c d e : Producer MarkView A P) (m w v : MergeState) (now : ℤ) (count : ℕ) (mark : Option MarkView) → now ≤ℤ pos (2 ^ 60)
    → Pushing c m now d w count → SameProducer d e → sent e ≡ sent d ++ option_to_list mark
    → ((stream : Stream) (open_at : ℤ) (so_far : List Event) (j : ℕ) → HasHistory stream open_at w so_far j → Advances stream open_at w v so_far j now mark)
    → Moves w v now mark → v.spec ≡ w.spec
    → Pushing c m now e v (count + length (option_to_list mark))
pushing-more c d e m w v now count mark high h ring got advances moves spec = record {
  ring = producers c d e h.ring ring;
  more = h.more ++ option_to_list mark;
  sent_are = got ∙ (ap (λ l. l ++ option_to_list mark) h.sent_are ∙ append_assoc (sent c) h.more (option_to_list mark));
  count_is = let l = length-append h.more (option_to_list mark) in let n = h.count_is in omega (arith, l, n);
  spec = spec ∙ h.spec;
  later = past (is_slot_mark mark) moves;
  before = within (is_slot_mark mark) moves;
  still_open = shut (is_slot_mark mark) moves;
  on_way = λ stream open_at events k some s. let way = h.on_way stream open_at events k some s in
      way_goes_on stream open_at w events now k h.more some h.before high h.still_open way v mark (advances stream open_at way.so_far (k + length h.more) way.stands) moves;
}
  where
    past : (b : Bool) → MovesBy w v now b → m.time ≤ℤ v.time
    past true t = let l = t.0 in let f = h.later in omega (arith, ints, l, f)
    past false t = let l = t.0 in let f = h.later in let b = h.before in omega (arith, ints, l, f, b)

    within : (b : Bool) → MovesBy w v now b → v.time ≤ℤ now
    within true t = t.1
    within false t = let l = t.0 in omega (arith, ints, l)

    shut : (b : Bool) → MovesBy w v now b → v.closed ≡ false
    shut true t = t.2 ∙ h.still_open
    shut false t = t.1 ∙ h.still_open

pub pushed : {A P : Type 0} (c d e : Producer MarkView A P) (m w : MergeState) (now : ℤ) (count : ℕ) → now ≤ℤ pos (2 ^ 60)
    → Pushing c m now d w count → SameProducer d e → sent e ≡ sent d → PushesMarks c m now e w count
pushed c d e m w now count high h ring same = record {
  ring = producers c d e h.ring ring;
  more = h.more;
  sent_are = same ∙ h.sent_are;
  count_is = h.count_is;
  spec = h.spec;
  later = h.later;
  before = h.before;
  still_open = h.still_open;
  stands = λ stream open_at events k some s. way_stands stream open_at w events now k h.more some h.before high h.still_open (h.on_way stream open_at events k some s);
  marks = λ stream open_at events k some s. way_marks stream open_at w events now k h.more some h.before high h.still_open (h.on_way stream open_at events k some s);
}

pub pushing-at : {A P : Type 0} (c d : Producer MarkView A P) (m w : MergeState) (now at : ℤ) (count : ℕ) → now ≡ at → Pushing c m now d w count → Pushing c m at d w count
pushing-at c d m w now at count e h = subst (λ t. Pushing c m t d w count) e h
