-- Lanes that were fed nothing.
use Rattle.std.proofs.Common.{◌≡◌, [], ◌∷◌, ◌++◌, ℕ, ◌+◌, ◌-◌, ◌<◌, ◌≤◌, ℤ, List, length, get_or, take, map, Some, slice_get, All, refl, sym, ap, subst, ◌∙◌, arith, zero-mul, ◌*◌, inl, inr}
use Rattle.std.proofs.lemmas.Bool.{cases_lt}
use Rattle.std.proofs.lemmas.Int.{ints}
use Rattle.mix_packets.specs.declared.out_spec.Output.{Output}
use Rattle.mix_packets.specs.Block.{block_start}
use Rattle.std.proofs.lemmas.Option.{slice_get_read, slice_get_within, get_or_from_slice_get, slice_get-get_or}
use Rattle.std.proofs.lemmas.List.{length_push, length-map, get_or-map, get_or_append_left, get_or-append_right, take_all, take_more, map_push}
use Rattle.std.proofs.lemmas.List.Elements.{All-push}
use Rattle.std.proofs.lemmas.List.Sums.{sum_by_more, sum_by_push}
use Rattle.rtp_stream.specs.declared.stream_spec.Stream.{Stream}
use Rattle.rtp_stream.specs.declared.mark.PacketFormat.{PacketFormat}
use Rattle.lane_align.specs.Lane.{LaneState, HasFeed}
use Rattle.studio_config.specs.Studio.{channel_total}
use Rattle.studio_mix.specs.Feed.{Feed, unfed}
use Rattle.studio_mix.specs.Lanes.{AreFed, IsLaneAt, lane_channels}
use Rattle.studio_mix.specs.LaneCapacity.{capacity_for, capacities_of}

pub record AreNew (start : ℤ) (block lag : ℕ) (streams : List Stream) (lanes : List LaneState) (i : ℕ) : Type 0 where
  pub count : length lanes ≡ i
  pub each : All (IsLaneAt block start) lanes
  pub channels : lane_channels lanes ≡ channel_total (take i streams)
  pub capacities : capacities_of lanes ≡ map (capacity_for lag block) (take i streams)
  pub fed : (k : ℕ) (lane : LaneState) (stream : Stream) → slice_get lanes k ≡ Some lane → slice_get streams k ≡ Some stream → HasFeed stream start block lane [] start

pub new_more : (start : ℤ) (block lag : ℕ) (streams : List Stream) (lanes : List LaneState) (i : ℕ) (stream : Stream) (lane : LaneState)
    → AreNew start block lag streams lanes i → i < length streams → stream ≡ get_or streams i stream
    → HasFeed stream start block lane [] start → lane.capacity ≡ capacity_for lag block stream → 0 < lane.format.channels → lane.format.channels ≤ 64
    → AreNew start block lag streams (lanes ++ lane ∷ []) (i + 1)
new_more start block lag streams lanes i stream lane before h is new capacity some few =
    let count = before.count in
    record {
      count = length_push lanes lane ∙ ap (λ k. k + 1) before.count;
      each = All-push (IsLaneAt block start) lanes lane before.each (record { block = new.block; position = new.position; some_channels = some; few_channels = few });
      channels =
          sum_by_push (λ (l : LaneState). l.format.channels) lanes lane
          ∙ ap (λ k. k + lane.format.channels) before.channels
          ∙ ap (λ k. channel_total (take i streams) + k) (ap (λ (f : PacketFormat). f.channels) new.format ∙ ap (λ (s : Stream). s.channels) is)
          ∙ sym (sum_by_more (λ (s : Stream). s.channels) streams i stream h);
      capacities =
          map_push (λ (l : LaneState). l.capacity) lanes lane
          ∙ ap (λ rs. rs ++ lane.capacity ∷ []) before.capacities
          ∙ ap (λ r. map (capacity_for lag block) (take i streams) ++ r ∷ []) (capacity ∙ ap (capacity_for lag block) is)
          ∙ sym (map_push (capacity_for lag block) (take i streams) (get_or streams i stream))
          ∙ ap (map (capacity_for lag block)) (sym (take_more streams i stream h));
      fed = λ k l s l_is s_is.
          let within : k < length (lanes ++ lane ∷ []) = slice_get_within (lanes ++ lane ∷ []) k l l_is in
          let long : length (lanes ++ lane ∷ []) ≡ length lanes + 1 = length_push lanes lane in
          let read = get_or_from_slice_get (lanes ++ lane ∷ []) k l l l_is in
          elim (cases_lt k (length lanes)) [
            | inl below ↦ before.fed k l s (slice_get_read lanes (length lanes) k l refl below (sym (sym (get_or_append_left lanes (lane ∷ []) l k below) ∙ read))) s_is
            | inr past ↦
                let here : k ≡ i = omega arith in
                let at : k - length lanes ≡ 0 = omega arith in
                let l' : lane ≡ l = ap (λ j. get_or (lane ∷ []) j l) (sym at) ∙ sym (get_or-append_right lanes (lane ∷ []) (length lanes) k l refl past) ∙ read in
                let s' : stream ≡ s = is ∙ ap (λ j. get_or streams j stream) (sym here) ∙ get_or_from_slice_get streams k s stream s_is in
                subst (λ (x : Stream). HasFeed x start block l [] start) s' (subst (λ x. HasFeed stream start block x [] start) l' new)
          ];
    }

feed_of : Stream → Feed
feed_of stream = record { stream = stream; marks = [] }

pub all_new : (start : ℤ) (block lag : ℕ) (streams : List Stream) (lanes : List LaneState) (i : ℕ) → AreNew start block lag streams lanes i → i ≡ length streams
    → AreFed start block lanes (unfed streams) start
all_new start block lag streams lanes i new e = record {
  count = new.count ∙ e ∙ sym (length-map streams (λ stream. record { stream = stream; marks = [] }));
  each = λ k lane feed l f.
      let F : Stream → Feed = λ stream. record { stream = stream; marks = [] } in
      let long : length (unfed streams) ≡ length streams = length-map streams F in
      let in_map : k < length (unfed streams) = slice_get_within (unfed streams) k feed f in
      let within : k < length streams = omega arith in
      let stream : Stream = get_or streams k feed.stream in
      let is : F stream ≡ feed = sym (get_or-map F streams k feed.stream feed within) ∙ get_or_from_slice_get (unfed streams) k feed feed f in
      subst (λ (g : Feed). HasFeed g.stream start block lane g.marks start) is (new.fed k lane stream l (slice_get-get_or streams k feed.stream within));
}

pub all_channels : (start : ℤ) (block lag : ℕ) (streams : List Stream) (lanes : List LaneState) (i : ℕ) → AreNew start block lag streams lanes i → i ≡ length streams
    → lane_channels lanes ≡ channel_total streams
all_channels start block lag streams lanes i new e = new.channels ∙ ap channel_total (take_all i streams (omega arith))

pub all_capacities : (start : ℤ) (block lag : ℕ) (streams : List Stream) (lanes : List LaneState) (i : ℕ) → AreNew start block lag streams lanes i → i ≡ length streams
    → capacities_of lanes ≡ map (capacity_for lag block) streams
all_capacities start block lag streams lanes i new e = new.capacities ∙ ap (map (capacity_for lag block)) (take_all i streams (omega (arith)))

pub unfed_streams : (streams : List Stream) → map (λ (feed : Feed). feed.stream) (unfed streams) ≡ streams
unfed_streams [] = refl
unfed_streams (stream ∷ streams) = ap (λ s. stream ∷ s) (unfed_streams streams)

-- the first block begins at the start
pub first_start : (out : Output) → block_start out 0 ≡ out.start
first_start out = let e : 0 * out.frames ≡ 0 = zero-mul out.frames in omega (arith, ints, e)
