-- A merge that begins again at a packet that opens an epoch.
use Rattle.std.proofs.Common.{◌≡◌, ℕ, zero, suc, ◌+◌, ◌-◌, ◌*◌, ◌^◌, ◌<◌, ◌≤◌, Bool, true, false, ◌&&◌, List, [], ◌∷◌, Some, ℤ, pos, ◌+ℤ◌, ◌-ℤ◌, ◌*ℤ◌, ◌≤ℤ◌, ◌<ℤ◌, refl, sym, ap, subst, ◌∙◌, arith, if◌then◌else◌, unsigned_abs, ⊎_elim}
use Rattle.std.specs.Prelude.{IsSome, int_le, int_lt, nat_eq, nat_le, nat_lt}
use Rattle.std.specs.Int.{int_rem_euclid}
use Rattle.std.specs.FinMap.{FinMap, get}
use Rattle.std.specs.Ordering.{nat_cmp}
use Rattle.std.proofs.lemmas.Bool.{cases_lt}
use Rattle.std.proofs.lemmas.Bool.Decides.{nat_tests}
use Rattle.std.proofs.lemmas.Int.{ints}
use Rattle.std.proofs.lemmas.Nat.{mul-le}
use Rattle.path_merge.proofs.HeldCountLemmas.{FateCounts, held_count-none, held_count-put, with_fate-counts}
use Rattle.rtp_stream.proofs.NearestLemmas.{nearest_number-only, rem_same, rem_small}
use Rattle.path_merge.proofs.DueLemmas.{before_next_number, media_time_of-from}
use Rattle.path_merge.proofs.SoundLemmas.{anchored_at, some_window}
use Rattle.rtp_stream.specs.Anchor.{is_restart_in_reach, media_time_of, next_number, restart_from}
use Rattle.rtp_stream.specs.CountsFacts.{Tally, with_fate}
use Rattle.rtp_stream.specs.Grid.{copies_under, expected_timestamp, extended_number, is_on_grid}
use Rattle.path_merge.specs.MergeState.{IsAnchored, IsSound, MergeState, held_count}
use Rattle.rtp_stream.specs.Nearest.{IsNearest}
use Rattle.path_merge.specs.Steps.{IsRestartStep}
use Rattle.rtp_stream.specs.PathProbation.{no_probation, probation_at}
use Rattle.rtp_stream.specs.declared.probation.Probation.{Probation}
use Rattle.rtp_stream.specs.declared.follow.Track.{Track}
use Rattle.rtp_stream.specs.FollowTrack.{no_track, track_at}
use Rattle.rtp_stream.specs.StreamSpec.{Fits}
use Rattle.rtp_stream.specs.declared.stream_spec.Stream.{Stream}
use Rattle.path_merge.specs.Window.{IsEmpty}
use Rattle.rtp_stream.specs.declared.anchor.Anchor.{Anchor}
use Rattle.rtp_stream.specs.declared.fate.Fate.{Fate}
use Rattle.rtp_stream.specs.declared.fate.Fate.TheVariants.{Restarted}
use Rattle.rtp_stream.specs.declared.packet.Packet.{Packet}

-- before the anchor's deadline the anchor's number is due next
pub next_number-fresh : (spec : Stream) (a : Anchor) (time : ℤ) → 0 < spec.frames → (time -ℤ pos spec.latency) <ℤ a.media → next_number spec a time ≡ a.number
next_number-fresh spec a time some early =
    let none : a.number - a.number ≡ 0 = omega arith in
    let zero = ap (λ q. q * spec.frames) none in
    ⊎_elim
    (λ lt. absurd (omega (arith, ints, before_next_number spec a time a.number some (omega arith) lt, media_time_of-from spec a a.number (omega arith), zero)))
    (λ ge. omega arith)
    (cases_lt a.number (next_number spec a time))

-- its own number is nearest to itself
pub own_number : (packet : Packet) → packet.seq < 65536 → extended_number packet (65536 + packet.seq) ≡ 65536 + packet.seq
own_number packet small =
    let zero : 65536 + packet.seq ≡ packet.seq + 1 * 65536 = omega arith in
    let low : int_rem_euclid (pos (65536 + packet.seq)) (pos 65536) ≡ pos packet.seq = rem_same 65536 (pos (65536 + packet.seq)) (pos packet.seq) 0 1 (omega arith) (omega (arith, ints)) ∙ rem_small 65536 packet.seq small in
    let near : IsNearest 32768 packet.seq (pos (65536 + packet.seq)) (pos (65536 + packet.seq)) = record { low_bits = low; not_below = omega (arith, ints); below = omega (arith, ints) } in
    sym (ap unsigned_abs (nearest_number-only 32768 packet.seq (pos (65536 + packet.seq)) (pos (65536 + packet.seq)) small near))

pub itself_eq : (n : ℕ) → nat_eq n n ≡ true
itself_eq n = grind (arith, nat_tests)

-- an anchor that a packet makes, at whatever media time and in whatever epoch
abbrev pub made_by : Packet → ℕ → ℤ → Anchor
made_by packet epoch media = record { epoch = epoch; number = 65536 + packet.seq; timestamp = packet.ts; media = media; source = packet.ssrc }

-- its timestamp is in step with its number
pub own_timestamp : (stream : Stream) (packet : Packet) (epoch : ℕ) (media : ℤ) → packet.ts < 2 ^ 32 → is_on_grid stream (made_by packet epoch media) (65536 + packet.seq) packet.ts ≡ true
own_timestamp stream packet epoch media small =
    let none : (pos (65536 + packet.seq) -ℤ pos (65536 + packet.seq)) ≡ pos 0 = omega (arith, ints) in
    let product : ((pos (65536 + packet.seq) -ℤ pos (65536 + packet.seq)) *ℤ pos stream.frames) ≡ pos 0 = ap (λ z. z *ℤ pos stream.frames) none ∙ omega (arith, ints) in
    let step : (pos packet.ts +ℤ (pos (65536 + packet.seq) -ℤ pos (65536 + packet.seq)) *ℤ pos stream.frames) ≡ pos packet.ts = omega (arith, ints, product) in
    let expected : expected_timestamp stream (made_by packet epoch media) (65536 + packet.seq) ≡ packet.ts = ap (λ z. unsigned_abs (int_rem_euclid z (pos (2 ^ 32)))) step ∙ ap unsigned_abs (rem_small (2 ^ 32) packet.ts small) in
    ap (nat_eq packet.ts) expected ∙ itself_eq packet.ts

-- the packet of an anchor is an in-time copy of the anchor's number
pub own_copy : (stream : Stream) (time : ℤ) (packet : Packet) (epoch : ℕ) (media : ℤ) → 0 < stream.frames → 0 < stream.window → packet.seq < 65536 → packet.ts < 2 ^ 32 → (time -ℤ pos stream.latency) <ℤ media → copies_under stream time true (Some (made_by packet epoch media)) packet ≡ (65536 + packet.seq, packet) ∷ []
own_copy stream time packet epoch media some wide seq ts after =
    let next : next_number stream (made_by packet epoch media) time ≡ 65536 + packet.seq = next_number-fresh stream (made_by packet epoch media) time some after in
    let number : extended_number packet (next_number stream (made_by packet epoch media) time) ≡ 65536 + packet.seq = ap (extended_number packet) next ∙ own_number packet seq in
    let low : nat_le (65536 + packet.seq) (65536 + packet.seq) ≡ true = grind (arith, nat_tests) in
    let high : nat_lt (65536 + packet.seq) (65536 + packet.seq + stream.window) ≡ true = grind (arith, nat_tests, wide) in
    rw (number, next, itself_eq packet.ssrc, own_timestamp stream packet epoch media ts, low, high) refl

-- a media time in reach, at which media time doesn't go back
pub record GoesOn (stream : Stream) (time : ℤ) (due media : ℤ) : Type 0 where
  pub after : (time -ℤ pos stream.latency) <ℤ media
  pub before : media <ℤ (time -ℤ pos stream.latency +ℤ pos (stream.window * stream.frames))
  pub not_back : due ≤ℤ media

pub in_reach : (stream : Stream) (time due media : ℤ) → is_restart_in_reach stream time due media ≡ true → GoesOn stream time due media
in_reach stream time due media can = by_tests (int_lt (time -ℤ pos stream.latency) media) (int_lt media (time -ℤ pos stream.latency +ℤ pos (stream.window * stream.frames))) (int_le due media) refl refl refl can
  where
    by_tests : (a b c : Bool) → int_lt (time -ℤ pos stream.latency) media ≡ a → int_lt media (time -ℤ pos stream.latency +ℤ pos (stream.window * stream.frames)) ≡ b → int_le due media ≡ c → ((a && b) && c) ≡ true → GoesOn stream time due media
    by_tests true true true ea eb ec e = record { after = grind (arith, ints, ea); before = grind (arith, ints, eb); not_back = grind (arith, ints, ec) }
    by_tests false b c ea eb ec e = cc
    by_tests true false c ea eb ec e = cc
    by_tests true true false ea eb ec e = cc

some_inj : {x y : Packet} → Some x ≡ Some y → x ≡ y
some_inj e = cc

-- the counts of a merge that holds one packet alone, of an epoch that begins at this media time
pub record HoldsOne (counts : Tally) (media : ℤ) : Type 0 where
  pub few_arrived : counts.arrived ≤ 2 ^ 62
  pub few_epochs : counts.restarts < counts.arrived
  pub slots_given : pos (counts.got + counts.lost) ≤ℤ (media +ℤ pos (2 ^ 33))
  pub taken_are : counts.taken ≡ counts.got + 1

-- a merge that begins at a packet, and holds nothing else, is sound
pub sound_anew : (m : MergeState) (media media' : ℤ) (packet : Packet) (epoch : ℕ) (g h : FinMap nat_cmp Packet) (counts : Tally) (probations' : List Probation) (tracks' : List Track) → IsSound m media → Fits m.spec packet → packet.seq < 65536 → packet.ts < 2 ^ 32 → (m.time -ℤ pos m.spec.latency) <ℤ media' → media' <ℤ (m.time -ℤ pos m.spec.latency +ℤ pos (m.spec.window * m.spec.frames)) → IsEmpty g → ((n : ℕ) → get h n ≡ (if nat_eq n (65536 + packet.seq) then Some packet else get g n)) → epoch ≡ counts.restarts → HoldsOne counts media' → IsSound (record m { anchor = Some (made_by packet epoch media'); base = 65536 + packet.seq; held = h; counts = counts; probations = probations'; tracks = tracks' }) media'
sound_anew m media media' packet epoch g h counts probations' tracks' s fits seq ts after before empty put epoch_is holds = record {
  spec_ok = s.spec_ok;
  time_low = s.time_low;
  time_high = s.time_high;
  size_is = s.size_is;
  few_arrived = holds.few_arrived;
  anchored = record {
    epoch_is = epoch_is;
    few_epochs = omega (arith, epoch_is, holds.few_epochs);
    bounds = record {
      first_low = omega arith;
      first_high = omega (arith, seq);
      stamp = ts;
      media_low = omega (arith, ints, after, s.time_low, s.spec_ok.small_latency);
      media_high = omega (arith, ints, before, s.time_high, product);
    };
    media_is = omega (arith, ints, at_base);
    next_open = λ _. sym next;
    next_low = omega (arith, next);
    next_high = omega (arith, next);
    held_low = λ n some_n. omega (arith, only n some_n);
    held_high = λ n some_n. omega (arith, only n some_n, next, wide);
    held_fits = λ n q is. subst (λ x. Fits m.spec x) (some_inj (sym (here n (subst IsSome (sym is) refl)) ∙ is)) fits;
    slots_given = holds.slots_given;
    taken_are = omega (arith, holds.taken_are, one);
  };
}
  where
    wide : 0 < m.spec.window
    wide = some_window m.spec s.spec_ok

    product : m.spec.window * m.spec.frames ≤ 16384 * 192
    product = mul-le m.spec.window m.spec.frames 16384 192 s.spec_ok.narrow s.spec_ok.few_frames

    next : next_number m.spec (made_by packet epoch media') m.time ≡ 65536 + packet.seq
    next = next_number-fresh m.spec (made_by packet epoch media') m.time s.spec_ok.some_frames after

    at_base : media_time_of m.spec (made_by packet epoch media') (65536 + packet.seq) ≡ media'
    at_base =
        let zero : 65536 + packet.seq - (65536 + packet.seq) ≡ 0 = omega arith in
        let from = media_time_of-from m.spec (made_by packet epoch media') (65536 + packet.seq) (omega arith) in
        let step = ap (λ q. q * m.spec.frames) zero in
        omega (arith, ints, from, step)

    one : held_count h (65536 + packet.seq) m.spec.window ≡ 1
    one = held_count-put g h packet (65536 + packet.seq) (65536 + packet.seq) m.spec.window (omega arith) (omega (arith, wide)) (empty (65536 + packet.seq)) put ∙ ap (λ c. c + 1) (held_count-none g (65536 + packet.seq) m.spec.window empty)

    by_eq : (n : ℕ) (b : Bool) → nat_eq n (65536 + packet.seq) ≡ b → IsSome (get h n) → (n ≡ 65536 + packet.seq) × (get h n ≡ Some packet)
    by_eq n true is some_n = (grind (arith, nat_tests, is), put n ∙ ap (λ b. if b then Some packet else get g n) is)
    by_eq n false is some_n = absurd (let no = put n ∙ ap (λ b. if b then Some packet else get g n) is ∙ empty n in let some_none = subst IsSome no some_n in cc)

    only : (n : ℕ) → IsSome (get h n) → n ≡ 65536 + packet.seq
    only n some_n = (by_eq n (nat_eq n (65536 + packet.seq)) refl some_n).0

    here : (n : ℕ) → IsSome (get h n) → get h n ≡ Some packet
    here n some_n = (by_eq n (nat_eq n (65536 + packet.seq)) refl some_n).1

-- a merge that holds nothing, and begins again at a packet, stays sound
pub sound_restart : (m : MergeState) (media media' : ℤ) (path : ℕ) (packet : Packet) (a b : Anchor) (g h : FinMap nat_cmp Packet) (base' size' : ℕ) (counts' : Tally) (probations' : List Probation) (tracks' : List Track) → IsSound m media → m.anchor ≡ Some a → m.closed ≡ false → m.counts.arrived < 2 ^ 62 → Fits m.spec packet → packet.seq < 65536 → packet.ts < 2 ^ 32 → IsEmpty m.held → GoesOn m.spec m.time media media' → b ≡ made_by packet (a.epoch + 1) media' → IsEmpty g → ((n : ℕ) → get h n ≡ (if nat_eq n (65536 + packet.seq) then Some packet else get g n)) → base' ≡ 65536 + packet.seq → size' ≡ m.size → counts' ≡ with_fate m.counts path Restarted → IsSound (record m { anchor = Some b; base = base'; size = size'; held = h; counts = counts'; probations = probations'; tracks = tracks' }) media'
sound_restart m media media' path packet a b g h base' size' counts' probations' tracks' s is_a open_yet space fits seq ts none_held first is_b empty put is_base is_size is_counts =
    rw (is_b, is_base, is_size, is_counts) (sound_anew m media media' packet (a.epoch + 1) g h (with_fate m.counts path Restarted) probations' tracks' s fits seq ts first.after first.before empty put (omega (arith, counts.restarts, an.epoch_is)) (record {
      few_arrived = omega (arith, counts.arrived, space);
      few_epochs = omega (arith, counts.arrived, counts.restarts, an.epoch_is, an.few_epochs);
      slots_given = omega (arith, ints, counts.got, counts.lost, an.slots_given, first.not_back);
      taken_are = omega (arith, counts.taken, counts.got, an.taken_are, none_before);
    }))
  where
    counts : FateCounts m.counts (with_fate m.counts path Restarted) Restarted
    counts = with_fate-counts m.counts path Restarted

    an : IsAnchored m media a
    an = anchored_at m media m.anchor a is_a s.anchored

    none_before : held_count m.held m.base m.spec.window ≡ 0
    none_before = held_count-none m.held m.base m.spec.window none_held

pub four_fresh : (fresh : Probation) → fresh ≡ no_probation → (other : ℕ) → probation_at (fresh ∷ fresh ∷ fresh ∷ fresh ∷ []) other ≡ no_probation
four_fresh fresh is zero = is
four_fresh fresh is (suc zero) = is
four_fresh fresh is (suc (suc zero)) = is
four_fresh fresh is (suc (suc (suc zero))) = is
four_fresh fresh is (suc (suc (suc (suc other)))) = refl

pub four_untracked : (fresh : Track) → fresh ≡ no_track → (other : ℕ) → track_at (fresh ∷ fresh ∷ fresh ∷ fresh ∷ []) other ≡ no_track
four_untracked fresh is zero = is
four_untracked fresh is (suc zero) = is
four_untracked fresh is (suc (suc zero)) = is
four_untracked fresh is (suc (suc (suc zero))) = is
four_untracked fresh is (suc (suc (suc (suc other)))) = refl

-- the step that the code makes
pub restart_step : (m : MergeState) (path : ℕ) (packet : Packet) (a b : Anchor) (g h : FinMap nat_cmp Packet) (base' size' : ℕ) (counts' : Tally) (fresh : Probation) (untracked : Track) → b ≡ restart_from m.spec m.time a m.base packet → IsEmpty g → ((n : ℕ) → get h n ≡ (if nat_eq n (65536 + packet.seq) then Some packet else get g n)) → base' ≡ 65536 + packet.seq → size' ≡ m.size → counts' ≡ with_fate m.counts path Restarted → fresh ≡ no_probation → untracked ≡ no_track → IsRestartStep m.spec m (record m { anchor = Some b; base = base'; size = size'; held = h; counts = counts'; probations = fresh ∷ fresh ∷ fresh ∷ fresh ∷ []; tracks = untracked ∷ untracked ∷ untracked ∷ untracked ∷ [] }) a path packet Restarted
restart_step m path packet a b g h base' size' counts' fresh untracked is_b empty put is_base is_size is_counts is_fresh is_untracked = record {
  fate_is = refl;
  held = λ n. put n ∙ ap (λ o. if nat_eq n (65536 + packet.seq) then Some packet else o) (empty n);
  probations = four_fresh fresh is_fresh;
  tracks = four_untracked untracked is_untracked;
  changed = rw (is_b, is_base, is_size, is_counts) refl;
}

-- a restart does not depend on the probations and tracks before it
pub restart_heard : (m : MergeState) (heard : List Probation) (noted : List Track) (new : MergeState) (a : Anchor) (path : ℕ) (packet : Packet) (fate : Fate) → IsRestartStep m.spec (record m { probations = heard; tracks = noted }) new a path packet fate → IsRestartStep m.spec m new a path packet fate
restart_heard m heard noted new a path packet fate step = record { fate_is = step.fate_is; held = step.held; probations = step.probations; tracks = step.tracks; changed = step.changed }
