-- Longer lists of marks: the parts of a block that do not change.
use Rattle.std.proofs.Common.{◌≡◌, [], ◌∷◌, ◌++◌, ℕ, zero, suc, ◌+◌, ◌<◌, Bool, true, false, not, ◌&&◌, ◌||◌, nat_lt, ℤ, pos, ◌+ℤ◌, ◌≤ℤ◌, ◌<ℤ◌, int_lt, List, map, flat_map, Some, None, Option, unwrap_or, refl, sym, ap, subst, ◌∙◌, arith, append_assoc, inl, inr}
use Rattle.std.proofs.lemmas.Int.{ints}
use Rattle.std.proofs.lemmas.Bool.{cases_Bool, false≢true}
use Rattle.std.proofs.lemmas.List.{append-nil}
use Rattle.std.specs.List.{range_with_len}
use Rattle.std.specs.Option.{option_or}
use Rattle.gain_mix.specs.Changes.{matrix_at}
use Rattle.gain_mix.specs.Mix.{mixed_frame}
use Rattle.rtp_stream.specs.declared.stream_spec.Stream.{Stream}
use Rattle.rtp_stream.specs.StreamSpecFacts.{format_of}
use Rattle.rtp_stream.specs.MarkFacts.{MarkView}
use Rattle.rtp_stream.specs.MarkList.{is_mark_list, is_end, has_end}
use Rattle.rtp_stream.specs.declared.mark.PacketFormat.{PacketFormat}
use Rattle.rtp_stream.specs.declared.mark.MarkKind.{MarkKind}
use Rattle.rtp_stream.specs.declared.mark.MarkKind.TheVariants.{Slot, Quiet, End}
use Rattle.lane_align.specs.declared.cover.Cover.{Cover}
use Rattle.lane_align.specs.declared.cover.Cover.TheVariants.{Nothing, Until, All}
use Rattle.lane_align.specs.Cover.{slot_of, quiet_of, last_slot, last_quiet, time_reached, cover_to, cover_of, covers, end_of}
use Rattle.lane_align.specs.Value.{value_at, frame_at}
use Rattle.lane_align.proofs.FeedLemmas.{last_slot_more, last_quiet_more, has_end_more}
use Rattle.lane_align.proofs.MarkListLemmas.{both_left, both_right, list_before}
use Rattle.lane_align.proofs.LawLemmas.{values_stay, cover_stays, end_stays}
use Rattle.mix_packets.specs.declared.out_spec.Output.{Output}
use Rattle.mix_packets.specs.OutSpec.{shift_of}
use Rattle.mix_packets.specs.Block.{block_start, block_datagram}
use Rattle.studio_config.specs.Studio.{Studio}
use Rattle.studio_mix.specs.Feed.{Feed, IsLonger, AreLonger, studio_values}
use Rattle.studio_mix.specs.Mixed.{mixed_samples}
use Rattle.studio_mix.specs.Output.{block_samples, datagram_of}
use Rattle.studio_mix.specs.Ready.{are_covered, have_ended, greatest_end, block_count, is_ready}
use Rattle.studio_mix.proofs.MixerLemmas.{next_start}
use Rattle.studio_mix.proofs.ReadyLemmas.{before_count, lt_max, lt_yes}

pub covers_before : (cover : Cover) (t u : ℤ) → u ≤ℤ t → covers cover t ≡ true → covers cover u ≡ true
covers_before Nothing t u h e = absurd (false≢true e)
covers_before (Until v) t u h e = grind (arith, ints, h, e)
covers_before All t u h e = refl

-- if the feeds are longer, so is the first one; `rest_longer` says so of the others
pub first_longer : (feed long : Feed) (feeds longer : List Feed) → AreLonger (feed ∷ feeds) (long ∷ longer) → IsLonger feed long
first_longer feed long feeds longer l = l.each 0 feed long refl refl

pub rest_longer : (feed long : Feed) (feeds longer : List Feed) → AreLonger (feed ∷ feeds) (long ∷ longer) → AreLonger feeds longer
rest_longer feed long feeds longer l = record { count = let e = l.count in omega (arith, e); each = λ i f g at there. l.each (suc i) f g at there }

pub listed_on : (feed long : Feed) (l : IsLonger feed long) → is_mark_list (format_of feed.stream) (feed.marks ++ l.more) ≡ true
listed_on feed long l =
    sym (ap (λ (s : Stream). is_mark_list (format_of s) long.marks) l.stream ∙ ap (is_mark_list (format_of feed.stream)) l.marks) ∙ l.listed

-- a time that is covered stays covered by a longer list of marks
cover_longer : (feed long : Feed) (t : ℤ) → IsLonger feed long → covers (cover_of (format_of feed.stream) feed.marks) t ≡ true
    → covers (cover_of (format_of long.stream) long.marks) t ≡ true
cover_longer feed long t l h =
    ap (λ (s : Stream). covers (cover_of (format_of s) long.marks) t) l.stream
    ∙ ap (λ m. covers (cover_of (format_of feed.stream) m) t) l.marks
    ∙ cover_stays (format_of feed.stream) feed.marks l.more t (listed_on feed long l) h

pub covered_longer : (feeds longer : List Feed) (t : ℤ) → AreLonger feeds longer → are_covered feeds t ≡ true → are_covered longer t ≡ true
covered_longer [] [] t l h = refl
covered_longer [] (long ∷ longer) t l h = absurd (let e = l.count in omega (arith, e))
covered_longer (feed ∷ feeds) [] t l h = absurd (let e = l.count in omega (arith, e))
covered_longer (feed ∷ feeds) (long ∷ longer) t l h =
    ap (λ b. b && are_covered longer t) (cover_longer feed long t (first_longer feed long feeds longer l) (both_left (covers (cover_of (format_of feed.stream) feed.marks) t) (are_covered feeds t) h))
    ∙ covered_longer feeds longer t (rest_longer feed long feeds longer l) (both_right (covers (cover_of (format_of feed.stream) feed.marks) t) (are_covered feeds t) h)

map_same : {X Y : Type 0} (f g : X → Y) (xs : List X) → ((x : X) → f x ≡ g x) → map f xs ≡ map g xs
map_same f g [] same = refl
map_same f g (x ∷ xs) same = ap (λ y. y ∷ map f xs) (same x) ∙ ap (λ l. g x ∷ l) (map_same f g xs same)

-- the values at a time that is covered stay the same with a longer list of marks
frame_longer : (feed long : Feed) (t : ℤ) → IsLonger feed long → covers (cover_of (format_of feed.stream) feed.marks) (t +ℤ pos 1) ≡ true
    → frame_at (format_of long.stream) long.marks t ≡ frame_at (format_of feed.stream) feed.marks t
frame_longer feed long t l h =
    ap (λ (s : Stream). frame_at (format_of s) long.marks t) l.stream
    ∙ ap (λ m. frame_at (format_of feed.stream) m t) l.marks
    ∙ map_same (value_at (format_of feed.stream) (feed.marks ++ l.more) t) (value_at (format_of feed.stream) feed.marks t) (range_with_len 0 feed.stream.channels)
    (λ k. values_stay (format_of feed.stream) feed.marks l.more t k (listed_on feed long l) h)

pub values_longer : (feeds longer : List Feed) (t : ℤ) → AreLonger feeds longer → are_covered feeds (t +ℤ pos 1) ≡ true → studio_values longer t ≡ studio_values feeds t
values_longer [] [] t l h = refl
values_longer [] (long ∷ longer) t l h = absurd (let e = l.count in omega (arith, e))
values_longer (feed ∷ feeds) [] t l h = absurd (let e = l.count in omega (arith, e))
values_longer (feed ∷ feeds) (long ∷ longer) t l h =
    ap (λ v. v ++ studio_values longer t) (frame_longer feed long t (first_longer feed long feeds longer l) (both_left (covers (cover_of (format_of feed.stream) feed.marks) (t +ℤ pos 1)) (are_covered feeds (t +ℤ pos 1)) h))
    ∙ ap (λ v. frame_at (format_of feed.stream) feed.marks t ++ v) (values_longer feeds longer t (rest_longer feed long feeds longer l) (both_right (covers (cover_of (format_of feed.stream) feed.marks) (t +ℤ pos 1)) (are_covered feeds (t +ℤ pos 1)) h))

pub covered_before : (feeds : List Feed) (t u : ℤ) → u ≤ℤ t → are_covered feeds t ≡ true → are_covered feeds u ≡ true
covered_before [] t u h e = refl
covered_before (feed ∷ feeds) t u h e =
    ap (λ b. b && are_covered feeds u) (covers_before (cover_of (format_of feed.stream) feed.marks) t u h (both_left (covers (cover_of (format_of feed.stream) feed.marks) t) (are_covered feeds t) e))
    ∙ covered_before feeds t u h (both_right (covers (cover_of (format_of feed.stream) feed.marks) t) (are_covered feeds t) e)

pub same_rows : (row other : ℕ → List ℤ) (a n : ℕ) → ((f : ℕ) → f < n → row (a + f) ≡ other (a + f)) → flat_map row (range_with_len a n) ≡ flat_map other (range_with_len a n)
same_rows row other a zero same = refl
same_rows row other a (suc n) same =
    let here : a ≡ a + 0 = omega arith in
    ap (λ l. l ++ flat_map row (range_with_len (a + 1) n)) (ap row here ∙ same 0 (omega arith) ∙ ap other (sym here))
    ∙ ap (λ l. other a ++ l) (same_rows row other (a + 1) n (λ f h.
    let next : a + 1 + f ≡ a + (f + 1) = omega arith in
    ap row next ∙ same (f + 1) (omega (arith, h)) ∙ ap other (sym next)))

block_longer : (studio : Studio) (feeds longer : List Feed) (n : ℕ) → AreLonger feeds longer → are_covered feeds (block_start studio.output (n + 1)) ≡ true
    → block_samples studio longer n ≡ block_samples studio feeds n
block_longer studio feeds longer n l covered =
    let out = studio.output in
    same_rows (λ f. mixed_samples studio longer (block_start out n +ℤ pos f)) (λ f. mixed_samples studio feeds (block_start out n +ℤ pos f)) 0 out.frames
    (λ f h.
    let t = block_start out n +ℤ pos (0 + f) in
    let end = next_start out n in
    let before : (t +ℤ pos 1) ≤ℤ block_start out (n + 1) = omega (arith, ints, h, end) in
    ap (λ v. mixed_frame (matrix_at studio.schedule t) v (shift_of out.enc)) (values_longer feeds longer t l (covered_before feeds (block_start out (n + 1)) (t +ℤ pos 1) before covered)))

pub datagram_longer : (studio : Studio) (feeds longer : List Feed) (n : ℕ) → AreLonger feeds longer → are_covered feeds (block_start studio.output (n + 1)) ≡ true
    → datagram_of studio longer n ≡ datagram_of studio feeds n
datagram_longer studio feeds longer n l covered = ap (block_datagram studio.output n) (block_longer studio feeds longer n l covered)

-- if a stream has ended, no mark follows
feed_longer : (feed long : Feed) → IsLonger feed long → has_end feed.marks ≡ true → long ≡ feed
feed_longer feed long l ended =
    let none : l.more ≡ [] = end_stays (format_of feed.stream) feed.marks l.more (listed_on feed long l) ended in
    let marks : long.marks ≡ feed.marks = l.marks ∙ ap (λ m. feed.marks ++ m) none ∙ append-nil feed.marks in
    let one : record { stream = long.stream; marks = long.marks } ≡ record { stream = feed.stream; marks = long.marks } = ap (λ (s : Stream). record { stream = s; marks = long.marks }) l.stream in
    let two : record { stream = feed.stream; marks = long.marks } ≡ record { stream = feed.stream; marks = feed.marks } = ap (λ (m : List MarkView). record { stream = feed.stream; marks = m }) marks in
    one ∙ two

ended_longer : (feeds longer : List Feed) → AreLonger feeds longer → have_ended feeds ≡ true → longer ≡ feeds
ended_longer [] [] l h = refl
ended_longer [] (long ∷ longer) l h = absurd (let e = l.count in omega (arith, e))
ended_longer (feed ∷ feeds) [] l h = absurd (let e = l.count in omega (arith, e))
ended_longer (feed ∷ feeds) (long ∷ longer) l h =
    ap (λ f. f ∷ longer) (feed_longer feed long (first_longer feed long feeds longer l) (both_left (has_end feed.marks) (have_ended feeds) h))
    ∙ ap (λ fs. feed ∷ fs) (ended_longer feeds longer (rest_longer feed long feeds longer l) (both_right (has_end feed.marks) (have_ended feeds) h))

-- the end of a list is not before a time that it covered before its end
reached : (ended : Bool) (r : Option ℤ) (start t : ℤ) → ended ≡ false → covers (cover_to ended r) t ≡ true → t ≤ℤ unwrap_or r start
reached true r start t e h = absurd (false≢true (sym e))
reached false (Some u) start t e h = grind (arith, ints, h)
reached false None start t e h = absurd (false≢true h)

end_slot : (kind : MarkKind) → is_end kind ≡ true → slot_of kind ≡ None
end_slot (Slot epoch number media body) h = absurd (false≢true h)
end_slot (Quiet until) h = absurd (false≢true h)
end_slot End h = refl

end_quiet : (kind : MarkKind) → is_end kind ≡ true → quiet_of kind ≡ None
end_quiet (Slot epoch number media body) h = absurd (false≢true h)
end_quiet (Quiet until) h = absurd (false≢true h)
end_quiet End h = refl

end_reaches : (format : PacketFormat) (start : ℤ) (marks more : List MarkView) (t : ℤ) → is_mark_list format (marks ++ more) ≡ true
    → has_end marks ≡ false → covers (cover_of format marks) t ≡ true → t ≤ℤ end_of format start (marks ++ more)
end_reaches format start marks [] t listed going covered =
    subst (λ l. t ≤ℤ end_of format start l) (sym (append-nil marks))
    (reached (has_end marks) (time_reached format.frames (last_slot marks) (last_quiet marks)) start t going covered)
end_reaches format start marks (x ∷ more) t listed going covered =
    let listed' : is_mark_list format ((marks ++ x ∷ []) ++ more) ≡ true = ap (is_mark_list format) (append_assoc marks (x ∷ []) more) ∙ listed in
    let first = list_before format None (marks ++ x ∷ []) more listed' in
    elim (cases_Bool (is_end x.kind)) [
      | inl last ↦
          let over : has_end (marks ++ x ∷ []) ≡ true = has_end_more marks x ∙ ap (λ b. b || has_end marks) last in
          let none : more ≡ [] = end_stays format (marks ++ x ∷ []) more listed' over in
          let slot : last_slot (marks ++ x ∷ []) ≡ last_slot marks = last_slot_more marks x ∙ ap (λ o. option_or o (last_slot marks)) (end_slot x.kind last) in
          let quiet : last_quiet (marks ++ x ∷ []) ≡ last_quiet marks = last_quiet_more marks x ∙ ap (λ o. option_or o (last_quiet marks)) (end_quiet x.kind last) in
          subst (λ l. t ≤ℤ end_of format start (marks ++ x ∷ l)) (sym none)
          (subst (λ s. t ≤ℤ unwrap_or (time_reached format.frames s (last_quiet (marks ++ x ∷ []))) start) (sym slot)
          (subst (λ q. t ≤ℤ unwrap_or (time_reached format.frames (last_slot marks) q) start) (sym quiet)
          (reached (has_end marks) (time_reached format.frames (last_slot marks) (last_quiet marks)) start t going covered)))
      | inr not_last ↦
          let on : has_end (marks ++ x ∷ []) ≡ false = has_end_more marks x ∙ ap (λ b. b || has_end marks) not_last ∙ going in
          subst (λ l. t ≤ℤ end_of format start l) (append_assoc marks (x ∷ []) more)
          (end_reaches format start (marks ++ x ∷ []) more t listed' on (cover_stays format marks (x ∷ []) t first covered))
    ]

or_right : (a b : Bool) → b ≡ true → (a || b) ≡ true
or_right true b h = refl
or_right false b h = h

-- so the greatest end of longer lists is after each time before one that all covered, if one of them had not ended
past_longer : (start : ℤ) (feeds longer : List Feed) (t u : ℤ) → t <ℤ u → AreLonger feeds longer → are_covered feeds u ≡ true → have_ended feeds ≡ false
    → int_lt t (greatest_end start longer) ≡ true
past_longer start [] longer t u h l covered going = absurd (false≢true (sym going))
past_longer start (feed ∷ feeds) [] t u h l covered going = absurd (let e = l.count in omega (arith, e))
past_longer start (feed ∷ feeds) (long ∷ longer) t u h l covered going =
    let one = first_longer feed long feeds longer l in
    let end = end_of (format_of long.stream) start long.marks in
    lt_max t end (greatest_end start longer)
    ∙ elim (cases_Bool (has_end feed.marks)) [
      | inl ended ↦
          or_right (int_lt t end) (int_lt t (greatest_end start longer))
          (past_longer start feeds longer t u h (rest_longer feed long feeds longer l)
          (both_right (covers (cover_of (format_of feed.stream) feed.marks) u) (are_covered feeds u) covered)
          (ap (λ b. b && have_ended feeds) (sym ended) ∙ going))
      | inr on ↦
          let reaches : u ≤ℤ end =
          subst (λ (s : Stream). u ≤ℤ end_of (format_of s) start long.marks) (sym one.stream)
          (subst (λ m. u ≤ℤ end_of (format_of feed.stream) start m) (sym one.marks)
          (end_reaches (format_of feed.stream) start feed.marks one.more u (listed_on feed long one) on (both_left (covers (cover_of (format_of feed.stream) feed.marks) u) (are_covered feeds u) covered))) in
          ap (λ b. b || int_lt t (greatest_end start longer)) (lt_yes t end (omega (arith, ints, h, reaches)))
    ]

pub ready_longer : (out : Output) (feeds longer : List Feed) (n : ℕ) → 0 < out.frames → AreLonger feeds longer → are_covered feeds (block_start out (n + 1)) ≡ true
    → is_ready out longer n ≡ is_ready out feeds n
ready_longer out feeds longer n some l covered = elim (cases_Bool (have_ended feeds)) [
  | inl ended ↦ ap (λ fs. is_ready out fs n) (ended_longer feeds longer l ended)
  | inr going ↦
      let next = next_start out n in
      let later : block_start out n <ℤ block_start out (n + 1) = omega (arith, ints, some, next) in
      let below : nat_lt n (block_count out longer) ≡ true = sym (before_count out longer n some) ∙ past_longer out.start feeds longer (block_start out n) (block_start out (n + 1)) later l covered going in
      let long : is_ready out longer n ≡ true =
      ap (λ b. b && (not (have_ended longer) || nat_lt n (block_count out longer))) (covered_longer feeds longer (block_start out (n + 1)) l covered)
      ∙ or_right (not (have_ended longer)) (nat_lt n (block_count out longer)) below in
      let short : is_ready out feeds n ≡ true =
      ap (λ b. b && (not (have_ended feeds) || nat_lt n (block_count out feeds))) covered
      ∙ ap (λ b. not b || nat_lt n (block_count out feeds)) going in
      long ∙ sym short
]

pub ready_covered : (out : Output) (feeds : List Feed) (n : ℕ) → is_ready out feeds n ≡ true → are_covered feeds (block_start out (n + 1)) ≡ true
ready_covered out feeds n h = both_left (are_covered feeds (block_start out (n + 1))) (not (have_ended feeds) || nat_lt n (block_count out feeds)) h
