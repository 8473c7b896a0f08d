-- Marks that are kept, stream by stream.
use Rattle.std.proofs.Common.{◌≡◌, inl, inr, ◌<◌, ◌≤◌, ◌+◌, ℕ, Bool, true, ◌&&◌, List, length, set, get_or, Option, None, Some, IfSome, slice_get, refl, sym, ap, subst, ◌∙◌, arith}
use Rattle.std.proofs.lemmas.Bool.{cases_eq}
use Rattle.std.proofs.lemmas.List.{length-set}
use Rattle.std.proofs.lemmas.Option.{slice_get-get_or}
use Rattle.lane_align.proofs.MarkListLemmas.{both_left, both_right}
use Rattle.studio_config.specs.Studio.{Studio}
use Rattle.studio_mix.specs.Feed.{Feed}
use Rattle.rtp_stream.specs.MarkFacts.{MarkView}
use Rattle.studio_mix.specs.Mixer.{MixerState, has_space_of}
use Rattle.studio_mix.proofs.MixerLemmas.{set_same_at, set_other_at}
use Rattle.studio_session.specs.Event.{TraceEvent}
use Rattle.studio_session.specs.Cursor.{CursorState, next_of}
use Rattle.studio_session.specs.Play.{HasPlayed, IsGiven, Plays}
use Rattle.studio_engine.specs.Engine.{AreIdle}
use Rattle.studio_engine.specs.Near.{HasCapacities, IsAwaited}
use Rattle.studio_engine.proofs.NearLemmas.{lent_has_space}

-- a session after the cursor of one stream returned more marks
pub played_more : (studio : Studio) (events : List TraceEvent) (mixer new : MixerState) (cursors : List CursorState) (next i : ℕ) (moved : CursorState)
    → (played : HasPlayed studio events (record { mixer = mixer; cursors = cursors }) next) → i < length cursors
    → Plays studio events played.feeds next i new moved
    → HasPlayed studio events (record { mixer = new; cursors = set cursors i moved }) next
played_more studio events mixer new cursors next i moved played within last =
    let feeds = played.feeds in
    let f : Feed = last.feed in
    let count = played.count in
    let in_feeds : i < length feeds = omega (arith, within, count) in
    record {
      feeds = set feeds i f;
      fed = last.fed;
      count = length-set cursors i moved ∙ played.count ∙ sym (length-set feeds i f);
      given = λ j cursor feed c_is f_is. elim (cases_eq j i) [
        | inl e ↦
            let c' : cursor ≡ moved = set_same_at cursors i moved cursor within (subst (λ k. slice_get (set cursors i moved) k ≡ Some cursor) e c_is) in
            let f' : feed ≡ f = set_same_at feeds i f feed in_feeds (subst (λ k. slice_get (set feeds i f) k ≡ Some feed) e f_is) in
            subst (λ k. IsGiven k studio.open_at events cursor feed) (sym e)
            (subst (λ x. IsGiven i studio.open_at events x feed) (sym c')
            (subst (λ x. IsGiven i studio.open_at events moved x) (sym f') last.given))
        | inr ne ↦ played.given j cursor feed (set_other_at cursors i j moved cursor ne c_is) (set_other_at feeds i j f feed ne f_is)
      ];
    }

-- one more stream has become idle
pub idle_more : (cursors : List CursorState) (i : ℕ) (moved : CursorState) (all kept : Bool) → i < length cursors
    → (all ≡ true → (j : ℕ) (cursor : CursorState) → j < i → slice_get cursors j ≡ Some cursor → cursor.reading ≡ None)
    → (kept ≡ true → moved.reading ≡ None)
    → (all && kept) ≡ true → (j : ℕ) (cursor : CursorState) → j < i + 1 → slice_get (set cursors i moved) j ≡ Some cursor → cursor.reading ≡ None
idle_more cursors i moved all kept within before last both j cursor h at = elim (cases_eq j i) [
  | inl e ↦
      let same : cursor ≡ moved = set_same_at cursors i moved cursor within (subst (λ k. slice_get (set cursors i moved) k ≡ Some cursor) e at) in
      ap (λ (c : CursorState). c.reading) same ∙ last (both_right all kept both)
  | inr ne ↦ before (both_left all kept both) j cursor (omega (arith, h, ne)) (set_other_at cursors i j moved cursor ne at)
]

-- all streams have become idle
pub all_idle : (cursors : List CursorState) (n : ℕ) → length cursors ≤ n → ((j : ℕ) (cursor : CursorState) → j < n → slice_get cursors j ≡ Some cursor → cursor.reading ≡ None) → AreIdle cursors
all_idle cursors n all each = λ i d within. each i (get_or cursors i d) (omega (arith, within, all)) (slice_get-get_or cursors i d within)

-- before a close there is space for the next mark, if there is one
pub next_fits : (studio : Studio) (events : List TraceEvent) (mixer : MixerState) (feeds : List Feed) (next number : ℕ) (cursor : CursorState) → IsAwaited studio events next → HasCapacities studio mixer
    → number < length feeds → Plays studio events feeds next number mixer cursor → length events ≤ cursor.place → IfSome (next_of cursor) (λ mark. has_space_of mixer number mark ≡ true)
next_fits studio events mixer feeds next number cursor awaited sized within plays taken = by_mark (next_of cursor) refl
  where
    by_mark : (o : Option MarkView) → next_of cursor ≡ o → IfSome o (λ mark. has_space_of mixer number mark ≡ true)
    by_mark None is = tt
    by_mark (Some mark) is = lent_has_space studio events mixer feeds next number cursor mark awaited sized within plays taken is
