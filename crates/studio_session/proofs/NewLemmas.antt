-- A session before its first event.
use Rattle.std.proofs.Common.{◌≡◌, inl, inr, ◌<◌, ◌+◌, ◌-◌, ℕ, List, [], ◌∷◌, ◌++◌, length, get_or, ℤ, None, All, refl, sym, ap, subst, ◌∙◌, arith}
use Rattle.std.proofs.lemmas.Bool.{cases_lt}
use Rattle.std.proofs.lemmas.List.{length_push, length-map, get_or-map, get_or_append_left, get_or-append_right}
use Rattle.std.proofs.lemmas.List.Elements.{All-push}
use Rattle.std.proofs.lemmas.Option.{slice_get_read, slice_get_within, get_or_from_slice_get, slice_get-get_or}
use Rattle.rtp_stream.specs.declared.stream_spec.Stream.{Stream}
use Rattle.studio_config.specs.Studio.{Studio}
use Rattle.studio_mix.specs.Feed.{Feed, unfed}
use Rattle.studio_mix.specs.Mixer.{MixerState, HasFeeds}
use Rattle.studio_session.specs.Event.{TraceEvent}
use Rattle.studio_session.specs.Cursor.{CursorState, HasPaths, HasPulled, IsReadyFor}
use Rattle.studio_session.specs.Play.{AreNew, HasPathsBy, HasPlayed, IsGiven}

-- one more cursor was made
pub new_more : (streams : List Stream) (open_at : ℤ) (cursors : List CursorState) (i : ℕ) (stream : Stream) (cursor : CursorState)
    → AreNew streams open_at cursors i → stream ≡ get_or streams i stream → cursor.place ≡ 0 → cursor.reading ≡ None
    → ((events : List TraceEvent) → HasPulled stream i open_at events cursor 0)
    → AreNew streams open_at (cursors ++ cursor ∷ []) (i + 1)
new_more streams open_at cursors i stream cursor before is place stays_idle pulled =
    let count = before.count_is in
    record {
      count_is = length_push cursors cursor ∙ ap (λ k. k + 1) before.count_is;
      settled = All-push (λ (c : CursorState). c.reading ≡ None) cursors cursor before.settled stays_idle;
      each = λ k c s c_is s_is.
          let within : k < length (cursors ++ cursor ∷ []) = slice_get_within (cursors ++ cursor ∷ []) k c c_is in
          let long : length (cursors ++ cursor ∷ []) ≡ length cursors + 1 = length_push cursors cursor in
          let read = get_or_from_slice_get (cursors ++ cursor ∷ []) k c c c_is in
          elim (cases_lt k (length cursors)) [
            | inl below ↦ before.each k c s (slice_get_read cursors (length cursors) k c refl below (sym (sym (get_or_append_left cursors (cursor ∷ []) c k below) ∙ read))) s_is
            | inr past ↦
                let here : k ≡ i = omega (arith, within, long, count, past) in
                let at : k - length cursors ≡ 0 = omega (arith, here, count) in
                let c' : cursor ≡ c = ap (λ j. get_or (cursor ∷ []) j c) (sym at) ∙ sym (get_or-append_right cursors (cursor ∷ []) (length cursors) k c refl past) ∙ read in
                let s' : stream ≡ s = is ∙ ap (λ j. get_or streams j stream) (sym here) ∙ get_or_from_slice_get streams k s stream s_is in
                subst (λ x. (x.place ≡ 0) × ((events : List TraceEvent) → HasPulled s k open_at events x 0)) c'
                (subst (λ (x : Stream). (cursor.place ≡ 0) × ((events : List TraceEvent) → HasPulled x k open_at events cursor 0)) s'
                (subst (λ j. (cursor.place ≡ 0) × ((events : List TraceEvent) → HasPulled stream j open_at events cursor 0)) (sym here) (place, pulled)))
          ];
    }

-- a session before its first event has returned no mark
pub played_none : (studio : Studio) (events : List TraceEvent) (mixer : MixerState) (cursors : List CursorState) → HasFeeds studio mixer (unfed studio.streams) 0
    → AreNew studio.streams studio.open_at cursors (length studio.streams) → HasPlayed studio events (record { mixer = mixer; cursors = cursors }) 0
played_none studio events mixer cursors fed new =
    let F : Stream → Feed = λ stream. record { stream = stream; marks = [] } in
    let long : length (unfed studio.streams) ≡ length studio.streams = length-map studio.streams F in
    record {
      feeds = unfed studio.streams;
      fed = fed;
      count = new.count_is ∙ sym long;
      given = λ i cursor feed c_is f_is.
          let in_map : i < length (unfed studio.streams) = slice_get_within (unfed studio.streams) i feed f_is in
          let within : i < length studio.streams = omega (arith, in_map, long) in
          let stream : Stream = get_or studio.streams i feed.stream in
          let is : F stream ≡ feed = sym (get_or-map F studio.streams i feed.stream feed within) ∙ get_or_from_slice_get (unfed studio.streams) i feed feed f_is in
          let at = new.each i cursor stream c_is (slice_get-get_or studio.streams i feed.stream within) in
          subst (IsGiven i studio.open_at events cursor) is (record { pulled = at.1 events; first = refl });
    }

-- each cursor before its first event can take the events
pub ready_none : (studio : Studio) (events : List TraceEvent) (cursors : List CursorState) → AreNew studio.streams studio.open_at cursors (length studio.streams)
    → HasPathsBy studio events → All (IsReadyFor events) cursors
ready_none studio events cursors new has = λ i d h.
    let count = new.count_is in
    let within : i < length studio.streams = omega (arith, h, count) in
    let cursor = get_or cursors i d in
    let stream : Stream = get_or studio.streams i d.spec in
    let s_is = slice_get-get_or studio.streams i d.spec within in
    let at = new.each i cursor stream (slice_get-get_or cursors i d h) s_is in
    let pulled = at.1 events in
    record {
      within = pulled.within;
      paths = subst (λ n. HasPaths cursor.spec n events) (sym pulled.stream_number) (subst (λ (s : Stream). HasPaths s i events) (sym pulled.spec) (has.each i stream s_is));
    }
