-- After a close no more marks are produced.
use Rattle.std.proofs.Common.{◌≡◌, Bool, true, false, List, [], ◌∷◌, ◌++◌, Some, ℤ, refl, sym, ap, ◌∙◌, append-nil, append_assoc, if◌then◌else◌}
use Rattle.path_merge.proofs.CloseLemmas.{marks_of-close}
use Rattle.path_merge.proofs.HistoryLemmas.{by_last_event, copies_of_all-tick, is_closed-append, marks_in, marks_in-push, marks_of-in}
use Rattle.path_merge.proofs.LawLemmas.{marks_of-unheard}
use Rattle.rtp_stream.proofs.ProbationLemmas.{last_of-push}
use Rattle.rtp_stream.specs.Copies.{copies_of_all, copies_with}
use Rattle.rtp_stream.specs.Epochs.{anchor_of, last_of}
use Rattle.rtp_stream.specs.History.{is_closed, time_of}
use Rattle.rtp_stream.specs.MarkFacts.{MarkView}
use Rattle.rtp_stream.specs.Marks.{end_mark, marks_of, slots_at_close}
use Rattle.rtp_stream.specs.declared.stream_spec.Stream.{Stream}
use Rattle.rtp_stream.specs.declared.event.Event.{Event}
use Rattle.rtp_stream.specs.declared.event.Event.TheVariants.{Arrive, Close, Tick}

-- a history that was closed stays so
pub closed_stays : (events more : List Event) → is_closed events ≡ true → is_closed (events ++ more) ≡ true
closed_stays events more shut = is_closed-append events more ∙ rw shut refl

-- an event that is no close closes nothing
pub closed_before : (events : List Event) (event : Event) → is_closed (event ∷ []) ≡ false → is_closed (events ++ event ∷ []) ≡ true → is_closed events ≡ true
closed_before events event kept shut = either (is_closed events) (is_closed (event ∷ [])) kept (sym (is_closed-append events (event ∷ [])) ∙ shut)
  where
    either : (a b : Bool) → b ≡ false → (if a then true else b) ≡ true → a ≡ true
    either true b e h = refl
    either false b e h = sym e ∙ h

module _ (stream : Stream) (open_at : ℤ) where
  -- one more event after a close
  pub marks_of-closed : (events : List Event) (event : Event) → is_closed events ≡ true → marks_of stream open_at (events ++ event ∷ []) ≡ marks_of stream open_at events
  marks_of-closed events (Arrive path packet) shut = marks_of-unheard stream open_at events path packet (rw shut refl)
  marks_of-closed events (Tick u) shut =
      marks_of-in stream open_at (events ++ Tick u ∷ [])
      ∙ ap (λ c. marks_in stream open_at c (events ++ Tick u ∷ [])) (copies_of_all-tick stream open_at events u)
      ∙ marks_in-push stream open_at (copies_of_all stream open_at events) events (Tick u)
      ∙ rw shut (append-nil (marks_in stream open_at (copies_of_all stream open_at events) events))
      ∙ sym (marks_of-in stream open_at events)
  marks_of-closed events Close shut = marks_of-close stream open_at events ∙ rw shut (append-nil (marks_of stream open_at events))

  -- more events after a close add no mark
  pub nothing_more : (events more : List Event) → is_closed events ≡ true → marks_of stream open_at (events ++ more) ≡ marks_of stream open_at events
  nothing_more events more shut = by_last_event (λ more. marks_of stream open_at (events ++ more) ≡ marks_of stream open_at events) (ap (marks_of stream open_at) (append-nil events)) (λ more event before.
      ap (marks_of stream open_at) (sym (append_assoc events more (event ∷ [])))
      ∙ marks_of-closed (events ++ more) event (closed_stays events more shut)
      ∙ before) more

  -- the last mark of a closed history is the end
  pub ends : (events : List Event) → is_closed events ≡ true → last_of (marks_of stream open_at events) ≡ Some (end_mark stream)
  ends = by_last_event (λ events. is_closed events ≡ true → last_of (marks_of stream open_at events) ≡ Some (end_mark stream)) (λ shut. cc) step
    where
      last_end : (marks slots : List MarkView) → last_of (marks ++ (slots ++ end_mark stream ∷ [])) ≡ Some (end_mark stream)
      last_end marks slots = ap last_of (sym (append_assoc marks slots (end_mark stream ∷ []))) ∙ last_of-push (marks ++ slots) (end_mark stream)

      step : (events : List Event) (event : Event) → (is_closed events ≡ true → last_of (marks_of stream open_at events) ≡ Some (end_mark stream)) → is_closed (events ++ event ∷ []) ≡ true → last_of (marks_of stream open_at (events ++ event ∷ [])) ≡ Some (end_mark stream)
      step events (Arrive path packet) before shut = let was = closed_before events (Arrive path packet) refl shut in ap last_of (marks_of-closed events (Arrive path packet) was) ∙ before was
      step events (Tick u) before shut = let was = closed_before events (Tick u) refl shut in ap last_of (marks_of-closed events (Tick u) was) ∙ before was
      step events Close before shut = by_test (is_closed events) refl
        where
          by_test : (b : Bool) → is_closed events ≡ b → last_of (marks_of stream open_at (events ++ Close ∷ [])) ≡ Some (end_mark stream)
          by_test true is = ap last_of (marks_of-closed events Close is) ∙ before is
          by_test false is = ap last_of (marks_of-close stream open_at events) ∙ rw is (last_end (marks_of stream open_at events) (slots_at_close stream (copies_with (anchor_of stream open_at events) (copies_of_all stream open_at events)) (anchor_of stream open_at events) (time_of open_at events)))
