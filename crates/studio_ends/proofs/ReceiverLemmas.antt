-- The channels of statistics, after one more was opened.
use Rattle.std.proofs.Common.{◌≡◌, Bool, true, false, List, [], ◌∷◌, ◌++◌, Option, None, sym, subst, ◌∙◌}
use Rattle.std.proofs.lemmas.List.Elements.{All-push}
use Rattle.std.specs.List.{AllZip}
use Rattle.std.specs.Prelude.{Err, IfOk, IsErrAnd, MatchResult, Ok, Result}
use Rattle.rtp_stats.specs.declared.channel.path.PathCountsReceiver.{PathCountsReceiver}
use Rattle.rtp_stats.specs.declared.channel.stream.StreamStatsReceiver.{StreamStatsReceiver}
use Rattle.rtp_stream.specs.declared.stream_spec.Stream.{Stream}
use Rattle.studio_ends.specs.Receivers.{AllPathsReport, AllStreamsReport, HaveNoSender, HaveReceivers, IsPathChannel, IsStreamChannel}
use Rattle.studio_ends.specs.OpenedChannels.{HaveChannels, OpensMix, OpensPath, OpensStream}
use Rattle.studio_ends.specs.declared.ends.Ends.{Ends}
use Rattle.studio_ends.specs.declared.path_end.PathEnd.{PathEnd}
use Rattle.studio_ends.specs.declared.stats_channels.StatsChannels.{StatsChannels}
use Rattle.studio_ends.specs.declared.stream_end.StreamEnd.{StreamEnd}

-- one more pair of items that are related
zip-snoc : {X Y : Type 0} (R : X → Y → Type 0) (xs : List X) (ys : List Y) (x : X) (y : Y) → AllZip R xs ys → R x y → AllZip R (xs ++ x ∷ []) (ys ++ y ∷ [])
zip-snoc R [] [] x y h r = (r, tt)
zip-snoc R (a ∷ xs) (b ∷ ys) x y h r = (h.0, zip-snoc R xs ys x y h.1 r)
zip-snoc R [] (b ∷ ys) x y h r = absurd h
zip-snoc R (a ∷ xs) [] x y h r = absurd h

pub channels-path : (paths : List PathEnd) (streams : List StreamEnd) (path : PathEnd) (old new : StatsChannels)
    → HaveChannels paths streams old → OpensPath old path.sender new → HaveChannels (paths ++ path ∷ []) streams new
channels-path paths streams path old new h o = record {
  paths_report = λ on.
      let made = o.opened (sym o.wanted ∙ on) in
      subst (AllPathsReport (paths ++ path ∷ [])) (sym made.1)
      (zip-snoc (λ (p : PathEnd) receiver. IsPathChannel p.sender receiver) paths old.receivers.paths.items path made.0 (h.paths_report (sym o.wanted ∙ on)) made.2);
  streams_report = λ on. subst (AllStreamsReport streams) (sym o.streams) (h.streams_report (sym o.wanted ∙ on));
  paths_silent = λ off. All-push (λ (p : PathEnd). p.sender ≡ None) paths path (h.paths_silent (sym o.wanted ∙ off)) (o.silent (sym o.wanted ∙ off));
  streams_silent = λ off. h.streams_silent (sym o.wanted ∙ off);
}

pub channels-stream : (paths : List PathEnd) (streams : List StreamEnd) (stream : Stream) (s : StreamEnd) (old new : StatsChannels)
    → s.spec ≡ stream → HaveChannels paths streams old → OpensStream stream old s.sender new → HaveChannels paths (streams ++ s ∷ []) new
channels-stream paths streams stream s old new is h o = record {
  paths_report = λ on. subst (AllPathsReport paths) (sym o.paths) (h.paths_report (sym o.wanted ∙ on));
  streams_report = λ on.
      let made = o.opened (sym o.wanted ∙ on) in
      subst (AllStreamsReport (streams ++ s ∷ [])) (sym made.1)
      (zip-snoc (λ (e : StreamEnd) receiver. IsStreamChannel e.spec e.sender receiver) streams old.receivers.streams.items s made.0 (h.streams_report (sym o.wanted ∙ on))
      (subst (λ (t : Stream). IsStreamChannel t s.sender made.0) (sym is) made.2));
  paths_silent = λ off. h.paths_silent (sym o.wanted ∙ off);
  streams_silent = λ off. All-push (λ (e : StreamEnd). e.sender ≡ None) streams s (h.streams_silent (sym o.wanted ∙ off)) (o.silent (sym o.wanted ∙ off));
}

-- all ends have receivers, once the channel of the mix was opened too
pub receivers-all : (ends : Ends) (old new : StatsChannels) → old.are_wanted ≡ true → HaveChannels ends.paths.items ends.streams.items old → OpensMix old ends.mix.sender new
    → HaveReceivers ends new.receivers
receivers-all ends old new on h o = record {
  paths = subst (AllPathsReport ends.paths.items) (sym o.paths) (h.paths_report on);
  streams = subst (AllStreamsReport ends.streams.items) (sym o.streams) (h.streams_report on);
  mix = o.opened on;
}

pub silent-all : (ends : Ends) (old new : StatsChannels) → old.are_wanted ≡ false → HaveChannels ends.paths.items ends.streams.items old → OpensMix old ends.mix.sender new
    → HaveNoSender ends
silent-all ends old new off h o = record { paths = h.paths_silent off; streams = h.streams_silent off; mix = o.silent off }

-- what holds of a value still holds of it once the error in its place was changed
pub ok-kept : {X E F : Type 0} (P : X → Type 0) (Q : E → F → Type 0) (r : Result X E) (s : Result X F)
    → MatchResult r (λ x. s ≡ Ok x) (λ e. IsErrAnd s (Q e)) → IfOk r P → IfOk s P
ok-kept P Q (Ok x) s h p = subst (λ t. IfOk t P) (sym h) p
ok-kept P Q (Err e) (Err f) h p = tt
ok-kept P Q (Err e) (Ok x) h p = absurd h
