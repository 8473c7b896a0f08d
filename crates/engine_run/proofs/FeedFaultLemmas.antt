-- The numbers of faults of a run's feeds, after one more call, and in its report.
use Rattle.std.proofs.Common.{◌≡◌, ℕ, zero, suc, ◌+◌, true, List, [], ◌∷◌, ◌++◌, drop, flat_map, get_or, length, map, slice_get, take, Some, refl, sym, ap, subst, ◌∙◌, arith}
use Rattle.std.specs.List.{AllZip}
use Rattle.std.specs.declared.vec.Vec.{Vec}
use Rattle.std.specs.declared.alloc.Global.{Global}
use Rattle.std.proofs.Math.ListN.{set}
use Rattle.std.proofs.lemmas.List.{drop-map, length-drop, map-append, take-append-drop, take-map}
use Rattle.std.proofs.lemmas.List.Sums.{sum_by-append}
use Rattle.rtp_stream.specs.declared.stream_spec.Stream.{Stream}
use Rattle.studio_io.specs.Answers.{Answer}
use Rattle.studio_io.specs.FaultCounts.{AreFaultNumbers, IsFaultNumber}
use Rattle.studio_io.proofs.FaultLemmas.{counts-ended, counts-none}
use Rattle.engine_run.specs.FeedFaults.{AllKeepFaults, ReaderKeepsFaults, StreamKeepsFaults}
use Rattle.engine_run.specs.Grouping.{grouped, path_total}
use Rattle.engine_run.specs.Intake.{AllEnded, HaveBegun, HaveEnded, fault_number, fault_numbers, new_reader}
use Rattle.engine_run.specs.declared.feed_reader.FeedReader.{FeedReader}

-- a relation of each element to itself
zip_same : {X : Type 0} (R : X → X → Type 0) → ((x : X) → R x x) → (xs : List X) → AllZip R xs xs
zip_same R same [] = tt
zip_same R same (x ∷ xs) = (same x, zip_same R same xs)

-- a relation that holds in two steps
zip_further : {X : Type 0} (R : X → X → Type 0) → ((x y z : X) → R x y → R y z → R x z) → (xs ys zs : List X) → AllZip R xs ys → AllZip R ys zs → AllZip R xs zs
zip_further R further [] [] [] h k = tt
zip_further R further [] [] (z ∷ zs) h k = absurd k
zip_further R further [] (y ∷ ys) zs h k = absurd h
zip_further R further (x ∷ xs) [] zs h k = absurd h
zip_further R further (x ∷ xs) (y ∷ ys) [] h k = absurd k
zip_further R further (x ∷ xs) (y ∷ ys) (z ∷ zs) h k = (further x y z h.0 k.0, zip_further R further xs ys zs h.1 k.1)

-- a relation to a list with another element at one place
zip_set : {X : Type 0} (R : X → X → Type 0) → ((x : X) → R x x) → (xs : List X) (i : ℕ) (d v : X) → R (get_or xs i d) v → AllZip R xs (set xs i v)
zip_set R same [] i d v h = tt
zip_set R same (x ∷ xs) zero d v h = (h, zip_same R same xs)
zip_set R same (x ∷ xs) (suc i) d v h = (same x, zip_set R same xs i d v h)

-- a relation between two lists, and between those that follow them
zip_append : {A B : Type 0} (R : A → B → Type 0) (xs more : List A) (ys rest : List B) → AllZip R xs ys → AllZip R more rest → AllZip R (xs ++ more) (ys ++ rest)
zip_append R [] more [] rest h k = k
zip_append R [] more (y ∷ ys) rest h k = absurd h
zip_append R (x ∷ xs) more [] rest h k = absurd h
zip_append R (x ∷ xs) more (y ∷ ys) rest h k = (h.0, zip_append R xs more ys rest h.1 k)

module _ {F : Type 0} (feed_told : F → List Answer) where
  -- a reader whose feed was not called
  pub reader-same : (reader : FeedReader F) → ReaderKeepsFaults feed_told reader reader
  reader-same reader = λ told counts. counts

  reader_further : (a b c : FeedReader F) → ReaderKeepsFaults feed_told a b → ReaderKeepsFaults feed_told b c → ReaderKeepsFaults feed_told a c
  reader_further a b c h k = λ told counts. k told (h told counts)

  -- no feed of a stream was called
  pub stream-same : (readers : List (FeedReader F)) → StreamKeepsFaults feed_told readers readers
  stream-same readers = zip_same (ReaderKeepsFaults feed_told) reader-same readers

  pub stream-further : (a b c : List (FeedReader F)) → StreamKeepsFaults feed_told a b → StreamKeepsFaults feed_told b c → StreamKeepsFaults feed_told a c
  stream-further a b c h k = zip_further (ReaderKeepsFaults feed_told) reader_further a b c h k

  -- one more feed of a stream was called
  pub stream-one : (olds now : List (FeedReader F)) (i : ℕ) (d moved : FeedReader F) → StreamKeepsFaults feed_told olds now → ReaderKeepsFaults feed_told (get_or now i d) moved → StreamKeepsFaults feed_told olds (set now i moved)
  stream-one olds now i d moved h k = stream-further olds now (set now i moved) h (zip_set (ReaderKeepsFaults feed_told) reader-same now i d moved k)

  -- no feed of any stream was called
  pub all-same : (streams : List (Vec (FeedReader F) Global)) → AllKeepFaults feed_told streams streams
  all-same streams = zip_same (λ (old new : Vec (FeedReader F) Global). StreamKeepsFaults feed_told old.items new.items) (λ own. stream-same own.items) streams

  pub all-like : (old new : Vec (Vec (FeedReader F) Global) Global) → new ≡ old → AllKeepFaults feed_told old.items new.items
  all-like old new same = subst (λ (v : Vec (Vec (FeedReader F) Global) Global). AllKeepFaults feed_told old.items v.items) (sym same) (all-same old.items)

  pub all-further : (a b c : List (Vec (FeedReader F) Global)) → AllKeepFaults feed_told a b → AllKeepFaults feed_told b c → AllKeepFaults feed_told a c
  all-further a b c h k = zip_further (λ (old new : Vec (FeedReader F) Global). StreamKeepsFaults feed_told old.items new.items) (λ x y z. stream-further x.items y.items z.items) a b c h k

  -- the feeds of one more stream were called
  pub all-one : (olds now : List (Vec (FeedReader F) Global)) (i : ℕ) (d moved : Vec (FeedReader F) Global) → AllKeepFaults feed_told olds now → StreamKeepsFaults feed_told (get_or now i d).items moved.items → AllKeepFaults feed_told olds (set now i moved)
  all-one olds now i d moved h k =
      all-further olds now (set now i moved) h (zip_set (λ (old new : Vec (FeedReader F) Global). StreamKeepsFaults feed_told old.items new.items) (λ own. stream-same own.items) now i d moved k)

  -- the readers of a stream whose feeds have ended have the numbers of their faults
  stream_numbers : (feeds : List F) (readers : List (FeedReader F)) → StreamKeepsFaults feed_told (map new_reader feeds) readers → HaveEnded readers → AreFaultNumbers (map feed_told feeds) (map fault_number readers)
  stream_numbers [] [] h ended = tt
  stream_numbers [] (reader ∷ readers) h ended = absurd h
  stream_numbers (feed ∷ feeds) [] h ended = absurd h
  stream_numbers (feed ∷ feeds) (reader ∷ readers) h ended = (
    counts-ended (feed_told feed) reader.state (feed_told reader.feed) (ended 0 reader refl) (h.0 (feed_told feed) (counts-none (feed_told feed))),
    stream_numbers feeds readers h.1 (λ path other at. ended (suc path) other at),
  )

  -- and so have the readers of all streams, if there was one feed for each path
  pub all-numbers : (streams : List Stream) (feeds : List F) (begun readers : List (Vec (FeedReader F) Global)) → HaveBegun streams feeds begun → AllKeepFaults feed_told begun readers → AllEnded readers → length feeds ≡ path_total streams
      → AreFaultNumbers (map feed_told feeds) (fault_numbers readers)
  all-numbers [] [] [] [] is h ended fits = tt
  all-numbers [] (feed ∷ feeds) begun readers is h ended fits = absurd (omega (arith, fits))
  all-numbers [] [] (own ∷ begun) readers is h ended fits = absurd (cc)
  all-numbers [] [] [] (now ∷ readers) is h ended fits = absurd h
  all-numbers (stream ∷ streams) feeds [] readers is h ended fits = absurd (cc)
  all-numbers (stream ∷ streams) feeds (own ∷ begun) [] is h ended fits = absurd h
  all-numbers (stream ∷ streams) feeds (own ∷ begun) (now ∷ readers) is h ended fits =
      let some = take stream.paths feeds in
      let rest = drop stream.paths feeds in
      let first : own.items ≡ map new_reader some = ap (λ l. get_or l 0 []) is ∙ take-map new_reader stream.paths feeds in
      let others : map (λ (v : Vec (FeedReader F) Global). v.items) begun ≡ grouped streams (map new_reader rest) = ap (drop 1) is ∙ ap (grouped streams) (drop-map new_reader stream.paths feeds) in
      let dropped = length-drop stream.paths feeds in
      let split : path_total (stream ∷ streams) ≡ path_total (stream ∷ []) + path_total streams = sum_by-append (λ (s : Stream). s.paths) (stream ∷ []) streams in
      let first_paths : path_total (stream ∷ []) ≡ stream.paths = omega arith in
      let fewer : length rest ≡ path_total streams = omega (arith, fits, dropped, split, first_paths) in
      subst (λ l. AreFaultNumbers l (fault_numbers (now ∷ readers))) (sym (map-append feed_told some rest) ∙ ap (map feed_told) (take-append-drop stream.paths feeds))
      (zip_append IsFaultNumber (map feed_told some) (map feed_told rest) (map fault_number now.items) (fault_numbers readers)
      (stream_numbers some now.items (subst (λ l. StreamKeepsFaults feed_told l now.items) first h.0) (ended 0 now refl))
      (all-numbers streams rest begun readers others h.1 (λ place other at. ended (suc place) other at) fewer))
