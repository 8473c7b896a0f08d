-- The states of sockets that were filled into the streams of a snapshot.
use Rattle.std.proofs.Common.{◌≡◌, ℕ, List, get_or, slice_get, Some, arith}
use Rattle.std.proofs.lemmas.Option.{slice_get-get_or, slice_get_within}
use Rattle.status_page.specs.declared.snapshot.PathState.{PathState}
use Rattle.status_page.specs.declared.snapshot.StreamState.{StreamState}
use Rattle.live_status.specs.Each.{AreEach}
use Rattle.live_status.specs.Health.{FillsSockets, OfSocket, Said}

-- each path of each stream that was filled in has what the source says of it
pub sockets-said : (Says : Said → Type 0) (olds news : List StreamState) → AreEach (FillsSockets Says) olds news
    → (number place : ℕ) (stream : StreamState) (path : PathState) → slice_get news number ≡ Some stream → slice_get stream.paths.items place ≡ Some path → Says (OfSocket number place path.socket)
sockets-said Says olds news filled number place stream path at_stream at_path =
    let old_at = slice_get-get_or olds number stream (let within = slice_get_within news number stream at_stream in let same = filled.length_is in omega (arith, within, same)) in
    let paths = (filled.each number _ stream old_at at_stream).paths_are in
    let old_path_at = slice_get-get_or (get_or olds number stream).paths.items place path (let within = slice_get_within stream.paths.items place path at_path in let same = paths.length_is in omega (arith, within, same)) in
    (paths.each place _ path old_path_at at_path).1
