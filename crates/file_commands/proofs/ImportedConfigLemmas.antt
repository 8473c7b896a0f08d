-- Streams with the same parts, and gains that pass on to each output its own input.
use Rattle.std.proofs.Common.{◌≡◌, ℕ, ℤ, List, [], length, ap, sym, ◌∙◌}
use Rattle.rtp_stream.specs.declared.stream_spec.Stream.{Stream}
use Rattle.gain_mix.specs.Gain.{ins_of, rows_of}
use Rattle.gain_mix.specs.Changes.{Changes}
use Rattle.file_commands.specs.ImportedConfig.{unit_gains}

-- gains that never change are those of their rows
pub unit_schedule : (s : Changes) (rows : List (List ℤ)) (gains : List ℤ) (outputs inputs : ℕ) → rows ≡ s.first → rows_of (ins_of rows) (length rows) gains ≡ rows → outputs ≡ length rows → inputs ≡ ins_of rows → gains ≡ unit_gains outputs inputs → s.later ≡ [] → s ≡ record { first = rows_of inputs outputs (unit_gains outputs inputs); later = [] }
unit_schedule s rows gains outputs inputs first by_row outs ins same later =
    let is : s.first ≡ rows_of inputs outputs (unit_gains outputs inputs) =
    sym first
    ∙ sym by_row
    ∙ ap (λ n. rows_of n (length rows) gains) (sym ins)
    ∙ ap (λ n. rows_of inputs n gains) (sym outs)
    ∙ ap (rows_of inputs outputs) same in
    ap (λ x. record s { first = x }) is ∙ ap (λ x. record { first = rows_of inputs outputs (unit_gains outputs inputs); later = x }) later

pub same_stream : (a b : Stream) → a.enc ≡ b.enc → a.channels ≡ b.channels → a.frames ≡ b.frames → a.pt ≡ b.pt → a.ssrc ≡ b.ssrc → a.clock ≡ b.clock → a.latency ≡ b.latency → a.window ≡ b.window → a.paths ≡ b.paths → a ≡ b
same_stream a b enc channels frames pt ssrc clock latency window paths =
    ap (λ x. record a { enc = x }) enc
    ∙ ap (λ x. record a { enc = b.enc; channels = x }) channels
    ∙ ap (λ x. record a { enc = b.enc; channels = b.channels; frames = x }) frames
    ∙ ap (λ x. record b { ssrc = a.ssrc; clock = a.clock; latency = a.latency; window = a.window; paths = a.paths; pt = x }) pt
    ∙ ap (λ x. record b { clock = a.clock; latency = a.latency; window = a.window; paths = a.paths; ssrc = x }) ssrc
    ∙ ap (λ x. record b { latency = a.latency; window = a.window; paths = a.paths; clock = x }) clock
    ∙ ap (λ x. record b { window = a.window; paths = a.paths; latency = x }) latency
    ∙ ap (λ x. record b { paths = a.paths; window = x }) window
    ∙ ap (λ x. record b { paths = x }) paths
