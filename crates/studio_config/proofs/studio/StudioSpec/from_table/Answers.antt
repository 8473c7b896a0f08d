use Rattle.std.proofs.lemmas.Grind.{elements}
use Rattle.std.proofs.Common.{◌≡◌, ◌⊎◌, List, length, Err, None, OnOk, IfOk, pos, map, ap, sym, subst, ◌∙◌, inl, inr, ⊎_elim, rules, arith, to_z, w64}
use Rattle.std.proofs.lemmas.Result.{IfErr-weaker}
use Rattle.std.proofs.Math.Facts.{to_z_pos}
use Rattle.std.proofs.lemmas.List.{length-map}
use Rattle.toml.specs.View.{view, table_view}
use Rattle.toml.specs.declared.value.Value.{Value}
use Rattle.rtp_stream.specs.declared.stream_spec.Stream.{Stream}
use Rattle.studio_config.specs.Studio.{Studio, channel_total}
use Rattle.studio_config.specs.OutputClock.{by_clock, clock_fault_of}
use Rattle.studio_config.specs.Values.{members_in, number_at, number_or, output_clock_at, tables_at, table_at}
use Rattle.studio_config.specs.NetworkTable.{senders_of}
use Rattle.studio_config.specs.StreamTable.{stream_of, stream_fault}
use Rattle.studio_config.specs.OutputTable.{output_of, schedule_of, each_fault, output_fault}
use Rattle.studio_config.specs.Config.{streams_of, port_table, bind_table, sender_table, output_clock_of, run_studio_of, studio_of, config_fault_of}
use Rattle.toml.specs.Data.{Members}
use Rattle.studio_config.specs.declared.config.fault.ConfigTable.TheVariants as at
use Rattle.studio_config.specs.declared.config.keys.Key.TheVariants as key
use Rattle.studio_config.proofs.FaultLemmas.{top_fault-none, config_fault-output, config_fault-clock, config_fault-open_at, config_fault-tables, config_fault-output_table, config_fault-unknown}
use Rattle.studio_config.proofs.studio.StudioSpec.from_table.Goals as goal

pub returns-in_err-open_at-clause-fault : goal.returns-in_err-open_at-clause-fault
returns-in_err-open_at-clause-fault c =
    let is : c.from_residual.result ≡ Err c.in_err-open_at.field-0.0 = search rules in
    rw is (inr (config_fault-open_at (table_view c.args.table.now) c.in_err-open_at.field-0.0 c.in_err-open_at.ensures.fault))

pub returns-in_err-tables-clause-fault : goal.returns-in_err-tables-clause-fault
returns-in_err-tables-clause-fault c =
    let is : c.from_residual-in_err-tables.result ≡ Err c.in_err-tables.field-0.0 = search rules in
    rw is (inr (config_fault-tables (table_view c.args.table.now) c.in_err-tables.field-0.0 c.in_ok-open_at.ensures.ok c.in_err-tables.ensures.fault))

pub returns-in_err-output_table-clause-fault : goal.returns-in_err-output_table-clause-fault
returns-in_err-output_table-clause-fault c =
    let is : c.from_residual-in_err-output_table.result ≡ Err c.in_err-output_table.field-0.0 = search rules in
    rw is (inr (config_fault-output_table (table_view c.args.table.now) c.in_err-output_table.field-0.0 c.in_ok-open_at.ensures.ok c.in_ok-tables.ensures.ok c.in_err-output_table.ensures.fault))

pub returns-in_err-check_known-clause-fault : goal.returns-in_err-check_known-clause-fault
returns-in_err-check_known-clause-fault c =
    let is : c.from_residual-in_err-check_known.result ≡ Err c.in_err-check_known.field-0.0 = search rules in
    rw is (inr (config_fault-unknown (table_view c.args.table.now) c.in_err-check_known.field-0.0 c.in_ok-open_at.ensures.ok c.in_ok-tables.ensures.ok c.in_ok-output_table.ensures.ok c.in_err-check_known.ensures.fault))

pub returns-in_err-output-clause-fault : goal.returns-in_err-output-clause-fault
returns-in_err-output-clause-fault c =
    let m = table_view c.args.table.now in
    let is : c.from_residual-in_err-output.result ≡ Err c.in_err-output.field-0.0 = search rules in
    let top = top_fault-none m c.in_ok-open_at.ensures.ok c.in_ok-tables.ensures.ok c.in_ok-output_table.ensures.ok c.in_ok-check_known.ensures.ok in
    let streams : each_fault (λ n. stream_fault (at.Stream n)) 0 (tables_at m key.Stream) ≡ None = ap (each_fault (λ n. stream_fault (at.Stream n)) 0) (sym c.in_ok-tables.ensures.tables) ∙ c.in_ok-streams.ensures.ok in
    let ins : c.channel_total-ins.result ≡ channel_total (streams_of m) = c.channel_total-ins.ensures.total ∙ ap channel_total (c.deref.ensures.value ∙ c.in_ok-streams.ensures.streams ∙ ap (map stream_of) c.in_ok-tables.ensures.tables) in
    rw is (⊎_elim
    (λ memory. inl memory)
    (λ fault. inr (config_fault-output m top streams c.in_err-output.field-0.0
    (ap (λ n. output_fault n (table_at m key.Output)) (sym ins) ∙ ap (output_fault c.channel_total-ins.result) c.in_ok-output_table.ensures.table ∙ fault)))
    c.in_err-output.ensures.fault)

pub new-studio-requires-clause-not_low : goal.new-studio-requires-clause-not_low
new-studio-requires-clause-not_low c =
    let number : to_z w64 c.in_ok-open_at.field-0 ≡ pos c.in_ok-open_at.field-0 = to_z_pos w64 (omega (arith, c.in_ok-open_at.ensures.high)) in
    rw number search rules

-- as many streams were read as there are tables
count : (streams : List Stream) (tables : List Value) → streams ≡ map stream_of (map (λ t. members_in (view t)) tables) → length streams ≡ length tables
count streams tables read = ap length read ∙ length-map (map (λ t. members_in (view t)) tables) stream_of ∙ length-map tables (λ t. members_in (view t))

pub channel_total-ins-requires : goal.channel_total-ins-requires
channel_total-ins-requires c =
    let many = count _ _ c.in_ok-streams.ensures.streams in
    record { few = omega (arith, ap length c.deref.ensures.value, many, c.in_ok-tables.ensures.high) }

pub read_output-requires-clause-some_ins : goal.read_output-requires-clause-some_ins
read_output-requires-clause-some_ins c =
    let many = count _ _ c.in_ok-streams.ensures.streams in
    omega (arith, c.channel_total-ins.ensures.some, ap length c.deref.ensures.value, many, c.in_ok-tables.ensures.low)

pub read_output-requires-clause-few_ins : goal.read_output-requires-clause-few_ins
read_output-requires-clause-few_ins c =
    let many = count _ _ c.in_ok-streams.ensures.streams in
    omega (arith, c.channel_total-ins.ensures.few, ap length c.deref.ensures.value, many, c.in_ok-tables.ensures.high)

pub new-studio-requires-clause-some : goal.new-studio-requires-clause-some
new-studio-requires-clause-some c =
    let many = count _ _ c.in_ok-streams.ensures.streams in
    omega (arith, many, c.in_ok-tables.ensures.low)

pub new-studio-requires-clause-few : goal.new-studio-requires-clause-few
new-studio-requires-clause-few c =
    let many = count _ _ c.in_ok-streams.ensures.streams in
    omega (arith, many, c.in_ok-tables.ensures.high)

module _ (c : goal.After-by_clock) where
  abbrev members : Members
  members = table_view c.args.table.now

  -- the studio by the clock of the run
  run_studio : c.with_late.result ≡ run_studio_of members
  run_studio =
      let open_at : to_z w64 c.in_ok-open_at.field-0 ≡ pos (number_or members key.OpenAt 0) = to_z_pos w64 (omega (arith, c.in_ok-open_at.ensures.high)) ∙ ap pos (sym c.in_ok-open_at.ensures.number) in
      let streams : c.in_ok-streams.streams.items ≡ streams_of members = c.in_ok-streams.ensures.streams ∙ ap (map stream_of) c.in_ok-tables.ensures.tables in
      let paths : c.read_streams.new.ports.paths ≡ port_table (tables_at members key.Stream) = c.in_ok-streams.ensures.ports ∙ ap port_table c.in_ok-tables.ensures.tables in
      let receive_at : c.read_streams.new.networks.paths ≡ bind_table (tables_at members key.Stream) = c.in_ok-streams.ensures.receive_at ∙ ap bind_table c.in_ok-tables.ensures.tables in
      let sources : c.read_streams.new.networks.sources ≡ sender_table (tables_at members key.Stream) = c.in_ok-streams.ensures.sources ∙ ap sender_table c.in_ok-tables.ensures.tables in
      let table = sym c.in_ok-output_table.ensures.table in
      let output : c.in_ok-output.output.spec ≡ output_of (table_at members key.Output) = c.in_ok-output.ensures.output ∙ ap output_of table in
      let schedule : c.in_ok-output.output.schedule ≡ schedule_of (table_at members key.Output) = c.in_ok-output.ensures.schedule ∙ ap schedule_of table in
      let to_a : c.in_ok-output.output.addresses.to_a ≡ number_at (table_at members key.Output) key.ToA = sym c.in_ok-output.ensures.to_a ∙ ap (λ t. number_at t key.ToA) table in
      let to_b : c.in_ok-output.output.addresses.to_b ≡ number_at (table_at members key.Output) key.ToB = sym c.in_ok-output.ensures.to_b ∙ ap (λ t. number_at t key.ToB) table in
      let senders : c.in_ok-output.output.senders ≡ senders_of (table_at members key.Output) = c.in_ok-output.ensures.senders ∙ ap senders_of table in
      let late : c.in_ok-output.output.timing.late ≡ number_or (table_at members key.Output) key.Late 0 = sym c.in_ok-output.ensures.late ∙ ap (λ t. number_or t key.Late 0) table in
      rw (c.with_late.ensures, c.with_networks.ensures, c.with_ports.ensures, c.new-studio.ensures, open_at, streams, paths, receive_at, sources, output, schedule, to_a, to_b, senders, late)

  -- the clock of the output
  clock : c.in_ok-output.output.timing.clock ≡ output_clock_of members
  clock = sym c.in_ok-output.ensures.clock ∙ ap (λ t. output_clock_at t key.Clock) (sym c.in_ok-output_table.ensures.table)

  -- what is left is the fault of the clock
  fault : clock_fault_of c.in_ok-output.output.timing.clock c.with_late.result ≡ config_fault_of members
  fault =
      let top = top_fault-none members c.in_ok-open_at.ensures.ok c.in_ok-tables.ensures.ok c.in_ok-output_table.ensures.ok c.in_ok-check_known.ensures.ok in
      let streams : each_fault (λ n. stream_fault (at.Stream n)) 0 (tables_at members key.Stream) ≡ None = ap (each_fault (λ n. stream_fault (at.Stream n)) 0) (sym c.in_ok-tables.ensures.tables) ∙ c.in_ok-streams.ensures.ok in
      let ins : c.channel_total-ins.result ≡ channel_total (streams_of members) = c.channel_total-ins.ensures.total ∙ ap channel_total (c.deref.ensures.value ∙ c.in_ok-streams.ensures.streams ∙ ap (map stream_of) c.in_ok-tables.ensures.tables) in
      let output : output_fault (channel_total (streams_of members)) (table_at members key.Output) ≡ None = ap (λ n. output_fault n (table_at members key.Output)) (sym ins) ∙ ap (output_fault c.channel_total-ins.result) c.in_ok-output_table.ensures.table ∙ c.in_ok-output.ensures.ok in
      ap (λ clock. clock_fault_of clock c.with_late.result) clock ∙ ap (clock_fault_of (output_clock_of members)) run_studio ∙ sym (config_fault-clock members top streams output)

pub returns-clause-ok : goal.returns-clause-ok
returns-clause-ok c = subst (λ fault. OnOk c.by_clock.result (fault ≡ None)) (fault c) c.by_clock.ensures.fine

pub returns-clause-studio : goal.returns-clause-studio
returns-clause-studio c =
    let same : by_clock c.in_ok-output.output.timing.clock c.with_late.result ≡ studio_of (table_view c.args.table.now) = ap (λ clock. by_clock clock c.with_late.result) (clock c) ∙ ap (by_clock (output_clock_of (table_view c.args.table.now))) (run_studio c) in
    subst (λ (studio : Studio). IfOk c.by_clock.result (λ s. s ≡ studio)) same c.by_clock.ensures.ok

pub returns-clause-fault : goal.returns-clause-fault
returns-clause-fault c = IfErr-weaker c.by_clock.result _ _ (λ e given. inr (sym (fault c) ∙ given)) c.by_clock.ensures.fault

pub read_streams-requires-clause-few : goal.read_streams-requires-clause-few
read_streams-requires-clause-few c = grind (arith, elements)

pub new-studio-requires-clause-ins : goal.new-studio-requires-clause-ins
new-studio-requires-clause-ins c = grind (arith, elements)
