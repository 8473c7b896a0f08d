use Rattle.std.proofs.Common.{◌≡◌, ◌+◌, ◌++◌, ◌<◌}
use Rattle.pcap_file.specs.Capture.{packets_left}
use Rattle.pcap_flows.specs.Trace.{events_from, text_from}
use Rattle.pcap_flows.proofs.import.Trace.read.Given as goal

abbrev pub invariant-loop-item : goal.invariant-loop-item
invariant-loop-item l = record {
  text : l.self.text.items ++ text_from l.routes l.self.clock (packets_left l.capture)
      ≡ l.fn.self.text.items ++ text_from l.routes l.fn.self.clock (packets_left l.fn.capture);
  events : l.self.events + events_from l.routes l.self.clock (packets_left l.capture)
      ≡ l.fn.self.events + events_from l.routes l.fn.self.clock (packets_left l.fn.capture);
  few : l.self.events < 1000000;
}
