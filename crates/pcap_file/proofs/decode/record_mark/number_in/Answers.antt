use Rattle.pcap_file.proofs.DecimalLemmas.{number_in-is}
use Rattle.pcap_file.proofs.decode.record_mark.number_in.Goals as goal

pub returns : goal.returns
returns c = number_in-is c.args.text.now c.decimal_number.result c.decimal_number.ensures.spelled c.decimal_number.ensures.small c.decimal_number.ensures.found
