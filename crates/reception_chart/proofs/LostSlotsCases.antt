-- Worked cases of lost slots on an axis, computed.
use Rattle.std.proofs.Common.{◌≡◌, pos, negsuc, refl, arith}
use Rattle.reception_chart.specs.declared.reception.axis.Axis.{Axis}
use Rattle.reception_chart.specs.Bins.{count_before, count_in, lost_events}

-- three bins of two packets: 0 to 11, 12 to 23, and all from 24 on
abbrev axis : Axis
axis = record { first = pos 0; span = 12; bins = 3; long = omega arith; some = omega arith; few = omega arith }

-- seven slots, at 6, 12, 18, 24, 30, 36 and 42
one_in_the_first : count_in axis (lost_events (pos 6) 6 7) 0 6 ≡ 1
one_in_the_first = refl

two_in_the_second : count_in axis (lost_events (pos 6) 6 7) 1 6 ≡ 2
two_in_the_second = refl

-- the last bin also has what begins after its end
four_in_the_last : count_in axis (lost_events (pos 6) 6 7) 2 6 ≡ 4
four_in_the_last = refl

three_before_the_last : count_before axis (lost_events (pos 6) 6 7) 2 ≡ 3
three_before_the_last = refl

-- three slots, at -6, 0 and 6: the first bin also has what begins before it
three_in_the_first : count_in axis (lost_events (negsuc 5) 6 3) 0 6 ≡ 3
three_in_the_first = refl

none_in_another_row : count_in axis (lost_events (pos 6) 6 7) 1 5 ≡ 0
none_in_another_row = refl
