-- Worked cases of the sums of a sink's answers, computed.
use Rattle.std.specs.Prelude.{◌≡◌, true, false, [], ◌∷◌, refl}
use Rattle.studio_io.specs.SendSums.{answer_tally}
use Rattle.studio_io.specs.declared.sink.SendAnswer.{SendAnswer}

abbrev both : SendAnswer
both = record { a = true; b = true }

abbrev only_first : SendAnswer
only_first = record { a = true; b = false }

abbrev neither : SendAnswer
neither = record { a = false; b = false }

nothing_was_sent : answer_tally [] ≡ record { blocks = 0; sent_a = 0; sent_b = 0; fault_a = 0; fault_b = 0 }
nothing_was_sent = refl

-- of four datagrams the first address took three and the second one
four_were_sent : answer_tally (both ∷ only_first ∷ neither ∷ only_first ∷ []) ≡ record { blocks = 4; sent_a = 3; sent_b = 1; fault_a = 1; fault_b = 3 }
four_were_sent = refl
