-- The responses to requests about the gains.
use Rattle.std.specs.Prelude.{ℕ, List, [], ◌∷◌, ◌++◌, codes, ℤ, Result, Ok, Err}
use Rattle.std.specs.Fmt.{signed_decimal}
use Rattle.json.specs.Print.{print}
use Rattle.json.specs.Token.{Token, begin_object, end_object, begin_array, end_array, key, number}
use Rattle.http_server.specs.declared.response.Response.{Response}
use Rattle.http_server.specs.Response.{IsResponse}
use Rattle.gain_mix.specs.Gain.{rows_of}
use Rattle.studio_io.specs.declared.gain_source.GainAnswer.{GainAnswer}
use Rattle.studio_io.specs.declared.gain_source.GainAnswer.TheVariants.{Taken, Refused, Shown}
use Rattle.status_page.specs.declared.control.RequestOutcome.{RequestOutcome}
use Rattle.status_page.specs.declared.control.RequestOutcome.TheVariants as Desk
use Rattle.status_page.specs.declared.control.fault.ControlFault.{ControlFault}
use Rattle.status_page.specs.declared.control.fault.ControlFault.TheVariants.{NoAnswer}
use Rattle.status_page.specs.declared.control.reply.ShownTimes.{ShownTimes}
use Rattle.status_page.specs.ControlFaults.{IsFault, fault_of, json_fields}
use Rattle.status_page.specs.State.{array_tokens}

-- the result of a change: it was taken or refused; an answer that only shows gains is not one of a change
abbrev pub taken_of : GainAnswer → Result ℤ ControlFault
taken_of (Taken at) = Ok at
taken_of (Refused fault) = Err (fault_of fault)
taken_of (Shown at) = Err NoAnswer

abbrev pub taken_in : RequestOutcome → Result ℤ ControlFault
taken_in (Desk.Answered answer next) = taken_of answer
taken_in Desk.NoAnswer = Err NoAnswer

-- the times of gains that were shown; an answer that takes a change is not one of a request that only shows gains
abbrev pub shown_of : GainAnswer → ℤ → Result ShownTimes ControlFault
shown_of (Shown at) next = Ok (record { at = at; next_block_start = next })
shown_of (Refused fault) next = Err (fault_of fault)
shown_of (Taken at) next = Err NoAnswer

abbrev pub shown_in : RequestOutcome → Result ShownTimes ControlFault
shown_in (Desk.Answered answer next) = shown_of answer next
shown_in Desk.NoAnswer = Err NoAnswer

-- a time with its key
abbrev pub time_member : List ℕ → ℤ → List Token
time_member name time = key name ∷ number (signed_decimal time) ∷ []

-- a change that was taken
abbrev pub taken_tokens : ℤ → List Token
taken_tokens at = begin_object ∷ (time_member (codes "at") at ++ end_object ∷ [])

-- numbers
unfoldable pub number_tokens : List ℤ → List Token
number_tokens [] = []
number_tokens (n ∷ ns) = number (signed_decimal n) ∷ number_tokens ns

-- the times of the changes that are still to come
abbrev pub planned_tokens : List ℤ → List Token
planned_tokens planned = array_tokens (codes "planned") (number_tokens planned)

-- a row of gains
abbrev pub row_tokens : List ℤ → List Token
row_tokens row = begin_array ∷ (number_tokens row ++ end_array ∷ [])

-- rows of gains
abbrev pub rows_tokens : List (List ℤ) → List Token
rows_tokens [] = []
rows_tokens (row ∷ rows) = row_tokens row ++ rows_tokens rows

-- the time of the gains, and the first time whose gains could still change
abbrev pub time_members : ShownTimes → List Token
time_members times = time_member (codes "at") times.at ++ time_member (codes "next_block_start") times.next_block_start

-- gains that are shown, with the times of the changes that are still to come
abbrev pub shown_tokens : ShownTimes → List ℤ → List (List ℤ) → List Token
shown_tokens times planned rows =
    begin_object ∷ (time_members times ++ planned_tokens planned ++ array_tokens (codes "gains") (rows_tokens rows) ++ end_object ∷ [])

-- the response to a request for a change
abbrev pub IsTakenReply : Result ℤ ControlFault → Response → Type 0
IsTakenReply (Ok at) response = IsResponse 200 json_fields (print (taken_tokens at)) response
IsTakenReply (Err fault) response = IsFault fault response

-- the response to a request for the gains
abbrev pub IsShownReply : ℕ → ℕ → Result ShownTimes ControlFault → List ℤ → List ℤ → Response → Type 0
IsShownReply outs ins (Ok times) planned gains response = IsResponse 200 json_fields (print (shown_tokens times planned (rows_of ins outs gains))) response
IsShownReply outs ins (Err fault) planned gains response = IsFault fault response
