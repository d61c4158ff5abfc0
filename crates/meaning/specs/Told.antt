-- How the answer of an operation in the library is told to its caller: contracts inside the library, which no demand rests on.
use Rattle.std.specs.Prelude.{Result, Ok, Err, ℕ}
use Rattle.stream.specs.declared.Fault.{Fault}
use Rattle.stream.specs.Faults.{number}
use Rattle.meaning.specs.Answers.{as_number}
use Rattle.meaning.specs.declared.Written.{Written}
use Rattle.meaning.specs.declared.Admitted.{Admitted}
use Rattle.meaning.specs.declared.Fed.{Fed}
use Rattle.meaning.specs.declared.Taken.{Taken}
use Rattle.meaning.specs.declared.Delivered.{Delivered}

-- Check, Left, Join and Longest: how many bytes were written, or why none were.
abbrev pub told : Result ℕ Fault → Written
told (Ok n) = record { number = 0; written = n }
told (Err e) = record { number = number e; written = 0 }

abbrev pub told_taken : Result Taken Fault → Admitted
told_taken (Ok t) = record { number = 0; complete = as_number t.complete; arrived = t.arrived }
told_taken (Err e) = record { number = number e; complete = 0; arrived = 0 }

abbrev pub told_delivered : Result Delivered Fault → Fed
told_delivered (Ok d) = record { number = 0; output = d.output; patch = d.patch; arrived = d.arrived; sent = d.sent }
told_delivered (Err e) = record { number = number e; output = 0; patch = 0; arrived = 0; sent = 0 }
