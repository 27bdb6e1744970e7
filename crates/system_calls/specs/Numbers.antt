-- The numbers of the standard streams. This project's own.
use Rattle.std.specs.Prelude.{Bool, Option, Some, None, IsTrue, if◌then◌else◌}
use Rattle.system_calls.specs.declared.number_calls.Stream.{Stream, TheVariants.{Input, Output, Errors}}

-- the stream whose number an opening takes: the first that is free
abbrev pub first_free : (Stream → Bool) → Option Stream
first_free taken = if taken Input then (if taken Output then (if taken Errors then None else Some Errors) else Some Output) else Some Input

-- a number that was taken still is
abbrev pub StayTaken : (Stream → Bool) → (Stream → Bool) → Type 0
StayTaken before now = (stream : Stream) → IsTrue (before stream) → IsTrue (now stream)

-- the numbers before that of the stream are taken
abbrev pub AreTakenBefore : (Stream → Bool) → Stream → Type 0
AreTakenBefore taken Input = Unit {0}
AreTakenBefore taken Output = IsTrue (taken Input)
AreTakenBefore taken Errors = IsTrue (taken Input) × IsTrue (taken Output)
