-- The statuses with which the program ends.
use Rattle.std.specs.Prelude.{ℕ}
use Rattle.run_rules.specs.declared.status.Status.{Status, TheVariants.{Done, OutOfMemory, BadWords, BadTopology, SourceFailed, SinkFailed, ShelfFailed, BadReport, Denied, TooLarge, NoCandidate, TooLong, BadJson}}

abbrev pub status_number : Status → ℕ
status_number Done = 0
status_number OutOfMemory = 1
status_number BadWords = 2
status_number BadTopology = 3
status_number SourceFailed = 4
status_number SinkFailed = 5
status_number ShelfFailed = 6
status_number BadReport = 7
status_number Denied = 8
status_number TooLarge = 9
status_number NoCandidate = 10
status_number TooLong = 11
status_number BadJson = 12
