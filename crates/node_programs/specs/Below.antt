-- Programs whose chunks and nodes are in range (this project's own).
use Rattle.std.specs.{Prelude.{ℕ, ◌<◌, List}, List.AllByRecursion}
use Rattle.node_programs.specs.declared.op.Op.{Op, TheVariants.{Send, Take}}

-- the chunk and the other node of an operation
abbrev pub IsOpBelow : ℕ → ℕ → Op → Type 0
IsOpBelow chunks nodes (Send chunk to step) = (chunk < chunks) × (to < nodes)
IsOpBelow chunks nodes (Take chunk from step how) = (chunk < chunks) × (from < nodes)

-- those of each operation of each program
abbrev pub AreBelow : ℕ → ℕ → List (List Op) → Type 0
AreBelow chunks nodes programs = AllByRecursion (AllByRecursion (IsOpBelow chunks nodes)) programs
