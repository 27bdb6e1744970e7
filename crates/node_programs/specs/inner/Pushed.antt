-- The operations of a send, as they are pushed.
use Rattle.std.specs.Prelude.{ℕ}
use Rattle.schedule.specs.declared.hop.Hop.{Hop}
use Rattle.bag_runs.specs.Stores.{mode_at}
use Rattle.node_programs.specs.declared.op.Op.{Op, TheVariants.{Send, Take}}

-- that of its sender
abbrev pub send_of : Hop → Op
send_of h = Send h.chunk h.to h.step

-- that of its receiver
abbrev pub take_of : ℕ → Hop → Op
take_of adding h = Take h.chunk h.from h.step (mode_at adding h.step)
