-- A send so many steps later.
use Rattle.std.proofs.Common.{ℕ, ◌+◌}
use Rattle.schedule.specs.declared.hop.Hop.{Hop}

abbrev pub later : ℕ → Hop → Hop
later steps h = record h { step = h.step + steps }
