use Rattle.std.proofs.Common.{ap}
use Rattle.outer_ports.proofs.Faults.{made_own, made_spares, spares_all}
use Rattle.outer_ports.proofs.beginning.make_fresh.Goals as goal

pub returns-in-Ok : goal.returns-in-Ok
returns-in-Ok g c = let made = c.in-Ok.ensures.made in record {
  told = c.make_file.ensures.told;
  own = λ t. made_own _ _ _ _ (made t);
  empty = λ t. (made t).empty;
  others = λ t. made_spares _ _ _ _ (made t);
  odd = λ t other _. ap (λ odd. odd other) (made t).odd;
  counted = λ t. (c.in-Ok.ensures.counted t).stays;
}

pub returns-in-Err-2 : goal.returns-in-Err-2
returns-in-Err-2 g c = let same = c.in-Err-2.ensures.fault in record { told = c.make_file.ensures.told; own = λ _. tt; empty = λ _. tt; others = λ t. spares_all _ _ _ (same t); odd = λ t other _. ap (λ d. d.odd other) (same t); counted = λ _. tt }
