use Rattle.std.proofs.Common.{refl}
use Rattle.outer_ports.specs.declared.shelf_fault.ShelfFault.TheVariants.{Failed}
use Rattle.outer_ports.proofs.Faults.{err_is, spares_all}
use Rattle.outer_ports.proofs.beginning.make_anew.Goals as goal

pub returns-in_err-path : goal.returns-in_err-path
returns-in_err-path g c = rw (err_is _ _ c.from_residual.ensures.1) (record { range = c.path_of.ensures.range; told = λ t. t; own = λ _. tt; empty = λ _. tt; others = λ _. tt; fault = λ _. spares_all _ _ _ refl; counted = λ _ _. refl })

pub returns-in_err-fresh : goal.returns-in_err-fresh
returns-in_err-fresh g c = rw (err_is _ _ c.from_residual-in_err-fresh.ensures.1) (record { range = c.path_of.ensures.range; told = λ t. t; own = λ _. tt; empty = λ _. tt; others = λ _. tt; fault = λ _. spares_all _ _ _ refl; counted = λ _ _. refl })

pub returns-in_err-find_no_odd : goal.returns-in_err-find_no_odd
returns-in_err-find_no_odd g c = rw (err_is _ Failed c.from_residual-in_err-find_no_odd.ensures.1)
    (record { range = c.path_of.ensures.range; told = c.find_no_odd.ensures.told; own = λ _. tt; empty = λ _. tt; others = λ _. tt; fault = λ t. spares_all _ _ _ (c.find_no_odd.ensures.stays t); counted = λ _ other. absurd (other refl) })
