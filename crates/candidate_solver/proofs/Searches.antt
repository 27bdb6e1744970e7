-- What a ledger says of its files, and what the fault of a search says.
use Rattle.std.proofs.{Common.{arith, ◌≡◌, refl, ℕ, List, Result, Ok, Err}, lemmas.Bool.Decides.nat_tests}
use Rattle.cnf_formula.specs.{Formulas.FormulaValue, Lines.ProofLineValue}
use Rattle.outer_ports.specs.{declared.proof_name.ProofName.ProofName, Port.HasCause}
use Rattle.conflict_ledger.specs.Shelved.{LedgerState, ShelfAgrees, ShelfMoves}
use Rattle.engine_rules.specs.declared.fault.EngineFault.{EngineFault, TheVariants.ShelfFailed}
use Rattle.sat_core.specs.declared.fault.SolveFault.{SolveFault}
use Rattle.sat_core.specs.declared.fault.SolveFault.TheVariants as solving
use Rattle.candidate_solver.specs.inner.Faults.{of_solving}

-- what agrees with its files does so under an equal formula, equal names and equal lines
pub same_files : (now : LedgerState) (base : FormulaValue) (lrat partial : ProofName) (lines others : List ProofLineValue) → now.base ≡ base → now.lrat ≡ lrat → now.partial ≡ partial → lines ≡ others → ShelfAgrees now others
    → ShelfAgrees (record { base = base; lrat = lrat; partial = partial; told = now.told; files = now.files }) lines
same_files now base lrat partial lines others over first second are agrees = grind (arith, nat_tests)

-- the fault of a search has its cause as that of an engine too
pub fault_cause : {A T : Type 0} (fault : SolveFault) (one : Result A SolveFault) (last : Result T EngineFault) (before now : ℕ) → one ≡ Err fault → last ≡ Err (of_solving fault) → HasCause solving.LedgerFailed before now one → HasCause ShelfFailed before now last
fault_cause solving.LedgerFailed one last before now is ended cause = record { later = cause.later; rose = λ _. cause.rose is; stays = λ other. absurd (other ended) }
fault_cause solving.OutOfMemory one last before now is ended cause = record { later = cause.later; rose = λ e. absurd (cc); stays = λ _. cause.stays (λ e. absurd (cc)) }

-- where a search has an answer it has no fault, and its engine has none by it
pub answer_cause : {A T : Type 0} (answer : A) (found : T) (one : Result A SolveFault) (last : Result T EngineFault) (before now : ℕ) → one ≡ Ok answer → last ≡ Ok found → HasCause solving.LedgerFailed before now one → HasCause ShelfFailed before now last
answer_cause answer found one last before now is ended cause = record { later = cause.later; rose = λ e. absurd (cc); stays = λ _. cause.stays (λ e. absurd (cc)) }

-- moves from one ledger to another are moves to the first one with what the other told and wrote
pub moves_as_was : {a b : LedgerState} → ShelfMoves a b → ShelfMoves a (record a { told = b.told; files = b.files })
moves_as_was m = record { same_base = refl; same_lrat = refl; same_partial = refl; tells = m.tells; others = m.others; whole_log = m.whole_log; learned_log = m.learned_log }
