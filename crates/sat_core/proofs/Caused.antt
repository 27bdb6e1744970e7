-- The cause of a fault, from call to call, and what a fault that is handed on leaves open.
use Rattle.std.{proofs.{Common.{◌≡◌, ℕ, Result, Ok, Err, refl, sym, ap, ◌∙◌, subst, arith, ◌≢◌, IsErrAnd, OnOk}, lemmas.Bool.false≢true}, specs.Result.{IsErr, is_err}}
use Rattle.outer_ports.specs.Port.{HasCause}
use Rattle.ledger_rules.specs.declared.fault.LedgerFault.{LedgerFault}
use Rattle.ledger_rules.specs.declared.fault.LedgerFault.TheVariants as ledger
use Rattle.sat_core.specs.{Faults.fault_of, declared.fault.SolveFault.{SolveFault, TheVariants.{LedgerFailed, OutOfMemory}}}

-- what is handed on is a fault
fault_is : {T E : Type 0} (last : Result T E) (told : E) → IsErrAnd last (λ e. e ≡ told) → last ≡ Err told
fault_is (Ok x) told h = absurd h
fault_is (Err e) told h = ap Err h

-- what is said of a success is said of no fault
pub on_fault : {T E : Type 0} (P : Type 0) (last : Result T E) → IsErr last → OnOk last P
on_fault P (Ok x) h = absurd (false≢true h)
on_fault P (Err e) h = tt

-- a fault is no answer
pub no_answer : {T E : Type 0} {answer : T} {last : Result T E} → IsErr last → last ≡ Ok answer → ⊥
no_answer h is = false≢true (sym (ap is_err is) ∙ h)

-- where this fault is not answered, the count stands still
pub still : {T E : Type 0} {fault : E} {count : ℕ} {last : Result T E} → last ≢ Err fault → HasCause fault count count last
still other = record { later = omega arith; rose = λ e. absurd (other e); stays = λ _. refl }

-- an answer is no fault
pub answered : {T E : Type 0} {fault : E} {count : ℕ} {answer : T} → HasCause fault count count (Ok answer)
answered = still (λ is. cc)

-- memory ran out
pub no_memory : {T : Type 0} {count : ℕ} (last : Result T SolveFault) → IsErrAnd last (λ e. e ≡ OutOfMemory) → HasCause LedgerFailed count count last
no_memory last h = still (λ is. let clash : Err OutOfMemory ≡ Err LedgerFailed = sym (fault_is last OutOfMemory h) ∙ is in cc)

-- a fault that is handed on has the cause that it had
pub handed_on : {A T E : Type 0} {fault told : E} {before now : ℕ} {one : Result A E} (last : Result T E) → one ≡ Err told → IsErrAnd last (λ e. e ≡ told) → HasCause fault before now one → HasCause fault before now last
handed_on last is h cause =
    let ended = fault_is last _ h in
    record { later = cause.later; rose = λ e. cause.rose (cc); stays = λ other. cause.stays (λ e. other (cc)) }

-- and is another than this if that was
pub handed_other : {A T E : Type 0} {fault told : E} {one : Result A E} (last : Result T E) → one ≡ Err told → IsErrAnd last (λ e. e ≡ told) → one ≢ Err fault → last ≢ Err fault
handed_other last is h other = let ended = fault_is last _ h in λ e. other (cc)

-- a ledger's fault has the cause that it had there
pub of_ledger : {A T : Type 0} {before now : ℕ} {told : LedgerFault} {one : Result A LedgerFault} (last : Result T SolveFault) → one ≡ Err told → IsErrAnd last (λ e. e ≡ fault_of told) → HasCause ledger.Failed before now one → HasCause LedgerFailed before now last
of_ledger {told = ledger.Failed} last is h cause = let ended = fault_is last _ h in record { later = cause.later; rose = λ _. cause.rose is; stays = λ other. absurd (other ended) }
of_ledger {told = ledger.OutOfMemory} last is h cause = let ended = fault_is last _ h in record { later = cause.later; rose = λ e. absurd (cc); stays = λ _. cause.stays (λ e. cc) }

-- a call that gave an answer left the count as it was
pub unmoved : {T E : Type 0} {fault : E} {before now : ℕ} {answer : T} {one : Result T E} → one ≡ Ok answer → HasCause fault before now one → now ≡ before
unmoved is cause = cause.stays (λ e. cc)

-- what comes after calls that left the count as it was
pub after : {T E : Type 0} {fault : E} {before mid now : ℕ} {last : Result T E} → mid ≡ before → HasCause fault mid now last → HasCause fault before now last
after {T} {E} {fault} {before} {mid} {now} {last} same cause = subst (λ n. HasCause fault n now last) same cause

-- an answer after a call that gave one
pub answered_after : {A T E D : Type 0} {fault : E} {other : D} {before now : ℕ} {one : Result A E} {is : A} {answer : T} → one ≡ Ok is → HasCause fault before now one → HasCause other before now (Ok answer)
answered_after is cause = after (unmoved is cause) answered

-- memory ran out after a call that gave an answer
pub no_memory_after : {A T E : Type 0} {fault : E} {before now : ℕ} {one : Result A E} {is : A} (last : Result T SolveFault) → one ≡ Ok is → IsErrAnd last (λ e. e ≡ OutOfMemory) → HasCause fault before now one → HasCause LedgerFailed before now last
no_memory_after last is h cause = after (unmoved is cause) (no_memory last h)
