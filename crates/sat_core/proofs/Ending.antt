-- Where a search has learned as many lines as may be, they are a spent log; where it closes, there is one line more at most.
use Rattle.std.proofs.{Common.{◌≡◌, ℕ, ◌+◌, ◌≤◌, List, [], ◌∷◌, ◌++◌, length, refl, sym, ap, ◌∙◌, ⊎_elim, arith, ◌↔◌, ◌<◌, IsTrue, Bool, true, false, not}, lemmas.{Bool.{cases_lt, false≢true}, List.length-append}}
use Rattle.cnf_formula.specs.{Formulas.FormulaValue, Lines.ProofLineValue, Literals.LitValue}
use Rattle.proof_rules.{specs.{Held.{CheckerValue, start_of, has_none}, Refuting.{is_fresh, with_line, SpentLog}, Learning.AllFresh}, proofs.InTurn.are_learned_by}
use Rattle.ledger_rules.specs.Logs.{learned}
use Rattle.sat_core.specs.Ready.{AreWritten, IsOver}

-- each fresh line was learned
pub all_learned : (lines : List ProofLineValue) (c : CheckerValue) → AllFresh c lines → learned lines ≡ lines
all_learned [] c f = refl
all_learned (line ∷ lines) c f = rw (some line.lits f.0) (ap (λ ls. line ∷ ls) (all_learned lines (with_line c line) f.1))
  where
    some : (clause : List LitValue) → is_fresh c clause ≡ true → not (has_none clause) ≡ true
    some [] h = absurd (false≢true h)
    some (l ∷ clause) h = refl

pub log_by : (base formula : FormulaValue) (lines : List ProofLineValue) (spent limit : ℕ) → base ≡ formula → AreWritten base lines → IsOver base lines → spent ≡ length (learned lines) → spent ≡ limit → SpentLog lines formula limit
log_by base formula lines spent limit e w o charged full = grind (arith, all_learned, are_learned_by)

-- of the lines, all but one that closes were learned
pub closed_few : (base : FormulaValue) (lines now : List ProofLineValue) (line : ProofLineValue) (spent limit : ℕ) → AllFresh (start_of base) lines → spent ≡ length (learned lines) → spent ≤ limit → now ≡ lines ++ line ∷ [] → length now ≤ limit + 1
closed_few base lines now line spent limit fresh charged within added = grind (arith, all_learned, length-append)

-- where there is no room, what may be spent is spent
pub no_room : {spent limit : ℕ} {room : Bool} → room ≡ false → IsTrue room ↔ (spent < limit) → spent ≤ limit → spent ≡ limit
no_room {spent} {limit} none says within = ⊎_elim (λ lt. absurd (false≢true (sym none ∙ says.1 lt))) (λ ge. omega (arith, ge, within)) (cases_lt spent limit)
