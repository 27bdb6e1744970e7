use Rattle.std.proofs.{Common.{◌-◌, length, take, subst, ⊎_elim, arith}, lemmas.Bool.cases_lt}
use Rattle.cnf_formula.specs.Literals.{negation}
use Rattle.trail_core.{specs.{Assigned.IsFalse, Trails.lits_of}, proofs.{Keeping.{in_front, lits_length}, Added.{IsOnce, recent_not_below}}}
use Rattle.trail_core.proofs.adding.resumed.Goals as goal

pub returns-then-is_false-2-clause-below : goal.returns-then-is_false-2-clause-below
returns-then-is_false-2-clause-below c =
    let n = length c.args.trail.now.limits in
    let x = c.bottom.ensures in
    ⊎_elim (λ above. omega (arith, x.high (n - 1) (omega (arith, above)), c.requires.head (n - 1) (omega (arith, above)))) (λ low. omega (arith, x.low (omega (arith, low)))) (cases_lt 0 n)

pub returns-then-is_false-2-clause-first : goal.returns-then-is_false-2-clause-first
returns-then-is_false-2-clause-first c = λ f. ⊎_elim
    (λ above. (c.requires.place above).0.not_false (in_front c.bottom.result (lits_of c.args.trail.now.steps) (negation c.args.first) f))
    (λ low. absurd (let none = rw (c.bottom.ensures.low (omega (arith, low))) at f in omega (arith, none.1)))
    (cases_lt 0 (length c.args.trail.now.limits))

pub returns-then-is_false-2-clause-second : goal.returns-then-is_false-2-clause-second
returns-then-is_false-2-clause-second c =
    let t = c.args.trail.now in
    let x = c.bottom.ensures in
    let once : IsOnce (lits_of t.steps) = λ i j d before within. x.once i j d before (omega (arith, within, lits_length t.steps)) in
    λ f. ⊎_elim
    (λ above. let j = length t.limits - 1 in
    recent_not_below t c.args.second c.bottom.result once (c.requires.place above).1 j (omega (arith, above)) (omega (arith, x.high j (omega (arith, above)))) f)
    (λ low. let none : IsFalse (take 0 (lits_of t.steps)) c.args.second = subst (λ m. IsFalse (take m (lits_of t.steps)) c.args.second) (x.low (omega (arith, low))) f in
    absurd (omega (arith, none.1)))
    (cases_lt 0 (length t.limits))
