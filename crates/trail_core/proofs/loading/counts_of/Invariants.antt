use Rattle.std.proofs.Common.{◌≡◌, ◌==◌, ℕ, ◌+◌, ◌*◌, length, get_or, take, count_by}
use Rattle.cnf_formula.specs.Literals.{code_of}
use Rattle.trail_core.proofs.loading.counts_of.Given as goal

abbrev pub invariant-loop-lit : goal.invariant-loop-lit
invariant-loop-lit l = record {
  len : length l.counts.items ≡ 2 * l.vars + 2;
  counts : (k : ℕ) → get_or l.counts.items k 0 ≡ count_by (λ o. code_of o == k) (take l.lit-index l.lits);
}
