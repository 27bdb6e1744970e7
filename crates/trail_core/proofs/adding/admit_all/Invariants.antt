use Rattle.std.proofs.Common.{◌≡◌, ◌==◌, ◌≤◌, ◌+◌, ℕ, get_or, take, count_by}
use Rattle.cnf_formula.specs.Literals.{code_of}
use Rattle.trail_core.specs.Watching.{AreLists, HasRoom}
use Rattle.trail_core.proofs.adding.admit_all.Given as goal

abbrev pub invariant-loop-lit : goal.invariant-loop-lit
invariant-loop-lit l = record {
  lists : l.lists.lists ≡ l.initial.lists.lists;
  watches : l.lists.watches ≡ l.initial.lists.watches;
  are_lists : AreLists l.vars l.lists;
  room : HasRoom l.lists;
  more : (k : ℕ) → get_or l.initial.lists.uses k 0 ≤ get_or l.lists.uses k 0;
  counted : (k : ℕ) → get_or l.initial.lists.uses k 0 + count_by (λ x. code_of x == k) (take l.lit-index l.lits) ≤ get_or l.lists.uses k 0;
}
