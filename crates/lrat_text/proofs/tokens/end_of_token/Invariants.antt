use Rattle.std.proofs.Common.{◌≡◌, ℕ, ◌<◌, ◌≤◌, false, get_or, ◌==◌, ◌||◌}
use Rattle.lrat_text.proofs.tokens.end_of_token.Given as goal

abbrev pub invariant-loop-i : goal.invariant-loop-i
invariant-loop-i l = (k : ℕ) → l.start ≤ k → k < l.i → (get_or l.bytes k 0 == 32 || get_or l.bytes k 0 == 9) ≡ false
