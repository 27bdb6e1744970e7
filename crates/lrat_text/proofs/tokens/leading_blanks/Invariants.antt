use Rattle.std.proofs.Common.{◌≡◌, ℕ, ◌+◌, drop}
use Rattle.lrat_text.specs.Tokens.{tokens_from}
use Rattle.lrat_text.proofs.tokens.leading_blanks.Given as goal

abbrev pub invariant-loop-i : goal.invariant-loop-i
invariant-loop-i l = (place : ℕ) → tokens_from place l.bytes ≡ tokens_from (place + l.i) (drop l.i l.bytes)
