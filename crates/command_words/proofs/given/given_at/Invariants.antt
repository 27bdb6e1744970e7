use Rattle.std.proofs.Common.{◌≡◌, drop}
use Rattle.command_words.specs.{Given.given_at, inner.Seen.seen_all}
use Rattle.command_words.proofs.given.given_at.Given as goal

abbrev pub invariant-loop-word : goal.invariant-loop-word
invariant-loop-word l = given_at l.key (seen_all (drop l.word-index l.given)) ≡ given_at l.key (seen_all l.given)
