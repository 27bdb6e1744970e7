use Rattle.std.proofs.Common.{◌∙◌}
use Rattle.frontier_report.proofs.Numbers.{number_read}
use Rattle.frontier_report.proofs.rounds.numbers_of.Goals as goal

pub loop-token-preserved : goal.loop-token-preserved
loop-token-preserved c =
    number_read c.loop-token.numbers.items c.push.new.self.items c.loop-token.tokens.words c.next_word.new.self.words c.in-Some.token.now c.in-Ok.number c.in-Some.ensures.some c.in-Ok.ensures c.in_ok-push-in-Ok.ensures.items ∙ c.loop-token.invariant
