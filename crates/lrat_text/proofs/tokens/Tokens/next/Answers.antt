use Rattle.std.proofs.Common.{sym, ◌∙◌}
use Rattle.lrat_text.proofs.Blanks.{token_between}
use Rattle.lrat_text.proofs.tokens.Tokens.next.Goals as goal

pub returns-clause-some : goal.returns-clause-some
returns-clause-some c = let i = c.self.inside in let front = c.leading_blanks-start in let word = c.end_of_token-end in sym c.self.view_is
    ∙ token_between i.bytes.now front.result word.result i.place word.ensures.after c.if-start-end.false word.ensures.within (front.ensures.passed i.place) word.ensures.apart word.ensures.stops
