use Rattle.std.proofs.Common.{arith, IfOk, Ok, subst, sym}
use Rattle.text_lines.specs.Check.{◌>>=◌}
use Rattle.run_rules.{specs.{Answers.IsAnswerAlone, Read.IsSearchAs, Tasks.{Order, search_asked}}, proofs.{Answered.{refused_alone, refused_behind}, Sought.same_kind}}
use Rattle.search_commands.proofs.ordered.ordered_answer.Goals as goal

pub search_answer-requires-clause-single : goal.search_answer-requires-clause-single
search_answer-requires-clause-single c = grind (arith, same_kind)

pub returns-in-Asked : goal.returns-in-Asked
returns-in-Asked c =
    let found = subst (IsSearchAs (search_asked c.args.asked c.args.bytes.now)) c.in-Asked.is c.in_ok-search.ensures in
    subst (λ asked. IfOk c.search_answer.result (λ a. IsAnswerAlone (asked >>= (λ s. Ok (Order s.0 s.1))) a.status a.text.items)) (sym found.0) c.search_answer.ensures

pub returns-in-Refused : goal.returns-in-Refused
returns-in-Refused c =
    let asked = c.args.asked in
    let bytes = c.args.bytes.now in
    let refused = subst (IsSearchAs (search_asked asked bytes)) c.in-Refused.is c.in_ok-search.ensures in
    grind (arith, refused_alone, refused_behind)
