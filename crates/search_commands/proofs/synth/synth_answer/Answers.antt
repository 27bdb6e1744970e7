use Rattle.std.proofs.Common.{arith, Ok, IfOk, subst, sym}
use Rattle.text_lines.specs.Check.{◌>>=◌}
use Rattle.run_rules.{specs.{Answers.IsAnswer, Read.IsSearchAs, Tasks.{Synthesise, search_asked}}, proofs.Answered.{refused_alone, refused_behind}}
use Rattle.search_commands.proofs.synth.synth_answer.Goals as goal

pub returns-in-Asked-clause-answers : goal.returns-in-Asked-clause-answers
returns-in-Asked-clause-answers g c =
    let found = subst (IsSearchAs (search_asked c.args.asked c.args.bytes.now)) c.in-Asked.is c.in_ok-search.ensures in
    subst (λ asked. IfOk c.search_answer.result (λ a. IsAnswer (asked >>= (λ s. Ok (Synthesise s.0 s.1 c.args.kept))) (record { told = g.H.Shelf.tells c.search_answer.new.shelf; before = g.H.Shelf.file c.args.shelf.now; after = g.H.Shelf.file c.search_answer.new.shelf }) a.status a.text.items))
    (sym found.0) c.search_answer.ensures.answers

pub returns-in-Refused-clause-answers : goal.returns-in-Refused-clause-answers
returns-in-Refused-clause-answers g c = grind (arith, refused_alone, refused_behind)
