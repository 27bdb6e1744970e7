use Rattle.std.proofs.Common.{◌≡◌, ◌∙◌, Ok, IfOk, ap, refl, subst, sym}
use Rattle.run_rules.{specs.{Answers.IsAnswer, Read.IsSearchAs, Tasks.{Bound, given_sets, search_asked}, Steps.bound_asked}, proofs.{Answered.{refused_alone, refused_behind}, Sought.{same_kind, same_limits}}}
use Rattle.search_commands.proofs.BoundDue.{bound_due}
use Rattle.search_commands.proofs.bound.bound_answer.Goals as goal

pub search_answer-requires-clause-single : goal.search_answer-requires-clause-single
search_answer-requires-clause-single g c =
    let found = subst (IsSearchAs (search_asked c.args.asked c.args.bytes.now)) c.in-Asked.is c.in_ok-search.ensures in
    λ e. c.requires.single (sym (same_kind c.args.asked c.args.bytes.now c.in-Asked.search.words c.in-Asked.search.topology found.0) ∙ e)

pub search_answer-requires-clause-plain : goal.search_answer-requires-clause-plain
search_answer-requires-clause-plain g c =
    let found = subst (IsSearchAs (search_asked c.args.asked c.args.bytes.now)) c.in-Asked.is c.in_ok-search.ensures in
    ap (λ limits. limits.pruning) (same_limits c.args.asked c.args.bytes.now c.in-Asked.search.words c.in-Asked.search.topology found.0) ∙ c.requires.plain

pub returns-in-Asked-clause-answers : goal.returns-in-Asked-clause-answers
returns-in-Asked-clause-answers g c =
    let asked = c.args.asked in
    let bytes = c.args.bytes.now in
    let found = subst (IsSearchAs (search_asked asked bytes)) c.in-Asked.is c.in_ok-search.ensures in
    let w = c.in-Asked.search.words in
    let t = c.in-Asked.search.topology in
    let due : bound_asked asked c.args.all_sets bytes ≡ Ok (Bound w t c.sets_given.result) = bound_due asked c.args.all_sets bytes w t found.0 ∙ ap (λ sets. Ok (Bound w t sets)) (sym c.sets_given.ensures) in
    subst (λ d. IfOk c.search_answer.result (λ a. IsAnswer d (record { told = g.H.Shelf.tells c.search_answer.new.shelf; before = g.H.Shelf.file c.args.shelf.now; after = g.H.Shelf.file c.search_answer.new.shelf }) a.status a.text.items)) (sym due) c.search_answer.ensures.answers

pub returns-in-Refused-clause-answers : goal.returns-in-Refused-clause-answers
returns-in-Refused-clause-answers g c =
    let asked = c.args.asked in
    let bytes = c.args.bytes.now in
    let refused = subst (IsSearchAs (search_asked asked bytes)) c.in-Refused.is c.in_ok-search.ensures in
    refused_alone (bound_asked asked c.args.all_sets bytes) c.in-Refused.answer (refused_behind (search_asked asked bytes) (λ s. Ok (Bound s.0 s.1 (given_sets c.args.all_sets))) c.in-Refused.answer refused) _ (λ told name. refl)
