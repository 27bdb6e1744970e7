use Rattle.std.proofs.Common.{◌∙◌}
use Rattle.conflict_ledger.specs.Beside.{beside}
use Rattle.sat_core.proofs.Caused.{after, unmoved}
use Rattle.candidate_solver.proofs.Begun.{ledger_made, ledger_moved}
use Rattle.candidate_solver.proofs.searching.search.Goals as goal

pub returns-in_err-ledger-clause-begins : goal.returns-in_err-ledger-clause-begins
returns-in_err-ledger-clause-begins g c = λ t.
    let F = g.H.Shelf.file in
    ledger_made c.args.formula.now c.args.part c.args.candidate (F c.args.store.now) (F c.write_formula.new.store) (F c.new.new.shelf) (c.write_formula.ensures.begins (c.new.ensures.told t)) (c.new.ensures.others t) (c.new.ensures.files t)

pub returns-then-checked-clause-begins : goal.returns-then-checked-clause-begins
returns-then-checked-clause-begins g c = λ t.
    let T = g.H.Shelf.tells in
    let F = g.H.Shelf.file in
    let f = c.args.formula.now in
    let start = c.args.store.now in
    let ledger = c.in_ok-ledger.ledger in
    let made = c.new.new.shelf in
    let end = c.search_checked.new.store in
    let told = c.search_checked.ensures.moves.tells t in
    ledger_moved f c.args.part c.args.candidate (F start) (beside ledger (T made) (F made)) (beside ledger (T end) (F end))
    (ledger_made f c.args.part c.args.candidate (F start) (F c.write_formula.new.store) (F made) (c.write_formula.ensures.begins (c.new.ensures.told told)) (c.new.ensures.others told) (c.new.ensures.files told))
    c.in_ok-ledger.ensures.base c.in_ok-ledger.ensures.lrat c.in_ok-ledger.ensures.partial c.search_checked.ensures.moves t

pub returns-else-checked-clause-begins : goal.returns-else-checked-clause-begins
returns-else-checked-clause-begins g c = λ t.
    let T = g.H.Shelf.tells in
    let F = g.H.Shelf.file in
    let f = c.args.formula.now in
    let start = c.args.store.now in
    let ledger = c.in_ok-ledger.ledger in
    let made = c.new.new.shelf in
    let end = c.search_plain.new.store in
    let told = c.search_plain.ensures.moves.tells t in
    ledger_moved f c.args.part c.args.candidate (F start) (beside ledger (T made) (F made)) (beside ledger (T end) (F end))
    (ledger_made f c.args.part c.args.candidate (F start) (F c.write_formula.new.store) (F made) (c.write_formula.ensures.begins (c.new.ensures.told told)) (c.new.ensures.others told) (c.new.ensures.files told))
    c.in_ok-ledger.ensures.base c.in_ok-ledger.ensures.lrat c.in_ok-ledger.ensures.partial c.search_plain.ensures.moves t

pub returns-then-checked-clause-cause : goal.returns-then-checked-clause-cause
returns-then-checked-clause-cause g c = after (unmoved c.in_ok-ledger.was c.new.ensures.cause ∙ unmoved c.in_ok-write_formula.was c.write_formula.ensures.cause) c.search_checked.ensures.cause

pub returns-else-checked-clause-cause : goal.returns-else-checked-clause-cause
returns-else-checked-clause-cause g c = after (unmoved c.in_ok-ledger.was c.new.ensures.cause ∙ unmoved c.in_ok-write_formula.was c.write_formula.ensures.cause) c.search_plain.ensures.cause
