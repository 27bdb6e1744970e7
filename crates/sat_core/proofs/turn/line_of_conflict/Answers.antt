use Rattle.sat_core.proofs.{Hinted.hints_names}
use Rattle.sat_core.proofs.turn.line_of_conflict.Goals as goal

pub named-requires : goal.named-requires
named-requires c =
    let learned = c.in_ok-learned.learned in
    let l = c.in_ok-learned.ensures.learned in
    record { known = hints_names c.args.core.now.clauses c.args.core.now.trail l.resolved c.args.conflict learned.lits learned.hints _ l.analysis l.hints c.requires.guided.listed.names }
