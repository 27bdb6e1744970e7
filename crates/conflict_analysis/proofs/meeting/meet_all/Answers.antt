use Rattle.std.proofs.Common.{[], List, get_or, take, arith}
use Rattle.cnf_formula.specs.Literals.{LitValue}
use Rattle.conflict_analysis.{specs.Met.value_of, proofs.Marked.{met_none, met_next, met_still, met_whole, read_stands}}
use Rattle.conflict_analysis.proofs.meeting.meet_all.Goals as goal

pub loop-lit-init : goal.loop-lit-init
loop-lit-init c = met_none c.args.core.now (value_of c.args.walk.now) c.requires.sorted

pub meet-requires : goal.meet-requires
meet-requires c =
    let clause : List LitValue = get_or c.args.core.now.clauses c.args.id [] in
    let x : LitValue = c.lit-item.result in
    let own = read_stands clause c.clause-lit-items.result.now c.loop-lit.lit-index x (c.clause-lit-items.ensures []) c.loop-lit-test.true c.lit-item.is in
    let met = met_still c.args.core.now (take c.loop-lit.lit-index clause) (value_of c.args.walk.now) (value_of c.loop-lit.walk) x c.loop-lit.invariant (c.requires.met x own) in
    record { formed = c.requires.formed; sorted = c.loop-lit.invariant.sorted; few = omega (arith, c.loop-lit.invariant.stamp, c.requires.few); met = met; within = c.requires.within x own }

pub loop-lit-preserved : goal.loop-lit-preserved
loop-lit-preserved c =
    met_next c.args.core.now (get_or c.args.core.now.clauses c.args.id []) c.clause-lit-items.result.now c.loop-lit.lit-index c.lit-item.result (value_of c.args.walk.now) (value_of c.loop-lit.walk) _ (c.clause-lit-items.ensures []) c.loop-lit-test.true c.lit-item.is c.loop-lit.invariant c.in_ok-meet.ensures

pub returns : goal.returns
returns c =
    met_whole c.args.core.now (get_or c.args.core.now.clauses c.args.id []) c.clause-lit-items.result.now c.loop-lit.lit-index (value_of c.args.walk.now) (value_of c.loop-lit.walk) (c.clause-lit-items.ensures []) (omega (arith, c.loop-lit-test.false)) c.loop-lit.invariant
