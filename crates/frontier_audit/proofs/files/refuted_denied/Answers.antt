use Rattle.std.proofs.{Common.get_or, lemmas.List.get_or_default}
use Rattle.candidate_order.specs.declared.candidate.Candidate.{Candidate}
use Rattle.frontier_audit.proofs.{Merging.{walk_ends, walk_on, walk_starts, walk_stops}, Said.separate_refuted}
use Rattle.frontier_audit.proofs.files.refuted_denied.Goals as goal

abbrev none : Candidate
none = record { s = 0; r = 0; c = 0 }

pub loop-candidate-init : goal.loop-candidate-init
loop-candidate-init g c = walk_starts _ _ _ _ _

pub refutation_denied-requires : goal.refutation_denied-requires
refutation_denied-requires g c = c.requires.within c.loop-candidate.candidate-index none c.loop-candidate-test.true

pub returns-in-Some-clause-beside : goal.returns-in-Some-clause-beside
returns-in-Some-clause-beside g c =
    let x = get_or c.args.refuted.now c.loop-candidate.candidate-index none in
    let done = c.in_ok-denial.ensures in
    walk_stops c.loop-candidate.invariant x c.loop-candidate-test.true (get_or_default c.args.refuted.now c.loop-candidate.candidate-index none x c.loop-candidate-test.true) done.told done.beside c.in-Some.denial c.in-Some.is

pub loop-candidate-preserved : goal.loop-candidate-preserved
loop-candidate-preserved g c =
    let x = get_or c.args.refuted.now c.loop-candidate.candidate-index none in
    walk_on c.loop-candidate.invariant x c.loop-candidate-test.true (get_or_default c.args.refuted.now c.loop-candidate.candidate-index none x c.loop-candidate-test.true) c.in_ok-denial.ensures.told c.in_ok-denial.ensures.beside
    (separate_refuted c.args.part c.args.asked.now c.args.refuted.now c.requires.ascending) c.in_ok-denial.ensures.stay (c.in_ok-denial.ensures.cause.stays (λ failed. absurd cc)) c.in_default.is

pub returns-clause-beside : goal.returns-clause-beside
returns-clause-beside g c = walk_ends c.loop-candidate.invariant c.loop-candidate-test.false
