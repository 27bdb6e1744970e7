use Rattle.std.proofs.Common.{refl, sym, subst}
use Rattle.candidate_formula.specs.{Files.{HasRefutation, RefutedFiles}, Formulas.formula_for}
use Rattle.candidate_order.specs.Frontiers.{QuestionValue, IsSolvable, IsWithin}
use Rattle.candidate_solver.specs.Trying.{BeginsOwn}
use Rattle.kept_proofs.proofs.Taken.{begins_none}
use Rattle.kept_proofs.proofs.engine.KeptEngine.take.Goals as goal

pub take_up-requires : goal.take_up-requires
take_up-requires g c = subst (λ (q : QuestionValue). IsWithin q c.args.candidate) c.args.self.now.same_question c.requires

pub returns-then-not-self-clause-begins : goal.returns-then-not-self-clause-begins
returns-then-not-self-clause-begins g c = λ told. begins_none _ c.args.self.now.part c.args.candidate _ _ (λ name. refl)

pub returns-clause-begins : goal.returns-clause-begins
returns-clause-begins g c = λ told.
    let F = g.H.Shelf.file in
    subst (λ (q : QuestionValue). BeginsOwn (formula_for q c.args.candidate) c.args.self.now.part c.args.candidate (F c.args.store.now) (F c.take_up.new.store)) (sym c.args.self.now.same_question) (c.take_up.ensures.begins told)

pub returns-clause-taken : goal.returns-clause-taken
returns-clause-taken g c = λ told e.
    let F = g.H.Shelf.file in
    subst (λ (q : QuestionValue). RefutedFiles c.args.self.now.part q (F c.take_up.new.store) c.args.candidate) (sym c.args.self.now.same_question) (c.take_up.ensures.taken told e)

pub returns-clause-lacks : goal.returns-clause-lacks
returns-clause-lacks g c = λ told e on has.
    c.take_up.ensures.lacks told e (subst (λ (q : QuestionValue). HasRefutation c.args.self.now.part q (g.H.Shelf.file c.args.store.now) c.args.candidate) c.args.self.now.same_question has)

pub returns-clause-right : goal.returns-clause-right
returns-clause-right g c = λ e solvable. c.take_up.ensures.right e (subst (λ (q : QuestionValue). IsSolvable q c.args.candidate) c.args.self.now.same_question solvable)
