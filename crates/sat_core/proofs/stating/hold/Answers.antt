use Rattle.std.proofs.Common.{◌≡◌, [], ◌∷◌, ◌++◌, sym, ap, ◌∙◌, subst, refl}
use Rattle.sat_core.{specs.inner.Stating.AreStated, proofs.{Readiness.{IsGrown, ready_more}, Stated.stated_more, Turning.grown_guided}}
use Rattle.sat_core.proofs.stating.hold.Goals as goal

pub returns : goal.returns
returns c =
    let ok = (c.in_ok-id.ensures.ok).1 in
    let learned = c.in_ok-learn.ensures in
    let eq : c.deref.result.now ≡ c.args.line.now.lits = c.deref.ensures.value ∙ ap (λ l. l.lits) c.line.view_is in
    let same : c.deref-2.result.now ≡ c.deref.result.now = c.deref-2.ensures.value ∙ sym c.deref.ensures.value in
    let grown : IsGrown c.args.core.now c.add_clause.new.self c.args.guide.now.awake c.learn.new.self c.args.line.now = record { vars = ap (λ v. v.vars) ok; clauses = ap (λ v. v.clauses) ok ∙ ap (λ xs. c.args.core.now.clauses ++ xs ∷ []) eq; names = learned.names; formula = learned.formula; held = learned.held } in
    record {
      same = record { vars = ap (λ v. v.vars) ok; trail = ap (λ v. v.trail) ok; limits = ap (λ v. v.limits) ok };
      stated = subst (λ cs. AreStated cs c.mark.new.stated.items) (ap (λ xs. c.args.core.now.clauses ++ xs ∷ []) same ∙ sym (ap (λ v. v.clauses) ok)) (stated_more c.args.core.now.clauses _ c.args.stated.now.items c.mark.new.stated.items c.requires.stated c.mark.ensures.on c.mark.ensures.this);
      guided = grown_guided c.args.core.now c.add_clause.new.self c.args.guide.now _ c.args.line.now c.in_ok-id.id c.requires.guided c.requires.once grown (c.in_ok-id.ensures.ok).0 learned.ids refl refl refl;
      ready = λ base lines ready stating. ready_more base lines c.args.core.now c.add_clause.new.self c.args.guide.now.awake c.learn.new.self c.args.guide.now.sleepers c.args.line.now ready c.requires.guided.listed stating.written stating.fresh stating.next grown;
    }
