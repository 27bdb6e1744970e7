use Rattle.std.{proofs.{Common.{◌≡◌, length, map, Result, Ok, Err, sym, ap, ◌∙◌, subst}, lemmas.{Result.IfOk-at_ok, Bool.true≢false}}, specs.Result.{IsOk, OnOk}}
use Rattle.cnf_formula.specs.{Formulas.Satisfies, declared.line.LratLine.TheVariants.Addition}
use Rattle.proof_rules.specs.{Refuting.{Refutes, SpentLog}}
use Rattle.trail_core.specs.Meaning.{trues}
use Rattle.sat_core.specs.{Ready.{AreNumbered, AreShort}, inner.{Totals.AreValues, Ending.IsEnded}, declared.{solving.SatAnswer.SatAnswer, searching.End.{End, TheVariants.{Total, Refuted, Spent}}}}
use Rattle.sat_core.proofs.{Going.ended_agrees, Ending.log_by, Modelled.model_satisfies, Ternary.few_spent}
use Rattle.sat_core.proofs.solving.solve.Goals as goal

-- what holds of a success before it holds of a success
after : {T U E : Type 0} (P : Type 0) (r : Result T E) (s : Result U E) → OnOk r (IsOk s) → OnOk s P → OnOk r P
after P (Ok x) (Ok y) is p = p
after P (Ok x) (Err e) is p = absurd (true≢false (sym is))
after P (Err e) s is p = tt

pub returns : goal.returns
returns g c =
    let L = g.L.LedgerView in
    let end = c.search-end.ensures in
    let now = c.search-end.new.ledger in
    let formula = c.args.formula.now in
    let core = c.search-end.new.core in
    let guide = c.search-end.new.guide in
    let same : L.base now ≡ formula = end.written.base ∙ c.requires.base in
    let ended : (x : End) → c.search-end.result ≡ Ok x → IsEnded L g.L.Ledger now c.search-end.new.store core guide x = λ x e. IfOk-at_ok (IsEnded L g.L.Ledger now c.search-end.new.store core guide) e end.ended in
    let log : c.answer_of.result ≡ Ok SatAnswer.Spent → SpentLog (L.lines now) formula (L.limit now) =
    λ e. let spent = ended Spent (c.answer_of.ensures.spent e) in
    log_by (L.base now) formula (L.lines now) (L.spent now) (L.limit now) same end.written.written spent.over (g.met.L.LedgerView.charged now) spent.all in
    record {
      model = λ values e.
          let found = c.answer_of.ensures.model values e in
          let total = ended Total found.0 in
          let own : c.min-own.result ≡ core.vars = sym (end.vars ∙ c.in_ok-core.ensures.vars) in
          let len : length values ≡ (L.base now).vars = found.1 ∙ c.vars-2.ensures.vars ∙ sym (ap (λ f. f.vars) same) in
          let are : AreValues (trues core) core.vars values = subst (λ n. AreValues (trues core) n values) own found.2 in
          subst (Satisfies values) same (model_satisfies (L.base now) (L.lines now) core guide.awake guide.sleepers values total.0.ready total.1 len are);
      refuted = λ e. subst (Refutes (map Addition (L.lines now))) same (ended Refuted (c.answer_of.ensures.refuted e)).refutes;
      closed = λ e. (ended Refuted (c.answer_of.ensures.refuted e)).few;
      spent = λ e. (ended Spent (c.answer_of.ensures.spent e)).all;
      log = log;
      not_closed = λ e line empty accepted. (ended Spent (c.answer_of.ensures.spent e)).over.not_closed line empty (rw same accepted);
      few = λ e. few_spent formula (L.lines now) (L.limit now) (log e);
      numbered = subst (λ f. AreNumbered (length f.clauses) (L.lines now)) same end.written.written.numbered;
      short = subst (λ f. AreShort f.vars (L.lines now)) same end.written.written.short;
      moves = end.written.moves;
      agrees = after (g.L.Ledger.agrees now c.search-end.new.store) c.answer_of.result c.search-end.result c.answer_of.ensures.answer (ended_agrees L g.L.Ledger now c.search-end.new.store core guide c.search-end.result end.ended);
      base = end.written.base;
      limit = end.written.limit;
      cause = record { later = end.cause.later; rose = λ e. end.cause.rose (c.answer_of.ensures.fault.0 e); stays = λ other. end.cause.stays (λ e. other (c.answer_of.ensures.fault.1 e)) };
    }
