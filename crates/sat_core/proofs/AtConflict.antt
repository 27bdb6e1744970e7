-- What is learned at a conflict is accepted; and above level 0 no line without a literal is.
use Rattle.std.proofs.{Common.{◌≡◌, ℕ, ◌+◌, ◌<◌, ◌≤◌, Bool, true, List, [], ◌∷◌, length, get_or, take, sym, ap, ◌∙◌, subst, arith, AllPairs, map, filter}, lemmas.List.Elements.All-contains}
use Rattle.list_laws.proofs.Each.{all_contained}
use Rattle.cnf_formula.specs.{Literals.{LitValue, negation}, Lines.ProofLineValue, Formulas.IsAbout}
use Rattle.proof_rules.{specs.{Held.CheckerValue, declared.verdict.LineVerdict.TheVariants.Accepted as AcceptedVerdict, Judging.verdict_of, Accepting.Conflicts}, proofs.Verdicts.by_implied}
use Rattle.trail_core.specs.{Trails.{StepValue, lits_of}, Meaning.{CoreValue, trues, IsClosed}, Formed.IsTrail}
use Rattle.conflict_analysis.specs.{Learning.{hints_to, IsAnalysis}, Conflicts.IsConflict}
use Rattle.sleeping_clauses.specs.{Naming.{name, IsNamed}, Sleeping.{SleepersValue, IsAsleep}}
use Rattle.sat_core.{specs.inner.Holding.{Agree, IsNext}, proofs.{Hinted.{few_named, hints_conflict, leading_numbers, no_groups}, Once.{Apart, consistent_by}, Spent.{no_closing, all_rest}}}

-- whatever is resolved, what remains is accepted where it names no variable twice
pub analysis_accepted : (c : CheckerValue) (core : CoreValue) (names : List ℕ) (s : SleepersValue) (resolved : StepValue → Bool) (conflict : ℕ) (clause : List LitValue) (id : ℕ) → Agree c core names s → IsTrail core.vars core.trail core.limits → IsAnalysis core.clauses core.trail resolved conflict clause → AllPairs Apart clause → IsNext c id
    → verdict_of c (record { id = id; lits = clause; hints = map (name names) (hints_to resolved core.trail conflict) }) ≡ AcceptedVerdict true
analysis_accepted c core names s resolved conflict clause id a t an once n =
    by_implied c (record { id = id; lits = clause; hints = map (name names) (hints_to resolved core.trail conflict) }) (record {
      new = record {
        above_formula = n.above_formula;
        above_lines = n.above_lines;
        in_range = all_contained (IsAbout c.formula.vars) clause (λ o h. let i = All-contains (IsAbout core.vars) (lits_of core.trail) (negation o) t.within (an.falses o h) in record { some = i.some; within = omega (arith, i.within, a.vars) });
        once = once;
      };
      no_groups = no_groups names (filter resolved core.trail) conflict 0;
      conflict = subst (Conflicts c.held clause) (sym (leading_numbers names (filter resolved core.trail) conflict)) (hints_conflict c.held names core.clauses core.trail resolved conflict clause a.held.named (consistent_by (lits_of core.trail) t.apart) an);
    })

-- so a line is accepted that has what remains and its hints, by the ledger's numbers
pub line_accepted : (c : CheckerValue) (core : CoreValue) (names : List ℕ) (held : ℕ) (s : SleepersValue) (resolved : StepValue → Bool) (conflict : ℕ) (own line : ProofLineValue) → Agree c core names s → IsTrail core.vars core.trail core.limits → IsAnalysis core.clauses core.trail resolved conflict own.lits → AllPairs Apart own.lits
    → own.hints ≡ hints_to resolved core.trail conflict → IsNamed names held own line → IsNext c line.id → verdict_of c line ≡ AcceptedVerdict true
line_accepted c core names held s resolved conflict own line a t an once hints d n =
    ap (λ hs. verdict_of c (record { id = line.id; lits = line.lits; hints = hs })) (d.hints ∙ ap (map (name names)) hints)
    ∙ ap (λ ls. verdict_of c (record { id = line.id; lits = ls; hints = map (name names) (hints_to resolved core.trail conflict) })) d.lits
    ∙ analysis_accepted c core names s resolved conflict own.lits line.id a t an once n

-- and has few hints
pub line_short : (core : CoreValue) (names : List ℕ) (held : ℕ) (resolved : StepValue → Bool) (conflict : ℕ) (own line : ProofLineValue) → own.hints ≡ hints_to resolved core.trail conflict → IsNamed names held own line → length line.hints ≤ length core.trail + 1
line_short core names held resolved conflict own line hints d =
    let few = few_named names resolved core.trail conflict in
    omega (arith, few, ap length (d.hints ∙ ap (map (name names)) hints))

-- above level 0 no line without a literal is accepted, where the clauses that sleep rest on level 0
pub no_line_closes : (c : CheckerValue) (core : CoreValue) (names : List ℕ) (s : SleepersValue) (conflict : ℕ) → Agree c core names s → ((clause : List LitValue) → IsAsleep s clause → IsClosed (take (get_or core.limits 0 0) (trues core)) (clause ∷ [])) → IsConflict core conflict → 0 < length core.limits → (line : ProofLineValue) → line.lits ≡ [] → verdict_of c line ≡ AcceptedVerdict true → ⊥
no_line_closes c core names s conflict a rest k w line e v =
    let low = take (get_or core.limits 0 0) (trues core) in
    no_closing c low (all_rest c.held core.clauses s low a.held.only (k.closed_below 0 w) rest) line e v
