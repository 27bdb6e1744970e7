-- The lines of a search are read back from their text, since their numbers are small; and they are short.
use Rattle.std.proofs.Common.{suc, ◌≡◌, ℕ, ◌+◌, ◌<◌, ◌≤◌, true, false, eqb, List, [], ◌∷◌, ◌++◌, length, get_or, ℤ, pos, negsuc, Ok, subst, ⊎_elim, arith, ◌≢◌, ◌==◌, Contains, All, AllPairs, Some, map}
use Rattle.std.proofs.lemmas.{Bool.{cases_Bool, eqb-true, ne_eqb, Decides.nat_tests}, List.{length-map, Elements.{All-nil, All-cons, Contains-push_cases}}, Map.Steps.length-le_from_distinct_below}
use Rattle.std.specs.List.{list_any, enumerate_from, IsDistinct, AllByRecursion}
use Rattle.list_laws.proofs.Members.{Contains-cons}
use Rattle.cnf_formula.specs.{Literals.{LitValue, IsLit}, Formulas.{FormulaValue, IsClause}, Lines.ProofLineValue, declared.line.LratLine.TheVariants.Addition}
use Rattle.proof_rules.{specs.{Held.{Entry, CheckerValue, start_of, clause_at}, Accepting.{Conflicts, Implied, leading, hint_groups_from}, Refuting.with_line, Learning.AllImplied}, proofs.Verdicts.implied_by}
use Rattle.lrat_text.specs.Printing.{lrat_text, IsId, IsHint, IsReadable}
use Rattle.outer_ports.specs.{declared.proof_name.ProofName.ProofName, Files.Files}
use Rattle.conflict_ledger.specs.Shelved.{log_text}
use Rattle.sat_core.specs.Ready.{AreNumbered, AreShort}
use Rattle.candidate_formula.{specs.{Lines.lines_of_text, Files.HoldsLines, Logs.IsShortLine}, proofs.{ReadBack.text_says, Said.said_exactly, Spelled.text_spells, Short.log_short}}
use Rattle.conflict_analysis.proofs.Members.{here, cons_cases}

-- what is held is held under numbers that a reader takes
abbrev pub AreIds : List Entry → Type 0
AreIds held = (entry : Entry) → Contains held entry → IsId entry.0

-- ---- hints

named_entry : (held : List Entry) (id : ℕ) (clause : List LitValue) → clause_at held id ≡ Some clause → (entry : Entry) × Contains held entry × (entry.0 ≡ id)
named_entry [] id clause h = absurd (cc)
named_entry (entry ∷ held) id clause h = ⊎_elim
    (λ e. (entry, here entry held, eqb-true entry.0 id e))
    (λ e. let r = named_entry held id clause (rw e at h) in (r.0, Contains-cons entry held r.0 r.1, r.2))
    (cases_Bool (entry.0 == id))

named_id : (held : List Entry) → AreIds held → (id : ℕ) (clause : List LitValue) → clause_at held id ≡ Some clause → IsId id
named_id held ids id clause h = let r = named_entry held id clause h in subst IsId r.2 (ids r.0 r.1)

hints_read : (held : List Entry) → AreIds held → (hints : List ℤ) (place : ℕ) (falses : List LitValue) → hint_groups_from place hints ≡ [] → Conflicts held falses (leading hints) → All IsHint hints
hints_read held ids [] place falses g c = absurd c
hints_read held ids (negsuc n ∷ hints) place falses g c = absurd (cc)
hints_read held ids (pos id ∷ []) place falses g c = All-cons IsHint (pos id) [] (named_id held ids id c.clause c.names) (All-nil IsHint)
hints_read held ids (pos id ∷ negsuc n ∷ hints) place falses g c = absurd (cc)
hints_read held ids (pos id ∷ pos next ∷ hints) place falses g c =
    All-cons IsHint (pos id) (pos next ∷ hints) (named_id held ids id c.1.clause c.1.names)
    (hints_read held ids (pos next ∷ hints) (place + 1) _ g c.2)

-- ---- literals

lits_read : (vars : ℕ) (lits : List LitValue) → vars ≤ 2147483647 → IsClause vars lits → All IsLit lits
lits_read vars lits named about k d w = grind (arith, nat_tests)

named_once : (lits : List LitValue) → AllPairs (λ l other. l.var ≢ other.var) lits → IsDistinct eqb (map (λ l. l.var) lits)
unfolding IsDistinct
named_once [] once = tt
named_once (l ∷ lits) once = (
  apart lits (λ k d w. once 0 (suc k) d (omega arith) (omega (arith, w))),
  named_once lits (λ i j d a b. once (suc i) (suc j) d (omega (arith, a)) (omega (arith, b))),
)
  where
    apart : (xs : List LitValue) → ((k : ℕ) (d : LitValue) → k < length xs → l.var ≢ (get_or xs k d).var) → AllByRecursion (λ y. eqb l.var y ≡ false) (map (λ x. x.var) xs)
    apart [] n = tt
    apart (x ∷ xs) n = (ne_eqb l.var x.var (n 0 x (omega arith)), apart xs (λ k d w. n (suc k) d (omega (arith, w))))

few_lits : (vars : ℕ) (lits : List LitValue) → vars < 2097152 → IsClause vars lits → AllPairs (λ l other. l.var ≢ other.var) lits → length lits ≤ 2097152
few_lits vars lits few about once =
    let numbers : List ℕ = map (λ l. l.var) lits in
    let bound = length-le_from_distinct_below numbers (vars + 1) (named_once lits once) (below lits about) in
    let same = length-map lits (λ l. l.var) in
    omega (arith, bound, same, few)
  where
    below : (xs : List LitValue) → IsClause vars xs → (q : ℕ) → list_any (eqb q) (map (λ l. l.var) xs) ≡ true → q < vars + 1
    below [] a q h = absurd (cc)
    below (x ∷ xs) a q h = ⊎_elim
        (λ e. let here' = eqb-true q x.var e in let within = (a 0 x (omega arith)).within in omega (arith, here', within))
        (λ e. below xs (λ k d w. a (suc k) d (omega (arith, w))) q (rw e at h))
        (cases_Bool (eqb q x.var))

-- ---- lines

line_read : (c : CheckerValue) (line : ProofLineValue) → c.formula.vars ≤ 2147483647 → AreIds c.held → line.id ≤ 4294967295 → Implied c line → IsReadable (Addition line)
line_read c line named ids small i = grind (arith, nat_tests, lits_read, hints_read)

held_more : (held : List Entry) (id : ℕ) (lits : List LitValue) → AreIds held → IsId id → AreIds (held ++ (id, lits) ∷ [])
held_more held id lits ids is entry at = ⊎_elim (ids entry) (λ e. subst (λ x. IsId x.0) e is) (Contains-push_cases held (id, lits) entry at)

lines_read : (lines : List ProofLineValue) (c : CheckerValue) → c.formula.vars ≤ 2147483647 → AreIds c.held → AllImplied c lines
    → All (λ line. line.id ≤ 4294967295) lines → All IsReadable (map Addition lines)
lines_read [] c named ids implied small = All-nil IsReadable
lines_read (line ∷ lines) c named ids implied small =
    let own = line_read c line named ids (small 0 line (omega arith)) (implied_by c line implied.0) in
    All-cons IsReadable (Addition line) (map Addition lines) own
    (lines_read lines (with_line c line) named (held_more c.held line.id line.lits ids own.0) implied.1 (λ k d w. small (suc k) d (omega (arith, w))))

lines_short : (lines : List ProofLineValue) (c : CheckerValue) → c.formula.vars < 2097152 → AllImplied c lines
    → All (λ line. length line.hints ≤ 2097153) lines → All IsShortLine lines
lines_short [] c few implied hints = All-nil IsShortLine
lines_short (line ∷ lines) c few implied hints =
    let n = (implied_by c line implied.0).new in
    All-cons IsShortLine line lines
    (record { lits = few_lits c.formula.vars line.lits few n.in_range n.once; hints = hints 0 line (omega arith) })
    (lines_short lines (with_line c line) few implied.1 (λ k d w. hints (suc k) d (omega (arith, w))))

start_ids : (from : ℕ) (clauses : List (List LitValue)) → 0 < from → from + length clauses ≤ 4294967296 → AreIds (enumerate_from from clauses)
start_ids from [] some few entry at = absurd (omega (arith, at.1))
start_ids from (clause ∷ clauses) some few entry at = ⊎_elim
    (λ e. subst (λ x. IsId x.0) e (record { some = some; small = omega (arith, few) }))
    (start_ids (from + 1) clauses (omega arith) (omega (arith, few)) entry)
    (cons_cases (from, clause) (enumerate_from (from + 1) clauses) entry at)

-- ---- the lines of a search

search_read : (f : FormulaValue) (lines : List ProofLineValue) → f.vars ≤ 2147483647 → length f.clauses + length lines ≤ 4294967295
    → AllImplied (start_of f) lines → AreNumbered (length f.clauses) lines → All IsReadable (map Addition lines)
search_read f lines named fit implied numbered =
    lines_read lines (start_of f) named (start_ids 1 f.clauses (omega arith) (omega (arith, fit))) implied
    (λ k d w. let e = numbered k d w in omega (arith, e, w, fit))

pub search_says : (f : FormulaValue) (lines : List ProofLineValue) → f.vars ≤ 2147483647 → length f.clauses + length lines ≤ 4294967295
    → AllImplied (start_of f) lines → AreNumbered (length f.clauses) lines → lines_of_text (lrat_text (map Addition lines)) ≡ Ok (map Addition lines)
search_says f lines named fit implied numbered = text_says (map Addition lines) (search_read f lines named fit implied numbered)

-- ---- files

-- a formula of which each line of a search can be read
pub record IsSmall (f : FormulaValue) : Type 0 where
  pub few_vars : f.vars < 2097152
  pub few_clauses : length f.clauses < 2000000000

-- the text of the lines of a search of it says these lines, and is short
pub holds_lines : (f : FormulaValue) (lines : List ProofLineValue) (files : Files) (name : ProofName) → IsSmall f → length lines ≤ 100001 → AllImplied (start_of f) lines → AreNumbered (length f.clauses) lines → AreShort f.vars lines
    → files name ≡ Some (log_text lines) → HoldsLines files name (map Addition lines)
holds_lines f lines files name small few implied numbered short found =
    let vars = small.few_vars in
    let clauses = small.few_clauses in
    let read = search_read f lines (omega (arith, vars)) (omega (arith, clauses, few)) implied numbered in
    record {
      bytes = log_text lines;
      found = found;
      short = log_short lines read (lines_short lines (start_of f) vars implied (λ k d w. let s = short k d w in omega (arith, s, vars))) few;
      reads = text_spells ((said_exactly (log_text lines) (map Addition lines)).0 (text_says (map Addition lines) read));
    }
