-- An addition has the verdict that it is implied, or that it is accepted without being so, exactly by the definitions.
use Rattle.std.proofs.lemmas.{Grind.common_steps, List.{Folds.list_any_none, Sums.list_all-from_AllPass}}
use Rattle.std.proofs.{Common.{◌≡◌, ℕ, Bool, true, false, List, [], ◌∷◌, Some, Ok, refl, arith, ◌↔◌, ◌==◌, ◌≢◌, if◌then◌else◌, All, AllPairs, nat_le, nat_lt}, lemmas.Bool.{le-ltb, lt-leb, ne_eqb, or_from}}
use Rattle.list_laws.proofs.Pairs.{pairs_head, pairs_tail}
use Rattle.cnf_formula.specs.{Literals.LitValue, Formulas.IsAbout, Lines.ProofLineValue}
use Rattle.proof_rules.specs.{declared.verdict.{LineCode.TheVariants.{IdNotGreater, VariableRange, VariableTwice}, LineVerdict.{LineVerdict, TheVariants.{Accepted as AcceptedVerdict, Refused}}}, Held.{Entry, CheckerValue}}
use Rattle.proof_rules.specs.{Judging.{is_foreign, led_to, redundant_verdict, has_variable_twice, led_verdict, verdict_of}, Accepting.{Group, leading, groups_of, is_answered, IsNew, Implied, Redundant}}
use Rattle.proof_rules.proofs.{Hints.{Led, conflicts, leads_to_conflict, leads, led_by}, Groups.{AreRight, right, no_fault}, Sound.none_any}

-- ---- tests of lists

abbrev Apart : LitValue → LitValue → Type 0
Apart l other = l.var ≢ other.var

once_each : (ls : List LitValue) → has_variable_twice ls ≡ false → AllPairs Apart ls
once_each [] h = λ i j d a b. absurd (omega (arith, b))
once_each (l ∷ ls) h = grind (arith, none_any, once_each ls)

each_once : (ls : List LitValue) → AllPairs Apart ls → has_variable_twice ls ≡ false
each_once [] p = refl
each_once (l ∷ ls) p = grind (arith, pairs_head Apart l ls p, or_from, list_any_none, ne_eqb, pairs_tail, each_once ls (pairs_tail Apart l ls p))

pub variable_own : (vars : ℕ) (l : LitValue) → IsAbout vars l → is_foreign vars l ≡ false
variable_own vars l a = or_from (l.var == 0) (nat_lt vars l.var) (ne_eqb l.var 0 (λ e. let s = a.some in absurd (omega (arith, s, e)))) (le-ltb vars l.var a.within)

-- ---- the checks in front of the hints

checks : Bool → Bool → Bool → LineVerdict → LineVerdict
checks a b c v = if a then Refused IdNotGreater 0 else if b then Refused VariableRange 0 else if c then Refused VariableTwice 0 else v

pass_all : (i a b c : Bool) (v : LineVerdict) → a ≡ false → b ≡ false → c ≡ false → v ≡ AcceptedVerdict i → checks a b c v ≡ AcceptedVerdict i
unfolding checks
pass_all i a b c v ha hb hc hv = rw (ha, hb, hc) hv

is_new : (i : Bool) (c : CheckerValue) (line : ProofLineValue) → verdict_of c line ≡ AcceptedVerdict i → IsNew c line × (led_verdict c.held line ≡ AcceptedVerdict i)
unfolding checks
is_new i c line h = grind (arith, none_any, once_each)

new_is : (i : Bool) (c : CheckerValue) (line : ProofLineValue) → IsNew c line → led_verdict c.held line ≡ AcceptedVerdict i → verdict_of c line ≡ AcceptedVerdict i
unfolding checks
new_is i c line a v = grind (arith, pass_all, nat_le, lt-leb, list_any_none, variable_own, each_once)

-- ---- the hints

-- what the way without a conflict needs
record Stands (held : List Entry) (start : List LitValue) (groups : List Group) (lits : List LitValue) (i : Bool) : Type 0 where
  is : i ≡ false
  pivot : LitValue
  rest : List LitValue
  first : lits ≡ pivot ∷ rest
  rights : AreRight held pivot start [] groups
  each : All (λ entry. is_answered pivot start groups entry ≡ true) held

redundant_way : (held : List Entry) (start : List LitValue) (groups : List Group) (lits : List LitValue) (i : Bool) → redundant_verdict held start groups lits ≡ AcceptedVerdict i → Stands held start groups lits i
redundant_way held start groups [] i h = absurd (grind arith)
redundant_way held start groups (pivot ∷ rest) i h = grind (arith, common_steps, right)

pub implied_by : (c : CheckerValue) (line : ProofLineValue) → verdict_of c line ≡ AcceptedVerdict true → Implied c line
implied_by c line h = grind (arith, is_new true c line h, conflicts)

pub by_implied : (c : CheckerValue) (line : ProofLineValue) → Implied c line → verdict_of c line ≡ AcceptedVerdict true
by_implied c line m = grind (arith, new_is true c line m.new, leads_to_conflict c.held line.lits 0 (leading line.hints) m.conflict)

pub redundant_by : (c : CheckerValue) (line : ProofLineValue) → verdict_of c line ≡ AcceptedVerdict false → Redundant c line
redundant_by c line h =
    let n = is_new false c line h in
    go n.0 n.1 (led_to c.held line.lits 0 (leading line.hints)) refl
  where
    go : IsNew c line → led_verdict c.held line ≡ AcceptedVerdict false → (r : Led) → led_to c.held line.lits 0 (leading line.hints) ≡ r → Redundant c line
    go n v (Ok (Some start)) e = grind (arith, redundant_way c.held start (groups_of line.hints) line.lits false, leads c.held line.lits 0 (leading line.hints) start e)
    go n v r e = absurd (grind arith)

pub by_redundant : (c : CheckerValue) (line : ProofLineValue) → Redundant c line → verdict_of c line ≡ AcceptedVerdict false
by_redundant c line r = grind (arith, no_fault, list_all-from_AllPass, new_is, led_by)

pub implied_exactly : (c : CheckerValue) (line : ProofLineValue) → (verdict_of c line ≡ AcceptedVerdict true) ↔ Implied c line
implied_exactly c line = (implied_by c line, by_implied c line)

pub redundant_exactly : (c : CheckerValue) (line : ProofLineValue) → (verdict_of c line ≡ AcceptedVerdict false) ↔ Redundant c line
redundant_exactly c line = (redundant_by c line, by_redundant c line)
