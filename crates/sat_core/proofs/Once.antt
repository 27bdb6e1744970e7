-- A trail that has each variable once is consistent.
use Rattle.std.proofs.{Common.{◌≡◌, Bool, true, false, List, sym, ⊎_elim, ◌≢◌, AllPairs, not, arith}, lemmas.{Bool.{false≢true, cases_order}, List.get_or_default}}
use Rattle.cnf_formula.specs.Literals.{LitValue, negation}
use Rattle.trail_core.specs.Assigned.{IsConsistent}

abbrev pub Apart : LitValue → LitValue → Type 0
Apart a b = a.var ≢ b.var

differ : (b : Bool) → b ≡ not b → ⊥
differ true e = false≢true (sym e)
differ false e = false≢true e

pub consistent_by : (trues : List LitValue) → AllPairs Apart trues → IsConsistent trues
consistent_by trues a l p q = grind (arith, cases_order p.0 q.0, get_or_default trues q.0 l (negation l) q.1, a p.0 q.0 l, a q.0 p.0 l, differ l.positive, ⊎_elim)
