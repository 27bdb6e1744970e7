-- Hints in a row lead to a conflict, or to literals that are false, exactly where they are taken so.
use Rattle.std.{specs.List.list_all, proofs.Common.{arith, ◌≡◌, ℕ, ◌+◌, true, List, [], ◌∷◌, Option, Some, None, Result, Ok, ap, ◌∙◌}}
use Rattle.cnf_formula.specs.Literals.{LitValue, negation, same_literal}
use Rattle.proof_rules.specs.{declared.verdict.LineCode.{LineCode}, Held.{Entry, clause_at, open_literals}, Judging.{Fault, given_by, given_by_clause, led_to}}
use Rattle.proof_rules.{specs.Accepting.{Takes, Falsifies, LeadsTo, Conflicts}, proofs.Taking.{none_open, open_none, rest_is, first_open, gives_some, given_one, same_itself}}

-- ---- one hint

abbrev pub given : List Entry → List LitValue → ℕ → Result (Option LitValue) LineCode
given held falses id = given_by_clause falses (clause_at held id)

pub named : (held : List Entry) (falses : List LitValue) (id : ℕ) (o : Option LitValue) → given held falses id ≡ Ok o → (clause : List LitValue) × (clause_at held id ≡ Some clause) × (given_by (open_literals falses clause) ≡ Ok o)
named held falses id o h = grind arith

pub falsifies : (held : List Entry) (falses : List LitValue) (id : ℕ) → given held falses id ≡ Ok None → Falsifies held falses id
falsifies held falses id h = grind (arith, none_open falses)

pub given_none : (held : List Entry) (falses : List LitValue) (id : ℕ) → Falsifies held falses id → given held falses id ≡ Ok None
given_none held falses id f = ap (given_by_clause falses) f.names ∙ ap given_by (open_none falses f.clause f.each)

pub takes : (held : List Entry) (falses : List LitValue) (id : ℕ) (l : LitValue) → given held falses id ≡ Ok (Some l) → Takes held falses id l
takes held falses id l h =
    let n = named held falses id (Some l) h in
    let s = gives_some (open_literals falses n.0) l n.2 in
    let first = first_open falses n.0 l s.0 s.1 in
    let all : list_all (same_literal l) (open_literals falses n.0) ≡ true = grind (arith, same_itself l, s.1, s.2) in
    record { clause = n.0; names = n.1; stands = first.0; not_false = first.1; others = rest_is falses n.0 l all }

pub given_some : (held : List Entry) (falses : List LitValue) (id : ℕ) (l : LitValue) → Takes held falses id l → given held falses id ≡ Ok (Some l)
given_some held falses id l t = ap (given_by_clause falses) t.names ∙ given_one falses t.clause l t.stands t.not_false t.others

-- ---- all of them

abbrev pub Led : Type 0
Led = Result (Option (List LitValue)) Fault

pub conflicts : (held : List Entry) (falses : List LitValue) (place : ℕ) (ids : List ℕ) → led_to held falses place ids ≡ Ok None → Conflicts held falses ids
conflicts held falses place (id ∷ next ∷ ids) h = grind (arith, takes, λ (l : LitValue). conflicts held (negation l ∷ falses) (place + 1) (next ∷ ids))
conflicts held falses place ids h = grind (arith, falsifies)

pub leads_to_conflict : (held : List Entry) (falses : List LitValue) (place : ℕ) (ids : List ℕ) → Conflicts held falses ids → led_to held falses place ids ≡ Ok None
leads_to_conflict held falses place (id ∷ next ∷ ids) c = rw (given_some held falses id c.0 c.1, led_to) (leads_to_conflict held (negation c.0 ∷ falses) (place + 1) (next ∷ ids) c.2)
leads_to_conflict held falses place ids c = grind (arith, given_none)

pub leads : (held : List Entry) (falses : List LitValue) (place : ℕ) (ids : List ℕ) (last : List LitValue) → led_to held falses place ids ≡ Ok (Some last) → LeadsTo last held falses ids
leads held falses place [] last h = cc
leads held falses place (id ∷ ids) last h = grind (arith, takes, λ (l : LitValue). leads held (negation l ∷ falses) (place + 1) ids last)

pub led_by : (held : List Entry) (falses : List LitValue) (place : ℕ) (ids : List ℕ) (last : List LitValue) → LeadsTo last held falses ids → led_to held falses place ids ≡ Ok (Some last)
led_by held falses place [] last h = ap (λ ls. Ok (Some ls)) h
led_by held falses place (id ∷ ids) last h = rw (given_some held falses id h.0 h.1, led_to) (led_by held (negation h.0 ∷ falses) (place + 1) ids last h.2)
