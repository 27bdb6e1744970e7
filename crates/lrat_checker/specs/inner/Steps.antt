-- What the steps of the checker answer, and what the definitions say in their place.
use Rattle.std.specs.{Prelude.{◌≡◌, ◌==◌, ℕ, List, Option, None, Some, Result, Ok, Err}, List.list_any, BTreeSet.{BTreeSet, contains}, Ordering.nat_cmp}
use Rattle.cnf_formula.specs.Literals.{LitValue}
use Rattle.lrat_checker.specs.declared.leading.Led.{Led, TheVariants.{Conflict, Open, Fault as Faulty}}
use Rattle.proof_rules.specs.{Judging.Fault, Accepting.Group}

-- where hints led, when these literals are false at their end
abbrev pub led_as : Led → List LitValue → Result (Option (List LitValue)) Fault
led_as Conflict falses = Ok None
led_as Open falses = Ok (Some falses)
led_as (Faulty code hint) falses = Err (code, hint)

-- the set has the numbers of these groups
abbrev pub Names : BTreeSet ℕ → List Group → Type 0
Names named groups = (id : ℕ) → contains nat_cmp named id ≡ list_any (λ group. group.named == id) groups

-- the set has these numbers
abbrev pub Same : BTreeSet ℕ → List ℕ → Type 0
Same named earlier = (id : ℕ) → contains nat_cmp named id ≡ list_any (λ other. other == id) earlier
