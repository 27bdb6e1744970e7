-- Groups one after another.
use Rattle.std.{proofs.lemmas.{Bool.Decides.nat_tests, Grind.common_steps}, specs.{List.list_any, BTreeSet.{BTreeSet, contains}, Ordering.nat_cmp}}
use Rattle.std.proofs.Common.{◌≡◌, ℕ, ◌+◌, ◌<◌, Bool, false, List, [], ◌∷◌, length, drop, get_or, Option, None, arith, ◌==◌, ◌||◌, ℤ, pos, negsuc, is_some, w64, SFits, of_z, to_z}
use lib.IntN.{nat_abs}
use Rattle.cnf_formula.specs.Literals.{LitValue}
use Rattle.proof_rules.specs.{Held.{Entry, clause_at}, Judging.{group_fault, groups_fault}, Accepting.{Group, leading, hint_groups_from, groups_of}}
use Rattle.lrat_checker.specs.inner.Steps.{Same}

-- the groups before this place have no fault, and their clauses are in the set
pub record Left (held : List Entry) (pivot : LitValue) (start : List LitValue) (hints : List ℤ) (named : BTreeSet ℕ) (at : ℕ) : Type 0 where
  pub earlier : List ℕ
  pub same : Same named earlier
  pub fault : groups_fault held pivot start [] (groups_of hints) ≡ groups_fault held pivot start earlier (hint_groups_from at (drop at hints))
  pub names : (id : ℕ) → list_any (λ group. group.named == id) (groups_of hints) ≡ (list_any (λ other. other == id) earlier || list_any (λ group. group.named == id) (hint_groups_from at (drop at hints)))

module _ (held : List Entry) (pivot : LitValue) (start : List LitValue) (hints : List ℤ) where
  abbrev pub group_at : ℕ → ℕ → Group
  group_at at id = record { place = at; named = id; hints = leading (drop (at + 1) hints) }

  swap : (a b c : Bool) → (a || (b || c)) ≡ ((b || a) || c)
  swap a b c = grind arith

  pub passes : (named named' : BTreeSet ℕ) (at n next : ℕ) (l : Left held pivot start hints named at) → drop at hints ≡ negsuc n ∷ drop (at + 1) hints
      → group_fault held pivot start l.earlier (group_at at (n + 1)) (clause_at held (n + 1)) ≡ None → ((k : ℕ) → contains nat_cmp named' k ≡ (n + 1 == k || contains nat_cmp named k))
      → hint_groups_from (at + 1) (drop (at + 1) hints) ≡ hint_groups_from next (drop next hints) → Left held pivot start hints named' next
  passes named named' at n next l e f s g = grind arith

pub none_from : {A : Type 0} (o : Option A) → is_some o ≡ false → o ≡ None
none_from o e = grind (arith, nat_tests)

pub group_number : (hints : List ℤ) (at n id : ℕ) → at < length hints → SFits w64 (get_or hints at (pos 0)) → drop at hints ≡ negsuc n ∷ drop (at + 1) hints → id ≡ nat_abs (to_z w64 (of_z w64 (get_or hints at (pos 0)))) → id ≡ n + 1
group_number hints at n id w f e h = grind (arith, common_steps)
