-- Faults that are handed on, and what an answer leaves of a file system.
use Rattle.std.proofs.Common.{arith, ◌≡◌, ◌∙◌, sym, ap, ℕ, List, Result, Ok, Err}
use Rattle.std.specs.Result.{IsErrAnd}
use Rattle.outer_ports.specs.{Port.HasCause, Disks.{Disk, MakesFile, Renames}, inner.Keeping.{IsNeither, IsOther, IsOwn, Spares}}

pub err_is : {T E : Type 0} (r : Result T E) (e : E) → IsErrAnd r (λ x. x ≡ e) → r ≡ Err e
err_is (Ok x) e h = absurd h
err_is (Err x) e h = ap (λ y. Err y) h

-- every answer but the fault leaves the count
pub unmoved : {T E : Type 0} (fault : E) (before now : ℕ) (r : Result T E) → now ≡ before → (r ≡ Err fault → ⊥) → HasCause fault before now r
unmoved fault before now r same never = record { later = omega (arith, same); rose = λ is. absurd (never is); stays = λ _. same }

-- the same fault under another name
pub handed_on : {T U E F : Type 0} (fault : E) (given : F) (before mid now : ℕ) (r : Result T E) (s : Result U F) → mid ≡ before → r ≡ Err fault → s ≡ Err given → HasCause fault mid now r → HasCause given before now s
handed_on fault given before mid now r s kept failed same cause = record { later = omega (arith, kept, cause.later); rose = λ _. rw (← kept) (cause.rose failed); stays = λ other. absurd (other same) }

pub spares_all : (spared : List ℕ → Type 0) (before now : Disk) → now ≡ before → Spares spared before now
spares_all spared before now same = record { number = λ path _. ap (λ d. d.number path) same; bytes = λ path _. grind (arith, same); own = λ path n _ own. rw same own }

pub made_own : (path : List ℕ) (n : ℕ) (before now : Disk) → MakesFile path n before now → IsOwn now path n
made_own path n before now made = record { here = made.here; alone = λ other apart is. made.fresh other (sym (made.names other apart) ∙ is) }

pub made_spares : (path : List ℕ) (n : ℕ) (before now : Disk) → MakesFile path n before now → Spares (IsOther path) before now
made_spares path n before now made = grind arith

-- the file that was made under one path has the other as its only name
pub renamed_own : (fresh path : List ℕ) (n : ℕ) (mid now : Disk) → IsOwn mid fresh n → Renames fresh path mid now → IsOwn now path n
renamed_own fresh path n mid now own renames = grind arith

pub renamed_spares : (fresh path : List ℕ) (before mid now : Disk) → Spares (IsOther fresh) before mid → Renames fresh path mid now → Spares (IsNeither fresh path) before now
renamed_spares fresh path before mid now spares renames = grind arith
