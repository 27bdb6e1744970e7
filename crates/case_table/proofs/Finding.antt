-- What a search through a list finds.
use Rattle.std.proofs.Common.{◌≡◌, suc, zero, Bool, true, false, cond, not, ◌&&◌, List, [], ◌∷◌, map, refl, sym, ap, ◌∙◌, arith, Option, Some, None, All, Contains, MatchOption, find, Decides}
use Rattle.std.{specs.List.list_any, proofs.lemmas.{List.Elements.All-cons, Bool.{or_right, or_left, false≢true}}}
use Rattle.list_laws.proofs.Members.{Contains-cons}
use Rattle.case_table.specs.Rows.{all_differ}

-- what is said of the answer of a search
abbrev pub Found : {X : Type 0} → (X → Bool) → List X → Option X → Type 0
Found p xs r = MatchOption r (All (λ x. p x ≡ false) xs) (λ x. Contains xs x × (p x ≡ true))

found_later : {X : Type 0} (p : X → Bool) (x : X) (xs : List X) (r : Option X) → p x ≡ false → Found p xs r → Found p (x ∷ xs) r
found_later p x xs None e h = All-cons (λ y. p y ≡ false) x xs e h
found_later p x xs (Some y) e h = (Contains-cons x xs y h.0, h.1)

found_here : {X : Type 0} (p : X → Bool) (x : X) (xs : List X) (b : Bool) → p x ≡ b → Found p xs (find p xs) → Found p (x ∷ xs) (cond b (Some x) (find p xs))
found_here p x xs true e h = ((0, omega arith, refl), e)
found_here p x xs false e h = found_later p x xs (find p xs) e h

pub find-Found : {X : Type 0} (p : X → Bool) (xs : List X) → Found p xs (find p xs)
find-Found p [] = λ k d l. absurd (omega arith)
find-Found p (x ∷ xs) = found_here p x xs (p x) refl (find-Found p xs)

-- an element whose key is that of another passes for it
any_from_Contains : {X K : Type 0} (p : K → Bool) (key : X → K) (xs : List X) (x : X) → Contains xs x → p (key x) ≡ true → list_any p (map key xs) ≡ true
any_from_Contains p key [] x (k, l, e) t = absurd (omega arith)
any_from_Contains p key (y ∷ ys) x (zero, l, e) t = or_left (p (key y)) _ (ap (λ z. p (key z)) e ∙ t)
any_from_Contains p key (y ∷ ys) x (suc k, l, e) t = or_right (p (key y)) _ (any_from_Contains p key ys x (k, omega arith, e) t)

-- the rest of a list of different keys
differ_rest : (a b : Bool) → (not a && b) ≡ true → (a ≡ false) × (b ≡ true)
differ_rest true b e = absurd (false≢true e)
differ_rest false b e = (refl, e)

-- where keys differ, a search for the key of an element finds the element
pub find-only : {X K : Type 0} (same : K → K → Bool) (exact : (a b : K) → Decides (same a b) (a ≡ b)) (key : X → K) (xs : List X) (x : X) → all_differ same (map key xs) ≡ true → Contains xs x → find (λ y. same (key y) (key x)) xs ≡ Some x
find-only same exact key [] x d (k, l, e) = absurd (omega arith)
find-only same exact key (y ∷ ys) x d (zero, l, e) =
    rw e (rw ((exact (key x) (key x)).1 refl) refl)
find-only same exact key (y ∷ ys) x d (suc k, l, e) =
    let rest = differ_rest _ _ d in
    let here : same (key y) (key x) ≡ false = elim (same (key y) (key x)) as (λ b. same (key y) (key x) ≡ b → b ≡ false) [ true ↦ (λ t. absurd (false≢true (sym rest.0 ∙ any_from_Contains (same (key y)) key ys x (k, omega arith, e) t))) | false ↦ (λ _. refl) ] refl in
    rw here (find-only same exact key ys x rest.1 (k, omega arith, e))
