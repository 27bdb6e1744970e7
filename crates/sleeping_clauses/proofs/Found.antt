-- A clause that sleeps and whose literals all stand in another is found in the list of one of them.
use Rattle.std.proofs.Common.{◌≡◌, ℕ, ◌+◌, ◌<◌, Bool, true, false, List, [], ◌∷◌, ◌++◌, zero, suc, length, get_or, set, take, sym, ap, ◌∙◌, subst, ⊎_elim, arith, Contains, Option, None, Some, MatchOption}
use Rattle.std.proofs.lemmas.{Bool.cases_eq, List.{get_or-set_same, get_or-set_other, length-set, take_more, Elements.Contains-push_cases}}
use Rattle.cnf_formula.specs.Literals.{LitValue, code_of}
use Rattle.sleeping_clauses.specs.{declared.sleepers.Led.Led, Sleeping.{HasMark, IsCover, list_at, AreStored}}

-- what an option answers, said otherwise
pub match_as : {X A B : Type 0} {P Q : X → Type 0} (r : Option X) → MatchOption r A P → (A → B) → ((x : X) → P x → Q x) → MatchOption r B Q
match_as None m a p = a m
match_as (Some x) m a p = p x m

-- one literal more has the mark
pub marked_more : (marks : List ℕ) (stamp : ℕ) (lits : List LitValue) (k : ℕ) (x : LitValue) → k < length lits → x ≡ get_or lits k x → code_of x < length marks → ((o : LitValue) → Contains (take k lits) o → HasMark marks stamp o)
    → (o : LitValue) → Contains (take (k + 1) lits) o → HasMark (set marks (code_of x) stamp) stamp o
marked_more marks stamp lits k x w is room old o c =
    let t : take (k + 1) lits ≡ take k lits ++ x ∷ [] = take_more lits k x w ∙ ap (λ y. take k lits ++ y ∷ []) (sym is) in
    let len = length-set marks (code_of x) stamp in
    let here : HasMark (set marks (code_of x) stamp) stamp x = record { within = omega (arith, room, len); is = get_or-set_same marks (code_of x) stamp 0 room } in
    ⊎_elim
    (λ d. let h = old o d in ⊎_elim
    (λ e. record { within = omega (arith, h.within, len); is = ap (λ n. get_or (set marks (code_of x) stamp) n 0) e ∙ here.is })
    (λ n. record { within = omega (arith, h.within, len); is = get_or-set_other marks (code_of x) (code_of o) stamp 0 n ∙ h.is })
    (cases_eq (code_of o) (code_of x)))
    (λ e. subst (HasMark (set marks (code_of x) stamp) stamp) e here)
    (Contains-push_cases (take k lits) x o (subst (λ xs. Contains xs o) t c))

-- a property that no entry of a list has so far, and not the next
pub none_more : {X : Type 0} (P : X → Type 0) (xs : List X) (k : ℕ) (x : X) → k < length xs → x ≡ get_or xs k x → ((y : X) → Contains (take k xs) y → P y → ⊥) → (P x → ⊥) → (y : X) → Contains (take (k + 1) xs) y → P y → ⊥
none_more P xs k x w is old new y c p =
    let t : take (k + 1) xs ≡ take k xs ++ x ∷ [] = take_more xs k x w ∙ ap (λ z. take k xs ++ z ∷ []) (sym is) in
    ⊎_elim (λ d. old y d p) (λ e. new (subst P (sym e) p)) (Contains-push_cases (take k xs) x y (subst (λ ys. Contains ys y) t c))

-- ---- lists that grow

pub grown : (ls : List (List Led)) (k : ℕ) (new : List Led) → k < length ls → ((x : Led) → Contains (list_at ls k) x → Contains new x) → (code : ℕ) (x : Led) → Contains (list_at ls code) x → Contains (list_at (set ls k new) code) x
grown ls k new w more code x h =
    ⊎_elim (λ e. subst (λ xs. Contains xs x) (sym (ap (λ j. get_or (set ls k new) j []) e ∙ get_or-set_same ls k new [] w)) (more x (subst (λ j. Contains (list_at ls j) x) e h)))
    (λ a. subst (λ xs. Contains xs x) (sym (get_or-set_other ls k code new [] a)) h)
    (cases_eq code k)

pub longer : (ls : List (List Led)) (new : List Led) (code : ℕ) (x : Led) → Contains (list_at ls code) x → Contains (list_at (ls ++ new ∷ []) code) x
longer [] new code x h = absurd (omega (arith, h.1))
longer (l ∷ ls) new zero x h = h
longer (l ∷ ls) new (suc code) x h = longer ls new code x h

-- ---- what is not found is not there

pub none_found : (vars : ℕ) (clauses : List (List LitValue)) (numbers : List ℕ) (asleep : List Bool) (count : ℕ) (leads : List (List Led)) (old marks : List ℕ) (stamp : ℕ) (lits : List LitValue) → AreStored vars clauses numbers asleep count leads old → ((o : LitValue) → Contains lits o → HasMark marks stamp o)
    → ((o : LitValue) (led : Led) → Contains lits o → Contains (list_at leads (code_of o)) led → IsCover clauses asleep marks stamp led → ⊥)
    → (place : ℕ) → place < length clauses → get_or asleep place false ≡ true → ((o : LitValue) → Contains (get_or clauses place []) o → Contains lits o) → ⊥
none_found vars clauses numbers asleep count leads old marks stamp lits s marked none place w t sub =
    let l = s.led place w in
    let at = l.at in
    none l.lit l.led (sub l.lit l.stands) l.listed (record {
      within = omega (arith, w, at);
      sleeps = ap (λ k. get_or asleep k false) at ∙ t;
      second = marked l.led.second (sub l.led.second l.second);
      third = marked l.led.third (sub l.led.third l.third);
      each = λ o c. marked o (sub o (subst (λ k. Contains (get_or clauses k []) o) at c));
    })
