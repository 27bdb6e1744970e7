-- Clauses of a formula, each literal once, make a core that is ready.
use Rattle.std.proofs.Common.{◌≡◌, ℕ, ◌+◌, ◌*◌, ◌<◌, ◌≤◌, List, [], ◌∷◌, ◌++◌, length, get_or, take, set, eqb, refl, sym, ap, ◌∙◌, subst, inl, ⊎_elim, arith, ◌≢◌, Contains, Some, All, AllPairs, flat_map}
use Rattle.std.proofs.lemmas.{Bool.{cases_Bool, eqb-true, eqb-false}, List.{Quantifiers.all_pairs_push, length_push, get_or_default, take_more, get_or-set_same, get_or-set_other, set-get_or}}
use Rattle.std.proofs.lemmas.List.FromFn.{length-enumerate_from, get_or-enumerate_from, length-range_with_len, get_or-range_with_len}
use Rattle.std.{proofs.lemmas.List.Elements.{Contains-push, Contains-push_cases, Contains-append_left, Contains-append_right, Contains-get_or, All-push, All-nil, All-cons, All-contains}, specs.List.{enumerate_from, range_with_len}}
use Rattle.list_laws.proofs.Each.{all_contained}
use Rattle.cnf_formula.{specs.{Literals.{LitValue, IsLit, code_of}, Formulas.{FormulaValue, IsAbout, IsClause}}, proofs.Codes.{same_code, code_within}}
use Rattle.proof_rules.{specs.Held.{Entry, clause_at}, proofs.Numbered.start_numbered}
use Rattle.trail_core.specs.Meaning.{CoreValue}
use Rattle.sat_core.{specs.{inner.{Holding.{IsSame, AreHeld}, Loading.{own_of, IsLoaded}}, Ready.IsReady}, proofs.Members.both_more}
use Rattle.sleeping_clauses.specs.{Naming.IsListed, Sleeping.no_sleepers, declared.awake.Awake.Awake}

-- ---- a clause with each literal once

-- the literals that were kept are those that were passed, each once, and exactly their numbers have the mark, which is the highest
pub record IsKeeping (passed kept : List LitValue) (marks : List ℕ) (mark : ℕ) : Type 0 where
  pub into : (l : LitValue) → Contains passed l → Contains kept l
  pub from : (l : LitValue) → Contains kept l → Contains passed l
  pub marked : (l : LitValue) → Contains kept l → get_or marks (code_of l) 0 ≡ mark
  pub known : (l : LitValue) → get_or marks (code_of l) 0 ≡ mark → Contains kept l
  pub below : (k : ℕ) → get_or marks k 0 ≤ mark
  pub once : AllPairs (λ a b. a ≢ b) kept
  pub lits : All IsLit kept

pub next_taken : (lits : List LitValue) (k : ℕ) (l : LitValue) → k < length lits → l ≡ get_or lits k l → take (k + 1) lits ≡ take k lits ++ l ∷ []
next_taken lits k l w is = take_more lits k l w ∙ ap (λ y. take k lits ++ y ∷ []) (sym is)

-- a literal that has the mark is passed by
pub keeping_old : (lits kept : List LitValue) (marks marks' : List ℕ) (mark k : ℕ) (l : LitValue) → IsKeeping (take k lits) kept marks mark → k < length lits → l ≡ get_or lits k l → marks' ≡ set marks (code_of l) mark → get_or marks (code_of l) 0 ≡ mark → IsKeeping (take (k + 1) lits) kept marks' mark
keeping_old lits kept marks marks' mark k l p w is ms e =
    let same : marks' ≡ marks = ms ∙ ap (set marks (code_of l)) (sym e) ∙ set-get_or marks (code_of l) 0 in
    rw same (rw (next_taken lits k l w is) (record {
      into = λ o c. ⊎_elim (λ d. p.into o d) (λ i. subst (Contains kept) i (p.known l e)) (Contains-push_cases (take k lits) l o c);
      from = λ o c. Contains-append_left (take k lits) (l ∷ []) o (p.from o c);
      marked = p.marked;
      known = p.known;
      below = p.below;
      once = p.once;
      lits = p.lits;
    }))

-- a mark more leaves none above it
pub marks_below : (marks : List ℕ) (place mark : ℕ) → place < length marks → ((k : ℕ) → get_or marks k 0 ≤ mark) → (k : ℕ) → get_or (set marks place mark) k 0 ≤ mark
marks_below marks place mark w b k = grind (arith, ⊎_elim, eqb-true, get_or-set_same, get_or-set_other, eqb-false, cases_Bool)

-- another is kept, and its number marked
pub keeping_new : (lits kept kept' : List LitValue) (marks marks' : List ℕ) (mark k : ℕ) (l : LitValue) → IsKeeping (take k lits) kept marks mark → k < length lits → l ≡ get_or lits k l → marks' ≡ set marks (code_of l) mark → get_or marks (code_of l) 0 ≢ mark → code_of l < length marks → IsLit l → kept' ≡ kept ++ l ∷ [] → IsKeeping (take (k + 1) lits) kept' marks' mark
keeping_new lits kept kept' marks marks' mark k l p w is ms new room lit ks =
    rw ms (rw ks (rw (next_taken lits k l w is) (record {
      into = λ o c. ⊎_elim (λ d. Contains-append_left kept (l ∷ []) o (p.into o d)) (λ i. subst (Contains (kept ++ l ∷ [])) i (Contains-push kept l)) (Contains-push_cases (take k lits) l o c);
      from = λ o c. ⊎_elim (λ d. Contains-append_left (take k lits) (l ∷ []) o (p.from o d)) (λ i. subst (Contains (take k lits ++ l ∷ [])) i (Contains-push (take k lits) l)) (Contains-push_cases kept l o c);
      marked = λ o c. ⊎_elim
          (λ d. let e = p.marked o d in get_or-set_other marks (code_of l) (code_of o) mark 0 (λ i. new (ap (λ n. get_or marks n 0) (sym i) ∙ e)) ∙ e)
          (λ i. subst (λ x. get_or (set marks (code_of l) mark) (code_of x) 0 ≡ mark) i (get_or-set_same marks (code_of l) mark 0 room))
          (Contains-push_cases kept l o c);
      known = λ o e. ⊎_elim
          (λ b. subst (Contains (kept ++ l ∷ [])) (same_code l o (sym (eqb-true (code_of o) (code_of l) b))) (Contains-push kept l))
          (λ b. Contains-append_left kept (l ∷ []) o (p.known o (sym (get_or-set_other marks (code_of l) (code_of o) mark 0 (eqb-false (code_of o) (code_of l) b)) ∙ e)))
          (cases_Bool (eqb (code_of o) (code_of l)));
      below = marks_below marks (code_of l) mark room p.below;
      once = all_pairs_push (λ a b. a ≢ b) kept l p.once (λ i d w e. new (p.marked l (subst (Contains kept) e (Contains-get_or kept i d w))));
      lits = All-push IsLit kept l p.lits lit;
    })))

-- ---- its literals are about the variables of the core

pub about_own : (vars own : ℕ) (clause : List LitValue) → own ≡ own_of vars → IsClause vars clause → (l : LitValue) → IsLit l → Contains clause l → IsAbout own l
about_own vars own clause e a l i c =
    let about = All-contains (IsAbout vars) clause l a c in
    record { some = about.some; within = omega (arith, e, about.within, i.small) }

pub kept_about : (own : ℕ) (clause kept : List LitValue) → ((l : LitValue) → IsLit l → Contains clause l → IsAbout own l) → IsSame clause kept → All IsLit kept → IsClause own kept
kept_about own clause kept a s i = all_contained (IsAbout own) kept (λ l c. a l (All-contains IsLit kept l i c) (s.from l c))

each_joined : {X : Type 0} (P : X → Type 0) (xss : List (List X)) → All P (flat_map (λ xs. xs) xss) → All (All P) xss
each_joined P [] a = All-nil (All P)
each_joined P (xs ∷ xss) a =
    let rest = flat_map (λ ys. ys) xss in
    All-cons (All P) xs xss (all_contained P xs (λ x c. All-contains P (xs ++ rest) x a (Contains-append_left xs rest x c)))
    (each_joined P xss (all_contained P rest (λ x c. All-contains P (xs ++ rest) x a (Contains-append_right xs rest x c))))

pub clauses_own : (vars own : ℕ) (clauses : List (List LitValue)) → own ≡ own_of vars → All (IsClause vars) clauses → All IsLit (flat_map (λ clause. clause) clauses) → All (IsClause own) clauses
clauses_own vars own clauses e a i k d w =
    let clause = get_or clauses k d in
    all_contained (IsAbout own) clause (λ l c. about_own vars own clause e (a k d w) l (All-contains IsLit clause l (each_joined IsLit clauses i k d w) c) c)

-- a table that has a place for each literal of the variables has one for those of a clause
pub codes_within : (own : ℕ) (clauses : List (List LitValue)) (k : ℕ) (clause : List LitValue) (n : ℕ) → All (IsClause own) clauses → k < length clauses → clause ≡ get_or clauses k [] → n ≡ 2 * own + 2 → (l : LitValue) → IsLit l → Contains clause l → code_of l < n
codes_within own clauses k clause n a w e len l i c =
    omega (arith, code_within own l (All-contains (IsAbout own) (get_or clauses k []) l (a k [] w) (subst (λ xs. Contains xs l) e c)), len)

-- ---- the clauses, each literal of them once

pub loaded_more : (clauses : List (List LitValue)) (k : ℕ) (loaded loaded' : List (List LitValue)) (kept : List LitValue) → IsLoaded (take k clauses) loaded → k < length clauses → IsSame (get_or clauses k []) kept → loaded' ≡ loaded ++ kept ∷ [] → IsLoaded (take (k + 1) clauses) loaded'
loaded_more clauses k loaded loaded' kept l w s e =
    let more = take_more clauses k [] w in
    record {
      count = omega (arith, ap length e, length_push loaded kept, ap length more, length_push (take k clauses) (get_or clauses k []), l.count);
      same = both_more (λ a b. IsSame b a) (λ i. i) loaded loaded' (take k clauses) (take (k + 1) clauses) kept [] (get_or clauses k []) [] e more (λ i v. omega (arith, v, l.count)) (sym l.count) l.same s;
    }

-- ---- the search is ready

-- the table of the formula's clauses: they are held under the numbers that they have in the core
pub record IsNumbered (core : CoreValue) (awake : Awake) : Type 0 where
  pub listed : IsListed core.clauses awake
  pub names : (k : ℕ) → k < length core.clauses → get_or awake.names.items (k + 1) 0 ≡ k + 1

pub numbered_from : (core : CoreValue) (awake : Awake) (n : ℕ) → n ≡ length core.clauses → awake.ids.items ≡ range_with_len 0 n → awake.names.items ≡ range_with_len 0 (n + 1) → All (AllPairs (λ a b. a ≢ b)) core.clauses → IsNumbered core awake
numbered_from core awake n e ids names once = grind (arith, length-range_with_len, get_or-range_with_len)

-- each clause is held under its number
pub loaded_held : (clauses : List (List LitValue)) (core : CoreValue) (awake : Awake) (vars : ℕ) → IsLoaded clauses core.clauses → IsNumbered core awake → AreHeld (enumerate_from 1 clauses) awake.names.items core.clauses (no_sleepers vars)
loaded_held clauses core awake vars l n = record {
  named = λ id w.
      let v : id < length clauses = omega (arith, w, l.count) in
      let d : Entry = (0, []) in
      let at : get_or (enumerate_from 1 clauses) id d ≡ (1 + id, get_or clauses id []) = get_or-enumerate_from 1 clauses id d v in
      let found = (start_numbered clauses).found id d (omega (arith, v, length-enumerate_from 1 clauses)) in
      let here : clause_at (enumerate_from 1 clauses) (1 + id) ≡ Some (get_or clauses id []) = subst (λ e. clause_at (enumerate_from 1 clauses) e.0 ≡ Some (e.1)) at found in
      let turned : 1 + id ≡ get_or awake.names.items (id + 1) 0 = omega (arith, n.names id w) in
      (get_or clauses id [], subst (λ n. clause_at (enumerate_from 1 clauses) n ≡ Some (get_or clauses id [])) turned here, l.same id v);
  asleep = λ place w. absurd (omega (arith, w));
  only = λ entry c.
      let v : c.0 < length clauses = omega (arith, c.1, length-enumerate_from 1 clauses) in
      let at : (1 + c.0, get_or clauses c.0 entry.1) ≡ entry = sym (get_or-enumerate_from 1 clauses c.0 entry v) ∙ c.2 in
      let is : get_or clauses c.0 [] ≡ entry.1 = get_or_default clauses c.0 [] entry.1 v ∙ ap (λ e. e.1) at in
      (get_or core.clauses c.0 [], inl (Contains-get_or core.clauses c.0 [] (omega (arith, v, l.count))), subst (λ x. IsSame x (get_or core.clauses c.0 [])) is (l.same c.0 v));
}

pub ready_loaded : (base : FormulaValue) (core : CoreValue) (awake : Awake) (own : ℕ) → IsLoaded base.clauses core.clauses → IsNumbered core awake → awake.formula ≡ length base.clauses → awake.held ≡ length base.clauses → core.vars ≤ base.vars → IsReady base [] core awake (no_sleepers own)
ready_loaded base core awake own l n formula held vars =
    let b = (start_numbered base.clauses).below in
    record {
      holding = record {
        agree = record { vars = vars; held = loaded_held base.clauses core awake own l n };
        formula = refl;
        below = λ k d w. let n = b k d w in omega (arith, n, held);
        greatest = omega arith;
        many = omega (arith, held);
        own = formula;
        within = omega (arith, l.count);
        first = l.same;
      };
      written = record { implied = tt; numbered = λ k d w. absurd (omega (arith, w)); short = All-nil (λ line. length line.hints ≤ base.vars + 1) };
      fresh = tt;
      count = omega (arith, held);
    }
