-- A literal that is met is marked.
use Rattle.std.proofs.{lemmas.{Bool.Decides.nat_tests, Grind.common_steps}, Common.{◌≡◌, ℕ, ◌+◌, ◌<◌, ◌≤◌, List, [], ◌∷◌, ◌++◌, length, get_or, set, take, refl, sym, ap, ◌∙◌, subst, inl, inr, ⊎_elim, arith, ◌≢◌, ◌⊎◌, ◌↔◌, Contains, nat_le}}
use Rattle.std.proofs.lemmas.{List.{Sums.count_by-le-length, Quantifiers.all_pairs_push, get_or-set_same, get_or-set_other, get_or-map, get_or_default, length-set, take_more, take_all, get_or-take, length-take-le, take-map}, Bool.{cases_eq, cases_order}}
use Rattle.std.proofs.lemmas.List.Elements.{Contains-push, Contains-push_cases, Contains-append_left, Contains-get_or, All-contains}
use Rattle.cnf_formula.specs.{Literals.{LitValue, negation}, Formulas.IsAbout}
use Rattle.trail_core.{specs.{Assigned.{IsFalse, level_at}, Trails.lits_of, Watching.no_lit, Meaning.{CoreValue, trues}, Formed.IsTrail}, proofs.Keeping.{lits_length, negated_twice}}
use Rattle.conflict_analysis.{specs.{Met.{WalkValue, lit_at, no_step, IsSeen, AreMarks, AreKept, AreNoted, IsSorted, HasMet, waiting}, PlaceSets.HasPlace}, proofs.{Members.{here, only}, Counted.{waits_more, waits_same}}}

-- ---- the literal at a place of the trail

pub lit_read : (core : CoreValue) (k : ℕ) (d : LitValue) → k < length core.trail → get_or (trues core) k d ≡ lit_at core k
lit_read core k d w = get_or-map (λ s. s.lit) core.trail k no_step d w

pub lit_stands : (core : CoreValue) (k : ℕ) → k < length core.trail → Contains (trues core) (lit_at core k)
lit_stands core k w = (k, omega (arith, w, lits_length core.trail), lit_read core k (lit_at core k) w)

pub lit_about : (core : CoreValue) (k : ℕ) → IsTrail core.vars core.trail core.limits → k < length core.trail → IsAbout core.vars (lit_at core k)
lit_about core k t w = All-contains (IsAbout core.vars) (trues core) (lit_at core k) t.within (lit_stands core k w)

pub same_place : (core : CoreValue) (i j : ℕ) → IsTrail core.vars core.trail core.limits → i < length core.trail → j < length core.trail → (lit_at core i).var ≡ (lit_at core j).var → i ≡ j
same_place core i j t v w e = grind (arith, cases_order i j, t.apart i j no_lit, t.apart j i no_lit, lit_read core i no_lit v, lit_read core j no_lit w, lits_length core.trail)

-- where a false literal became so
pub record IsAt (core : CoreValue) (l : LitValue) (k : ℕ) : Type 0 where
  pub within : k < length core.trail
  pub is : lit_at core k ≡ negation l
  pub var : (lit_at core k).var ≡ l.var

pub false_at : (core : CoreValue) (l : LitValue) → IsFalse (trues core) l → (k : ℕ) × IsAt core l k
false_at core l c =
    let w : c.0 < length core.trail = omega (arith, c.1, lits_length core.trail) in
    let e : lit_at core c.0 ≡ negation l = sym (lit_read core c.0 (negation l) w) ∙ c.2 in
    (c.0, record { within = w; is = e; var = ap (λ x. x.var) e })

-- and where it did so, if it is false before a place
pub false_before : (core : CoreValue) (l : LitValue) (k : ℕ) → k ≤ length core.trail → IsFalse (lits_of (take k core.trail)) l → (j : ℕ) × (j < k) × IsAt core l j
false_before core l k le c =
    let lt : c.0 < k = let n = lits_length (take k core.trail) ∙ length-take-le k core.trail le in omega (arith, c.1, n) in
    let e : lit_at core c.0 ≡ negation l = sym (lit_read core c.0 (negation l) (omega (arith, lt, le))) ∙ sym (get_or-take k (trues core) c.0 (negation l) lt) ∙ ap (λ xs. get_or xs c.0 (negation l)) (take-map (λ s. s.lit) k core.trail) ∙ c.2 in
    (c.0, lt, record { within = omega (arith, lt, le); is = e; var = ap (λ x. x.var) e })

pub at_false : (core : CoreValue) (l : LitValue) (k : ℕ) → IsAt core l k → IsFalse (trues core) l
at_false core l k a = subst (λ x. Contains (trues core) x) a.is (lit_stands core k a.within)

-- two false literals of one variable are one
pub false_once : (core : CoreValue) (a b : LitValue) → IsTrail core.vars core.trail core.limits → IsFalse (trues core) a → IsFalse (trues core) b → a.var ≡ b.var → a ≡ b
false_once core a b t f g e =
    let i = false_at core a f in
    let j = false_at core b g in
    grind (arith, negated_twice a, negated_twice b, same_place core i.0 j.0 t i.1.within j.1.within)

-- ---- marks

-- the mark of the literal at one place is set
pub record IsMark (core : CoreValue) (k kind : ℕ) : Type 0 where
  pub within : k < length core.trail
  pub some : kind ≤ 3
  pub low : kind ≡ 0 → level_at core.limits k < length core.limits
  pub top : kind ≡ 1 → (level_at core.limits k ≡ length core.limits) × (0 < length core.limits)
  pub bottom : kind ≡ 3 → level_at core.limits k ≡ 0

pub mark_same : (core : CoreValue) (marks : List ℕ) (k y : ℕ) → IsTrail core.vars core.trail core.limits → length marks ≡ core.vars + 1 → k < length core.trail → get_or (set marks (lit_at core k).var y) (lit_at core k).var 0 ≡ y
mark_same core marks k y t len w = let a = lit_about core k t w in get_or-set_same marks (lit_at core k).var y 0 (omega (arith, a.within, len))

pub marked_set : (core : CoreValue) (stamp : ℕ) (marks : List ℕ) (k kind : ℕ) → IsTrail core.vars core.trail core.limits → AreMarks core stamp marks → IsMark core k kind → AreMarks core stamp (set marks (lit_at core k).var (stamp + kind))
marked_set core stamp marks k kind t m is = grind (arith, length-set, get_or-set_other, mark_same, same_place)

-- ---- places

-- a literal that is met, or was, and its place with it
pub noted_more : (core : CoreValue) (stamp : ℕ) (marks places places' : List ℕ) (k y : ℕ) → IsTrail core.vars core.trail core.limits → k < length core.trail → length marks ≡ core.vars + 1 → stamp ≤ y → AreNoted core stamp marks places → ((j : ℕ) → HasPlace places' j ↔ (HasPlace places j ⊎ (j ≡ k))) → AreNoted core stamp (set marks (lit_at core k).var y) places'
noted_more core stamp marks places places' k y t w len high n a = grind (arith, mark_same core marks k y t len w, get_or-set_other, same_place)

-- one that was met already
pub noted_same : (core : CoreValue) (stamp : ℕ) (marks places : List ℕ) (k y : ℕ) → IsTrail core.vars core.trail core.limits → k < length core.trail → length marks ≡ core.vars + 1 → stamp ≤ y → AreNoted core stamp marks places → stamp ≤ get_or marks (lit_at core k).var 0 → AreNoted core stamp (set marks (lit_at core k).var y) places
noted_same core stamp marks places k y t w len high n met = grind (arith, noted_more)

-- ---- what is kept

-- a mark of what is kept is no lower than the stamp
unmet : (stamp : ℕ) (marks : List ℕ) (v u : ℕ) → u ≡ v → get_or marks v 0 < stamp → ((get_or marks u 0 ≡ stamp) ⊎ (get_or marks u 0 ≡ stamp + 2)) → ⊥
unmet stamp marks v u e low h = grind (arith, ⊎_elim)

-- another's mark is as before
kept_other : (stamp : ℕ) (marks : List ℕ) (v u y : ℕ) → u ≢ v → ((get_or marks u 0 ≡ stamp) ⊎ (get_or marks u 0 ≡ stamp + 2)) → ((get_or (set marks v y) u 0 ≡ stamp) ⊎ (get_or (set marks v y) u 0 ≡ stamp + 2))
kept_other stamp marks v u y n h = grind (arith, get_or-set_other, ⊎_elim)

-- one whose step is resolved is kept no more, nor one of another kind that was not met
pub kept_set : (core : CoreValue) (stamp : ℕ) (marks : List ℕ) (lits : List LitValue) (v y : ℕ) → v < length marks → AreKept core stamp marks lits → y ≢ stamp → (y ≡ stamp + 2) ⊎ (get_or marks v 0 < stamp) → AreKept core stamp (set marks v y) lits
kept_set core stamp marks lits v y w k other how = record {
  of = λ o c. let h = k.of o c in grind (arith, h, how, cases_eq o.var v, get_or-set_same marks v y 0 w, get_or-set_other marks v o.var y 0, ⊎_elim);
  all = λ o f e. grind (arith, e, k.all o f, cases_eq o.var v, get_or-set_same marks v y 0 w, get_or-set_other marks v o.var y 0);
  once = k.once;
}

pub kept_more : (core : CoreValue) (stamp : ℕ) (marks : List ℕ) (lits : List LitValue) (l : LitValue) → IsTrail core.vars core.trail core.limits → l.var < length marks → AreKept core stamp marks lits → get_or marks l.var 0 < stamp → IsFalse (trues core) l → AreKept core stamp (set marks l.var stamp) (lits ++ l ∷ [])
kept_more core stamp marks lits l t w k low f = record {
  of = λ o c. ⊎_elim
      (λ d. let h = k.of o d in (kept_other stamp marks l.var o.var stamp (λ e. unmet stamp marks l.var o.var e low h.0) h.0, h.1))
      (λ e. rw (← e) (inl (get_or-set_same marks l.var stamp 0 w), f))
      (Contains-push_cases lits l o c);
  all = λ o g e. ⊎_elim
      (λ s. rw (← false_once core l o t f g (sym s)) (Contains-push lits l))
      (λ d. Contains-append_left lits (l ∷ []) o (k.all o g (sym (get_or-set_other marks l.var o.var stamp 0 d) ∙ e)))
      (cases_eq o.var l.var);
  once = all_pairs_push (λ a b. a.var ≢ b.var) lits l k.once (λ j d v e. unmet stamp marks l.var (get_or lits j d).var e low (k.of (get_or lits j d) (Contains-get_or lits j d v)).0);
}

-- ---- one literal is met

-- what is known of a literal that was not met before
pub record IsUnmet (core : CoreValue) (w : WalkValue) (l : LitValue) (k : ℕ) : Type 0 where
  pub formed : IsTrail core.vars core.trail core.limits
  pub sorted : IsSorted core w
  pub low : get_or w.marks l.var 0 < w.stamp
  pub at : IsAt core l k
  pub room : l.var < length w.marks

pub unmet_by : (core : CoreValue) (w : WalkValue) (l : LitValue) (var read : ℕ) → IsTrail core.vars core.trail core.limits → IsSorted core w → l.var ≤ core.vars → IsSeen w l ⊎ IsFalse (trues core) l → var ≡ l.var → read ≡ get_or w.marks var read → read < w.stamp → (k : ℕ) × IsUnmet core w l k
unmet_by core w l var read t s v h e r less = grind (arith, nat_tests, common_steps, ⊎_elim, false_at, get_or_default)

-- it is known where it stands
pub unmet_at : (core : CoreValue) (w : WalkValue) (l this : LitValue) (k place : ℕ) → IsUnmet core w l k → this ≡ negation l → place < length core.trail → get_or (trues core) place this ≡ this → IsUnmet core w l place
unmet_at core w l this k place u e within is = grind (arith, lit_read)

module _ (core : CoreValue) (w : WalkValue) (l : LitValue) (k : ℕ) (places : List ℕ) (u : IsUnmet core w l k) (added : (j : ℕ) → HasPlace places j ↔ (HasPlace w.met_places j ⊎ (j ≡ k))) where
  same_mark : (y : ℕ) → get_or (set w.marks l.var y) l.var 0 ≡ y
  same_mark y = get_or-set_same w.marks l.var y 0 u.room

  -- it is marked now
  met_new : (kind opens bottoms : ℕ) (lits : List LitValue) → IsMark core k kind → kind ≢ 2 → AreKept core w.stamp (set w.marks l.var (w.stamp + kind)) lits → opens ≡ waiting (w.stamp + 1) (set w.marks l.var (w.stamp + kind)) → bottoms ≡ waiting (w.stamp + 3) (set w.marks l.var (w.stamp + kind)) → w.open_ ≤ opens
      → HasMet core (l ∷ []) w (record w { marks = set w.marks l.var (w.stamp + kind); lits = lits; open_ = opens; zeros = bottoms; met_places = places })
  met_new kind opens bottoms lits is two kept open' zeros' more = record {
    sorted = record {
      marked = subst (λ x. AreMarks core w.stamp (set w.marks x (w.stamp + kind))) u.at.var (marked_set core w.stamp w.marks k kind u.formed u.sorted.marked is);
      kept = kept;
      noted = subst (λ x. AreNoted core w.stamp (set w.marks x (w.stamp + kind)) places) u.at.var (noted_more core w.stamp w.marks w.met_places places k (w.stamp + kind) u.formed u.at.within u.sorted.marked.len (omega arith) u.sorted.noted added);
      open_ = open';
      zeros = zeros';
    };
    stamp = refl;
    hints = refl;
    seen = λ o c. let e = ap (λ x. get_or (set w.marks l.var (w.stamp + kind)) x.var 0) (sym (only l o c)) in let m = same_mark (w.stamp + kind) in omega (arith, e, m);
    stays = λ v g. get_or-set_other w.marks l.var v (w.stamp + kind) 0 (λ e. let f = ap (λ x. get_or w.marks x 0) e in omega (arith, f, g, u.low));
    new = λ v g. ⊎_elim
        (λ e. inr (l, here l [], sym e, λ h. let f = ap (λ x. get_or (set w.marks l.var (w.stamp + kind)) x 0) e in let m = same_mark (w.stamp + kind) in two (omega (arith, f, h, m))))
        (λ n. inl (let f = get_or-set_other w.marks l.var v (w.stamp + kind) 0 n in omega (arith, g, f)))
        (cases_eq v l.var);
    more = more;
  }

  -- no other kind waits less
  others_wait : (kind y : ℕ) → y ≢ w.stamp + kind → waiting (w.stamp + kind) w.marks ≡ waiting (w.stamp + kind) (set w.marks l.var y)
  others_wait kind y other = sym (waits_same (w.stamp + kind) w.marks l.var y u.room (λ h. omega (arith, h, u.low)) other)

  one_more : (kind : ℕ) → waiting (w.stamp + kind) w.marks + 1 ≡ waiting (w.stamp + kind) (set w.marks l.var (w.stamp + kind))
  one_more kind = sym (waits_more (w.stamp + kind) w.marks l.var (w.stamp + kind) u.room (λ h. omega (arith, h, u.low)) refl)

  pub met_bottom : level_at core.limits k ≡ 0 → HasMet core (l ∷ []) w (record w { marks = set w.marks l.var (w.stamp + 3); zeros = w.zeros + 1; met_places = places })
  met_bottom zero =
      let kept = kept_set core w.stamp w.marks w.lits l.var (w.stamp + 3) u.room u.sorted.kept (λ h. omega (arith, h)) (inr u.low) in
      met_new 3 w.open_ (w.zeros + 1) w.lits (grind arith) (λ h. omega (arith, h)) kept (grind (arith, others_wait 1 (w.stamp + 3))) (grind (arith, one_more 3)) (omega arith)

  pub met_open : level_at core.limits k ≡ length core.limits → 0 < length core.limits → HasMet core (l ∷ []) w (record w { marks = set w.marks l.var (w.stamp + 1); open_ = w.open_ + 1; met_places = places })
  met_open top some =
      let kept = kept_set core w.stamp w.marks w.lits l.var (w.stamp + 1) u.room u.sorted.kept (λ h. omega (arith, h)) (inr u.low) in
      met_new 1 (w.open_ + 1) w.zeros w.lits (grind arith) (λ h. omega (arith, h)) kept (grind (arith, one_more 1)) (grind (arith, others_wait 3 (w.stamp + 1))) (omega arith)

  pub met_kept : level_at core.limits k < length core.limits → HasMet core (l ∷ []) w (record w { marks = set w.marks l.var (w.stamp + 0); lits = w.lits ++ l ∷ []; met_places = places })
  met_kept lower =
      let stamp : w.stamp ≡ w.stamp + 0 = omega arith in
      let kept = subst (λ n. AreKept core w.stamp (set w.marks l.var n) (w.lits ++ l ∷ [])) stamp (kept_more core w.stamp w.marks w.lits l u.formed u.room u.sorted.kept u.low (at_false core l k u.at)) in
      met_new 0 w.open_ w.zeros (w.lits ++ l ∷ []) (grind arith) (λ h. omega (arith, h)) kept (grind (arith, others_wait 1 (w.stamp + 0))) (grind (arith, others_wait 3 (w.stamp + 0))) (omega arith)

-- ---- and more of them

pub met_none : (core : CoreValue) (w : WalkValue) → IsSorted core w → HasMet core [] w w
met_none core w s = grind arith

pub met_more : (core : CoreValue) (xs : List LitValue) (x : LitValue) (a b c : WalkValue) → HasMet core xs a b → HasMet core (x ∷ []) b c → HasMet core (xs ++ x ∷ []) a c
met_more core xs x a b c p q = record {
  sorted = q.sorted;
  stamp = q.stamp ∙ p.stamp;
  hints = q.hints ∙ p.hints;
  seen = λ o h. grind (arith, p.seen o, p.stamp, q.stamp, q.stays o.var, q.seen o, here x [], Contains-push_cases xs x o h, ⊎_elim);
  stays = λ v g. grind (arith, p.stays v, q.stays v);
  new = λ v g. ⊎_elim
      (λ h.
      let k = q.stays v h in
      ⊎_elim (λ i. inl i) (λ n. inr (n.0, Contains-append_left xs (x ∷ []) n.0 n.1, n.2, λ e. n.3 (sym k ∙ e))) (p.new v (omega (arith, h, p.stamp))))
      (λ n. inr (n.0, subst (λ y. Contains (xs ++ x ∷ []) y) (only x n.0 n.1) (Contains-push xs x), n.2, λ e. n.3 (e ∙ ap (λ m. m + 2) (sym p.stamp))))
      (q.new v (omega (arith, g, p.stamp)));
  more = omega (arith, p.more, q.more);
}

-- ---- its level, as it is read

pub level_read : (core : CoreValue) (l neg : LitValue) (k level : ℕ) → IsAt core l k → neg ≡ negation l → ((j : ℕ) → j < length core.trail → get_or (trues core) j neg ≡ neg → level ≡ level_at core.limits j) → level ≡ level_at core.limits k
level_read core l neg k level a e h = h k a.within (lit_read core k neg a.within ∙ a.is ∙ sym e)

pub level_within : (core : CoreValue) (k : ℕ) → level_at core.limits k ≤ length core.limits
level_within core k = count_by-le-length (λ m. nat_le m k) core.limits

-- ---- a loop over a clause

-- the literal at a place of a clause that is read
pub read_stands : (clause xs : List LitValue) (k : ℕ) (x : LitValue) → xs ≡ clause → k < length xs → x ≡ get_or xs k x → Contains clause x
read_stands clause xs k x e w is = subst (λ ys. Contains ys x) e (k, w, sym is)

pub met_next : (core : CoreValue) (clause xs : List LitValue) (k : ℕ) (x : LitValue) (a b c : WalkValue) → xs ≡ clause → k < length xs → x ≡ get_or xs k x → HasMet core (take k clause) a b → HasMet core (x ∷ []) b c → HasMet core (take (k + 1) clause) a c
met_next core clause xs k x a b c e w is p q = grind (arith, take_more clause k x (omega (arith, w, ap length e)), met_more core (take k clause) x a b c p q)

pub met_still : (core : CoreValue) (ys : List LitValue) (a b : WalkValue) (o : LitValue) → HasMet core ys a b → IsSeen a o ⊎ IsFalse (trues core) o → IsSeen b o ⊎ IsFalse (trues core) o
met_still core ys a b o m h = ⊎_elim (λ s. inl (let k = m.stays o.var s in omega (arith, k, s, m.stamp))) (λ f. inr f) h

pub met_whole : (core : CoreValue) (clause xs : List LitValue) (k : ℕ) (a b : WalkValue) → xs ≡ clause → length xs ≤ k → HasMet core (take k clause) a b → HasMet core clause a b
met_whole core clause xs k a b e w m = subst (λ ys. HasMet core ys a b) (take_all k clause (omega (arith, w, ap length e))) m
