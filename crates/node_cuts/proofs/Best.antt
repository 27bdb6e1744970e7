-- The best fraction so far is the first of the greatest.
use Rattle.std.proofs.Common.{◌≡◌, ◌*◌, ◌<◌, ◌≤◌, Bool, true, false, cond, List, [], ◌∷◌, ◌++◌, map, Some, None, append_assoc, refl, sym, ap, ◌∙◌, subst, arith, Option, find, filter, ◌==◌}
use Rattle.std.{specs.{List.{AllByRecursion, list_any}, Option.unwrap_or}, proofs.lemmas.List.{append-nil, map_push, Elements.{All-from_recursion, filter-append}, Folds.{list_any-append, list_any_none}}}
use Rattle.std.proofs.Math.Nat.{mul_right_comm, mul-le-mul_right, mul-lt-mul_of_pos_right, lt_of_mul-lt-mul_left, lt_of_mul-lt-mul_right, mul-pos}
use Rattle.std.proofs.lemmas.Bool.{cond_both, ltb-true, ltb-false, lt-ltb, le-ltb, eq-eqb, ne_eqb, not_from_true, not_from_false, or_left, or_right}
use Rattle.list_laws.proofs.Each.{each_middle}
use Rattle.schedule.proofs.First.{among_each, each_among, each_append, each_passes, each_weaker}
use Rattle.node_cuts.specs.{declared.floor.Floor.Floor, Floors.{has_need, exceeds, is_greatest, nothing_over_1, first_greatest, greater_of}}

-- what is no greater than the best so far is less than what is greater than that
pub above_all : (f b x : Floor) → 0 < f.above → 0 < b.above → 0 < x.above → exceeds f b ≡ true → exceeds x b ≡ false → exceeds f x ≡ true
above_all f b x fp bp xp greater no_greater =
    let first : b.above * f.below < f.above * b.below = ltb-true (b.above * f.below) (f.above * b.below) greater in
    let second : x.above * b.below ≤ b.above * x.below = ltb-false (b.above * x.below) (x.above * b.below) no_greater in
    let over : f.above * 0 < f.above * b.below = omega arith in
    let positive : 0 < x.above * b.below = mul-pos xp (lt_of_mul-lt-mul_left f.above over) in
    let over_too : b.above * 0 < b.above * x.below = omega arith in
    let one : x.above * b.below * f.below ≤ b.above * x.below * f.below = mul-le-mul_right f.below second in
    let two : b.above * f.below * x.below < f.above * b.below * x.below = mul-lt-mul_of_pos_right first (lt_of_mul-lt-mul_left b.above over_too) in
    let whole : x.above * f.below * b.below < f.above * x.below * b.below =
    omega (arith, mul_right_comm x.above f.below b.below, mul_right_comm b.above x.below f.below, mul_right_comm f.above b.below x.below) in
    lt-ltb (x.above * f.below) (f.above * x.below) (lt_of_mul-lt-mul_right b.below whole)

pub not_both : (f x : Floor) → exceeds f x ≡ true → exceeds x f ≡ false
not_both f x greater = le-ltb (f.above * x.below) (x.above * f.below) (omega (arith, ltb-true (x.above * f.below) (f.above * x.below) greater))

pub not_itself : (f : Floor) → exceeds f f ≡ false
not_itself f = le-ltb (f.above * f.below) (f.above * f.below) (omega arith)

-- ---- the first of the greatest

pub record IsFirst (fs : List Floor) (b : Floor) : Type 0 where
  pub before : List Floor
  pub after : List Floor
  pub whole : fs ≡ before ++ b ∷ after
  pub beaten : AllByRecursion (λ x. exceeds b x ≡ true) before
  pub greatest : AllByRecursion (λ x. exceeds x b ≡ false) fs

abbrev pub IsBest : List Floor → Option Floor → Type 0
IsBest fs None = fs ≡ []
IsBest fs (Some b) = IsFirst fs b

pub any_middle : {X : Type 0} (p : X → Bool) (xs : List X) (y : X) (ys : List X) → p y ≡ true → list_any p (xs ++ y ∷ ys) ≡ true
any_middle p xs y ys passes = list_any-append p xs (y ∷ ys) ∙ or_right (list_any p xs) (list_any p (y ∷ ys)) (or_left (p y) (list_any p ys) passes)

find_past : {X : Type 0} (p : X → Bool) (xs : List X) (y : X) (ys : List X) → AllByRecursion (λ x. p x ≡ false) xs → p y ≡ true → find p (xs ++ y ∷ ys) ≡ Some y
find_past p [] y ys each passes = rw passes refl
find_past p (x ∷ xs) y ys each passes = rw each.0 (find_past p xs y ys each.1 passes)

abbrev pub Positive : Floor → Type 0
Positive f = has_need f ≡ true

not_nothing : (f : Floor) → Positive f → (f.above == 0) ≡ false
not_nothing f some = ne_eqb f.above 0 (λ none. omega (arith, ltb-true 0 f.above some, none))

-- one more that is of something
pub step : (fs : List Floor) (best : Option Floor) (f : Floor) → AllByRecursion Positive fs → Positive f → IsBest fs best → IsBest (fs ++ f ∷ []) (greater_of best f)
step fs None f positive some best =
    rw (not_nothing f some) (record {
      before = [];
      after = [];
      whole = ap (λ xs. xs ++ f ∷ []) best;
      beaten = tt;
      greatest = each_append (λ x. exceeds x f ≡ false) fs (f ∷ []) (subst (AllByRecursion (λ x. exceeds x f ≡ false)) (sym best) tt) (not_itself f, tt);
    })
step fs (Some b) f positive some best =
    let b_some : Positive b = each_middle Positive best.before b best.after (subst (AllByRecursion Positive) best.whole positive) in
    rw (not_nothing f some) (cond_both (exceeds f b) (Some f) (Some b) (IsBest (fs ++ f ∷ []))
    (λ greater.
    let all : AllByRecursion (λ x. exceeds f x ≡ true) fs = each_among (λ x. exceeds f x ≡ true) fs (λ x among.
    above_all f b x (ltb-true 0 f.above some) (ltb-true 0 b.above b_some) (ltb-true 0 x.above (among_each Positive x fs positive among)) greater (among_each (λ x. exceeds x b ≡ false) x fs best.greatest among)) in
    record {
      before = fs;
      after = [];
      whole = refl;
      beaten = all;
      greatest = each_append (λ x. exceeds x f ≡ false) fs (f ∷ []) (each_weaker (λ x. exceeds f x ≡ true) (λ x. exceeds x f ≡ false) (not_both f) fs all) (not_itself f, tt);
    })
    (λ no_greater. record {
      before = best.before;
      after = best.after ++ f ∷ [];
      whole = ap (λ xs. xs ++ f ∷ []) best.whole ∙ append_assoc best.before (b ∷ best.after) (f ∷ []);
      beaten = best.beaten;
      greatest = each_append (λ x. exceeds x b ≡ false) fs (f ∷ []) best.greatest (no_greater, tt);
    }))

stays : (best : Option Floor) (f : Floor) → (f.above == 0) ≡ true → greater_of best f ≡ best
stays None f none = rw none refl
stays (Some b) f none = rw none refl

-- one cut more
pub best_more : {X : Type 0} (g : X → Floor) (xs : List X) (x : X) (best : Option Floor) → IsBest (filter has_need (map g xs)) best → IsBest (filter has_need (map g (xs ++ x ∷ []))) (greater_of best (g x))
best_more g xs x best is =
    let fs : List Floor = filter has_need (map g xs) in
    let pushed : filter has_need (map g (xs ++ x ∷ [])) ≡ fs ++ cond (has_need (g x)) (g x ∷ []) [] = ap (filter has_need) (map_push g xs x) ∙ filter-append has_need (map g xs) (g x ∷ []) in
    subst (λ ys. IsBest ys (greater_of best (g x))) (sym pushed) (cond_both (has_need (g x)) (g x ∷ []) [] (λ ys. IsBest (fs ++ ys) (greater_of best (g x)))
    (λ some. step fs best (g x) (each_passes has_need (map g xs)) some is)
    (λ none. subst (IsBest (fs ++ [])) (sym (stays best (g x) (eq-eqb (g x).above 0 (omega (arith, ltb-false 0 (g x).above none))))) (subst (λ ys. IsBest ys best) (sym (append-nil fs)) is)))

-- what is best is the first of the greatest
pub best_is : (fs : List Floor) (best : Option Floor) → IsBest fs best → unwrap_or best nothing_over_1 ≡ first_greatest fs
best_is fs None is = sym (ap first_greatest is)
best_is fs (Some b) is =
    let p : Floor → Bool = is_greatest fs in
    let passes : p b ≡ true = not_from_false (list_any (λ other. exceeds other b) fs) (list_any_none (λ other. exceeds other b) fs (All-from_recursion (λ x. exceeds x b ≡ false) fs is.greatest)) in
    let fails : AllByRecursion (λ x. p x ≡ false) is.before = each_weaker (λ x. exceeds b x ≡ true) (λ x. p x ≡ false) (λ x less.
    not_from_true (list_any (λ other. exceeds other x) fs) (ap (list_any (λ other. exceeds other x)) is.whole ∙ any_middle (λ other. exceeds other x) is.before b is.after less)) is.before is.beaten in
    sym (ap (λ (o : Option Floor). unwrap_or o nothing_over_1) (ap (find p) is.whole ∙ find_past p is.before b is.after fails passes))
