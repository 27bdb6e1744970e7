-- A totalizer counts: two sides that count their own inputs are joined so that both are counted.
use Rattle.std.proofs.Common.{◌≡◌, ℕ, zero, suc, ◌+◌, ◌-◌, ◌/◌, ◌<◌, ◌≤◌, min, Bool, true, false, cond, List, [], ◌∷◌, ◌++◌, length, get_or, map, take, drop, leb, refl, sym, ap, ◌∙◌, subst, arith, append_assoc, length-append, All}
use Rattle.std.proofs.lemmas.{Bool.{le-leb, Decides.nat_tests}, List.{get_or-append-add, length-take, length-drop, take-append-drop, append-nil, Sums.{sum_by-append, count_by-le-length}}}
use Rattle.std.{proofs.lemmas.List.{Elements.{All-nil, All-cons, All-head, All-append, All-take, All-drop}, FromFn.{get_or-map-range_with_len, length-map-range_with_len}}, specs.List.range_with_len}
use Rattle.cnf_formula.specs.{Literals.{LitValue, yes, is_true, all_hold}, Formulas.{IsAbout, IsClause}}
use Rattle.cardinality.specs.{Counting.{CounterValue, true_inputs, output, Reaches, Extends, IsCounter}, Totalizers.{joins, joined_counters, joined_halves, side_of, side_within, totalizer_of}}
use Rattle.cardinality.proofs.{Ranges.{all_of_map, both_hold, hold_both}, Wider.{old_is_same, clause_more, clauses_more, clauses_same, count_same}, Joins.{is_reached, joins_say, say_joins, joins_about}}

-- a counter of inputs about the first so many variables, with as many outputs as it has
pub record Part (before : ℕ) (inputs : List LitValue) (counter : CounterValue) : Type 0 where
  pub outputs_about : IsClause (before + counter.vars) counter.outputs
  pub clauses_about : All (IsClause (before + counter.vars)) counter.clauses
  pub reaches : Reaches inputs counter
  pub extends : (values : List Bool) → length values ≡ before → (more : List Bool) × Extends values more inputs counter

count_both : (values : List Bool) (ls rs : List LitValue) → true_inputs values (ls ++ rs) ≡ true_inputs values ls + true_inputs values rs
count_both values ls rs = sum_by-append (λ l. cond (is_true values l) 1 0) ls rs

-- what a side reaches
side_reaches : (values : List Bool) (inputs : List LitValue) (counter : CounterValue) → Reaches inputs counter → all_hold values counter.clauses ≡ true
    → (i : ℕ) → i ≤ length counter.outputs → i ≤ true_inputs values inputs → is_reached values counter.outputs i ≡ true
side_reaches values inputs counter r h zero few le = refl
side_reaches values inputs counter r h (suc i) few le = grind (arith, r values h (suc i) (omega arith) (omega (arith, few)) le)

-- a side's outputs, in an assignment of more variables
side_is : (values more later : List Bool) (inputs : List LitValue) (counter : CounterValue) (n : ℕ) → n ≤ length (values ++ more) → IsClause n counter.outputs → Extends values more inputs counter
    → (i : ℕ) → i ≤ length counter.outputs → is_reached (values ++ more ++ later) counter.outputs i ≡ true → i ≤ true_inputs values inputs
side_is values more later inputs counter n le about x zero few t = omega arith
side_is values more later inputs counter n le about x (suc i) few t =
    grind (arith, nat_tests, x.outputs (suc i) (omega arith) few, old_is_same (values ++ more) later n (get_or counter.outputs i (yes 0)) le (about i (yes 0) (omega (arith, few))))

module _ (before numbers many : ℕ) (ls rs : List LitValue) (left right : CounterValue) where
  abbrev own : ℕ
  own = before + left.vars + right.vars

  abbrev node : CounterValue
  node = joined_counters before numbers many left right

  abbrev ins : List LitValue
  ins = ls ++ rs

  own_output : (t : ℕ) → 0 < t → t ≤ many → output node t ≡ yes (own + t)
  own_output t low high = get_or-map-range_with_len (λ j. yes (own + j)) 1 many (t - 1) t (yes 0) (omega (arith, low, high)) (omega (arith, low))

  own_outputs : length node.outputs ≡ many
  own_outputs = length-map-range_with_len (λ j. yes (own + j)) 1 many

  module _ (enough_left : min numbers (length ls) ≤ length left.outputs) (enough_right : min numbers (length rs) ≤ length right.outputs) (few : many ≤ numbers) where
    node_reaches : Reaches ls left → Reaches rs right → Reaches ins node
    node_reaches rl rr values h t low high le =
        let parts = both_hold values (left.clauses ++ right.clauses) (joins own numbers left.outputs right.outputs) h in
        let sides = both_hold values left.clauses right.clauses parts.0 in
        let a = true_inputs values ls in
        let b = true_inputs values rs in
        let within : t ≤ many = omega (arith, high, own_outputs) in
        let i : ℕ = min t a in
        let j : ℕ = t - min t a in
        let enough : j ≤ b = omega (arith, le, count_both values ls rs) in
        let il : i ≤ length left.outputs = omega (arith, count_by-le-length (is_true values) ls, within, few, enough_left) in
        let jr : j ≤ length right.outputs = omega (arith, count_by-le-length (is_true values) rs, within, few, enough_right, enough) in
        let e : i + j ≡ t = omega arith in
        let said = joins_say own numbers left.outputs right.outputs values parts.1 i j il jr (omega (arith, e, low)) (omega (arith, e, within, few))
        (side_reaches values ls left rl sides.0 i il (omega arith)) (side_reaches values rs right rr sides.1 j jr enough) in
        ap (is_true values) (own_output t low within) ∙ subst (λ n. is_true values (yes (own + n)) ≡ true) e said

    module _ (fits : (i j : ℕ) → i ≤ length left.outputs → j ≤ length right.outputs → i + j ≤ numbers → i + j ≤ many) where
      node_extends : Part before ls left → Part (before + left.vars) rs right → IsClause before ls → IsClause before rs
          → (values : List Bool) → length values ≡ before → (more : List Bool) × Extends values more ins node
      node_extends pl pr al ar values l =
          let ml = (pl.extends values l).0 in
          let xl = (pl.extends values l).1 in
          let v1 = values ++ ml in
          let l1 : length v1 ≡ before + left.vars = omega (arith, length-append values ml, l, xl.one_each) in
          let mr = (pr.extends v1 l1).0 in
          let xr = (pr.extends v1 l1).1 in
          let v2 = v1 ++ mr in
          let l2 : length v2 ≡ own = omega (arith, length-append v1 mr, l1, xr.one_each) in
          let k = true_inputs values ls + true_inputs values rs in
          let row = map (λ j. leb j k) (range_with_len 1 many) in
          let w = v2 ++ row in
          let own_is : (t : ℕ) → 0 < t → t ≤ many → is_true w (yes (own + t)) ≡ leb t k =
          λ t low high.
          let place : own + t - 1 ≡ length v2 + (t - 1) = omega (arith, l2, low) in
          ap (λ n. get_or w n false) place ∙ get_or-append-add v2 row (t - 1) false
          ∙ get_or-map-range_with_len (λ j. leb j k) 1 many (t - 1) t false (omega (arith, low, high)) (omega (arith, low)) in
          let hl : all_hold w left.clauses ≡ true =
          clauses_same v2 row (before + left.vars) left.clauses (omega (arith, l2)) pl.clauses_about ∙ clauses_same v1 mr (before + left.vars) left.clauses (omega (arith, l1)) pl.clauses_about ∙ xl.hold in
          let hr : all_hold w right.clauses ≡ true = clauses_same v2 row own right.clauses (omega (arith, l2)) pr.clauses_about ∙ xr.hold in
          let same_right = count_same values ml before rs (omega (arith, l)) ar in
          let assoc : w ≡ values ++ ml ++ (mr ++ row) = append_assoc v1 mr row in
          let hj : all_hold w (joins own numbers left.outputs right.outputs) ≡ true =
          say_joins own numbers left.outputs right.outputs w (λ i j il jr some le ti tj.
          let ki = side_is values ml (mr ++ row) ls left (before + left.vars) (omega (arith, l1)) pl.outputs_about xl i il (subst (λ v. is_reached v left.outputs i ≡ true) assoc ti) in
          let kj = side_is v1 mr row rs right own (omega (arith, l2)) pr.outputs_about xr j jr tj in
          own_is (i + j) some (fits i j il jr le) ∙ le-leb (i + j) k (omega (arith, ki, kj, same_right))) in
          let all = hold_both w (left.clauses ++ right.clauses) (joins own numbers left.outputs right.outputs) (hold_both w left.clauses right.clauses hl hr) hj in
          let more = ml ++ mr ++ row in
          let whole : w ≡ values ++ more = append_assoc v1 mr row ∙ append_assoc values ml (mr ++ row) ∙ ap (λ x. values ++ x) (sym (append_assoc ml mr row)) in (
            more,
            record {
              one_each = omega (arith, length-append (ml ++ mr) row, length-append ml mr, xl.one_each, xr.one_each, length-map-range_with_len (λ j. leb j k) 1 many);
              hold = subst (λ v. all_hold v node.clauses ≡ true) whole all;
              outputs = λ t low high.
                  let within : t ≤ many = omega (arith, high, own_outputs) in
                  subst (λ v. is_true v (output node t) ≡ leb t (true_inputs values ins)) whole (ap (is_true w) (own_output t low within) ∙ own_is t low within ∙ ap (leb t) (sym (count_both values ls rs)));
            },
          )

      pub node_part : Part before ls left → Part (before + left.vars) rs right → IsClause before ls → IsClause before rs → Part before ins node
      node_part pl pr al ar =
          let v : ℕ = before + node.vars in
          let le1 : before + left.vars ≤ v = omega arith in
          let le2 : before + left.vars + right.vars ≤ v = omega arith in
          record {
            outputs_about = all_of_map (IsAbout v) (λ j. yes (own + j)) 1 many (λ j low high. record { some = omega (arith, low); within = omega (arith, high) });
            clauses_about = All-append (IsClause v) (left.clauses ++ right.clauses) (joins own numbers left.outputs right.outputs)
                (All-append (IsClause v) left.clauses right.clauses (clauses_more (before + left.vars) v left.clauses le1 pl.clauses_about) (clauses_more (before + left.vars + right.vars) v right.clauses le2 pr.clauses_about))
                (joins_about own numbers left.outputs right.outputs v many (clause_more (before + left.vars) v left.outputs le1 pl.outputs_about) (clause_more (before + left.vars + right.vars) v right.outputs le2 pr.outputs_about) (omega arith) fits);
            reaches = node_reaches pl.reaches pr.reaches;
            extends = node_extends pl pr al ar;
          }

-- ---- halves

part_of_none : (before : ℕ) → Part before [] (record { vars = 0; clauses = []; outputs = [] })
part_of_none before = record {
  outputs_about = All-nil (IsAbout (before + 0));
  clauses_about = All-nil (IsClause (before + 0));
  reaches = λ values h t low high le. absurd (omega (arith, low, high));
  extends = λ values l. ([], record { one_each = refl; hold = refl; outputs = λ t low high. absurd (omega (arith, low, high)) });
}

part_of_one : (before : ℕ) (y : LitValue) → IsAbout before y → Part before (y ∷ []) (record { vars = 0; clauses = []; outputs = y ∷ [] })
part_of_one before y a = record {
  outputs_about = All-cons (IsAbout (before + 0)) y [] (record { some = a.some; within = omega (arith, a.within) }) (All-nil (IsAbout (before + 0)));
  clauses_about = All-nil (IsClause (before + 0));
  reaches = λ values h t low high le. let e : t - 1 ≡ 0 = omega (arith, low, high) in grind (arith, e);
  extends = λ values l. (
    [],
    record {
      one_each = refl;
      hold = refl;
      outputs = λ t low high. let e : t ≡ 1 = omega (arith, low, high) in grind (arith, nat_tests, e, append-nil values);
    },
  );
}

-- a way to count lists of at most so many inputs up to a number
pub record Counts (numbers n : ℕ) (counter_of : ℕ → List LitValue → CounterValue) : Type 0 where
  pub many : (before : ℕ) (ys : List LitValue) → length ys ≤ n → length (counter_of before ys).outputs ≡ min numbers (length ys)
  pub part : (before : ℕ) (ys : List LitValue) → length ys ≤ n → IsClause before ys → Part before ys (counter_of before ys)

halves_part : (numbers n : ℕ) (counter_of : ℕ → List LitValue → CounterValue) → Counts numbers n counter_of → (before many : ℕ) (ys : List LitValue) → length ys ≤ n + length ys / 2 → length ys / 2 ≤ n → many ≤ numbers
    → ((k : ℕ) → k ≤ length ys → k ≤ numbers → k ≤ many) → IsClause before ys → Part before ys (joined_halves counter_of before numbers many ys)
halves_part numbers n counter_of counts before many ys back front few fits a =
    let half = length ys / 2 in
    let ls = take half ys in
    let rs = drop half ys in
    let left = counter_of before ls in
    let right = counter_of (before + left.vars) rs in
    let lt = length-take half ys in
    let ld = length-drop half ys in
    let short_left : length ls ≤ n = omega (arith, lt, front) in
    let short_right : length rs ≤ n = omega (arith, ld, back) in
    let ll = counts.many before ls short_left in
    let lr = counts.many (before + left.vars) rs short_right in
    let al : IsClause before ls = All-take (IsAbout before) half ys a in
    let ar : IsClause before rs = All-drop (IsAbout before) half ys a in
    subst (λ x. Part before x (joined_halves counter_of before numbers many ys)) (take-append-drop half ys)
    (node_part before numbers many ls rs left right (omega (arith, ll)) (omega (arith, lr)) few (λ i j il jr le. fits (i + j) (omega (arith, il, jr, ll, lr, lt, ld)) le)
    (counts.part before ls short_left al) (counts.part (before + left.vars) rs short_right (clause_more before (before + left.vars) rs (omega arith) ar)) al ar)

module _ (numbers : ℕ) (some : 0 < numbers) where
  pub many_within : (n before : ℕ) (ys : List LitValue) → length ys ≤ n → length (side_within n numbers before ys).outputs ≡ min numbers (length ys)
  many_within zero before [] h = omega arith
  many_within zero before (y ∷ ys) h = absurd (omega (arith, h))
  many_within (suc n) before [] h = omega arith
  many_within (suc n) before (y ∷ []) h = omega (arith, some)
  many_within (suc n) before (y ∷ z ∷ ys) h = length-map-range_with_len _ 1 (min numbers (length (y ∷ z ∷ ys)))

  part_within : (n before : ℕ) (ys : List LitValue) → length ys ≤ n → IsClause before ys → Part before ys (side_within n numbers before ys)
  part_within zero before [] h a = part_of_none before
  part_within zero before (y ∷ ys) h a = absurd (omega (arith, h))
  part_within (suc n) before [] h a = part_of_none before
  part_within (suc n) before (y ∷ []) h a = part_of_one before y (All-head (IsAbout before) y [] a)
  part_within (suc n) before (y ∷ z ∷ ys) h a =
      let all = y ∷ z ∷ ys in
      let two : 2 ≤ length all = omega arith in
      halves_part numbers n (side_within n numbers) (record { many = many_within n; part = part_within n }) before (min numbers (length all)) all
      (omega (arith, h, two)) (omega (arith, h, two)) (omega arith) (λ k low high. omega (arith, low, high)) a

  pub side_counts : (n : ℕ) → Counts numbers n (side_of numbers)
  side_counts n = record { many = λ before ys h. many_within (length ys) before ys (omega arith); part = λ before ys h. part_within (length ys) before ys (omega arith) }

pub totalizer_is_counter : (before : ℕ) (inputs : List LitValue) (bound : ℕ) → 0 < length inputs → All (IsAbout before) inputs → IsCounter before inputs bound (totalizer_of before inputs bound)
totalizer_is_counter before inputs bound some about =
    let numbers = bound + 1 in
    let p = halves_part numbers (length inputs) (side_of numbers) (side_counts numbers (omega arith) (length inputs)) before numbers inputs (omega arith) (omega arith) (omega arith) (λ k low high. high) about in
    record {
      outputs_are = length-map-range_with_len _ 1 numbers;
      outputs_about = p.outputs_about;
      clauses_about = p.clauses_about;
      reaches = p.reaches;
      extends = p.extends;
    }
