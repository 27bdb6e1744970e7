-- One step: what the senders get back of the receivers is what the receivers had.
use Rattle.std.proofs.Common.{◌≡◌, ℕ, zero, suc, ◌+◌, ◌<◌, ◌≤◌, inl, inr, Bool, true, false, ◌&&◌, ◌||◌, cond, eqb, List, [], ◌∷◌, refl, ap, ◌∙◌, subst, arith, sum_by}
use Rattle.std.{specs.List.{AllByRecursion, list_any, range_with_len}, proofs.lemmas.{Bool.{Decides.nat_tests, cases_Bool, eqb-true}, List.Sums.sum_by-cons}}
use Rattle.list_laws.proofs.Tests.{if_so}
use Rattle.schedule.{specs.declared.hop.Hop.Hop, proofs.First.each_weaker}

-- ---- sums over numbers

sum_both : {X : Type 0} (f g : X → ℕ) (xs : List X) → sum_by (λ x. f x + g x) xs ≡ sum_by f xs + sum_by g xs
sum_both f g [] = refl
sum_both f g (x ∷ xs) = omega (arith, sum_both f g xs, sum_by-cons (λ x. f x + g x) x xs, sum_by-cons f x xs, sum_by-cons g x xs)

pub sum_alike : (f g : ℕ → ℕ) (a n : ℕ) → ((v : ℕ) → a ≤ v → v < a + n → f v ≡ g v) → sum_by f (range_with_len a n) ≡ sum_by g (range_with_len a n)
sum_alike f g a zero same = refl
sum_alike f g a (suc n) same =
    omega (arith, same a (omega arith) (omega arith), sum_alike f g (a + 1) n (λ v from to. same v (omega (arith, from)) (omega (arith, to))), sum_by-cons f a (range_with_len (a + 1) n), sum_by-cons g a (range_with_len (a + 1) n))

-- the value of a function where it is one number's turn
abbrev pub only_at : ℕ → (ℕ → ℕ) → ℕ → ℕ
only_at w g v = cond (eqb w v) (g v) 0

sum_past : (w : ℕ) (g : ℕ → ℕ) (a n : ℕ) → w < a → sum_by (only_at w g) (range_with_len a n) ≡ 0
sum_past w g a zero past = refl
sum_past w g a (suc n) past = grind (arith, nat_tests, sum_past w g (a + 1) n (omega (arith, past)), sum_by-cons (only_at w g) a (range_with_len (a + 1) n))

pub sum_at : (w : ℕ) (g : ℕ → ℕ) (a n : ℕ) → a ≤ w → w < a + n → sum_by (only_at w g) (range_with_len a n) ≡ g w
sum_at w g a zero from to = absurd (omega arith)
sum_at w g a (suc n) from to = grind (arith, nat_tests, sum_past w g (a + 1) n, sum_at w g (a + 1) n, sum_by-cons (only_at w g) a (range_with_len (a + 1) n))

-- ---- the sends of one step, by a test

-- what the receivers of a node's sends had
abbrev pub spread : (Hop → Bool) → (ℕ → ℕ) → ℕ → List Hop → ℕ
spread now g v hops = sum_by (λ h. cond (now h && eqb h.from v) (g h.to) 0) hops

-- a send goes to the node
abbrev pub reached : (Hop → Bool) → ℕ → List Hop → Bool
reached now v hops = list_any (λ h. now h && eqb h.to v) hops

-- where it is a send of the step, it goes from a node that holds to one that lacks
pub record IsUseful (nodes : ℕ) (now : Hop → Bool) (held : ℕ → Bool) (h : Hop) : Type 0 where
  pub from : now h ≡ true → h.from < nodes
  pub to : now h ≡ true → h.to < nodes
  pub sender : now h ≡ true → held h.from ≡ true
  pub receiver : now h ≡ true → held h.to ≡ false

-- no two sends of the step go to one node
abbrev pub Once : (Hop → Bool) → List Hop → Type 0
Once now [] = Unit {0}
Once now (h ∷ hops) = AllByRecursion (λ o. now h ≡ true → now o ≡ true → eqb o.to h.to ≡ false) hops × Once now hops

none_reached : (now : Hop → Bool) (w : ℕ) (hops : List Hop) → AllByRecursion (λ o. now o ≡ true → eqb o.to w ≡ false) hops → reached now w hops ≡ false
none_reached now w [] each = refl
none_reached now w (o ∷ hops) each = grind (arith, none_reached now w hops each.1)

kept_part : (b : Bool) (x : ℕ) → cond b (x + 0) 0 ≡ cond (b || false) x 0
kept_part b x = grind arith

split_part : (b : Bool) (x y z : ℕ) → cond b (x + (y + z)) 0 ≡ cond b (x + z) 0 + cond b y 0
split_part b x y z = grind arith

joined_part : (b e r : Bool) (x : ℕ) → (e ≡ true → (b ≡ false) × (r ≡ false)) → cond (b || (e || r)) x 0 ≡ cond (b || r) x 0 + cond e x 0
joined_part b e r x apart = grind arith

sender_part : (b e : Bool) (x : ℕ) → (e ≡ true → b ≡ true) → cond b (cond e x 0) 0 ≡ cond e x 0
sender_part b e x holds = grind arith

-- the sums over the holders before and after the sends of a step
abbrev pub back_sum : ℕ → (Hop → Bool) → (ℕ → Bool) → (ℕ → ℕ) → List Hop → ℕ
back_sum nodes now held g hops = sum_by (λ v. cond (held v) (g v + spread now g v hops) 0) (range_with_len 0 nodes)

abbrev pub on_sum : ℕ → (Hop → Bool) → (ℕ → Bool) → (ℕ → ℕ) → List Hop → ℕ
on_sum nodes now held g hops = sum_by (λ v. cond (held v || reached now v hops) (g v) 0) (range_with_len 0 nodes)

spread_idle : (now : Hop → Bool) (g : ℕ → ℕ) (v : ℕ) (h : Hop) (hops : List Hop) → now h ≡ false → spread now g v (h ∷ hops) ≡ spread now g v hops
spread_idle now g v h hops idle = grind (arith, if_so)

idle_send : (nodes : ℕ) (now : Hop → Bool) (held : ℕ → Bool) (g : ℕ → ℕ) (h : Hop) (hops : List Hop) → now h ≡ false → back_sum nodes now held g hops ≡ on_sum nodes now held g hops → back_sum nodes now held g (h ∷ hops) ≡ on_sum nodes now held g (h ∷ hops)
idle_send nodes now held g h hops idle rest = grind (arith, sum_alike, if_so, spread_idle)

busy_send : (nodes : ℕ) (now : Hop → Bool) (held : ℕ → Bool) (g : ℕ → ℕ) (h : Hop) (hops : List Hop) → now h ≡ true → IsUseful nodes now held h → reached now h.to hops ≡ false → back_sum nodes now held g hops ≡ on_sum nodes now held g hops → back_sum nodes now held g (h ∷ hops) ≡ on_sum nodes now held g (h ∷ hops)
busy_send nodes now held g h hops busy useful alone rest =
    let sent : ℕ → ℕ = λ v. cond (eqb h.from v) (g h.to) 0 in
    let left : back_sum nodes now held g (h ∷ hops) ≡ sum_by (λ v. cond (held v) (g v + spread now g v hops) 0 + sent v) (range_with_len 0 nodes) =
    sum_alike (λ v. cond (held v) (g v + spread now g v (h ∷ hops)) 0) (λ v. cond (held v) (g v + spread now g v hops) 0 + sent v) 0 nodes (λ v from to.
    ap (λ x. cond (held v) (g v + x) 0) (sum_by-cons (λ h. cond (now h && eqb h.from v) (g h.to) 0) h hops ∙ ap (λ b. cond (b && eqb h.from v) (g h.to) 0 + spread now g v hops) busy)
    ∙ (split_part (held v) (g v) (sent v) (spread now g v hops)
    ∙ ap (λ x. cond (held v) (g v + spread now g v hops) 0 + x) (sender_part (held v) (eqb h.from v) (g h.to) (λ same. subst (λ n. held n ≡ true) (eqb-true h.from v same) (useful.sender busy))))) in
    let right : on_sum nodes now held g (h ∷ hops) ≡ sum_by (λ v. cond (held v || reached now v hops) (g v) 0 + only_at h.to g v) (range_with_len 0 nodes) =
    sum_alike (λ v. cond (held v || reached now v (h ∷ hops)) (g v) 0) (λ v. cond (held v || reached now v hops) (g v) 0 + only_at h.to g v) 0 nodes (λ v from to.
    ap (λ b. cond (held v || ((b && eqb h.to v) || reached now v hops)) (g v) 0) busy
    ∙ joined_part (held v) (eqb h.to v) (reached now v hops) (g v) (λ same.
    (subst (λ n. held n ≡ false) (eqb-true h.to v same) (useful.receiver busy), subst (λ n. reached now n hops ≡ false) (eqb-true h.to v same) alone))) in
    let given : sum_by sent (range_with_len 0 nodes) ≡ g h.to = sum_at h.from (λ _. g h.to) 0 nodes (omega arith) (omega (arith, useful.from busy)) in
    let taken : sum_by (only_at h.to g) (range_with_len 0 nodes) ≡ g h.to = sum_at h.to g 0 nodes (omega arith) (omega (arith, useful.to busy)) in
    let lefts = sum_both (λ v. cond (held v) (g v + spread now g v hops) 0) sent (range_with_len 0 nodes) in
    let rights = sum_both (λ v. cond (held v || reached now v hops) (g v) 0) (only_at h.to g) (range_with_len 0 nodes) in
    omega (arith, left, right, given, taken, lefts, rights, rest)

pub one_step : (nodes : ℕ) (now : Hop → Bool) (held : ℕ → Bool) (g : ℕ → ℕ) (hops : List Hop) → AllByRecursion (IsUseful nodes now held) hops → Once now hops → back_sum nodes now held g hops ≡ on_sum nodes now held g hops
one_step nodes now held g [] useful once =
    sum_alike (λ v. cond (held v) (g v + 0) 0) (λ v. cond (held v || false) (g v) 0) 0 nodes (λ v from to. kept_part (held v) (g v))
one_step nodes now held g (h ∷ hops) useful once =
    let rest = one_step nodes now held g hops useful.1 once.1 in
    elim (cases_Bool (now h)) [
      | inl busy ↦ busy_send nodes now held g h hops busy useful.0 (none_reached now h.to hops (each_weaker (λ o. now h ≡ true → now o ≡ true → eqb o.to h.to ≡ false) (λ o. now o ≡ true → eqb o.to h.to ≡ false) (λ o each. each busy) hops once.0)) rest
      | inr idle ↦ idle_send nodes now held g h hops idle rest
    ]
