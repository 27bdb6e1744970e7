-- A step send by send: what one more of its sends brings.
use Rattle.std.proofs.{Common.{◌≡◌, ℕ, ◌+◌, ◌<◌, ◌≤◌, Bool, true, false, ◌&&◌, ◌||◌, cond, eqb, List, [], ◌∷◌, ◌++◌, length, get_or, take, refl, sym, ap, ◌∙◌, arith}, lemmas.{Bool.{and_parts, eq-eqb}, List.{take_more, take_all}}}
use Rattle.std.{proofs.lemmas.{List.{Folds.list_any-append, Elements.{All-filter, filter_passes, All-same}}, Map.Views.any-filter_same}, specs.List.{list_any, filter}}
use Rattle.schedule.{specs.{declared.hop.Hop.Hop, Sends.{ScheduleValue, is_hop_below, IsInRange}, Running.{brings, step_of}, Placed.{PlacementValue, same_pair, holds, IsPlacement, with_pair}}, proofs.Placing.{placed-alike, holds-placed}}

-- the numbers of a send are in range
pub record IsHopBelow (chunks nodes : ℕ) (h : Hop) : Type 0 where
  pub chunk : h.chunk < chunks
  pub from : h.from < nodes
  pub to : h.to < nodes

pub hop_below : (chunks nodes : ℕ) (h : Hop) → is_hop_below chunks nodes h ≡ true → IsHopBelow chunks nodes h
hop_below chunks nodes h is = grind arith

-- each send of a step is in range, and of that step
pub step_below : (chunks nodes step : ℕ) (s : ScheduleValue) (sends : List Hop) → IsInRange chunks nodes s → sends ≡ filter (λ h. eqb h.step step) s.sends → (k : ℕ) (d : Hop) → k < length sends → IsHopBelow chunks nodes (get_or sends k d)
step_below chunks nodes step s sends range is k d inside =
    hop_below chunks nodes (get_or sends k d) (All-same (λ h. is_hop_below chunks nodes h ≡ true) sends _ is (All-filter (λ h. eqb h.step step) (λ h. is_hop_below chunks nodes h ≡ true) s.sends range) k d inside)

pub step_alone : (step : ℕ) (all sends : List Hop) → sends ≡ filter (λ h. eqb h.step step) all → (k : ℕ) (d : Hop) → k < length sends → (get_or sends k d).step ≡ step
step_alone step all sends is k d inside = grind (arith, All-same, filter_passes)

-- no send brings nothing
pub step_of_nil : (before : PlacementValue) (step : ℕ) → IsPlacement before → step_of [] before step ≡ before
step_of_nil before step is = grind (arith, placed-alike)

one_more : (a b p held : Bool) → (a || (b || ((p && held) || false))) ≡ cond held (p || (a || b)) (a || b)
one_more a b p held = grind arith

holds_more : (sends : List Hop) (before : PlacementValue) (step : ℕ) (h : Hop) (held : Bool) (pair : ℕ × ℕ) → h.step ≡ step → holds before (h.chunk, h.from) ≡ held → (let earlier = holds before pair || list_any (brings before step pair) sends in
    (holds before pair || list_any (brings before step pair) (sends ++ h ∷ [])) ≡ cond held (same_pair (h.chunk, h.to) pair || earlier) earlier)
holds_more sends before step h held pair mine is =
    let earlier : Bool = list_any (brings before step pair) sends in
    let new : brings before step pair h ≡ (same_pair (h.chunk, h.to) pair && held) = rw (eq-eqb h.step step mine, is) refl in
    ap (λ b. holds before pair || b) (list_any-append (brings before step pair) sends (h ∷ []))
    ∙ ap (λ b. holds before pair || (earlier || (b || false))) new ∙ one_more (holds before pair) earlier (same_pair (h.chunk, h.to) pair) held

-- one more send of the step brings its pair where its sender holds the chunk
step_more : (sends : List Hop) (before : PlacementValue) (step : ℕ) (h : Hop) (held : Bool) → h.step ≡ step → holds before (h.chunk, h.from) ≡ held
    → step_of (sends ++ h ∷ []) before step ≡ cond held (with_pair (step_of sends before step) (h.chunk, h.to)) (step_of sends before step)
step_more sends before step h true mine is = grind (arith, placed-alike, holds_more sends before step h true, holds-placed)
step_more sends before step h false mine is = grind (arith, placed-alike, holds_more sends before step h false)

-- the sends of other steps bring nothing
pub step_of-filter : (sends : List Hop) (before : PlacementValue) (step : ℕ) → step_of (filter (λ h. eqb h.step step) sends) before step ≡ step_of sends before step
step_of-filter sends before step =
    placed-alike before.chunks before.nodes _ _ (λ pair c n.
    ap (λ b. holds before pair || b) (any-filter_same (brings before step pair) (λ h. eqb h.step step) true (λ h brought. (and_parts _ _ brought).0) sends))

-- the same, as a loop over the sends of the step comes to one more
pub joins_more : (all sends : List Hop) (before joined next : PlacementValue) (step i : ℕ) (d : Hop) (held : Bool) → sends ≡ filter (λ h. eqb h.step step) all → i < length sends → joined ≡ step_of (take i sends) before step → (let h = get_or sends i d in
    holds before (h.chunk, h.from) ≡ held → next ≡ cond held (with_pair joined (h.chunk, h.to)) joined → next ≡ step_of (take (i + 1) sends) before step)
joins_more all sends before joined next step i d held mine inside so_far is new =
    let h : Hop = get_or sends i d in
    new ∙ ap (λ p. cond held (with_pair p (h.chunk, h.to)) p) so_far ∙ sym (step_more (take i sends) before step h held (step_alone step all sends mine i d inside) is)
    ∙ ap (λ hs. step_of hs before step) (sym (take_more sends i d inside))

pub joins_all : (all sends : List Hop) (before joined : PlacementValue) (step i : ℕ) → sends ≡ filter (λ h. eqb h.step step) all → length sends ≤ i → joined ≡ step_of (take i sends) before step → joined ≡ step_of all before step
joins_all all sends before joined step i mine past so_far =
    so_far
    ∙ (ap (λ hs. step_of hs before step) (take_all i sends past ∙ mine) ∙ step_of-filter all before step)
