use Rattle.std.proofs.{Common.{◌≡◌, ◌<◌, length, get_or, sym, ap, ◌∙◌, subst, inl, inr, ⊎_elim, arith, Contains, All, swap_remove}, lemmas.{List.length-set}}
use Rattle.std.proofs.lemmas.List.Elements.{All-contains}
use Rattle.cnf_formula.{specs.{Literals.code_of, Formulas.IsAbout}, proofs.Codes.code_within}
use Rattle.trail_core.specs.{Assigned.{IsFalse}, Trails.lits_of, Search.{Scanned, clauses_of}, Watching.{ListsValue, WatchValue, IsOnlyNew, AreBlocked, no_row, watch_count, row_at, list_at, IsWatched, AreRows}}
use Rattle.trail_core.proofs.Watching.{entry_within, shifted, shifted_a, length_removed}
use Rattle.trail_core.proofs.Visits.{Pair, IsOther, pair_is, Found, same_lit, other_lit, found_room, found_apart, rewatched, rewatched_is, rewatched_rows, rewatched_scanned, rewatched_not, removed_front, pushed_scanned, pushed_satisfied, scanned_same, open_by}
use Rattle.trail_core.proofs.{Blocking.{watched_same, blocked_new, can_replace, long_blocked}, propagate.visit_clause.Goals.{After-clause-id, Joined-eq, In-Some, then-eq, else-eq}}
use Rattle.trail_core.proofs.propagate.visit_clause.Goals as goal

known : (c : After-clause-id) → c.clause-id.result < length c.args.store.now
known c = entry_within c.args.store.now c.args.lists.now (code_of c.args.falsified) c.args.place c.clause-id.result c.requires.can.watched c.requires.within (c.clause-id.ensures ∙ c.requires.is)

pair : (c : Joined-eq) → Pair c.args.store.now c.clause-id.result c.args.falsified c.if-eq.other
pair c =
    let o : IsOther c.watched.result.0 c.watched.result.1 c.args.falsified c.if-eq.other = elim c.if-eq.branch [
      | then-eq w ↦ inl (same_lit c.watched.result.0 c.args.falsified (sym c.eq.ensures ∙ w.if-eq.true), w.other-is)
      | else-eq w ↦ inr (other_lit c.watched.result.0 c.args.falsified (sym c.eq.ensures ∙ w.if-eq.false), w.other-is)
    ] in
    pair_is c.args.trail.now.vars c.args.store.now c.args.lists.now c.clause-id.result c.args.place c.args.falsified c.watched.result.0 c.watched.result.1 c.if-eq.other c.requires.can.are_rows c.requires.can.watched c.requires.within (c.clause-id.ensures ∙ c.requires.is) (c.watched.ensures.first no_row) (c.watched.ensures.second no_row) o

about : (c : Joined-eq) → IsAbout c.args.trail.now.vars c.if-eq.other
about c = let p = pair c in All-contains (IsAbout c.args.trail.now.vars) (row_at c.args.store.now c.clause-id.result).lits c.if-eq.other (c.requires.can.are_rows c.clause-id.result p.within).within p.own

found : (c : In-Some) → Found (lits_of c.args.trail.now.steps) (row_at c.args.store.now c.clause-id.result).lits c.if-eq.other c.in-Some.found.lit
found c = record { stands = subst (λ xs. Contains xs c.in-Some.found.lit) (c.clause.ensures.lits no_row) c.in-Some.ensures.0; differs = c.in-Some.ensures.1; not_false = c.in-Some.ensures.2 }

pub watched-requires : goal.watched-requires
watched-requires c = known (goal.at.watched-requires c).After-clause-id

pub is_true-requires : goal.is_true-requires
is_true-requires c = (about (goal.at.is_true-requires c).Joined-eq).within

pub returns-then-is_true-clause-can : goal.returns-then-is_true-clause-can
returns-then-is_true-clause-can c =
    let p = pair (goal.at.returns-then-is_true-clause-can c).Joined-eq in
    let lists = c.args.lists.now in
    let k = code_of c.args.falsified in
    let new : WatchValue = record { clause = c.args.watch.clause; pair = c.args.watch.pair; blocker = c.if-eq.other } in
    can_replace c.args.store.now lists c.replace.new.self c.args.trail.now k new c.requires.can c.replace.ensures.lists c.replace.ensures.rooms c.replace.ensures.uses (subst (IsOnlyNew lists.watches c.replace.new.self.watches k) c.blocked_by.ensures c.replace.ensures.watches)
    (long_blocked c.args.store.now c.args.watch.clause k new (subst (λ n. Contains (row_at c.args.store.now n).lits c.if-eq.other) c.clause-id.ensures p.own) c.requires.long)

pub returns-then-is_true-clause-scanned : goal.returns-then-is_true-clause-scanned
returns-then-is_true-clause-scanned c = scanned_same c.args.falsified c.args.store.now c.args.trail.now

pub returns-then-is_true-clause-handled : goal.returns-then-is_true-clause-handled
returns-then-is_true-clause-handled c = λ h. rw (← c.requires.is, ← c.clause-id.ensures) (c.if-eq.other, (pair (goal.at.returns-then-is_true-clause-handled c).Joined-eq).own, c.is_true.ensures.0 c.if-is_true.true)

pub clause-requires : goal.clause-requires
clause-requires c = known (goal.at.clause-requires c).After-clause-id

pub next-requires : goal.next-requires
next-requires c = known (goal.at.next-requires c).After-clause-id

pub another-requires : goal.another-requires
another-requires c = subst (All (IsAbout c.args.trail.now.vars)) (sym (c.clause.ensures.lits no_row)) (c.requires.can.are_rows c.clause-id.result (known (goal.at.another-requires c).After-clause-id)).within

pub watch-requires : goal.watch-requires
watch-requires c = known (goal.at.watch-requires c).After-clause-id

pub shift-requires-clause-to_known : goal.shift-requires-clause-to_known
shift-requires-clause-to_known c =
    let t = c.args.trail.now in
    let row = c.requires.can.are_rows c.clause-id.result (known (goal.at.shift-requires-clause-to_known c).After-clause-id) in
    let n = found (goal.at.shift-requires-clause-to_known c).In-Some in
    omega (arith, code_within t.vars c.in-Some.found.lit (All-contains (IsAbout t.vars) (row_at c.args.store.now c.clause-id.result).lits c.in-Some.found.lit row.within n.stands), c.requires.can.are_lists.lists_len)

pub shift-requires-clause-room : goal.shift-requires-clause-room
shift-requires-clause-room c =
    let at = goal.at.shift-requires-clause-room c in
    found_room c.args.store.now c.args.lists.now (lits_of c.args.trail.now.steps) c.clause-id.result c.args.falsified c.if-eq.other c.in-Some.found.lit c.requires.can.watched (pair at.Joined-eq) c.requires.is_false (found at.In-Some)

pub returns-in-Some : goal.returns-in-Some
returns-in-Some c =
    let id = c.clause-id.result in
    let store = c.args.store.now in
    let lists = c.args.lists.now in
    let t = c.args.trail.now in
    let falsified = c.args.falsified in
    let place = c.args.place in
    let other = c.if-eq.other in
    let x = c.in-Some.found.lit in
    let k = code_of falsified in
    let p = pair (goal.at.returns-in-Some c).Joined-eq in
    let n = found (goal.at.returns-in-Some c).In-Some in
    let row = c.requires.can.are_rows id p.within in
    let wa : k < length lists.lists = omega (arith, code_within t.vars falsified c.requires.of, c.requires.can.are_lists.lists_len) in
    let wb : code_of x < length lists.lists = omega (arith, code_within t.vars x (All-contains (IsAbout t.vars) (row_at store id).lits x row.within n.stands), c.requires.can.are_lists.lists_len) in
    let rows-is : c.watch.new.self ≡ rewatched store id other x = c.watch.ensures no_row in
    let new : ListsValue = record { watches = lists.watches; lists = shifted lists.lists k place (code_of x) id; rooms = lists.rooms; uses = lists.uses } in
    let lists-is : c.shift.new.self.lists ≡ new.lists = c.shift.ensures.lists ∙ ap (shifted lists.lists k place (code_of x)) (ap (λ v. v.clause) c.blocked_by-in-Some.ensures ∙ sym c.clause-id.ensures) in
    let here : list_at c.shift.new.self.lists k ≡ swap_remove (list_at lists.lists k) place id = ap (λ ls. list_at ls k) lists-is ∙ shifted_a lists.lists k place (code_of x) id wa (found_apart (lits_of t.steps) (row_at store id).lits falsified other x c.requires.is_false n) in
    let scanned = rewatched_scanned store t id falsified other x p n in
    let w : IsWatched (rewatched store id other x) new = rewatched_is store lists (lits_of t.steps) id place falsified other x c.requires.can.watched p c.requires.is_false n wa wb c.requires.within (sym (c.clause-id.ensures ∙ c.requires.is)) in
    let entry : WatchValue = record { clause = c.args.watch.clause; pair = c.args.watch.pair; blocker = other } in
    let blocked : AreBlocked (clauses_of store) c.shift.new.self.watches = blocked_new (clauses_of store) lists.watches c.shift.new.self.watches (code_of x) entry c.requires.can.blocked (subst (IsOnlyNew lists.watches c.shift.new.self.watches (code_of x)) c.blocked_by-in-Some.ensures c.shift.ensures.watches)
    (long_blocked store c.args.watch.clause (code_of x) entry (subst (λ m. Contains (row_at store m).lits other) c.clause-id.ensures p.own) c.requires.long) in
    record {
      can = record {
        are_lists = record { lists_len = rw (lists-is, length-set, length-set) c.requires.can.are_lists.lists_len; rooms_len = rw c.shift.ensures.rooms c.requires.can.are_lists.rooms_len; uses_len = rw c.shift.ensures.uses c.requires.can.are_lists.uses_len };
        are_rows = subst (AreRows t.vars) (sym rows-is) (rewatched_rows t.vars store (lits_of t.steps) id falsified other x c.requires.can.are_rows p n);
        watched = subst (λ rows. IsWatched rows c.shift.new.self) (sym rows-is) (watched_same (rewatched store id other x) new c.shift.new.self w lists-is c.shift.ensures.rooms c.shift.ensures.uses);
        blocked = subst (λ rows. AreBlocked (clauses_of rows) c.shift.new.self.watches) (sym rows-is) (subst (λ cs. AreBlocked cs c.shift.new.self.watches) (sym scanned.same) blocked);
      };
      scanned = subst (λ rows. Scanned falsified store t rows t) (sym rows-is) scanned;
      long = omega (arith, ap length here, length_removed (list_at lists.lists k) place id c.requires.within, c.requires.within);
      front = λ j h. ap (λ xs. get_or xs j 0) here ∙ removed_front (list_at lists.lists k) place id j c.requires.within h;
      handled = λ h. absurd (omega (arith, h, ap (λ i. watch_count (row_at c.watch.new.self i) k) (sym (c.clause-id.ensures ∙ c.requires.is)), ap (λ rows. watch_count (row_at rows id) k) rows-is, rewatched_not store (lits_of t.steps) id falsified other x p c.requires.is_false n));
    }

pub is_false-requires : goal.is_false-requires
is_false-requires c = (about (goal.at.is_false-requires c).Joined-eq).within

pub returns-then-is_false-clause-scanned : goal.returns-then-is_false-clause-scanned
returns-then-is_false-clause-scanned c = scanned_same c.args.falsified c.args.store.now c.args.trail.now

pub returns-then-is_false-clause-handled : goal.returns-then-is_false-clause-handled
returns-then-is_false-clause-handled c = (
  known (goal.at.returns-then-is_false-clause-handled c).After-clause-id,
  λ l h. ⊎_elim (λ e. subst (IsFalse (lits_of c.args.trail.now.steps)) (sym e) (c.is_false.ensures.0 c.if-is_false.true)) (λ f. f) (c.in_default.ensures l (subst (λ xs. Contains xs l) (sym (c.clause.ensures.lits no_row)) h)),
)

pub push-requires-clause-within : goal.push-requires-clause-within
push-requires-clause-within c = (about (goal.at.push-requires-clause-within c).Joined-eq).within

pub push-requires-clause-small : goal.push-requires-clause-small
push-requires-clause-small c = let w = known (goal.at.push-requires-clause-small c).After-clause-id in omega (arith, w, c.clause.ensures.small)

pub returns-clause-scanned : goal.returns-clause-scanned
returns-clause-scanned c =
    let p = pair (goal.at.returns-clause-scanned c).Joined-eq in
    pushed_scanned c.args.store.now c.args.trail.now c.push.new.self c.clause-id.result c.args.falsified c.if-eq.other p.within p.own p.own_false (open_by _ _ _ _ c.is_true.ensures c.is_false.ensures c.if-is_true.false c.if-is_false.false) (λ l h. c.in_default.ensures l (subst (λ xs. Contains xs l) (sym (c.clause.ensures.lits no_row)) h)) c.push.ensures

pub returns-clause-handled : goal.returns-clause-handled
returns-clause-handled c = λ h. pushed_satisfied _ _ _ _ _ _ (pair (goal.at.returns-clause-handled c).Joined-eq).own c.push.ensures (c.clause-id.ensures ∙ c.requires.is)
