use Rattle.std.proofs.{lemmas.List.{get_or-set_other, length-set}, Common.{◌≢◌, ◌≤◌, [], ◌∷◌, ◌++◌, length, get_or, take, sym, ap, ◌∙◌, subst, arith, Contains}}
use Rattle.std.proofs.lemmas.List.Elements.{All-contains, Contains-append_left, Contains-push}
use Rattle.cnf_formula.{specs.{Literals.{LitValue, code_of}, Formulas.IsAbout}, proofs.Codes.{same_code, code_within}}
use Rattle.trail_core.specs.{Watching.{RowValue, AreLists, list_at}, Kept.IsKept, Search.{CanScan}, Trails.lits_of}
use Rattle.trail_core.proofs.{Watching.{occurs, count_short}, Blocking.{blocked_held, blocked_short}, Added.{watched_add, watched_more, own_count, put_short, put_two, kept_add, kept_lists, rows_add, shorts_add, shorts_push, unseen_by}}
use Rattle.trail_core.proofs.adding.hold.Goals.{After-admit_all}
use Rattle.trail_core.proofs.adding.hold.Goals as goal

-- the lists have room for the clause
admitted : (c : After-admit_all) → IsKept c.args.store.now c.admit_all.new.lists c.args.trail.now c.args.head.now c.args.short.now.items
admitted c =
    let rows = c.args.store.now in
    let n = c.admit_all.new.lists in
    let e = c.admit_all.ensures in
    kept_lists rows c.args.lists.now n c.args.trail.now c.args.head.now c.args.short.now.items c.requires.kept (subst (λ m. AreLists m n) c.vars.ensures e.are_lists) (watched_more rows c.args.lists.now n c.requires.kept.can.watched e.lists e.more e.room) e.watches

pub admit_all-requires-clause-lists : goal.admit_all-requires-clause-lists
admit_all-requires-clause-lists c = rw c.vars.ensures c.requires.kept.can.are_lists

pub admit_all-requires-clause-room : goal.admit_all-requires-clause-room
admit_all-requires-clause-room c = let w = c.requires.kept.can.watched in record { few = λ k. omega (arith, w.room k); fits = w.fits }

pub returns-in_err-number-clause-kept : goal.returns-in_err-number-clause-kept
returns-in_err-number-clause-kept c = rw (c.in_err-number.ensures.err, c.admit_short.ensures.items) (admitted (goal.at.returns-in_err-number-clause-kept c).After-admit_all)

pub returns-in_err-admit_all-clause-kept : goal.returns-in_err-admit_all-clause-kept
returns-in_err-admit_all-clause-kept c = subst (λ ss. IsKept c.args.store.now c.admit_all.new.lists c.args.trail.now c.args.head.now ss) (sym c.admit_short.ensures.items) (admitted (goal.at.returns-in_err-admit_all-clause-kept c).After-admit_all)

pub add-requires-clause-known : goal.add-requires-clause-known
add-requires-clause-known c =
    let l = c.watches-first.result.0 in
    let own = c.watches-first.ensures.first c.if-lits-gt1.true in
    omega (arith, code_within c.args.trail.now.vars l (All-contains (IsAbout c.args.trail.now.vars) c.args.lits.now l c.requires.within own), c.requires.kept.can.are_lists.lists_len, ap length c.admit_all.ensures.lists)

pub add-requires-clause-room : goal.add-requires-clause-room
add-requires-clause-room c =
    let a = code_of c.watches-first.result.0 in
    let one = occurs c.args.lits.now c.watches-first.result.0 (c.watches-first.ensures.first c.if-lits-gt1.true) in
    omega (arith, ap (λ ls. length (list_at ls a)) c.admit_all.ensures.lists, c.requires.kept.can.watched.room a, c.in_ok-admit_all.ensures.ok a, one, c.admit_all.ensures.room.fits a)

pub add-requires-then-lits-gt1-clause-room : goal.add-requires-then-lits-gt1-clause-room
add-requires-then-lits-gt1-clause-room c =
    let n = c.admit_all.new.lists in
    let a = code_of c.watches-first.result.0 in
    let b = code_of c.watches-first.result.1 in
    let apart : b ≢ a = λ e. c.watches-first.ensures.differ c.if-lits-gt1.true (same_code c.watches-first.result.0 c.watches-first.result.1 (sym e)) in
    let same = ap (λ ls. list_at ls b) c.add.ensures.lists ∙ get_or-set_other n.lists a b (list_at n.lists a ++ c.new.result.clause ∷ []) [] apart ∙ ap (λ ls. list_at ls b) c.admit_all.ensures.lists in
    let one = occurs c.args.lits.now c.watches-first.result.1 (c.watches-first.ensures.second c.if-lits-gt1.true) in
    omega (arith, ap length same, ap (λ rs. get_or rs b 0) c.add.ensures.rooms, c.requires.kept.can.watched.room b, c.in_ok-admit_all.ensures.ok b, one, c.admit_all.ensures.room.fits b)

pub returns-then-lits-gt1-clause-kept : goal.returns-then-lits-gt1-clause-kept
returns-then-lits-gt1-clause-kept c =
    let rows = c.args.store.now in
    let old = c.args.lists.now in
    let t = c.args.trail.now in
    let r : RowValue = record { lits = c.args.lits.now; first = c.watches-first.result.0; second = c.watches-first.result.1 } in
    let e = c.watches-first.ensures in
    let h = c.if-lits-gt1.true in
    let w' = c.add-then-lits-gt1.new.self in
    let known = λ (l : LitValue) (own : Contains r.lits l). code_within t.vars l (All-contains (IsAbout t.vars) r.lits l c.requires.within own) in
    let put = put_two old.lists r (length rows) h (e.differ h) (omega (arith, known r.first (e.first h), c.requires.kept.can.are_lists.lists_len)) (omega (arith, known r.second (e.second h), c.requires.kept.can.are_lists.lists_len)) in
    let lens = c.admit_all.ensures.are_lists in
    let x = c.add.ensures in
    let y = c.add-then-lits-gt1.ensures in
    let can : CanScan (rows ++ r ∷ []) w' t = record {
      are_lists = record { lists_len = rw (y.lists, length-set, x.lists, length-set, ← c.vars.ensures) lens.lists_len; rooms_len = rw (y.rooms, x.rooms, ← c.vars.ensures) lens.rooms_len; uses_len = rw (y.uses, x.uses, ← c.vars.ensures) lens.uses_len };
      are_rows = rows_add t.vars rows r c.requires.kept.can.are_rows (record { within = c.requires.within; first = e.first; second = e.second; differ = e.differ });
      watched = watched_add rows old w' r c.requires.kept.can.watched (λ k. rw (y.lists, c.new-then-lits-gt1.ensures, x.lists, c.new.ensures, c.admit_all.ensures.lists, c.in_ok-number.ensures.ok.0) (put k)) (λ k. rw (y.uses, x.uses) (c.in_ok-admit_all.ensures.ok k))
          (λ k. rw (y.uses, x.uses, y.rooms, x.rooms) (c.admit_all.ensures.room.fits k)) (λ k. own_count r k e.first e.second e.differ);
      blocked = blocked_held rows r old.watches c.add.new.self.watches w'.watches c.in_ok-number.number c.requires.kept.can.blocked c.in_ok-number.ensures.ok.0 (e.first h) (e.second h) (e.differ h)
          (rw (c.admit_all.ensures.watches, c.new.ensures) at c.add.ensures.watches) (rw c.new-then-lits-gt1.ensures at c.add-then-lits-gt1.ensures.watches);
    } in
    rw (c.in_ok-number.ensures.ok.1, c.admit_short.ensures.items) (kept_add rows old w' t c.args.head.now c.resumed.result c.args.short.now.items c.args.short.now.items r c.requires.kept can (λ above. h)
    c.resumed.ensures.below c.resumed.ensures.above (unseen_by r (take c.resumed.result (lits_of t.steps)) c.resumed.ensures.first c.resumed.ensures.second)
    (λ k y. y) (λ y. absurd (omega (arith, y, h))) (shorts_add rows r c.args.short.now.items c.requires.kept.short_within))

pub returns-else-lits-gt1-clause-kept : goal.returns-else-lits-gt1-clause-kept
returns-else-lits-gt1-clause-kept c =
    let rows = c.args.store.now in
    let old = c.args.lists.now in
    let short = c.args.short.now.items in
    let n = c.admit_all.new.lists in
    let t = c.args.trail.now in
    let r : RowValue = record { lits = c.args.lits.now; first = c.watches-first.result.0; second = c.watches-first.result.1 } in
    let e = c.watches-first.ensures in
    let h : length r.lits ≤ 1 = c.if-lits-gt1.false in
    let put = put_short old.lists r (length rows) h in
    let can : CanScan (rows ++ r ∷ []) n t = record {
      are_lists = rw c.vars.ensures at c.admit_all.ensures.are_lists;
      are_rows = rows_add t.vars rows r c.requires.kept.can.are_rows (record { within = c.requires.within; first = e.first; second = e.second; differ = e.differ });
      watched = watched_add rows old n r c.requires.kept.can.watched (λ k. rw c.admit_all.ensures.lists (put k)) c.in_ok-admit_all.ensures.ok c.admit_all.ensures.room.fits (λ k. own_count r k e.first e.second e.differ);
      blocked = blocked_short rows r old.watches n.watches c.requires.kept.can.blocked c.admit_all.ensures.watches;
    } in
    rw (c.in_ok-number.ensures.ok.1, c.push_reserved.ensures.items, c.admit_short.ensures.items, c.in_ok-number.ensures.ok.0) (kept_add rows old n t c.args.head.now c.args.head.now short (short ++ length rows ∷ []) r c.requires.kept can (λ above. (e.above above).2)
    (omega arith) c.requires.kept.head_above (λ l y. absurd (omega (arith, y, count_short r (code_of l) h)))
    (λ k y. Contains-append_left short (length rows ∷ []) k y) (λ y. Contains-push short (length rows)) (shorts_push rows r short c.requires.kept.short_within h))
