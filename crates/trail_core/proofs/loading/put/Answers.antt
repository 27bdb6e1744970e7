use Rattle.std.proofs.{Common.{◌≡◌, ◌≢◌, ◌<◌, ◌≤◌, ℕ, List, [], ◌∷◌, ◌++◌, length, refl, arith}, lemmas.List.{get_or_read, Elements.{Contains-append_left, Contains-push, Contains-get_or}}}
use Rattle.cnf_formula.specs.Literals.{yes}
use Rattle.trail_core.specs.{inner.Begun.{front_row}}
use Rattle.trail_core.proofs.{Added.{put_short, put_two, shorts_add, shorts_push}, Begun.{begun_add, front_own}, Blocking.{blocked_held, blocked_short}}
use Rattle.trail_core.proofs.loading.put.Goals as goal

pub returns-in_ok-put_short-clause-begun : goal.returns-in_ok-put_short-clause-begun
returns-in_ok-put_short-clause-begun c = λ rows n b.
    let w = c.args.lists.now in
    let short : List ℕ = c.args.short.now.items in
    let r = front_row c.args.lits.now in
    let few : length c.args.lits.now ≤ 1 = omega (arith, c.in_default.len_below) in
    rw (c.in_ok-put_short.ensures, n) (begun_add rows w w r short (short ++ length rows ∷ []) b (put_short w.lists r (length rows) few) (front_own c.args.lits.now c.requires.once) (blocked_short rows r w.watches w.watches b.blocked refl)
    (λ e h. Contains-append_left short (length rows ∷ []) e h) (λ h. Contains-push short (length rows)) (shorts_push rows r short b.short_within few))

pub returns-in-len2-up-clause-begun : goal.returns-in-len2-up-clause-begun
returns-in-len2-up-clause-begun c = λ rows n b.
    let old = c.args.lists.now in
    let lits = c.args.lits.now in
    let short : List ℕ = c.args.short.now.items in
    let r = front_row lits in
    let h : 1 < length lits = omega (arith, c.in-len2-up.len_at_least) in
    let h0 : 0 < length lits = omega (arith, h) in
    let ex : c.first-item.result ≡ r.first = get_or_read lits 0 c.first-item.result h0 c.first-item.is (yes 1) in
    let ey : c.second-item.result ≡ r.second = get_or_read lits 1 c.second-item.result h c.second-item.is (yes 1) in
    let differ : r.first ≢ r.second = c.requires.once 0 1 (yes 1) (omega arith) h in
    let put = put_two old.lists r (length rows) h differ (c.requires.known 0 (yes 1) h0) (c.requires.known 1 (yes 1) h) in
    begun_add rows old c.add-in-len2-up.new.self r short short b (λ k. grind (arith, put k)) (front_own lits c.requires.once)
    (blocked_held rows r old.watches c.add.new.self.watches c.add-in-len2-up.new.self.watches c.args.number b.blocked n (Contains-get_or lits 0 (yes 1) h0) (Contains-get_or lits 1 (yes 1) h) differ (rw (c.new.ensures, ex, ey) at c.add.ensures.watches) (rw (c.new-in-len2-up.ensures, ex, ey) at c.add-in-len2-up.ensures.watches))
    (λ e k. k) (λ k. absurd (omega (arith, k, h))) (shorts_add rows r short b.short_within)
