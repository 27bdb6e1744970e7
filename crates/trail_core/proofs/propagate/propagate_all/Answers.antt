use Rattle.std.proofs.Common.{◌≡◌, ◌≢◌, ◌<◌, length, get_or, refl, sym, ap, ◌∙◌, subst, arith, Contains}
use Rattle.cnf_formula.specs.Literals.{LitValue, negation}
use Rattle.trail_core.specs.{Trails.lits_of, Search.{Implied, clauses_of}, Kept.{IsDue, IsKept}}
use Rattle.trail_core.proofs.{Scans.{implied_trans, implied_grows, lits_same}, Keeping.{kept_extend, kept_next, scan_due, done_by, nil_limits, stays_at, implied_longer, IsStarted, kept_settled, started_low, started_high}}
use Rattle.trail_core.proofs.propagate.propagate_all.Goals.{After-scan, then-depth-eq0+in_default, else-depth-eq0}
use Rattle.trail_core.proofs.propagate.propagate_all.Goals as goal

-- the literal that is scanned for is false, and what the scan made true was due
is_next : (c : After-scan) → (d : LitValue) → c.negated-falsified.result ≡ negation (get_or (lits_of c.loop-at.trail.steps) c.loop-at.at d)
is_next c d = c.negated-falsified.ensures ∙ ap negation (c.lit.ensures.is d)

waits : (c : After-scan) → c.loop-at.at < length c.loop-at.trail.steps
waits c = omega (arith, c.loop-at-test.true, c.len.ensures.count)

due : (c : After-scan) → Implied (clauses_of c.loop-at.store) (IsDue c.loop-at.trail.limits) c.loop-at.trail.steps c.scan.new.trail.steps
due c = scan_due c.loop-at.trail.limits c.loop-at.at c.negated-falsified.result (waits c) (is_next c) c.loop-at.invariant.kept.head_above c.scan.ensures.scanned.implied

kept : (c : After-scan) → IsKept c.scan.new.store c.scan.new.lists c.scan.new.trail c.loop-at.at c.args.short.now
kept c = let s = c.scan.ensures.scanned in kept_extend c.loop-at.store c.scan.new.store c.loop-at.lists c.scan.new.lists c.loop-at.trail c.scan.new.trail c.loop-at.at c.args.short.now c.loop-at.invariant.kept c.scan.ensures.can s.limits s.count s.same s.watches (due c)

implied : (c : After-scan) → Implied (clauses_of c.args.store.now) (IsDue c.args.trail.now.limits) c.args.trail.now.steps c.scan.new.trail.steps
implied c = grind (arith, implied_trans, due)

pub settle_all-requires : goal.settle_all-requires
settle_all-requires c =
    record { rows = c.requires.can.are_rows; short = c.requires.short_within; bottom = nil_limits c.args.trail.now.limits (omega (arith, c.if-depth-eq0.true, c.depth.ensures)) }

pub returns-in-Some-clause-kept : goal.returns-in-Some-clause-kept
returns-in-Some-clause-kept c =
    let e = c.settle_all.ensures in
    kept_settled c.args.store.now c.args.lists.now c.args.trail.now c.settle_all.new.trail c.args.head.now c.args.short.now c.requires (ap (λ u. u.vars) e.same) (ap (λ u. u.limits) e.same) (omega (arith, c.if-depth-eq0.true, c.depth.ensures)) e.implied

pub returns-in-Some-clause-implied : goal.returns-in-Some-clause-implied
returns-in-Some-clause-implied c = grind (arith, nil_limits)

pub loop-at-init : goal.loop-at-init
loop-at-init c =
    let rows = c.args.store.now in
    let w = c.args.lists.now in
    let t = c.args.trail.now in
    let head = c.args.head.now in
    let short = c.args.short.now in
    let s : IsStarted rows w t head short c.if-depth-eq0.trail = elim c.if-depth-eq0.branch [
      | then-depth-eq0+in_default b ↦
          let e = b.settle_all.ensures in
          subst (IsStarted rows w t head short) (sym b.trail-is) (started_low rows w t b.settle_all.new.trail head short c.requires (ap (λ u. u.vars) e.same) (ap (λ u. u.limits) e.same) (omega (arith, b.if-depth-eq0.true, c.depth.ensures)) e.implied b.in_default.ensures.settled)
      | else-depth-eq0 b ↦
          let z : length t.limits ≢ 0 = λ n. b.if-depth-eq0.false (c.depth.ensures ∙ n) in
          subst (IsStarted rows w t head short) (sym b.trail-is) (started_high rows w t head short c.requires (omega (arith, z)))
    ] in
    record { kept = s.kept; vars = s.vars; limits = s.limits; same = refl; implied = s.implied; short_true = s.short_true }

pub returns-in-Some-scan-clause-kept : goal.returns-in-Some-scan-clause-kept
returns-in-Some-scan-clause-kept c = kept (goal.at.returns-in-Some-scan-clause-kept c).After-scan

pub returns-in-Some-scan-clause-implied : goal.returns-in-Some-scan-clause-implied
returns-in-Some-scan-clause-implied c = implied (goal.at.returns-in-Some-scan-clause-implied c).After-scan

pub loop-at-preserved : goal.loop-at-preserved
loop-at-preserved c =
    let l = c.loop-at in
    let i = l.invariant in
    let n = c.scan.new in
    let s = c.scan.ensures.scanned in
    let after = (goal.at.loop-at-preserved c).After-scan in
    let at< = waits after in
    record {
      kept = kept_next n.store n.lists n.trail l.at c.args.short.now c.negated-falsified.result (kept after) (omega (arith, at<, implied_longer s.implied)) (λ d. is_next after d ∙ ap negation (sym (stays_at s.implied l.at d at<))) c.in_default-scan.ensures.handled;
      vars = s.vars ∙ i.vars;
      limits = s.limits ∙ i.limits;
      same = s.same ∙ i.same;
      implied = implied after;
      short_true = λ e v h.
          let q = lits_same l.store n.store e s.same in
          let x = i.short_true e (omega (arith, v, s.count)) (omega (arith, h, ap length q)) in
          (x.0, subst (λ xs. Contains xs x.0) (sym q) x.1, implied_grows s.implied x.0 x.2);
    }

pub returns-clause-answer : goal.returns-clause-answer
returns-clause-answer c =
    let l = c.loop-at in
    done_by l.store l.lists l.trail l.at c.args.short.now l.invariant.kept (omega (arith, c.loop-at-test.false, c.len.ensures.count)) l.invariant.short_true c.len.ensures.consistent
