use Rattle.std.proofs.Common.{◌+◌, ◌-◌, ℕ, ◌<◌, length, get_or, subst, arith, Contains}
use Rattle.trail_core.specs.{Formed.IsTrail, Meaning.CoreValue}
use Rattle.conflict_analysis.{specs.{Met.{value_of, WalkValue, IsSorted, IsPassed}, inner.Walks.HasWalked}, proofs.{Levels.limits_rise, Middle.{middle_at, passed_lower, walked_lower}, Resolved.{walked_on, open_on}, Waiting.walked_none}}
use Rattle.conflict_analysis.proofs.shrinking.walk_level.Goals as goal

-- before a walk over a level
begun : (core : CoreValue) (w : WalkValue) (level : ℕ) → IsTrail core.vars core.trail core.limits → IsSorted core w → level < length core.limits → IsPassed core 3 w (get_or core.limits level 0) → HasWalked core 3 w w (get_or core.limits level 0)
begun core w level t s below p = walked_none core 3 w (get_or core.limits level 0) (let end = t.levels.below level below in omega (arith, end)) s p

pub returns-then-kept-lt2 : goal.returns-then-kept-lt2
returns-then-kept-lt2 c =
    let core = c.args.core.now in
    let w : WalkValue = value_of c.args.walk.now in
    let level = c.args.level in
    let rise = limits_rise core.limits (length core.trail) (level - 1) level c.requires.formed.levels (omega arith) c.requires.below in
    record { walked = walked_lower core w w (level - 1) (get_or core.limits level 0) (get_or core.limits (level - 1) 0) c.requires.formed (omega (arith, c.requires.below)) (omega arith) rise (begun core w level c.requires.formed c.requires.sorted c.requires.below c.requires.passed); same = record { before = λ k v e. e; after = λ k v e. e } }

pub loop-walk-init : goal.loop-walk-init
loop-walk-init c =
    let core = c.args.core.now in
    let level = c.args.level in
    let to = c.height-to.ensures.below c.requires.below in
    let rise = limits_rise core.limits (length core.trail) (level - 1) level c.requires.formed.levels (omega arith) c.requires.below in
    record { under = omega (arith, to); above = omega (arith, rise, to); walked = rw to (begun core (value_of c.args.walk.now) level c.requires.formed c.requires.sorted c.requires.below c.requires.passed); same = record { before = λ k v e. e; after = λ k v e. e } }

pub is_spare-requires : goal.is_spare-requires
is_spare-requires c =
    let inv = c.loop-walk.invariant in
    let middle = middle_at c.args.core.now c.args.level c.in-Some.next c.requires.formed c.requires.below (omega (arith, inv.under, c.in-Some.ensures.1)) in
    record { sorted = inv.walked.sorted; few = omega (arith, inv.walked.onward.stamp, c.requires.few); place = middle.within }

pub resolve-requires : goal.resolve-requires
resolve-requires c = record { few = omega (arith, c.loop-walk.invariant.walked.onward.stamp, c.requires.few); step = c.is_spare.ensures c.if-is_spare.true }

pub count-requires : goal.count-requires
count-requires c = λ o h. (c.in_ok-resolve.ensures.met.sorted.kept.of o (subst (λ xs. Contains xs o) c.deref.ensures.value h)).1

pub loop-walk-preserved-then-is_spare : goal.loop-walk-preserved-then-is_spare
loop-walk-preserved-then-is_spare c =
    let core = c.args.core.now in
    let level = c.args.level in
    let k = c.in-Some.next in
    let inv = c.loop-walk.invariant in
    let old : WalkValue = value_of c.args.walk.now in
    let w : WalkValue = value_of c.loop-walk.walk in
    let after : WalkValue = value_of c.resolve.new.walk in
    let from = c.height-from.ensures.below (omega (arith, c.requires.below)) in
    let middle = middle_at core level k c.requires.formed c.requires.below (omega (arith, inv.under, c.in-Some.ensures.1)) in
    let passed = passed_lower core w (level - 1) c.loop-walk.place (k + 1) c.requires.formed (omega (arith, c.requires.below)) (omega (arith, from, c.in-Some.ensures.0)) (omega (arith, c.in-Some.ensures.1)) inv.walked.sorted inv.walked.passed in
    record {
      under = omega (arith, inv.under, c.in-Some.ensures.1);
      above = omega (arith, from, c.in-Some.ensures.0);
      walked = walked_on core old w after w.open_ w.zeros k c.in_ok-resolve.ensures 3 (λ h. omega (arith, h)) inv.walked.onward passed;
      same = open_on core old w after w.open_ w.zeros k c.in_ok-resolve.ensures (λ some. middle.lower) inv.same;
    }

pub loop-walk-preserved : goal.loop-walk-preserved
loop-walk-preserved c =
    let inv = c.loop-walk.invariant in
    let from = c.height-from.ensures.below (omega (arith, c.requires.below)) in
    let walked = walked_lower c.args.core.now (value_of c.args.walk.now) (value_of c.loop-walk.walk) (c.args.level - 1) c.loop-walk.place c.in-Some.next c.requires.formed (omega (arith, c.requires.below)) (omega (arith, from, c.in-Some.ensures.0)) (omega (arith, c.in-Some.ensures.1)) inv.walked in
    record { under = omega (arith, inv.under, c.in-Some.ensures.1); above = omega (arith, from, c.in-Some.ensures.0); walked = walked; same = inv.same }

pub returns-clause-walked : goal.returns-clause-walked
returns-clause-walked c =
    let inv = c.loop-walk.invariant in
    walked_lower c.args.core.now (value_of c.args.walk.now) (value_of c.loop-walk.walk) (c.args.level - 1) c.loop-walk.place (get_or c.args.core.now.limits (c.args.level - 1) 0) c.requires.formed (omega (arith, c.requires.below)) (omega arith) inv.above inv.walked
