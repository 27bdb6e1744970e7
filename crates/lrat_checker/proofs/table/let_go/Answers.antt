use Rattle.std.proofs.Common.{◌≡◌, false, get_or, refl, sym, ap, ◌∙◌}
use Rattle.lrat_checker.{specs.Stored.is_live, proofs.{Removed.{kept_none, live_at, live_not, one_goes, one_stays}, table.let_go.Goals.{in_default-via-in-Some+else-live-place, in_default-via-in_default}}}
use Rattle.lrat_checker.proofs.table.let_go.Goals as goal

pub loop-taken-init : goal.loop-taken-init
loop-taken-init c = record { lives = sym (kept_none c.args.ids.now c.args.live.now c.requires.lives); held = refl; once = refl }

pub loop-taken-preserved : goal.loop-taken-preserved
loop-taken-preserved c =
    let i = c.loop-taken.invariant in
    let g = one_goes c.args.ids.now c.args.live.now c.loop-taken.live c.args.gone.now c.in-Some.place c.loop-taken.taken c.requires.rises c.requires.lives c.loop-taken-test.true c.in-Some.ensures.0 c.in-Some.ensures.1 i.lives c.if-live-place.true i.held i.once in
    record { lives = g.lives; held = g.held; once = g.once }

pub returns-in_default-clause-answer : goal.returns-in_default-clause-answer
returns-in_default-clause-answer c =
    let ids = c.args.ids.now in
    let now = c.loop-taken.live in
    let gone = c.args.gone.now in
    let k = c.loop-taken.taken in
    let not_live : is_live ids now (get_or gone k 0) ≡ false = elim c.in_default.branch [
      | in_default-via-in-Some+else-live-place w ↦ ap (is_live ids now) (sym w.in-Some.ensures.1) ∙ live_at ids now w.in-Some.place c.requires.rises (c.loop-taken.auto.live ∙ c.requires.lives) w.in-Some.ensures.0 ∙ w.if-live-place.false
      | in_default-via-in_default w ↦ live_not ids now (get_or gone k 0) w.in_default.ensures
    ] in
    sym (one_stays ids c.args.live.now now gone k c.loop-taken-test.true c.loop-taken.invariant.lives not_live)
