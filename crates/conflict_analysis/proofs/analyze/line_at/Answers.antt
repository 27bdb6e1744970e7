use Rattle.std.proofs.{Common.{of_z, to_z, rules, w64, Option, ◌≡◌, ◌+◌, [], ◌∷◌, ◌++◌, sym, ap, ◌∙◌, arith, pos, reverse}, lemmas.{Int.to_z-of_z, List.append-nil}}
use Rattle.cnf_formula.specs.Literals.{LitValue}
use Rattle.conflict_analysis.specs.Met.{value_of, WalkValue}
use Rattle.conflict_analysis.proofs.{Pointed.{IsBegun, begun_sorted, conflict_within, met_passed, met_open_some}, Learned.{IsEnded, point_lits, learned_by}, Left.{left_kept, left_in, left_sorted, left_passed, left_point, kept_room}}
use Rattle.conflict_analysis.proofs.analyze.line_at.Goals.{After-begin, in-Some+in_ok-push, in_default}
use Rattle.conflict_analysis.proofs.analyze.line_at.Goals as goal

-- nothing is met yet
begun : (c : After-begin) → IsBegun c.args.core.now (value_of c.begin.new.self)
begun c = let e = c.begin.ensures in record { len = e.len ∙ c.requires.rested.len; low = e.low; lits = e.lits; hints = e.hints; open_ = e.open; zeros = e.zeros; none = e.none }

pub meet_all-requires-clause-sorted : goal.meet_all-requires-clause-sorted
meet_all-requires-clause-sorted c = begun_sorted c.args.core.now (value_of c.begin.new.self) (begun (goal.at.meet_all-requires-clause-sorted c).After-begin)

pub meet_all-requires-clause-within : goal.meet_all-requires-clause-within
meet_all-requires-clause-within c = conflict_within c.args.core.now c.args.conflict c.requires.conflict

pub walk_all-requires-clause-passed : goal.walk_all-requires-clause-passed
walk_all-requires-clause-passed c = met_passed c.args.core.now _ (value_of c.begin.new.self) (value_of c.meet_all.new.walk) (begun (goal.at.walk_all-requires-clause-passed c).After-begin) c.in_ok-meet_all.ensures

pub walk_all-requires-clause-some : goal.walk_all-requires-clause-some
walk_all-requires-clause-some c = met_open_some c.args.core.now c.args.conflict (value_of c.begin.new.self) (value_of c.meet_all.new.walk) c.requires.conflict (begun (goal.at.walk_all-requires-clause-some c).After-begin) c.in_ok-meet_all.ensures

pub kept_lits-requires-clause-room : goal.kept_lits-requires-clause-room
kept_lits-requires-clause-room c = kept_room c.args.core.now (value_of c.walk_all.new.walk) c.requires.conflict.formed c.in_ok-point.ensures.walked.sorted

pub returns-clause-learned : goal.returns-clause-learned
returns-clause-learned c =
    let core = c.args.core.now in
    let old : WalkValue = value_of c.walk_all.new.walk in
    let w : WalkValue = left_in old in
    let point : Option LitValue = c.in_ok-point.point in
    let ended : IsEnded core c.args.conflict w point = record {
      conflicts = c.requires.conflict;
      met = λ o h. c.in_ok-point.ensures.walked.onward.seen o (c.in_ok-meet_all.ensures.seen o h);
      sorted = left_sorted core old c.in_ok-point.ensures.walked.sorted;
      exact = λ o h. (left_kept old.stamp old.marks old.lits o h).1;
      none = c.in_ok-point.ensures.none;
      passed = left_passed core 3 old 0 c.in_ok-point.ensures.walked.passed;
      left = left_point core old point c.in_ok-point.ensures.point;
    } in
    let hint : to_z w64 (of_z w64 c.hint.result) ≡ pos (c.args.conflict + 1) = to_z-of_z w64 c.hint.result (search rules) ∙ c.hint.ensures in
    let hints = c.in_ok-push-2.ensures.items ∙ ap (λ x. c.reverse.new.self.items ++ x ∷ []) hint ∙ ap (λ xs. xs ++ pos (c.args.conflict + 1) ∷ []) (c.reverse.ensures.items ∙ ap reverse (c.in_ok-extend_from_slice.ensures.items ∙ ap (λ xs. xs ++ c.deref.result.now) c.in_ok-hints.ensures.items ∙ c.deref.ensures.value)) in
    elim c.match-point.branch [
      | in-Some+in_ok-push b ↦
          let lits = ap (λ v. v.items) b.lits-is ∙ b.in_ok-push.ensures.items ∙ ap (λ xs. xs ++ b.negated.result ∷ []) c.in_ok-lits.ensures ∙ ap (λ x. w.lits ++ x ∷ []) b.negated.ensures ∙ ap (λ q. w.lits ++ point_lits q) (sym b.in-Some.is) in
          learned_by core c.args.conflict w point _ ended (omega (arith, c.from-id.ensures, c.count.ensures)) lits hints
      | in_default b ↦
          let lits = ap (λ v. v.items) b.lits-is ∙ c.in_ok-lits.ensures ∙ sym (append-nil w.lits) ∙ ap (λ q. w.lits ++ point_lits q) (sym b.in_default.is) in
          learned_by core c.args.conflict w point _ ended (omega (arith, c.from-id.ensures, c.count.ensures)) lits hints
    ]
