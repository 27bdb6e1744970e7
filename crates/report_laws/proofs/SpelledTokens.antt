-- The lines of a valid report are made of tokens, so that its text falls into them.
use Rattle.std.{proofs.{Common.{◌≡◌, ℕ, List, [], ◌∷◌, ◌++◌, map, length, refl, arith, codes, flat_map, All}, lemmas.List.Elements.{All-head, All-tail}}, specs.List.AllByRecursion}
use Rattle.text_lines.{specs.Text.rows_of, proofs.{Rows.{AreTokens, row_of, rows_again}, Words.{literal, tokens_from}}}
use Rattle.outer_ports.specs.declared.part.Part.{Part}
use Rattle.outer_ports.specs.declared.part.Part.TheVariants as part
use Rattle.schedule.proofs.First.{each_append}
use Rattle.collective_spec.{specs.{declared.kind.Kind.Kind}, proofs.Chunks.FewBase}
use Rattle.collective_spec.specs.declared.kind.Kind.TheVariants as kind
use Rattle.candidate_order.specs.{Ranges.IsLimits, Frontiers.{QuestionValue, PointValue, FrontierValue, IsWithin, IsUnknown}}
use Rattle.topology_text.{specs.{Names.AreNames, Value.NamedTopologyValue, Spelling.{lines_of}}, proofs.Laws.lines_are_words}
use Rattle.report_form.specs.Reports.{WordsValue, ReportValue, IsPrintedPoint, IsFrontier, IsJoinedPoint, IsReport, question_of}
use Rattle.report_form.specs.Spelling.{point_lines, refuted_words, unknown_words, part_words, frontier_lines, joined_lines, body_lines, report_lines, report_text}
use Rattle.report_laws.proofs.{ListsAgain.{lines_are_tokens, refuted_tokens, unknown_tokens}, PointsAgain.{base_of, point_are_tokens}, JoinedAgain.joined_are_tokens, SynthLineAgain.synth_tokens}

-- the lines of valid parts are made of tokens
pub parts_are_tokens : {A : Type 0} (P : A → Type 0) (spell : A → List (List (List ℕ))) → ((x : A) → P x → AllByRecursion AreTokens (spell x)) → (xs : List A) → All P xs → AllByRecursion AreTokens (flat_map spell xs)
parts_are_tokens P spell each [] valid = tt
parts_are_tokens P spell each (x ∷ xs) valid = each_append AreTokens (spell x) (flat_map spell xs) (each x (All-head P x xs valid)) (parts_are_tokens P spell each xs (All-tail P x xs valid))

part_tokens : (x : Part) → AreTokens (part_words x)
part_tokens x = grind (arith, tokens_from, literal)

module _ (names : List (List ℕ)) (q : QuestionValue) (as_many : length names ≡ q.topology.nodes) (named : AreNames names) (ok : IsLimits q.limits) (base : FewBase q.spec) where
  pub frontier_are_tokens : (x : Part) (f : FrontierValue) → IsFrontier q f → AllByRecursion AreTokens (frontier_lines names (x, f))
  frontier_are_tokens x f is = (
    part_tokens x,
    each_append AreTokens (flat_map (point_lines names) f.points) (map refuted_words f.refuted ++ map unknown_words f.unknown)
        (parts_are_tokens (IsPrintedPoint q) (point_lines names) (point_are_tokens names q as_many named ok base) f.points is.points)
        (each_append AreTokens (map refuted_words f.refuted) (map unknown_words f.unknown)
        (lines_are_tokens (IsWithin q) refuted_words (refuted_tokens q ok) f.refuted is.refuted)
        (lines_are_tokens (IsUnknown q) unknown_words (unknown_tokens q ok) f.unknown is.unknown)),
  )

  pub joined_lines_are_tokens : (k : Kind) (js : List PointValue) → All (IsJoinedPoint q) js → AllByRecursion AreTokens (joined_lines names k js)
  joined_lines_are_tokens kind.Allreduce js all =
      (part_tokens part.Joined, parts_are_tokens (IsJoinedPoint q) (point_lines names) (joined_are_tokens names q as_many named ok base) js all)
  joined_lines_are_tokens k js all = tt

pub report_are_tokens : (r : ReportValue) → IsReport r → AllByRecursion AreTokens (report_lines r)
report_are_tokens r is =
    let names = r.topology.names in
    let named = is.topology.names in
    let as_many = is.topology.as_many in
    let ok = is.words.limits in
    let w : WordsValue = r.words in
    let t : NamedTopologyValue = r.topology in
    let joined = joined_lines names w.collective.kind r.joined in (
      (grind (arith, tokens_from, literal)),
      (
        synth_tokens names w named is.words,
        each_append AreTokens (lines_of t) (body_lines r ++ (codes "end" ∷ []) ∷ []) (lines_are_words t is.topology)
            (each_append AreTokens (body_lines r) ((codes "end" ∷ []) ∷ [])
            (each_append AreTokens (flat_map (frontier_lines names) r.frontiers) joined
            (parts_are_tokens (λ x. IsFrontier (question_of w t x.0) x.1) (frontier_lines names) (λ x. frontier_are_tokens names (question_of w t x.0) as_many named ok (base_of w t x.0 is.topology.custom) x.0 x.1) r.frontiers is.frontiers)
            (joined_lines_are_tokens names (question_of w t part.Joined) as_many named ok (base_of w t part.Joined is.topology.custom) w.collective.kind r.joined is.joined))
            (tokens_from (codes "end" ∷ []) (omega arith) (literal (codes "end") refl, tt), tt)),
      ),
    )

-- the text of a valid report falls into the lines that it was made of
pub rows_of_report : (r : ReportValue) → IsReport r → rows_of (report_text r) ≡ map row_of (report_lines r)
unfolding report_text
rows_of_report r is = rows_again (report_lines r) (report_are_tokens r is)
