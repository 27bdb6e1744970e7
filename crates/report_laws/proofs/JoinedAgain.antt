-- The lines of joined points that are spelled are read.
use Rattle.std.{proofs.Common.{◌≡◌, ℕ, ◌≤◌, true, List, length, Ok, sym, subst, arith, codes, All}, specs.List.AllByRecursion}
use Rattle.text_lines.proofs.{Distinct.next_has, ReadBack.{Ends, ReadsPart}, Rows.AreTokens, Words.tokens_from}
use Rattle.collective_spec.proofs.Chunks.{FewBase}
use Rattle.candidate_order.specs.{declared.mark.Mark.Mark, Ranges.IsLimits, Frontiers.{QuestionValue, PointValue}}
use Rattle.candidate_order.specs.declared.mark.Mark.TheVariants as mark
use Rattle.topology_text.specs.Names.{AreNames}
use Rattle.report_form.{specs.{Reports.IsJoinedPoint, Spelling.{point_words, point_lines}, Points.{may_join, joined_head_from, joined_head_line, joined_point_at}}, proofs.{LineTaken.ruled_by, JoinedTaken.{joined_of, decides_join}}}
use Rattle.report_laws.proofs.{LinesAgain.on_words_again, ShapesAgain.{IsSmall, MarkIsSmall, head_words, joined_head_again, head_are_words}, ListsAgain.ruled_again, PointsAgain.{head_of, headed_reads, schedule_are_tokens}}

-- a joined point passes the eight tests of a join
may_join_again : (q : QuestionValue) (p : PointValue) (is : IsJoinedPoint q p) → may_join q p.candidate is.adding ≡ true
may_join_again q p is = grind (arith, decides_join)

module _ (names : List (List ℕ)) (q : QuestionValue) (as_many : length names ≡ q.topology.nodes) (named : AreNames names) (ok : IsLimits q.limits) (base : FewBase q.spec) where
  joined_small : (p : PointValue) → IsJoinedPoint q p → IsSmall p.candidate
  joined_small p is = grind arith

  few_chunks : (p : PointValue) → IsJoinedPoint q p → p.candidate.c ≤ 16
  few_chunks p is = grind arith

  few_added : (p : PointValue) (is : IsJoinedPoint q p) → is.adding ≤ 65535
  few_added p is = grind arith

  head_tokens : (p : PointValue) → IsJoinedPoint q p → AreTokens (point_words p)
  head_tokens p is = tokens_from (point_words p) (omega arith) (head_are_words p.candidate p.mark (joined_small p is) (subst MarkIsSmall (sym is.mark) (few_added p is)))

  pub joined_reads : ReadsPart (codes "point ") (joined_point_at names q) (point_lines names) (λ ps. All (IsJoinedPoint q) ps) (Ends (codes "send "))
  unfolding joined_point_at
  joined_reads = headed_reads names q as_many named ok base (λ before. joined_head_line q) (λ ps. All (IsJoinedPoint q) ps)
      (λ before p more are.
      let is = next_has (IsJoinedPoint q) before p more are in
      let read = ruled_again joined_head_from (λ h. may_join q h.0 h.1) joined_of (head_words p.candidate (mark.Joined is.adding)) (p.candidate, is.adding) (joined_head_again p.candidate is.adding (joined_small p is) (few_added p is)) (may_join_again q p is) in
      let M : Mark → Type 0 = λ m. ruled_by joined_head_from (λ h. may_join q h.0 h.1) joined_of (head_words p.candidate m) ≡ Ok (record { candidate = p.candidate; mark = m }) in
      (on_words_again (ruled_by joined_head_from (λ h. may_join q h.0 h.1) joined_of) (point_words p) (head_of p) (head_tokens p is) (subst M (sym is.mark) read), is.has, few_chunks p is))

  pub joined_are_tokens : (p : PointValue) → IsJoinedPoint q p → AllByRecursion AreTokens (point_lines names p)
  joined_are_tokens p is = (head_tokens p is, schedule_are_tokens names q as_many named ok base p is.has (few_chunks p is))
