-- The lines of points that are spelled are read.
use Rattle.std.{proofs.{Common.{◌≡◌, ℕ, ◌≤◌, Bool, ◌&&◌, List, [], ◌∷◌, ◌++◌, map, length, Option, None, Some, Result, Ok, arith, codes, IfSome}, lemmas.Bool.and_from}, specs.List.{last_or, AllByRecursion}}
use Rattle.text_lines.{specs.{Text.Row, Check.{◌>>=◌, line_part}}, proofs.{Distinct.next_has, ReadBack.{Reads, reads_here, reads_then, line_again, Ends, lines_again, ReadsPart}, Repeated.place, Rows.{AreTokens, row_of}, Words.tokens_from}}
use Rattle.collective_spec.{specs.{Collectives.{chunks_in, spec_of}, Patterns.IsPattern}, proofs.Chunks.{FewBase, chunks_few}}
use Rattle.outer_ports.specs.declared.part.Part.{Part}
use Rattle.candidate_order.specs.{declared.candidate.Candidate.Candidate, Ranges.IsLimits, Frontiers.{QuestionValue, PointValue, IsWithin}}
use Rattle.topology_text.specs.{Value.NamedTopologyValue, Names.AreNames}
use Rattle.report_form.specs.{declared.fault.ReportCode.ReportCode, Reports.{WordsValue, HasSchedule, IsPrintedPoint, kind_of}, Tests.{is_within, comes_next}, Spelling.{rounds_words, send_words, point_words, point_lines}}
use Rattle.report_form.{specs.Points.{HeadValue, head_from, head_line, rounds_from, are_rounds, schedule_at, frontier_point_at}, proofs.{Tested.decides_within, PointsTaken.{schedule_lines, AreSends, ArePoints}}}
use Rattle.report_laws.proofs.{ShapesAgain.{head_again, head_are_words, rounds_again}, ListsAgain.{ruled_line, ruled_part, part_comes_again, within_small}, SendsAgain.{rounds_small, rounds_kept, rounds_tokens, send_reads, sends_are_tokens}}

-- ---- a schedule behind the head of its point

pub base_of : (words : WordsValue) (t : NamedTopologyValue) (x : Part) → IfSome t.custom (IsPattern t.topology.nodes) → FewBase (spec_of (record { kind = kind_of words.collective.kind x; root = words.collective.root }) t.custom)
base_of words t x given = grind arith

abbrev pub head_of : PointValue → HeadValue
head_of p = record { candidate = p.candidate; mark = p.mark }

module _ (names : List (List ℕ)) (q : QuestionValue) (as_many : length names ≡ q.topology.nodes) (named : AreNames names) (ok : IsLimits q.limits) (base : FewBase q.spec) where
  abbrev chunks_at : PointValue → ℕ
  chunks_at p = chunks_in q.spec q.topology.nodes p.candidate.c

  few_chunks_at : (p : PointValue) → p.candidate.c ≤ 16 → chunks_at p ≤ 65535
  few_chunks_at p small = grind (arith, chunks_few)

  few_steps_at : (p : PointValue) → HasSchedule q p → p.candidate.s ≤ 65535
  few_steps_at p has = grind arith

  sends_are : (p : PointValue) → HasSchedule q p → AreSends names (chunks_at p) p.candidate.s p.schedule.sends
  sends_are p has = grind arith

  pub schedule_again : (p : PointValue) (n : ℕ) (rest : List Row) → HasSchedule q p → p.candidate.c ≤ 16 → Ends (codes "send ") rest → Reads (schedule_at names q (head_of p) (place n (map row_of (schedule_lines names p) ++ rest))) p rest
  unfolding schedule_at
  schedule_again p n rest has small ends =
      let rounds : List ℕ = p.schedule.rounds in
      let kept = rounds_kept p.candidate rounds has.steps has.schedule.rounds has.rounds in
      reads_then _ _ (ruled_part rounds_from (are_rounds p.candidate) (λ rs. rs) (rounds_words rounds) rounds (rounds_tokens rounds has.schedule.rounds) (rounds_again rounds (rounds_small rounds has.schedule.rounds)) kept n _)
      (λ k. reads_then _ _ (lines_again (codes "send ") _ (send_words names) (AreSends names (chunks_at p) p.candidate.s) (send_reads names named (chunks_at p) p.candidate.s (few_chunks_at p small) (few_steps_at p has)) [] p.schedule.sends k rest (sends_are p has) ends)
      (λ m. reads_here p m rest))

  pub schedule_are_tokens : (p : PointValue) → HasSchedule q p → p.candidate.c ≤ 16 → AllByRecursion AreTokens (schedule_lines names p)
  schedule_are_tokens p has small =
      let are = sends_are p has in
      (rounds_tokens p.schedule.rounds has.schedule.rounds, sends_are_tokens names named (chunks_at p) p.candidate.s (few_chunks_at p small) (few_steps_at p has) p.schedule.sends are.steps_are are.below)

  -- a part that begins with the line of its head
  pub headed_reads : (check : List PointValue → Option Row → Result HeadValue ReportCode) (Q : List PointValue → Type 0)
      → ((before : List PointValue) (p : PointValue) (more : List PointValue) → Q (before ++ p ∷ more) → (check before (Some (row_of (point_words p))) ≡ Ok (head_of p)) × HasSchedule q p × (p.candidate.c ≤ 16))
      → ReadsPart (codes "point ") (λ before p. line_part (check before) p >>= (λ h. schedule_at names q h.0 h.1)) (point_lines names) Q (Ends (codes "send "))
  headed_reads check Q heads = grind (arith, reads_then, line_again, row_of, schedule_lines, schedule_again)

  -- ---- points of a frontier

  few_chunks : (x : Candidate) → IsWithin q x → x.c ≤ 16
  few_chunks x w = grind arith

  head_tokens : (p : PointValue) → IsPrintedPoint q p → AreTokens (point_words p)
  head_tokens p is = tokens_from (point_words p) (omega arith) (head_are_words p.candidate p.mark (within_small q ok p.candidate is.within) (grind arith))

  pub point_reads : ReadsPart (codes "point ") (frontier_point_at names q) (point_lines names) (ArePoints names q as_many) (Ends (codes "send "))
  unfolding frontier_point_at
  point_reads = headed_reads (λ before. head_line q (last_or None (map (λ y. y.candidate) before))) (ArePoints names q as_many)
      (λ before p more are.
      let is = next_has (IsPrintedPoint q) before p more are.each in
      let rule : HeadValue → Bool = λ h. is_within q h.candidate && comes_next (last_or None (map (λ y. y.candidate) before)) h.candidate in
      let kept = and_from (is_within q p.candidate) (comes_next (last_or None (map (λ y. y.candidate) before)) p.candidate) ((decides_within q p.candidate).1 is.within) (part_comes_again (λ y. y.candidate) before p more are.listed.ascending) in
      (ruled_line head_from rule (λ h. h) (point_words p) (head_of p) (head_tokens p is) (head_again p.candidate p.mark (within_small q ok p.candidate is.within) is.mark) kept, is.has, few_chunks p.candidate is.within))

  pub point_are_tokens : (p : PointValue) → IsPrintedPoint q p → AllByRecursion AreTokens (point_lines names p)
  point_are_tokens p is = (head_tokens p is, schedule_are_tokens p is.has (few_chunks p.candidate is.within))
