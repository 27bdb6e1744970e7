-- The checks of points and of a frontier fail alike where the lines are the same.
use Rattle.std.{proofs.Common.{List, map, None, codes, ℕ}, specs.List.last_or}
use Rattle.text_lines.{specs.Repeated.parts_at, proofs.Steady.{Steady, steady_line, steady_found, steady_then, steady_lines, steady_pieces}}
use Rattle.outer_ports.specs.declared.part.Part.{Part}
use Rattle.collective_spec.specs.Collectives.{chunks_in}
use Rattle.candidate_order.specs.Frontiers.{QuestionValue}
use Rattle.report_form.specs.{Lines.fixed_line, Reading.{part_bytes, refuted_line, unknown_line, frontier_at}, Points.{HeadValue, head_line, joined_head_line, rounds_line, send_line, schedule_at, frontier_point_at, joined_point_at}}
use Rattle.report_form.proofs.{PointsTaken.point_of, FrontiersTaken.frontier}

module _ (names : List (List ℕ)) (q : QuestionValue) where
  pub steady_schedule : (head : HeadValue) → Steady (schedule_at names q head) (schedule_at names q head)
  unfolding schedule_at
  steady_schedule head =
      steady_then _ _ _ _ (steady_line (rounds_line head.candidate)) (λ rounds. steady_then _ _ _ _ (steady_lines (codes "send ") (send_line names (chunks_in q.spec q.topology.nodes head.candidate.c) head.candidate.s))
      (λ sends. steady_found (point_of head rounds sends)))

  steady_points : Steady (parts_at (codes "point ") (frontier_point_at names q)) (parts_at (codes "point ") (frontier_point_at names q))
  unfolding frontier_point_at
  steady_points = steady_pieces (codes "point ") (λ before. head_line q (last_or None (map (λ x. x.candidate) before))) (λ h. schedule_at names q h.0 h.1) steady_schedule

  pub steady_joined_points : Steady (parts_at (codes "point ") (joined_point_at names q)) (parts_at (codes "point ") (joined_point_at names q))
  unfolding joined_point_at
  steady_joined_points = steady_pieces (codes "point ") (λ before. joined_head_line q) (λ h. schedule_at names q h.0 h.1) steady_schedule

  pub steady_frontier : (x : Part) → Steady (frontier_at names q x) (frontier_at names q x)
  unfolding frontier_at
  steady_frontier x =
      steady_then _ _ _ _ (steady_line (fixed_line (part_bytes x))) (λ u. steady_then _ _ _ _ steady_points (λ points. steady_then _ _ _ _ (steady_lines (codes "refuted ") (refuted_line q))
      (λ refuted. steady_then _ _ _ _ (steady_lines (codes "unknown ") (unknown_line q)) (λ unknown. steady_found (frontier points refuted unknown)))))
