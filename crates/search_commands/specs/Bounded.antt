-- What a frontier and its cuts say after a search. This project's own.
use Rattle.std.specs.Prelude.{◌≡◌, false, All}
use Rattle.candidate_order.specs.Frontiers.{QuestionValue}
use Rattle.node_cuts.specs.{Floors.floor_of, declared.sets.Sets.Sets, Cutting.is_cut}
use Rattle.cut_bounds.specs.Parting.{cuts_among, uncut_among}
use Rattle.candidate_formula.specs.Searched.{searched_question}
use Rattle.engine_search.specs.Found.{IsFound}
use Rattle.search_commands.specs.declared.bounds.Bounds.{Bounds}

-- the frontier was found; none of its points and none of its unknown candidates is refuted by one of these sets; the refuted ones are parted, and the floor is that of what is searched
pub record AreBounds (sets : Sets) (q : QuestionValue) (b : Bounds) : Type 0 where
  pub found : IsFound q b.frontier
  pub points : All (λ p. is_cut sets (searched_question q) p.candidate ≡ false) b.frontier.points
  pub unknown : All (λ u. is_cut sets (searched_question q) u.candidate ≡ false) b.frontier.unknown
  pub cuts : b.refuted.cuts.items ≡ cuts_among sets (searched_question q) b.frontier.refuted
  pub others : b.refuted.others.items ≡ uncut_among sets (searched_question q) b.frontier.refuted
  pub floor : b.floor ≡ floor_of sets (searched_question q).topology (searched_question q).spec
