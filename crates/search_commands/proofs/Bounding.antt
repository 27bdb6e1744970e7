-- What a search with cuts found, for the question in whose place it searched.
use Rattle.std.proofs.Common.{◌≡◌, ◌∙◌, false, All, subst, ap}
use Rattle.candidate_order.specs.Frontiers.{QuestionValue, PointValue, UnknownValue}
use Rattle.node_cuts.specs.{Floors.floor_of, declared.sets.Sets.Sets, Cutting.is_cut}
use Rattle.cut_bounds.specs.Parting.{cuts_among, uncut_among}
use Rattle.candidate_formula.specs.Searched.{searched_question}
use Rattle.engine_search.specs.Found.{IsFound}
use Rattle.search_commands.specs.{declared.bounds.Bounds.Bounds, Bounded.AreBounds}

pub bounds_are : {sets : Sets} {q own : QuestionValue} {b : Bounds} → own ≡ searched_question q → IsFound q b.frontier → All (λ (p : PointValue). is_cut sets own p.candidate ≡ false) b.frontier.points → All (λ (u : UnknownValue). is_cut sets own u.candidate ≡ false) b.frontier.unknown
    → b.refuted.cuts.items ≡ cuts_among sets own b.frontier.refuted → b.refuted.others.items ≡ uncut_among sets own b.frontier.refuted → b.floor ≡ floor_of sets own.topology own.spec → AreBounds sets q b
bounds_are {sets} {q} {own} {b} in_place found points unknown cuts others floor = record {
  found = found;
  points = subst (λ p. All (λ (x : PointValue). is_cut sets p x.candidate ≡ false) b.frontier.points) in_place points;
  unknown = subst (λ p. All (λ (x : UnknownValue). is_cut sets p x.candidate ≡ false) b.frontier.unknown) in_place unknown;
  cuts = cuts ∙ ap (λ p. cuts_among sets p b.frontier.refuted) in_place;
  others = others ∙ ap (λ p. uncut_among sets p b.frontier.refuted) in_place;
  floor = floor ∙ ap (λ (p : QuestionValue). floor_of sets p.topology p.spec) in_place;
}
