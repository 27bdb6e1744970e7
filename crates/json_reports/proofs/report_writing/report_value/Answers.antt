use Rattle.std.proofs.Common.{ap, ap₂, codes, map, ◌∙◌}
use Rattle.serde_json.{specs.{Data.{object, put}, View.members_view}, proofs.Views.view-Object}
use Rattle.json_values.specs.{Json.array_of, TopologyJson.topology_json}
use Rattle.json_rules.specs.ReportForm.{frontier, point, words}
use Rattle.json_reports.proofs.report_writing.report_value.Goals as goal

pub returns-clause-json : goal.returns-clause-json
returns-clause-json c =
    let named = c.names-names.ensures.names ∙ ap (λ t. t.names) c.topology-topology.ensures.topology in
    let joined = ap₂ (λ n p. array_of (map (point n).json p)) named c.joined.ensures.joined in
    let frontiers = ap₂ (λ n f. array_of (map (frontier n).json f)) named c.frontiers.ensures.frontiers in
    let topology = c.in_ok-topology_value.ensures.json ∙ ap topology_json c.topology-topology.ensures.topology in
    let asked = c.in_ok-words.ensures ∙ ap₂ (λ n w. (words n).json w) named c.words.ensures.words in
    view-Object c.put-2.new.map ∙ ap object (c.in_ok-put-2.ensures.ok ∙ ap₂ (put (codes "words")) asked (c.in_ok-put.ensures.ok ∙ ap₂ (put (codes "topology")) topology
    (c.in_ok-put_list-2.ensures ∙ ap₂ (put (codes "frontiers")) frontiers (c.in_ok-put_list.ensures ∙ ap₂ (put (codes "joined")) joined (ap members_view c.new-members.ensures.empty)))))
