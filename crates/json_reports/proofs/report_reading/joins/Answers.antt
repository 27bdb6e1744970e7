use Rattle.std.{proofs.Common.{◌≡◌, false, [], Some, ap, bytes_eq, codes, map, option_map, refl, rules, slice_index_or, sym, ◌∙◌}, specs.Prelude.unwrap_or}
use Rattle.collective_spec.specs.Kinds.{every_kind, word_of}
use Rattle.serde_json.specs.{Find.get, View.view}
use Rattle.json_values.{specs.Shape.{◌>>=◌, field}, proofs.Values.says_is}
use Rattle.json_rules.specs.ReportForm.{kinds}
use Rattle.json_reports.proofs.report_reading.joins.Goals as goal

pub returns-in-Some : goal.returns-in-Some
returns-in-Some c =
    let words = view c.in-Some.words.now in
    let found : get (codes "words") (view c.args.value.now) ≡ Some words = search rules in
    c.says.ensures ∙ sym (says_is (codes "collective") (map word_of every_kind) (codes "allreduce") refl words)
    ∙ ap (λ o. unwrap_or (option_map (λ ws. bytes_eq (slice_index_or ws 0 []) (codes "allreduce")) (o >>= λ w. field (codes "collective") kinds.read w)) false) (sym found)
