use Rattle.std.proofs.Common.{List, Option, None, Some, ℕ, [], ◌∷◌, ◌++◌, codes, if◌then◌else◌, is_some, map, option_map, subst}
use Rattle.text_lines.specs.Text.{text_of}
use Rattle.serde_json.specs.{Data.{Data, Members}, Find.{as_object, get}, View.view}
use Rattle.json_values.specs.{Shape.{◌>>=◌, ◌⊕◌, one, headed, field}, Appends.Appends, Forms.{count, name, same_keys, word}}
use Rattle.json_rules.specs.ReportForm.{kinds}
use Rattle.json_reports.proofs.Keys.{keys_same}
use Rattle.json_reports.proofs.report_reading.WordsLineLines.push_lines.Goals as goal

abbrev at_key : Data → List ℕ → (Data → Option (List (List ℕ))) → Option (List (List ℕ))
at_key d key read = field key (λ v. option_map (map (λ w. key ++ 61 ∷ w)) (read v)) d

abbrev may_be : Data → List ℕ → (Data → Option (List (List ℕ))) → Option (List (List ℕ))
may_be d key read = if is_some (get key d) then at_key d key read else Some []

-- the line, where these are the keys
abbrev line_by : Data → Members → Option (List (List (List ℕ)))
line_by d keys =
    let yes = (word (codes "yes" ∷ [])).read in
    as_object d >>= λ ms. if same_keys keys ms
    then one (headed (codes "synth") (at_key d (codes "collective") kinds.read ⊕ at_key d (codes "k") count.read ⊕ at_key d (codes "steps") count.read ⊕ at_key d (codes "chunks") count.read ⊕ at_key d (codes "conflicts") count.read
    ⊕ may_be d (codes "root") name.read ⊕ may_be d (codes "cuts") yes ⊕ may_be d (codes "ordered") yes))
    else None

pub returns : goal.returns
returns c =
    let d = view c.args.value.now in
    let keys = keys_same c.has.result c.has-2.result c.has-3.result (is_some (get (codes "cuts") d)) (is_some (get (codes "ordered") d)) (is_some (get (codes "root") d)) c.has.ensures c.has-2.ensures c.has-3.ensures in
    subst (λ ks. Appends c.push_lines.result c.args.out.now.items c.push_lines.new.out.items (option_map text_of (line_by d ks))) keys c.push_lines.ensures
