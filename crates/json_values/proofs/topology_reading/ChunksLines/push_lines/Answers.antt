use Rattle.std.proofs.Common.{◌≡◌, ◌≢◌, List, ℕ, [], ◌∷◌, ◌++◌, Some, ap, sym, ◌∙◌, codes, decimal, option_map, rules, subst}
use Rattle.text_lines.specs.Text.{line, text_of}
use Rattle.serde_json.{specs.{Events.items_len, Find.{as_array, get}, View.{items_view, view}}, proofs.Views.items_len-items_view}
use Rattle.json_values.{specs.{Shape.{◌>>=◌, headed}, Appends.Appends, TopologyForm.chunks_read}, proofs.Appended.{ahead, as_many, chunks_are}}
use Rattle.json_values.proofs.topology_reading.ChunksLines.push_lines.Goals as goal

pub returns-then-before-after : goal.returns-then-before-after
returns-then-before-after c =
    let d = view c.args.value.now in
    let vs = c.in-Some-Some-2.before.now in
    let ws = c.in-Some-Some-2.after.now in
    let before : (get (codes "before") d >>= as_array) ≡ Some (items_view vs) = search rules in
    let after : (get (codes "after") d >>= as_array) ≡ Some (items_view ws) = search rules in
    let other : items_len (items_view vs) ≢ items_len (items_view ws) = λ e. c.if-before-after.true (sym (items_len-items_view vs) ∙ e ∙ items_len-items_view ws) in
    ap (option_map text_of) (chunks_are d (items_view vs) (items_view ws) before after ∙ ap (headed (codes "custom" ∷ decimal (items_len (items_view vs)) ∷ [])) (as_many 0 (items_view vs) (items_view ws) other))

pub returns : goal.returns
returns c =
    let d = view c.args.value.now in
    let old = c.args.out.now.items in
    let mid = c.push_lines.new.out.items in
    let last = c.push_chunks.new.out.items in
    let vs = c.in-Some-Some-2.before.now in
    let ws = c.in-Some-Some-2.after.now in
    let before : (get (codes "before") d >>= as_array) ≡ Some (items_view vs) = search rules in
    let after : (get (codes "after") d >>= as_array) ≡ Some (items_view ws) = search rules in
    let first : ℕ → List (List ℕ) = λ n. codes "custom" ∷ decimal n ∷ [] in
    let begun : Some (old ++ (line (first (items_len (items_view vs))) ++ [])) ≡ Some mid = ap (λ n. Some (old ++ (line (first n) ++ []))) (items_len-items_view vs) ∙ c.in_ok-push_lines.ensures in
    subst (Appends c.push_chunks.result old last) (ap (option_map text_of) (sym (chunks_are d (items_view vs) (items_view ws) before after)))
    (ahead c.push_chunks.result old mid last (first (items_len (items_view vs))) (chunks_read 0 (items_view vs) (items_view ws)) begun c.push_chunks.ensures)
