use Rattle.std.proofs.Common.{◌≡◌, ℕ, List, ◌++◌, Option, None, inr, ap, sym, ◌∙◌, option_map}
use Rattle.text_lines.specs.Text.{text_of}
use Rattle.serde_json.specs.{Data.Data, View.view}
use Rattle.json_values.proofs.Standing.{text_given, shape_refused}
use Rattle.json_values.proofs.reading.text_in.Goals as goal

pub returns-in-Ok : goal.returns-in-Ok
returns-in-Ok g c =
    let text : Data → Option (List ℕ) = λ d. option_map text_of (g.P.Lines.lines c.args.form.now d) in
    let d = view c.in_ok-value.value in
    text_given text c.args.bytes.now d c.push_lines.new.out.items c.in_ok-value.ensures.value (ap (λ old. option_map (λ t. old ++ t) (text d)) (sym c.new-text.ensures.items) ∙ c.in-Ok.ensures)

pub returns : goal.returns
returns g c =
    let text : Data → Option (List ℕ) = λ d. option_map text_of (g.P.Lines.lines c.args.form.now d) in
    let d = view c.in_ok-value.value in
    let none : text d ≡ None = rw c.in-Err-Refused.field-0-is at c.in-Err-Refused.ensures in
    inr (shape_refused text c.args.bytes.now d c.in_ok-value.ensures.value none)
