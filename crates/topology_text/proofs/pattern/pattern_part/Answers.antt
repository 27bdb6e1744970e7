use Rattle.std.proofs.Common.{◌≡◌, ℕ, Ok, length, sym, subst, rules}
use Rattle.text_lines.specs.Check.{line_part}
use Rattle.collective_spec.specs.Patterns.{PatternValue, IsPattern}
use Rattle.topology_text.{specs.Reading.custom_line, proofs.Patterns.lines_valid}
use Rattle.topology_text.proofs.pattern.pattern_part.Goals as goal

pub pattern_of-requires : goal.pattern_of-requires
pattern_of-requires c =
    let read : line_part custom_line c.args.lines.now.place ≡ Ok (c.in_ok-base.base, c.custom_part.new.lines.place) = search rules in
    lines_valid _ c.args.lines.now.place _ c.custom_part.new.lines.place _ c.pairs_part.new.lines.place _ read c.in_ok-found.ensures.read (search rules)

pub returns-clause-limits : goal.returns-clause-limits
returns-clause-limits c =
    let read : line_part custom_line c.args.lines.now.place ≡ Ok (c.in_ok-base.base, c.custom_part.new.lines.place) = search rules in
    let same : length c.args.names.now.keys ≡ c.len.result = search rules in
    subst (λ (n : ℕ). IsPattern n c.in_ok-pattern_of.field-0) (sym same) (subst (λ (p : PatternValue). IsPattern c.len.result p) (sym c.in_ok-pattern_of.ensures) (lines_valid _ c.args.lines.now.place _ c.custom_part.new.lines.place _ c.pairs_part.new.lines.place _ read c.in_ok-found.ensures.read same))
