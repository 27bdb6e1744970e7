use Rattle.std.proofs.Common.{◌∙◌, ap}
use Rattle.text_lines.specs.Number.{number_up_to}
use Rattle.command_words.{specs.inner.Seen.{seen, seen_all}, proofs.Found.number_read}
use Rattle.command_words.proofs.given.number_given.Goals as goal

pub returns-in-Some-clause-value : goal.returns-in-Some-clause-value
returns-in-Some-clause-value c =
    c.read_number.ensures.value ∙ ap (number_up_to c.args.greatest) c.as_bytes.ensures.value
    ∙ number_read c.args.key (seen_all c.args.given.now) (seen c.in-Some.given) c.args.greatest c.requires.fit c.requires.greatest c.in-Some.ensures
