use Rattle.std.proofs.Common.{◌∙◌, ap, sym, is_some}
use Rattle.collective_spec.specs.Kinds.{word_of, every_kind}
use Rattle.topology_families.specs.FamilyWords.{families, family_word}
use Rattle.command_words.{specs.{Tables.key_row, Words.fits}, proofs.Naming.any_named}
use Rattle.command_words.proofs.key.Key.takes.Goals as goal

pub returns-in-Collective : goal.returns-in-Collective
returns-in-Collective c = c.is_some.ensures ∙ ap is_some c.kind_of_word.ensures ∙ sym (any_named word_of every_kind c.args.text.now) ∙ ap (λ k. fits (key_row k).1 c.args.text.now) (sym c.in-Collective.is)

pub returns-in-Kind : goal.returns-in-Kind
returns-in-Kind c = c.is_some-in-Kind.ensures ∙ ap is_some c.of_word.ensures ∙ sym (any_named family_word families c.args.text.now) ∙ ap (λ k. fits (key_row k).1 c.args.text.now) (sym c.in-Kind.is)
