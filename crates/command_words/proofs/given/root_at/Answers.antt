use Rattle.std.proofs.Common.{rules}
use Rattle.command_words.{specs.inner.Seen.{seen, seen_all}, proofs.Found.name_read}
use Rattle.command_words.proofs.given.root_at.Goals as goal

pub returns-in_err-name : goal.returns-in_err-name
returns-in_err-name c =
    let read = name_read (seen_all c.args.given.now) (seen c.in_ok-root.root) c.requires c.in_ok-root.ensures in
    search (rules, read)
