use Rattle.std.proofs.Common.{length, sym, ap, ◌∙◌, subst, All}
use Rattle.sleeping_clauses.specs.Naming.{IsName}
use Rattle.sleeping_clauses.proofs.awake.Awake.named.Goals as goal

pub renamed-requires : goal.renamed-requires
renamed-requires c =
    let names = sym (c.deref.ensures.value) in
    let hints = c.deref-2.ensures.value ∙ ap (λ l. l.hints) c.line.view_is in
    subst (λ n. All (IsName n) c.deref-2.result.now) (ap length names) (subst (All (IsName (length c.args.self.now.names.items))) (sym hints) c.requires.known)
