use Rattle.std.proofs.{Common.{◌≡◌, ◌/◌, ◌%◌, ◌++◌, ◌∷◌, [], true, false, sym, ap, ◌∙◌}, lemmas.List.append-nil}
use Rattle.topology_families.{specs.Family.is_family_link, proofs.{FamilyLinks.links_more, families.family_links.Goals.{then-has_family_link+in_ok-push, else-has_family_link}}}
use Rattle.topology_families.proofs.families.family_links.Goals as goal

pub loop-place-preserved : goal.loop-place-preserved
loop-place-preserved c =
    let kind = c.args.kind in
    let size = c.args.size in
    let n = c.loop-place.place in
    let test : c.has_family_link.result ≡ is_family_link kind size (n / size, n % size) = c.has_family_link.ensures ∙ ap (λ s. is_family_link kind size (n / s, n % s)) c.from-nodes.ensures in
    elim c.if-has_family_link.branch [
      | then-has_family_link+in_ok-push w ↦
          let pushed : w.push.new.self.items ≡ c.loop-place.links.items ++ (n / size, n % size) ∷ [] = w.in_ok-push.ensures.items ∙ ap (λ s. c.loop-place.links.items ++ (n / s, n % s) ∷ []) c.from-nodes.ensures in
          ap (λ v. v.items) w.links-is ∙ pushed ∙ ap (λ l. l ++ (n / size, n % size) ∷ []) c.loop-place.invariant ∙ sym (links_more kind size n true (sym test ∙ w.if-has_family_link.true))
      | else-has_family_link w ↦
          ap (λ v. v.items) w.links-is ∙ c.loop-place.invariant ∙ sym (links_more kind size n false (sym test ∙ w.if-has_family_link.false) ∙ append-nil _)
    ]
