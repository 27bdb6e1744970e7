use Rattle.std.proofs.{Common.{arith, ◌≡◌, ◌++◌, List, ℕ, true, length, drop, replicate, sym, ap, ◌∙◌}, Math.Seq.take-append_seam, lemmas.List.drop-replicate}
use Rattle.topology_text.specs.Names.{is_name, padded, IsKept}
use Rattle.topology_text.proofs.name.Name.of_bytes.Goals as goal

-- a name in its 16 places
kept : (name all : List ℕ) → is_name name ≡ true → all ≡ padded name → IsKept all (length name)
kept name all is e = grind (arith, take-append_seam)

pub invariant_of-result : goal.invariant_of-result
invariant_of-result c =
    let bytes = c.args.bytes.now in
    kept bytes (c.copy_from_slice.new.self ++ drop (length bytes) (replicate 16 0)) (sym c.is_name.ensures ∙ c.if-not-is_name.false)
    (ap (λ b. b ++ drop (length bytes) (replicate 16 0)) c.copy_from_slice.ensures.after ∙ ap (λ z. bytes ++ z) (drop-replicate (length bytes) 16 0))
