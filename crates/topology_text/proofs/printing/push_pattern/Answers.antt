use Rattle.std.proofs.{Common.{◌≡◌, ◌++◌, append_assoc, codes, sym, ap, ◌∙◌}, lemmas.List.append-nil}
use Rattle.text_lines.specs.Text.{line}
use Rattle.topology_text.{specs.Spelling.holder_words, proofs.Printed.{appended_more, chunk_more}}
use Rattle.topology_text.proofs.printing.push_pattern.Goals as goal

pub loop-chunk-init : goal.loop-chunk-init
loop-chunk-init c = sym (append-nil c.push_word-2.new.out.items)

pub loop-chunk-preserved : goal.loop-chunk-preserved
loop-chunk-preserved c =
    let names = c.args.names.now in
    let p = c.args.pattern.now in
    let g = c.loop-chunk.chunk in
    let out = c.loop-chunk.out.items in
    let first = line (holder_words names (codes "before") c.before-in-loop-chunk.result.now g) in
    let second = line (holder_words names (codes "after") p.after g) in
    let pushed : c.push_holders-in-loop-chunk.new.out.items ≡ out ++ (line (holder_words names (codes "before") p.before g) ++ second) =
    c.in_ok-push_holders-2.ensures ∙ ap (λ b. b ++ line (holder_words names (codes "after") c.after.result.now g)) c.in_ok-push_holders.ensures
    ∙ ap (λ q. (out ++ first) ++ line (holder_words names (codes "after") q g)) c.after.ensures.after
    ∙ append_assoc out first second
    ∙ ap (λ q. out ++ (line (holder_words names (codes "before") q g) ++ second)) c.before-in-loop-chunk.ensures.before in
    appended_more _ _ _ _ _ _ c.loop-chunk.invariant pushed (chunk_more names p g)
