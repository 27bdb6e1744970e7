use Rattle.std.proofs.Common.{◌∙◌, arith, rules}
use Rattle.topology_text.proofs.HolderLines.{next_chunk, behind_before, behind_after, chunk_read}
use Rattle.topology_text.proofs.pattern.pairs_part.Goals as goal

pub returns-in_err-holders-clause-read : goal.returns-in_err-holders-clause-read
returns-in_err-holders-clause-read c = grind (arith, next_chunk, behind_before)

pub returns-in_err-holders-2-clause-read : goal.returns-in_err-holders-2-clause-read
returns-in_err-holders-2-clause-read c = grind (arith, next_chunk, behind_before, behind_after)

pub loop-chunk-preserved : goal.loop-chunk-preserved
loop-chunk-preserved c = record {
  read =
      chunk_read _ _ _ _ _ _ _ _ _ _ c.loop-chunk-test.true c.in_ok-holders.ensures.read c.in_ok-holders-2.ensures.read (search rules) (search rules)
      ∙ c.loop-chunk.invariant.read;
  text = search rules;
  number = omega (arith, c.loop-chunk.invariant.number, c.in_ok-holders.ensures.moved, c.in_ok-holders-2.ensures.moved);
}
