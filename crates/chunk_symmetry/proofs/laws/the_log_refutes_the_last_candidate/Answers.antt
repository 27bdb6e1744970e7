use Rattle.chunk_symmetry.proofs.laws.the_log_refutes_the_last_candidate.Goals as goal

pub returns : goal.returns
returns c = λ e before x last. e.proved before x last
