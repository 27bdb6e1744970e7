use Rattle.std.proofs.Common.{◌∙◌}
use Rattle.candidate_formula.proofs.Made.{is_spec, is_single, is_allowed, is_candidate, is_small, encodes_for, encodes_it, what_is_made}
use Rattle.candidate_formula.proofs.encoding.encode_candidate.Goals as goal

pub spec_instance-requires-clause-spec : goal.spec_instance-requires-clause-spec
spec_instance-requires-clause-spec c = is_spec c.args.topology.now c.args.spec.now c.args.candidate c.requires c.nodes.result c.nodes.ensures.nodes

pub spec_instance-requires-clause-allowed : goal.spec_instance-requires-clause-allowed
spec_instance-requires-clause-allowed c = is_allowed c.args.topology.now c.args.spec.now c.args.candidate c.requires c.nodes.result c.nodes.ensures.nodes

pub spec_instance-requires-clause-single : goal.spec_instance-requires-clause-single
spec_instance-requires-clause-single c = is_single c.args.topology.now c.args.spec.now c.args.candidate c.requires

pub encode-requires-clause-candidate : goal.encode-requires-clause-candidate
encode-requires-clause-candidate c = is_candidate c.args.topology.now c.args.spec.now c.args.candidate c.requires c.in_ok-instance.instance c.nodes.result c.nodes.ensures.nodes c.in_ok-instance.ensures

pub encode-requires-clause-size : goal.encode-requires-clause-size
encode-requires-clause-size c = is_small c.args.topology.now c.args.spec.now c.args.candidate c.requires c.in_ok-instance.instance c.nodes.result c.nodes.ensures.nodes c.in_ok-instance.ensures

pub with_order-requires : goal.with_order-requires
with_order-requires c = encodes_for c.args.topology.now c.args.spec.now c.args.candidate c.requires c.in_ok-instance.instance c.nodes.result c.nodes.ensures.nodes c.in_ok-instance.ensures c.in_ok-encoding.encoding c.in_ok-encoding.ensures.encoding

pub returns : goal.returns
returns c =
    let t = c.args.topology.now in
    let x = c.args.candidate in
    let made = c.in_ok-instance.ensures in
    let own = c.nodes.ensures.nodes in
    let e = c.in_ok-encoded.encoded in
    let encoded = c.in_ok-encoded.ensures.encoding ∙ c.in_ok-encoding.ensures.encoding in
    let formula = c.in_ok-encoded.ensures.formula t x.s x.r (encodes_it t c.args.spec.now x c.requires c.in_ok-instance.instance c.nodes.result own made c.in_ok-encoding.encoding c.in_ok-encoding.ensures.encoding) in
    let all = what_is_made t c.args.spec.now x c.requires c.in_ok-instance.instance c.nodes.result own made c.args.pruning e encoded formula in
    record { formula = all.formula; encoding = all.encoding; exactly = all.exactly; models = all.models; suits = all.suits }
