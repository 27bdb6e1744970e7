-- How many chunks there are in all: some, few, and no fewer where the chunk count is greater.
use Rattle.std.proofs.{Common.{◌≡◌, ℕ, ◌<◌, ◌≤◌, false, arith}, Math.Nat.{mul-pos, mul-le-mul_left}, lemmas.Nat.mul-le}
use Rattle.collective_spec.specs.{declared.{kind.Kind.Kind, spec.Spec.Spec}, Kinds.is_custom, Collectives.{IsSpec, chunks_of, chunks_in}}
use Rattle.collective_spec.specs.declared.kind.Kind.TheVariants as kind
use Rattle.collective_spec.specs.declared.spec.Spec.TheVariants as spec

standard_some : (k : Kind) (nodes c : ℕ) → is_custom k ≡ false → 0 < nodes → 0 < c → 0 < chunks_of k nodes c
standard_some kind.Broadcast nodes c standard some one = one
standard_some kind.Reduce nodes c standard some one = one
standard_some kind.Custom nodes c standard some one = absurd (cc)
standard_some k nodes c standard some one = mul-pos some one

standard_few : (k : Kind) (nodes c : ℕ) → nodes ≤ 16 → c ≤ 16 → chunks_of k nodes c ≤ 256
standard_few kind.Broadcast nodes c few small = omega (arith, small)
standard_few kind.Reduce nodes c few small = omega (arith, small)
standard_few kind.Custom nodes c few small = omega arith
standard_few k nodes c few small = mul-le nodes c 16 16 few small

standard_more : (k : Kind) (nodes c d : ℕ) → c ≤ d → chunks_of k nodes c ≤ chunks_of k nodes d
standard_more kind.Broadcast nodes c d most = most
standard_more kind.Reduce nodes c d most = most
standard_more kind.Custom nodes c d most = omega arith
standard_more k nodes c d most = mul-le-mul_left nodes most

pub chunks_some : (s : Spec) (nodes c : ℕ) → IsSpec nodes s → 0 < nodes → 0 < c → 0 < chunks_in s nodes c
chunks_some (spec.Standard collective) nodes c is some one = standard_some collective.kind nodes c is.0 some one
chunks_some (spec.Custom p) nodes c is some one = mul-pos (let base = is.some in omega (arith, base)) one

-- a pattern has at most 16 chunks
abbrev pub FewBase : Spec → Type 0
FewBase (spec.Standard collective) = Unit {0}
FewBase (spec.Custom p) = p.base ≤ 16

pub few_base : (s : Spec) (nodes : ℕ) → IsSpec nodes s → FewBase s
few_base (spec.Standard collective) nodes is = tt
few_base (spec.Custom p) nodes is = is.few

-- there are at most 16 nodes or chunks of a pattern, and 16 chunks of a candidate, so at most 256 in all
pub chunks_few : (s : Spec) (nodes c : ℕ) → nodes ≤ 16 → c ≤ 16 → FewBase s → chunks_in s nodes c ≤ 256
chunks_few (spec.Standard collective) nodes c few small base = standard_few collective.kind nodes c few small
chunks_few (spec.Custom p) nodes c few small base = mul-le p.base c 16 16 base small

pub chunks_more : (s : Spec) (nodes c d : ℕ) → c ≤ d → chunks_in s nodes c ≤ chunks_in s nodes d
chunks_more (spec.Standard collective) nodes c d most = standard_more collective.kind nodes c d most
chunks_more (spec.Custom p) nodes c d most = mul-le-mul_left p.base most
