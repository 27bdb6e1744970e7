-- The copying collective of which a reduction is the inverse.
use Rattle.std.proofs.{Common.{◌≡◌, ◌≢◌, ℕ, true, false, ◌⊎◌, inl, inr, refl, sym, ap, ◌∙◌, subst, ⊎_elim}, lemmas.Bool.false≢true}
use Rattle.collective_spec.specs.{declared.{kind.Kind.Kind, spec.Spec.Spec}, Kinds.{is_custom, allows}, Collectives.{IsSpec, reduces, adds_up, kind_in, chunks_of, chunks_in, instance_of, spec_instance}}
use Rattle.collective_spec.specs.declared.kind.Kind.TheVariants as kind
use Rattle.collective_spec.specs.declared.spec.Spec.TheVariants as spec
use Rattle.candidate_order.specs.Copied.{copied_kind, copied_spec}

-- ---- kinds

-- what holds of each kind holds of all
each_kind : (P : Kind → Type 0) → P kind.Broadcast → P kind.Gather → P kind.Allgather → P kind.Scatter → P kind.Alltoall → P kind.Reduce → P kind.Reducescatter → P kind.Allreduce → P kind.Custom → (k : Kind) → P k
each_kind P a b c d e f g h i kind.Broadcast = a
each_kind P a b c d e f g h i kind.Gather = b
each_kind P a b c d e f g h i kind.Allgather = c
each_kind P a b c d e f g h i kind.Scatter = d
each_kind P a b c d e f g h i kind.Alltoall = e
each_kind P a b c d e f g h i kind.Reduce = f
each_kind P a b c d e f g h i kind.Reducescatter = g
each_kind P a b c d e f g h i kind.Allreduce = h
each_kind P a b c d e f g h i kind.Custom = i

custom_alike : (k : Kind) → is_custom (copied_kind k) ≡ is_custom k
custom_alike = each_kind (λ k. is_custom (copied_kind k) ≡ is_custom k) refl refl refl refl refl refl refl refl refl

allowed_alike : (k : Kind) (nodes c : ℕ) → allows (copied_kind k) nodes c ≡ allows k nodes c
allowed_alike k nodes c = each_kind (λ k. allows (copied_kind k) nodes c ≡ allows k nodes c) refl refl refl refl refl refl refl refl refl k

chunks_alike : (k : Kind) (nodes c : ℕ) → chunks_of (copied_kind k) nodes c ≡ chunks_of k nodes c
chunks_alike k nodes c = each_kind (λ k. chunks_of (copied_kind k) nodes c ≡ chunks_of k nodes c) refl refl refl refl refl refl refl refl refl k

copies_of_all : (k : Kind) → k ≢ kind.Allreduce → reduces (copied_kind k) ≡ false
copies_of_all k single = ⊎_elim (λ same. absurd (single same)) (λ e. e) (each_kind (λ k. (k ≡ kind.Allreduce) ⊎ (reduces (copied_kind k) ≡ false)) (inr refl) (inr refl) (inr refl) (inr refl) (inr refl) (inr refl) (inr refl) (inl refl) (inr refl) k)

kind_stays : (k : Kind) → reduces k ≡ false → copied_kind k ≡ k
kind_stays k e = ⊎_elim (λ same. same) (λ reducing. absurd (false≢true (sym e ∙ reducing))) (each_kind (λ k. (copied_kind k ≡ k) ⊎ (reduces k ≡ true)) (inl refl) (inl refl) (inl refl) (inl refl) (inl refl) (inr refl) (inr refl) (inr refl) (inl refl) k)

instance_alike : (k : Kind) (root nodes c : ℕ) → instance_of (record { kind = copied_kind k; root = root }) nodes c ≡ instance_of (record { kind = k; root = root }) nodes c
instance_alike k root nodes c = each_kind (λ k. instance_of (record { kind = copied_kind k; root = root }) nodes c ≡ instance_of (record { kind = k; root = root }) nodes c) refl refl refl refl refl refl refl refl refl k

-- ---- what is asked for

pub copies : (s : Spec) → kind_in s ≢ kind.Allreduce → adds_up (copied_spec s) ≡ false
copies (spec.Standard collective) single = copies_of_all collective.kind single
copies (spec.Custom p) single = refl

pub single : (s : Spec) → adds_up (copied_spec s) ≡ false → kind_in s ≢ kind.Allreduce
single (spec.Standard collective) e = λ same. let bad : true ≡ false = subst (λ k. reduces (copied_kind k) ≡ false) same e in absurd (cc)
single (spec.Custom p) e = λ same. absurd (cc)

pub copied_keeps : (nodes : ℕ) (s : Spec) → IsSpec nodes s → IsSpec nodes (copied_spec s)
copied_keeps nodes (spec.Standard collective) is = (custom_alike collective.kind ∙ is.0, is.1)
copied_keeps nodes (spec.Custom p) is = is

pub kept_copied : (nodes : ℕ) (s : Spec) → IsSpec nodes (copied_spec s) → IsSpec nodes s
kept_copied nodes (spec.Standard collective) is = (sym (custom_alike collective.kind) ∙ is.0, is.1)
kept_copied nodes (spec.Custom p) is = is

pub same_allowed : (s : Spec) (nodes c : ℕ) → allows (kind_in (copied_spec s)) nodes c ≡ allows (kind_in s) nodes c
same_allowed (spec.Standard collective) nodes c = allowed_alike collective.kind nodes c
same_allowed (spec.Custom p) nodes c = refl

pub same_chunks : (s : Spec) (nodes c : ℕ) → chunks_in (copied_spec s) nodes c ≡ chunks_in s nodes c
same_chunks (spec.Standard collective) nodes c = chunks_alike collective.kind nodes c
same_chunks (spec.Custom p) nodes c = refl

pub same_instance : (s : Spec) (nodes c : ℕ) → spec_instance (copied_spec s) nodes c ≡ spec_instance s nodes c
same_instance (spec.Standard collective) nodes c = instance_alike collective.kind collective.root nodes c
same_instance (spec.Custom p) nodes c = refl

-- what copies is the copying collective itself
pub copied_stays : (s : Spec) → adds_up s ≡ false → copied_spec s ≡ s
copied_stays (spec.Standard collective) e = ap (λ k. spec.Standard (record { kind = k; root = collective.root })) (kind_stays collective.kind e)
copied_stays (spec.Custom p) e = refl
