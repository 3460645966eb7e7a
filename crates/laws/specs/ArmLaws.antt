-- A `_` arm of a match on an enum: what holds of each variant that it is for holds of the value that came there. Assumes
-- nothing.
use Rattle.std.specs.Prelude.{ℕ, suc, Bool, true, false, not, List, [], ◌∷◌, T}
use Rattle.std.proofs.Common.{subst, inl, inr}
use mir.Val.{has_key}
use types.Run.{OneOf, miss}
use denote.Enum.Declared.{Record, Choice, declared, rowss, intoss, tag_of}
use denote.Enum.Enum.{tag}
use denote.Struct.Field.{Field}
use denote.Struct.Values.{Values}

abbrev When : Bool → Type 0 → Type 0 → Type 0
When true A G = A → G
When false A G = G

-- from a proof of P for each variant whose place passes the test, whatever its fields are, to G
abbrev pub Each : (Fss : List (List Field)) → (ℕ → Bool) → (Choice Fss → Type 0) → Type 0 → Type 0
Each [] test P G = G
Each (Fs ∷ Fss) test P G =
    When (test 0) ((v : Values Fs) → P (inl v)) (Each Fss (λ n. test (suc n)) (λ c. P (inr c)) G)

when : (b : Bool) {A G : Type 0} → ((T b → A) → G) → When b A G
when true k = λ a. k (λ h. a)
when false k = k (λ h. absurd h)

each :
    (Fss : List (List Field)) (test : ℕ → Bool) (P : Choice Fss → Type 0) {G : Type 0}
    → (((c : Choice Fss) → T (test (tag (rowss Fss) (intoss Fss c))) → P c) → G) → Each Fss test P G
each [] test P k = k (λ c h. absurd c)
each (Fs ∷ Fss) test P k =
    when (test 0)
    (λ first.
    each Fss (λ n. test (suc n)) (λ c. P (inr c)) (λ rest. k (λ c. elim c as (λ x. T (test (tag (rowss (Fs ∷ Fss)) (intoss (Fs ∷ Fss) x))) → P x) [ inl v ↦ λ h. first h v | inr d ↦ rest d ])))

listed : (b : Bool) → (T (not b) → ⊥) → T b
listed true h = tt
listed false h = absurd (h tt)

-- ks: the places of the variants that the arm is for
pub arm :
    (N : Record) (ks : List ℕ) (x : N.D) → OneOf ks (tag_of (declared N) x) → (P : N.D → Type 0)
    → Each N.parts (has_key ks) (λ c. P (N.make c)) (P x)
arm N ks x h P =
    each N.parts (has_key ks) (λ c. P (N.make c))
    (λ all. subst P (N.eta x) (all (N.as_values x) (listed (has_key ks place) (λ n. miss ks place n h))))
  where
    place : ℕ
    place = tag_of (declared N) x
