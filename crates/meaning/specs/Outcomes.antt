-- Outcomes of a call. That two which a promise allows are the same is proved in proofs/Once, and that it allows one in proofs/Outcomes.
use Rattle.std.specs.Prelude.{◌≡◌, Result, List, ℕ}
use Rattle.meaning.specs.declared.refusal.Refusal.{Refusal}

-- two outcomes are the same: the answer, and each item of the two areas after the call
abbrev pub Same : {A : Type 0} → A → List ℕ → List ℕ → A → List ℕ → List ℕ → Type 0
Same a area₁ work₁ b area₂ work₂ = (a ≡ b) × (area₁ ≡ area₂) × (work₁ ≡ work₂)

-- an outcome that a promise allows
abbrev pub Outcome : (A : Type 0) → (Result A Refusal → List ℕ → List ℕ → Type 0) → Type 0
Outcome A promise = (a : Result A Refusal) × (area' : List ℕ) × (work' : List ℕ) × promise a area' work'
