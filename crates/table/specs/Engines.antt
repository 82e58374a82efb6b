-- What an engine is, whatever it answers, and when it keeps a promise. proofs/IdleEngines shows that the idle ones keep none.
use Rattle.std.specs.Prelude.{Result, List, ℕ}
use Rattle.meaning.specs.declared.refusal.Refusal.{Refusal}

-- what an engine leaves: an answer, and the two areas afterwards
pub record Left (A : Type 0) : Type 0 where
  pub answer : Result A Refusal
  pub area : List ℕ
  pub work : List ℕ

-- an engine leaves it for the number of choices, the rules' words, the answer's area and the work area
abbrev pub Engine : Type 0 → Type 0
Engine A = ℕ → List ℕ → List ℕ → List ℕ → Left A

-- it keeps a promise on every input
abbrev pub Obeys : {A : Type 0} → (ℕ → List ℕ → List ℕ → List ℕ → Result A Refusal → List ℕ → List ℕ → Type 0) → Engine A → Type 0
Obeys promise run =
    (n : ℕ) (ws area work : List ℕ) → promise n ws area work (run n ws area work).answer (run n ws area work).area (run n ws area work).work
