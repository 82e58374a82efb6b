-- What `find_next` promises fixes what a call shows of it: the answer, and the rota that the set says.
use mathlib.Core.Path.{◌≡◌, refl}
use mathlib.Core.List.{List, []}
use Prim.Native.Nat.{ℕ}
use Rattle.meaning.specs.declared.answers.Moved.{Moved}
use Rattle.meaning.specs.Promises.{NextSays}
use Rattle.search.specs.State.{rota_of}
use Rattle.replay.specs.Replay.{TurnSays}
use Rattle.meaning.proofs.Once.{next_once}

-- the rota, where there is one
abbrev pub rota_found : ℕ → List ℕ → Moved → List ℕ
rota_found n W Moved.Moved = rota_of n W
rota_found n W Moved.Ended = []
rota_found n W Moved.Impossible = []

module _ (n : ℕ) (ws r W : List ℕ) where
  -- it is what Next says
  turn_moves : (W' : List ℕ) (m : Moved) → TurnSays n ws r W W' m → NextSays n ws r m (rota_found n W' m)
  turn_moves W' Moved.Moved s = s.1
  turn_moves W' Moved.Ended s = (s.1, s.2, refl)
  turn_moves W' Moved.Impossible s = (s.1, refl)

  -- so there is one
  pub turn_once : (W₁ W₂ : List ℕ) (m k : Moved) → TurnSays n ws r W W₁ m → TurnSays n ws r W W₂ k → (m ≡ k) × (rota_found n W₁ m ≡ rota_found n W₂ k)
  turn_once W₁ W₂ m k p q = next_once n ws r m k (rota_found n W₁ m) (rota_found n W₂ k) (turn_moves W₁ m p) (turn_moves W₂ k q)
