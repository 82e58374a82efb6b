-- What is kept in the work area between two moves.
use Rattle.std.specs.Prelude.{◌≡◌, List, ℕ, ◌*◌, ◌≤◌, ◌<◌, min, length}
use Rattle.meaning.specs.Chains.{Reach}
use Rattle.meaning.specs.Codes.{late, early, opposite}
use Rattle.meaning.proofs.General.{build}
use Rattle.moves.specs.Area.{Area}
use Rattle.moves.specs.Layout.{head, mark, spare, next}
use Rattle.moves.specs.Lists.{Ready}
use Rattle.moves.specs.Walks.{Holding}
use Rattle.lessons.specs.Learning.{possible, fails}

-- the lists, what lies past them and the length are as they were
pub record Around (n : ℕ) (W W' : List ℕ) : Type 0 where
  pub long : length W' ≡ length W
  pub heads : (c : ℕ) → c < 2 * n → head n W' c ≡ head n W c
  pub nexts : (e : ℕ) → next n W' e ≡ next n W e

-- the notes are true: 0 nothing is known of the code, `possible` it does not lead to its opposite, `fails` it does
pub record Known (n : ℕ) (ws W : List ℕ) : Type 0 where
  pub low : (x : ℕ) → x < 2 * n → spare n W x ≤ fails
  pub frees : (x : ℕ) → x < 2 * n → spare n W x ≡ possible → Reach ws x (opposite x) → ⊥
  pub turns : (x : ℕ) → x < 2 * n → spare n W x ≡ fails → Reach ws x (opposite x)

-- the lists, a closed and consistent set with t codes, and notes that are true
pub record State (n : ℕ) (ws W : List ℕ) (t : ℕ) : Type 0 where
  pub ready : Ready n ws W
  pub holding : Holding n ws W t
  pub known : Known n ws W

-- the same of the whole area
abbrev pub Stands : Area → Type 0
Stands a = State a.n a.rules a.words a.tail

-- v is a choice, and neither of its codes has a mark
abbrev pub Open : Area → ℕ → Type 0
Open a v = (v < a.n) × (mark a.n a.words (late v) ≡ 0) × (mark a.n a.words (early v) ≡ 0)

-- the rota that the marks stand for: 1 where the choice's late code is in the set
abbrev pub rota_of : ℕ → List ℕ → List ℕ
rota_of n W = build n (λ v. min 1 (mark n W (late v)))
