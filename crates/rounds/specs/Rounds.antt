-- What the rounds of trials keep: the notes in the spare table, 0 nothing yet, else `possible` or `fails`.
use Rattle.std.specs.Prelude.{◌≡◌, cond, List, ℕ, ◌*◌, ◌<◌, eqb}
use Rattle.meaning.specs.Codes.{opposite, late, early}
use Rattle.meaning.proofs.General.{build}
use Rattle.moves.specs.Area.{Area, Same}
use Rattle.moves.specs.Layout.{mark, spare}
use Rattle.lessons.specs.Learning.{fails}
use Rattle.search.specs.State.{Around, State}

-- more is noted, and no note is lost
pub record More (n : ℕ) (ws W W' : List ℕ) (t : ℕ) : Type 0 where
  pub around : Around n W W'
  pub state : State n ws W' t
  pub keeps : (x : ℕ) → x < 2 * n → 0 < spare n W x → 0 < spare n W' x

-- code c is considered: something is noted of it, unless its opposite is in the set
pub record Considered (n : ℕ) (ws : List ℕ) (c : ℕ) (W W' : List ℕ) (t : ℕ) : Type 0 where
  pub more : More n ws W W' t
  pub here : mark n W (opposite c) ≡ 0 → 0 < spare n W' c

-- something is noted of code c, and the set is empty again
pub record FoundOut (n : ℕ) (ws : List ℕ) (c : ℕ) (W W' : List ℕ) : Type 0 where
  pub more : More n ws W W' 0
  pub here : 0 < spare n W' c

-- and of each code below k
pub record Swept (n : ℕ) (ws : List ℕ) (k : ℕ) (W W' : List ℕ) : Type 0 where
  pub more : More n ws W W' 0
  pub all : (x : ℕ) → x < k → 0 < spare n W' x

-- The same of the whole area.

-- code c is considered
pub record Considers (a : Area) (c : ℕ) (b : Area) : Type 0 where
  pub same : Same a b
  pub considered : Considered a.n a.rules c a.words b.words b.tail

-- a round is gone, and the set is empty
pub record Goes (a b : Area) : Type 0 where
  pub same : Same a b
  pub empty : b.tail ≡ 0
  pub more : More a.n a.rules a.words b.words 0

-- something is noted of code c
pub record FindsOut (a : Area) (c : ℕ) (b : Area) : Type 0 where
  pub same : Same a b
  pub empty : b.tail ≡ 0
  pub found : FoundOut a.n a.rules c a.words b.words

-- and of all codes
pub record Sweeps (a b : Area) : Type 0 where
  pub same : Same a b
  pub empty : b.tail ≡ 0
  pub swept : Swept a.n a.rules (2 * a.n) a.words b.words

-- the byte of a choice, by the notes of its late code and its early code
abbrev pub byte_of : ℕ → ℕ → ℕ
byte_of late early = cond (eqb early fails) 1 (cond (eqb late fails) 0 2)

-- and the bytes of all choices
abbrev pub forced_of : ℕ → List ℕ → List ℕ
forced_of n W = build n (λ v. byte_of (spare n W (late v)) (spare n W (early v)))
