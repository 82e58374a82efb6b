-- What a trial leaves: the set with all that a code reaches, or the set as it was.
use Rattle.std.specs.Prelude.{◌≡◌, Result, Ok, Err, List, ℕ, ◌*◌, ◌≤◌, ◌<◌}
use Rattle.moves.specs.declared.attempt.Failure.{Failure}
use Rattle.moves.specs.declared.attempt.Stop.{Stop}
use Rattle.meaning.specs.Chains.{Step, Reach}
use Rattle.meaning.specs.Codes.{opposite}
use Rattle.moves.specs.Area.{Area, Same}
use Rattle.moves.specs.Layout.{mark, trail, Apart}
use Rattle.moves.specs.Walks.{OntoTrail, Held, Holding, Touched}
use Rattle.meaning.proofs.Sets.{Closed, Consistent, With}

-- b is touched; or nothing changes, and its opposite has a mark
abbrev pub Meets : ℕ → List ℕ → ℕ → ℕ → List ℕ → Result ℕ Stop → Type 0
Meets n W b tail W' (Ok t) = Touched n W b 1 tail W' t × (mark n W b ≡ 0 → mark n W (opposite b) ≡ 0)
Meets n W b tail W' (Err s) = (s.code.0 ≡ b) × (s.tail ≡ tail) × (W' ≡ W) × (0 < mark n W (opposite b))

-- the trail has grown, by codes to which a leads
pub record Pulled (n : ℕ) (ws : List ℕ) (a : ℕ) (W : List ℕ) (t : ℕ) (W' : List ℕ) (t' : ℕ) : Type 0 where
  pub apart : Apart n W W'
  pub onto : OntoTrail n W t W' t'
  pub new : (i : ℕ) → t ≤ i → i < t' → (k : ℕ) × Step ws a k (trail n W' i)
  pub consistent : Consistent (Held n W) → Consistent (Held n W')

-- by all of them; or a leads to a code whose opposite has a mark
abbrev pub Pulls : ℕ → List ℕ → ℕ → List ℕ → ℕ → List ℕ → Result ℕ Stop → Type 0
Pulls n ws a W t W' (Ok t') = Pulled n ws a W t W' t' × ((k b : ℕ) → Step ws a k b → 0 < mark n W' b)
Pulls n ws a W t W' (Err s) = Pulled n ws a W t W' s.tail × ((k : ℕ) × Step ws a k s.code.0) × (0 < mark n W' (opposite s.code.0))

-- the trail has grown, by src and codes that it reaches
pub record Pressed (n : ℕ) (ws : List ℕ) (src tail : ℕ) (W W' : List ℕ) (t : ℕ) : Type 0 where
  pub apart : Apart n W W'
  pub onto : OntoTrail n W tail W' t
  pub only : (x : ℕ) → Held n W' x → With ws (Held n W) src x
  pub consistent : Consistent (Held n W')
  pub has : 0 < mark n W' src

-- by all of them; or src reaches a code whose opposite has a mark
abbrev pub Presses : ℕ → List ℕ → ℕ → ℕ → List ℕ → List ℕ → Result ℕ Stop → Type 0
Presses n ws src tail W W' (Ok t) = Pressed n ws src tail W W' t × Closed ws (Held n W')
Presses n ws src tail W W' (Err s) = Pressed n ws src tail W W' s.tail × (s.code.0 < 2 * n) × Reach ws src s.code.0 × (0 < mark n W' (opposite s.code.0))

-- the set has grown by all that c reaches, and c does not lead to its opposite
pub record Grew (n : ℕ) (ws : List ℕ) (c tail : ℕ) (W W' : List ℕ) (t : ℕ) : Type 0 where
  pub apart : Apart n W W'
  pub holding : Holding n ws W' t
  pub grows : tail ≤ t
  pub old : (i : ℕ) → i < tail → trail n W' i ≡ trail n W i
  pub holds : (x : ℕ) → With ws (Held n W) c x → Held n W' x
  pub only : (x : ℕ) → Held n W' x → With ws (Held n W) c x
  pub free : Reach ws c (opposite c) → ⊥

-- the set is as it was, and c leads to b and to its opposite, hence to its own; neither b nor its opposite is in the set
pub record GaveUp (n : ℕ) (ws : List ℕ) (c tail : ℕ) (W W' : List ℕ) (b : ℕ) : Type 0 where
  pub apart : Apart n W W'
  pub holding : Holding n ws W' tail
  pub old : (i : ℕ) → i < tail → trail n W' i ≡ trail n W i
  pub same : (x : ℕ) → x < 2 * n → mark n W' x ≡ mark n W x
  pub is_code : b < 2 * n
  pub to_code : Reach ws c b
  pub to_opposite : Reach ws c (opposite b)
  pub turns : Reach ws c (opposite c)
  pub out : mark n W' b ≡ 0
  pub out_opposite : mark n W' (opposite b) ≡ 0

-- the one or the other; a trial walks at most all codes
abbrev pub Attempts : ℕ → List ℕ → ℕ → ℕ → List ℕ → List ℕ → Result ℕ Failure → Type 0
Attempts n ws c tail W W' (Ok t) = Grew n ws c tail W W' t
Attempts n ws c tail W W' (Err f) = GaveUp n ws c tail W W' f.code.0 × (f.walked ≤ 2 * n)

-- the same, where the trail's end is told beside the answer
abbrev pub Tried : ℕ → List ℕ → ℕ → ℕ → List ℕ → List ℕ → ℕ → Result (Unit {0}) Failure → Type 0
Tried n ws c tail W W' t (Ok u) = Grew n ws c tail W W' t
Tried n ws c tail W W' t (Err f) = GaveUp n ws c tail W W' f.code.0 × (f.walked ≤ 2 * n) × (t ≡ tail)

-- the same of the whole area
pub record Tries (a : Area) (c : ℕ) (b : Area) (r : Result (Unit {0}) Failure) : Type 0 where
  pub same : Same a b
  pub tried : Tried a.n a.rules c a.tail a.words b.words b.tail r
