-- What the replay of a rota keeps at each choice, and what the retreat and the search after it find.
use Rattle.std.specs.Prelude.{◌≡◌, ◌⊎◌, Bool, true, false, Option, Some, None, List, ℕ, ◌+◌, ◌*◌, ◌≤◌, ◌<◌, get_or, take}
use Rattle.meaning.specs.Chains.{Reach}
use Rattle.meaning.specs.Codes.{late, opposite, choice_of}
use Rattle.meaning.specs.Rotas.{True, Rota, Possible, Next, Ended}
use Rattle.meaning.specs.Rotas as rotas
use Rattle.meaning.proofs.NextLaws.{Kept, NoneAt}
use Rattle.meaning.proofs.Sets.{Spread}
use Rattle.moves.specs.Layout.{mark, trail, spare, Apart, Spared}
use Rattle.moves.specs.Trials.{Grew}
use Rattle.moves.specs.Walks.{Listed, Held, Holding}
use Rattle.search.specs.State.{Around, rota_of}
use Rattle.moves.specs.Area.{Area, Same}
use Rattle.meaning.specs.declared.codes.Choice.{Choice}
use Rattle.meaning.specs.declared.answers.Moved.{Moved}

-- the codes of the choices before j that are true in r
abbrev pub Past : List ℕ → ℕ → ℕ → Type 0
Past r j c = (choice_of c < j) × True r c

-- the set is all that the codes of P lead to
pub record Spans (n : ℕ) (ws : List ℕ) (P : ℕ → Type 0) (W : List ℕ) (t : ℕ) : Type 0 where
  pub holding : Holding n ws W t
  pub all : (c : ℕ) → P c → Held n W c
  pub only : (x : ℕ) → Held n W x → Spread ws P x

-- the same of the whole area
abbrev pub SpansOn : Area → (ℕ → Type 0) → Type 0
SpansOn a P = Spans a.n a.rules P a.words a.tail

-- what the replay begins with: no marks, and a rota at the front of the given bytes
abbrev pub Begins : Area → List ℕ → Type 0
Begins a given = ((x : ℕ) → x < 2 * a.n → mark a.n a.words x ≡ 0) × Rota a.n (take a.n given)

-- how long the trail was before choice j
abbrev pub length_at : ℕ → List ℕ → ℕ → ℕ
length_at n W j = spare n W (late j)

-- whoever takes the trail tr back to t places has the set that the values of r before j lead to
abbrev pub Back : ℕ → List ℕ → List ℕ → ℕ → ℕ → (ℕ → ℕ) → Type 0
Back n ws r j t tr = (U : List ℕ) → Listed n U t → ((k : ℕ) → k < t → trail n U k ≡ tr k) → Spans n ws (Past r j) U t

-- the lengths that are remembered for the choices below top
pub record Levels (n : ℕ) (ws r : List ℕ) (top : ℕ) (W : List ℕ) (t : ℕ) : Type 0 where
  pub rising : (i j : ℕ) → i ≤ j → j < top → length_at n W i ≤ length_at n W j
  pub last : (j : ℕ) → j < top → length_at n W j ≤ t
  pub back : (j : ℕ) → j < top → Back n ws r j (length_at n W j) (trail n W)

-- no allowed rota that leaves r at choice p or later comes after it
abbrev pub NoneFrom : ℕ → List ℕ → List ℕ → ℕ → Type 0
NoneFrom n ws r p = (i : ℕ) → p ≤ i → NoneAt n ws r i

-- what the retreat begins with: the lengths, and what no later choice can give
abbrev pub Remembers : Area → List ℕ → ℕ → Type 0
Remembers a r top = Levels a.n a.rules r top a.words a.tail × NoneFrom a.n a.rules r top

-- the first choices of the given rota were followed, up to top; no allowed rota that leaves it at a later one comes after it
pub record Replayed (n : ℕ) (ws r W W' : List ℕ) (top t : ℕ) : Type 0 where
  pub around : Around n W W'
  pub within : top ≤ n
  pub listed : Listed n W' t
  pub levels : Levels n ws r top W' t
  pub none : NoneFrom n ws r top

-- the set and its trail are as they were
pub record Unchanged (n : ℕ) (ws : List ℕ) (tail : ℕ) (W W' : List ℕ) : Type 0 where
  pub apart : Apart n W W'
  pub holding : Holding n ws W' tail
  pub old : (i : ℕ) → i < tail → trail n W' i ≡ trail n W i

-- c is in the set with all that it leads to; or its opposite is in the set, or c leads to that
abbrev pub JoinSays : ℕ → List ℕ → ℕ → ℕ → List ℕ → List ℕ → ℕ → Bool → Type 0
JoinSays n ws c tail W W' t true = Grew n ws c tail W W' t
JoinSays n ws c tail W W' t false = Unchanged n ws tail W W' × (Held n W (opposite c) ⊎ Reach ws c (opposite c)) × (t ≡ tail)

-- choice p is raised: the set is all that the values of r before p and late p lead to
pub record Raised (n : ℕ) (ws r : List ℕ) (p : ℕ) (W W' : List ℕ) (t : ℕ) : Type 0 where
  pub around : Around n W W'
  pub within : p < n
  pub early : get_or r p 0 ≡ 0
  pub stands : Spans n ws (Kept r p) W' t

-- choice p is raised; or it cannot be, and nothing has changed
abbrev pub LiftSays : ℕ → List ℕ → List ℕ → ℕ → ℕ → List ℕ → List ℕ → ℕ → Bool → Type 0
LiftSays n ws r p tail W W' t true = Raised n ws r p W W' t
LiftSays n ws r p tail W W' t false = Unchanged n ws tail W W' × NoneAt n ws r p × (t ≡ tail)

-- the last choice that can be raised is raised, or there is none
abbrev pub RetreatSays : ℕ → List ℕ → List ℕ → List ℕ → List ℕ → ℕ → Option Choice → Type 0
RetreatSays n ws r W W' t (Some v) = Raised n ws r v.0 W W' t × NoneFrom n ws r (v.0 + 1)
RetreatSays n ws r W W' t None = Around n W W' × Listed n W' t × NoneFrom n ws r 0

-- the first k words of the spare table are 0, and nothing outside that table has changed
pub record Forgot (n k : ℕ) (W W' : List ℕ) : Type 0 where
  pub spared : Spared n W W'
  pub zeros : (x : ℕ) → x < k → spare n W' x ≡ 0

-- the set says the next rota; or none comes after; or there is none at all
abbrev pub TurnSays : ℕ → List ℕ → List ℕ → List ℕ → List ℕ → Moved → Type 0
TurnSays n ws r W W' Moved.Moved = Around n W W' × Next n ws r (rota_of n W')
TurnSays n ws r W W' Moved.Ended = Around n W W' × Possible n ws × Ended n ws r
TurnSays n ws r W W' Moved.Impossible = Around n W W' × rotas.Impossible n ws

-- The same of the whole area.

-- c joins the set, or nothing changes
pub record Joins (a : Area) (c : ℕ) (b : Area) (r : Bool) : Type 0 where
  pub same : Same a b
  pub says : JoinSays a.n a.rules c a.tail a.words b.words b.tail r

-- the rota is followed up to top
pub record Replays (a : Area) (rota : List ℕ) (b : Area) (top : ℕ) : Type 0 where
  pub same : Same a b
  pub replayed : Replayed a.n a.rules rota a.words b.words top b.tail

-- choice p is raised, or nothing changes
pub record Lifts (a : Area) (rota : List ℕ) (p : ℕ) (b : Area) (r : Bool) : Type 0 where
  pub same : Same a b
  pub says : LiftSays a.n a.rules rota p a.tail a.words b.words b.tail r

-- the last choice that can be raised is raised, or there is none
pub record Retreats (a : Area) (rota : List ℕ) (b : Area) (r : Option Choice) : Type 0 where
  pub same : Same a b
  pub says : RetreatSays a.n a.rules rota a.words b.words b.tail r

-- the spare table is cleared
pub record Forgets (a b : Area) : Type 0 where
  pub same : Same a b
  pub stays : b.tail ≡ a.tail
  pub forgot : Forgot a.n (2 * a.n) a.words b.words

-- the next rota is found, or none
pub record Finds (a : Area) (rota : List ℕ) (b : Area) (m : Moved) : Type 0 where
  pub same : Same a b
  pub says : TurnSays a.n a.rules rota a.words b.words m
