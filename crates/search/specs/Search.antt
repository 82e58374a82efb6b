-- What the search for the first rota leaves.
use Rattle.std.specs.Prelude.{◌⊎◌, Result, Ok, Err, List, ℕ, ◌+◌, ◌*◌, ◌<◌, ◌≡◌}
use Rattle.meaning.specs.Chains.{Clash}
use Rattle.meaning.proofs.Growing.{Grown}
use Rattle.moves.specs.Area.{Area, Same}
use Rattle.moves.specs.Layout.{mark, spare}
use Rattle.moves.specs.Walks.{Held, Listed}
use Rattle.lessons.specs.Learning.{fails}
use Rattle.search.specs.State.{Around, State}
use Rattle.meaning.specs.declared.codes.Choice.{Choice}

-- the note of c is `fails`, others may have become so, and nothing else has changed
pub record Taught (n : ℕ) (ws : List ℕ) (c tail : ℕ) (W W' : List ℕ) : Type 0 where
  pub around : Around n W W'
  pub here : spare n W' c ≡ fails
  pub state : State n ws W' tail
  pub marks : (x : ℕ) → x < 2 * n → mark n W' x ≡ mark n W x
  pub spares : (x : ℕ) → x < 2 * n → (spare n W' x ≡ spare n W x) ⊎ (spare n W' x ≡ fails)

-- the choices from v to w are settled: whatever seeds B the set had grown from, it has grown further
pub record Settles (n : ℕ) (ws : List ℕ) (v w : ℕ) (W W' : List ℕ) (t : ℕ) : Type 0 where
  pub around : Around n W W'
  pub state : State n ws W' t
  pub grown : (B : ℕ → ℕ) → Grown ws (λ d. 0 < B d) (Held n W) v → Grown ws (λ d. 0 < B d) (Held n W') w

-- choice u clashes, and none of the settled ones before it does; the set of those has t codes
pub record Halts (n : ℕ) (ws : List ℕ) (v : ℕ) (W W' : List ℕ) (u t : ℕ) : Type 0 where
  pub around : Around n W W'
  pub listed : Listed n W' t
  pub within : u < n
  pub clash : Clash ws u
  pub lowest : (B : ℕ → ℕ) → Grown ws (λ d. 0 < B d) (Held n W) v → (w : ℕ) → w < u → Clash ws w → ⊥

-- choice v is settled, or clashes, and the set is as it was
abbrev pub SettleSays : ℕ → List ℕ → ℕ → ℕ → List ℕ → List ℕ → ℕ → Result (Unit {0}) Choice → Type 0
SettleSays n ws v tail W W' t (Ok x) = Settles n ws v (v + 1) W W' t
SettleSays n ws v tail W W' t (Err u) = (u.0 ≡ v) × (t ≡ tail) × Around n W W' × Listed n W' tail × Clash ws v

-- all choices from v on are settled, or one clashes
abbrev pub SearchSays : ℕ → List ℕ → ℕ → List ℕ → List ℕ → ℕ → Result (Unit {0}) Choice → Type 0
SearchSays n ws v W W' t (Ok x) = Settles n ws v n W W' t
SearchSays n ws v W W' t (Err u) = Halts n ws v W W' u.0 t

-- The same of the whole area.

-- the failure of c is noted
pub record Teaches (a : Area) (c : ℕ) (b : Area) : Type 0 where
  pub same : Same a b
  pub stays : b.tail ≡ a.tail
  pub taught : Taught a.n a.rules c a.tail a.words b.words

-- choice v is settled, or stuck
pub record Settled (a : Area) (v : ℕ) (b : Area) (r : Result (Unit {0}) Choice) : Type 0 where
  pub same : Same a b
  pub says : SettleSays a.n a.rules v a.tail a.words b.words b.tail r

-- the choices from v on are settled, or one is stuck
pub record Searches (a : Area) (v : ℕ) (b : Area) (r : Result (Unit {0}) Choice) : Type 0 where
  pub same : Same a b
  pub says : SearchSays a.n a.rules v a.words b.words b.tail r
