-- What the marks and the trail of a walk mean. The trail is the walk's queue, and holds the marked codes.
use Rattle.std.specs.Prelude.{◌≡◌, ◌⊎◌, ◌≢◌, List, ℕ, zero, suc, ◌+◌, ◌*◌, ◌≤◌, ◌<◌, min, length, set}
use Rattle.meaning.specs.Chains.{Step, Chain}
use Rattle.moves.specs.Layout.{mark_at, trail_at, mark, trail, Apart}
use Rattle.meaning.proofs.Sets.{Closed, Consistent}

-- how many of the first k numbers have a mark
unfoldable pub count_of : (ℕ → ℕ) → ℕ → ℕ
count_of f zero = 0
count_of f (suc k) = min 1 (f k) + count_of f k

-- the trail tr holds, in t places, the codes below N that have a mark, each once
pub record Trail (N : ℕ) (mk tr : ℕ → ℕ) (t : ℕ) : Type 0 where
  pub count : count_of mk N ≡ t
  pub inside : (i : ℕ) → i < t → (tr i < N) × (0 < mk (tr i))
  pub queued : (x : ℕ) → x < N → 0 < mk x → (i : ℕ) × (i < t) × (tr i ≡ x)
  pub once : (i j : ℕ) → i < j → j < t → tr i ≢ tr j

-- the first t places of the work area's trail hold its marked codes
abbrev pub Listed : ℕ → List ℕ → ℕ → Type 0
Listed n W t = Trail (2 * n) (mark n W) (trail n W) t

-- the set that the marks stand for
pub record Held (n : ℕ) (W : List ℕ) (x : ℕ) : Type 0 where
  pub is_code : x < 2 * n
  pub is_marked : 0 < mark n W x

-- what the work area holds between two moves: a closed and consistent set, in the marks and in t places of the trail
pub record Holding (n : ℕ) (ws W : List ℕ) (t : ℕ) : Type 0 where
  pub listed : Listed n W t
  pub closed : Closed ws (Held n W)
  pub consistent : Consistent (Held n W)

-- b has a mark, or gets the mark v and the next place of the trail
pub record Touched (n : ℕ) (W : List ℕ) (b v tail : ℕ) (W' : List ℕ) (r : ℕ) : Type 0 where
  pub old : 0 < mark n W b → (W' ≡ W) × (r ≡ tail)
  pub new : mark n W b ≡ 0 → (W' ≡ set (set W (mark_at n b) v) (trail_at n tail) b) × (r ≡ tail + 1)

-- a trail of t' places goes on from one of t places: the codes there keep their places and their marks
pub record Onto (N : ℕ) (mk tr : ℕ → ℕ) (t : ℕ) (mk' tr' : ℕ → ℕ) (t' : ℕ) : Type 0 where
  pub listed : Trail N mk' tr' t'
  pub grows : t ≤ t'
  pub old : (i : ℕ) → i < t → tr' i ≡ tr i
  pub kept : (x : ℕ) → x < N → 0 < mk x → mk' x ≡ mk x

-- the same of two work areas
abbrev pub OntoTrail : ℕ → List ℕ → ℕ → List ℕ → ℕ → Type 0
OntoTrail n W t W' t' = Onto (2 * n) (mark n W) (trail n W) t (mark n W') (trail n W') t'

-- the code a is visited: what it leads to has a mark, and what is new on the trail has the mark v
pub record Visited (N : ℕ) (ws : List ℕ) (a v : ℕ) (mk tr : ℕ → ℕ) (t : ℕ) (mk' tr' : ℕ → ℕ) (t' : ℕ) : Type 0 where
  pub onto : Onto N mk tr t mk' tr' t'
  pub new : (i : ℕ) → t ≤ i → i < t' → ((k : ℕ) × Step ws a k (tr' i)) × (mk' (tr' i) ≡ v)
  pub all : (k b : ℕ) → Step ws a k b → 0 < mk' b

-- what src reaches has a mark; the old marks and the old trail stay; with no old marks, a mark is 1 more than the least length of a chain
pub record SpreadFrom (n : ℕ) (ws : List ℕ) (src tail : ℕ) (W W' : List ℕ) (r : ℕ) : Type 0 where
  pub apart : Apart n W W'
  pub listed : Listed n W' r
  pub grows : tail ≤ r
  pub old : (i : ℕ) → i < tail → trail n W' i ≡ trail n W i
  pub kept : (x : ℕ) → x < 2 * n → 0 < mark n W x → mark n W' x ≡ mark n W x
  pub least : (ks : List ℕ) (x : ℕ) → Chain ws src ks x → (0 < mark n W' x) × ((0 < mark n W x) ⊎ (mark n W' x ≤ length ks + 1))
  pub chain : (x : ℕ) → x < 2 * n → 0 < mark n W' x → (0 < mark n W x) ⊎ ((ks : List ℕ) × Chain ws src ks x × (mark n W' x ≡ length ks + 1))

-- the trail is taken back to `end` places: what stands there keeps its mark, and no other code has one
pub record Undone (n end : ℕ) (W W' : List ℕ) : Type 0 where
  pub apart : Apart n W W'
  pub trails : (i : ℕ) → i < 2 * n → trail n W' i ≡ trail n W i
  pub listed : Listed n W' end
  pub kept : (i : ℕ) → i < end → mark n W' (trail n W i) ≡ mark n W (trail n W i)
