-- The state of the walk that finds the components, and what its moves do. The walk is Tarjan's, with one rank a code: 0 where the code is not met yet; on the stack 1 more than a place that the code
-- reaches, at most its own; over 2n where the code is settled. The ranks stand in the marks, the stack in the trail, and the path, as places of the stack, in the spare table; a code's cursor is the head of the list of its opposite.
use Rattle.std.specs.Prelude.{◌≡◌, ◌⊎◌, ◌≢◌, Option, Some, None, List, ℕ, ◌+◌, ◌-◌, ◌*◌, ◌≤◌, ◌<◌, length, get_or, set}
use Rattle.meaning.specs.Chains.{Step, Reach, Tied}
use Rattle.meaning.specs.Codes.{opposite}
use Rattle.meaning.specs.Rules.{other_end}
use Rattle.meaning.specs.Sizes.{max_choices}
use Rattle.moves.specs.Layout.{Tables, Sizes, head, mark, trail, spare, next, head_at, mark_at, trail_at, spare_at}
use Rattle.moves.specs.Lists.{FirstEnd, Nexts, Cursor, Passed}
use Rattle.moves.specs.Walks.{count_of}
use Rattle.components.specs.Leads.{Lead, Side, settled_rank}
use Rattle.components.specs.declared.settle.Side.{Side as Facing}
use Rattle.components.specs.declared.settle.Side.TheVariants.{Own, Opposite}
use Rattle.components.specs.declared.tables.Walk.{Walk}
use Rattle.meaning.specs.declared.codes.Code.{Code}

-- the place of a code's cursor, and what stands there: 1 more than the end where its list goes on, or 0
abbrev pub cursor_at : ℕ → ℕ → ℕ
cursor_at n x = head_at n (opposite x)

abbrev pub cursor : ℕ → List ℕ → ℕ → ℕ
cursor n W x = head n W (opposite x)

-- a walk: the list, the tables, and how many codes stand on the stack and how many places on the path
pub record Walking : Type 0 where
  pub n : ℕ
  pub words : List ℕ
  pub tables : List ℕ
  pub top : ℕ
  pub depth : ℕ

-- the walk that a `Walk` holds: its clauses speak of it
abbrev pub walking : Walk → Walking
walking w = record { n = w.n; words = w.words.now; tables = w.tables.now; top = w.top; depth = w.depth }

-- the tables of n choices fit
abbrev pub Room : ℕ → List ℕ → Type 0
Room n T = (n ≤ max_choices) × Tables n T

-- with other tables and counts
abbrev pub moved : Walking → List ℕ → ℕ → ℕ → Walking
moved w T t k = record { n = w.n; words = w.words; tables = T; top = t; depth = k }

-- with other tables
abbrev pub retabled : Walking → List ℕ → Walking
retabled w T = moved w T w.top w.depth

-- the list stays
pub record Alike (w w' : Walking) : Type 0 where
  pub n : w'.n ≡ w.n
  pub words : w'.words ≡ w.words

-- x has the rank v
abbrev pub reranked : Walking → ℕ → ℕ → Walking
reranked w x v = moved w (set w.tables (mark_at w.n x) v) w.top w.depth

-- place p of the stack lies in the part that starts at place d j of the path
pub record In (d : ℕ → ℕ) (t k j p : ℕ) : Type 0 where
  pub on : j < k
  pub from : d j ≤ p
  pub within : p < t
  pub under : j + 1 < k → p < d (j + 1)

-- a step from the code at p to z is taken into account: z was met, and where it is on the stack the rank of p is no higher than its place
pub record Accounted (r s : ℕ → ℕ) (t p z : ℕ) : Type 0 where
  pub has : 0 < r z
  pub low : (q : ℕ) → q < t → s q ≡ z → r (s p) ≤ q + 1

-- the state of the walk over N codes: ranks r, stack s of t codes, path d of k stack places, cursors cu
pub record Dfs (N : ℕ) (ws : List ℕ) (r s d cu : ℕ → ℕ) (t k : ℕ) : Type 0 where
  -- a place of the stack holds a code, whose rank is at most 1 more than the place
  pub stacked : (p : ℕ) → p < t → (s p < N) × (0 < r (s p)) × (r (s p) ≤ p + 1)
  -- a code that was met is settled or on the stack
  pub placed : (x : ℕ) → x < N → 0 < r x → (N < r x) ⊎ ((p : ℕ) × (p < t) × (s p ≡ x))
  -- no code stands there twice
  pub one : (p q : ℕ) → p < t → q < t → s p ≡ s q → p ≡ q
  -- no more codes stand there than were met
  pub count : t ≤ count_of r N
  -- place j of the path holds a place of the stack, at least j
  pub climb : (j : ℕ) → j < k → (j ≤ d j) × (d j < t)
  -- the path goes up
  pub rise : (i j : ℕ) → i < j → j < k → d i < d j
  -- it starts at the bottom of the stack, which is empty where the path is
  pub floor : (k ≡ 0 → t ≡ 0) × (0 < k → d 0 ≡ 0)
  -- a code on the stack reaches all above it
  pub up : (p q : ℕ) → p ≤ q → q < t → Reach ws (s p) (s q)
  -- and the code where its part starts
  pub back : (j p : ℕ) → In d t k j p → Reach ws (s p) (s (d j))
  -- and the place that its rank names
  pub low : (p : ℕ) → p < t → Reach ws (s p) (s (r (s p) - 1))
  -- no rank in a part is lower than that of its first code
  pub lows : (j p : ℕ) → In d t k j p → r (s (d j)) ≤ r (s p)
  -- the lists of the other codes in a part are done
  pub spent : (j p : ℕ) → In d t k j p → d j < p → cu (s p) ≡ 0
  -- the cursor of a code not met yet is the head of its list
  pub fresh : (x : ℕ) → x < N → r x ≡ 0 → FirstEnd ws (opposite x) 0 (cu x)
  -- a cursor on the stack is 0 or in its list
  pub cur : (p : ℕ) → p < t → 0 < cu (s p) → (cu (s p) ≤ length ws) × (get_or ws (cu (s p) - 1) 0 ≡ opposite (s p))
  -- the ends before a cursor are taken into account
  pub seen : (p e : ℕ) → p < t → e < length ws → get_or ws e 0 ≡ opposite (s p) → Passed (cu (s p)) e → Accounted r s t p (get_or ws (other_end e) 0)
  -- what is tied to a settled code is settled
  pub whole : (x y : ℕ) → x < N → N < r x → Tied ws x y → N < r y
  -- the rank of a settled code tells its lead
  pub lead : (x : ℕ) → x < N → N < r x → Lead ws x (r x - (N + 1))

-- the same, as it stands in the work area
abbrev pub WalkState : ℕ → List ℕ → List ℕ → ℕ → ℕ → Type 0
WalkState n ws W t k = Dfs (2 * n) ws (mark n W) (trail n W) (spare n W) (cursor n W) t k

-- the same of a walk
abbrev pub Running : Walking → Type 0
Running w = WalkState w.n w.words w.tables w.top w.depth

-- an accepted list, and the rests of its codes' lists in tables that are long enough
pub record Linked (w : Walking) : Type 0 where
  pub sizes : Sizes w.n w.words w.tables
  pub nexts : Nexts w.n w.words w.tables

-- an end of the list of a was taken into account before
abbrev pub Old : ℕ → List ℕ → ℕ → ℕ → Type 0
Old n W a i = Passed (cursor n W a) i

-- z has a rank, no lower than low
abbrev pub Ranked : ℕ → List ℕ → ℕ → ℕ → Type 0
Ranked n W low z = (0 < mark n W z) × (low ≤ mark n W z)

-- 1 more than the code that was not met yet, or 0 where there is none
abbrev pub or_zero : Option Code → ℕ
or_zero (Some z) = z.0 + 1
or_zero None = 0

-- what a look along the list of a finds: the cursor e where it stopped, the lowest rank met, and 1 more than a code not met yet, or 0
pub record Scanned (n : ℕ) (ws W : List ℕ) (a e low hit : ℕ) : Type 0 where
  pub pos : 0 < low
  pub less : low ≤ mark n W a
  pub why : (low ≡ mark n W a) ⊎ ((z : ℕ) × ((k : ℕ) × Step ws a k z) × (mark n W z ≡ low))
  pub cur : Cursor ws a e
  pub seen : (i : ℕ) → i < length ws → get_or ws i 0 ≡ opposite a → Passed e i
      → Old n W a i ⊎ Ranked n W low (get_or ws (other_end i) 0) ⊎ (get_or ws (other_end i) 0 + 1 ≡ hit)
  pub new : 0 < hit → (hit - 1 < 2 * n) × (mark n W (hit - 1) ≡ 0) × ((k : ℕ) × Step ws a k (hit - 1))
  pub end : hit ≡ 0 → e ≡ 0

-- what stands on a stack of t places are codes
pub record Stacked (n : ℕ) (W : List ℕ) (t : ℕ) : Type 0 where
  pub few : t ≤ 2 * n
  pub codes : (p : ℕ) → p < t → trail n W p < 2 * n

-- l is the smallest of s d .. s (t - 1)
pub record Least (s : ℕ → ℕ) (d t l : ℕ) : Type 0 where
  pub at : (p : ℕ) × (d ≤ p) × (p < t) × (s p ≡ l)
  pub less : (p : ℕ) → d ≤ p → p < t → l ≤ s p

-- only the marks differ
pub record Beyond (n : ℕ) (W W' : List ℕ) : Type 0 where
  pub long : length W' ≡ length W
  pub heads : (c : ℕ) → c < 2 * n → head n W' c ≡ head n W c
  pub trails : (i : ℕ) → trail n W' i ≡ trail n W i
  pub spares : (j : ℕ) → spare n W' j ≡ spare n W j
  pub nexts : (e : ℕ) → next n W' e ≡ next n W e

-- the codes g d .. g (t - 1) have the rank v, and nothing else differs
pub record Settled (n : ℕ) (g : ℕ → ℕ) (d t v : ℕ) (W W' : List ℕ) : Type 0 where
  pub beyond : Beyond n W W'
  pub new : (p : ℕ) → d ≤ p → p < t → mark n W' (g p) ≡ v
  pub old : (x : ℕ) → x < 2 * n → ((p : ℕ) → d ≤ p → p < t → g p ≢ x) → mark n W' x ≡ mark n W x

-- a code, or its opposite; and the codes on the stack, or their opposites
abbrev pub turned : Facing → ℕ → ℕ
turned Own x = x
turned Opposite x = opposite x

abbrev pub codes_of : Facing → ℕ → List ℕ → ℕ → ℕ
codes_of f n W p = turned f (trail n W p)

-- the opposites of the codes on the stack
abbrev pub opposites : ℕ → List ℕ → ℕ → ℕ
opposites n W p = opposite (trail n W p)

-- o is 0, or 1 more than the smallest of the opposites of the codes from place d on, none of which was met yet
pub record Lone (n d t : ℕ) (W : List ℕ) (o : ℕ) : Type 0 where
  pub least : 0 < o → Least (opposites n W) d t (o - 1)
  pub unmet : 0 < o → (p : ℕ) → d ≤ p → p < t → mark n W (opposites n W p) ≡ 0

-- the codes from place d on are settled; their opposites too, where none of them was met yet
pub record PartClosed (n d t : ℕ) (W W' : List ℕ) : Type 0 where
  pub mid : List ℕ
  pub small : ℕ
  pub mirrored : ℕ
  pub least : Least (trail n W) d t small
  pub settled : Settled n (trail n W) d t (settled_rank n small) W mid
  pub lone : Lone n d t mid mirrored
  pub keeps : mirrored ≡ 0 → W' ≡ mid
  pub mirrors : 0 < mirrored → Settled n (opposites n mid) d t (2 * n + mirrored) mid W'

-- the code b has the rank low, where that is less
pub record Lifted (n b low : ℕ) (W W' : List ℕ) : Type 0 where
  pub new : low < mark n W b → W' ≡ set W (mark_at n b) low
  pub old : mark n W b ≤ low → W' ≡ W

-- the cursor and the rank of a are stored
abbrev pub noted : ℕ → List ℕ → ℕ → ℕ → ℕ → List ℕ
noted n W a e low = set (set W (cursor_at n a) e) (mark_at n a) low

-- z is put on a stack of t codes and on a path of k places
abbrev pub stacked_on : ℕ → List ℕ → ℕ → ℕ → ℕ → List ℕ
stacked_on n W z t k = set (set (set W (trail_at n t) z) (spare_at n k) t) (mark_at n z) (t + 1)

-- the measure of the walk: codes not met yet count double
abbrev pub turns_left : ℕ → List ℕ → ℕ → ℕ
turns_left n W k = 2 * (2 * n - count_of (mark n W) (2 * n)) + k

-- a turn of the walk: the state again, no code forgotten, and fewer turns left
pub record TurnMade (n : ℕ) (ws W : List ℕ) (t k : ℕ) (W' : List ℕ) (t' k' : ℕ) : Type 0 where
  pub state : WalkState n ws W' t' k'
  pub side : Side n W W'
  pub met : (x : ℕ) → x < 2 * n → 0 < mark n W x → 0 < mark n W' x
  pub less : turns_left n W' k' < turns_left n W k

-- a walk from root to its end: the stack is empty, and root was met
pub record Searched (n : ℕ) (ws : List ℕ) (root : ℕ) (W W' : List ℕ) : Type 0 where
  pub state : WalkState n ws W' 0 0
  pub side : Side n W W'
  pub met : (x : ℕ) → x < 2 * n → 0 < mark n W x → 0 < mark n W' x
  pub got : 0 < mark n W' root

-- The same of the whole walk.

-- a turn
pub record Turns (w u : Walking) : Type 0 where
  pub alike : Alike w u
  pub made : TurnMade w.n w.words w.tables w.top w.depth u.tables u.top u.depth

-- a walk from root to its end
pub record Searches (w : Walking) (root : ℕ) (u : Walking) : Type 0 where
  pub alike : Alike w u
  pub empty : (u.top ≡ 0) × (u.depth ≡ 0)
  pub searched : Searched w.n w.words root w.tables u.tables

-- the codes on the stack from place d on are settled
pub record Closes (w : Walking) (d : ℕ) (u : Walking) : Type 0 where
  pub retabled : u ≡ retabled w u.tables
  pub closed : PartClosed w.n d w.top w.tables u.tables
