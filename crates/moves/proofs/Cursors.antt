-- A cursor along the list of a code: where it starts, how it goes on and which ends it has passed. Each loop along a list cites these.
use mathlib.Core.Path.{◌≡◌, ap, ◌∙◌}
use mathlib.Core.Logic.{◌⊎◌, inl, inr, ⊎_elim, ◌≢◌}
use mathlib.Core.List.{List}
use Prim.Native.Nat.{ℕ, suc, ◌+◌, ◌-◌, ◌*◌, ◌≤◌, ◌<◌}
use native.Mathlib.Omega.{arith}
use lib.ListN.{length, get_or}
use Rattle.meaning.specs.Codes.{opposite}
use Rattle.meaning.specs.Rules.{other_end}
use Rattle.moves.specs.Layout.{head, next, Sizes}
use Rattle.moves.specs.Lists.{FirstEnd, Nexts, Cursor, Passed, Ready}
use Rattle.meaning.proofs.CodeLaws.{opposite_below}
use Rattle.meaning.proofs.General.{compared, same?}
use Rattle.moves.proofs.Steps.{other_end_below, word_below}

-- the lists go on where they are ready
pub nexts_of : {n : ℕ} {ws W : List ℕ} → Ready n ws W → Nexts n ws W
nexts_of rd = record { nexts = λ e l. rd.lists.nexts e (omega arith) l }

-- the head of its list is a cursor's start
pub head_first : {n : ℕ} {ws W : List ℕ} {a e : ℕ} → Ready n ws W → a < 2 * n → e ≡ head n W (opposite a) → FirstEnd ws (opposite a) 0 e
head_first {n} {ws} {W} {a} rd la qe = rw qe (rd.lists.heads (opposite a) (opposite_below n a la))

-- the first end from a place on is a cursor
pub first_cursor : {ws : List ℕ} {a from e : ℕ} → FirstEnd ws (opposite a) from e → Cursor ws a e
first_cursor f = record { at = λ p. ((f.found p).1, (f.found p).2) }

-- that has passed no end from there on
pub none_passed : {ws : List ℕ} {c from e k : ℕ} → FirstEnd ws c from e → from ≤ k → k < length ws → get_or ws k 0 ≡ c → Passed e k → ⊥
none_passed {k = k} f a l q u =
    let g = f.hit k a l q in
    ⊎_elim (λ z. omega (arith, g)) (λ z. omega (arith, g)) u

-- what is left of a list whose cursor is e: nothing where e is 0
abbrev pub left_of : ℕ → ℕ
left_of e = 65536 - (e + 65536 * (1 - e))

-- the cursor goes on from e to e'
module _ {n : ℕ} {ws W : List ℕ} {a e e' : ℕ} (nx : Nexts n ws W) (c : Cursor ws a e) (p : 0 < e) (qe : e' ≡ next n W (e - 1)) where
  -- to the first end behind the one that is passed
  rest : FirstEnd ws (opposite a) (e - 1 + 1) e'
  rest = rw qe (rw (c.at p).1 at (nx.nexts (e - 1) (omega (arith, (c.at p).0))))

  -- it stays in the list
  pub cursor_next : Cursor ws a e'
  cursor_next = first_cursor rest

  -- the ends that it has passed now are this one and those before
  pub cursor_passed : (k : ℕ) → k < length ws → get_or ws k 0 ≡ opposite a → Passed e' k → (k ≡ e - 1) ⊎ Passed e k
  cursor_passed k l q u =
      ⊎_elim
      (λ x. inr (inr (omega arith)))
      (⊎_elim (λ x. inl x) (λ x. absurd (none_passed rest (omega arith) l q u)))
      (compared k (e - 1))

  -- less of the list is left
  pub cursor_less : {W' : List ℕ} → Sizes n ws W' → left_of e' < left_of e
  cursor_less s =
      ⊎_elim
      (λ (z : e' ≡ 0). omega (arith, s.short, s.even, (c.at p).0))
      (λ (z : e' ≢ 0). omega (arith, s.short, s.even, (rest.found (omega arith)).0, (rest.found (omega arith)).1))
      (same? e' 0)

-- the code at the other end of the end at a cursor
pub other_code : {n : ℕ} {ws W : List ℕ} {a e k b : ℕ} →
    Sizes n ws W → Cursor ws a e → 0 < e → k ≡ other_end (e - 1) → b ≡ get_or ws k 0 → (k < length ws) × (b < 2 * n)
other_code {n} {ws} {W} {a} {e} {k} {b} s c p qk qb =
    let l : k < length ws = rw qk (other_end_below (e - 1) (length ws) s.even (omega (arith, (c.at p).0))) in
    (l, omega (arith, qb, word_below s k l))

-- the code across the end k that a link leads to
pub link_code : {n : ℕ} {ws W : List ℕ} {a k j : ℕ} → Sizes n ws W → Cursor ws a (suc k) → j ≡ other_end k → (j < length ws) × (get_or ws j 0 < 2 * n)
link_code {n} {ws} {W} {a} {k} {j} s c q =
    let l : j < length ws = rw q (other_end_below k (length ws) s.even (omega (arith, (c.at (omega arith)).0))) in
    (l, word_below s j l)

-- as a loop along the list has it
pub link_led : (ws : List ℕ) (k : ℕ) {j b : ℕ} → b ≡ get_or ws j 0 → j ≡ other_end k → b ≡ get_or ws (other_end (suc k - 1)) 0
link_led ws k {j} {b} qb qj =
    let z : suc k - 1 ≡ k = omega arith in
    rw z (qb ∙ ap (λ (x : ℕ). get_or ws x 0) qj)

-- and the link after it
pub link_next : (n : ℕ) (W : List ℕ) (k : ℕ) {e : ℕ} → e ≡ next n W k → e ≡ next n W (suc k - 1)
link_next n W k {e} q =
    let z : suc k - 1 ≡ k = omega arith in
    rw z q
