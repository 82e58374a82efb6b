-- What the stores of `note` and `push` leave, and that a mark alone differs where a mark is stored.
use Prim.Native.Nat.{ℕ, ◌+◌, ◌*◌, ◌<◌}
use mathlib.Core.Path.{◌≡◌, refl, ◌∙◌, subst}
use mathlib.Core.Logic.{◌≢◌}
use mathlib.Core.List.{List}
use native.Mathlib.Omega.{arith}
use lib.ListN.{length, get_or, set, length-set}
use lib.Seq.{get_or-set_same, get_or-set_other}
use Rattle.components.specs.Walk.{cursor_at, cursor, Stacked, Beyond, noted, stacked_on}
use Rattle.meaning.specs.Codes.{opposite}
use Rattle.moves.specs.Layout.{head_at, mark_at, trail_at, spare_at, next_at, head, mark, trail, spare, next, Tables}
use Rattle.meaning.proofs.CodeLaws.{opposite_one, opposite_below}

-- only the marks differ: nowhere, after two moves, after a store in the marks
pub beyond_refl : (n : ℕ) (W : List ℕ) → Beyond n W W
beyond_refl n W = record { long = refl; heads = λ c l. refl; trails = λ i. refl; spares = λ j. refl; nexts = λ e. refl }

-- after two moves
pub beyond_trans : {n : ℕ} {W W' W'' : List ℕ} → Beyond n W W' → Beyond n W' W'' → Beyond n W W''
beyond_trans p q =
    record {
      long = q.long ∙ p.long;
      heads = λ c l. q.heads c l ∙ p.heads c l;
      trails = λ i. q.trails i ∙ p.trails i;
      spares = λ j. q.spares j ∙ p.spares j;
      nexts = λ e. q.nexts e ∙ p.nexts e;
    }

-- after a store in the marks
pub beyond_mark : (n : ℕ) (W : List ℕ) (x v : ℕ) → x < 2 * n → Beyond n W (set W (mark_at n x) v)
beyond_mark n W x v l =
    record {
      long = length-set W (mark_at n x) v;
      heads = λ c u. get_or-set_other W (mark_at n x) (head_at n c) v 0 (omega arith);
      trails = λ i. get_or-set_other W (mark_at n x) (trail_at n i) v 0 (omega arith);
      spares = λ j. get_or-set_other W (mark_at n x) (spare_at n j) v 0 (omega arith);
      nexts = λ e. get_or-set_other W (mark_at n x) (next_at n e) v 0 (omega arith);
    }

-- what stands on the stack stays there
pub stacked_beyond : {n t : ℕ} {W W' : List ℕ} → Stacked n W t → Beyond n W W' → Stacked n W' t
stacked_beyond s p = record { few = s.few; codes = λ i l. rw (p.trails i) (s.codes i l) }

-- after `note`: the cursor and the rank of a, and nothing else, are new
pub record Noted (n a e low : ℕ) (W W' : List ℕ) : Type 0 where
  pub long : length W' ≡ length W
  pub rank : mark n W' a ≡ low
  pub ranks : (x : ℕ) → x < 2 * n → x ≢ a → mark n W' x ≡ mark n W x
  pub cur : cursor n W' a ≡ e
  pub curs : (x : ℕ) → x < 2 * n → x ≢ a → cursor n W' x ≡ cursor n W x
  pub trails : (i : ℕ) → trail n W' i ≡ trail n W i
  pub spares : (j : ℕ) → spare n W' j ≡ spare n W j
  pub nexts : (i : ℕ) → next n W' i ≡ next n W i

-- that is what the stores of `note` do
noted_by : {n a e low : ℕ} {W W' : List ℕ} → a < 2 * n → Tables n W → W' ≡ noted n W a e low → Noted n a e low W W'
noted_by {n} {a} {e} {low} {W} {W'} la room q =
    rw q (record {
      long = simp length-set;
      rank = get_or-set_same (set W (cursor_at n a) e) (mark_at n a) low 0 (simp length-set (omega arith));
      ranks = λ x l d. off (mark_at n x) (omega (arith, inside)) (omega arith);
      cur = get_or-set_other (set W (cursor_at n a) e) (mark_at n a) (cursor_at n a) low 0 (omega (arith, inside)) ∙ get_or-set_same W (cursor_at n a) e 0 (omega (arith, inside));
      curs = λ x l d. off (cursor_at n x) (λ f. d (opposite_one x a f)) (omega (arith, opposite_below n x l));
      trails = λ i. off (trail_at n i) (omega (arith, inside)) (omega arith);
      spares = λ j. off (spare_at n j) (omega (arith, inside)) (omega arith);
      nexts = λ i. off (next_at n i) (omega (arith, inside)) (omega arith);
    })
  where
    inside : opposite a < 2 * n
    inside = opposite_below n a la

    off : (i : ℕ) → i ≢ cursor_at n a → i ≢ mark_at n a → get_or (noted n W a e low) i 0 ≡ get_or W i 0
    off i p r = get_or-set_other (set W (cursor_at n a) e) (mark_at n a) i low 0 r ∙ get_or-set_other W (cursor_at n a) i e 0 p

-- the same, with the code named otherwise
pub noted_at : {n a b e low : ℕ} {W W' : List ℕ} → a ≡ b → a < 2 * n → Tables n W → W' ≡ noted n W a e low → Noted n b e low W W'
noted_at {n} {a} {b} {e} {low} {W} {W'} q la room w = subst (λ (x : ℕ). Noted n x e low W W') q (noted_by la room w)

-- after `push`: z is on the stack and on the path
pub record Pushed (n z t k : ℕ) (W W' : List ℕ) : Type 0 where
  pub long : length W' ≡ length W
  pub rank : mark n W' z ≡ t + 1
  pub ranks : (x : ℕ) → x < 2 * n → x ≢ z → mark n W' x ≡ mark n W x
  pub top : trail n W' t ≡ z
  pub end : spare n W' k ≡ t
  pub trails : (p : ℕ) → p < t → trail n W' p ≡ trail n W p
  pub spares : (j : ℕ) → j < k → spare n W' j ≡ spare n W j
  pub heads : (c : ℕ) → c < 2 * n → head n W' c ≡ head n W c
  pub nexts : (e : ℕ) → next n W' e ≡ next n W e

-- that is what the stores of `push` do
pub pushed_by : {n z t k : ℕ} {W W' : List ℕ} → z < 2 * n → t < 2 * n → k < 2 * n → Tables n W → W' ≡ stacked_on n W z t k → Pushed n z t k W W'
pushed_by {n} {z} {t} {k} {W} {W'} lz lt lk room q =
    rw q (record {
      long = simp length-set;
      rank = get_or-set_same (set (set W (trail_at n t) z) (spare_at n k) t) (mark_at n z) (t + 1) 0 (simp length-set (omega arith));
      ranks = λ x l d. off (mark_at n x) (omega arith) (omega arith) (omega arith);
      top =
          get_or-set_other (set (set W (trail_at n t) z) (spare_at n k) t) (mark_at n z) (trail_at n t) (t + 1) 0 (omega arith)
          ∙ get_or-set_other (set W (trail_at n t) z) (spare_at n k) (trail_at n t) t 0 (omega arith)
          ∙ get_or-set_same W (trail_at n t) z 0 (omega arith);
      end =
          get_or-set_other (set (set W (trail_at n t) z) (spare_at n k) t) (mark_at n z) (spare_at n k) (t + 1) 0 (omega arith)
          ∙ get_or-set_same (set W (trail_at n t) z) (spare_at n k) t 0 (simp length-set (omega arith));
      trails = λ p l. off (trail_at n p) (omega arith) (omega arith) (omega arith);
      spares = λ j l. off (spare_at n j) (omega arith) (omega arith) (omega arith);
      heads = λ c l. off (head_at n c) (omega arith) (omega arith) (omega arith);
      nexts = λ e. off (next_at n e) (omega arith) (omega arith) (omega arith);
    })
  where
    off : (i : ℕ) → i ≢ trail_at n t → i ≢ spare_at n k → i ≢ mark_at n z → get_or (stacked_on n W z t k) i 0 ≡ get_or W i 0
    off i a b c =
        get_or-set_other (set (set W (trail_at n t) z) (spare_at n k) t) (mark_at n z) i (t + 1) 0 c
        ∙ get_or-set_other (set W (trail_at n t) z) (spare_at n k) i t 0 b
        ∙ get_or-set_other W (trail_at n t) i z 0 a

-- the same, with the code named otherwise
pub pushed_at : {n y z t k : ℕ} {W W' : List ℕ} → z ≡ y → z < 2 * n → t < 2 * n → k < 2 * n → Tables n W → W' ≡ stacked_on n W z t k → Pushed n y t k W W'
pushed_at {n} {y} {z} {t} {k} {W} {W'} q lz lt lk room w = subst (λ (x : ℕ). Pushed n x t k W W') q (pushed_by lz lt lk room w)
