-- What stands in each table after a store in one of them.
use mathlib.Core.Path.{◌≡◌, refl, ◌∙◌}
use mathlib.Core.Logic.{◌≢◌}
use mathlib.Core.List.{List}
use Prim.Native.Nat.{ℕ, ◌*◌, ◌≤◌, ◌<◌}
use native.Mathlib.Omega.{arith}
use lib.ListN.{length, set, length-set}
use lib.Seq.{get_or-set_same, get_or-set_other}
use Rattle.moves.specs.Layout.{head_at, mark_at, trail_at, spare_at, next_at, head, mark, trail, spare, next, Tables, Sizes, Apart, Spared}
use Rattle.moves.specs.Lists.{Ready}

-- nothing differs; and what differs nowhere in two turns differs nowhere in both
pub apart_refl : (n : ℕ) (W : List ℕ) → Apart n W W
apart_refl n W = record { long = refl; heads = λ c l. refl; spares = λ x l. refl; nexts = λ e. refl }

-- two turns
pub apart_trans : {n : ℕ} {W W' W'' : List ℕ} → Apart n W W' → Apart n W' W'' → Apart n W W''
apart_trans p q =
    record {
      long = q.long ∙ p.long;
      heads = λ c l. q.heads c l ∙ p.heads c l;
      spares = λ x l. q.spares x l ∙ p.spares x l;
      nexts = λ e. q.nexts e ∙ p.nexts e;
    }

-- a store in the marks or in the trail
store_apart : (n : ℕ) (W : List ℕ) (p v : ℕ) → mark_at n 0 ≤ p → p < spare_at n 0 → Apart n W (set W p v)
store_apart n W p v from to =
    record {
      long = length-set W p v;
      heads = λ c l. get_or-set_other W p (head_at n c) v 0 (omega arith);
      spares = λ x l. get_or-set_other W p (spare_at n x) v 0 (omega arith);
      nexts = λ e. get_or-set_other W p (next_at n e) v 0 (omega arith);
    }

-- after a store in the marks
module _ (n : ℕ) (W : List ℕ) (x v : ℕ) (lx : x < 2 * n) (fits : Tables n W) where
  -- the mark is there
  pub mark_stored : mark n (set W (mark_at n x) v) x ≡ v
  mark_stored = get_or-set_same W (mark_at n x) v 0 (omega arith)

  -- other marks stay
  pub mark_elsewhere : (y : ℕ) → y ≢ x → mark n (set W (mark_at n x) v) y ≡ mark n W y
  mark_elsewhere y e = get_or-set_other W (mark_at n x) (mark_at n y) v 0 (λ q. e (omega arith))

  -- and the trail
  pub mark_trail : (i : ℕ) → trail n (set W (mark_at n x) v) i ≡ trail n W i
  mark_trail i = get_or-set_other W (mark_at n x) (trail_at n i) v 0 (omega arith)

  -- and all but the marks
  pub mark_apart : Apart n W (set W (mark_at n x) v)
  mark_apart = store_apart n W (mark_at n x) v (omega arith) (omega arith)

-- after a store in the trail
module _ (n : ℕ) (W : List ℕ) (i v : ℕ) (li : i < 2 * n) (fits : Tables n W) where
  -- the code is there
  pub trail_stored : trail n (set W (trail_at n i) v) i ≡ v
  trail_stored = get_or-set_same W (trail_at n i) v 0 (omega arith)

  -- other places stay
  pub trail_elsewhere : (j : ℕ) → j ≢ i → trail n (set W (trail_at n i) v) j ≡ trail n W j
  trail_elsewhere j e = get_or-set_other W (trail_at n i) (trail_at n j) v 0 (λ q. e (omega arith))

  -- and the marks
  pub trail_mark : (x : ℕ) → x < 2 * n → mark n (set W (trail_at n i) v) x ≡ mark n W x
  trail_mark x l = get_or-set_other W (trail_at n i) (mark_at n x) v 0 (omega arith)

  -- and all but the trail
  pub trail_apart : Apart n W (set W (trail_at n i) v)
  trail_apart = store_apart n W (trail_at n i) v (omega arith) (omega arith)

-- the spare table
pub spared_refl : (n : ℕ) (W : List ℕ) → Spared n W W
spared_refl n W = record { long = refl; heads = λ c l. refl; marks = λ x l. refl; trails = λ i l. refl; nexts = λ e. refl }

-- two turns
pub spared_trans : {n : ℕ} {W W' W'' : List ℕ} → Spared n W W' → Spared n W' W'' → Spared n W W''
spared_trans p q =
    record {
      long = q.long ∙ p.long;
      heads = λ c l. q.heads c l ∙ p.heads c l;
      marks = λ x l. q.marks x l ∙ p.marks x l;
      trails = λ i l. q.trails i l ∙ p.trails i l;
      nexts = λ e. q.nexts e ∙ p.nexts e;
    }

-- after a store in the spare table
module _ (n : ℕ) (W : List ℕ) (x v : ℕ) (lx : x < 2 * n) (fits : Tables n W) where
  -- the word is there
  pub spare_stored : spare n (set W (spare_at n x) v) x ≡ v
  spare_stored = get_or-set_same W (spare_at n x) v 0 (omega arith)

  -- other spare words stay
  pub spare_elsewhere : (y : ℕ) → y ≢ x → spare n (set W (spare_at n x) v) y ≡ spare n W y
  spare_elsewhere y e = get_or-set_other W (spare_at n x) (spare_at n y) v 0 (λ q. e (omega arith))

  -- and all but the spare words
  pub spare_spared : Spared n W (set W (spare_at n x) v)
  spare_spared =
      record {
        long = length-set W (spare_at n x) v;
        heads = λ c l. get_or-set_other W (spare_at n x) (head_at n c) v 0 (omega arith);
        marks = λ y l. get_or-set_other W (spare_at n x) (mark_at n y) v 0 (omega arith);
        trails = λ i l. get_or-set_other W (spare_at n x) (trail_at n i) v 0 (omega arith);
        nexts = λ e. get_or-set_other W (spare_at n x) (next_at n e) v 0 (omega arith);
      }

-- an area of the same length has room for the same
pub sizes_long : {n : ℕ} {ws W W' : List ℕ} → Sizes n ws W → length W' ≡ length W → Sizes n ws W'
sizes_long s e = record { few = s.few; short = s.short; even = s.even; codes = s.codes; room = omega (arith, s.room) }

-- the tables have room
pub tables : {n : ℕ} {ws W : List ℕ} → Sizes n ws W → Tables n W
tables s = omega (arith, s.room)

-- what stays ready: an area with the same heads and nexts
pub ready_same : {n : ℕ} {ws W W' : List ℕ} → Ready n ws W → length W' ≡ length W → ((c : ℕ) → c < 2 * n → head n W' c ≡ head n W c) →
    ((e : ℕ) → next n W' e ≡ next n W e) → Ready n ws W'
ready_same r long heads nexts =
    record {
      sizes = sizes_long r.sizes long;
      lists = record { heads = λ c l. rw (heads c l) (r.lists.heads c l); nexts = λ e a b. rw (nexts e) (r.lists.nexts e a b) };
    }

-- so where only marks and trail differ
pub ready_apart : {n : ℕ} {ws W W' : List ℕ} → Ready n ws W → Apart n W W' → Ready n ws W'
ready_apart r p = ready_same r p.long p.heads p.nexts

-- and the tables have room there
pub tables_apart : {n : ℕ} {ws W W' : List ℕ} → Sizes n ws W → Apart n W W' → Tables n W'
tables_apart s p = omega (arith, s.room, p.long)
