-- The turns of the loops that look along a list or along the stack: `scan`, `least`, `settle` and `lone`.
use Prim.Native.Nat.{ℕ, ◌+◌, ◌-◌, ◌*◌, ◌/◌, ◌≤◌, ◌<◌}
use mathlib.Core.Path.{◌≡◌, refl, sym, ap, ◌∙◌}
use mathlib.Core.Logic.{◌⊎◌, inl, inr, ⊎_elim, ◌≢◌}
use mathlib.Core.List.{List}
use native.Mathlib.Omega.{arith}
use mathlib.Core.Bool.{true, false}
use Rattle.std.specs.Ordering.{is_lt, nat_cmp}
use Rattle.std.proofs.lemmas.Bool.Decides.{nat_tests}
use lib.ListN.{length, get_or, set}
use Rattle.components.specs.Leads.{settled_rank}
use Rattle.components.specs.Walk.{Ranked, PartClosed, Least, cursor, Old, Scanned, Stacked, Settled, turned, opposites, Lone, Walking, retabled}
use Rattle.components.specs.declared.settle.Side.{Side as Facing}
use Rattle.components.specs.declared.settle.Side.TheVariants.{Own, Opposite}
use Rattle.meaning.specs.Chains.{Step}
use Rattle.meaning.specs.Codes.{opposite}
use Rattle.meaning.specs.Rules.{other_end}
use Rattle.moves.specs.Layout.{mark_at, mark, trail, next, Tables, Sizes}
use Rattle.moves.specs.Lists.{Nexts, Cursor, Passed}
use Rattle.components.proofs.Storing.{beyond_refl, beyond_trans, beyond_mark}
use Rattle.meaning.proofs.CodeLaws.{opposite_below}
use Rattle.meaning.proofs.General.{same?, below_or_from}
use Rattle.std.specs.Prelude.{min}
use Rattle.std.proofs.Math.Nat.{min-le_left, min-le_right, min-eq_left, min-eq_right}
use Rattle.moves.proofs.Cursors.{cursor_next, cursor_passed}
use Rattle.moves.proofs.Places.{mark_stored, mark_elsewhere}
use Rattle.moves.proofs.Steps.{end_step, step_to}

-- the invariant of the loop of `scan`
pub record Scanning (n : ℕ) (ws W : List ℕ) (a low e : ℕ) : Type 0 where
  pub pos : 0 < low
  pub less : low ≤ mark n W a
  pub why : (low ≡ mark n W a) ⊎ ((z : ℕ) × ((k : ℕ) × Step ws a k z) × (mark n W z ≡ low))
  pub cur : Cursor ws a e
  pub seen : (i : ℕ) → i < length ws → get_or ws i 0 ≡ opposite a → Passed e i → Old n W a i ⊎ Ranked n W low (get_or ws (other_end i) 0)

-- it holds before the first end
pub scan_start : {n : ℕ} {ws W : List ℕ} {a low e : ℕ} → 0 < mark n W a → Cursor ws a (cursor n W a) → low ≡ mark n W a → e ≡ cursor n W a
    → Scanning n ws W a low e
scan_start {n} {ws} {W} {a} {low} {e} p c ql qe =
    record {
      pos = omega arith;
      less = omega arith;
      why = inl ql;
      cur = rw qe c;
      seen = λ i l q u. inl (rw qe at u);
    }

-- one place of the list
module _ {n : ℕ} {ws W : List ℕ} {a low e z e' : ℕ} (s : Sizes n ws W) (nx : Nexts n ws W) (h : Scanning n ws W a low e) (p : 0 < e)
    (qz : z ≡ get_or ws (other_end (e - 1)) 0) (qe : e' ≡ next n W (e - 1)) where
  -- it is a step from a to z
  pub scan_step : (k : ℕ) × Step ws a k z
  scan_step = ((e - 1) / 2, end_step s (omega (arith, (h.cur.at p).0)) (h.cur.at p).1 qz)

  -- a code that was met is taken into account
  pub scan_turn : {low' : ℕ} → low' ≤ low → 0 < low' → (low' ≡ low) ⊎ (low' ≡ mark n W z) → low' ≤ mark n W z → Scanning n ws W a low' e'
  scan_turn {low'} l0 p0 y l1 =
      record {
        pos = p0;
        less = omega (arith, h.less);
        why = ⊎_elim
            (λ (v : low' ≡ low). rw v h.why)
            (λ (v : low' ≡ mark n W z). inr (z, scan_step, sym v))
            y;
        cur = cursor_next nx h.cur p qe;
        seen = λ i l q u. ⊎_elim
            (λ (v : i ≡ e - 1). inr (rw (v, ← qz) (omega arith, l1)))
            (λ (v : Passed e i). ⊎_elim (λ w. inl w) (λ (w : Ranked n W low (get_or ws (other_end i) 0)). inr (w.0, omega (arith, w.1))) (h.seen i l q v))
            (cursor_passed nx h.cur p qe i l q u);
      }

  -- at a code that was not met the look stops
  pub scan_hit : mark n W z ≡ 0 → Scanned n ws W a e' low (z + 1)
  scan_hit r0 =
      let f : z + 1 - 1 ≡ z = omega arith in
      record {
        pos = h.pos;
        less = h.less;
        why = h.why;
        cur = cursor_next nx h.cur p qe;
        seen = λ i l q u. ⊎_elim
            (λ (v : i ≡ e - 1). inr (inr (rw (v, ← qz) refl)))
            (λ (v : Passed e i). ⊎_elim (λ w. inl w) (λ (w : Ranked n W low (get_or ws (other_end i) 0)). inr (inl w)) (h.seen i l q v))
            (cursor_passed nx h.cur p qe i l q u);
        new = λ u. rw f (step_to s a scan_step.0 z scan_step.1, r0, scan_step);
        end = λ u. absurd (omega arith);
      }

-- and else at the end of the list
pub scan_end : {n : ℕ} {ws W : List ℕ} {a low e : ℕ} → Scanning n ws W a low e → e ≤ 0 → Scanned n ws W a 0 low 0
scan_end {n} {ws} {W} {a} {low} {e} h z =
    record {
      pos = h.pos;
      less = h.less;
      why = h.why;
      cur = record { at = λ u. absurd (omega arith) };
      seen = λ i l q u. ⊎_elim (λ w. inl w) (λ (w : Ranked n W low (get_or ws (other_end i) 0)). inr (inl w)) (h.seen i l q (inl (omega arith)));
      new = λ u. absurd (omega arith);
      end = λ u. refl;
    }

-- the lesser of two numbers that are not 0 is not 0, is one of them, and is at most each
pub least_of_two : (a b : ℕ) → 0 < a → 0 < b → (min a b ≤ a) × (0 < min a b) × ((min a b ≡ a) ⊎ (min a b ≡ b)) × (min a b ≤ b)
least_of_two a b p q =
    let one : (min a b ≡ a) ⊎ (min a b ≡ b) = ⊎_elim (λ (l : a < b). inl (min-eq_left (omega arith))) (λ (l : b ≤ a). inr (min-eq_right l)) (below_or_from a b) in
    (min-le_left a b, ⊎_elim (λ (e : min a b ≡ a). omega (arith, e)) (λ (e : min a b ≡ b). omega (arith, e)) one, one, min-le_right a b)

-- the test of two codes tells which is less
pub less_by : (a b : ℕ) → is_lt (nat_cmp a b) ≡ true → a < b
less_by a b e = grind (arith, nat_tests)

pub no_less_by : (a b : ℕ) → is_lt (nat_cmp a b) ≡ false → b ≤ a
no_less_by a b e = grind (arith, nat_tests)

-- `settle`: one place more
pub settle_none : (n : ℕ) (g : ℕ → ℕ) (d v : ℕ) (W : List ℕ) → Settled n g d d v W W
settle_none n g d v W = record { beyond = beyond_refl n W; new = λ p a b. absurd (omega arith); old = λ x l f. refl }

-- one place more has the rank
pub settle_more : {n d p v x : ℕ} {g : ℕ → ℕ} {W₀ W W' : List ℕ} → Tables n W₀ → d ≤ p → x < 2 * n → x ≡ g p → W' ≡ set W (mark_at n x) v → Settled n g d p v W₀ W
    → Settled n g d (p + 1) v W₀ W'
settle_more {n} {d} {p} {v} {x} {g} {W₀} {W} {W'} room dp lx here qw h =
    rw qw (record {
      beyond = beyond_trans h.beyond (beyond_mark n W x v lx);
      new = λ q a b. ⊎_elim
          (λ (e : g q ≡ x). rw e stored)
          (λ (e : g q ≢ x).
          let f : q ≢ p = λ f. e (ap g f ∙ sym here) in
          mark_elsewhere n W x v lx fits (g q) e ∙ h.new q a (omega arith))
          (same? (g q) x);
      old = λ y l f.
          mark_elsewhere n W x v lx fits y (λ e. f p dp (omega arith) (sym here ∙ sym e)) ∙ h.old y l (λ q a b. f q a (omega arith));
    })
  where
    fits : Tables n W
    fits = omega (arith, h.beyond.long)

    stored : mark n (set W (mark_at n x) v) x ≡ v
    stored = mark_stored n W x v lx fits

-- two stores in a row
pub retabled_more : (w : Walking) {u v : Walking} {T : List ℕ} → u ≡ retabled w u.tables → v ≡ retabled u T → v ≡ retabled w v.tables
retabled_more w {u} {v} {T} p q = rw q (ap (λ (x : Walking). retabled x T) p)

-- a code's opposite is a code too
pub turned_below : (f : Facing) (n x : ℕ) → x < 2 * n → turned f x < 2 * n
turned_below Own n x l = l
turned_below Opposite n x l = opposite_below n x l

-- the invariant of the loop of `lone`
pub record Loning (n d t : ℕ) (W : List ℕ) (l p : ℕ) : Type 0 where
  pub from : d ≤ p
  pub to : p ≤ t
  pub at : (q : ℕ) × (d ≤ q) × (q < t) × (opposites n W q ≡ l)
  pub less : (q : ℕ) → d ≤ q → q < p → l ≤ opposites n W q
  pub unmet : (q : ℕ) → d ≤ q → q < p → mark n W (opposites n W q) ≡ 0

-- one opposite more was not met
pub lone_more : {n d t l p l' : ℕ} {W : List ℕ} → p < t → Loning n d t W l p → mark n W (opposites n W p) ≡ 0 → l' ≤ l → l' ≤ opposites n W p → (l' ≡ l) ⊎ (l' ≡ opposites n W p)
    → Loning n d t W l' (p + 1)
lone_more {n} {d} {t} {l} {p} {l'} {W} pt h z a b c =
    record {
      from = omega (arith, h.from);
      to = omega arith;
      at = ⊎_elim
          (λ (e : l' ≡ l). (h.at.0, h.at.1, h.at.2, h.at.3 ∙ sym e))
          (λ (e : l' ≡ opposites n W p). (p, h.from, pt, sym e))
          c;
      less = λ q u v. ⊎_elim (λ (e : q ≡ p). rw e b) (λ (e : q ≢ p). omega (arith, h.less q u (omega arith))) (same? q p);
      unmet = λ q u v. ⊎_elim (λ (e : q ≡ p). rw e z) (λ (e : q ≢ p). h.unmet q u (omega arith)) (same? q p);
    }

-- at the end that holds of all
pub lone_done : {n d t l p : ℕ} {W : List ℕ} → Loning n d t W l p → t ≤ p → Lone n d t W (l + 1)
lone_done {n} {d} {t} {l} {p} {W} h u =
    let e : l + 1 - 1 ≡ l = omega arith in
    record {
      least = λ v. rw e (record { at = h.at; less = λ q a b. h.less q a (omega arith) });
      unmet = λ v q a b. h.unmet q a (omega arith);
    }

-- it is 1 more than a code
pub lone_small : {n d t o : ℕ} {W : List ℕ} → Stacked n W t → Lone n d t W o → 0 < o → o ≤ 2 * n
lone_small {n} {d} {t} {o} {W} s h p =
    let at = (h.least p).at in
    omega (arith, at.3, opposite_below n (trail n W at.0) (s.codes at.0 at.2))

-- `close`: the codes at the top are settled, alone or with their opposites
pub closed_alone : {n d t l v : ℕ} {W W' : List ℕ} → Least (trail n W) d t l → v ≡ settled_rank n l → Settled n (trail n W) d t v W W' → PartClosed n d t W W'
closed_alone {n} {d} {t} {l} {v} {W} {W'} a q b =
    record {
      mid = W';
      small = l;
      mirrored = 0;
      least = a;
      settled = rw q at b;
      lone = record { least = λ p. absurd (omega arith); unmet = λ p. absurd (omega arith) };
      keeps = λ z. refl;
      mirrors = λ p. absurd (omega arith);
    }

-- with their opposites
pub closed_both : (m : ℕ) {n d t l v u : ℕ} {W M W' : List ℕ} → Least (trail n W) d t l → v ≡ settled_rank n l → Settled n (trail n W) d t v W M
    → Lone n d t M (m + 1) → u ≡ settled_rank n m → Settled n (opposites n M) d t u M W' → PartClosed n d t W W'
closed_both m {n} {d} {t} {l} {v} {u} {W} {M} {W'} a q b o q' c =
    let e : u ≡ 2 * n + (m + 1) = omega arith in
    record {
      mid = M;
      small = l;
      mirrored = m + 1;
      least = a;
      settled = rw q at b;
      lone = o;
      keeps = λ z. absurd (omega arith);
      mirrors = λ p. rw e at c;
    }
