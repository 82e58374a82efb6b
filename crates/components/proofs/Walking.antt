-- The walk over ranks, stack, path and cursors that are functions: each move of it keeps `Dfs`.
use Prim.Native.Nat.{ℕ, ◌+◌, ◌-◌, ◌≤◌, ◌<◌}
use mathlib.Core.Path.{◌≡◌, sym, ap, ◌∙◌}
use mathlib.Core.Logic.{◌⊎◌, inl, inr, ⊎_elim, ◌≢◌}
use mathlib.Core.List.{List}
use native.Mathlib.Omega.{arith}
use lib.ListN.{length, get_or}
use Rattle.components.specs.Walk.{In, Accounted, Dfs}
use Rattle.meaning.specs.Chains.{Reach}
use Rattle.meaning.specs.Codes.{opposite}
use Rattle.meaning.specs.Rules.{other_end}
use Rattle.components.proofs.Ways.{join, here, Words, reach_lt}
use Rattle.meaning.proofs.General.{same?, below_or_from}
use Rattle.moves.proofs.Counts.{count_le, count_lt, count_more, count_mono}

-- ---- the same walk over other functions

-- a stack, a path and cursors that agree as far as they go make the same walk
pub alike : {N : ℕ} {ws : List ℕ} {r s d cu : ℕ → ℕ} {t k : ℕ} (s' d' cu' : ℕ → ℕ)
    → ((p : ℕ) → p < t → s' p ≡ s p) → ((j : ℕ) → j < k → d' j ≡ d j) → ((x : ℕ) → x < N → cu' x ≡ cu x)
    → t ≤ N → Dfs N ws r s d cu t k → Dfs N ws r s' d' cu' t k
alike {N} {ws} {r} {s} {d} {cu} {t} {k} s' d' cu' es ed ec tn h =
    record {
      stacked = λ p l. rw (es p l) (h.stacked p l);
      placed = λ x l m. ⊎_elim (λ g. inl g) (λ w. inr (w.0, w.1, es w.0 w.1 ∙ w.2)) (h.placed x l m);
      one = λ p q l m e. h.one p q l m (sym (es p l) ∙ e ∙ es q m);
      count = h.count;
      climb = λ j l. rw (ed j l) (h.climb j l);
      rise = λ i j l m. rw (ed i (omega arith), ed j m) (h.rise i j l m);
      floor = (h.floor.0, λ l. ed 0 l ∙ h.floor.1 l);
      up = λ p q l m. rw (es p (omega arith), es q m) (h.up p q l m);
      back = λ j p i. rw (es p i.within, same_start j i.on) (h.back j p (same_part j p i));
      low = λ p l. rw (es p l, es (r (s p) - 1) (omega (arith, (h.stacked p l).2))) (h.low p l);
      lows = λ j p i. rw (es p i.within, same_start j i.on) (h.lows j p (same_part j p i));
      spent = λ j p i l. same_cursor p i.within ∙ h.spent j p (same_part j p i) (omega (arith, ed j i.on));
      fresh = λ x l z. rw (ec x l) (h.fresh x l z);
      cur = λ p l. rw (same_cursor p l, es p l) (h.cur p l);
      seen = λ p e l m q u.
          let w = h.seen p e l m (q ∙ ap opposite (es p l)) (⊎_elim (λ z. inl (sym (same_cursor p l) ∙ z)) (λ z. inr (omega (arith, same_cursor p l))) u) in
          record { has = w.has; low = λ q' l' e'. rw (es p l) (w.low q' l' (sym (es q' l') ∙ e')) };
      whole = h.whole;
      lead = h.lead;
    }
  where
    same_start : (j : ℕ) → j < k → s' (d' j) ≡ s (d j)
    same_start j l = rw (ed j l) (es (d j) (h.climb j l).1)

    same_cursor : (p : ℕ) → p < t → cu' (s' p) ≡ cu (s p)
    same_cursor p l = rw (es p l) (ec (s p) (h.stacked p l).0)

    same_part : (j p : ℕ) → In d' t k j p → In d t k j p
    same_part j p i =
        record {
          on = i.on;
          from = omega (arith, i.from, ed j i.on);
          within = i.within;
          under = λ l. omega (arith, i.under l, ed (j + 1) l);
        }

module _ {N : ℕ} {ws : List ℕ} {r s d cu : ℕ → ℕ} {t k : ℕ} (h : Dfs N ws r s d cu t k) where
  -- the stack is no longer than there are codes
  pub fits : t ≤ N
  fits = omega (arith, h.count, count_le r N)

  -- the path is no longer than the stack
  pub deep : k ≤ t
  deep = ⊎_elim (λ (z : k ≡ 0). omega arith) (λ (z : k ≢ 0). omega (arith, h.climb (k - 1) (omega arith))) (same? k 0)

  -- a code on the stack is not settled
  pub unsettled : (p : ℕ) → p < t → r (s p) ≤ N
  unsettled p l = omega (arith, (h.stacked p l).2, fits)

  -- a place of the path lies in its own part
  own : (i j : ℕ) → i < k → In d t k j (d i) → j ≡ i
  own i j l m =
      ⊎_elim
      (λ (u : j < i). ⊎_elim
      (λ (e : j + 1 ≡ i). absurd (omega (arith, m.under (omega arith), ap d e)))
      (λ (e : j + 1 ≢ i). absurd (omega (arith, m.under (omega arith), h.rise (j + 1) i (omega arith) l)))
      (same? (j + 1) i))
      (λ (u : i ≤ j). ⊎_elim
      (λ (e : j ≡ i). e)
      (λ (e : j ≢ i). absurd (omega (arith, m.from, h.rise i j (omega arith) m.on)))
      (same? j i))
      (below_or_from j i)

  -- ---- a code of the path gets a lower rank
  module _ (i : ℕ) (li : i < k) (r' : ℕ → ℕ) (le : r' (s (d i)) ≤ r (s (d i))) (pos : 0 < r' (s (d i)))
      (ro : (x : ℕ) → x < N → x ≢ s (d i) → r' x ≡ r x) (lw : Reach ws (s (d i)) (s (r' (s (d i)) - 1))) where
    -- the code stands on the stack
    on_stack : d i < t
    on_stack = (h.climb i li).1

    -- the ranks on the stack: one falls, the others stay
    other_rank : (p : ℕ) → p < t → p ≢ d i → r' (s p) ≡ r (s p)
    other_rank p l e = ro (s p) (h.stacked p l).0 (λ q. e (h.one p (d i) l on_stack q))

    under : (p : ℕ) → p < t → r' (s p) ≤ r (s p)
    under p l = ⊎_elim (λ (e : p ≡ d i). rw e le) (λ (e : p ≢ d i). omega (arith, other_rank p l e)) (same? p (d i))

    -- the same codes are met
    still_met : (x : ℕ) → x < N → 0 < r x → 0 < r' x
    still_met x l m = ⊎_elim (λ (e : x ≡ s (d i)). rw e pos) (λ (e : x ≢ s (d i)). omega (arith, ro x l e)) (same? x (s (d i)))

    was_met : (x : ℕ) → x < N → 0 < r' x → 0 < r x
    was_met x l m = ⊎_elim (λ (e : x ≡ s (d i)). rw e (h.stacked (d i) on_stack).1) (λ (e : x ≢ s (d i)). omega (arith, ro x l e)) (same? x (s (d i)))

    -- and the same are settled
    settled_stays : (x : ℕ) → x < N → N < r x → r' x ≡ r x
    settled_stays x l m = ro x l (λ e. omega (arith, ap r e, unsettled (d i) on_stack))

    settled_was : (x : ℕ) → x < N → N < r' x → r' x ≡ r x
    settled_was x l m = ro x l (λ e. omega (arith, ap r' e, le, unsettled (d i) on_stack))

    -- the walk goes on with the lower rank
    pub lowered : Words N ws → Dfs N ws r' s d cu t k
    lowered ok =
        record {
          stacked = λ p l. ((h.stacked p l).0, still_met (s p) (h.stacked p l).0 (h.stacked p l).1, omega (arith, under p l, (h.stacked p l).2));
          placed = λ x l m. ⊎_elim (λ g. inl (omega (arith, settled_stays x l g))) (λ w. inr w) (h.placed x l (was_met x l m));
          one = h.one;
          count = omega (arith, h.count, count_mono r r' N still_met);
          climb = h.climb;
          rise = h.rise;
          floor = h.floor;
          up = h.up;
          back = h.back;
          low = λ p l. ⊎_elim (λ (e : p ≡ d i). rw e lw) (λ (e : p ≢ d i). rw (other_rank p l e) (h.low p l)) (same? p (d i));
          lows = λ j p m. ⊎_elim
              (λ (e : p ≡ d i).
              let q : j ≡ i = own i j li (rw e at m) in
              rw (q, e) (omega arith))
              (λ (e : p ≢ d i). omega (arith, under (d j) (h.climb j m.on).1, h.lows j p m, other_rank p m.within e))
              (same? p (d i));
          spent = h.spent;
          fresh = λ x l z. h.fresh x l (zero_of x l z);
          cur = h.cur;
          seen = λ p e l m q u.
              let w = h.seen p e l m q u in
              record {
                has = still_met (get_or ws (other_end e) 0) (ok.inside e m) w.has;
                low = λ q' l' e'. omega (arith, under p l, w.low q' l' e');
              };
          whole = λ x y l m a.
              let g : N < r y = h.whole x y l (omega (arith, settled_was x l m)) a in
              omega (arith, g, settled_stays y (reach_lt ok l a.0) g);
          lead = λ x l m. rw (settled_was x l m) (h.lead x l (omega (arith, settled_was x l m)));
        }
      where
        zero_of : (x : ℕ) → x < N → r' x ≡ 0 → r x ≡ 0
        zero_of x l z = ⊎_elim (λ (e : r x ≡ 0). e) (λ (e : r x ≢ 0). omega (arith, still_met x l (omega arith))) (same? (r x) 0)

  -- ---- the cursor of a code of the path goes on
  module _ (i : ℕ) (li : i < k) (cu' : ℕ → ℕ) (co : (x : ℕ) → x < N → x ≢ s (d i) → cu' x ≡ cu x)
      (cc' : 0 < cu' (s (d i)) → (cu' (s (d i)) ≤ length ws) × (get_or ws (cu' (s (d i)) - 1) 0 ≡ opposite (s (d i))))
      (cs : (e : ℕ) → e < length ws → get_or ws e 0 ≡ opposite (s (d i)) → (cu' (s (d i)) ≡ 0) ⊎ (e + 1 < cu' (s (d i))) → Accounted r s t (d i) (get_or ws (other_end e) 0)) where
    -- the code stands on the stack
    on_stack_too : d i < t
    on_stack_too = (h.climb i li).1

    -- the other cursors stay
    other_cursor : (p : ℕ) → p < t → p ≢ d i → cu' (s p) ≡ cu (s p)
    other_cursor p l e = co (s p) (h.stacked p l).0 (λ q. e (h.one p (d i) l on_stack_too q))

    -- the walk goes on with that cursor
    pub advanced : Dfs N ws r s d cu' t k
    advanced =
        record {
          stacked = h.stacked;
          placed = h.placed;
          one = h.one;
          count = h.count;
          climb = h.climb;
          rise = h.rise;
          floor = h.floor;
          up = h.up;
          back = h.back;
          low = h.low;
          lows = h.lows;
          spent = λ j p m u. ⊎_elim
              (λ (e : p ≡ d i).
              let q : j ≡ i = own i j li (rw e at m) in
              absurd (omega (arith, ap d q)))
              (λ (e : p ≢ d i). other_cursor p m.within e ∙ h.spent j p m u)
              (same? p (d i));
          fresh = λ x l z. rw (co x l (λ e. omega (arith, ap r e, (h.stacked (d i) on_stack_too).1))) (h.fresh x l z);
          cur = λ p l. ⊎_elim (λ (e : p ≡ d i). rw e cc') (λ (e : p ≢ d i). rw (other_cursor p l e) (h.cur p l)) (same? p (d i));
          seen = λ p e l m q u. ⊎_elim
              (λ (g : p ≡ d i). rw g (cs e m (rw g at q) (rw g at u)))
              (λ (g : p ≢ d i). h.seen p e l m q (⊎_elim (λ z. inl (sym (other_cursor p l g) ∙ z)) (λ z. inr (omega (arith, other_cursor p l g))) u))
              (same? p (d i));
          whole = h.whole;
          lead = h.lead;
        }

  -- ---- a code more
  module _ (z : ℕ) (r' : ℕ → ℕ) (lz : z < N) (rz : r z ≡ 0) (st : s t ≡ z) (dk : d k ≡ t) (rn : r' z ≡ t + 1)
      (ro : (x : ℕ) → x < N → x ≢ z → r' x ≡ r x) (into : (p : ℕ) → p < t → Reach ws (s p) z) where
    -- there is room for it, and it is not on the stack yet
    room_left : t < N
    room_left = omega (arith, h.count, count_lt r N z lz rz)

    differs : (p : ℕ) → p < t → s p ≢ z
    differs p l e = omega (arith, ap r e, (h.stacked p l).1)

    -- the old ranks stay
    rank_stays : (p : ℕ) → p < t → r' (s p) ≡ r (s p)
    rank_stays p l = ro (s p) (h.stacked p l).0 (differs p l)

    met_stays : (x : ℕ) → x < N → 0 < r x → (r' x ≡ r x) × (0 < r' x)
    met_stays x l m =
        let e : r' x ≡ r x = ro x l (λ q. omega (arith, ap r q)) in
        (e, omega (arith, e))

    -- the new part, or an old one
    part : (j p : ℕ) → In d (t + 1) (k + 1) j p → ((j ≡ k) × (p ≡ t)) ⊎ In d t k j p
    part j p m =
        ⊎_elim
        (λ (e : j ≡ k). inl (e, omega (arith, m.within, m.from, ap d e)))
        (λ (e : j ≢ k).
        let lj : j < k = omega (arith, m.on) in
        let u : p < d (j + 1) = m.under (omega arith) in
        let lp : p < t = ⊎_elim
        (λ (f : j + 1 ≡ k). omega (arith, ap d f))
        (λ (f : j + 1 ≢ k). omega (arith, (h.climb (j + 1) (omega arith)).1))
        (same? (j + 1) k) in
        inr (record { on = lj; from = m.from; within = lp; under = λ f. u }))
        (same? j k)

    -- the walk goes on with that code
    pub pushed : Words N ws → Dfs N ws r' s d cu (t + 1) (k + 1)
    pushed ok =
        record {
          stacked = λ p l. ⊎_elim
              (λ (e : p ≡ t). rw (e, st, rn) (lz, omega arith, omega arith))
              (λ (e : p ≢ t).
              let l' : p < t = omega arith in
              rw (rank_stays p l') (h.stacked p l'))
              (same? p t);
          placed = λ x l m. ⊎_elim
              (λ (e : x ≡ z). inr (t, omega arith, st ∙ sym e))
              (λ (e : x ≢ z). ⊎_elim
              (λ g. inl (omega (arith, ro x l e)))
              (λ w. inr (w.0, omega (arith, w.1), w.2))
              (h.placed x l (omega (arith, ro x l e))))
              (same? x z);
          one = λ p q l m e. ⊎_elim
              (λ (f : p ≡ t). ⊎_elim
              (λ (g : q ≡ t). f ∙ sym g)
              (λ (g : q ≢ t). absurd (differs q (omega arith) (sym e ∙ ap s f ∙ st)))
              (same? q t))
              (λ (f : p ≢ t). ⊎_elim
              (λ (g : q ≡ t). absurd (differs p (omega arith) (e ∙ ap s g ∙ st)))
              (λ (g : q ≢ t). h.one p q (omega arith) (omega arith) e)
              (same? q t))
              (same? p t);
          count = omega (arith, h.count, count_more r r' N z lz rz (omega (arith, rn)) ro);
          climb = λ j l. ⊎_elim
              (λ (e : j ≡ k). rw (e, dk) (deep, omega arith))
              (λ (e : j ≢ k). ((h.climb j (omega arith)).0, omega (arith, (h.climb j (omega arith)).1)))
              (same? j k);
          rise = λ i j l m. ⊎_elim
              (λ (e : j ≡ k). rw (e, dk) (h.climb i (omega arith)).1)
              (λ (e : j ≢ k). h.rise i j l (omega arith))
              (same? j k);
          floor = (
            (λ e. absurd (omega arith)),
            (λ l. ⊎_elim (λ (e : k ≡ 0). ap d (sym e) ∙ dk ∙ h.floor.0 e) (λ (e : k ≢ 0). h.floor.1 (omega arith)) (same? k 0)),
          );
          up = λ p q l m. ⊎_elim
              (λ (e : q ≡ t). ⊎_elim
              (λ (f : p ≡ t). here (ap s (f ∙ sym e)))
              (λ (f : p ≢ t). rw (e, st) (into p (omega arith)))
              (same? p t))
              (λ (e : q ≢ t). h.up p q l (omega arith))
              (same? q t);
          back = λ j p m. ⊎_elim
              (λ w. here (ap s (w.1 ∙ sym dk ∙ ap d (sym w.0))))
              (λ w. h.back j p w)
              (part j p m);
          low = λ p l. ⊎_elim
              (λ (e : p ≡ t).
              let f : r' (s p) - 1 ≡ p = omega (arith, ap r' (ap s e ∙ st), rn) in
              here (ap s (sym f)))
              (λ (e : p ≢ t). rw (rank_stays p (omega arith)) (h.low p (omega arith)))
              (same? p t);
          lows = λ j p m. ⊎_elim
              (λ (w : (j ≡ k) × (p ≡ t)).
              let f : d j ≡ p = ap d w.0 ∙ dk ∙ sym w.1 in
              rw f (omega arith))
              (λ w. rw (rank_stays (d j) (h.climb j w.on).1, rank_stays p w.within) (h.lows j p w))
              (part j p m);
          spent = λ j p m u. ⊎_elim
              (λ w. absurd (omega (arith, ap d w.0, w.1)))
              (λ w. h.spent j p w u)
              (part j p m);
          fresh = λ x l q.
              let e : x ≢ z = λ e. omega (arith, ap r' e) in
              h.fresh x l (sym (ro x l e) ∙ q);
          cur = λ p l. ⊎_elim
              (λ (e : p ≡ t). rw (e, st) (λ u. let f = (h.fresh z lz rz).found u in (f.1, f.2)))
              (λ (e : p ≢ t). h.cur p (omega arith))
              (same? p t);
          seen = λ p e l m q u. ⊎_elim
              (λ (f : p ≡ t).
              let ez : s p ≡ z = ap s f ∙ st in
              let g = (h.fresh z lz rz).hit e (omega arith) m (q ∙ ap opposite ez) in
              absurd (⊎_elim (λ (w : cu (s p) ≡ 0). omega (arith, g, ap cu ez)) (λ (w : e + 1 < cu (s p)). omega (arith, g, ap cu ez)) u))
              (λ (f : p ≢ t).
              let lp : p < t = omega arith in
              let w = h.seen p e lp m q u in
              record {
                has = (met_stays (get_or ws (other_end e) 0) (ok.inside e m) w.has).1;
                low = λ q' l' e'. ⊎_elim
                    (λ (g : q' ≡ t). absurd (omega (arith, w.has, ap r (sym e' ∙ ap s g ∙ st))))
                    (λ (g : q' ≢ t). rw (rank_stays p lp) (w.low q' (omega arith) e'))
                    (same? q' t);
              })
              (same? p t);
          whole = λ x y l m a.
              let e : x ≢ z = λ e. omega (arith, ap r' e, room_left) in
              let g : N < r y = h.whole x y l (omega (arith, ro x l e)) a in
              omega (arith, g, met_stays y (reach_lt ok l a.0) (omega arith));
          lead = λ x l m.
              let e : x ≢ z = λ e. omega (arith, ap r' e, room_left) in
              rw (ro x l e) (h.lead x l (omega (arith, ro x l e)));
        }

-- ---- the last code of the path is done, and reaches a place below its own
module _ {N : ℕ} {ws : List ℕ} {r s d cu : ℕ → ℕ} {t m : ℕ} (h : Dfs N ws r s d cu t (m + 2))
    (done : cu (s (d (m + 1))) ≡ 0) (below : r (s (d (m + 1))) ≤ d (m + 1)) (least : r (s (d m)) ≤ r (s (d (m + 1)))) where
  -- the last place of the path is on the stack
  last_on_stack : d (m + 1) < t
  last_on_stack = (h.climb (m + 1) (omega arith)).1

  -- the last part of the shorter path: the two last ones
  joined : (j p : ℕ) → In d t (m + 1) j p → ((j ≡ m) × In d t (m + 2) (m + 1) p) ⊎ In d t (m + 2) j p
  joined j p i =
      ⊎_elim
      (λ (e : j ≡ m). ⊎_elim
      (λ (l : p < d (m + 1)). inr (record { on = omega (arith, i.on); from = i.from; within = i.within; under = λ u. rw e l }))
      (λ (l : d (m + 1) ≤ p). inl (e, record { on = omega arith; from = l; within = i.within; under = λ u. absurd (omega arith) }))
      (below_or_from p (d (m + 1))))
      (λ (e : j ≢ m). inr (record { on = omega (arith, i.on); from = i.from; within = i.within; under = λ u. i.under (omega (arith, i.on)) }))
      (same? j m)

  -- the code that is done reaches the one before it on the path
  to_last : Reach ws (s (d (m + 1))) (s (d m))
  to_last =
      let q : ℕ = r (s (d (m + 1))) - 1 in
      let lq : r (s (d (m + 1))) - 1 < d (m + 1) = omega (arith, (h.stacked (d (m + 1)) last_on_stack).1) in
      join (h.low (d (m + 1)) last_on_stack)
      (⊎_elim
      (λ (l : r (s (d (m + 1))) - 1 < d m). h.up (r (s (d (m + 1))) - 1) (d m) (omega arith) (h.climb m (omega arith)).1)
      (λ (l : d m ≤ r (s (d (m + 1))) - 1).
      h.back m (r (s (d (m + 1))) - 1) (record { on = omega arith; from = l; within = omega (arith, last_on_stack); under = λ u. lq }))
      (below_or_from (r (s (d (m + 1))) - 1) (d m)))

  -- the walk goes on with a shorter path
  pub dropped : Dfs N ws r s d cu t (m + 1)
  dropped =
      record {
        stacked = h.stacked;
        placed = h.placed;
        one = h.one;
        count = h.count;
        climb = λ j l. h.climb j (omega arith);
        rise = λ i j l u. h.rise i j l (omega arith);
        floor = ((λ e. absurd (omega arith)), (λ l. h.floor.1 (omega arith)));
        up = h.up;
        back = λ j p i. ⊎_elim
            (λ w. rw w.0 (join (h.back (m + 1) p w.1) to_last))
            (λ w. h.back j p w)
            (joined j p i);
        low = h.low;
        lows = λ j p i. ⊎_elim
            (λ w. rw w.0 (omega (arith, least, h.lows (m + 1) p w.1)))
            (λ w. h.lows j p w)
            (joined j p i);
        spent = λ j p i u. ⊎_elim
            (λ w. ⊎_elim
            (λ (e : p ≡ d (m + 1)). rw e done)
            (λ (e : p ≢ d (m + 1)). h.spent (m + 1) p w.1 (omega (arith, w.1.from)))
            (same? p (d (m + 1))))
            (λ w. h.spent j p w u)
            (joined j p i);
        fresh = h.fresh;
        cur = h.cur;
        seen = h.seen;
        whole = h.whole;
        lead = h.lead;
      }
