-- A component of the walk is settled: the codes at the top of the stack, or their opposites. Both keep `Dfs`.
use Prim.Native.Nat.{ℕ, ◌+◌, ◌-◌, ◌≤◌, ◌<◌}
use mathlib.Core.Path.{◌≡◌, refl, sym, ap, ◌∙◌, subst}
use mathlib.Core.Logic.{◌⊎◌, inl, inr, ⊎_elim, ◌≢◌}
use mathlib.Core.List.{List, [], ◌∷◌}
use native.Mathlib.Omega.{arith}
use lib.ListN.{get_or}
use Rattle.components.specs.Leads.{Lead}
use Rattle.components.specs.Walk.{In, Accounted, Dfs}
use Rattle.meaning.specs.Chains.{Step, Chain, Reach, Tied}
use Rattle.meaning.specs.Codes.{opposite}
use Rattle.meaning.specs.Rules.{other_end}
use Rattle.components.proofs.Walking.{unsettled}
use Rattle.components.proofs.Ways.{join, once, Words, step_lt, reach_lt}
use Rattle.meaning.proofs.General.{same?, below_or_from, find?}
use Rattle.moves.proofs.Counts.{count_mono}

-- ---- the last code of the path is done, and reaches nothing below: it and what is above it are a component
module _ {N : ℕ} {ws : List ℕ} {r s d cu : ℕ → ℕ} {t m : ℕ} (h : Dfs N ws r s d cu t (m + 1)) (ok : Words N ws)
    (done : cu (s (d m)) ≡ 0) (root : r (s (d m)) ≡ d m + 1) (r' : ℕ → ℕ) (l : ℕ)
    (at : (p : ℕ) × (d m ≤ p) × (p < t) × (s p ≡ l)) (least : (p : ℕ) → d m ≤ p → p < t → l ≤ s p)
    (new : (p : ℕ) → d m ≤ p → p < t → r' (s p) ≡ N + 1 + l)
    (old : (x : ℕ) → x < N → ((p : ℕ) → d m ≤ p → p < t → s p ≢ x) → r' x ≡ r x) where
  -- the last place of the path is on the stack, and all from there on lie in its part
  last_on_stack : d m < t
  last_on_stack = (h.climb m (omega arith)).1

  -- a place of the last part
  in_last : (p : ℕ) → d m ≤ p → p < t → In d t (m + 1) m p
  in_last p a b = record { on = omega arith; from = a; within = b; under = λ u. absurd (omega arith) }

  -- the ranks of what stays on the stack, and of what was settled
  kept : (p : ℕ) → p < d m → r' (s p) ≡ r (s p)
  kept p a = old (s p) (h.stacked p (omega (arith, last_on_stack))).0 (λ q b c e. omega (arith, h.one q p c (omega (arith, last_on_stack)) e))

  -- what was settled stays
  firm : (x : ℕ) → x < N → N < r x → r' x ≡ r x
  firm x a b = old x a (λ q u v e. omega (arith, ap r e, unsettled h q v))

  -- a code that has a rank: settled before, alive on the stack, or settled now
  data Kind (x : ℕ) : Type 0 where
    before : N < r x → r' x ≡ r x → Kind x
    stays : (p : ℕ) → p < d m → s p ≡ x → r' x ≡ r x → Kind x
    now' : (p : ℕ) → d m ≤ p → p < t → s p ≡ x → r' x ≡ N + 1 + l → Kind x

  -- which of the three it is
  kind : (x : ℕ) → x < N → 0 < r x → Kind x
  kind x a b =
      ⊎_elim (λ g. before g (firm x a g))
      (λ w. ⊎_elim
      (λ (u : w.0 < d m). stays w.0 u w.2 (subst (λ (y : ℕ). r' y ≡ r y) w.2 (kept w.0 u)))
      (λ (u : d m ≤ w.0). now' w.0 u w.1 w.2 (subst (λ (y : ℕ). r' y ≡ N + 1 + l) w.2 (new w.0 u w.1)))
      (below_or_from w.0 (d m)))
      (h.placed x a b)

  -- the codes that are met stay so, and no other becomes so
  pub alive : (x : ℕ) → x < N → 0 < r x → 0 < r' x
  alive x a b = go (kind x a b)
    where
      go : Kind x → 0 < r' x
      go (before g e) = omega arith
      go (stays p u e f) = omega arith
      go (now' p u v e f) = omega arith

  -- what is not met now was not before
  unmet_before : (x : ℕ) → x < N → r' x ≡ 0 → r x ≡ 0
  unmet_before x a z = ⊎_elim (λ (e : r x ≡ 0). e) (λ (e : r x ≢ 0). omega (arith, alive x a (omega arith))) (same? (r x) 0)

  -- and what is met now was
  had_rank : (x : ℕ) → x < N → 0 < r' x → 0 < r x
  had_rank x a b =
      ⊎_elim
      (λ (e : r x ≡ 0). absurd (omega (arith, old x a (λ q u v f. omega (arith, ap r f, (h.stacked q v).1)))))
      (λ (e : r x ≢ 0). omega arith)
      (same? (r x) 0)

  -- x is at the top of the stack
  abbrev Top : ℕ → Type 0
  Top x = (p : ℕ) × (d m ≤ p) × (p < t) × (s p ≡ x) × (r' x ≡ N + 1 + l)

  -- settled after: settled before, or at the top
  split : (x : ℕ) → x < N → N < r' x → ((N < r x) × (r' x ≡ r x)) ⊎ Top x
  split x a b = go (kind x a (had_rank x a (omega arith)))
    where
      go : Kind x → ((N < r x) × (r' x ≡ r x)) ⊎ Top x
      go (before g e) = inl (g, e)
      go (stays p u e f) = absurd (omega (arith, ap r e, unsettled h p (omega (arith, last_on_stack))))
      go (now' p u v e f) = inr (p, u, v, e, f)

  -- a step from a code at the top to one that leads back to it stays at the top
  top_step : {k : ℕ} (x y : ℕ) → Top x → Step ws x k y → Reach ws y x → Top y
  top_step {k} x y w st back =
      let done_too : cu (s w.0) ≡ 0 = ⊎_elim
      (λ (e : w.0 ≡ d m). rw e done)
      (λ (e : w.0 ≢ d m). h.spent m w.0 (in_last w.0 w.1 w.2) (omega (arith, w.1)))
      (same? w.0 (d m)) in
      let end = ok.ends x k y st in
      let past : Accounted r s t w.0 y = subst (λ (z : ℕ). Accounted r s t w.0 z) end.3
      (h.seen w.0 end.0 w.2 end.1 (end.2 ∙ ap opposite (sym w.3)) (inl done_too)) in
      go (kind y (step_lt ok st) past.has) past
    where
      round_trip : Tied ws y (s w.0)
      round_trip = subst (λ (z : ℕ). Tied ws y z) (sym w.3) (back, once st)

      go : Kind y → Accounted r s t w.0 y → Top y
      go (before g e) past = absurd (omega (arith, h.whole y (s w.0) (step_lt ok st) g round_trip, unsettled h w.0 w.2))
      go (stays q u e g) past = absurd (omega (arith, past.low q (omega (arith, last_on_stack)) e, h.lows m w.0 (in_last w.0 w.1 w.2), root))
      go (now' q u v e g) past = (q, u, v, e, g)

  -- and so does a chain that leads back
  top_chain : (ks : List ℕ) (x y : ℕ) → Top x → Chain ws x ks y → Reach ws y x → Top y
  top_chain [] x y w p back = rw p at w
  top_chain (k ∷ ks) x y w p back =
      top_chain ks p.0 y (top_step x p.0 w p.1 (join (ks, p.2) back)) p.2 (join back (once p.1))

  -- what a code at the top is tied to is at the top
  top_tied : (x y : ℕ) → Top x → Tied ws x y → Top y
  top_tied x y w q = top_chain q.0.0 x y w q.0.1 q.1

  -- so the codes at the top are all that are tied to one of them
  pub exact : (p : ℕ) → d m ≤ p → p < t → (y : ℕ) → Tied ws (s p) y → (q : ℕ) × (d m ≤ q) × (q < t) × (s q ≡ y)
  exact p a b y f =
      let w = top_tied (s p) y (p, a, b, refl, new p a b) f in
      (w.0, w.1, w.2, w.3)

  -- two places at the top reach each other
  pub round : (p q : ℕ) → d m ≤ p → p < t → d m ≤ q → q < t → Reach ws (s p) (s q)
  round p q a b a' b' = join (h.back m p (in_last p a b)) (h.up (d m) q a' b')

  -- the smallest of them is the lead of each
  leads : (x : ℕ) → x < N → N < r' x → Lead ws x (r' x - (N + 1))
  leads x a b = ⊎_elim
      (λ (w : (N < r x) × (r' x ≡ r x)). rw w.1 (h.lead x a w.0))
      (λ (w : Top x).
      let e : r' x - (N + 1) ≡ l = omega (arith, w.4) in
      rw e (record {
        tied = subst (λ (z : ℕ). Tied ws z l) w.3 (subst (λ (z : ℕ). Tied ws (s w.0) z) at.3
            (round w.0 at.0 w.1 w.2 at.1 at.2, round at.0 w.0 at.1 at.2 w.1 w.2));
        smallest = λ y g.
            let u : Top y = top_tied x y w g in
            omega (arith, least u.0 u.1 u.2, u.3);
      }))
      (split x a b)

  -- what is tied to a settled code is settled
  wholes : (x y : ℕ) → x < N → N < r' x → Tied ws x y → N < r' y
  wholes x y a b g = ⊎_elim
      (λ (w : (N < r x) × (r' x ≡ r x)).
      let u : N < r y = h.whole x y a w.0 g in
      omega (arith, u, firm y (reach_lt ok a g.0) u))
      (λ (w : Top x).
      let u : Top y = top_tied x y w g in
      omega (arith, u.4))
      (split x a b)

  -- a part of what stays
  inner : (j p : ℕ) → In d (d m) m j p → In d t (m + 1) j p
  inner j p i =
      record {
        on = omega (arith, i.on);
        from = i.from;
        within = omega (arith, i.within, last_on_stack);
        under = λ u. ⊎_elim
            (λ (e : j + 1 ≡ m). rw e i.within)
            (λ (e : j + 1 ≢ m). i.under (omega arith))
            (same? (j + 1) m);
      }

  -- the walk goes on without them
  pub collected : Dfs N ws r' s d cu (d m) m
  collected =
      record {
        stacked = λ p u. rw (kept p u) (h.stacked p (omega (arith, last_on_stack)));
        placed = λ x a b. go x (kind x a (had_rank x a b));
        one = λ p q a b. h.one p q (omega (arith, last_on_stack)) (omega (arith, last_on_stack));
        count = omega (arith, h.count, last_on_stack, count_mono r r' N alive);
        climb = λ j a. ((h.climb j (omega arith)).0, h.rise j m a (omega arith));
        rise = λ i j a b. h.rise i j a (omega arith);
        floor = ((λ e. ap d e ∙ h.floor.1 (omega arith)), (λ a. h.floor.1 (omega arith)));
        up = λ p q a b. h.up p q a (omega (arith, last_on_stack));
        back = λ j p i. h.back j p (inner j p i);
        low = λ p u. rw (kept p u) (h.low p (omega (arith, last_on_stack)));
        lows = λ j p i. rw (kept (d j) (h.rise j m i.on (omega arith)), kept p i.within) (h.lows j p (inner j p i));
        spent = λ j p i u. h.spent j p (inner j p i) u;
        fresh = λ x a z. h.fresh x a (unmet_before x a z);
        cur = λ p u. h.cur p (omega (arith, last_on_stack));
        seen = λ p e u v q w.
            let z = h.seen p e (omega (arith, last_on_stack)) v q w in
            record {
              has = alive (get_or ws (other_end e) 0) (ok.inside e v) z.has;
              low = λ q' u' e'. rw (kept p u) (z.low q' (omega (arith, last_on_stack)) e');
            };
        whole = wholes;
        lead = leads;
      }
    where
      go : (x : ℕ) → Kind x → (N < r' x) ⊎ ((p : ℕ) × (p < d m) × (s p ≡ x))
      go x (before g e) = inl (omega arith)
      go x (stays p u e f) = inr (p, u, e)
      go x (now' p u v e f) = inl (omega arith)

-- ---- a whole component of codes that were not met is settled: g a .. g (b - 1), with the smallest o
module _ {N : ℕ} {ws : List ℕ} {r s d cu : ℕ → ℕ} {t k : ℕ} (h : Dfs N ws r s d cu t k) (ok : Words N ws)
    (r' g : ℕ → ℕ) (a b o : ℕ) (unmet : (p : ℕ) → a ≤ p → p < b → r (g p) ≡ 0)
    (new : (p : ℕ) → a ≤ p → p < b → r' (g p) ≡ N + 1 + o)
    (old : (x : ℕ) → x < N → ((p : ℕ) → a ≤ p → p < b → g p ≢ x) → r' x ≡ r x)
    (ld : (p : ℕ) → a ≤ p → p < b → Lead ws (g p) o)
    (wh : (p : ℕ) → a ≤ p → p < b → (y : ℕ) → Tied ws (g p) y → (q : ℕ) × (a ≤ q) × (q < b) × (g q ≡ y)) where
  -- the ranks that were there stay
  fixed : (x : ℕ) → x < N → 0 < r x → r' x ≡ r x
  fixed x l m = old x l (λ p u v e. omega (arith, ap r e, unmet p u v))

  -- so what was met stays met
  pub lives : (x : ℕ) → x < N → 0 < r x → 0 < r' x
  lives x l m = omega (arith, fixed x l m)

  -- and the ranks on the stack stay
  fixed_on_stack : (p : ℕ) → p < t → r' (s p) ≡ r (s p)
  fixed_on_stack p l = fixed (s p) (h.stacked p l).0 (h.stacked p l).1

  -- a code that has a rank now had it, or is one of the new ones
  rank_before : (x : ℕ) → x < N → 0 < r' x → ((0 < r x) × (r' x ≡ r x)) ⊎ ((p : ℕ) × (a ≤ p) × (p < b) × (g p ≡ x))
  rank_before x l m =
      ⊎_elim (λ w. inr w)
      (λ (f : (p : ℕ) → a ≤ p → p < b → g p ≢ x). inl (omega (arith, old x l f), old x l f))
      (find? g x a b)

  -- the rank of a new one
  rank_of : (x : ℕ) → (w : (p : ℕ) × (a ≤ p) × (p < b) × (g p ≡ x)) → r' x ≡ N + 1 + o
  rank_of x w = sym (ap r' w.3) ∙ new w.0 w.1 w.2

  -- the walk goes on with them settled
  pub mirrored : Dfs N ws r' s d cu t k
  mirrored =
      record {
        stacked = λ p l. rw (fixed_on_stack p l) (h.stacked p l);
        placed = λ x l m. ⊎_elim
            (λ (w : (0 < r x) × (r' x ≡ r x)). rw w.1 (h.placed x l w.0))
            (λ (w : (p : ℕ) × (a ≤ p) × (p < b) × (g p ≡ x)). inl (omega (arith, rank_of x w)))
            (rank_before x l m);
        one = h.one;
        count = omega (arith, h.count, count_mono r r' N lives);
        climb = h.climb;
        rise = h.rise;
        floor = h.floor;
        up = h.up;
        back = h.back;
        low = λ p l. rw (fixed_on_stack p l) (h.low p l);
        lows = λ j p i. rw (fixed_on_stack (d j) (h.climb j i.on).1, fixed_on_stack p i.within) (h.lows j p i);
        spent = h.spent;
        fresh = λ x l z. h.fresh x l (unmet_before_too x l z);
        cur = h.cur;
        seen = λ p e l m q u.
            let w = h.seen p e l m q u in
            record {
              has = lives (get_or ws (other_end e) 0) (ok.inside e m) w.has;
              low = λ q' l' e'. rw (fixed_on_stack p l) (w.low q' l' e');
            };
        whole = λ x y l m f. ⊎_elim
            (λ (w : (0 < r x) × (r' x ≡ r x)).
            let u : N < r y = h.whole x y l (omega (arith, w.1)) f in
            omega (arith, u, fixed y (reach_lt ok l f.0) (omega arith)))
            (λ (w : (p : ℕ) × (a ≤ p) × (p < b) × (g p ≡ x)).
            let v = wh w.0 w.1 w.2 y (subst (λ (z : ℕ). Tied ws z y) (sym w.3) f) in
            omega (arith, rank_of y v))
            (rank_before x l (omega arith));
        lead = λ x l m. ⊎_elim
            (λ (w : (0 < r x) × (r' x ≡ r x)). rw w.1 (h.lead x l (omega (arith, w.1))))
            (λ (w : (p : ℕ) × (a ≤ p) × (p < b) × (g p ≡ x)).
            let e : r' x - (N + 1) ≡ o = omega (arith, rank_of x w) in
            rw e (subst (λ (z : ℕ). Lead ws z o) w.3 (ld w.0 w.1 w.2)))
            (rank_before x l (omega arith));
      }
    where
      unmet_before_too : (x : ℕ) → x < N → r' x ≡ 0 → r x ≡ 0
      unmet_before_too x l z = ⊎_elim (λ (e : r x ≡ 0). e) (λ (e : r x ≢ 0). omega (arith, lives x l (omega arith))) (same? (r x) 0)
