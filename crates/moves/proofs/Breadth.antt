-- A breadth-first walk on top of a closed set: its start, one visit more, and what holds at its end.
use mathlib.Core.Path.{◌≡◌, refl, sym, ap, ◌∙◌, subst}
use mathlib.Core.Logic.{◌⊎◌, inl, inr, ⊎_elim, ◌≢◌}
use mathlib.Core.List.{List, [], ◌∷◌, ◌++◌}
use Prim.Native.Nat.{ℕ, ◌+◌, ◌≤◌, ◌<◌}
use native.Mathlib.Omega.{arith}
use lib.ListN.{length, length-append}
use Rattle.meaning.specs.Chains.{Step, Chain}
use Rattle.moves.specs.Walks.{Trail, Visited}
use Rattle.meaning.proofs.ChainLaws.{chain_append}
use Rattle.meaning.proofs.General.{same?, below_or_from}
use Rattle.moves.proofs.Trails.{push_onto}

-- a chain of one rule less than m leads from src to x
abbrev pub Far : List ℕ → ℕ → ℕ → ℕ → Type 0
Far ws src x m = (ks : List ℕ) × Chain ws src ks x × (m ≡ length ks + 1)

-- and a step leads on
far_step : (ws : List ℕ) (src a k x m : ℕ) → Far ws src a m → Step ws a k x → Far ws src x (m + 1)
far_step ws src a k x m f st =
    (f.0 ++ (k ∷ []), chain_append ws src f.0 a (k ∷ []) x f.1 (x, st, refl), omega (arith, f.2, length-append f.0 (k ∷ [])))

-- a breadth-first walk from src, on top of the codes that mk₀ marks and that stand in the first s places of the trail: the places from s to h are visited
pub record Bfs (N : ℕ) (ws : List ℕ) (src : ℕ) (mk₀ q₀ : ℕ → ℕ) (s : ℕ) (mk q : ℕ → ℕ) (h t : ℕ) : Type 0 where
  pub within : src < N
  pub listed : Trail N mk q t
  pub low : s ≤ h
  pub ahead : h ≤ t
  pub small : (i : ℕ) → s ≤ i → i < t → mk (q i) ≤ i + 1
  pub order : (i j : ℕ) → s ≤ i → i ≤ j → j < t → mk (q i) ≤ mk (q j)
  pub near : (j : ℕ) → s ≤ j → j < t → h < t → mk (q j) ≤ mk (q h) + 1
  pub chain : (x : ℕ) → x < N → 0 < mk x → (0 < mk₀ x) ⊎ Far ws src x (mk x)
  pub kept : (x : ℕ) → x < N → 0 < mk₀ x → mk x ≡ mk₀ x
  pub old : (i : ℕ) → i < s → (q i ≡ q₀ i) × (0 < mk₀ (q i))
  pub under : (x : ℕ) → x < N → 0 < mk₀ x → (i : ℕ) × (i < s) × (q₀ i ≡ x)
  pub done : (i : ℕ) → s ≤ i → i < h → (k b : ℕ) → Step ws (q i) k b → (0 < mk b) × ((0 < mk₀ b) ⊎ (mk b ≤ mk (q i) + 1))
  pub source : mk src ≡ 1

-- the walk's start
module _ (N : ℕ) (ws : List ℕ) (src : ℕ) (mk₀ q₀ mk q : ℕ → ℕ) (s : ℕ) (r : Trail N mk₀ q₀ s) (l : src < N) (z : mk₀ src ≡ 0)
    (ms : mk src ≡ 1) (mo : (x : ℕ) → x < N → x ≢ src → mk x ≡ mk₀ x) (qs : q s ≡ src) (qo : (i : ℕ) → i < N → i ≢ s → q i ≡ q₀ i) where
  -- there is one new place
  at_s : (i : ℕ) → s ≤ i → i < s + 1 → i ≡ s
  at_s i a b = omega arith

  -- src alone is on the trail above the set
  pub start : Bfs N ws src mk₀ q₀ s mk q s (s + 1)
  start =
      let o = push_onto N mk₀ q₀ mk q s src r l z (omega (arith, ms)) mo qs qo in
      record {
        within = l;
        listed = o.listed;
        low = omega arith;
        ahead = omega arith;
        small = λ i a b. rw (at_s i a b, qs) (omega (arith, ms));
        order = λ i j a b d. rw (at_s j (omega arith) d, at_s i a (omega arith)) (omega arith);
        near = λ j a b d. rw (at_s j a b) (omega arith);
        chain = λ x m p. ⊎_elim
            (λ (e : x ≡ src). inr (rw (e, ms) ([], refl, refl)))
            (λ (e : x ≢ src). inl (omega (arith, mo x m e)))
            (same? x src);
        kept = o.kept;
        old = λ i m. (o.old i m, rw (o.old i m) (r.inside i m).1);
        under = r.queued;
        done = λ i a b. absurd (omega arith);
        source = ms;
      }

-- one visit more
module _ (N : ℕ) (ws : List ℕ) (src : ℕ) (mk₀ q₀ : ℕ → ℕ) (s : ℕ) (mk q : ℕ → ℕ) (h t v : ℕ) (mk' q' : ℕ → ℕ) (t' : ℕ)
    (r : Bfs N ws src mk₀ q₀ s mk q h t) (ht : h < t) (ev : v ≡ mk (q h) + 1) (d : Visited N ws (q h) v mk q t mk' q' t') where
  -- a code of the old trail keeps its place and its mark
  both : (i : ℕ) → i < t → mk' (q' i) ≡ mk (q i)
  both i l = rw (d.onto.old i l) (d.onto.kept (q i) (r.listed.inside i l).0 (r.listed.inside i l).1)

  -- so does the code at h
  at_h : mk' (q' h) ≡ mk (q h)
  at_h = both h ht

  -- the marks from h on
  near' : (j : ℕ) → s ≤ j → j < t' → mk' (q' j) ≤ mk (q h) + 1
  near' j a b =
      ⊎_elim
      (λ (l : j < t). omega (arith, both j l, r.near j a l ht))
      (λ (l : t ≤ j). omega (arith, (d.new j l b).1))
      (below_or_from j t)

  -- marks still go up along the trail
  order' : (i j : ℕ) → s ≤ i → i ≤ j → j < t' → mk' (q' i) ≤ mk' (q' j)
  order' i j a b c =
      ⊎_elim
      (λ (l : j < t). omega (arith, both i (omega arith), both j l, r.order i j a b l))
      (λ (l : t ≤ j). omega (arith, near' i a (omega arith), (d.new j l c).1))
      (below_or_from j t)

  -- and old marks stay
  kept' : (x : ℕ) → x < N → 0 < mk₀ x → mk' x ≡ mk₀ x
  kept' x l p = d.onto.kept x l (omega (arith, r.kept x l p)) ∙ r.kept x l p

  -- a marked code stands below s, or its mark is at most that of h and 1
  reach_mark : (b : ℕ) → b < N → 0 < mk' b → (0 < mk₀ b) ⊎ (mk' b ≤ mk (q h) + 1)
  reach_mark b l p =
      let w = d.onto.listed.queued b l p in
      ⊎_elim
      (λ (m : w.0 < s).
      let o = r.old w.0 m in
      inl (subst (λ (y : ℕ). 0 < mk₀ y) (sym (d.onto.old w.0 (omega (arith, r.low))) ∙ w.2) o.1))
      (λ (m : s ≤ w.0). inr (subst (λ (y : ℕ). mk' y ≤ mk (q h) + 1) w.2 (near' w.0 m w.1)))
      (below_or_from w.0 s)

  -- the code at h is visited
  pub advance : ((a k c : ℕ) → Step ws a k c → c < N) → Bfs N ws src mk₀ q₀ s mk' q' (h + 1) t'
  advance in_n =
      record {
        within = r.within;
        listed = d.onto.listed;
        low = omega (arith, r.low);
        ahead = omega (arith, d.onto.grows);
        small = λ i a b. ⊎_elim
            (λ (l : i < t). omega (arith, both i l, r.small i a l))
            (λ (l : t ≤ i). omega (arith, (d.new i l b).1, r.small h r.low ht))
            (below_or_from i t);
        order = order';
        near = λ j a b u.
            omega (arith, near' j a b, order' h (h + 1) r.low (omega arith) u, at_h);
        chain = λ x l p.
            let w = d.onto.listed.queued x l p in
            ⊎_elim
            (λ (m : w.0 < t).
            let e : q w.0 ≡ x = sym (d.onto.old w.0 m) ∙ w.2 in
            let px : 0 < mk x = subst (λ (y : ℕ). 0 < mk y) e (r.listed.inside w.0 m).1 in
            rw (d.onto.kept x l px) (r.chain x l px))
            (λ (m : t ≤ w.0).
            let nw = d.new w.0 m w.1 in
            let st : Step ws (q h) nw.0.0 x = subst (λ (y : ℕ). Step ws (q h) nw.0.0 y) w.2 nw.0.1 in
            let mx : mk' x ≡ mk (q h) + 1 = ap mk' (sym w.2) ∙ nw.1 ∙ ev in
            ⊎_elim
            (λ (o : 0 < mk₀ (q h)). absurd (fresh o))
            (λ (f : Far ws src (q h) (mk (q h))). inr (rw mx (far_step ws src (q h) nw.0.0 x (mk (q h)) f st)))
            (r.chain (q h) (r.listed.inside h ht).0 (r.listed.inside h ht).1))
            (below_or_from w.0 t);
        kept = kept';
        old = λ i l.
            let e : q' i ≡ q i = d.onto.old i (omega (arith, r.low)) in
            (e ∙ (r.old i l).0, rw e (r.old i l).1);
        under = r.under;
        done = λ i a b k c st. ⊎_elim
            (λ (e : i ≡ h).
            let s' : Step ws (q h) k c = subst (λ (y : ℕ). Step ws y k c) (ap q' e ∙ d.onto.old h ht) st in
            let p : 0 < mk' c = d.all k c s' in
            let bound : mk (q h) + 1 ≡ mk' (q' i) + 1 = omega (arith, at_h, ap (λ (y : ℕ). mk' (q' y)) e) in
            (p, subst (λ (y : ℕ). (0 < mk₀ c) ⊎ (mk' c ≤ y)) bound (reach_mark c (in_n (q h) k c s') p)))
            (λ (e : i ≢ h).
            let l : i < t = omega arith in
            let o = r.done i a (omega arith) k c (subst (λ (y : ℕ). Step ws y k c) (d.onto.old i l) st) in
            let same : mk' c ≡ mk c = d.onto.kept c (in_n (q' i) k c st) o.0 in
            (omega (arith, same, o.0), ⊎_elim (λ u. inl u) (λ (u : mk c ≤ mk (q i) + 1). inr (omega (arith, same, both i l))) o.1))
            (same? i h);
        source = d.onto.kept src r.within (omega (arith, r.source)) ∙ r.source;
      }
    where
      -- the code at h is new
      fresh : 0 < mk₀ (q h) → ⊥
      fresh o =
          let w = r.under (q h) (r.listed.inside h ht).0 o in
          r.listed.once w.0 h (omega (arith, w.1, r.low)) ht ((r.old w.0 w.1).0 ∙ w.2)

-- the walk's end: what a chain leads to has a mark, at most as much more than the chain's first code as the chain has rules
module _ {N : ℕ} {ws : List ℕ} {src : ℕ} {mk₀ q₀ : ℕ → ℕ} {s : ℕ} {mk q : ℕ → ℕ} {t : ℕ} (in_n : (a k c : ℕ) → Step ws a k c → c < N)
    (cl : (a k b : ℕ) → Step ws a k b → 0 < mk₀ a → 0 < mk₀ b) (r : Bfs N ws src mk₀ q₀ s mk q t t) where
  -- one step
  turn_step : (j a k b : ℕ) → a < N → 0 < mk a → (0 < mk₀ a) ⊎ (mk a ≤ j + 1) → Step ws a k b → (0 < mk b) × ((0 < mk₀ b) ⊎ (mk b ≤ j + 2))
  turn_step j a k b la pa m st =
      let lb : b < N = in_n a k b st in
      let base : 0 < mk₀ a → (0 < mk b) × ((0 < mk₀ b) ⊎ (mk b ≤ j + 2)) =
      λ o.
      let p = cl a k b st o in
      (omega (arith, p, r.kept b lb p), inl p) in
      let w = r.listed.queued a la pa in
      ⊎_elim base
      (λ (u : mk a ≤ j + 1). ⊎_elim
      (λ (z : w.0 < s). base (subst (λ (y : ℕ). 0 < mk₀ y) w.2 (r.old w.0 z).1))
      (λ (z : s ≤ w.0).
      let d = r.done w.0 z w.1 k b (subst (λ (y : ℕ). Step ws y k b) (sym w.2) st) in
      (d.0, ⊎_elim (λ o. inl o) (λ (o : mk b ≤ mk (q w.0) + 1). inr (omega (arith, ap mk w.2))) d.1))
      (below_or_from w.0 s))
      m

  -- a whole chain
  end_chain : (j a : ℕ) (ks : List ℕ) (x : ℕ) → a < N → 0 < mk a → (0 < mk₀ a) ⊎ (mk a ≤ j + 1) → Chain ws a ks x →
      (0 < mk x) × ((0 < mk₀ x) ⊎ (mk x ≤ j + length ks + 1))
  end_chain j a [] x la pa m p = rw (sym p) (pa, ⊎_elim (λ o. inl o) (λ (o : mk a ≤ j + 1). inr (omega arith)) m)
  end_chain j a (k ∷ ks) x la pa m p =
      let d = turn_step j a k p.0 la pa m p.1 in
      let e = end_chain (j + 1) p.0 ks x (in_n a k p.0 p.1) d.0 (⊎_elim (λ o. inl o) (λ (o : mk p.0 ≤ j + 2). inr (omega arith)) d.1) p.2 in
      (e.0, ⊎_elim (λ o. inl o) (λ (o : mk x ≤ j + 1 + length ks + 1). inr (omega arith)) e.1)

  -- a chain from src
  pub finish : (ks : List ℕ) (x : ℕ) → Chain ws src ks x → (0 < mk x) × ((0 < mk₀ x) ⊎ (mk x ≤ length ks + 1))
  finish ks x p =
      let e = end_chain 0 src ks x r.within (omega (arith, r.source)) (inr (omega (arith, r.source))) p in
      (e.0, ⊎_elim (λ o. inl o) (λ (o : mk x ≤ 0 + length ks + 1). inr (omega arith)) e.1)
