-- The walk over the choices: a set of codes that decides the choices before v, early where it can be.
use mathlib.Core.Path.{◌≡◌, sym, ◌∙◌, subst}
use mathlib.Core.Logic.{◌⊎◌, inl, inr, ⊎_elim, ite}
use mathlib.Core.List.{List}
use Prim.Native.Nat.{ℕ, zero, suc, ◌+◌, ◌*◌, ◌≤◌, ◌<◌}
use native.Mathlib.Omega.{arith}
use lib.ListN.{get_or, get_or-eq_default}
use Rattle.meaning.specs.Chains.{Reach, Clash}
use Rattle.meaning.specs.Codes.{late, early, opposite, choice_of, value_of}
use Rattle.meaning.specs.Rotas.{True, Rota, Allowed, First}
use Rattle.meaning.specs.Rules.{InRange}
use Rattle.meaning.proofs.ChainLaws.{reach_refl, true_or_opposite, true_early}
use Rattle.meaning.proofs.CodeLaws.{opposite_below, opposite_late, opposite_early, choice_late, choice_early, choice_below}
use Rattle.meaning.proofs.Firsts.{Must, first_by}
use Rattle.meaning.proofs.General.{below_or_from, below_suc, build, length_build, get_or_build, build_le}
use Rattle.meaning.proofs.Reaching.{to}
use Rattle.meaning.proofs.Sets.{Closed, Consistent, Follows, With, closed_reach, follows_allowed, with_closed, with_consistent, reach_closed, reach_consistent}

-- a code of S that speaks of a choice before v leads to d
abbrev pub From : List ℕ → (ℕ → Type 0) → ℕ → ℕ → Type 0
From ws S v d = (c : ℕ) × (choice_of c < v) × S c × Reach ws c d

-- why choice u is late: early u leads to late u, or the base set has late u, or a code of an earlier choice leads there
abbrev pub Why : List ℕ → (ℕ → Type 0) → (ℕ → Type 0) → ℕ → Type 0
Why ws B S u = Reach ws (early u) (late u) ⊎ (B (late u) ⊎ From ws S u (late u))

-- the set S has grown from the base set B and decides the choices before v
pub record Grown (ws : List ℕ) (B S : ℕ → Type 0) (v : ℕ) : Type 0 where
  pub closed : Closed ws S
  pub consistent : Consistent S
  pub base : (d : ℕ) → B d → S d
  pub origin : (d : ℕ) → S d → B d ⊎ From ws S v d
  pub decided : (u : ℕ) → u < v → S (early u) ⊎ (S (late u) × Why ws B S u)

-- a closed and consistent base decides no choice yet
pub grown_start : (ws : List ℕ) (B : ℕ → Type 0) → Closed ws B → Consistent B → Grown ws B B 0
grown_start ws B cl co = record { closed = cl; consistent = co; base = λ d h. h; origin = λ d h. inl h; decided = λ u h. absurd (omega arith) }

-- a base that decides the choices before v already
pub grown_at : (ws : List ℕ) (B : ℕ → Type 0) (v : ℕ) → Closed ws B → Consistent B → ((u : ℕ) → u < v → B (early u) ⊎ B (late u)) → Grown ws B B v
grown_at ws B v cl co de =
    record {
      closed = cl;
      consistent = co;
      base = λ d h. h;
      origin = λ d h. inl h;
      decided = λ u h. ⊎_elim (λ e. inl e) (λ l. inr (l, inr (inl l))) (de u h);
    }

module _ (ws : List ℕ) (B S : ℕ → Type 0) where
  -- a larger set, and more choices
  from_more : (S' : ℕ → Type 0) → ((d : ℕ) → S d → S' d) → (v w d : ℕ) → v ≤ w → From ws S v d → From ws S' w d
  from_more S' more v w d h f = (f.0, omega (arith, f.1), more f.0 f.2, f.3)

  -- a reason stays one in a larger set
  why_more : (S' : ℕ → Type 0) → ((d : ℕ) → S d → S' d) → (u : ℕ) → Why ws B S u → Why ws B S' u
  why_more S' more u (inl p) = inl p
  why_more S' more u (inr (inl p)) = inr (inl p)
  why_more S' more u (inr (inr f)) = inr (inr (from_more S' more u u (late u) (omega arith) f))

  -- a set with the same codes
  pub grown_same : (S' : ℕ → Type 0) → ((d : ℕ) → S d → S' d) → ((d : ℕ) → S' d → S d) → (v : ℕ) → Grown ws B S v → Grown ws B S' v
  grown_same S' to back v g =
      record {
        closed = λ a k b s h. to b (g.closed a k b s (back a h));
        consistent = λ c h k. g.consistent c (back c h) (back (opposite c) k);
        base = λ d h. to d (g.base d h);
        origin = λ d h. ⊎_elim (λ b. inl b) (λ f. inr (from_more S' to v v d (omega arith) f)) (g.origin d (back d h));
        decided = λ u h. ⊎_elim (λ e. inl (to (early u) e)) (λ l. inr (to (late u) l.0, why_more S' to u l.1)) (g.decided u h);
      }

  -- the choice v is decided by the code c, which the set and the rules leave free
  grown_add : (v c : ℕ) → Grown ws B S v → choice_of c ≡ v → (S (opposite c) → ⊥) → (Reach ws c (opposite c) → ⊥) →
      (With ws S c (early v) ⊎ (With ws S c (late v) × Why ws B (With ws S c) v)) → Grown ws B (With ws S c) (suc v)
  grown_add v c g e out free now =
      record {
        closed = with_closed ws S g.closed g.consistent c out free;
        consistent = with_consistent ws S g.closed g.consistent c out free;
        base = λ d h. inl (g.base d h);
        origin = λ d h. ⊎_elim
            (λ i. ⊎_elim (λ b. inl b) (λ f. inr (from_more (With ws S c) (λ d h. inl h) v (suc v) d (omega arith) f)) (g.origin d i))
            (λ p. inr (c, omega arith, inr (reach_refl ws c), p)) h;
        decided = λ u h. ⊎_elim
            (λ l. ⊎_elim (λ i. inl (inl i)) (λ i. inr (inl i.0, why_more (With ws S c) (λ d h. inl h) u i.1)) (g.decided u l))
            (λ l. let q : u ≡ v = omega arith in rw q now) (below_or_from u v);
      }

  -- early, where late is not in the set and early does not lead to it
  pub grown_early : (v : ℕ) → Grown ws B S v → (S (late v) → ⊥) → (Reach ws (early v) (late v) → ⊥) → Grown ws B (With ws S (early v)) (suc v)
  grown_early v g out free =
      grown_add v (early v) g (choice_early v) (λ h. out (rw (opposite_early v) at h)) (λ p. free (rw (opposite_early v) at p)) (inl (inr (reach_refl ws (early v))))

  -- late, where it must be
  pub grown_late : (v : ℕ) → Grown ws B S v → (S (early v) → ⊥) → (Reach ws (late v) (early v) → ⊥) →
      S (late v) ⊎ Reach ws (early v) (late v) → Grown ws B (With ws S (late v)) (suc v)
  grown_late v g out free why =
      grown_add v (late v) g (choice_late v) (λ h. out (rw (opposite_late v) at h)) (λ p. free (rw (opposite_late v) at p))
      (inr (inr (reach_refl ws (late v)), ⊎_elim (λ h. inr (⊎_elim (λ b. inl b) (λ f. inr (from_more (With ws S (late v)) (λ d h. inl h) v v (late v) (omega arith) f)) (g.origin (late v) h))) (λ p. inl p) why))

-- a choice that the set decides already
module _ (ws : List ℕ) (B S : ℕ → Type 0) (v : ℕ) (g : Grown ws B S v) where
  -- one choice more
  grown_more : S (early v) ⊎ (S (late v) × Why ws B S v) → Grown ws B S (suc v)
  grown_more now =
      record {
        closed = g.closed;
        consistent = g.consistent;
        base = g.base;
        origin = λ d h. ⊎_elim (λ b. inl b) (λ f. inr (from_more ws B S S (λ d h. h) v (suc v) d (omega arith) f)) (g.origin d h);
        decided = below_suc {P = λ u. S (early u) ⊎ (S (late u) × Why ws B S u)} v g.decided now;
      }

  -- early is in the set
  pub grown_has_early : S (early v) → Grown ws B S (suc v)
  grown_has_early h = grown_more (inl h)

  -- late is in the set
  pub grown_has_late : S (late v) → Grown ws B S (suc v)
  grown_has_late h = grown_more (inr (h, inr (g.origin (late v) h)))

  -- no choice that is decided clashes: the set would hold both its codes
  pub grown_free : (u : ℕ) → u < v → Clash ws u → ⊥
  grown_free u h c =
      ⊎_elim (λ e. both e (closed_reach ws S g.closed (early u) (late u) c.1 e)) (λ l. both (closed_reach ws S g.closed (late u) (early u) c.0 l.0) l.0) (g.decided u h)
    where
      both : S (early u) → S (late u) → ⊥
      both e l = g.consistent (late u) l (rw (opposite_late u) e)

-- where all choices are decided: a rota that follows the set
module _ (n : ℕ) (ws : List ℕ) (B S : ℕ → Type 0) (g : Grown ws B S n) (range : InRange n ws) (r : List ℕ) (rota : Rota n r)
    (follows : Follows n S r) where
  -- it is allowed
  pub grown_allowed : Allowed n ws r
  grown_allowed = follows_allowed ws S g.closed n r range g.consistent rota follows

  -- the codes of the set are true in it
  pub grown_true : (c : ℕ) → c < 2 * n → S c → True r c
  grown_true c h i = ⊎_elim (λ t. t) (λ u. absurd (g.consistent c i (follows (opposite c) (opposite_below n c h) u))) (true_or_opposite n r rota c)

  -- a reason why u is late is one why it must be, or the base has it
  must_of : (u : ℕ) → u < n → Why ws B S u → Must ws r u ⊎ B (late u)
  must_of u h (inl p) = inl (inl p)
  must_of u h (inr (inl b)) = inr b
  must_of u h (inr (inr f)) = inl (inr (f.0, f.1, grown_true f.0 (omega (arith, f.1)) f.2, f.3))

  -- each late choice must be late, or the base has it so
  pub grown_must : (u : ℕ) → get_or r u 0 ≡ 1 → Must ws r u ⊎ B (late u)
  grown_must u e =
      ⊎_elim
      (λ h. ⊎_elim (λ i. absurd (omega (arith, true_early r u (grown_true (early u) (omega arith) i)))) (λ i. must_of u h i.1) (g.decided u h))
      (λ h. absurd (omega (arith, get_or-eq_default r 0 {n = u} (rw rota.long h))))
      (below_or_from u n)

  -- grown from nothing, it is the first allowed rota
  pub grown_first : ((d : ℕ) → B d → ⊥) → First n ws r
  grown_first none = first_by n ws r grown_allowed (λ u e. ⊎_elim (λ m. m) (λ b. absurd (none (late u) b)) (grown_must u e))

-- where reaching is decided and no choice clashes, the walk goes through
module _ (n : ℕ) (ws : List ℕ) (range : InRange n ws) (reach? : (c d : ℕ) → Dec (Reach ws c d)) (free : (v : ℕ) → v < n → Clash ws v → ⊥)
    (B : ℕ → Type 0) where
  -- an allowed rota in which the codes of B are true, and each late choice must be late or is in B
  unfoldable pub Made : Type 0
  Made = (r : List ℕ) × Allowed n ws r × ((c : ℕ) → c < 2 * n → B c → True r c) × ((u : ℕ) → get_or r u 0 ≡ 1 → Must ws r u ⊎ B (late u))

  -- a code that says what the set decides is in the set
  follow : (S : ℕ → Type 0) (c : ℕ) (d : Dec (S (late (choice_of c)))) → S (early (choice_of c)) ⊎ S (late (choice_of c)) → ite d 1 0 ≡ value_of c → S c
  follow S c (yes h) t e = subst S (omega arith) h
  follow S c (no h) (inl t) e = subst S (omega arith) t
  follow S c (no h) (inr t) e = absurd (h t)

  -- a set that decides all choices makes a rota
  make : (S : ℕ → Type 0) → ((c : ℕ) → Dec (S c)) → Grown ws B S n → Made
  unfolding Made
  make S has g = (r, grown_allowed n ws B S g range r rota follows, (λ c h b. grown_true n ws B S g range r rota follows c h (g.base c b)), grown_must n ws B S g range r rota follows)
    where
      f : ℕ → ℕ
      f v = ite (has (late v)) 1 0

      bit : {P : Type 0} (d : Dec P) → ite {C = ℕ} d 1 0 ≤ 1
      bit (yes h) = omega arith
      bit (no h) = omega arith

      r : List ℕ
      r = build n f

      rota : Rota n r
      rota = record { long = length_build n f; bits = build_le n f 1 (λ v. bit (has (late v))) }

      follows : Follows n S r
      follows c h t =
          let v = choice_of c in
          follow S c (has (late v)) (⊎_elim (λ i. inl i) (λ i. inr i.0) (g.decided v (choice_below n c h))) (sym (get_or_build n f v (choice_below n c h)) ∙ t)

  -- one choice more is decided, by a set that is decided too
  grow : (v : ℕ) (S : ℕ → Type 0) → v < n → ((c : ℕ) → Dec (S c)) → Grown ws B S v →
      ((S' : ℕ → Type 0) → ((c : ℕ) → Dec (S' c)) → Grown ws B S' (suc v) → Made) → Made
  grow v S h has g on = go (has (late v)) (reach? (early v) (late v))
    where
      has_with : (c d : ℕ) → Dec (With ws S c d)
      has_with c d = elim (has d) [ yes i ↦ yes (inl i) | no i ↦ elim (reach? c d) [ yes p ↦ yes (inr p) | no p ↦ no (⊎_elim i p) ] ]

      both : S (late v) → S (early v) → ⊥
      both l e = g.consistent (late v) l (rw (opposite_late v) e)

      go : Dec (S (late v)) → Dec (Reach ws (early v) (late v)) → Made
      go (yes l) p =
          on (With ws S (late v)) (has_with (late v))
          (grown_late ws B S v g (λ e. both l e) (λ q. both l (closed_reach ws S g.closed (late v) (early v) q l)) (inl l))
      go (no l) (yes p) =
          on (With ws S (late v)) (has_with (late v))
          (grown_late ws B S v g (λ e. l (closed_reach ws S g.closed (early v) (late v) p e)) (λ q. free v h (q, p)) (inr p))
      go (no l) (no p) = on (With ws S (early v)) (has_with (early v)) (grown_early ws B S v g l p)

  -- and so are the last k choices
  pub walk : (k v : ℕ) (S : ℕ → Type 0) → v + k ≡ n → ((c : ℕ) → Dec (S c)) → Grown ws B S v → Made
  walk zero v S e has g = make S has (subst (Grown ws B S) (omega arith) g)
  walk (suc k) v S e has g = grow v S (omega arith) has g (λ S' has' g'. walk k (suc v) S' (omega arith) has' g')

-- where reaching is decided and no choice clashes: there is a first allowed rota, and an allowed one for each code that does not lead to its opposite
module _ (n : ℕ) (ws : List ℕ) (range : InRange n ws) (reach? : (c d : ℕ) → Dec (Reach ws c d)) (free : (v : ℕ) → v < n → Clash ws v → ⊥) where
  -- the first rota
  pub first_exists : (r : List ℕ) × First n ws r
  unfolding Made
  first_exists =
      let w = walk n ws range reach? free (λ c. ⊥) n 0 (λ c. ⊥) (omega arith) (λ c. no (λ h. h)) (grown_start ws (λ c. ⊥) (λ a k b s h. h) (λ c h k. h)) in
      (w.0, first_by n ws w.0 w.1 (λ u e. ⊎_elim (λ m. m) (λ b. absurd b) (w.3 u e)))

  -- an allowed rota in which the code is true
  pub true_exists : (c : ℕ) → c < 2 * n → (Reach ws c (opposite c) → ⊥) → (r : List ℕ) × Allowed n ws r × True r c
  unfolding Made
  true_exists c h out =
      let w = walk n ws range reach? free (Reach ws c) n 0 (Reach ws c) (omega arith) (reach? c) (grown_start ws (Reach ws c) (reach_closed ws c) (reach_consistent ws c out)) in
      (w.0, w.1, w.2 c h (reach_refl ws c))
