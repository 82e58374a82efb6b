-- The definitions over rotas are decided by tests that compute: what the marked table is proved by.
use mathlib.Core.Path.{◌≡◌, refl, sym, ap, subst}
use mathlib.Core.Logic.{◌⊎◌, inl, inr, ⊎_elim}
use mathlib.Core.List.{List, [], ◌∷◌}
use Prim.Native.Nat.{ℕ, zero, suc, ◌≤◌, ◌<◌}
use native.Mathlib.Omega.{arith}
use native.Mathlib.Decide.{ℕ_discrete, dec_le, dec_lt}
use lib.ListN.{length, get_or}
use Rattle.meaning.specs.Chains.{Step, Chain, LowestClash, Shortest, Tied, Tie}
use Rattle.meaning.specs.Codes.{late, opposite, choice_of, value_of}
use Rattle.meaning.specs.Order.{Before}
use Rattle.meaning.specs.Rotas.{Rota, Allowed, First, Next, Ended, Always, Sometimes, Forced}
use Rattle.meaning.specs.Rules.{rules, left, right}
use Rattle.meaning.proofs.General.{below_or_from, below_suc, last_or_below}
use Rattle.meaning.proofs.OrderLaws.{before_uncons, before_nil, before_join, before_pad, before_unpad}
use Rattle.meaning.proofs.Reaching.{reach?}
use Rattle.meaning.proofs.TwoSat.{clash?}

-- a test passes
abbrev pub IsYes : {P : Type 0} → Dec P → Type 0
IsYes (yes p) = Unit {0}
IsYes (no p) = ⊥

-- what a test that passes has shown
pub shown : {P : Type 0} (d : Dec P) → IsYes d → P
shown (yes p) t = p
shown (no p) t = absurd t

module _ {A B : Type 0} where
  -- a test of what is equivalent, of one of two, of both, of what follows from another
  abbrev pub map? : (A → B) → (B → A) → Dec A → Dec B
  map? f g (yes a) = yes (f a)
  map? f g (no a) = no (λ b. a (g b))

  abbrev pub or? : Dec A → Dec B → Dec (A ⊎ B)
  or? (yes a) b = yes (inl a)
  or? (no a) (yes b) = yes (inr b)
  or? (no a) (no b) = no (⊎_elim a b)

  abbrev pub and? : Dec A → Dec B → Dec (A × B)
  and? (yes a) (yes b) = yes (a, b)
  and? (yes a) (no b) = no (λ p. b p.1)
  and? (no a) b = no (λ p. a p.0)

  abbrev pub imp? : Dec A → Dec B → Dec (A → B)
  imp? (yes a) (yes b) = yes (λ h. b)
  imp? (yes a) (no b) = no (λ f. b (f a))
  imp? (no a) b = yes (λ h. absurd (a h))

-- and of what does not hold
abbrev pub not? : {A : Type 0} → Dec A → Dec (A → ⊥)
not? (yes a) = no (λ f. f a)
not? (no a) = yes a

-- of each number below m
abbrev pub below? : {P : ℕ → Type 0} (m : ℕ) → ((k : ℕ) → Dec (P k)) → Dec ((k : ℕ) → k < m → P k)
below? zero d = yes (λ k h. absurd (omega arith))
below? {P} (suc m) d =
    map? (λ p. below_suc {P = P} m p.0 p.1) (λ f. ((λ k h. f k (omega arith)), f m (omega arith))) (and? (below? m d) (d m))

-- of some number below m
abbrev pub somewhere? : (P : ℕ → Type 0) (m : ℕ) → ((k : ℕ) → Dec (P k)) → Dec ((k : ℕ) × (k < m) × P k)
somewhere? P zero d = no (λ p. omega (arith, p.1))
somewhere? P (suc m) d =
    map? (⊎_elim (λ p. (p.0, omega (arith, p.1), p.2)) (λ p. (m, omega arith, p))) (λ p. last_or_below P m p.0 p.1 p.2) (or? (somewhere? P m d) (d m))

-- of each rota of n choices
pub tail_rota : (n x : ℕ) (r : List ℕ) → Rota (suc n) (x ∷ r) → Rota n r
tail_rota n x r h = record { long = omega (arith, h.long); bits = λ v. h.bits (suc v) }

-- a value in front
pub cons_bits : (x : ℕ) (r : List ℕ) → x ≤ 1 → ((v : ℕ) → get_or r v 0 ≤ 1) → (v : ℕ) → get_or (x ∷ r) v 0 ≤ 1
cons_bits x r h p zero = h
cons_bits x r h p (suc v) = p v

-- a rota with a value in front
pub cons_rota : (n x : ℕ) (r : List ℕ) → x ≤ 1 → Rota n r → Rota (suc n) (x ∷ r)
cons_rota n x r h p = record { long = ap suc p.long; bits = cons_bits x r h p.bits }

-- the empty rota
pub nil_rota : Rota 0 []
nil_rota = record { long = refl; bits = λ v. omega arith }

module _ (P : List ℕ → Type 0) where
  -- all rotas of no choices
  pub all_nil : P [] → (r : List ℕ) → Rota 0 r → P r
  all_nil p [] h = p
  all_nil p (x ∷ r) h = absurd (omega (arith, h.long))

  -- all rotas of one choice more
  pub all_cons : (n : ℕ) → ((r : List ℕ) → Rota n r → P (0 ∷ r)) → ((r : List ℕ) → Rota n r → P (1 ∷ r)) → (r : List ℕ) → Rota (suc n) r → P r
  all_cons n p q [] h = absurd (omega (arith, h.long))
  all_cons n p q (zero ∷ r) h = p r (tail_rota n 0 r h)
  all_cons n p q (suc zero ∷ r) h = q r (tail_rota n 1 r h)
  all_cons n p q (suc (suc x) ∷ r) h = absurd (omega (arith, h.bits 0))

-- whether all rotas have P
abbrev pub rotas? : (P : List ℕ → Type 0) (n : ℕ) → ((r : List ℕ) → Dec (P r)) → Dec ((r : List ℕ) → Rota n r → P r)
rotas? P zero d = map? (all_nil P) (λ f. f [] nil_rota) (d [])
rotas? P (suc n) d =
    map? (λ p. all_cons P n p.0 p.1) (λ f. ((λ r h. f (0 ∷ r) (cons_rota n 0 r (omega arith) h)), (λ r h. f (1 ∷ r) (cons_rota n 1 r (omega arith) h))))
    (and? (rotas? (λ r. P (0 ∷ r)) n (λ r. d (0 ∷ r))) (rotas? (λ r. P (1 ∷ r)) n (λ r. d (1 ∷ r))))

-- whether a list is a rota, and an allowed one
abbrev pub bits? : (r : List ℕ) → Dec ((v : ℕ) → get_or r v 0 ≤ 1)
bits? [] = yes (λ v. omega arith)
bits? (x ∷ r) = map? (λ p. cons_bits x r p.0 p.1) (λ f. (f 0, (λ v. f (suc v)))) (and? (dec_le x 1) (bits? r))

module _ (n : ℕ) (ws : List ℕ) where
  -- whether it is allowed
  abbrev pub allowed? : (r : List ℕ) → Dec (Allowed n ws r)
  allowed? r =
      map? (λ p. record { rota = record { long = p.0.0; bits = p.0.1 }; met = p.1 }) (λ a. ((a.rota.long, a.rota.bits), a.met))
      (and? (and? (ℕ_discrete (length r) n) (bits? r))
      (below? (rules ws) (λ k.
      or? (ℕ_discrete (get_or r (choice_of (left ws k)) 0) (value_of (left ws k))) (ℕ_discrete (get_or r (choice_of (right ws k)) 0) (value_of (right ws k))))))

  -- of each allowed rota
  abbrev pub each? : (P : List ℕ → Type 0) → ((r : List ℕ) → Dec (P r)) → Dec ((r : List ℕ) → Allowed n ws r → P r)
  each? P d = map? (λ f r a. f r a.rota a) (λ f r h a. f r a) (rotas? (λ r. Allowed n ws r → P r) n (λ r. imp? (allowed? r) (d r)))

-- dictionary order: what is read past the end is 0
abbrev pub before? : (r s : List ℕ) → Dec (Before r s)
before? [] [] = no (before_nil [])
before? (x ∷ r) [] = no (before_nil (x ∷ r))
before? [] (y ∷ s) = map? (before_pad y s) (before_unpad y s) (or? (dec_lt 0 y) (and? (ℕ_discrete 0 y) (before? [] s)))
before? (x ∷ r) (y ∷ s) = map? (before_join x r y s) (before_uncons x r y s) (or? (dec_lt x y) (and? (ℕ_discrete x y) (before? r s)))

module _ (n : ℕ) (ws : List ℕ) where
  -- whether it is the first, the next, the last, and whether all allowed rotas have a value
  abbrev pub first? : (r : List ℕ) → Dec (First n ws r)
  first? r =
      map? (λ p. record { allowed = p.0; least = p.1 }) (λ f. (f.allowed, f.least))
      (and? (allowed? n ws r) (each? n ws (λ s. Before s r → ⊥) (λ s. not? (before? s r))))

  abbrev pub next? : (r s : List ℕ) → Dec (Next n ws r s)
  next? r s =
      map? (λ p. record { allowed = p.0; after = p.1.0; least = p.1.1 }) (λ f. (f.allowed, (f.after, f.least)))
      (and? (allowed? n ws s) (and? (before? r s) (each? n ws (λ t. Before r t → Before t s → ⊥) (λ t. imp? (before? r t) (not? (before? t s))))))

  abbrev pub ended? : (r : List ℕ) → Dec (Ended n ws r)
  ended? r = each? n ws (λ t. Before r t → ⊥) (λ t. not? (before? r t))

  abbrev pub always? : (v x : ℕ) → Dec (Always n ws v x)
  always? v x = each? n ws (λ r. get_or r v 0 ≡ x) (λ r. ℕ_discrete (get_or r v 0) x)

-- of some rota of n choices
module _ (P : List ℕ → Type 0) where
  -- of no choices
  pub some_nil : ((r : List ℕ) × Rota 0 r × P r) → P []
  some_nil p = all_nil (λ r. P r → P []) (λ q. q) p.0 p.1 p.2

  -- one that begins with 0 or with 1
  abbrev pub SomeCons : ℕ → Type 0
  SomeCons n = ((r : List ℕ) × Rota n r × P (0 ∷ r)) ⊎ ((r : List ℕ) × Rota n r × P (1 ∷ r))

  -- is one of one choice more
  pub some_cons : (n : ℕ) → ((r : List ℕ) × Rota (suc n) r × P r) → SomeCons n
  some_cons n p = all_cons (λ r. P r → SomeCons n) n (λ r h q. inl (r, h, q)) (λ r h q. inr (r, h, q)) p.0 p.1 p.2

  -- and the other way round
  pub some_uncons : (n : ℕ) → SomeCons n → (r : List ℕ) × Rota (suc n) r × P r
  some_uncons n (inl p) = (0 ∷ p.0, cons_rota n 0 p.0 (omega arith) p.1, p.2)
  some_uncons n (inr p) = (1 ∷ p.0, cons_rota n 1 p.0 (omega arith) p.1, p.2)

-- whether some rota has P
abbrev pub some? : (P : List ℕ → Type 0) (n : ℕ) → ((r : List ℕ) → Dec (P r)) → Dec ((r : List ℕ) × Rota n r × P r)
some? P zero d = map? (λ p. ([], nil_rota, p)) (some_nil P) (d [])
some? P (suc n) d = map? (some_uncons P n) (some_cons P n) (or? (some? (λ r. P (0 ∷ r)) n (λ r. d (0 ∷ r))) (some? (λ r. P (1 ∷ r)) n (λ r. d (1 ∷ r))))

module _ (n : ℕ) (ws : List ℕ) where
  -- whether some allowed rota has a value, and whether a byte is the forced one
  abbrev pub sometimes? : (v x : ℕ) → Dec (Sometimes n ws v x)
  sometimes? v x =
      map? (λ p. (p.0, p.2.0, p.2.1)) (λ p. (p.0, p.1.rota, (p.1, p.2)))
      (some? (λ r. Allowed n ws r × (get_or r v 0 ≡ x)) n (λ r. and? (allowed? n ws r) (ℕ_discrete (get_or r v 0) x)))

  abbrev pub forced? : (v x : ℕ) → Dec (Forced n ws v x)
  forced? v zero = always? n ws v 0
  forced? v (suc zero) = always? n ws v 1
  forced? v (suc (suc zero)) = and? (sometimes? v 0) (sometimes? v 1)
  forced? v (suc (suc (suc x))) = no (λ h. h)

-- chains to b
module _ (ws : List ℕ) (b : ℕ) where
  -- what rule k makes of code a has P
  abbrev pub Begins : ℕ → ℕ → (ℕ → Type 0) → Type 0
  Begins a k P = (k < rules ws) × (((left ws k ≡ opposite a) × P (right ws k)) ⊎ ((right ws k ≡ opposite a) × P (left ws k)))

  -- that is a step
  pub begins_step : (a k : ℕ) (P : ℕ → Type 0) → Begins a k P → (c : ℕ) × Step ws a k c × P c
  begins_step a k P p =
      ⊎_elim (λ h. (right ws k, record { is_rule = p.0; leads = inl (h.0, refl) }, h.1))
      (λ h. (left ws k, record { is_rule = p.0; leads = inr (h.0, refl) }, h.1)) p.1

  -- and the other way round
  pub step_begins : (a k : ℕ) (P : ℕ → Type 0) → ((c : ℕ) × Step ws a k c × P c) → Begins a k P
  step_begins a k P p =
      (p.1.is_rule, ⊎_elim (λ h. inl (h.0, subst P (sym h.1) p.2)) (λ h. inr (h.0, subst P (sym h.1) p.2)) p.1.leads)

  -- whether it has
  abbrev pub begins? : (a k : ℕ) {P : ℕ → Type 0} → ((c : ℕ) → Dec (P c)) → Dec (Begins a k P)
  begins? a k d =
      and? (dec_lt k (rules ws))
      (or? (and? (ℕ_discrete (left ws k) (opposite a)) (d (right ws k))) (and? (ℕ_discrete (right ws k) (opposite a)) (d (left ws k))))

  -- whether a list is a chain
  abbrev pub chain? : (a : ℕ) (ks : List ℕ) → Dec (Chain ws a ks b)
  chain? a [] = ℕ_discrete a b
  chain? a (k ∷ ks) = map? (begins_step a k (λ c. Chain ws c ks b)) (step_begins a k (λ c. Chain ws c ks b)) (begins? a k (λ c. chain? c ks))

  -- each chain of l rules from a has P
  abbrev pub Each : (List ℕ → Type 0) → ℕ → ℕ → Type 0
  Each P l a = (ks : List ℕ) → length ks ≡ l → Chain ws a ks b → P ks

  -- rule k at its front
  abbrev pub Fronts : (List ℕ → Type 0) → ℕ → ℕ → ℕ → Type 0
  Fronts P l a k = (left ws k ≡ opposite a → Each (λ ks. P (k ∷ ks)) l (right ws k)) × (right ws k ≡ opposite a → Each (λ ks. P (k ∷ ks)) l (left ws k))

  -- chains of no rules
  pub each_nil : (P : List ℕ → Type 0) (a : ℕ) → (a ≡ b → P []) → Each P 0 a
  each_nil P a f [] e p = f p
  each_nil P a f (k ∷ ks) e p = absurd (omega arith)

  -- of one rule more
  pub each_cons : (P : List ℕ → Type 0) (l a : ℕ) → ((k : ℕ) → k < rules ws → Fronts P l a k) → Each P (suc l) a
  each_cons P l a f [] e p = absurd (omega arith)
  each_cons P l a f (k ∷ ks) e p =
      ⊎_elim (λ h. (f k p.1.is_rule).0 h.0 ks (omega arith) (rw h.1 p.2))
      (λ h. (f k p.1.is_rule).1 h.0 ks (omega arith) (rw h.1 p.2)) p.1.leads

  -- and the other way round
  pub each_uncons : (P : List ℕ → Type 0) (l a : ℕ) → Each P (suc l) a → (k : ℕ) → k < rules ws → Fronts P l a k
  each_uncons P l a f k h = (
    (λ e ks q p. f (k ∷ ks) (ap suc q) (right ws k, record { is_rule = h; leads = inl (e, refl) }, p)),
    (λ e ks q p. f (k ∷ ks) (ap suc q) (left ws k, record { is_rule = h; leads = inr (e, refl) }, p)),
  )

  -- whether each of them has P
  abbrev pub chains? : (P : List ℕ → Type 0) (l a : ℕ) → ((ks : List ℕ) → Dec (P ks)) → Dec (Each P l a)
  chains? P zero a d = map? (each_nil P a) (λ f e. f [] refl e) (imp? (ℕ_discrete a b) (d []))
  chains? P (suc l) a d =
      map? (each_cons P l a) (each_uncons P l a)
      (below? (rules ws) (λ k.
      and? (imp? (ℕ_discrete (left ws k) (opposite a)) (chains? (λ ks. P (k ∷ ks)) l (right ws k) (λ ks. d (k ∷ ks))))
      (imp? (ℕ_discrete (right ws k) (opposite a)) (chains? (λ ks. P (k ∷ ks)) l (left ws k) (λ ks. d (k ∷ ks))))))

  -- no chain of fewer rules: no shorter one
  pub short_of : (a l : ℕ) → ((j : ℕ) → j < l → Each (λ ks. ⊥) j a) → (js : List ℕ) → Chain ws a js b → l ≤ length js
  short_of a l f js p = ⊎_elim (λ h. absurd (f (length js) h js refl p)) (λ h. h) (below_or_from (length js) l)

  -- and the other way round
  pub of_short : (a l : ℕ) → ((js : List ℕ) → Chain ws a js b → l ≤ length js) → (j : ℕ) → j < l → Each (λ ks. ⊥) j a
  of_short a l f j h ks e p = omega (arith, f ks p)

  -- whether a chain is the one that is named
  abbrev pub shortest? : (a : ℕ) (ks : List ℕ) → Dec (Shortest ws a b ks)
  shortest? a ks =
      map? (λ p. record { chain = p.0; short = short_of a (length ks) p.1.0; least = λ js c e. p.1.1 js e c })
      (λ s. (s.chain, (of_short a (length ks) s.short, (λ js e c. s.least js c e))))
      (and? (chain? a ks)
      (and? (below? (length ks) (λ j. chains? (λ js. ⊥) j a (λ js. no (λ h. h)))) (chains? (λ js. Before js ks → ⊥) (length ks) a (λ js. not? (before? js ks)))))

module _ (ws : List ℕ) where
  -- whether a choice is the lowest that clashes
  abbrev pub lowest? : (v : ℕ) → Dec (LowestClash ws v)
  lowest? v =
      map? (λ p. record { clash = p.0; lowest = p.1 }) (λ l. (l.clash, l.lowest)) (and? (clash? ws v) (below? v (λ u. not? (clash? ws u))))

  -- whether two codes are tied
  abbrev pub tied? : (a c : ℕ) → Dec (Tied ws a c)
  tied? a c = and? (reach? ws a c) (reach? ws c a)

  -- none below c is tied: c is the smallest
  pub smallest_of : (v c : ℕ) → ((d : ℕ) → d < c → Tied ws (late v) d → ⊥) → (d : ℕ) → Tied ws (late v) d → c ≤ d
  smallest_of v c f d t = ⊎_elim (λ h. absurd (f d h t)) (λ h. h) (below_or_from d c)

  -- and the other way round
  pub of_smallest : (v c : ℕ) → ((d : ℕ) → Tied ws (late v) d → c ≤ d) → (d : ℕ) → d < c → Tied ws (late v) d → ⊥
  of_smallest v c f d h t = omega (arith, f d t)

  -- whether a code is the tie
  abbrev pub tie? : (v c : ℕ) → Dec (Tie ws v c)
  tie? v c =
      map? (λ p. record { tied = p.0; smallest = smallest_of v c p.1 }) (λ t. (t.tied, of_smallest v c t.smallest))
      (and? (tied? (late v) c) (below? c (λ d. not? (tied? (late v) d))))
