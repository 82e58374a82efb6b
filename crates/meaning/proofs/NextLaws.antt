-- The next rota: the last choice that can be raised from early to late with all before it kept, and after it early where it can be.
use mathlib.Core.Path.{◌≡◌, refl, sym, ◌∙◌, subst}
use mathlib.Core.Logic.{◌⊎◌, inl, inr, ⊎_elim}
use mathlib.Core.List.{List}
use Prim.Native.Nat.{ℕ, zero, suc, ◌+◌, ◌-◌, ◌*◌, ◌≤◌, ◌<◌}
use native.Mathlib.Omega.{arith}
use native.Mathlib.Decide.{ℕ_discrete, dec_lt}
use lib.ListN.{get_or, get_or-eq_default}
use Rattle.meaning.specs.Chains.{Reach, Clash}
use Rattle.meaning.specs.Codes.{late, early, opposite, choice_of, value_of}
use Rattle.meaning.specs.Rotas.{True, Rota, Allowed, Next, Ended}
use Rattle.meaning.specs.Rules.{InRange}
use Rattle.meaning.proofs.ChainLaws.{reach_refl, never_both, true_late, true_early, late_true, early_true, reach_sound}
use Rattle.meaning.proofs.Firsts.{Agree, Must, next_by}
use Rattle.meaning.proofs.General.{below_or_from, below_suc}
use Rattle.meaning.proofs.Growing.{Grown, grown_at, Made, walk}
use Rattle.meaning.proofs.Reaching.{reach?}
use Rattle.meaning.proofs.Sets.{Spread, spread_closed, spread_consistent}
use Rattle.meaning.proofs.Tests.{map?, or?, and?, somewhere?}

-- what is kept of r where choice j is raised: the codes of the choices before j that are true in r, and late j
abbrev pub Kept : List ℕ → ℕ → ℕ → Type 0
Kept r j c = ((choice_of c < j) × True r c) ⊎ (c ≡ late j)

-- choice j cannot be raised: one of the codes kept leads to the opposite of another
abbrev pub Stuck : List ℕ → List ℕ → ℕ → Type 0
Stuck ws r j = (c : ℕ) × (d : ℕ) × Kept r j c × Kept r j d × Reach ws c (opposite d)

module _ (n : ℕ) (ws r : List ℕ) where
  -- the codes kept are true in a rota that agrees with r before j and has j late
  pub kept_true : (j : ℕ) (t : List ℕ) → Agree j r t → get_or t j 0 ≡ 1 → (c : ℕ) → Kept r j c → True t c
  kept_true j t same one c (inl h) = sym (same (choice_of c) h.0) ∙ h.1
  kept_true j t same one c (inr e) = rw e (late_true t j one)

  -- no allowed rota that agrees with r before j is above r at j
  abbrev pub NoneAt : ℕ → Type 0
  NoneAt j = (t : List ℕ) → Allowed n ws t → Agree j r t → get_or r j 0 < get_or t j 0 → ⊥

  -- because the choice cannot be raised
  pub stuck_none : (j : ℕ) → Stuck ws r j → NoneAt j
  stuck_none j s t ok same l =
      let kept : (c : ℕ) → Kept r j c → True t c = kept_true j t same (omega (arith, l, ok.rota.bits j)) in
      never_both t s.1 (kept s.1 s.3) (reach_sound n ws t ok s.0 (opposite s.1) s.4 (kept s.0 s.2))

  -- because it is late already
  pub late_none : (j : ℕ) → get_or r j 0 ≡ 1 → NoneAt j
  late_none j e t ok same l = omega (arith, l, ok.rota.bits j)

  -- because there is no such choice
  pub past_none : (j : ℕ) → n ≤ j → NoneAt j
  past_none j h t ok same l = omega (arith, l, get_or-eq_default t 0 {n = j} (rw ok.rota.long h))

  -- none past any place: the rotas have ended
  pub none_ended : ((j : ℕ) → NoneAt j) → Ended n ws r
  none_ended none t ok b = none b.at t ok b.same b.less

  -- the set that all choices up to j start from
  module _ (rota : Rota n r) (j : ℕ) where
    -- all that the codes kept lead to
    abbrev Base : ℕ → Type 0
    Base d = Spread ws (Kept r j) d

    -- it has early u where r has u early, before j
    base_early : (u : ℕ) → u < j → get_or r u 0 ≡ 0 → Base (early u)
    base_early u h e = (early u, inl (omega arith, early_true r u e), reach_refl ws (early u))

    -- and late u where r has u late
    base_late : (u : ℕ) → u < j → get_or r u 0 ≡ 1 → Base (late u)
    base_late u h e = (late u, inl (omega arith, late_true r u e), reach_refl ws (late u))

    -- a value is 0 or 1
    early_or_late : (u : ℕ) → (get_or r u 0 ≡ 0) ⊎ (get_or r u 0 ≡ 1)
    early_or_late u = elim (ℕ_discrete (get_or r u 0) 0) [ yes e ↦ inl e | no e ↦ inr (omega (arith, rota.bits u)) ]

    -- it is consistent where j can be raised
    pub kept_grown : (Stuck ws r j → ⊥) → Grown ws Base Base (suc j)
    kept_grown free =
        grown_at ws Base (suc j) (spread_closed ws (Kept r j)) (spread_consistent ws (Kept r j) (λ c d p q h. free (c, d, p, q, h)))
        (below_suc {P = λ u. Base (early u) ⊎ Base (late u)} j
        (λ u h. ⊎_elim (λ e. inl (base_early u h e)) (λ e. inr (base_late u h e)) (early_or_late u))
        (inr (late j, inr refl, reach_refl ws (late j))))

    -- an allowed rota that was made from there is the next one, where nothing past j can be raised
    pub made_next : get_or r j 0 ≡ 0 → j < n → ((i : ℕ) → j < i → NoneAt i) → (s : List ℕ) → Allowed n ws s →
        ((c : ℕ) → c < 2 * n → Base c → True s c) → ((u : ℕ) → get_or s u 0 ≡ 1 → Must ws s u ⊎ Base (late u)) → Next n ws r s
    made_next low h none s ok base musts = next_by n ws r s rota ok (record { at = j; same = agree; less = less }) past none
      where
        agree : Agree j r s
        agree u l =
            ⊎_elim (λ e. e ∙ sym (true_early s u (base (early u) (omega arith) (base_early u l e))))
            (λ e. e ∙ sym (true_late s u (base (late u) (omega arith) (base_late u l e)))) (early_or_late u)

        less : get_or r j 0 < get_or s j 0
        less = omega (arith, low, true_late s j (base (late j) (omega arith) (late j, inr refl, reach_refl ws (late j))))

        before : (i c : ℕ) → j < i → Kept r j c → choice_of c < i
        before i c l (inl k) = omega (arith, k.0)
        before i c l (inr e) = omega arith

        past : (i : ℕ) → j < i → get_or s i 0 ≡ 1 → Must ws s i
        past i l e =
            ⊎_elim (λ m. m)
            (λ b. inr (b.0, before i b.0 l b.1, base b.0 (omega (arith, before (suc j) b.0 (omega arith) b.1)) (b.0, b.1, reach_refl ws b.0), b.2))
            (musts i e)

    -- whether a code is kept
    kept? : (c : ℕ) → Dec (Kept r j c)
    kept? c = or? (and? (dec_lt (choice_of c) j) (ℕ_discrete (get_or r (choice_of c) 0) (value_of c))) (ℕ_discrete c (late j))

    -- the codes kept are those of the first choices
    kept_below : (c : ℕ) → Kept r j c → c < 2 * suc j
    kept_below c (inl k) = omega (arith, k.0)
    kept_below c (inr e) = omega arith

    -- whether the base has a code
    base? : (d : ℕ) → Dec (Base d)
    base? d =
        map? (λ p. (p.0, p.2.0, p.2.1)) (λ p. (p.0, kept_below p.0 p.1, (p.1, p.2)))
        (somewhere? (λ c. Kept r j c × Reach ws c d) (2 * suc j) (λ c. and? (kept? c) (reach? ws c d)))

    -- whether choice j cannot be raised
    stuck? : Dec (Stuck ws r j)
    stuck? =
        map? (λ p. (p.2.1.0, p.0, p.2.1.1, p.2.0, p.2.1.2)) (λ p. (p.1, kept_below p.1 p.3, (p.3, (p.0, p.2, p.4))))
        (somewhere? (λ d. Kept r j d × Base (opposite d)) (2 * suc j) (λ d. and? (kept? d) (base? (opposite d))))

  module _ (range : InRange n ws) (rota : Rota n r) (possible : (v : ℕ) → v < n → Clash ws v → ⊥) where
    -- raised at j, the next rota
    raised : (j : ℕ) → j < n → ((i : ℕ) → j < i → NoneAt i) → get_or r j 0 ≡ 0 → (Stuck ws r j → ⊥) → (s : List ℕ) × Next n ws r s
    unfolding Made
    raised j h none e free =
        let k : (k : ℕ) × (suc j + k ≡ n) = (n - suc j, omega arith) in
        let w = walk n ws range (reach? ws) possible (Base rota j) k.0 (suc j) (Base rota j) k.1 (base? rota j) (kept_grown rota j free) in
        (w.0, made_next rota j e h none w.0 w.1 w.2 w.3)

    -- at j there is the next rota, or none
    at : (j : ℕ) → j < n → ((i : ℕ) → j < i → NoneAt i) → ((s : List ℕ) × Next n ws r s) ⊎ NoneAt j
    at j h none = go (early_or_late rota j j) (stuck? rota j)
      where
        go : (get_or r j 0 ≡ 0) ⊎ (get_or r j 0 ≡ 1) → Dec (Stuck ws r j) → ((s : List ℕ) × Next n ws r s) ⊎ NoneAt j
        go (inr e) d = inr (late_none j e)
        go (inl e) (yes s) = inr (stuck_none j s)
        go (inl e) (no free) = inl (raised j h none e free)

    -- so from the last choice down
    down : (k : ℕ) → k ≤ n → ((i : ℕ) → k ≤ i → NoneAt i) → ((s : List ℕ) × Next n ws r s) ⊎ Ended n ws r
    down zero h none = inr (none_ended (λ j. none j (omega arith)))
    down (suc j) h none = go (down j (omega arith)) (at j h none)
      where
        go : (((i : ℕ) → j ≤ i → NoneAt i) → ((s : List ℕ) × Next n ws r s) ⊎ Ended n ws r) → ((s : List ℕ) × Next n ws r s) ⊎ NoneAt j →
            ((s : List ℕ) × Next n ws r s) ⊎ Ended n ws r
        go rec (inl s) = inl s
        go rec (inr here) = rec (λ i l. ⊎_elim (λ m. none i m) (λ m. subst NoneAt (omega arith) here) (below_or_from j i))

    -- there is a next rota, or the rotas have ended
    pub next_or_ended : ((s : List ℕ) × Next n ws r s) ⊎ Ended n ws r
    next_or_ended = down n (omega arith) past_none
