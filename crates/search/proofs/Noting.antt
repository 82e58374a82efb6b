-- A note of code c is made: 1 where it does not lead to its opposite, 2 where it does. The state stays a state, and no other note changes.
use mathlib.Core.Path.{◌≡◌, refl, sym, ◌∙◌}
use mathlib.Core.Logic.{◌⊎◌, inl, inr, ⊎_elim}
use mathlib.Core.List.{List}
use Prim.Native.Nat.{ℕ, ◌*◌, ◌≤◌, ◌<◌}
use native.Mathlib.Omega.{arith}
use native.Mathlib.Decide.{ℕ_discrete}
use lib.ListN.{set}
use Rattle.meaning.specs.Chains.{Reach}
use Rattle.meaning.specs.Codes.{opposite}
use Rattle.moves.specs.Layout.{spare_at, spare, Tables, Spared}
use Rattle.moves.proofs.Places.{spare_stored, spare_elsewhere, spare_spared, tables}
use Rattle.moves.proofs.Trying.{holding_same, listed_spared}
use Rattle.search.specs.Search.{Taught}
use Rattle.search.specs.State.{State, Around}
use Rattle.search.proofs.Searching.{ready_around}

module _ (n : ℕ) (ws W : List ℕ) (t c f : ℕ) (lc : c < 2 * n) (state : State n ws W t)
    (is : ((f ≡ 1) × (Reach ws c (opposite c) → ⊥)) ⊎ ((f ≡ 2) × Reach ws c (opposite c))) where
  abbrev W' : List ℕ
  W' = set W (spare_at n c) f

  fits : Tables n W
  fits = tables state.ready.sizes

  pub noted_here : spare n W' c ≡ f
  noted_here = spare_stored n W c f lc fits

  pub noted_spared : Spared n W W'
  noted_spared = spare_spared n W c f lc fits

  pub noted_around : Around n W W'
  noted_around = record { long = noted_spared.long; heads = noted_spared.heads; nexts = noted_spared.nexts }

  -- of a word of the table: it is c's, or it is as it was
  abbrev Either : ℕ → Type 0
  Either x = ((x ≡ c) × (spare n W' x ≡ f)) ⊎ (spare n W' x ≡ spare n W x)

  pub either : (x : ℕ) → Either x
  either x = elim (ℕ_discrete x c) [ yes e ↦ inl (e, rw e noted_here) | no e ↦ inr (spare_elsewhere n W c f lc fits x e) ]

  note_low : (x : ℕ) → x < 2 * n → Either x → spare n W' x ≤ 2
  note_low x l (inl e) = ⊎_elim (λ i. omega (arith, i.0)) (λ i. omega (arith, i.0)) is
  note_low x l (inr e) = omega (arith, state.known.low x l)

  note_turns : (x : ℕ) → x < 2 * n → spare n W' x ≡ 2 → Either x → Reach ws x (opposite x)
  note_turns x l q (inl e) = ⊎_elim (λ i. absurd (omega (arith, i.0))) (λ i. rw e.0 i.1) is
  note_turns x l q (inr e) = state.known.turns x l (sym e ∙ q)

  note_frees : (x : ℕ) → x < 2 * n → spare n W' x ≡ 1 → Either x → Reach ws x (opposite x) → ⊥
  note_frees x l q (inl e) p = ⊎_elim (λ i. i.1 (rw e.0 at p)) (λ i. omega (arith, i.0)) is
  note_frees x l q (inr e) p = state.known.frees x l (sym e ∙ q) p

  note_stays : (x : ℕ) → 0 < spare n W x → Either x → 0 < spare n W' x
  note_stays x h (inl e) = ⊎_elim (λ i. omega (arith, i.0)) (λ i. omega (arith, i.0)) is
  note_stays x h (inr e) = omega arith

  pub noted_keeps : (x : ℕ) → x < 2 * n → 0 < spare n W x → 0 < spare n W' x
  noted_keeps x l h = note_stays x h (either x)

  pub noted_state : State n ws W' t
  noted_state =
      record {
        ready = ready_around state.ready noted_around;
        holding = holding_same {W = W} noted_spared.marks (listed_spared noted_spared state.holding.listed) state.holding;
        known = record { low = λ x l. note_low x l (either x); frees = λ x l q. note_frees x l q (either x); turns = λ x l q. note_turns x l q (either x) };
      }

-- a failure is noted
pub taught_noted : {n : ℕ} {ws W W₁ : List ℕ} {t c : ℕ} → State n ws W t → c < 2 * n → Reach ws c (opposite c) → W₁ ≡ set W (spare_at n c) 2 → Taught n ws c t W W₁
taught_noted {n} {ws} {W} {W₁} {t} {c} s l p e =
    rw e (record {
      around = noted_around n ws W t c 2 l s (inr (refl, p));
      here = noted_here n ws W t c 2 l s (inr (refl, p));
      state = noted_state n ws W t c 2 l s (inr (refl, p));
      marks = (noted_spared n ws W t c 2 l s (inr (refl, p))).marks;
      spares = λ x m. ⊎_elim (λ i. inr i.1) (λ i. inl i) (either n ws W t c 2 l s (inr (refl, p)) x);
    })
