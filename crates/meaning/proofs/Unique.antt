-- Two answers that the definitions allow are equal.
use mathlib.Core.Path.{◌≡◌, refl, sym, ◌∙◌}
use mathlib.Core.Logic.{⊎_elim}
use mathlib.Core.List.{List}
use Prim.Native.Nat.{ℕ, zero, suc}
use native.Mathlib.Omega.{arith}
use native.Mathlib.Nat.{le_antisymm}
use lib.ListN.{length}
use Rattle.meaning.specs.Chains.{LowestClash, Shortest, Tie}
use Rattle.meaning.specs.Order.{Before}
use Rattle.meaning.specs.Rotas.{Allowed, First, Next, Ended, Forced}
use Rattle.meaning.proofs.ChainLaws.{clash_impossible}
use Rattle.meaning.proofs.General.{compared}
use Rattle.meaning.proofs.OrderLaws.{ordered}

-- of two lists of one length, of which neither comes before the other
pub same_of_neither : (r s : List ℕ) → length r ≡ length s → (Before r s → ⊥) → (Before s r → ⊥) → r ≡ s
same_of_neither r s e p q = ⊎_elim (λ h. h) (⊎_elim (λ b. absurd (p b)) (λ b. absurd (q b))) (ordered r s e)

-- allowed rotas are of one length
pub same_length : (n : ℕ) (ws r s : List ℕ) → Allowed n ws r → Allowed n ws s → length r ≡ length s
same_length n ws r s p q = p.rota.long ∙ sym q.rota.long

-- the first rota
pub first_unique : (n : ℕ) (ws r s : List ℕ) → First n ws r → First n ws s → r ≡ s
first_unique n ws r s p q =
    same_of_neither r s (same_length n ws r s p.allowed q.allowed) (λ b. q.least r p.allowed b) (λ b. p.least s q.allowed b)

-- the next rota
pub next_unique : (n : ℕ) (ws r s t : List ℕ) → Next n ws r s → Next n ws r t → s ≡ t
next_unique n ws r s t p q =
    same_of_neither s t (same_length n ws s t p.allowed q.allowed) (λ b. q.least s p.allowed p.after b)
    (λ b. p.least t q.allowed q.after b)

-- a next rota, and none
pub next_not_ended : (n : ℕ) (ws r s : List ℕ) → Next n ws r s → Ended n ws r → ⊥
next_not_ended n ws r s p e = e s p.allowed p.after

-- the forced byte
pub forced_unique : (n : ℕ) (ws : List ℕ) (v x y : ℕ) (r : List ℕ) → Allowed n ws r → Forced n ws v x → Forced n ws v y → x ≡ y
forced_unique n ws v zero zero r ok p q = refl
forced_unique n ws v zero (suc zero) r ok p q = omega (arith, p r ok, q r ok)
forced_unique n ws v zero (suc (suc zero)) r ok p q = omega (arith, p q.1.0 q.1.1, q.1.2)
forced_unique n ws v zero (suc (suc (suc y))) r ok p q = absurd q
forced_unique n ws v (suc zero) zero r ok p q = omega (arith, p r ok, q r ok)
forced_unique n ws v (suc zero) (suc zero) r ok p q = refl
forced_unique n ws v (suc zero) (suc (suc zero)) r ok p q = omega (arith, p q.0.0 q.0.1, q.0.2)
forced_unique n ws v (suc zero) (suc (suc (suc y))) r ok p q = absurd q
forced_unique n ws v (suc (suc zero)) zero r ok p q = omega (arith, q p.1.0 p.1.1, p.1.2)
forced_unique n ws v (suc (suc zero)) (suc zero) r ok p q = omega (arith, q p.0.0 p.0.1, p.0.2)
forced_unique n ws v (suc (suc zero)) (suc (suc zero)) r ok p q = refl
forced_unique n ws v (suc (suc zero)) (suc (suc (suc y))) r ok p q = absurd q
forced_unique n ws v (suc (suc (suc x))) y r ok p q = absurd p

-- the shortest chain that is named
pub shortest_unique : (ws : List ℕ) (a b : ℕ) (ks js : List ℕ) → Shortest ws a b ks → Shortest ws a b js → ks ≡ js
shortest_unique ws a b ks js p q =
    let e : length ks ≡ length js = le_antisymm (p.short js q.chain) (q.short ks p.chain) in
    same_of_neither ks js e (λ h. q.least ks p.chain e h) (λ h. p.least js q.chain (sym e) h)

-- the lowest clash
pub lowest_unique : (ws : List ℕ) (u v : ℕ) → LowestClash ws u → LowestClash ws v → u ≡ v
lowest_unique ws u v p q =
    ⊎_elim (λ l. absurd (q.lowest u l p.clash)) (⊎_elim (λ e. e) (λ l. absurd (p.lowest v l q.clash))) (compared u v)

-- the tie
pub tie_unique : (ws : List ℕ) (v c d : ℕ) → Tie ws v c → Tie ws v d → c ≡ d
tie_unique ws v c d p q = le_antisymm (p.smallest d q.tied) (q.smallest c p.tied)

-- Possible and Impossible exclude each other
pub first_or_clash : (n : ℕ) (ws r : List ℕ) (v : ℕ) → First n ws r → LowestClash ws v → ⊥
first_or_clash n ws r v p q = clash_impossible n ws v q.clash r p.allowed
