-- What the functions promise fixes what they answer: two outcomes coincide, but for the trail, which is of no use any more.
use mathlib.Core.Path.{◌≡◌, sym, ap, ◌∙◌}
use mathlib.Core.Logic.{⊎_elim}
use mathlib.Core.List.{List}
use Prim.Native.Nat.{ℕ}
use lib.ListN.{length}
use Rattle.meaning.specs.Codes.{opposite}
use Rattle.meaning.specs.Sizes.{over}
use Rattle.moves.specs.Area.{Area}
use Rattle.chains.specs.Traces.{LowestTo, Traced, Chained}
use Rattle.meaning.proofs.General.{compared}
use Rattle.meaning.proofs.Unique.{shortest_unique}

-- the chain's length and the area
pub traced_once : {ws : List ℕ} {c : ℕ} {area area₁ area₂ : List ℕ} {r s : ℕ} → Traced ws c area area₁ r → Traced ws c area area₂ s → (r ≡ s) × (area₁ ≡ area₂)
traced_once {ws} {c} {area} p q =
    let e : p.chain ≡ q.chain = shortest_unique ws c (opposite c) p.chain q.chain p.shortest q.shortest in
    (p.counted ∙ ap length e ∙ sym q.counted, p.written ∙ ap (λ (ks : List ℕ). over ks area) e ∙ sym q.written)

-- so those of `chain`
pub chain_once : {a b d : Area} {c : ℕ} {area area₁ area₂ : List ℕ} {r s : ℕ} → Chained a c b area area₁ r → Chained a c d area area₂ s → (r ≡ s) × (area₁ ≡ area₂)
chain_once p q = traced_once p.traced q.traced

-- the lowest rule
pub lowest_once : {n : ℕ} {ws W : List ℕ} {a d k j : ℕ} → LowestTo n ws W a d k → LowestTo n ws W a d j → k ≡ j
lowest_once {n} {ws} {W} {a} {d} {k} {j} p q =
    ⊎_elim (λ l. absurd (q.lowest k p.next l p.step p.near)) (⊎_elim (λ e. e) (λ l. absurd (p.lowest j q.next l q.step q.near))) (compared k j)
