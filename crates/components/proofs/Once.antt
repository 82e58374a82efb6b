-- What the walk promises fixes the marks of all codes, and what is read off from them.
use mathlib.Core.Path.{◌≡◌, sym, ap, ◌∙◌}
use mathlib.Core.List.{List}
use Prim.Native.Nat.{ℕ, ◌*◌, ◌<◌}
use native.Mathlib.Omega.{arith}
use native.Mathlib.Nat.{le_antisymm}
use lib.Seq.{ext_get_or}
use Rattle.meaning.specs.Sizes.{over}
use Rattle.moves.specs.Layout.{mark}
use Rattle.components.specs.Leads.{Lead, lead_of, Leads, TiesPut}
use Rattle.meaning.proofs.Unique.{tie_unique}

-- the smallest code that a code is tied to
pub lead_once : {ws : List ℕ} {x l k : ℕ} → Lead ws x l → Lead ws x k → l ≡ k
lead_once {ws} {x} {l} {k} p q = le_antisymm (p.smallest k q.tied) (q.smallest l p.tied)

-- so every mark
pub leads_once : {n : ℕ} {ws W V : List ℕ} → Leads n ws W → Leads n ws V → (x : ℕ) → x < 2 * n → mark n W x ≡ mark n V x
leads_once {n} {ws} {W} {V} p q x h =
    let e : lead_of n W x ≡ lead_of n V x = lead_once (p.lead x h) (q.lead x h) in
    omega (arith, e, p.settled x h, q.settled x h)

-- and the area of the ties, where the marks tell a list's leads
pub ties_put_once : {n : ℕ} {ws W area area₁ area₂ : List ℕ} → Leads n ws W → TiesPut n W area area₁ → TiesPut n W area area₂ → area₁ ≡ area₂
ties_put_once {n} {ws} {W} {area} l p q =
    let s = p.ties ws l in
    let t = q.ties ws l in
    let e : p.items ≡ q.items =
    ext_get_or 0 p.items q.items (p.long ∙ sym q.long) (λ v h. tie_unique ws v _ _ (s.each v (omega (arith, h, p.long))) (t.each v (omega (arith, h, p.long)))) in
    p.written ∙ ap (λ (xs : List ℕ). over xs area) e ∙ sym q.written
