-- What the rounds promise fixes what a call shows of them: on a possible list, the forced bytes that the notes say.
use mathlib.Core.Path.{◌≡◌, sym, ◌∙◌}
use mathlib.Core.List.{List}
use Prim.Native.Nat.{ℕ, ◌*◌}
use native.Mathlib.Omega.{arith}
use lib.Seq.{ext_get_or}
use Rattle.meaning.specs.Rotas.{Possible}
use Rattle.rounds.specs.Rounds.{Swept, forced_of}
use Rattle.meaning.proofs.Unique.{forced_unique}
use Rattle.rounds.proofs.Forcing.{bytes_right}

pub swept_once : (n : ℕ) (ws W W₁ W₂ : List ℕ) → Possible n ws → Swept n ws (2 * n) W W₁ → Swept n ws (2 * n) W W₂ → forced_of n W₁ ≡ forced_of n W₂
swept_once n ws W W₁ W₂ possible p q =
    let a = bytes_right n ws W₁ 0 p.more.state p.all possible in
    let b = bytes_right n ws W₂ 0 q.more.state q.all possible in
    ext_get_or 0 (forced_of n W₁) (forced_of n W₂) (a.long ∙ sym b.long)
    (λ v h. forced_unique n ws v _ _ possible.0 possible.1 (a.each v (omega (arith, h, a.long))) (b.each v (omega (arith, h, a.long))))
