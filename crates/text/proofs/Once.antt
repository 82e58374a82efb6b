-- What a writer promises fixes where it ends and each byte of the area.
use mathlib.Core.Path.{◌≡◌, sym, ◌∙◌}
use mathlib.Core.List.{List}
use Prim.Native.Nat.{ℕ}
use Rattle.text.specs.Inner.{Puts}

pub puts_once : {bytes out out₁ out₂ : List ℕ} {at r s : ℕ} → Puts bytes out at r out₁ → Puts bytes out at s out₂ → (r ≡ s) × (out₁ ≡ out₂)
puts_once p q = (p.end ∙ sym q.end, p.put ∙ sym q.put)
