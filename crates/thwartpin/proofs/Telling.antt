-- What a call for C tells is what its promise asks for.
use Rattle.std.specs.Prelude.{Result}
use mathlib.Core.Path.{◌≡◌, refl}
use mathlib.Core.Logic.{inl, inr}
use mathlib.Core.List.{List}
use Prim.Native.Nat.{ℕ, ◌≤◌, ◌<◌}
use lib.ListN.{length}
use Rattle.meaning.specs.declared.refusal.Refusal.{Refusal}
use Rattle.meaning.specs.Sizes.{over}
use Rattle.thwartpin.specs.Lists.{Tells}
use Rattle.numbers.specs.Numbers.{out_needs, out_short, number_or, values_or}

module _ {A S : Type 0} (number : A → ℕ) (values : A → List ℕ) (keeps : Result A Refusal → S → Type 0) where
  -- out is too short
  pub untold : (before : S) (out : List ℕ) → length out < out_needs → Tells number values keeps before out out_short before out
  untold before out h = inl (record { short = h; number = refl; stays = refl; out_stays = refl })

  -- out has room, the call keeps its promise, and its answer is told
  pub told : {a : Result A Refusal} {before after : S} {out : List ℕ} {r : ℕ} {out' : List ℕ} → out_needs ≤ length out → keeps a after →
      (r ≡ number_or number a) × (out' ≡ over (values_or values a) out) → Tells number values keeps before out r after out'
  told {a} h k e = inr (record { room = h; answer = a; kept = k; numbered = e.0; given = e.1 })
