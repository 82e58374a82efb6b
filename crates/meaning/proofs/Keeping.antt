-- How a call keeps its promise: by the refusal that is due with nothing changed, or by an answer where nothing is due.
use mathlib.Core.Path.{◌≡◌, refl}
use mathlib.Core.List.{List}
use Prim.Native.Nat.{ℕ}
use Rattle.std.specs.Prelude.{Ok, Err}
use Rattle.meaning.specs.declared.refusal.Refusal.{Refusal}
use Rattle.meaning.specs.Promises.{Answered, Keeps}
use Rattle.meaning.specs.Refusals.{Due, as_due}

module _ {A : Type 0} (says : A → List ℕ → Type 0) (due : Due) (n : ℕ) (ws area work : List ℕ) where
  -- nothing is due
  pub keeps_answer : (a : A) (area' work' : List ℕ) → Due.none ≡ due → Answered (says a) n ws area work area' work' → Keeps says due n ws area work (Ok a) area' work'
  keeps_answer a area' work' e h = record { refuses = e; after = h }

  -- the refusal r is due
  pub keeps_refusal : (r : Refusal) → as_due r ≡ due → Keeps says due n ws area work (Err r) area work
  keeps_refusal r e = record { refuses = e; after = record { area_stays = refl; work_stays = refl } }
