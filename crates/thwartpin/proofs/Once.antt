-- Two outcomes that a promise for C allows coincide: the number, and each item of every lent area.
use Rattle.std.specs.Prelude.{Result}
use mathlib.Core.Path.{◌≡◌, sym, ap, ap₂, ◌∙◌}
use mathlib.Core.Logic.{◌⊎◌, inl, inr}
use mathlib.Core.List.{List}
use Prim.Native.Nat.{ℕ}
use native.Mathlib.Omega.{arith}
use lib.ListN.{replicate}
use Rattle.meaning.specs.declared.refusal.Refusal.{Refusal}
use Rattle.book.specs.Checks.{choices_in, codes_in}
use Rattle.book.specs.Promise.{Reads}
use Rattle.meaning.specs.Promises.{Decides, Forces, TiesUp, Clashes, Moves}
use Rattle.meaning.specs.Refusals.{number_of, place_of, as_due}
use Rattle.meaning.specs.Sizes.{over, work_room}
use Rattle.thwartpin.specs.Hosts.{Turned, Called, HostDecides, HostMoves}
use Rattle.thwartpin.specs.Lists.{Areas, areas, Tells, On, TellsDecided, TellsForced, TellsClash, TellsMoved, TellsTies, TellsRead}
use Rattle.numbers.specs.Numbers.{number_or, values_or, decided_number, decided_values, listed_number, listed_values, clashed_number, clashed_values, moved_number, moved_values, read_number, read_values, host_decided, host_moved}
use Rattle.book.proofs.Outcomes.{reads_once}
use Rattle.meaning.proofs.RefusalLaws.{not_refused}
use Rattle.meaning.specs.Outcomes.{Same}
use Rattle.meaning.proofs.Once.{decides_once, forces_once, ties_once, clashes_once, moves_once}

-- The form that the calls with `out` share: where the promise fixes the answer and the areas, it fixes the number and out too.
module _ {A S : Type 0} (number : A → ℕ) (values : A → List ℕ) (keeps : Result A Refusal → S → Type 0) (once : (a b : Result A Refusal) (s t : S) → keeps a s → keeps b t → (a ≡ b) × (s ≡ t))
    (before : S) (out : List ℕ) where
  pub tells_once : (q r : ℕ) (s t : S) (out₁ out₂ : List ℕ) → Tells number values keeps before out q s out₁ → Tells number values keeps before out r t out₂ →
      (q ≡ r) × (s ≡ t) × (out₁ ≡ out₂)
  tells_once q r s t out₁ out₂ (inl u) (inl v) = (u.number ∙ sym v.number, u.stays ∙ sym v.stays, u.out_stays ∙ sym v.out_stays)
  tells_once q r s t out₁ out₂ (inl u) (inr v) = absurd (omega (arith, u.short, v.room))
  tells_once q r s t out₁ out₂ (inr u) (inl v) = absurd (omega (arith, u.room, v.short))
  tells_once q r s t out₁ out₂ (inr u) (inr v) =
      let e = once u.answer v.answer s t u.kept v.kept in
      (u.numbered ∙ ap (number_or number) e.0 ∙ sym v.numbered, e.1, u.given ∙ ap (λ (a : Result A Refusal). over (values_or values a) out) e.0 ∙ sym v.given)

-- the two areas of a call on a list as one
on_once : {A : Type 0} (promise : Result A Refusal → List ℕ → List ℕ → Type 0) →
    ((a b : Result A Refusal) (x w y v : List ℕ) → promise a x w → promise b y v → Same a x w b y v) → (a b : Result A Refusal) (s t : Areas) → On promise a s → On promise b t →
    (a ≡ b) × (s ≡ t)
on_once promise once a b s t k l =
    let e = once a b s.answer s.work t.answer t.work k l in
    (e.0, ap₂ areas e.1 e.2)

-- The calls on a list.
module _ (n : ℕ) (ws area work out : List ℕ) where
  pub tells_decided_once : (q r : ℕ) (s t : Areas) (out₁ out₂ : List ℕ) → TellsDecided n ws area work out q s out₁ → TellsDecided n ws area work out r t out₂ →
      (q ≡ r) × (s ≡ t) × (out₁ ≡ out₂)
  tells_decided_once =
      tells_once decided_number decided_values (On (Decides n ws area work)) (on_once (Decides n ws area work) (decides_once n ws area work)) (areas area work) out

  pub tells_forced_once : (q r : ℕ) (s t : Areas) (out₁ out₂ : List ℕ) → TellsForced n ws area work out q s out₁ → TellsForced n ws area work out r t out₂ →
      (q ≡ r) × (s ≡ t) × (out₁ ≡ out₂)
  tells_forced_once =
      tells_once listed_number listed_values (On (Forces n ws area work)) (on_once (Forces n ws area work) (forces_once n ws area work)) (areas area work) out

  pub tells_clash_once : (q r : ℕ) (s t : Areas) (out₁ out₂ : List ℕ) → TellsClash n ws area work out q s out₁ → TellsClash n ws area work out r t out₂ →
      (q ≡ r) × (s ≡ t) × (out₁ ≡ out₂)
  tells_clash_once =
      tells_once clashed_number clashed_values (On (Clashes n ws area work)) (on_once (Clashes n ws area work) (clashes_once n ws area work)) (areas area work) out

  pub tells_moved_once : (q r : ℕ) (s t : Areas) (out₁ out₂ : List ℕ) → TellsMoved n ws area work out q s out₁ → TellsMoved n ws area work out r t out₂ →
      (q ≡ r) × (s ≡ t) × (out₁ ≡ out₂)
  tells_moved_once =
      tells_once moved_number moved_values (On (Moves n ws area work)) (on_once (Moves n ws area work) (moves_once n ws area work)) (areas area work) out

  pub tells_ties_once : (q r : ℕ) (s t : Areas) (out₁ out₂ : List ℕ) → TellsTies n ws area work out q s out₁ → TellsTies n ws area work out r t out₂ →
      (q ≡ r) × (s ≡ t) × (out₁ ≡ out₂)
  tells_ties_once =
      tells_once listed_number listed_values (On (TiesUp n ws area work)) (on_once (TiesUp n ws area work) (ties_once n ws area work)) (areas area work) out

-- The reader.
pub tells_read_once : (bs words out : List ℕ) (q r : ℕ) (s t out₁ out₂ : List ℕ) → TellsRead bs words out q s out₁ → TellsRead bs words out r t out₂ →
    (q ≡ r) × (s ≡ t) × (out₁ ≡ out₂)
tells_read_once bs words out = tells_once read_number read_values (Reads bs words) (reads_once bs words) words out

-- The host's calls: the book is refused or it is not, and the call's own promise fixes the rest.
module _ {A : Type 0} (number : A → ℕ) (promise : ℕ → List ℕ → List ℕ → List ℕ → Result A Refusal → List ℕ → List ℕ → Type 0)
    (once : (n : ℕ) (ws area work : List ℕ) (a b : Result A Refusal) (x w y v : List ℕ) → promise n ws area work a x w → promise n ws area work b y v → Same a x w b y v) (book rota : List ℕ) where
  host_once : (q r : ℕ) (x y : List ℕ) → Turned book rota q x ⊎ Called number promise book rota q x → Turned book rota r y ⊎ Called number promise book rota r y →
      (q ≡ r) × (x ≡ y)
  host_once q r x y (inl u) (inl v) =
      let e : as_due u.refusal ≡ as_due v.refusal = sym u.due ∙ v.due in
      let f : number_of u.refusal ≡ number_of v.refusal = cc in
      (u.number ∙ f ∙ sym v.number, u.stays ∙ sym v.stays)
  host_once q r x y (inl u) (inr v) = absurd (not_refused (number_of u.refusal) (place_of u.refusal) (sym v.good ∙ u.due))
  host_once q r x y (inr u) (inl v) = absurd (not_refused (number_of v.refusal) (place_of v.refusal) (sym u.good ∙ v.due))
  host_once q r x y (inr u) (inr v) =
      let e = once (choices_in book) (codes_in book) rota (replicate work_room 0) u.answer v.answer x u.work' y v.work' u.kept v.kept in
      (u.numbered ∙ ap (number_or number) e.0 ∙ sym v.numbered, e.1)

pub host_decides_once : (book rota : List ℕ) (q r : ℕ) (x y : List ℕ) → HostDecides book rota q x → HostDecides book rota r y → (q ≡ r) × (x ≡ y)
host_decides_once = host_once host_decided Decides decides_once

pub host_moves_once : (book rota : List ℕ) (q r : ℕ) (x y : List ℕ) → HostMoves book rota q x → HostMoves book rota r y → (q ≡ r) × (x ≡ y)
host_moves_once = host_once host_moved Moves moves_once
