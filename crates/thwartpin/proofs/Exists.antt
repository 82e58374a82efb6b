-- Whatever the areas hold, each promise for C allows an outcome. With Once, each allows exactly one.
use Rattle.std.specs.Prelude.{Result, Ok, Err}
use mathlib.Core.Path.{refl, sym, ap, ◌∙◌}
use mathlib.Core.Logic.{◌⊎◌, inl, inr, ⊎_elim}
use mathlib.Core.List.{List}
use Prim.Native.Nat.{ℕ}
use lib.ListN.{length, replicate, length-replicate}
use Rattle.book.specs.Checks.{choices_in, codes_in, book_due}
use Rattle.book.specs.Promise.{Reads}
use Rattle.book.specs.declared.answer.Sizes.{Sizes}
use Rattle.meaning.specs.declared.refusal.Refusal.{Refusal}
use Rattle.meaning.specs.Promises.{Decides, Forces, TiesUp, Clashes, Moves}
use Rattle.meaning.specs.Refusals.{number_of}
use Rattle.meaning.specs.Sizes.{over, words_room, work_room}
use Rattle.thwartpin.specs.Hosts.{Turned, Called, HostDecides, HostMoves}
use Rattle.thwartpin.specs.Lists.{Areas, areas, Tells, On, TellsDecided, TellsForced, TellsClash, TellsMoved, TellsTies, TellsRead}
use Rattle.numbers.specs.Numbers.{out_needs, out_short, number_or, values_or, decided_number, decided_values, listed_number, listed_values, clashed_number, clashed_values, moved_number, moved_values, read_number, read_values, host_decided, host_moved}
use Rattle.book.proofs.Outcomes.{reads_exists}
use Rattle.meaning.proofs.General.{below_or_from}
use Rattle.meaning.specs.Outcomes.{Outcome}
use Rattle.meaning.proofs.Outcomes.{decides_exists, forces_exists, ties_exists, clashes_exists, moves_exists}
use Rattle.thwartpin.proofs.Hosting.{fresh, turned}
use Rattle.thwartpin.proofs.Telling.{untold, told}

-- The form that the calls with `out` share.
module _ {A S : Type 0} (number : A → ℕ) (values : A → List ℕ) (keeps : Result A Refusal → S → Type 0) (exists : (a : Result A Refusal) × (s : S) × keeps a s) (before : S) (out : List ℕ) where
  tells_exists : (r : ℕ) × (s : S) × (out' : List ℕ) × Tells number values keeps before out r s out'
  tells_exists =
      ⊎_elim (λ h. (out_short, before, out, untold number values keeps before out h))
      (λ h. (number_or number exists.0, exists.1, over (values_or values exists.0) out, told number values keeps h exists.2 (refl, refl))) (below_or_from (length out) out_needs)

-- the two areas of a call on a list as one
on_exists : {A : Type 0} (promise : Result A Refusal → List ℕ → List ℕ → Type 0) → Outcome A promise → (a : Result A Refusal) × (s : Areas) × On promise a s
on_exists promise o = (o.0, areas o.1 o.2, o.3)

-- The calls on a list.
module _ (n : ℕ) (ws area work out : List ℕ) where
  pub tells_decided_exists : (r : ℕ) × (s : Areas) × (out' : List ℕ) × TellsDecided n ws area work out r s out'
  tells_decided_exists =
      tells_exists decided_number decided_values (On (Decides n ws area work)) (on_exists (Decides n ws area work) (decides_exists n ws area work)) (areas area work) out

  pub tells_forced_exists : (r : ℕ) × (s : Areas) × (out' : List ℕ) × TellsForced n ws area work out r s out'
  tells_forced_exists =
      tells_exists listed_number listed_values (On (Forces n ws area work)) (on_exists (Forces n ws area work) (forces_exists n ws area work)) (areas area work) out

  pub tells_clash_exists : (r : ℕ) × (s : Areas) × (out' : List ℕ) × TellsClash n ws area work out r s out'
  tells_clash_exists =
      tells_exists clashed_number clashed_values (On (Clashes n ws area work)) (on_exists (Clashes n ws area work) (clashes_exists n ws area work)) (areas area work) out

  pub tells_moved_exists : (r : ℕ) × (s : Areas) × (out' : List ℕ) × TellsMoved n ws area work out r s out'
  tells_moved_exists =
      tells_exists moved_number moved_values (On (Moves n ws area work)) (on_exists (Moves n ws area work) (moves_exists n ws area work)) (areas area work) out

  pub tells_ties_exists : (r : ℕ) × (s : Areas) × (out' : List ℕ) × TellsTies n ws area work out r s out'
  tells_ties_exists =
      tells_exists listed_number listed_values (On (TiesUp n ws area work)) (on_exists (TiesUp n ws area work) (ties_exists n ws area work)) (areas area work) out

-- The reader.
pub tells_read_exists : (bs words out : List ℕ) → (r : ℕ) × (s : List ℕ) × (out' : List ℕ) × TellsRead bs words out r s out'
tells_read_exists bs words out = tells_exists read_number read_values (Reads bs words) (reads_exists bs words) words out

-- The host's calls: by what reading the book gives.
module _ {A : Type 0} (number : A → ℕ) (promise : ℕ → List ℕ → List ℕ → List ℕ → Result A Refusal → List ℕ → List ℕ → Type 0)
    (exists : (n : ℕ) (ws area work : List ℕ) → Outcome A (promise n ws area work)) (book rota : List ℕ) where
  by_reading : (a : Result Sizes Refusal) (words' : List ℕ) → Reads book fresh a words' →
      (r : ℕ) × (rota' : List ℕ) × (Turned book rota r rota' ⊎ Called number promise book rota r rota')
  by_reading (Ok sizes) words' p =
      let o = exists (choices_in book) (codes_in book) rota (replicate work_room 0) in (
        number_or number o.0,
        o.1,
        inr (record {
          good = sym (p.refuses ∙ ap (book_due book) (length-replicate {A = ℕ} words_room 0));
          answer = o.0;
          work' = o.2;
          kept = o.3;
          numbered = refl;
        }),
      )
  by_reading (Err x) words' p = (number_of x, rota, inl (turned book words' rota (number_of x) x p refl))

  host_exists : (r : ℕ) × (rota' : List ℕ) × (Turned book rota r rota' ⊎ Called number promise book rota r rota')
  host_exists =
      let r = reads_exists book fresh in
      by_reading r.0 r.1 r.2

pub host_decides_exists : (book rota : List ℕ) → (r : ℕ) × (rota' : List ℕ) × HostDecides book rota r rota'
host_decides_exists = host_exists host_decided Decides decides_exists

pub host_moves_exists : (book rota : List ℕ) → (r : ℕ) × (rota' : List ℕ) × HostMoves book rota r rota'
host_moves_exists = host_exists host_moved Moves moves_exists
