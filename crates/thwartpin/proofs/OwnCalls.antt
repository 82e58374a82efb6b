-- Every rota, of the host's own calls: `thwartpin_decide` and then `thwartpin_next` on one book, as in the loop that the C header prints.
-- A call is here all that the function's own contract tells its caller, and nothing more.
use mathlib.Core.Path.{◌≡◌, refl}
use mathlib.Core.List.{List}
use Prim.Native.Nat.{ℕ}
use borrow.Fn.World.{ArgsD}
use contract.Lifetimes.{Lfts}
use denote.Triple.Clauses.{AtExit}
use Rattle.book.specs.Checks.{choices_in, codes_in, book_due}
use Rattle.meaning.specs.Refusals.{none}
use Rattle.meaning.specs.Rotas.{Possible}
use Rattle.meaning.specs.Sizes.{words_room}
use Rattle.meaning.proofs.EveryRotaListed.{promises_list_every_rota}
use Rattle.numbers.specs.Numbers.{host_decided, host_moved}
use Rattle.thwartpin.specs.Hosts.{HostDecides, HostMoves}
use Rattle.thwartpin.specs.Runs.{GivesEveryRota}
use Rattle.thwartpin.proofs.EveryRota.{give_all, book_acceptable, decide_kept, next_kept}
use Rattle.thwartpin.specs.contracts.thwartpin_decide as decide
use Rattle.thwartpin.proofs.thwartpin_decide.Reads as decide_reads
use Rattle.thwartpin.specs.contracts.thwartpin_next as next
use Rattle.thwartpin.proofs.thwartpin_next.Reads as next_reads

-- `thwartpin_decide` was called with a book and a rota, answered x and left rota'
pub record DecideCall (book rota : List ℕ) (x : ℕ) (rota' : List ℕ) : Type 1 where
  pub κs : Lfts 2
  pub args : ArgsD decide.signature κs
  pub exits : AtExit decide.ended κs
  pub is_book : args.0.now ≡ book
  pub is_rota : args.1.0.now ≡ rota
  pub rota_after : exits.1.0.now ≡ rota'
  pub told : decide_reads.Learnt κs args x exits

-- and so `thwartpin_next`
pub record NextCall (book rota : List ℕ) (x : ℕ) (rota' : List ℕ) : Type 1 where
  pub κs : Lfts 2
  pub args : ArgsD next.signature κs
  pub exits : AtExit next.ended κs
  pub is_book : args.0.now ≡ book
  pub is_rota : args.1.0.now ≡ rota
  pub rota_after : exits.1.0.now ≡ rota'
  pub told : next_reads.Learnt κs args x exits

decides : (book rota : List ℕ) (x : ℕ) (rota' : List ℕ) → DecideCall book rota x rota' → HostDecides book rota x rota'
decides book rota x rota' c =
    let told : HostDecides c.args.0.now c.args.1.0.now x c.exits.1.0.now = c.told in
    rw (c.is_book, c.is_rota, c.rota_after) at told

moves : (book rota : List ℕ) (x : ℕ) (rota' : List ℕ) → NextCall book rota x rota' → HostMoves book rota x rota'
moves book rota x rota' c =
    let told : HostMoves c.args.0.now c.args.1.0.now x c.exits.1.0.now = c.told in
    rw (c.is_book, c.is_rota, c.rota_after) at told

-- on a good book whose list is possible
pub host_calls_give_every_rota : (book : List ℕ) → book_due book words_room ≡ none → Possible (choices_in book) (codes_in book) →
    GivesEveryRota (choices_in book) (codes_in book) (NextCall book) 21 (DecideCall book)
host_calls_give_every_rota book good possible =
    give_all (choices_in book) (codes_in book) host_decided host_moved (DecideCall book) (NextCall book)
    (λ rota x rota' c. decide_kept book good rota x rota' (decides book rota x rota' c))
    (λ rota x rota' c. next_kept book good rota x rota' (moves book rota x rota' c)) refl refl
    (promises_list_every_rota (choices_in book) (codes_in book) (book_acceptable book good) possible)
