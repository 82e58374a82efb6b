-- Every rota over the C face: calls of Decide and then of Next on one book, or on one list, give every allowed rota, each once, in dictionary order, and end.
use Rattle.std.specs.Prelude.{Result, Ok, Err}
use mathlib.Core.Path.{◌≡◌, refl, sym, ap, ◌∙◌}
use mathlib.Core.Logic.{inl, inr}
use mathlib.Core.List.{List, [], ◌∷◌}
use Prim.Native.Nat.{ℕ, ◌≤◌}
use native.Mathlib.Omega.{arith}
use borrow.Author.Tests.{le-ltb}
use lib.ListN.{length, replicate, length-replicate}
use Rattle.meaning.specs.declared.answers.Decided.{Decided}
use Rattle.meaning.specs.declared.answers.Moved.{Moved}
use Rattle.meaning.specs.declared.refusal.Refusal.{Refusal}
use Rattle.meaning.specs.Promises.{Decides, Moves}
use Rattle.meaning.specs.Refusals.{none, as_due, number_of, place_of}
use Rattle.meaning.specs.Rotas.{Possible}
use Rattle.meaning.specs.Runs.{Acceptable, GoesThrough, ListsEveryRota}
use Rattle.meaning.specs.Sizes.{rota_needs, work_needs, words_room, work_room}
use Rattle.meaning.proofs.EveryRotaListed.{promises_list_every_rota}
use Rattle.meaning.proofs.RefusalLaws.{not_refused}
use Rattle.book.specs.declared.answer.Sizes.{Sizes}
use Rattle.book.specs.Checks.{choices_in, codes_in, book_due}
use Rattle.book.specs.Promise.{Reads}
use Rattle.book.specs.Saved.{Savable}
use Rattle.book.proofs.GivenLists.{read_is_list, saved_due}
use Rattle.book.proofs.Outcomes.{reads_exists}
use Rattle.numbers.specs.Numbers.{number_or, host_decided, host_moved, decided_number, moved_number}
use Rattle.thwartpin.specs.Hosts.{HostDecides, HostMoves}
use Rattle.thwartpin.specs.Runs as runs
use Rattle.thwartpin.specs.Runs.{GivesEveryRota, HostGives, ListDecides, ListMoves, ListGives}
use Rattle.thwartpin.proofs.Hosting.{fresh}

-- Calls that keep the promises of Decide and Next give every rota, however their answers are numbered.

-- what is known of a call: it kept the promise with a work area that was long enough, and its number is the answer's
pub record Kept {A : Type 0} (number : A → ℕ) (promise : List ℕ → List ℕ → Result A Refusal → List ℕ → List ℕ → Type 0) (needs : ℕ) (area : List ℕ) (x : ℕ) (area' : List ℕ) : Type 0 where
  pub work : List ℕ
  pub answer : Result A Refusal
  pub work' : List ℕ
  pub enough : needs ≤ length work
  pub kept : promise area work answer area' work'
  pub numbered : x ≡ number_or number answer

module _ {ℓ} (n : ℕ) (ws : List ℕ) (decide_number : Decided → ℕ) (move_number : Moved → ℕ) (decide next : List ℕ → ℕ → List ℕ → Type ℓ)
    (decides : (area : List ℕ) (x : ℕ) (area' : List ℕ) → decide area x area' → Kept decide_number (Decides n ws) (work_needs n ws) area x area')
    (moves : (area : List ℕ) (x : ℕ) (area' : List ℕ) → next area x area' → Kept move_number (Moves n ws) (work_needs n ws) area x area')
    (zero_decided : decide_number Decided.Possible ≡ 0) (zero_moved : move_number Moved.Moved ≡ 0) where
  -- Next goes through the rotas
  goes_on : (r : List ℕ) (rs : List (List ℕ)) → GoesThrough n ws (Moves n ws) r rs → runs.GoesThrough n ws next (move_number Moved.Ended) r rs
  goes_on r [] g =
      λ area x area' front c.
      let k = moves area x area' c in
      k.numbered ∙ ap (number_or move_number) (g area k.work k.answer area' k.work' front k.enough k.kept)
  goes_on r (s ∷ rs) g = (
    (λ area x area' front c.
        let k = moves area x area' c in
        let e = g.0 area k.work k.answer area' k.work' front k.enough k.kept in
        (k.numbered ∙ ap (number_or move_number) e.0 ∙ zero_moved, e.1)),
    goes_on s rs g.1,
  )

  -- from the first: the rotas that calls which keep the promises list
  pub give_all : ListsEveryRota n ws (Moves n ws) (Decides n ws) → GivesEveryRota n ws next (move_number Moved.Ended) decide
  give_all l =
      record {
        first = l.first;
        others = l.others;
        every = l.every;
        at_most = l.at_most;
        starts = λ area x area' room c.
            let k = decides area x area' c in
            let e = l.starts area k.work k.answer area' k.work' room k.enough k.kept in
            (k.numbered ∙ ap (number_or decide_number) e.0 ∙ zero_decided, e.1);
        goes_on = goes_on l.first l.others l.goes_on;
      }

-- the calls on a list
pub list_gives : (n : ℕ) (ws : List ℕ) → ListsEveryRota n ws (Moves n ws) (Decides n ws) → ListGives n ws
list_gives n ws = give_all n ws decided_number moved_number (ListDecides n ws) (ListMoves n ws) decides moves refl refl
  where
    decides : (area : List ℕ) (x : ℕ) (area' : List ℕ) → ListDecides n ws area x area' → Kept decided_number (Decides n ws) (work_needs n ws) area x area'
    decides area x area' (work, out, work', out', enough, room, inl u) = absurd (omega (arith, room, u.short))
    decides area x area' (work, out, work', out', enough, room, inr t) = record { work = work; answer = t.answer; work' = work'; enough = enough; kept = t.kept; numbered = t.numbered }

    moves : (area : List ℕ) (x : ℕ) (area' : List ℕ) → ListMoves n ws area x area' → Kept moved_number (Moves n ws) (work_needs n ws) area x area'
    moves area x area' (work, out, work', out', enough, room, inl u) = absurd (omega (arith, room, u.short))
    moves area x area' (work, out, work', out', enough, room, inr t) = record { work = work; answer = t.answer; work' = work'; enough = enough; kept = t.kept; numbered = t.numbered }

pub list_gives_every_rota : (n : ℕ) (ws : List ℕ) → Acceptable n ws → Possible n ws → ListGives n ws
list_gives_every_rota n ws ok possible = list_gives n ws (promises_list_every_rota n ws ok possible)

-- the host's calls on a good book
module _ (book : List ℕ) (good : book_due book words_room ≡ none) where
  -- its list can be saved
  of_reading : (a : Result Sizes Refusal) (words' : List ℕ) → Reads book fresh a words' → Savable (choices_in book) (codes_in book) words_room
  of_reading (Ok sizes) words' r = rw (length-replicate {A = ℕ} words_room 0, r.says.0) at (read_is_list book fresh sizes.n sizes.m words' r).savable
  of_reading (Err e) words' r = absurd (not_refused (number_of e) (place_of e) (sym good ∙ rw (length-replicate {A = ℕ} words_room 0) at (sym r.refuses)))

  savable : Savable (choices_in book) (codes_in book) words_room
  savable = let r = reads_exists book fresh in of_reading r.0 r.1 r.2

  -- so no refusal applies to it
  pub book_acceptable : Acceptable (choices_in book) (codes_in book)
  book_acceptable =
      saved_due (choices_in book) (codes_in book) words_room (rota_needs (choices_in book)) (rota_needs (choices_in book)) (work_needs (choices_in book) (codes_in book)) savable
      ∙ rw (le-ltb (choices_in book) (choices_in book) (omega arith), le-ltb (work_needs (choices_in book) (codes_in book)) (work_needs (choices_in book) (codes_in book)) (omega arith)) refl

  -- and the room for work is long enough
  enough : work_needs (choices_in book) (codes_in book) ≤ length {A = ℕ} (replicate work_room 0)
  enough = omega (arith, savable.choices, savable.few, length-replicate {A = ℕ} work_room 0)

  not_turned : (e : Refusal) → book_due book words_room ≡ as_due e → ⊥
  not_turned e due = not_refused (number_of e) (place_of e) (sym good ∙ due)

  -- so a call of the host's keeps the engine's promise on it
  pub decide_kept : (rota : List ℕ) (x : ℕ) (rota' : List ℕ) → HostDecides book rota x rota' → Kept host_decided (Decides (choices_in book) (codes_in book)) (work_needs (choices_in book) (codes_in book)) rota x rota'
  decide_kept rota x rota' (inl t) = absurd (not_turned t.refusal t.due)
  decide_kept rota x rota' (inr c) = record { work = replicate work_room 0; answer = c.answer; work' = c.work'; enough = enough; kept = c.kept; numbered = c.numbered }

  pub next_kept : (rota : List ℕ) (x : ℕ) (rota' : List ℕ) → HostMoves book rota x rota' → Kept host_moved (Moves (choices_in book) (codes_in book)) (work_needs (choices_in book) (codes_in book)) rota x rota'
  next_kept rota x rota' (inl t) = absurd (not_turned t.refusal t.due)
  next_kept rota x rota' (inr c) = record { work = replicate work_room 0; answer = c.answer; work' = c.work'; enough = enough; kept = c.kept; numbered = c.numbered }

  -- and the two calls give every rota
  pub host_gives : ListsEveryRota (choices_in book) (codes_in book) (Moves (choices_in book) (codes_in book)) (Decides (choices_in book) (codes_in book)) → HostGives book
  host_gives = give_all (choices_in book) (codes_in book) host_decided host_moved (HostDecides book) (HostMoves book) decide_kept next_kept refl refl

  pub host_gives_every_rota : Possible (choices_in book) (codes_in book) → HostGives book
  host_gives_every_rota possible = host_gives (promises_list_every_rota (choices_in book) (codes_in book) book_acceptable possible)
