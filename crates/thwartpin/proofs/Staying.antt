-- What the host may count on: the rota changes only with 0, and past the book's own refusals only 6, and for Next 11, can come.
use Rattle.std.specs.Prelude.{Result, Ok, Err}
use mathlib.Core.Path.{◌≡◌, refl, sym, ap, ◌∙◌}
use mathlib.Core.Bool.{true, false}
use mathlib.Core.Logic.{inl, inr}
use mathlib.Core.List.{List, [], ◌∷◌, ◌++◌}
use Prim.Native.Nat.{ℕ, ◌≤◌}
use native.Mathlib.Omega.{arith}
use borrow.Author.Tests.{le-ltb}
use lib.ListN.{length, take, replicate, length-replicate}
use Rattle.meaning.specs.declared.answers.Decided.{Decided}
use Rattle.meaning.specs.declared.answers.Moved.{Moved}
use Rattle.meaning.specs.declared.refusal.Refusal.{Refusal}
use Rattle.book.specs.Checks.{choices_in, rules_in, codes_in, book_due}
use Rattle.book.specs.Promise.{Reads}
use Rattle.book.specs.Saved.{Savable}
use Rattle.meaning.specs.Promises.{After, DecideSays, NextSays}
use Rattle.meaning.specs.Refusals.{none, Check, check, first_of, short_place, over_check, room_check, list_checks, list_due, next_due}
use Rattle.meaning.specs.Sizes.{rota_needs, work_needs, over, words_room, work_room}
use Rattle.thwartpin.specs.Hosts.{HostDecides, HostMoves}
use Rattle.numbers.specs.Numbers.{number_or, host_decided, host_moved}
use Rattle.book.proofs.GivenLists.{read_is_list, saved_due}
use Rattle.book.proofs.Refusing.{last_none}
use Rattle.meaning.proofs.RefusalLaws.{none_applies, due_behind, due_ahead}
use Rattle.thwartpin.proofs.Hosting.{fresh}

-- a call that is refused, or whose answer writes no item, leaves its area as it was
module _ {A : Type 0} (number : A → ℕ) (says : A → List ℕ → Type 0) (empty : (a : A) → (number a ≡ 0 → ⊥) → (xs : List ℕ) → says a xs → xs ≡ [])
    (n : ℕ) (ws area work : List ℕ) where
  after_stays : (a : Result A Refusal) (area' work' : List ℕ) → (number_or number a ≡ 0 → ⊥) → After says n ws area work a area' work' → area' ≡ area
  after_stays (Ok a) area' work' h p = p.written ∙ ap (λ (xs : List ℕ). over xs area) (empty a h p.items p.right)
  after_stays (Err r) area' work' h p = p.area_stays

-- an answer whose number is not 0 writes nothing
decided_empty : (n : ℕ) (ws : List ℕ) (a : Decided) → (host_decided a ≡ 0 → ⊥) → (xs : List ℕ) → DecideSays n ws a xs → xs ≡ []
decided_empty n ws Decided.Possible h xs p = absurd (h refl)
decided_empty n ws (Decided.Impossible v) h xs p = p.1

moved_empty : (n : ℕ) (ws rota : List ℕ) (a : Moved) → (host_moved a ≡ 0 → ⊥) → (xs : List ℕ) → NextSays n ws rota a xs → xs ≡ []
moved_empty n ws rota Moved.Moved h xs p = absurd (h refl)
moved_empty n ws rota Moved.Ended h xs p = p.2
moved_empty n ws rota Moved.Impossible h xs p = p.1

-- the rota changes only with 0
pub decide_stays : (book rota : List ℕ) (r : ℕ) (rota' : List ℕ) → HostDecides book rota r rota' → (r ≡ 0 → ⊥) → rota' ≡ rota
decide_stays book rota r rota' (inl t) h = t.stays
decide_stays book rota r rota' (inr c) h =
    after_stays host_decided (DecideSays (choices_in book) (codes_in book)) (decided_empty (choices_in book) (codes_in book)) (choices_in book) (codes_in book) rota
    (replicate work_room 0) c.answer rota' c.work' (λ e. h (c.numbered ∙ e)) c.kept.after

pub next_stays : (book rota : List ℕ) (r : ℕ) (rota' : List ℕ) → HostMoves book rota r rota' → (r ≡ 0 → ⊥) → rota' ≡ rota
next_stays book rota r rota' (inl t) h = t.stays
next_stays book rota r rota' (inr c) h =
    let given = take (choices_in book) rota in
    after_stays host_moved (NextSays (choices_in book) (codes_in book) given) (moved_empty (choices_in book) (codes_in book) given) (choices_in book) (codes_in book) rota
    (replicate work_room 0) c.answer rota' c.work' (λ e. h (c.numbered ∙ e)) c.kept.after

-- a good book's list has a book
good_savable : (book : List ℕ) → book_due book words_room ≡ none → Savable (choices_in book) (codes_in book) words_room
good_savable book e =
    let r : Reads book fresh (Ok (record { n = choices_in book; m = rules_in book })) (over (codes_in book) fresh) =
    record { refuses = sym (ap (book_due book) (length-replicate {A = ℕ} words_room 0) ∙ e); says = (refl, refl, refl) } in
    rw (length-replicate {A = ℕ} words_room 0) at (read_is_list book fresh (choices_in book) (rules_in book) (over (codes_in book) fresh) r).savable

-- on such a list, with work enough, a call refuses 6 at most
room_only : (n : ℕ) (ws : List ℕ) (area needs work : ℕ) → Savable n ws words_room → work_needs n ws ≤ work →
    list_due n ws area needs work ≡ first_of (room_check area needs 6 ∷ [])
room_only n ws area needs work s h =
    saved_due n ws words_room area needs work s ∙ rw (le-ltb work (work_needs n ws) h) (last_none (room_check area needs 6 ∷ []) 5 (short_place (work_needs n ws)))

-- the room for work is enough for it
work_fits : (n : ℕ) (ws : List ℕ) → Savable n ws words_room → work_needs n ws ≤ length (replicate {A = ℕ} work_room 0)
work_fits n ws s = omega (arith, s.choices, s.few, length-replicate {A = ℕ} work_room 0)

-- what is due of some checks is what is due of one: then so it is with one more check behind
behind : (cs : List Check) (c d : Check) → first_of cs ≡ first_of (c ∷ []) → first_of (cs ++ (d ∷ [])) ≡ first_of (c ∷ d ∷ [])
behind cs (check true number place) d e = due_ahead cs (d ∷ []) number place e
behind cs (check false number place) d e = due_behind cs (d ∷ []) (none_applies cs e)

-- on a good book's list Decide refuses 6 at most, and Next 6 and then 11
module _ (book rota : List ℕ) (good : book_due book words_room ≡ none) where
  pub decide_due : list_due (choices_in book) (codes_in book) (length rota) (rota_needs (choices_in book)) (length (replicate {A = ℕ} work_room 0)) ≡
      first_of (room_check (length rota) (choices_in book) 6 ∷ [])
  decide_due =
      let s = good_savable book good in
      room_only (choices_in book) (codes_in book) (length rota) (choices_in book) (length (replicate {A = ℕ} work_room 0)) s (work_fits (choices_in book) (codes_in book) s)

  pub next_due_lem : next_due (choices_in book) (codes_in book) rota (length (replicate {A = ℕ} work_room 0)) ≡
      first_of (room_check (length rota) (choices_in book) 6 ∷ over_check 2 (take (choices_in book) rota) 11 ∷ [])
  unfolding list_due next_due
  next_due_lem =
      behind (list_checks (choices_in book) (codes_in book) (length rota) (rota_needs (choices_in book)) (length (replicate {A = ℕ} work_room 0)))
      (room_check (length rota) (choices_in book) 6) (over_check 2 (take (choices_in book) rota) 11) decide_due
