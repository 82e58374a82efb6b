-- The host's calls: the list of a good book fits the room that they have of their own, and what they answer is what their promise asks for.
use Rattle.std.specs.Prelude.{Result, Ok, Err}
use mathlib.Core.Path.{◌≡◌, refl, sym, ap, ◌∙◌}
use mathlib.Core.List.{List}
use Prim.Native.Nat.{ℕ, ◌*◌, ◌≤◌}
use native.Mathlib.Omega.{arith}
use lib.ListN.{length, take, replicate, length-replicate}
use Rattle.std.proofs.lemmas.List.{length-take, length-take-le}
use Rattle.meaning.specs.declared.refusal.Refusal.{Refusal}
use Rattle.book.specs.declared.answer.Sizes.{Sizes}
use Rattle.book.specs.Checks.{book_due}
use Rattle.book.specs.Promise.{Reads}
use Rattle.meaning.specs.Refusals.{number_of}
use Rattle.thwartpin.specs.Hosts.{Turned, Called}
use Rattle.meaning.specs.Sizes.{words_room, work_room}
use Rattle.numbers.specs.Numbers.{number_or}
use Rattle.book.proofs.GivenLists.{read_is_list}

-- the words before the book is read
abbrev pub fresh : List ℕ
fresh = replicate words_room 0

module _ (book : List ℕ) (words' : List ℕ) where
  -- the words of the book are within the room
  pub within : (sizes : Sizes) → Reads book fresh (Ok sizes) words' → 2 * sizes.m ≤ words_room
  within sizes r =
      let l = read_is_list book fresh sizes.n sizes.m words' r in
      omega (arith, l.count, l.savable.few)

  counted : (sizes : Sizes) → Reads book fresh (Ok sizes) words' → 2 * sizes.m ≡ length (take (2 * sizes.m) words')
  counted sizes r =
      let l = read_is_list book fresh sizes.n sizes.m words' r in
      omega (arith, l.count, l.savable.even, ap length l.front)

  -- and a part of them that is lent on has as many words as are asked for
  pub lent : (sizes : Sizes) → Reads book fresh (Ok sizes) words' → (k : ℕ) → k ≤ 2 * sizes.m → k ≡ length (take k words')
  lent sizes r k h = sym (length-take-le k words' (omega (arith, h, counted sizes r, length-take (2 * sizes.m) words')))

  -- the book is refused
  pub turned : (rota : List ℕ) (x : ℕ) (refusal : Refusal) → Reads book fresh (Err refusal) words' → x ≡ number_of refusal → Turned book rota x rota
  turned rota x refusal r e =
      record { refusal = refusal; due = sym (r.refuses ∙ ap (book_due book) (length-replicate {A = ℕ} words_room 0)); number = e; stays = refl }

  -- the book is good, and the call keeps its promise on the words that were read
  pub called : {A : Type 0} (number : A → ℕ) (promise : ℕ → List ℕ → List ℕ → List ℕ → Result A Refusal → List ℕ → List ℕ → Type 0) (rota : List ℕ) (sizes : Sizes) (a : Result A Refusal)
      (rota' work' : List ℕ) (x : ℕ) → Reads book fresh (Ok sizes) words' →
      promise sizes.n (take (2 * sizes.m) words') rota (replicate work_room 0) a rota' work' → x ≡ number_or number a → Called number promise book rota x rota'
  called number promise rota sizes a rota' work' x r k e =
      let l = read_is_list book fresh sizes.n sizes.m words' r in
      record {
        good = sym (r.refuses ∙ ap (book_due book) (length-replicate {A = ℕ} words_room 0));
        answer = a;
        work' = work';
        kept = rw (r.says.0, l.front) at k;
        numbered = e;
      }
