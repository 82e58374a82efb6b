-- What each way through `number_below` shows, of a reader r.
use Rattle.std.specs.Prelude.{Ok, Err}
use mathlib.Core.Path.{◌≡◌, refl, ◌∙◌}
use Prim.Native.Nat.{ℕ, ◌≤◌, ◌<◌}
use borrow.Author.Tests.{le-leb, lt-leb}
use Rattle.meaning.specs.declared.refusal.Refusal.{Refusal}
use Rattle.meaning.specs.Refusals.{number_of, place_of}
use Rattle.meaning.proofs.RefusalLaws.{due_ahead}
use Rattle.book.specs.declared.number.Reader.{Reader}
use Rattle.book.specs.Number.{number_checks}
use Rattle.book.specs.Inner.{left, place, NumberAt, NumberBelow}
use Rattle.book.proofs.Refusing.{behind}

module _ (r : Reader) (limit : ℕ) where
  -- a number whose form is refused is refused so
  pub form_refused : (number : ℕ) (e : Refusal) (r' : Reader) → NumberAt r (Err e) r' → NumberBelow limit number r (Err e) r
  form_refused number e r' said = (due_ahead (number_checks (place r) (left r)) _ (number_of e) (place_of e) said.0, refl)

  module _ (value : ℕ) (r' : Reader) (said : NumberAt r (Ok value) r') where
    -- one that reaches the limit is refused by `over`
    pub at_limit : (over : Refusal) → place_of over ≡ place r → limit ≤ value → NumberBelow limit (number_of over) r (Err over) r
    at_limit over p h = (behind (number_checks (place r) (left r)) _ said.0 ∙ rw (← said.1.0, le-leb limit value h, p), refl)

    -- any other is good
    pub below_limit : (number : ℕ) → value < limit → NumberBelow limit number r (Ok value) r'
    below_limit number h = (behind (number_checks (place r) (left r)) _ said.0 ∙ rw (← said.1.0, lt-leb limit value h), said.1)
