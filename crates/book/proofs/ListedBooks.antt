-- The listed books are read as they should be: each case computes.
use mathlib.Core.Path.{refl}
use Rattle.book.specs.Checks.{book_due}
use Rattle.book.specs.Listed.{books, EveryBook}

-- a case, and the others
infixr 20 ◌and◌
◌and◌ : {A B : Type 0} → A → B → A × B
◌and◌ a b = (a, b)

-- each answer is as the promise says: refused by number and place, or given with its words
pub listed : EveryBook books
unfolding book_due ◌and◌
listed =
    record { refuses = refl; says = (refl, refl, refl) }
    and record { refuses = refl; says = refl }
    and record { refuses = refl; says = refl }
    and record { refuses = refl; says = refl }
    and record { refuses = refl; says = refl }
    and record { refuses = refl; says = refl }
    and record { refuses = refl; says = refl }
    and record { refuses = refl; says = refl }
    and record { refuses = refl; says = refl }
    and record { refuses = refl; says = refl }
    and record { refuses = refl; says = (refl, refl, refl) }
    and tt
