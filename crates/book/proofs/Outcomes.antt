-- The reader's promise: two outcomes that it allows coincide, and one exists.
use Rattle.std.specs.Prelude.{Result, Ok, Err}
use mathlib.Core.Path.{◌≡◌, refl, sym, ap, ap₂, ◌∙◌}
use mathlib.Core.Bool.{true, false}
use mathlib.Core.Logic.{◌⊎◌, inl, inr, ⊎_elim}
use mathlib.Core.List.{List, [], ◌∷◌, ◌++◌}
use Prim.Native.Nat.{ℕ, zero, suc, ◌+◌, ◌*◌}
use lib.ListN.{length}
use Rattle.meaning.specs.declared.refusal.Refusal.{Refusal}
use Rattle.meaning.specs.Sizes.{over}
use Rattle.meaning.specs.Refusals.{number_of, place_of, Due, none, as_due, Check, check, first_of}
use Rattle.meaning.proofs.RefusalLaws.{not_refused, named, AllNamed, named_same, due_named}
use Rattle.book.specs.declared.answer.Sizes.{Sizes}
use Rattle.book.specs.Number.{may_follow, goes_on, form_checks, number_checks, number_size, after_number}
use Rattle.book.specs.Checks.{choices_in, rules_in, code_bytes, codes_place, codes_in, limit_checks, codes_checks, choices_checks, rules_checks, book_checks, book_due}
use Rattle.book.specs.Promise.{Gives, Reads}
use Rattle.book.proofs.NumberLaws.{either}

-- the answer that gives n and m
abbrev given : (n m : ℕ) → Result Sizes Refusal
given n m = Ok (record { n = n; m = m })

module _ (due : Due) (n m : ℕ) (ws words : List ℕ) where
  -- an answer with n and m, and one that refuses
  clash : (x : Sizes) (r : Refusal) (w v : List ℕ) → Gives due n m ws words (Ok x) w → Gives due n m ws words (Err r) v → ⊥
  clash x r w v p q = not_refused (number_of r) (place_of r) (p.refuses ∙ sym q.refuses)

  -- the answer and the words are determined by what is due, n, m and ws
  gives_once : (r s : Result Sizes Refusal) (w v : List ℕ) → Gives due n m ws words r w → Gives due n m ws words s v → (r ≡ s) × (w ≡ v)
  gives_once (Ok x) (Ok y) w v p q = (ap₂ given (p.says.0 ∙ sym q.says.0) (p.says.1 ∙ sym q.says.1), p.says.2 ∙ sym q.says.2)
  gives_once (Ok x) (Err s) w v p q = absurd (clash x s w v p q)
  gives_once (Err r) (Ok y) w v p q = absurd (clash y r v w q p)
  gives_once (Err r) (Err s) w v p q =
      let e : as_due r ≡ as_due s = p.refuses ∙ sym q.refuses in
      (ap (λ (x : Refusal). Err x) (due_named r (number_of s) (place_of s) e ∙ named_same s), p.says ∙ sym q.says)

-- two outcomes of reading one book into one area are the same: the answer, and each word afterwards
pub reads_once : (bs words : List ℕ) (r s : Result Sizes Refusal) (w v : List ℕ) → Reads bs words r w → Reads bs words s v → (r ≡ s) × (w ≡ v)
reads_once bs words = gives_once (book_due bs (length words)) (choices_in bs) (rules_in bs) (codes_in bs) words

-- the checks of two lists are those of refusals
named_append : (cs ds : List Check) → AllNamed cs → AllNamed ds → AllNamed (cs ++ ds)
named_append [] ds p q = q
named_append (check applies number place ∷ cs) ds p q = (p.0, named_append cs ds p.1 q)

-- nothing is due, or a refusal is
due_or_none : (cs : List Check) → AllNamed cs → (first_of cs ≡ none) ⊎ ((r : Refusal) × (first_of cs ≡ as_due r))
due_or_none [] p = inl refl
due_or_none (check true number place ∷ cs) p = inr (named number place, sym p.0)
due_or_none (check false number place ∷ cs) p = due_or_none cs p.1

-- of a number's form, of the codes, and of the whole book
form_named : (k least at : ℕ) (bs : List ℕ) → AllNamed (form_checks k least at bs)
form_named k least at [] = (refl, tt)
form_named zero least at (b ∷ bs) = (refl, (refl, tt))
form_named (suc k) least at (b ∷ bs) = either AllNamed (goes_on b) _ _ (form_named k 1 (at + 1) bs) (refl, tt)

-- of the codes
codes_named : (k limit at : ℕ) (bs : List ℕ) → AllNamed (codes_checks k limit at bs)
codes_named zero limit at bs = (refl, tt)
codes_named (suc k) limit at bs =
    named_append (limit_checks limit 4 at bs) _ (named_append (number_checks at bs) _ (form_named may_follow 0 at bs) (refl, tt))
    (codes_named k limit (at + number_size bs) (after_number bs))

-- of the whole book
book_named : (bs : List ℕ) (room : ℕ) → AllNamed (book_checks bs room)
book_named bs room =
    named_append (choices_checks bs) _ (named_append (number_checks 0 bs) _ (form_named may_follow 0 0 bs) (refl, tt))
    (named_append (rules_checks bs) _
    (named_append (number_checks (number_size bs) (after_number bs)) _ (form_named may_follow 0 (number_size bs) (after_number bs)) (refl, tt))
    (refl, codes_named (2 * rules_in bs) (2 * choices_in bs) (codes_place bs) (code_bytes bs)))

-- whatever the book and the area are, there is an outcome
pub reads_exists : (bs words : List ℕ) → (r : Result Sizes Refusal) × (w : List ℕ) × Reads bs words r w
unfolding book_due
reads_exists bs words =
    ⊎_elim (λ e. (given (choices_in bs) (rules_in bs), over (codes_in bs) words, record { refuses = sym e; says = (refl, refl, refl) }))
    (λ p. (Err p.0, words, record { refuses = sym p.1; says = refl })) (due_or_none (book_checks bs (length words)) (book_named bs (length words)))
