-- The numbers of the answers, and the promises for C, each on a small input. Areas hold 7 before a call.
use Rattle.std.specs.Prelude.{Ok, Err}
use mathlib.Core.Path.{◌≡◌, refl}
use mathlib.Core.Logic.{inl, inr}
use mathlib.Core.List.{[], ◌∷◌}
use native.Mathlib.Omega.{arith}
use lib.ListN.{replicate}
use Rattle.meaning.specs.declared.answers.Decided.{Decided}
use Rattle.meaning.specs.declared.answers.Listed.{Listed}
use Rattle.meaning.specs.declared.answers.Clashed.{Clashed}
use Rattle.meaning.specs.declared.answers.Moved.{Moved}
use Rattle.meaning.specs.declared.refusal.Refusal.TheVariants.{CodeTooHigh, BookEnds, ValueTooHigh}
use Rattle.meaning.specs.Refusals.{list_due, next_due}
use Rattle.meaning.specs.Sizes.{cleared, work_room}
use Rattle.table.specs.Table.{case_f, case_g, case_i, case_j, case_k}
use Rattle.table.proofs.Examples.{decide_k, force_j, tie_f, clash_g, move_i, lists_b}
use Rattle.table.proofs.Marked.{right_b}
use Rattle.book.specs.Checks.{book_due}
use Rattle.numbers.specs.Numbers.{number_or, values_or, decided_number, decided_values, listed_number, listed_values, clashed_number, clashed_values, moved_number, moved_values, read_number, read_values, host_decided, host_moved}
use Rattle.thwartpin.specs.Lists.{areas, TellsDecided, TellsForced, TellsClash, TellsMoved, TellsTies, TellsRead}
use Rattle.thwartpin.specs.Hosts.{HostDecides, HostMoves}
use Rattle.thwartpin.specs.Runs.{HostGives, ListGives}
use Rattle.thwartpin.proofs.EveryRota.{host_gives, list_gives}

-- the number and the values of an answer of each call, and of a refusal
pub numbers : (number_or decided_number (Ok (Decided.Impossible (record { 0 = 5 }))) ≡ 100)
    × (number_or listed_number (Ok Listed.Impossible) ≡ 100)
    × (number_or clashed_number (Ok (Clashed.Chains (record { 0 = 5 }) 2 3)) ≡ 100)
    × (number_or moved_number (Ok Moved.Ended) ≡ 101)
    × (number_or read_number (Err (BookEnds 9)) ≡ 7)
numbers = (refl, refl, refl, refl, refl)

pub values : (values_or decided_values (Ok (Decided.Impossible (record { 0 = 5 }))) ≡ 5 ∷ [])
    × (values_or listed_values (Err (CodeTooHigh 9)) ≡ 9 ∷ [])
    × (values_or clashed_values (Ok (Clashed.Chains (record { 0 = 5 }) 2 3)) ≡ 5 ∷ 2 ∷ 3 ∷ [])
    × (values_or moved_values (Err (ValueTooHigh 4)) ≡ 4 ∷ [])
    × (values_or read_values (Ok (record { n = 3; m = 4 })) ≡ 3 ∷ 4 ∷ [])
values = (refl, refl, refl, refl, refl)

-- host_decided and host_moved: 20 Impossible, 21 Ended, and a refusal's own number
pub host_numbers : (number_or host_decided (Ok (Decided.Impossible (record { 0 = 5 }))) ≡ 20)
    × (number_or host_moved (Ok Moved.Ended) ≡ 21)
    × (number_or host_moved (Ok Moved.Impossible) ≡ 20)
    × (number_or host_moved (Err (ValueTooHigh 4)) ≡ 11)
host_numbers = (refl, refl, refl, refl)

-- Told: a refusal's place, nothing, the choice and the lengths, nothing, nothing, in an `out` of three words
pub tell_k : TellsDecided 2 case_k.ws (7 ∷ 7 ∷ []) (replicate 38 7) (7 ∷ 7 ∷ 7 ∷ []) 4 (areas (7 ∷ 7 ∷ []) (replicate 38 7)) (1 ∷ 7 ∷ 7 ∷ [])
tell_k = inr (record { room = omega arith; answer = Err (CodeTooHigh 1); kept = decide_k; numbered = refl; given = refl })

pub tell_j : TellsForced 3 case_j.ws (7 ∷ 7 ∷ 7 ∷ 7 ∷ []) (replicate 58 7) (7 ∷ 7 ∷ 7 ∷ []) 0 (areas (2 ∷ 2 ∷ 1 ∷ 7 ∷ []) (replicate 58 0)) (7 ∷ 7 ∷ 7 ∷ [])
tell_j = inr (record { room = omega arith; answer = Ok Listed.Done; kept = force_j; numbered = refl; given = refl })

pub tell_g : TellsClash 2 case_g.ws (replicate 8 7) (replicate 56 7) (7 ∷ 7 ∷ 7 ∷ []) 100 (areas (2 ∷ 3 ∷ 0 ∷ 1 ∷ replicate 4 7) (replicate 56 0)) (0 ∷ 2 ∷ 2 ∷ [])
tell_g = inr (record { room = omega arith; answer = Ok (Clashed.Chains (record { 0 = 0 }) 2 2); kept = clash_g; numbered = refl; given = refl })

pub tell_i : TellsMoved 3 case_i.ws (0 ∷ 1 ∷ 0 ∷ 7 ∷ []) (replicate 52 7) (7 ∷ 7 ∷ 7 ∷ []) 0 (areas (0 ∷ 1 ∷ 1 ∷ 7 ∷ []) (replicate 52 0)) (7 ∷ 7 ∷ 7 ∷ [])
tell_i = inr (record { room = omega arith; answer = Ok Moved.Moved; kept = move_i; numbered = refl; given = refl })

pub tell_f : TellsTies 2 case_f.ws (7 ∷ 7 ∷ 7 ∷ []) (replicate 44 7) (7 ∷ 7 ∷ 7 ∷ []) 0 (areas (0 ∷ 0 ∷ 7 ∷ []) (replicate 44 0)) (7 ∷ 7 ∷ 7 ∷ [])
tell_f = inr (record { room = omega arith; answer = Ok Listed.Done; kept = tie_f; numbered = refl; given = refl })

-- TellsRead: one choice, one rule and a word to spare; and Untold, in an `out` of two words
pub tell_book : TellsRead (1 ∷ 1 ∷ 0 ∷ 1 ∷ []) (7 ∷ 7 ∷ 7 ∷ []) (7 ∷ 7 ∷ 7 ∷ []) 0 (0 ∷ 1 ∷ 7 ∷ []) (1 ∷ 1 ∷ 7 ∷ [])
unfolding book_due
tell_book = inr (record { room = omega arith; answer = Ok (record { n = 1; m = 1 }); kept = record { refuses = refl; says = (refl, refl, refl) }; numbered = refl; given = refl })

pub tell_short : TellsRead [] [] (7 ∷ 7 ∷ []) 200 [] (7 ∷ 7 ∷ [])
tell_short = inl (record { short = omega arith; number = refl; stays = refl; out_stays = refl })

-- Turned: the empty book. Called: the book of case B, whose rota 0 is decided, and 1 is next
pub host_empty : HostDecides [] (7 ∷ []) 7 (7 ∷ [])
unfolding book_due
host_empty = inl (record { refusal = BookEnds 0; due = refl; number = refl; stays = refl })

pub host_decide : HostDecides (1 ∷ 0 ∷ []) (7 ∷ 7 ∷ []) 0 (0 ∷ 7 ∷ [])
unfolding book_due list_due
host_decide =
    inr (record {
      good = refl;
      answer = Ok Decided.Possible;
      work' = cleared 1 [] (replicate work_room 0);
      kept = record { refuses = refl; after = record { items = 0 ∷ []; right = right_b.1.0; written = refl; zeros = refl } };
      numbered = refl;
    })

pub host_next : HostMoves (1 ∷ 0 ∷ []) (0 ∷ 7 ∷ []) 0 (1 ∷ 7 ∷ [])
unfolding book_due next_due
host_next =
    inr (record {
      good = refl;
      answer = Ok Moved.Moved;
      work' = cleared 1 [] (replicate work_room 0);
      kept = record { refuses = refl; after = record { items = 1 ∷ []; right = right_b.1.1.0; written = refl; zeros = refl } };
      numbered = refl;
    })

-- GivesEveryRota, GoesThrough, Handed, HostGives: the book of case B gives the rotas 0 and 1 of `lists_b`. ListGives, ListDecides, ListMoves: and so does its list
pub host_gives_b : HostGives (1 ∷ 0 ∷ [])
unfolding book_due
host_gives_b = host_gives (1 ∷ 0 ∷ []) refl lists_b

pub list_gives_b : ListGives 1 []
list_gives_b = list_gives 1 [] lists_b
