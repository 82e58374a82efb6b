-- Each definition of specs/ that the marked table does not compute, tried on a small input. Areas hold 7 before a call, so that what stays is seen.
use mathlib.Core.Path.{◌≡◌, refl, sym}
use mathlib.Core.List.{List, [], ◌∷◌, ◌++◌}
use Prim.Native.Nat.{ℕ, ◌+◌, ◌*◌}
use native.Mathlib.Omega.{arith}
use native.Mathlib.Decide.{dec_lt}
use lib.ListN.{replicate}
use Rattle.std.specs.Prelude.{Result, Ok, Err}
use Rattle.meaning.specs.declared.refusal.Refusal.{Refusal}
use Rattle.meaning.specs.declared.refusal.Refusal.TheVariants.{CodeTooHigh, WorkTooShort, ValueTooHigh}
use Rattle.meaning.specs.declared.answers.Decided.{Decided}
use Rattle.meaning.specs.declared.answers.Listed.{Listed}
use Rattle.meaning.specs.declared.answers.Clashed.{Clashed}
use Rattle.meaning.specs.declared.answers.Moved.{Moved}
use Rattle.meaning.specs.Accepted.{Accepted, AcceptedNext}
use Rattle.meaning.specs.Answers.{DecideMeans, ForcedMeans, ClashMeans, NextMeans, TiesMean}
use Rattle.meaning.specs.Codes.{code_of, last_choice}
use Rattle.meaning.specs.Outcomes.{Same, Outcome}
use Rattle.meaning.specs.Promises.{Decides, Forces, TiesUp, Clashes, Moves}
use Rattle.meaning.specs.Refusals.{Due, refused, as_due, due_of, first_over, Given, list_checks, list_due, next_due}
use Rattle.meaning.specs.Rotas.{Possible}
use Rattle.meaning.specs.Rules.{InRange, left, right, rules, other_end}
use Rattle.meaning.specs.Runs.{Run, EveryRota, Acceptable, ListsEveryRota}
use Rattle.meaning.specs.Sizes.{max_choices, max_rules, words_room, work_room, rota_needs, chains_need, ties_need, work_needs, over, cleared}
use Rattle.table.specs.Table.{case_d, case_f, case_g, case_i, case_j, case_k}
use Rattle.meaning.proofs.EveryRotaListed.{decide_first, goes_through}
use Rattle.meaning.proofs.Accepting.{accepted_due, next_accepted_due}
use Rattle.meaning.proofs.EveryRotaOnce.{every_rota_once}
use Rattle.table.proofs.Marked.{right_a, right_b, right_d, right_f, right_g, right_i, right_j}
use Rattle.meaning.proofs.Meaning.{decide_means, forced_means, clash_means, next_means, ties_mean}
use Rattle.meaning.proofs.Once.{decides_once}
use Rattle.meaning.proofs.RefusalLaws.{not_refused, due_given}
use Rattle.meaning.proofs.Tests.{shown, and?, below?}

-- code_of: choice 1 late and early. last_choice: its early code is the last that fits 16 bits
pub code_of_lem : (code_of 1 1 ≡ 2) × (code_of 1 0 ≡ 3) × (code_of last_choice 0 ≡ 65535)
code_of_lem = (refl, refl, refl)

-- InRange: the codes of case J are below 6, and those of case K not below 4
pub in_range : InRange 3 case_j.ws
unfolding dec_lt
in_range = shown (below? (rules case_j.ws) (λ k. and? (dec_lt (left case_j.ws k) 6) (dec_lt (right case_j.ws k) 6))) tt

pub out_of_range : InRange 2 case_k.ws → ⊥
out_of_range h = omega (arith, (h 0 (omega arith)).1)

-- rota_needs, chains_need, ties_need, work_needs: of three choices and three rules
pub needs : (rota_needs 3 ≡ 3) × (chains_need 3 ≡ 12) × (ties_need 3 ≡ 3) × (work_needs 3 case_j.ws ≡ 58)
needs = (refl, refl, refl, refl)

-- words_room and work_room: the largest list fits, with nothing left
pub rooms : (words_room ≡ 2 * max_rules) × (work_room ≡ 8 * max_choices + 6 * max_rules + 16)
rooms = (refl, refl)

-- over: two items in front of what stays. cleared: sixteen zeros for no choices and no rules, and the seventeenth word stays
pub over_stays : over (1 ∷ 2 ∷ []) (7 ∷ 7 ∷ 7 ∷ []) ≡ 1 ∷ 2 ∷ 7 ∷ []
over_stays = refl

pub cleared_stays : cleared 0 [] (replicate 17 7) ≡ replicate 16 0 ++ 7 ∷ []
cleared_stays = refl

-- as_due, number_of, place_of
pub as_due_lem : (as_due (WorkTooShort 0) ≡ refused 5 0) × (as_due (ValueTooHigh 9) ≡ refused 11 9)
as_due_lem = (refl, refl)

-- due_of: what an answer refuses, and nothing where it is one
pub due_of_lem : (due_of {A = Listed} (Err (WorkTooShort 0)) ≡ refused 5 0) × (due_of (Ok Listed.Done) ≡ Due.none)
due_of_lem = (refl, refl)

-- list_due: 1, 2, 3, 6, 5, 4, each on an input for which all that come later are due too, and none where nothing is
pub list_order : (list_due 257 (replicate 4099 999) 0 1 0 ≡ refused 1 0)
    × (list_due 1 (replicate 4099 999) 0 1 0 ≡ refused 2 0)
    × (list_due 1 (replicate 4098 999) 0 1 0 ≡ refused 3 0)
    × (list_due 1 (0 ∷ 2 ∷ []) 0 1 0 ≡ refused 6 0)
    × (list_due 1 (0 ∷ 2 ∷ []) 1 1 29 ≡ refused 5 0)
    × (list_due 1 (0 ∷ 2 ∷ []) 1 1 30 ≡ refused 4 1)
    × (list_due 1 (0 ∷ 1 ∷ []) 1 1 30 ≡ Due.none)
unfolding list_due
list_order = (refl, refl, refl, refl, refl, refl, refl)

-- next_due: 4 before 11, then 11 at the first byte over 1, and none where only a byte past n is
pub next_order : (next_due 2 (0 ∷ 4 ∷ []) (0 ∷ 2 ∷ []) 38 ≡ refused 4 1)
    × (next_due 2 (0 ∷ 3 ∷ []) (0 ∷ 2 ∷ []) 38 ≡ refused 11 1)
    × (next_due 2 (0 ∷ 3 ∷ []) (0 ∷ 1 ∷ 2 ∷ []) 38 ≡ Due.none)
unfolding next_due
next_order = (refl, refl, refl)

-- Decides: Possible on case B with a byte and a word to spare, Impossible on case D, and a refusal on case K
pub decide_b : Decides 1 [] (7 ∷ 7 ∷ []) (replicate 25 7) (Ok Decided.Possible) (0 ∷ 7 ∷ []) (replicate 24 0 ++ 7 ∷ [])
unfolding list_due
decide_b = record { refuses = refl; after = record { items = 0 ∷ []; right = right_b.1.0; written = refl; zeros = refl } }

pub decide_d : Decides 1 case_d.ws (7 ∷ []) (replicate 36 7) (Ok (Decided.Impossible (record { 0 = 0 }))) (7 ∷ []) (replicate 36 0)
unfolding list_due
decide_d = record { refuses = refl; after = record { items = []; right = (right_d.1, refl); written = refl; zeros = refl } }

pub decide_k : Decides 2 case_k.ws (7 ∷ 7 ∷ []) (replicate 38 7) (Err (CodeTooHigh 1)) (7 ∷ 7 ∷ []) (replicate 38 7)
unfolding list_due
decide_k = record { refuses = refl; after = record { area_stays = refl; work_stays = refl } }

-- Given, NoneApplies: 4 at 1 is given of case K, and none of the checks before it applies
pub given_k : Given (list_checks 2 case_k.ws 2 2 38) 4 1
given_k = due_given (list_checks 2 case_k.ws 2 2 38) 4 1 refl

-- Outcome, Same: the outcome above on case B is one, and the only
pub outcome_b : Outcome Decided (Decides 1 [] (7 ∷ 7 ∷ []) (replicate 25 7))
outcome_b = (Ok Decided.Possible, 0 ∷ 7 ∷ [], replicate 24 0 ++ 7 ∷ [], decide_b)

pub same_b : (a : Result Decided Refusal) (area' work' : List ℕ) → Decides 1 [] (7 ∷ 7 ∷ []) (replicate 25 7) a area' work' →
    Same a area' work' (Ok Decided.Possible) (0 ∷ 7 ∷ []) (replicate 24 0 ++ 7 ∷ [])
same_b a area' work' k = decides_once 1 [] (7 ∷ 7 ∷ []) (replicate 25 7) a (Ok Decided.Possible) area' work' (0 ∷ 7 ∷ []) (replicate 24 0 ++ 7 ∷ []) k decide_b

-- Forces: case J
pub force_j : Forces 3 case_j.ws (7 ∷ 7 ∷ 7 ∷ 7 ∷ []) (replicate 58 7) (Ok Listed.Done) (2 ∷ 2 ∷ 1 ∷ 7 ∷ []) (replicate 58 0)
unfolding list_due
force_j =
    record {
      refuses = refl;
      after = record {
        items = 2 ∷ 2 ∷ 1 ∷ [];
        right = (
          (0 ∷ 1 ∷ 1 ∷ [], right_j.1.0.allowed),
          right_j.3,
        );
        written = refl;
        zeros = refl;
      };
    }

-- TiesUp: case F
pub tie_f : TiesUp 2 case_f.ws (7 ∷ 7 ∷ 7 ∷ []) (replicate 44 7) (Ok Listed.Done) (0 ∷ 0 ∷ 7 ∷ []) (replicate 44 0)
unfolding list_due
tie_f =
    record {
      refuses = refl;
      after = record {
        items = 0 ∷ 0 ∷ [];
        right = ((0 ∷ 0 ∷ [], right_f.1.0.allowed), right_f.4);
        written = refl;
        zeros = refl;
      };
    }

-- Clashes: case G
pub clash_g : Clashes 2 case_g.ws (replicate 8 7) (replicate 56 7) (Ok (Clashed.Chains (record { 0 = 0 }) 2 2)) (2 ∷ 3 ∷ 0 ∷ 1 ∷ replicate 4 7) (replicate 56 0)
unfolding list_due
clash_g =
    record {
      refuses = refl;
      after = record {
        items = 2 ∷ 3 ∷ 0 ∷ 1 ∷ [];
        right = record {
          lowest = right_g.1;
          there = 2 ∷ 3 ∷ [];
          back = 0 ∷ 1 ∷ [];
          late_early = right_g.2;
          early_late = right_g.3;
          there_length = refl;
          back_length = refl;
          words = refl;
        };
        written = refl;
        zeros = refl;
      };
    }

-- Moves: Moved after 010 in case I, Ended in case A, Impossible on case D
pub move_i : Moves 3 case_i.ws (0 ∷ 1 ∷ 0 ∷ 7 ∷ []) (replicate 52 7) (Ok Moved.Moved) (0 ∷ 1 ∷ 1 ∷ 7 ∷ []) (replicate 52 0)
unfolding next_due
move_i = record { refuses = refl; after = record { items = 0 ∷ 1 ∷ 1 ∷ []; right = right_i.5.0; written = refl; zeros = refl } }

pub move_a : Moves 0 [] (7 ∷ []) (replicate 16 7) (Ok Moved.Ended) (7 ∷ []) (replicate 16 0)
unfolding next_due
move_a = record { refuses = refl; after = record { items = []; right = (([], right_a.1.0.allowed), right_a.1.1, refl); written = refl; zeros = refl } }

pub move_d : Moves 1 case_d.ws (0 ∷ []) (replicate 36 7) (Ok Moved.Impossible) (0 ∷ []) (replicate 36 0)
unfolding next_due
move_d = record { refuses = refl; after = record { items = []; right = (right_d.4, refl); written = refl; zeros = refl } }

-- Accepted: case J into three bytes; case K is not. AcceptedNext: case I from 010; not from 020
pub accepted_j : Accepted 3 case_j.ws 3 3 58
unfolding list_due
accepted_j = (accepted_due 3 case_j.ws 3 3 58).1 refl

pub not_accepted_k : Accepted 2 case_k.ws 2 2 38 → ⊥
unfolding list_due
not_accepted_k a = not_refused 4 1 (sym ((accepted_due 2 case_k.ws 2 2 38).0 a))

pub accepted_i : AcceptedNext 3 case_i.ws (0 ∷ 1 ∷ 0 ∷ []) 52
unfolding next_due
accepted_i = (next_accepted_due 3 case_i.ws (0 ∷ 1 ∷ 0 ∷ []) 52).1 refl

pub not_accepted_i : AcceptedNext 3 case_i.ws (0 ∷ 2 ∷ 0 ∷ []) 52 → ⊥
not_accepted_i a = omega (arith, a.values 1 (omega arith))

-- DecideMeans, ForcedMeans, ClashMeans, NextMeans, TiesMean: of the answers above
pub means_d : DecideMeans 1 case_d.ws (Ok (Decided.Impossible (record { 0 = 0 }))) (7 ∷ [])
unfolding list_due
means_d = decide_means 1 case_d.ws (7 ∷ []) (replicate 36 7) _ (7 ∷ []) (replicate 36 0) decide_d ((accepted_due 1 case_d.ws 1 1 36).1 refl)

pub means_j : ForcedMeans 3 case_j.ws (Ok Listed.Done) (2 ∷ 2 ∷ 1 ∷ 7 ∷ [])
unfolding list_due
means_j = forced_means 3 case_j.ws (7 ∷ 7 ∷ 7 ∷ 7 ∷ []) (replicate 58 7) _ (2 ∷ 2 ∷ 1 ∷ 7 ∷ []) (replicate 58 0) force_j ((accepted_due 3 case_j.ws 4 3 58).1 refl)

pub means_g : ClashMeans 2 case_g.ws (Ok (Clashed.Chains (record { 0 = 0 }) 2 2)) (2 ∷ 3 ∷ 0 ∷ 1 ∷ replicate 4 7)
unfolding list_due
means_g = clash_means 2 case_g.ws (replicate 8 7) (replicate 56 7) _ (2 ∷ 3 ∷ 0 ∷ 1 ∷ replicate 4 7) (replicate 56 0) clash_g ((accepted_due 2 case_g.ws 8 8 56).1 refl)

pub means_i : NextMeans 3 case_i.ws (0 ∷ 1 ∷ 0 ∷ 7 ∷ []) (Ok Moved.Moved) (0 ∷ 1 ∷ 1 ∷ 7 ∷ [])
unfolding next_due
means_i = next_means 3 case_i.ws (0 ∷ 1 ∷ 0 ∷ 7 ∷ []) (replicate 52 7) _ (0 ∷ 1 ∷ 1 ∷ 7 ∷ []) (replicate 52 0) move_i ((next_accepted_due 3 case_i.ws (0 ∷ 1 ∷ 0 ∷ 7 ∷ []) 52).1 refl)

pub mean_f : TiesMean 2 case_f.ws (Ok Listed.Done) (0 ∷ 0 ∷ 7 ∷ [])
unfolding list_due
mean_f = ties_mean 2 case_f.ws (7 ∷ 7 ∷ 7 ∷ []) (replicate 44 7) _ (0 ∷ 0 ∷ 7 ∷ []) (replicate 44 0) tie_f ((accepted_due 2 case_f.ws 3 2 44).1 refl)

-- other_end: of an even and of an odd place
pub other_end_lem : (other_end 2 ≡ 3) × (other_end 3 ≡ 2)
unfolding other_end
other_end_lem = (refl, refl)

-- Run: Decide and two calls of Next on case B. EveryRota: they list 0 and 1
pub run_b : Run 1 [] (0 ∷ []) ((1 ∷ []) ∷ [])
unfolding list_due next_due
run_b =
    record {
      area = 7 ∷ [];
      work = replicate 24 7;
      area' = 0 ∷ [];
      work' = replicate 24 0;
      decided = record { refuses = refl; after = record { items = 0 ∷ []; right = right_b.1.0; written = refl; zeros = refl } };
      first = refl;
      goes_on = (
        replicate 24 0,
        1 ∷ [],
        replicate 24 0,
        record { refuses = refl; after = record { items = 1 ∷ []; right = right_b.1.1.0; written = refl; zeros = refl } },
        refl,
        (
          replicate 24 0,
          1 ∷ [],
          replicate 24 0,
          record { refuses = refl; after = record { items = []; right = ((0 ∷ [], right_b.1.0.allowed), right_b.1.1.1, refl); written = refl; zeros = refl } },
        ),
      );
    }

pub every_b : EveryRota 1 [] ((0 ∷ []) ∷ (1 ∷ []) ∷ [])
every_b = every_rota_once 1 [] (0 ∷ []) ((1 ∷ []) ∷ []) run_b

-- Acceptable: no refusal applies to case B, and one to case K, whose codes are too high
pub acceptable_b : Acceptable 1 []
unfolding list_due
acceptable_b = refl

pub acceptable_k : Acceptable 2 case_k.ws → ⊥
unfolding list_due
acceptable_k e = not_refused 4 (first_over 4 case_k.ws) (sym e)

-- ListsEveryRota, GoesThrough, Handed: on case B calls that keep their promises list 0 and 1, and then end
pub lists_b : ListsEveryRota 1 [] (Moves 1 []) (Decides 1 [])
lists_b =
    let possible : Possible 1 [] = (0 ∷ [], right_b.1.0.allowed) in
    record {
      first = 0 ∷ [];
      others = (1 ∷ []) ∷ [];
      every = every_b;
      at_most = omega arith;
      starts = decide_first 1 [] acceptable_b possible (Moves 1 []) (λ area work a area' work' k. k) (Decides 1 []) (λ area work a area' work' k. k) (0 ∷ []) right_b.1.0;
      goes_on = goes_through 1 [] acceptable_b possible (Moves 1 []) (λ area work a area' work' k. k) (0 ∷ []) ((1 ∷ []) ∷ []) right_b.1.0.allowed.rota right_b.1.1;
    }
