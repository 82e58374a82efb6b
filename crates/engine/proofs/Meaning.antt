-- What an answer of the engine means: the statements of meaning/specs/Answers, of the engine's own calls.
-- A call is here all that the function's own contract tells its caller, and nothing more.
use mathlib.Core.Path.{◌≡◌}
use Prim.Native.Nat.{ℕ}
use borrow.Fn.World.{ArgsD}
use contract.Lifetimes.{Lfts}
use denote.Triple.Clauses.{AtExit}
use lib.ListN.{length}
use Rattle.std.specs.Prelude.{Result, Ok}
use Rattle.meaning.specs.declared.codes.Choice.{Choice}
use Rattle.meaning.specs.declared.answers.Decided.{Decided}
use Rattle.meaning.specs.declared.answers.Listed.{Listed}
use Rattle.meaning.specs.declared.answers.Clashed.{Clashed}
use Rattle.meaning.specs.declared.answers.Moved.{Moved}
use Rattle.meaning.specs.declared.refusal.Refusal.{Refusal}
use Rattle.meaning.specs.Accepted.{Accepted, AcceptedNext}
use Rattle.meaning.specs.Answers.{DecideMeans, ForcedMeans, ClashMeans, NextMeans, TiesMean}
use Rattle.meaning.specs.Promises.{Clashes}
use Rattle.meaning.specs.Sizes.{rota_needs, chains_need, ties_need}
use Rattle.meaning.proofs.Meaning.{decide_means, forced_means, clash_means, next_means, ties_mean, same_choice_named}
use Rattle.engine.specs.contracts.decide as decide
use Rattle.engine.proofs.decide.Reads as decide_reads
use Rattle.engine.specs.contracts.forced as forced
use Rattle.engine.proofs.forced.Reads as forced_reads
use Rattle.engine.specs.contracts.clash as clash
use Rattle.engine.proofs.clash.Reads as clash_reads
use Rattle.engine.specs.contracts.next as next
use Rattle.engine.proofs.next.Reads as next_reads
use Rattle.engine.specs.contracts.ties as ties
use Rattle.engine.proofs.ties.Reads as ties_reads

-- `decide`
pub decide_answer : (κs : Lfts 3) (args : ArgsD decide.signature κs) (r : Result Decided Refusal) (exits : AtExit decide.ended κs) →
    decide_reads.Learnt κs args r exits → Accepted args.0 args.1.0.now (length args.1.1.0.now) (rota_needs args.0) (length args.1.1.1.0.now) →
    DecideMeans args.0 args.1.0.now r exits.1.1.0.now
decide_answer κs args r exits told ok = decide_means args.0 args.1.0.now args.1.1.0.now args.1.1.1.0.now r exits.1.1.0.now exits.1.1.1.0.now told ok

-- `forced`
pub forced_answer : (κs : Lfts 3) (args : ArgsD forced.signature κs) (r : Result Listed Refusal) (exits : AtExit forced.ended κs) →
    forced_reads.Learnt κs args r exits → Accepted args.0 args.1.0.now (length args.1.1.0.now) (rota_needs args.0) (length args.1.1.1.0.now) →
    ForcedMeans args.0 args.1.0.now r exits.1.1.0.now
forced_answer κs args r exits told ok = forced_means args.0 args.1.0.now args.1.1.0.now args.1.1.1.0.now r exits.1.1.0.now exits.1.1.1.0.now told ok

-- `clash`
pub clash_answer : (κs : Lfts 3) (args : ArgsD clash.signature κs) (r : Result Clashed Refusal) (exits : AtExit clash.ended κs) →
    clash_reads.Learnt κs args r exits → Accepted args.0 args.1.0.now (length args.1.1.0.now) (chains_need args.0) (length args.1.1.1.0.now) →
    ClashMeans args.0 args.1.0.now r exits.1.1.0.now
clash_answer κs args r exits told ok = clash_means args.0 args.1.0.now args.1.1.0.now args.1.1.1.0.now r exits.1.1.0.now exits.1.1.1.0.now told ok

-- `next`
pub next_answer : (κs : Lfts 3) (args : ArgsD next.signature κs) (r : Result Moved Refusal) (exits : AtExit next.ended κs) →
    next_reads.Learnt κs args r exits → AcceptedNext args.0 args.1.0.now args.1.1.0.now (length args.1.1.1.0.now) →
    NextMeans args.0 args.1.0.now args.1.1.0.now r exits.1.1.0.now
next_answer κs args r exits told ok = next_means args.0 args.1.0.now args.1.1.0.now args.1.1.1.0.now r exits.1.1.0.now exits.1.1.1.0.now told ok

-- `ties`
pub ties_answer : (κs : Lfts 3) (args : ArgsD ties.signature κs) (r : Result Listed Refusal) (exits : AtExit ties.ended κs) →
    ties_reads.Learnt κs args r exits → Accepted args.0 args.1.0.now (length args.1.1.0.now) (ties_need args.0) (length args.1.1.1.0.now) →
    TiesMean args.0 args.1.0.now r exits.1.1.0.now
ties_answer κs args r exits told ok = ties_mean args.0 args.1.0.now args.1.1.0.now args.1.1.1.0.now r exits.1.1.0.now exits.1.1.1.0.now told ok

-- `decide` and `clash` name the same choice of a list, whatever areas they are lent
pub one_choice : (κs : Lfts 3) (args : ArgsD decide.signature κs) (u : Choice) (exits : AtExit decide.ended κs) → decide_reads.Learnt κs args (Ok (Decided.Impossible u)) exits →
    (κs' : Lfts 3) (args' : ArgsD clash.signature κs') (v : Choice) (i j : ℕ) (exits' : AtExit clash.ended κs') → clash_reads.Learnt κs' args' (Ok (Clashed.Chains v i j)) exits' →
    args'.0 ≡ args.0 → args'.1.0.now ≡ args.1.0.now → u ≡ v
one_choice κs args u exits told κs' args' v i j exits' told' same_count same_words =
    let c : Clashes args'.0 args'.1.0.now args'.1.1.0.now args'.1.1.1.0.now (Ok (Clashed.Chains v i j)) exits'.1.1.0.now exits'.1.1.1.0.now = told' in
    same_choice_named args.0 args.1.0.now args.1.1.0.now args.1.1.1.0.now exits.1.1.0.now exits.1.1.1.0.now args'.1.1.0.now args'.1.1.1.0.now exits'.1.1.0.now exits'.1.1.1.0.now u v i j
    told (rw (same_count, same_words) at c)
