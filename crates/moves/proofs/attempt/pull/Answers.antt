-- `pull` meets its contract. The invariant: as that of `visit`, and the set stays consistent.
use Prim.Native.Nat.{ℕ, ◌<◌}
use mathlib.Core.Path.{sym, ap, subst, ◌∙◌}
use native.Mathlib.Omega.{arith}
use Rattle.std.specs.Prelude.{Option}
use Rattle.std.proofs.lemmas.Result.{err_from_is_err_and}
use Rattle.meaning.proofs.CodeLaws.{opposite_below}
use Rattle.moves.specs.Area.{link_of}
use Rattle.moves.specs.Layout.{head}
use Rattle.moves.proofs.Cursors.{left_of, link_code, link_led, link_next}
use Rattle.moves.proofs.Places.{tables, tables_apart}
use Rattle.moves.proofs.Visiting.{visit_start, visit_less}
use Rattle.moves.proofs.Pressing.{pull_turn, pull_done, pull_stop}
use Rattle.moves.proofs.attempt.pull.Goals as goal

pub first_link-at-requires : goal.first_link-at-requires
first_link-at-requires c = (omega (arith, c.opposite.ensures, opposite_below c.args.n c.args.a.0 c.requires.a_bound.0), tables c.requires.ready.sizes)

pub loop-at-init : goal.loop-at-init
loop-at-init c =
    record {
      visit = visit_start c.requires.ready c.requires.a_bound.1 c.requires.a_bound.0 (c.first_link-at.ensures ∙ ap (head c.args.n c.args.work.now) c.opposite.ensures);
      consistent = λ s. s;
    }

pub code_at-b-requires : goal.code_at-b-requires
code_at-b-requires c = let r = rw c.in-Some.is at c.loop-at.invariant in
    (link_code c.requires.ready.sizes r.visit.cur c.other_end.ensures).0

pub meet-requires : goal.meet-requires
meet-requires c = let r = rw c.in-Some.is at c.loop-at.invariant in
    (rw c.code_at-b.ensures (link_code c.requires.ready.sizes r.visit.cur c.other_end.ensures).1, tables_apart c.requires.ready.sizes r.visit.apart, r.visit.onto.listed)

pub returns-in_err-t : goal.returns-in_err-t
returns-in_err-t c = let p = err_from_is_err_and c.from_residual.result c.from_residual.ensures.1 in
    let r = rw c.in-Some.is at c.loop-at.invariant in
    rw (p.1, p.2) (pull_stop c.requires.ready.sizes r (omega arith) (link_led c.args.words.now _ c.code_at-b.ensures c.other_end.ensures) c.in_err-t.ensures)

pub next_link-at-requires : goal.next_link-at-requires
next_link-at-requires c = let r = rw c.in-Some.is at c.loop-at.invariant in
    omega (arith, c.requires.ready.sizes.room, c.requires.ready.sizes.even, c.meet.auto.work, r.visit.apart.long, (r.visit.cur.at (omega arith)).0)

pub loop-at-smaller : goal.loop-at-smaller
loop-at-smaller c = let r = rw c.in-Some.is at c.loop-at.invariant in
    subst (λ (y : Option ℕ). left_of (link_of c.next_link-at.result) < left_of (link_of y)) (sym c.in-Some.is)
    (visit_less c.requires.ready (omega arith) r.visit (omega arith) (link_led c.args.words.now _ c.code_at-b.ensures c.other_end.ensures) c.in_ok-t.ensures.0 (link_next c.args.n c.meet.new.work _ c.next_link-at.ensures))

pub loop-at-preserved : goal.loop-at-preserved
loop-at-preserved c = let r = rw c.in-Some.is at c.loop-at.invariant in
    pull_turn c.requires.ready r (omega arith) (rw c.code_at-b.ensures (link_code c.requires.ready.sizes r.visit.cur c.other_end.ensures).1) (link_led c.args.words.now _ c.code_at-b.ensures c.other_end.ensures) c.in_ok-t.ensures
    (link_next c.args.n c.meet.new.work _ c.next_link-at.ensures)

pub returns : goal.returns
returns c = pull_done c.requires.ready.sizes (rw c.in_default.is at c.loop-at.invariant) (omega arith)
