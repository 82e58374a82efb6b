-- `visit` meets its contract. The invariant: the ends of the list up to `at` lead to marked codes.
use Prim.Native.Nat.{ℕ, ◌<◌}
use mathlib.Core.Path.{sym, ap, subst, ◌∙◌}
use native.Mathlib.Omega.{arith}
use Rattle.std.specs.Prelude.{Option}
use Rattle.meaning.proofs.CodeLaws.{opposite_below}
use Rattle.moves.specs.Area.{link_of}
use Rattle.moves.specs.Layout.{head}
use Rattle.moves.proofs.Cursors.{left_of, link_code, link_led, link_next}
use Rattle.moves.proofs.Places.{tables, tables_apart}
use Rattle.moves.proofs.Visiting.{visit_start, visit_turn, visit_less, visit_done}
use Rattle.moves.proofs.spread.visit.Goals as goal

pub first_link-at-requires : goal.first_link-at-requires
first_link-at-requires c = (omega (arith, c.opposite.ensures, opposite_below c.args.n c.args.a.0 c.requires.a_bound.0), tables c.requires.ready.sizes)

pub loop-at-init : goal.loop-at-init
loop-at-init c = visit_start c.requires.ready c.requires.a_bound.2 c.requires.a_bound.0 (c.first_link-at.ensures ∙ ap (head c.args.n c.args.work.now) c.opposite.ensures)

pub code_at-b-requires : goal.code_at-b-requires
code_at-b-requires c = let r = rw c.in-Some.is at c.loop-at.invariant in
    (link_code c.requires.ready.sizes r.cur c.other_end.ensures).0

pub touch-t-requires : goal.touch-t-requires
touch-t-requires c = let r = rw c.in-Some.is at c.loop-at.invariant in
    (rw c.code_at-b.ensures (link_code c.requires.ready.sizes r.cur c.other_end.ensures).1, tables_apart c.requires.ready.sizes r.apart, r.onto.listed)

pub next_link-at-requires : goal.next_link-at-requires
next_link-at-requires c = let r = rw c.in-Some.is at c.loop-at.invariant in
    omega (arith, c.requires.ready.sizes.room, c.requires.ready.sizes.even, c.touch-t.auto.work, r.apart.long, (r.cur.at (omega arith)).0)

pub loop-at-smaller : goal.loop-at-smaller
loop-at-smaller c = let r = rw c.in-Some.is at c.loop-at.invariant in
    subst (λ (y : Option ℕ). left_of (link_of c.next_link-at.result) < left_of (link_of y)) (sym c.in-Some.is)
    (visit_less c.requires.ready c.requires.a_bound.1 r (omega arith) (link_led c.args.words.now _ c.code_at-b.ensures c.other_end.ensures) c.touch-t.ensures (link_next c.args.n c.touch-t.new.work _ c.next_link-at.ensures))

pub loop-at-preserved : goal.loop-at-preserved
loop-at-preserved c = let r = rw c.in-Some.is at c.loop-at.invariant in
    visit_turn c.requires.ready c.requires.a_bound.1 r (omega arith) (link_led c.args.words.now _ c.code_at-b.ensures c.other_end.ensures) c.touch-t.ensures (link_next c.args.n c.touch-t.new.work _ c.next_link-at.ensures)

pub returns : goal.returns
returns c = visit_done c.requires.ready.sizes (rw c.in_default.is at c.loop-at.invariant) (omega arith)
