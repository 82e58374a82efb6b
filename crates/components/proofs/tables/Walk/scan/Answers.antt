-- `scan` meets its contract. The invariant: the ends passed lead to codes that were met, and low is the lowest rank.
use Prim.Native.Nat.{ℕ, ◌-◌, ◌*◌, ◌<◌, min}
use mathlib.Core.Path.{◌≡◌, refl, sym, ap, ◌∙◌}
use mathlib.Core.Logic.{inl, inr, ⊎_elim}
use native.Mathlib.Omega.{arith}
use lib.ListN.{get_or}
use Rattle.meaning.specs.Rules.{other_end}
use Rattle.components.proofs.Looking.{scan_turn, scan_hit, least_of_two}
use Rattle.moves.proofs.Cursors.{other_code}
use Rattle.moves.specs.Layout.{next}
use Rattle.components.proofs.tables.Walk.scan.Goals as goal

pub led_to-z-requires : goal.led_to-z-requires
led_to-z-requires c = let more : 0 < c.loop-end.e = omega (arith, c.in-Some.ensures) in
    let end : c.in-Some.end ≡ c.loop-end.e - 1 = omega (arith, c.in-Some.ensures) in
    (other_code c.requires.linked.sizes c.loop-end.invariant.cur more (ap other_end end) refl).0

pub rank_of-r-requires : goal.rank_of-r-requires
rank_of-r-requires c = let more : 0 < c.loop-end.e = omega (arith, c.in-Some.ensures) in
    let end : c.in-Some.end ≡ c.loop-end.e - 1 = omega (arith, c.in-Some.ensures) in
    let code : c.led_to-z.result.0 < 2 * c.args.self.now.n = (other_code c.requires.linked.sizes c.loop-end.invariant.cur more (ap other_end end) c.led_to-z.ensures).1 in
    code

pub returns-then-r-eq0 : goal.returns-then-r-eq0
returns-then-r-eq0 c = let more : 0 < c.loop-end.e = omega (arith, c.in-Some.ensures) in
    let end : c.in-Some.end ≡ c.loop-end.e - 1 = omega (arith, c.in-Some.ensures) in
    let led : c.led_to-z.result.0 ≡ get_or c.args.self.now.words.now (other_end (c.loop-end.e - 1)) 0 = c.led_to-z.ensures ∙ ap (λ (x : ℕ). get_or c.args.self.now.words.now (other_end x) 0) end in
    (scan_hit c.requires.linked.sizes c.requires.linked.nexts c.loop-end.invariant more led (c.end_after-e.ensures ∙ ap (next c.args.self.now.n c.args.self.now.tables.now) end) (sym c.rank_of-r.ensures ∙ c.if-r-eq0.true))

pub loop-end-preserved : goal.loop-end-preserved
loop-end-preserved c = let more : 0 < c.loop-end.e = omega (arith, c.in-Some.ensures) in
    let end : c.in-Some.end ≡ c.loop-end.e - 1 = omega (arith, c.in-Some.ensures) in
    let led : c.led_to-z.result.0 ≡ get_or c.args.self.now.words.now (other_end (c.loop-end.e - 1)) 0 = c.led_to-z.ensures ∙ ap (λ (x : ℕ). get_or c.args.self.now.words.now (other_end x) 0) end in
    let least = least_of_two c.loop-end.low c.rank_of-r.result c.loop-end.invariant.pos (omega (arith, c.if-r-eq0.false)) in
    let low : c.min-low.result ≡ min c.loop-end.low c.rank_of-r.result = c.min-low.ensures in
    rw low
    (scan_turn c.requires.linked.sizes c.requires.linked.nexts c.loop-end.invariant more led (c.end_after-e.ensures ∙ ap (next c.args.self.now.n c.args.self.now.tables.now) end)
    least.0 least.1 (⊎_elim (λ u. inl u) (λ u. inr (u ∙ c.rank_of-r.ensures)) least.2) (omega (arith, least.3, c.rank_of-r.ensures)))
