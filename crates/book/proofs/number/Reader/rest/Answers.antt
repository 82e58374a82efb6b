-- `rest` meets its contract: a part that is lent on from a place is what is left there.
use mathlib.Core.Path.{refl}
use native.Mathlib.Omega.{arith}
use lib.ListN.{length-drop}
use Rattle.meaning.proofs.General.{lent_on}
use Rattle.book.proofs.number.Reader.rest.Goals as goal

pub returns : goal.returns
returns c =
    let book = c.args.self.now.book.now in
    let at = c.args.self.now.at in
    rw (lent_on book at) (refl, omega arith, (omega arith, omega (arith, c.requires, length-drop at book)))
