use Rattle.std.proofs.Common.{◌≡◌, List, ◌++◌, length, take, drop}
use Rattle.sheets.specs.Layouts.{packed}
use Rattle.sheets.proofs.body.Body.fill.Given as goal

-- the slice has the first elements of whatever list the bytes are, and is as it was after them
abbrev pub invariant-loop-i : goal.invariant-loop-i
invariant-loop-i g l =
    (length l.list ≡ length l.fn.list)
    × ((xs : List g.row.T.Denot) → packed g.T.SheetElement.format xs ≡ l.self.bytes.now → l.list ≡ take l.i xs ++ drop l.i l.fn.list)
