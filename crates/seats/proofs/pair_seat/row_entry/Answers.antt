use Rattle.std.proofs.Common.{ℕ, ◌-◌, ◌≤◌, get_or, sym, ap, ◌∙◌, arith}
use Rattle.elements.specs.declared.entry.Entry.TheVariants.{Element}
use Rattle.pair.specs.Rows.{row, entry_at}
use Rattle.pair.specs.Bisection.{place_asked}
use Rattle.pair.specs.HalvedWindow.{offset_of}
use Rattle.seats.proofs.RowEntries.{element_there, above_there}
use Rattle.seats.proofs.pair_seat.row_entry.Goals as goal

-- a place asked is counted from 1
asked_from_1 : (offset size : ℕ) → 1 ≤ place_asked offset size
asked_from_1 offset size = omega arith

pub returns-in-Element : goal.returns-in-Element
returns-in-Element g c =
    let window = c.args.window in
    let side = c.args.side in
    let xs = c.args.list.now in
    let place = c.place_asked-place.result in
    let is = c.place_asked-place.ensures in
    let one : 1 ≤ place = omega (arith, is, asked_from_1 (offset_of side window) window.size) in
    let there = element_there side window.rank xs place one (sym c.kind_at.ensures ∙ c.in-Element.is) c.index-list-place.result in
    let index = ap (λ (b : ℕ). get_or xs (place - b - 1) c.index-list-place.result) c.belows.ensures in
    ap Element (c.index-list-place.is ∙ index) ∙ sym there ∙ ap (entry_at (row side window.rank xs)) is

pub returns-in-Above : goal.returns-in-Above
returns-in-Above g c =
    let window = c.args.window in
    let side = c.args.side in
    let xs = c.args.list.now in
    let place = c.place_asked-place.result in
    let is = c.place_asked-place.ensures in
    let one : 1 ≤ place = omega (arith, is, asked_from_1 (offset_of side window) window.size) in
    sym (above_there side window.rank xs place one (sym c.kind_at.ensures ∙ c.in-Above.is)) ∙ ap (entry_at (row side window.rank xs)) is
