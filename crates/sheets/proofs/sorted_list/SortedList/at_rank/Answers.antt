use Rattle.std.proofs.Common.{sym, arith}
use Rattle.std.proofs.lemmas.List.{get_or_read}
use Rattle.elements.specs.Orders.{IsOrder}
use Rattle.elements.proofs.RankFacts.{ranked_at}
use Rattle.sheets.proofs.sorted_list.SortedList.at_rank.Goals as goal

pub returns-clause-element : goal.returns-clause-element
returns-clause-element g c =
    let o : IsOrder g.T.Ordered.before = g.met.T.Ordered.law in
    let list = c.args.self.now in
    ranked_at o c.args.rank list.list.now list.in_order c.requires.first c.requires.last c.element_at.result
    (λ d. sym (get_or_read list.list.now _ c.element_at.result (omega arith) c.element_at.ensures d))
