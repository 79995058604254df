use Rattle.std.proofs.Common.{rules, ◌≡◌, length}
use Rattle.rankunit.specs.Elements.Limits.{longest_list}
use Rattle.sheetcheck.proofs.answer.check_whole.Goals as goal

pub returns : goal.returns
returns c =
    let delays_room : length c.deref_mut.result.now ≡ longest_list = search rules in
    let levels_room : length c.deref_mut-2.result.now ≡ longest_list = search rules in
    record {
      delays = _;
      delays_after = _;
      levels = _;
      levels_after = _;
      delays_room = delays_room;
      levels_room = levels_room;
      checks = c.check_sheet.ensures.checks;
      accepts = c.check_sheet.ensures.accepts;
    }
