-- The number of each refusal, and the spot of those that have one.
use Rattle.std.specs.Prelude.{ℕ, Some, None, Option}
use Rattle.faults.specs.declared.refusal.Refusal.{Refusal}
use Rattle.faults.specs.declared.refusal.Refusal.TheVariants.{SheetTooShort, VersionUnknown, CountDiffers, KindNotWanted, BodyNotAList, OutOfOrder, SliceTooShort, SeatsOutOfBounds, ListTooLong, RangeNotPlaces, RankOutOfBounds, OutsideRange, NotItsTurn, Impossible, ReportMissing, StockEmpty}

abbrev pub number_of : Refusal → ℕ
number_of SheetTooShort = 1
number_of VersionUnknown = 2
number_of CountDiffers = 3
number_of KindNotWanted = 4
number_of BodyNotAList = 5
number_of (OutOfOrder spot) = 6
number_of SliceTooShort = 7
number_of SeatsOutOfBounds = 8
number_of ListTooLong = 9
number_of RangeNotPlaces = 10
number_of RankOutOfBounds = 11
number_of (OutsideRange spot) = 12
number_of NotItsTurn = 13
number_of Impossible = 14
number_of ReportMissing = 15
number_of StockEmpty = 16

abbrev pub spot_of : Refusal → Option ℕ
spot_of SheetTooShort = None
spot_of VersionUnknown = None
spot_of CountDiffers = None
spot_of KindNotWanted = None
spot_of BodyNotAList = None
spot_of (OutOfOrder spot) = Some spot
spot_of SliceTooShort = None
spot_of SeatsOutOfBounds = None
spot_of ListTooLong = None
spot_of RangeNotPlaces = None
spot_of RankOutOfBounds = None
spot_of (OutsideRange spot) = Some spot
spot_of NotItsTurn = None
spot_of Impossible = None
spot_of ReportMissing = None
spot_of StockEmpty = None
