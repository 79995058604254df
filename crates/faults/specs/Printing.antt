-- How a fault is printed, byte by byte: refused, number, layer, seat or -, spot or -.
use Rattle.std.specs.Prelude.{ℕ, List, ◌++◌, Some, None, codes, decimal, Option}
use Rattle.faults.specs.declared.seat.Seat.{Seat as Whose}
use Rattle.faults.specs.declared.seat.Seat.TheVariants.{A, B, Numbered}
use Rattle.faults.specs.declared.fault_info.Layer.{Layer}
use Rattle.faults.specs.declared.fault_info.Layer.TheVariants.{Sheet, Seat, Run}
use Rattle.faults.specs.declared.fault_info.FaultInfo.{FaultInfo}
use Rattle.faults.specs.declared.fault_info.Notice.{Notice}
use Rattle.faults.specs.FaultInfos.{notice_of}

abbrev pub layer_text : Layer → List ℕ
layer_text Sheet = codes "sheet"
layer_text Seat = codes "seat"
layer_text Run = codes "run"

abbrev pub seat_text : Whose → List ℕ
seat_text A = codes "A"
seat_text B = codes "B"
seat_text (Numbered n) = decimal n

-- what there is, or a dash
abbrev pub or_dash : {X : Type 0} → (X → List ℕ) → Option X → List ℕ
or_dash text None = codes "-"
or_dash text (Some x) = text x

-- the same of a text that may not be known
abbrev pub text_or_dash : {X : Type 0} → (X → Option (List ℕ)) → Option X → Option (List ℕ)
text_or_dash printed None = Some (codes "-")
text_or_dash printed (Some x) = printed x

abbrev pub notice_line : Notice → List ℕ
notice_line n =
    codes "refused " ++ (decimal n.number ++ (codes " " ++ (layer_text n.layer ++ (codes " " ++ (or_dash seat_text n.seat ++ (codes " " ++ or_dash decimal n.spot))))))

abbrev pub fault_line : FaultInfo → List ℕ
fault_line info = notice_line (notice_of info)
