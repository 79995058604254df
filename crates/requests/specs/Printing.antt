-- How what a request came to is printed, byte for byte.
use Rattle.std.specs.Prelude.{ℕ, zero, suc, List, [], ◌∷◌, ◌++◌, take, codes, decimal}
use Rattle.elements.specs.Printing.{delay_text}
use Rattle.referees.specs.Verdicts.{pair_verdict_text}
use Rattle.referees.specs.declared.verdict.PairVerdict.{PairVerdict}
use Rattle.requests.specs.declared.outcome.RequestOutcome.{RequestOutcome}

-- verdicts as digits, in a row
abbrev pub digits : List PairVerdict → List ℕ
digits [] = []
digits (verdict ∷ later) = pair_verdict_text verdict ++ digits later

-- a dash where the count is 0
abbrev pub dash_of : (count : ℕ) → List ℕ
dash_of zero = codes "-"
dash_of (suc n) = []

-- as verdicts 01, result 40 and count 2, in three lines
abbrev pub outcome_lines : RequestOutcome → List ℕ
outcome_lines outcome =
    codes "verdicts " ++ (dash_of outcome.finished.count ++ (digits (take outcome.finished.count outcome.noted.now)
    ++ (codes "\nresult " ++ (delay_text outcome.finished.result ++ (codes "\ncount " ++ decimal outcome.finished.count)))))
