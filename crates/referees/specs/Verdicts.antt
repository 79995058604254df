-- The answers of first and of weigh with their values, and how they and the sums of weigh are printed.
use Rattle.std.specs.Prelude.{ℕ, ◌+◌, Bool, cond, List, ◌++◌, codes, decimal, nat_le, nat_lt}
use Rattle.elements.specs.Entries.{entry_before}
use Rattle.elements.specs.declared.entry.Entry.{Entry}
use Rattle.referees.specs.declared.sums.Sums.{Sums}
use Rattle.referees.specs.declared.verdict.PairVerdict.{PairVerdict}
use Rattle.referees.specs.declared.verdict.PairVerdict.TheVariants.{Before, NotBefore}
use Rattle.referees.specs.declared.verdict.GroupVerdict.{GroupVerdict}
use Rattle.referees.specs.declared.verdict.GroupVerdict.TheVariants.{Lower, Higher, Done}

abbrev pub verdict_number : PairVerdict → ℕ
verdict_number Before = 1
verdict_number NotBefore = 0

abbrev pub pair_verdict_text : PairVerdict → List ℕ
pair_verdict_text v = decimal (verdict_number v)

abbrev pub group_verdict_text : GroupVerdict → List ℕ
group_verdict_text Lower = codes "lower"
group_verdict_text Higher = codes "higher"
group_verdict_text Done = codes "done"

-- the verdict of a test whether A's entry is before B's
abbrev pub verdict_if : Bool → PairVerdict
verdict_if before = cond before Before NotBefore

-- whether A's entry a is before B's entry b
abbrev pub first_of : {E : Type 0} → (E → E → Bool) → Entry E → Entry E → PairVerdict
first_of before a b = verdict_if (entry_before before a b)

-- lower if the sum below is k or more; else higher if the sum above and k together pass n; else done
abbrev pub weight_of : ℕ → ℕ → ℕ → ℕ → GroupVerdict
weight_of below above k n = cond (nat_le k below) Lower (cond (nat_lt n (above + k)) Higher Done)

abbrev pub weight_of_sums : Sums → GroupVerdict
weight_of_sums s = weight_of s.below s.above s.k s.n

-- as sum below 3, sum above 5, k 4, n 9
abbrev pub sums_text : Sums → List ℕ
sums_text s =
    codes "sum below " ++ (decimal s.below ++ (codes ", sum above " ++ (decimal s.above ++ (codes ", k " ++ (decimal s.k ++ (codes ", n " ++ decimal s.n))))))
