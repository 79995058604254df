-- Exchanges: seats that report whatever they like, as long as each report is accepted, and the verdicts on it.
use Rattle.std.specs.Prelude.{ℕ, suc, ◌+◌, ◌^◌, Bool, List, [], ◌∷◌}
use Rattle.elements.specs.Entries.{lesser_entry}
use Rattle.elements.specs.declared.entry.Entry.{Entry}
use Rattle.referees.specs.Verdicts.{first_of}
use Rattle.referees.specs.declared.verdict.PairVerdict.{PairVerdict}
use Rattle.pair.specs.PairReports.{Report, KeepsRules}
use Rattle.pair.specs.Rows.{halvings}
use Rattle.pair.specs.Bisection.{OfSides, moved}
use Rattle.pair.specs.declared.side.Side.{Side}
use Rattle.pair.specs.declared.side.Side.TheVariants.{A, B}

-- an entry of each side, at these places
abbrev pub reports_at : {E : Type 0} → OfSides → (Side → Entry E) → Side → Report E
reports_at places entries side = record { place = places side; entry = entries side }

-- the reports with those of a round
abbrev pub with_round : {E : Type 0} → (Side → List (Report E)) → OfSides → (Side → Entry E) → Side → List (Report E)
with_round earlier places entries side = reports_at places entries side ∷ earlier side

module _ {E : Type 0} (before : E → E → Bool) (k : ℕ) (declared : OfSides) where
  -- both entries at these places keep the rules, after the earlier reports of their sides
  abbrev pub Accepted : (Side → List (Report E)) → OfSides → (Side → Entry E) → Type 0
  Accepted earlier places entries = (side : Side) → KeepsRules before side k (declared side) (earlier side) (reports_at places entries side)

  -- accepted reports and their verdicts, the newest first, lead to windows with these offsets and size 2 ^ j
  pub data Exchange : OfSides → ℕ → (Side → List (Report E)) → List PairVerdict → Type 0 where
    opened : Exchange (λ side. 0) (halvings k) (λ side. []) []
    compared : {offsets : OfSides} {j : ℕ} {reports : Side → List (Report E)} {verdicts : List PairVerdict} (entries : Side → Entry E) →
        Exchange offsets (suc j) reports verdicts → Accepted reports (λ side. offsets side + 2 ^ j) entries →
        Exchange (λ side. moved side (first_of before (entries A) (entries B)) (2 ^ j) (offsets side)) j
        (with_round reports (λ side. offsets side + 2 ^ j) entries) (first_of before (entries A) (entries B) ∷ verdicts)

  -- a finished one: at size 1 both seats report once more, and the result is the lesser entry
  pub data FinishedExchange : (Side → List (Report E)) → List PairVerdict → Entry E → Type 0 where
    finished : {offsets : OfSides} {reports : Side → List (Report E)} {verdicts : List PairVerdict} (entries : Side → Entry E) →
        Exchange offsets 0 reports verdicts → Accepted reports (λ side. offsets side + 1) entries →
        FinishedExchange (with_round reports (λ side. offsets side + 1) entries) verdicts (lesser_entry before (entries A) (entries B))
